-- `appending::put_runs` goes round: what is left to be put.
use mathlib.Core.Path.{◌≡◌}
use lib.ListN.{drop}
use Rattle.bson.specs.Output.{put_texts}
use Rattle.output.specs.Puts.{held}
use Rattle.appending.specs.Element.{texts_of}
use Rattle.appending.proofs.put_runs.Given as goal

abbrev pub invariant-loop-text : goal.invariant-loop-text
invariant-loop-text l =
    (put_texts (held l.output) (texts_of (drop l.text-index l.runs)) ≡ put_texts (held l.initial.output) (texts_of l.runs))
    × (l.output.buffer.ghost_name ≡ l.initial.output.buffer.ghost_name)
