-- `writer_state::stand` goes round: each turn tests one open document and leaves those around it.
use mathlib.Core.Path.{◌≡◌}
use Rattle.bson.specs.Writer.{used, stand}
use Rattle.writer_state.proofs.stand.Given as goal

abbrev pub invariant-loop-i : goal.invariant-loop-i
invariant-loop-i l = stand l.words l.i l.end ≡ stand l.words l.depth (used l.words)
