-- `lossy::put` goes round: at every turn the rest put behind what is put is the whole text put.
use Prim.Native.Nat.{◌≤◌}
use mathlib.Core.Path.{◌≡◌}
use lib.ListN.{length}
use Rattle.bson.specs.Lossy.{lossy}
use Rattle.bson.specs.Output.{put_text}
use Rattle.output.specs.Puts.{held}
use Rattle.lossy.proofs.ShownLaws.{Putting}
use Rattle.lossy.proofs.put.Given as goal

abbrev pub invariant-loop-rest : goal.invariant-loop-rest
invariant-loop-rest l = (length l.rest ≤ length l.text) × Putting (held l.output) l.rest (put_text (held l.initial.output) (lossy l.text))
    × (l.output.buffer.ghost_name ≡ l.initial.output.buffer.ghost_name)

abbrev pub decreases-loop-rest : goal.decreases-loop-rest
decreases-loop-rest l = length l.rest
