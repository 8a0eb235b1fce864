-- `report::put_elements` goes round: the lines from each offset on the present buffer are all on the first.
use Prim.Native.Nat.{◌-◌}
use mathlib.Core.Path.{◌≡◌}
use lib.ListN.{length}
use Rattle.output.specs.Puts.{held}
use Rattle.report.proofs.Along.{lines_from}
use Rattle.report.proofs.put_elements.Given as goal

abbrev pub invariant-loop-element : goal.invariant-loop-element
invariant-loop-element l = (lines_from (held l.output) l.s l.offset ≡ lines_from (held l.initial.output) l.s 4)
    × (l.output.buffer.ghost_name ≡ l.initial.output.buffer.ghost_name)

abbrev pub decreases-loop-element : goal.decreases-loop-element
decreases-loop-element l = length l.s - l.offset
