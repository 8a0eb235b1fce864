-- `read_input` ends, since each turn leaves less to fill.
use Rattle.std.proofs.Common.{◌≡◌, ◌-◌, ◌≤◌, length}
use Rattle.bson_check.proofs.read_input.Given as goal

abbrev pub invariant-loop-size : goal.invariant-loop-size
invariant-loop-size g l = (length l.space ≡ length l.initial.space) × (l.size ≤ length l.space)

abbrev pub decreases-loop-size : goal.decreases-loop-size
decreases-loop-size g l = length l.space - l.size
