-- What `replay` holds between two blocks fits the buffer.
use Rattle.std.proofs.Common.{◌≤◌, length}
use Rattle.vectors.proofs.replay.Given as goal

abbrev pub invariant-loop : goal.invariant-loop
invariant-loop g l = l.held ≤ length l.space
