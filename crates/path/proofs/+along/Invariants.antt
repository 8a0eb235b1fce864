-- `path::along` calls itself on the rest of the path, which is shorter by a key and its zero.
use lib.ListN.{length}
use Rattle.path.proofs.+along.Given as goal

abbrev pub decreases-along : goal.decreases-along
decreases-along l = length l.path.now
