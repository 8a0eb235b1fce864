-- `array_key::is_good` calls itself on a shorter key.
use lib.ListN.{length}
use Rattle.array_key.proofs.+is_good.Given as goal

abbrev pub decreases-is_good : goal.decreases-is_good
decreases-is_good l = length l.key.now
