-- `utf8::by_eights` goes round: what is in front of the rest is ASCII.
use lib.ListN.{length}
use Rattle.utf8.specs.Ascii.{Behind}
use Rattle.utf8.proofs.by_eights.Given as goal

abbrev pub invariant-loop-block : goal.invariant-loop-block
invariant-loop-block l = Behind l.s l.left

abbrev pub decreases-loop-block : goal.decreases-loop-block
decreases-loop-block l = length l.left
