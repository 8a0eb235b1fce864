-- `utf8::is_utf8` goes round: what is in front of the rest is ASCII.
use lib.ListN.{length}
use Rattle.utf8.specs.Ascii.{Behind}
use Rattle.utf8.proofs.is_utf8.Given as goal

abbrev pub invariant-loop-block : goal.invariant-loop-block
invariant-loop-block l = Behind l.s l.rest

abbrev pub decreases-loop-block : goal.decreases-loop-block
decreases-loop-block l = length l.rest
