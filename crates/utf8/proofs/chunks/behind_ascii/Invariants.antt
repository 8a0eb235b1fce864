-- `utf8::chunks::behind_ascii` goes round: what is in front of the rest is ASCII.
use lib.ListN.{length}
use Rattle.utf8.specs.Ascii.{Behind}
use Rattle.utf8.proofs.chunks.behind_ascii.Given as goal

abbrev pub invariant-loop-block : goal.invariant-loop-block
invariant-loop-block l = Behind l.v l.rest

abbrev pub decreases-loop-block : goal.decreases-loop-block
decreases-loop-block l = length l.rest
