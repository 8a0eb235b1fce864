-- `lossy::fits` goes round: at every turn the rest fits what is left of the room exactly where the text fits the room.
use Prim.Native.Nat.{◌≤◌}
use mathlib.Core.Path.{◌≡◌}
use lib.Dec.{leb}
use lib.ListN.{length}
use Rattle.bson.specs.Lossy.{lossy}
use Rattle.lossy.proofs.fits.Given as goal

abbrev pub invariant-loop-rest : goal.invariant-loop-rest
invariant-loop-rest l = (length l.rest ≤ length l.text) × (leb (length (lossy l.rest)) l.left ≡ leb (length (lossy l.text)) l.room)

abbrev pub decreases-loop-rest : goal.decreases-loop-rest
decreases-loop-rest l = length l.rest
