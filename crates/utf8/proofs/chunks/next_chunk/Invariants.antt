-- `utf8::chunks::next_chunk` goes round: the bytes before `valid` are whole characters.
use Prim.Native.Nat.{◌-◌}
use lib.ListN.{length}
use Rattle.utf8.specs.Chunks.{Front}
use Rattle.utf8.proofs.chunks.next_chunk.Given as goal

abbrev pub invariant-loop-valid : goal.invariant-loop-valid
invariant-loop-valid l = Front l.v l.valid

abbrev pub decreases-loop-valid : goal.decreases-loop-valid
decreases-loop-valid l = length l.v - l.valid
