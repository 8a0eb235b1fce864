-- `decimal::put_digits` goes round: what is left to write on the present buffer is the whole on the first.
use Prim.Native.Nat.{suc, ◌+◌, ◌^◌, ◌<◌}
use mathlib.Core.Path.{◌≡◌}
use Rattle.bson.specs.Decimal.{digits}
use Rattle.bson.specs.Output.{put}
use Rattle.decimal.proofs.put_digits.Given as goal

abbrev pub invariant-loop-zeros : goal.invariant-loop-zeros
invariant-loop-zeros l = (l.place + suc l.zeros ≡ l.at + l.k) × (l.zeros < 20) × (l.rest < 10 ^ suc l.zeros)
    × (put l.out l.place (digits (suc l.zeros) l.rest) ≡ put l.initial.out l.at (digits l.k l.n))

abbrev pub decreases-loop-zeros : goal.decreases-loop-zeros
decreases-loop-zeros l = l.zeros
