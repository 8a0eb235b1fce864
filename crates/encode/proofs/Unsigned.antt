-- Two's complement: the bits of a number from its sign, by one law for every width (BSON 1.1, "Basic Types").
use Prim.Native.Nat.{ℕ, ◌+◌, ◌^◌}
use mathlib.Core.Path.{◌≡◌, refl}
use lib.IntN.{ℤ, pos, negsuc}
use mir.Syntax.{Width}
use mir.Val.{of_z, bits}
use Rattle.bson.specs.Grammar.{unsigned}

pub bits_unsigned : (w : Width) (half : ℕ) → 2 ^ bits w ≡ half + half → (z : ℤ) → of_z w z ≡ unsigned half z
unfolding unsigned
bits_unsigned w half e (pos n) = refl
bits_unsigned w half e (negsuc n) = rw e refl
