-- Two's complement: bits read as a signed number, by one law for every width (BSON 1.1, "Basic Types").
use Prim.Native.Nat.{ℕ, ◌+◌, ◌^◌}
use mathlib.Core.Path.{◌≡◌, refl}
use mir.Syntax.{Width}
use mir.Val.{to_z, bits, hbits}
use Rattle.bson.specs.Bytes.{signed}

pub cast_signed_law : (w : Width) (half n : ℕ) → half ≡ 2 ^ hbits w → half + half ≡ 2 ^ bits w → to_z w n ≡ signed half n
unfolding signed
cast_signed_law w half n e f = rw (f, e) refl
