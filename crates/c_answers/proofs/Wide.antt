-- A number of 32 bits is one of 64 (BSON 1.1, "Basic Types").
use Prim.Native.Nat.{ℕ}
use mathlib.Core.Path.{◌≡◌}
use native.Mathlib.Omega.{arith}
use lib.IntN.{ℤ}
use mir.Syntax.{w32, w64}
use mir.Val.{SFits, to_z, of_z}
use mir.ValLaws.{to_z-of_z}
use Rattle.encode.proofs.Basic.{passed}
use Rattle.c_answers.specs.Numbers.{signed_bits}

module _ (z : ℤ) (f : SFits w32 z) where
  pub wide_fits : SFits w64 (to_z w32 (of_z w32 z))
  wide_fits = rw (to_z-of_z w32 z f) (record { sfits = omega (arith, f.sfits) })

  pub wide_bits : (r : ℕ) → r ≡ signed_bits (to_z w64 (of_z w64 (to_z w32 (of_z w32 z)))) → r ≡ signed_bits z
  wide_bits r e = passed w32 z f signed_bits (passed w64 (to_z w32 (of_z w32 z)) wide_fits signed_bits e)
