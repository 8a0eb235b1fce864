-- Basic types: a signed number as the code reads it from its bits is the number, and a boolean's byte is 1 or 0 (BSON 1.1, "Basic Types").
use mathlib.Core.Path.{◌≡◌, refl, ap, ◌∙◌}
use mathlib.Core.Bool.{Bool, true, false, cond}
use lib.IntN.{ℤ}
use mir.Syntax.{Width}
use mir.Val.{SFits, to_z, of_z, bool_byte}
use mir.ValLaws.{to_z-of_z}

-- what is promised of the number read is promised of the number
pub passed : (w : Width) (z : ℤ) → SFits w z → {A : Type 0} (of : ℤ → A) {r : A} → r ≡ of (to_z w (of_z w z)) → r ≡ of z
passed w z f of e = e ∙ ap of (to_z-of_z w z f)

pub boolean_byte : (b : Bool) → bool_byte b ≡ cond b 1 0
boolean_byte true = refl
boolean_byte false = refl
