-- A text that begins another of its length is that text.
use Prim.Native.Nat.{ℕ}
use mathlib.Core.Path.{◌≡◌, refl, ap}
use mathlib.Core.List.{List, [], ◌∷◌}
use mathlib.Core.Bool.{◌&&◌}
use native.Mathlib.Omega.{arith}
use lib.ListN.{length, take}
use lib.Dec.{eqb}
use lib.Pointwise.{pointwise}
use Rattle.bson.specs.Bytes.{same}

pub same_prefix : (a b : List ℕ) → length a ≡ length b → pointwise eqb a (take (length a) b) ≡ same a b
same_prefix [] [] h = refl
same_prefix [] (y ∷ b) h = absurd (omega arith)
same_prefix (x ∷ a) [] h = absurd (omega arith)
same_prefix (x ∷ a) (y ∷ b) h = ap (λ r. eqb x y && r) (same_prefix a b (omega arith))
