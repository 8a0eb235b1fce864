-- What may be left of a row of RFC 3629, and when two such are the same; a byte below 128 is a character (RULES.md, module 1).
use Prim.Native.Nat.{ℕ, ◌<◌}
use mathlib.Core.Path.{◌≡◌, refl}
use mathlib.Core.List.{List, [], ◌∷◌}
use mathlib.Core.Bool.{Bool, true, false, ◌&&◌}
use native.Mathlib.Omega.{arith}
use borrow.Author.Tests.{le-leb}
use lib.Dec.{T, eqb, eqb→eq}
use Rattle.bson.specs.Utf8.{Range, ◌to◌, tail, rows, ranges, next}
use Rattle.laws.proofs.Common.{both_left, both_right}

pub next_ascii : (b : ℕ) → b < 128 → next (ranges []) b ≡ ranges []
unfolding rows
next_ascii b h = rw (le-leb 0 b (omega arith), le-leb b 127 (omega arith))

-- behind no byte, behind one, two or three of a row; a tail of its own range comes behind E0, ED, F0 and F4
abbrev pub leftovers : List (List Range)
leftovers =
    []
    ∷ (tail ∷ [])
    ∷ (tail ∷ tail ∷ [])
    ∷ (tail ∷ tail ∷ tail ∷ [])
    ∷ ((0xA0 to 0xBF) ∷ tail ∷ [])
    ∷ ((0x80 to 0x9F) ∷ tail ∷ [])
    ∷ ((0x90 to 0xBF) ∷ tail ∷ tail ∷ [])
    ∷ ((0x80 to 0x8F) ∷ tail ∷ tail ∷ [])
    ∷ []

-- tests of equality, of ranges and of lists
abbrev same_range : Range → Range → Bool
same_range (a to z) (b to y) = eqb a b && eqb z y

same_range_eq : (x y : Range) → T (same_range x y) → x ≡ y
same_range_eq (a to z) (b to y) t =
    rw (eqb→eq a b (both_left (eqb a b) (eqb z y) t), eqb→eq z y (both_right (eqb a b) (eqb z y) t))

abbrev pub same_list : {A : Type 0} → (A → A → Bool) → List A → List A → Bool
same_list same [] [] = true
same_list same [] (y ∷ ys) = false
same_list same (x ∷ xs) [] = false
same_list same (x ∷ xs) (y ∷ ys) = same x y && same_list same xs ys

pub same_list_eq : {A : Type 0} (same : A → A → Bool) → ((x y : A) → T (same x y) → x ≡ y) → (xs ys : List A) → T (same_list same xs ys)
    → xs ≡ ys
same_list_eq same h [] [] t = refl
same_list_eq same h [] (y ∷ ys) t = absurd t
same_list_eq same h (x ∷ xs) [] t = absurd t
same_list_eq same h (x ∷ xs) (y ∷ ys) t =
    rw (h x y (both_left (same x y) (same_list same xs ys) t), same_list_eq same h xs ys (both_right (same x y) (same_list same xs ys) t))

abbrev pub same_ranges : List Range → List Range → Bool
same_ranges = same_list same_range

pub same_ranges_eq : (xs ys : List Range) → T (same_ranges xs ys) → xs ≡ ys
same_ranges_eq = same_list_eq same_range same_range_eq
