-- The key of a position, last byte first (RULES.md, "The whole check": "exactly the decimal form of its position").
use Prim.Native.Nat.{ℕ, zero, suc, ◌+◌, ◌-◌, ◌/◌, ◌%◌, ◌≤◌, ◌<◌}
use mathlib.Core.Path.{◌≡◌, refl, sym, ap, ◌∙◌}
use mathlib.Core.List.{List, [], ◌∷◌, ◌++◌}
use mathlib.Core.Bool.{false, ◌&&◌, and_comm}
use native.Mathlib.Omega.{arith}
use lib.ListN.{length, get_or, take}
use lib.Dec.{eqb}
use borrow.Author.Tests.{eq-eqb, ne_eqb}
use Rattle.bson.specs.ArrayKey.{good_array_key}
use Rattle.bson.specs.Bytes.{same}
use Rattle.bson.specs.Decimal.{decimal}
use Rattle.laws.proofs.BytesLaws.{same_length, same_last}
use Rattle.laws.proofs.DecimalLaws.{width_positive, length_decimal, decimal_digit, decimal_last}

good_same : (position : ℕ) (key : List ℕ) → good_array_key position key ≡ same key (decimal position)
unfolding good_array_key
good_same position key = refl

-- a key of no byte is of no position
pub none_bad : (key : List ℕ) (position : ℕ) → length key ≡ 0 → false ≡ good_array_key position key
unfolding good_array_key
none_bad key position e =
    sym (same_length key (decimal position) (λ l. absurd (omega (arith, length_decimal position, width_positive position))))

front_empty : (key : List ℕ) (last : ℕ) → length key ≡ suc last → same (take last key) [] ≡ eqb last 0
front_empty key zero e = refl
front_empty [] (suc last) e = absurd (omega arith)
front_empty (a ∷ key) (suc last) e = sym (ne_eqb (suc last) 0 (λ z. absurd (omega arith)))

module _ (key : List ℕ) (position : ℕ) (some : 0 < length key) where
  abbrev last : ℕ
  last = length key - 1

  apart : (front : List ℕ) (b : ℕ) → decimal position ≡ front ++ (b ∷ [])
      → eqb (get_or key last 0) b && same (take last key) front ≡ good_array_key position key
  unfolding good_array_key
  apart front b e = sym (ap (same key) e ∙ same_last b key front last (omega arith))

  -- one digit is one byte
  pub digit_is : position < 10 → eqb last 0 && eqb (get_or key last 0) (48 + position) ≡ good_array_key position key
  digit_is h =
      and_comm (eqb last 0) (eqb (get_or key last 0) (48 + position))
      ∙ rw (← front_empty key last (omega arith)) (apart [] (48 + position) (decimal_digit position h))

  -- of more digits the last one is the last byte, and the others come before it
  module _ (h : 10 ≤ position) where
    last_is : eqb (get_or key last 0) (48 + position % 10) && good_array_key (position / 10) (take last key) ≡ good_array_key position key
    last_is =
        rw (good_same (position / 10) (take last key)) (apart (decimal (position / 10)) (48 + position % 10) (decimal_last position h))

    pub last_differs : (get_or key last 0 ≡ 48 + position % 10 → ⊥) → false ≡ good_array_key position key
    last_differs e = rw (ne_eqb _ _ e) at last_is

    pub last_passes : get_or key last 0 ≡ 48 + position % 10 → good_array_key (position / 10) (take last key) ≡ good_array_key position key
    last_passes e = rw (eq-eqb _ _ e) at last_is
