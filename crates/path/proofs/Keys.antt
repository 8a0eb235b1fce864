-- How many keys a path has: one more than zero bytes, counted from an offset on (RULES.md, request 1).
use Prim.Native.Nat.{ℕ, suc, ◌+◌, ◌≤◌, ◌<◌}
use mathlib.Core.Path.{◌≡◌, sym, ◌∙◌}
use mathlib.Core.List.{List, [], ◌∷◌}
use mathlib.Core.Bool.{true, false}
use native.Mathlib.Numerals.{add-one}
use native.Mathlib.Omega.{arith}
use lib.ListN.{length, get_or, drop, drop_of_length-le}
use lib.Seq.{drop-cons}
use lib.Dec.{leb}
use borrow.Author.Tests.{leb-true, leb-false, le-leb, lt-leb}
use Rattle.bson.specs.Cstring.{is_zero}
use Rattle.bson.specs.Path.{keys_of}
use Rattle.laws.proofs.Common.{split}

-- the keys behind the first, from an offset on
abbrev pub keys_from : List ℕ → ℕ → ℕ
keys_from path i = length (keys_of (drop i path)).1

pub keys_most : (path : List ℕ) → length (keys_of path).1 ≤ length path
keys_most [] = omega arith
keys_most (b ∷ path) = let k = keys_most path in split (is_zero b) (λ t. rw t (omega arith)) (λ t. rw t (omega arith))

module _ (path : List ℕ) (i : ℕ) (h : i < length path) where
  pub keys_zero : is_zero (get_or path i 0) ≡ true → keys_from path i ≡ keys_from path (i + 1) + 1
  keys_zero e = let n : i + 1 ≡ suc i = add-one i in rw (n, drop-cons path i 0 h, e) (omega arith)

  pub keys_other : is_zero (get_or path i 0) ≡ false → keys_from path i ≡ keys_from path (i + 1)
  keys_other e = let n : i + 1 ≡ suc i = add-one i in rw (n, drop-cons path i 0 h, e)

pub keys_end : (path : List ℕ) (i : ℕ) → length path ≤ i → keys_from path i ≡ 0
keys_end path i h = rw (drop_of_length-le path h)

-- 201 keys are one and 200 more
pub keys_fit : (n : ℕ) → leb (n + 1) 201 ≡ leb n 200
keys_fit n =
    split (leb n 200)
    (λ t. le-leb (n + 1) 201 (omega (arith, leb-true n 200 t)) ∙ sym t)
    (λ t. lt-leb (n + 1) 201 (omega (arith, leb-false n 200 t)) ∙ sym t)
