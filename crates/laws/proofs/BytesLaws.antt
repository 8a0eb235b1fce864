-- Equal bytes, byte by byte, and the bytes of a part.
use Prim.Native.Nat.{ℕ, zero, suc, ◌+◌, ◌-◌, ◌<◌, ◌≤◌}
use mathlib.Core.Path.{◌≡◌, refl, ap, sym, ◌∙◌}
use mathlib.Core.List.{List, [], ◌∷◌, ◌++◌}
use mathlib.Core.Bool.{Bool, true, false, true≢false, ◌&&◌, and-false}
use native.Mathlib.Numerals.{add-one}
use native.Mathlib.Omega.{arith}
use lib.ListN.{length, get_or, take, drop, drop_of_length-le, length-take, length-drop}
use lib.Seq.{drop-cons, length-take-le, take-take, take-add, drop_at, drop-drop}
use lib.Dec.{eqb}
use borrow.Author.Tests.{eq-eqb, ne_eqb, eqb-true}
use Rattle.bson.specs.Bytes.{Part, part, bytes, trim, same}
use Rattle.laws.proofs.Common.{split, and_swap}

-- ---- equal texts

pub same_length : (a b : List ℕ) → (length a ≡ length b → ⊥) → same a b ≡ false
same_length [] [] h = absurd (h refl)
same_length [] (y ∷ b) h = refl
same_length (x ∷ a) [] h = refl
same_length (x ∷ a) (y ∷ b) h = split (eqb x y) (λ p. rw p (same_length a b (λ e. h (ap suc e)))) (λ p. rw p)

pub same_eq : (a b : List ℕ) → same a b ≡ true → a ≡ b
same_eq [] [] e = refl
same_eq [] (y ∷ b) e = absurd (true≢false (sym e))
same_eq (x ∷ a) [] e = absurd (true≢false (sym e))
same_eq (x ∷ a) (y ∷ b) e =
    split (eqb x y)
    (λ p. let i = same_eq a b (rw p at e) in let j = eqb-true x y p in cc)
    (λ p. absurd (true≢false (sym (rw p at e))))

pub same_self : (a : List ℕ) → same a a ≡ true
same_self [] = refl
same_self (x ∷ a) = rw (eq-eqb x x refl, same_self a)

module _ (a b : List ℕ) (i : ℕ) (p : i < length a) (q : i < length b) where
  pub same_step : get_or a i 0 ≡ get_or b i 0 → same (drop i a) (drop i b) ≡ same (drop (i + 1) a) (drop (i + 1) b)
  same_step e = rw (add-one, drop-cons a i 0 p, drop-cons b i 0 q, eq-eqb _ _ e)

  pub same_differs : (get_or a i 0 ≡ get_or b i 0 → ⊥) → same (drop i a) (drop i b) ≡ false
  same_differs e = rw (drop-cons a i 0 p, drop-cons b i 0 q, ne_eqb _ _ e)

pub same_end : (a b : List ℕ) (i : ℕ) → length a ≤ i → length b ≤ i → same (drop i a) (drop i b) ≡ true
same_end a b i p q = rw (drop_of_length-le a p, drop_of_length-le b q)

-- the last byte decides, and then those before it
module _ (b : ℕ) where
  none_same : (front : List ℕ) → same [] (front ++ (b ∷ [])) ≡ false
  none_same [] = refl
  none_same (c ∷ front) = refl

  pub same_last : (key front : List ℕ) (last : ℕ) → length key ≡ suc last
      → same key (front ++ (b ∷ [])) ≡ eqb (get_or key last 0) b && same (take last key) front
  same_last [] front last l = absurd (omega arith)
  same_last (a ∷ []) front (suc last) l = absurd (omega arith)
  same_last (a ∷ c ∷ key) front zero l = absurd (omega arith)
  same_last (a ∷ []) [] zero l = refl
  same_last (a ∷ []) (d ∷ front) zero l =
      ap (λ (x : Bool). eqb a d && x) (none_same front) ∙ and-false (eqb a d) ∙ sym (and-false (eqb a b))
  same_last (a ∷ c ∷ key) [] (suc last) l = and-false (eqb a b) ∙ sym (and-false (eqb (get_or (c ∷ key) last 0) b))
  same_last (a ∷ c ∷ key) (d ∷ front) (suc last) l =
      ap (λ (x : Bool). eqb a d && x) (same_last (c ∷ key) front last (omega arith))
      ∙ and_swap (eqb a d) (eqb (get_or (c ∷ key) last 0) b) (same (take last (c ∷ key)) front)

-- ---- parts

pub bytes_length : (s : List ℕ) (p : Part) → p.offset + p.size ≤ length s → length (bytes s p) ≡ p.size
unfolding bytes
bytes_length s p h = simp (length-take, length-drop) (omega arith)

-- `&s[a..b]` is a part of the slice
pub slice_part : (s : List ℕ) (p : Part) → take (p.offset + p.size - p.offset) (drop p.offset s) ≡ bytes s p
unfolding bytes
slice_part s p = let n : p.offset + p.size - p.offset ≡ p.size = omega arith in rw n

-- two parts, one behind the other, are one
pub bytes_join : (s : List ℕ) (from n m : ℕ) → bytes s (part from n) ++ bytes s (part (from + n) m) ≡ bytes s (part from (n + m))
unfolding bytes
bytes_join s from n m = rw (← drop-drop n from s) (sym (take-add n m (drop from s)))

-- a part without its front is the rest of its bytes
pub bytes_trim : (s : List ℕ) (p : Part) (front : ℕ) → p.offset + p.size ≤ length s → front ≤ p.size
    → bytes s (trim front 0 p) ≡ drop front (bytes s p)
unfolding bytes
bytes_trim s p front h k =
    let l = drop p.offset s in
    let m = p.size - front in
    let n : p.size ≡ front + m = omega arith in
    let j : front ≤ length l = omega (arith, length-drop p.offset s) in
    let d : drop front (take (front + m) l) ≡ take m (drop front l) =
    ap (drop front) (take-add front m l) ∙ drop_at (take front l) (take m (drop front l)) front (length-take-le front l j) in
    let i : p.size - (front + 0) ≡ m = omega arith in
    rw (i, ← drop-drop front p.offset s) (sym (ap (λ (x : ℕ). drop front (take x l)) n ∙ d))

-- a part of the rest of a slice, and of a part's bytes, is one of the slice
pub bytes_drop : (s : List ℕ) (offset from size : ℕ) → bytes s (part (offset + from) size) ≡ bytes (drop offset s) (part from size)
unfolding bytes
bytes_drop s offset from size = ap (take size) (sym (drop-drop from offset s))

pub bytes_within : (s : List ℕ) (p : Part) (from size : ℕ) → p.offset + p.size ≤ length s → from + size ≤ p.size
    → bytes s (part (p.offset + from) size) ≡ bytes (bytes s p) (part from size)
unfolding bytes
bytes_within s p from size h k =
    rw (← bytes_trim s p from h (omega arith)) (sym (take-take size (p.size - (from + 0)) (drop (p.offset + from) s) (omega arith)))
