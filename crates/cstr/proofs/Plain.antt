-- A text that runs to a zero byte through plain bytes alone needs no second pass.
use Prim.Native.Nat.{ℕ, zero, suc, ◌+◌, ◌-◌, ◌<◌, ◌≤◌}
use mathlib.Core.Path.{◌≡◌, refl, ap, sym, ◌∙◌}
use mathlib.Core.List.{List, [], ◌∷◌}
use mathlib.Core.Bool.{Bool, true, false, cond, ◌||◌, true≢false}
use native.Mathlib.Nat.{not-suc-le-zero, le_of_suc-le-suc}
use native.Mathlib.Numerals.{add-one}
use native.Mathlib.Omega.{arith}
use lib.Dec.{eqb, ltb}
use lib.ListN.{length, get_or, take, drop, get_or-eq_default}
use lib.Seq.{drop-cons, drop-drop, take-length}
use borrow.Author.Tests.{eq-eqb, ne_eqb, eqb-true, ltb-false, lt-ltb, le-ltb}
use Rattle.bson.specs.Answer.{gives, refuses}
use Rattle.bson.specs.Utf8.{utf8, Left, ranges, read}
use Rattle.bson.specs.Cstring.{first_zero, zero_text, valid_cstr}
use Rattle.laws.proofs.Common.{split}
use Rattle.laws.proofs.Utf8Laws.{next_ascii}
use Rattle.cstr.specs.Scan.{stops_at, plain, PlainOf}

-- ---- four bytes at a time

-- two bytes that pass, and two more
pub two_and_two : (v : List ℕ) (o n m : ℕ) → PlainOf 2 v o n → 2 ≤ n → PlainOf 2 v (o + 2) m → PlainOf 4 v o (2 + m)
two_and_two v o n m w h x =
    let e = w.passed h in
    let k : o + 2 + 2 ≡ o + 4 = omega arith in
    let f : plain (drop (o + 2 + 2) v) ≡ plain (drop (o + 4) v) = ap (λ (i : ℕ). plain (drop i v)) k in
    record {
      most = omega (arith, x.most);
      stopped = λ g. omega (arith, x.stopped (omega arith));
      passed = λ g. omega (arith, x.passed (omega arith));
    }

-- one of four bytes stops where fewer than four are plain
some_of_four : (a b c d : Bool) (n : ℕ)
    → (a || b) || (c || d) ≡ ltb (cond a 0 (suc (cond b 0 (suc (cond c 0 (suc (cond d 0 (suc n)))))))) 4
some_of_four true b c d n = refl
some_of_four false true c d n = refl
some_of_four false false true d n = refl
some_of_four false false false true n = refl
some_of_four false false false false n = sym (le-ltb (suc (suc (suc (suc n)))) 4 (omega arith))

plain_turn : (v : List ℕ) (i j : ℕ) → j ≡ i + 1 → i < length v → (a : Bool) → a ≡ stops_at (get_or v i 0)
    → plain (drop i v) ≡ cond a 0 (suc (plain (drop j v)))
plain_turn v i j n h a e = rw (n, add-one, drop-cons v i 0, e)

pub stop_in_four : (v : List ℕ) (o : ℕ) → o + 4 ≤ length v → (a b c d : Bool) → a ≡ stops_at (get_or v o 0) → b ≡ stops_at (get_or v (o + 1) 0)
    → c ≡ stops_at (get_or v (o + 2) 0) → d ≡ stops_at (get_or v (o + 3) 0) → (a || b) || (c || d) ≡ ltb (plain (drop o v)) 4
stop_in_four v o h a b c d ea eb ec ed =
    rw (
      plain_turn v o (o + 1) refl (omega arith) a ea,
      plain_turn v (o + 1) (o + 2) (omega arith) (omega arith) b eb,
      plain_turn v (o + 2) (o + 3) (omega arith) (omega arith) c ec,
      plain_turn v (o + 3) (o + 4) (omega arith) (omega arith) d ed,
    ) (some_of_four a b c d (plain (drop (o + 4) v)))

-- ---- plain bytes passed over

-- bytes that are plain, passed over
plain_past : (v : List ℕ) (n : ℕ) → n ≤ plain v → plain v ≡ n + plain (drop n v)
plain_past v zero h = omega arith
plain_past [] (suc n) h = absurd (not-suc-le-zero h)
plain_past (b ∷ v) (suc n) h =
    split (stops_at b) (λ t. absurd (not-suc-le-zero (rw t at h)))
    (λ t. let k = plain_past v n (le_of_suc-le-suc (rw t at h)) in rw t (omega arith))

module _ (k : List ℕ) (i : ℕ) (e : i + plain (drop i k) ≡ plain k) where
  pub plain_on : 4 ≤ plain (drop i k) → i + 4 + plain (drop (i + 4) k) ≡ plain k
  plain_on h =
      let f : plain (drop 4 (drop i k)) ≡ plain (drop (i + 4) k) = ap plain (drop-drop 4 i k) in
      omega (arith, plain_past (drop i k) 4 h)

  pub plain_short : plain (drop i k) < 4 → 4 ≤ length k - i → false ≡ eqb (plain k) (length k)
  plain_short h g = sym (ne_eqb (plain k) (length k) λ q. omega arith)

-- ---- what plain bytes are

neither : (a b : Bool) → (a || b) ≡ false → (a ≡ false) × (b ≡ false)
neither true b e = absurd (true≢false e)
neither false b e = (refl, e)

-- a byte that does not stop is neither zero nor above 127
passes : (b : ℕ) → stops_at b ≡ false → (eqb b 0 ≡ false) × (b < 128)
passes b t = let e = neither (eqb b 0) (ltb 127 b) t in (e.0, omega (arith, ltb-false 127 b e.1))

-- where the first byte that stops is zero, it is the first zero
plain_first : (v : List ℕ) → get_or v (plain v) 0 ≡ 0 → first_zero v ≡ plain v
plain_first [] e = refl
plain_first (b ∷ v) e =
    split (stops_at b)
    (λ t. let x : b ≡ 0 = rw t at e in rw (t, eq-eqb b 0 x))
    (λ t. let x : get_or v (plain v) 0 ≡ 0 = rw t at e in rw (t, (passes b t).0, plain_first v x))

plain_read : (v : List ℕ) → read (ranges []) (take (plain v) v) ≡ ranges []
plain_read [] = refl
plain_read (b ∷ v) =
    split (stops_at b) (λ t. rw t)
    (λ t. rw t (ap (λ (l : Left). read l (take (plain v) v)) (next_ascii b (passes b t).1) ∙ plain_read v))

plain_utf8 : (v : List ℕ) → utf8 (take (plain v) v) ≡ true
unfolding utf8
plain_utf8 v = rw (plain_read v)

-- ---- what the code answers

module _ (v : List ℕ) (i : ℕ) (q : i ≡ plain v) where
  pub plain_found : i < length v → get_or v i 0 ≡ 0 → (number : ℕ) → gives i ≡ zero_text number v
  unfolding zero_text
  plain_found h e number =
      let f : first_zero v ≡ plain v = plain_first v (ap (λ (k : ℕ). get_or v k 0) (sym q) ∙ e) in
      let l : first_zero v < length v = omega arith in
      let t : utf8 (take (first_zero v) v) ≡ true = ap (λ (k : ℕ). utf8 (take k v)) f ∙ plain_utf8 v in
      rw (lt-ltb (first_zero v) (length v) l, t, f, q)

  pub plain_none : length v ≤ i → (number : ℕ) → refuses number 0 ≡ zero_text number v
  unfolding zero_text
  plain_none h number =
      let f : first_zero v ≡ plain v = plain_first v (get_or-eq_default v 0 (omega arith)) in
      let l : length v ≤ first_zero v = omega arith in
      rw (le-ltb (first_zero v) (length v) l)

-- and a key that is plain to its end is valid
pub plain_valid : (k : List ℕ) (b : Bool) → b ≡ eqb (plain k) (length k) → b ≡ true → true ≡ valid_cstr k
unfolding valid_cstr
plain_valid k b e t =
    let q : plain k ≡ length k = eqb-true (plain k) (length k) (sym e ∙ t) in
    let f : first_zero k ≡ length k = plain_first k (get_or-eq_default k 0 (omega arith)) ∙ q in
    let u : utf8 k ≡ true = ap utf8 (sym (take-length k)) ∙ ap (λ (n : ℕ). utf8 (take n k)) (sym q) ∙ plain_utf8 k in
    rw (eq-eqb (first_zero k) (length k) f, u)
