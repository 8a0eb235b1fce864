-- How many digits a number has, that they name it, and that they are a valid key (RULES.md, "Writer and joining": keys "0, 1, 2 on in
-- decimal").
use Prim.Native.Nat.{ℕ, zero, suc, ◌+◌, ◌-◌, ◌*◌, ◌/◌, ◌%◌, ◌^◌, ◌≤◌, ◌<◌}
use mathlib.Core.Path.{◌≡◌, refl, ap, ◌∙◌}
use mathlib.Core.List.{List, [], ◌∷◌, ◌++◌}
use mathlib.Core.Bool.{true}
use native.Mathlib.Nat.{div-lt_self, div-lt_iff_lt-mul, le-div_iff_mul-le, mul_assoc, one-le-pow, pow-suc}
use native.Mathlib.Numerals.{add-one, one-add}
use native.Mathlib.Omega.{arith}
use lib.Dec.{ltb}
use lib.ListN.{length, length-append}
use borrow.Author.Tests.{lt-ltb, le-ltb, ltb-true, ltb-false, eq-eqb, ne_eqb}
use Rattle.bson.specs.Utf8.{Left, ranges, read, whole, utf8}
use Rattle.bson.specs.Cstring.{first_zero, valid_cstr}
use Rattle.bson.specs.Decimal.{digits, width_for, width, decimal}
use Rattle.laws.proofs.Common.{split}
use Rattle.laws.proofs.Utf8Laws.{next_ascii}

-- ---- how many digits a number has

tenth : (n : ℕ) → 10 ≤ n → n / 10 < n
tenth n h = div-lt_self (omega arith) (omega arith)

-- turns enough are enough
width_for_law : (j k n : ℕ) → n < j → n < k → width_for j n ≡ width_for k n
unfolding width_for
width_for_law zero k n h g = absurd (omega arith)
width_for_law (suc j) zero n h g = absurd (omega arith)
width_for_law (suc j) (suc k) n h g =
    split (ltb n 10) (λ e. rw e)
    (λ e. let l = tenth n (ltb-false n 10 e) in rw e (ap (λ (w : ℕ). 1 + w) (width_for_law j k (n / 10) (omega arith) (omega arith))))

width_digit : (n : ℕ) → n < 10 → width n ≡ 1
unfolding width width_for
width_digit n h = simp (lt-ltb n 10 h)

width_eq : (n : ℕ) → 10 ≤ n → width n ≡ 1 + width (n / 10)
unfolding width width_for
width_eq n h = rw (le-ltb n 10 h) (ap (λ (w : ℕ). 1 + w) (width_for_law n (suc (n / 10)) (n / 10) (tenth n h) (omega arith)))

pub width_positive : (n : ℕ) → 1 ≤ width n
width_positive n =
    split (ltb n 10)
    (λ e. omega (arith, width_digit n (ltb-true n 10 e)))
    (λ e. omega (arith, width_eq n (ltb-false n 10 e)))

-- a number below a power of ten has no more digits
pub width_within : (k n : ℕ) → n < 10 ^ suc k → width n ≤ suc k
width_within zero n h = omega (arith, width_digit n h)
width_within (suc k) n h =
    split (ltb n 10)
    (λ e. omega (arith, width_digit n (ltb-true n 10 e)))
    (λ e. omega
    (arith, width_eq n (ltb-false n 10 e), width_within k (n / 10) ((div-lt_iff_lt-mul (omega arith)).1 (rw (← pow-suc 10 (suc k)) h))))

-- one that is not below it has more than it has zeros
pub width_above : (k n : ℕ) → 10 ^ k ≤ n → suc k ≤ width n
width_above zero n h = width_positive n
width_above (suc k) n h =
    let z : 10 ^ k ≤ n / 10 = (le-div_iff_mul-le {k = 10} (omega arith)).1 (rw (← pow-suc 10 k) h) in
    let p : 1 ≤ 10 ^ k = one-le-pow k 10 (omega arith) in
    split (ltb n 10)
    (λ e. let l = ltb-true n 10 e in let y : n / 10 ≡ 0 = omega arith in absurd (omega arith))
    (λ e. omega (arith, width_eq n (ltb-false n 10 e), width_above k (n / 10) z))

pub width_is : (k n : ℕ) → 1 ≤ k → k ≤ width n → n < 10 ^ k → k ≡ width n
width_is zero n p l h = absurd (omega arith)
width_is (suc k) n p l h = omega (arith, width_within k n h)

pub width_holds : (n : ℕ) → n < 10 ^ width n
width_holds n =
    split (ltb n (10 ^ width n)) (λ e. ltb-true _ _ e) (λ e. absurd (omega (arith, width_above (width n) n (ltb-false _ _ e))))

pub width_small : (n : ℕ) → n < 2 ^ 64 → width n ≤ 20
width_small n h = width_within 19 n (omega arith)

-- ---- the digits

pub length_digits : (k n : ℕ) → length (digits k n) ≡ k
unfolding digits
length_digits zero n = refl
length_digits (suc k) n = simp (length-append, length_digits k (n / 10)) (add-one k)

pub length_decimal : (n : ℕ) → length (decimal n) ≡ width n
unfolding decimal
length_decimal n = length_digits (width n) n

-- one digit, or the last digit behind those of a tenth
pub decimal_digit : (n : ℕ) → n < 10 → decimal n ≡ (48 + n) ∷ []
unfolding decimal digits
decimal_digit n h = let e : n % 10 ≡ n = omega arith in rw (width_digit n h, e)

pub decimal_last : (n : ℕ) → 10 ≤ n → decimal n ≡ decimal (n / 10) ++ ((48 + n % 10) ∷ [])
unfolding decimal digits
decimal_last n h = ap (λ (k : ℕ). digits k n) (width_eq n h ∙ one-add (width (n / 10)))

-- ten times a number, and a rest
tens : (k d r : ℕ) → d * 10 ^ suc k + r ≡ 10 * (d * 10 ^ k) + r
tens k d r = rw (pow-suc 10 k, ← mul_assoc d (10 ^ k) 10) (omega arith)

-- a number is its first digit times a power of ten, and the rest: its digits are this one and those of the rest
pub digits_lead : (k d r : ℕ) → d < 10 → r < 10 ^ k → digits (suc k) (d * 10 ^ k + r) ≡ (48 + d) ∷ digits k r
unfolding digits
digits_lead zero d r h g =
    let e : d * 10 ^ 0 + r ≡ d = omega arith in
    let f : d % 10 ≡ d = omega arith in
    rw (e, f)
digits_lead (suc k) d r h g =
    let q : r / 10 < 10 ^ k = (div-lt_iff_lt-mul {k = 10} (omega arith)).1 (rw (← pow-suc 10 k) g) in
    let t = tens k d r in
    let x = d * 10 ^ k in
    let e : (d * 10 ^ suc k + r) / 10 ≡ x + r / 10 = rw t (omega arith) in
    let f : (d * 10 ^ suc k + r) % 10 ≡ r % 10 = rw t (omega arith) in
    rw (e, f, digits_lead k d (r / 10) h q)

-- the digits name the number

-- ---- the number that digits name

-- the number that digits name behind another's
abbrev named_from : ℕ → List ℕ → ℕ
named_from n [] = n
named_from n (d ∷ ds) = named_from (10 * n + (d - 48)) ds

abbrev pub named : List ℕ → ℕ
named ds = named_from 0 ds

named_last : (ds : List ℕ) (n d : ℕ) → named_from n (ds ++ (d ∷ [])) ≡ 10 * named_from n ds + (d - 48)
named_last [] n d = refl
named_last (e ∷ ds) n d = named_last ds (10 * n + (e - 48)) d

digits_named : (k n : ℕ) → n < 10 ^ k → named (digits k n) ≡ n
unfolding digits
digits_named zero n h = omega arith
digits_named (suc k) n h =
    let r = digits_named k (n / 10) ((div-lt_iff_lt-mul (omega arith)).1 (rw (← pow-suc 10 k) h)) in
    named_last (digits k (n / 10)) 0 (48 + n % 10) ∙ omega arith

pub decimal_named : (n : ℕ) → named (decimal n) ≡ n
unfolding decimal
decimal_named n = digits_named (width n) n (width_holds n)

-- the digits are a valid key

-- ---- digits are a valid key

-- ASCII bytes and no zero
abbrev Plain : List ℕ → Type 0
Plain [] = Unit
Plain (b ∷ s) = (0 < b) × ((b < 128) × Plain s)

plain_append : (s t : List ℕ) → Plain s → Plain t → Plain (s ++ t)
plain_append [] t p q = q
plain_append (b ∷ s) t p q = (p.0, (p.1.0, plain_append s t p.1.1 q))

plain_whole : (s : List ℕ) → Plain s → first_zero s ≡ length s
plain_whole [] p = refl
plain_whole (b ∷ s) p = let a = p.0 in rw (ne_eqb b 0 (λ e. omega arith)) (ap suc (plain_whole s p.1.1))

plain_read : (s : List ℕ) → Plain s → read (ranges []) s ≡ ranges []
plain_read [] p = refl
plain_read (b ∷ s) p = ap (λ (l : Left). read l s) (next_ascii b p.1.0) ∙ plain_read s p.1.1

plain_valid : (s : List ℕ) → Plain s → valid_cstr s ≡ true
unfolding valid_cstr utf8
plain_valid s p = rw (eq-eqb _ _ (plain_whole s p)) (ap whole (plain_read s p))

digits_plain : (k n : ℕ) → Plain (digits k n)
unfolding digits
digits_plain zero n = tt
digits_plain (suc k) n = plain_append (digits k (n / 10)) ((48 + n % 10) ∷ []) (digits_plain k (n / 10)) (omega arith, (omega arith, tt))

pub decimal_valid : (n : ℕ) → valid_cstr (decimal n) ≡ true
unfolding decimal
decimal_valid n = plain_valid (digits (width n) n) (digits_plain (width n) n)
