-- How many bytes stand before the first that passes a test, and that a zero-ended text is a valid one, with its zero behind it.
use Prim.Native.Nat.{ℕ, zero, suc, ◌+◌, ◌<◌, ◌≤◌}
use mathlib.Core.Path.{◌≡◌, refl, ap, sym, ◌∙◌}
use mathlib.Core.List.{List, [], ◌∷◌, ◌++◌}
use mathlib.Core.Bool.{Bool, true, false}
use native.Mathlib.Nat.{not-suc-le-zero, le_of_suc-le-suc}
use native.Mathlib.Numerals.{add-one}
use native.Mathlib.Omega.{arith}
use lib.Dec.{ltb}
use lib.ListN.{length, get_or, take, drop, drop_of_length-le}
use lib.Seq.{drop-cons, length-take-le, take_all, take-take, split_at}
use borrow.Author.Tests.{ltb-true, lt-ltb, eq-eqb, eqb-true}
use Rattle.bson.specs.Answer.{gives, refuses}
use Rattle.bson.specs.Utf8.{utf8}
use Rattle.bson.specs.Cstring.{before, is_zero, first_zero, Limit, unlimited, most, zero_text, cstring_under, cstring, valid_cstr}
use Rattle.laws.proofs.AnswerLaws.{gives_injective, unless_gives}
use Rattle.laws.proofs.Common.{split}

-- ---- the first byte that passes

pub before_here : (test : ℕ → Bool) (v : List ℕ) (i : ℕ) → i < length v → test (get_or v i 0) ≡ true → before test (drop i v) ≡ 0
before_here test v i h e = rw (drop-cons v i 0, e)

pub before_not : (test : ℕ → Bool) (v : List ℕ) (i j : ℕ) → j ≡ i + 1 → i < length v → test (get_or v i 0) ≡ false
    → before test (drop i v) ≡ suc (before test (drop j v))
before_not test v i j n h e = rw (n, add-one, drop-cons v i 0, e)

pub before_end : (test : ℕ → Bool) (v : List ℕ) (i : ℕ) → length v ≤ i → before test (drop i v) ≡ 0
before_end test v i h = rw (drop_of_length-le v h)

-- a byte that passes is not behind the first that does
pub before_least : (test : ℕ → Bool) (v : List ℕ) (i : ℕ) → i < length v → test (get_or v i 0) ≡ true → before test v ≤ i
before_least test [] i h e = absurd (not-suc-le-zero h)
before_least test (b ∷ v) zero h e = rw e (omega arith)
before_least test (b ∷ v) (suc i) h e =
    split (test b) (λ t. rw t (omega arith)) (λ t. let k = before_least test v i (le_of_suc-le-suc h) e in rw t (omega arith))

pub before_most : (test : ℕ → Bool) (v : List ℕ) → before test v ≤ length v
before_most test [] = omega arith
before_most test (b ∷ v) = split (test b) (λ t. rw t (omega arith)) (λ t. let k = before_most test v in rw t (omega arith))

-- the bytes before the first that passes hold none
before_take : (test : ℕ → Bool) (v : List ℕ) → before test (take (before test v) v) ≡ before test v
before_take test [] = refl
before_take test (b ∷ v) = split (test b) (λ t. rw t) (λ t. rw (t, t) (ap suc (before_take test v)))

-- and the first that passes does
before_passes : (test : ℕ → Bool) (v : List ℕ) → before test v < length v → test (get_or v (before test v) 0) ≡ true
before_passes test [] h = absurd (not-suc-le-zero h)
before_passes test (b ∷ v) h =
    split (test b)
    (λ t. rw (t, t))
    (λ t. let k : suc (before test v) < suc (length v) = rw t at h in rw t (before_passes test v (le_of_suc-le-suc k)))

-- ---- a zero-ended text

-- the zero is in the list too
pub cstring_below : (v : List ℕ) (k : ℕ) → cstring v ≡ gives k → k < length v
unfolding zero_text cstring_under
cstring_below v k e =
    let (t, e1) = unless_gives (ltb (first_zero v) (length v)) 5 _ e in
    let (u, e2) = unless_gives (utf8 (take (first_zero v) v)) 6 _ e1 in
    omega (arith, ltb-true (first_zero v) (length v) t, gives_injective e2)

pub cstring_valid : (v : List ℕ) (k : ℕ) → cstring v ≡ gives k → valid_cstr (take k v) ≡ true
unfolding zero_text cstring_under valid_cstr
cstring_valid v k e =
    let (t, e1) = unless_gives (ltb (first_zero v) (length v)) 5 _ e in
    let (u, e2) = unless_gives (utf8 (take (first_zero v) v)) 6 _ e1 in
    let n = length-take-le (first_zero v) v (omega (arith, ltb-true (first_zero v) (length v) t)) in
    let z : first_zero (take (first_zero v) v) ≡ length (take (first_zero v) v) = before_take is_zero v ∙ sym n in
    rw (← gives_injective e2, eq-eqb _ _ z) u

-- a zero-ended text, its zero, and what is behind it
pub cstring_splits : (v : List ℕ) (k : ℕ) → cstring v ≡ gives k → v ≡ take k v ++ (0 ∷ drop (k + 1) v)
unfolding zero_text cstring_under
cstring_splits v k e =
    let (t, e1) = unless_gives (ltb (first_zero v) (length v)) 5 _ e in
    let (u, e2) = unless_gives (utf8 (take (first_zero v) v)) 6 _ e1 in
    let l = ltb-true (first_zero v) (length v) t in
    let z : get_or v (first_zero v) 0 ≡ 0 = eqb-true _ _ (before_passes is_zero v l) in
    let i : first_zero v ≡ k = gives_injective e2 in
    rw (← i, add-one) (split_at v (first_zero v) 0 l ∙ ap (λ (b : ℕ). take (first_zero v) v ++ (b ∷ drop (suc (first_zero v)) v)) z)

-- ---- a text whose zero a limit lets be seen

-- before the first that passes there are as many in a list's first n, where they are that many or fewer
pub before_cut : (test : ℕ → Bool) (n : ℕ) (v : List ℕ) → before test (take n v) < length (take n v)
    → before test (take n v) ≡ before test v
before_cut test zero v h = absurd (not-suc-le-zero h)
before_cut test (suc n) [] h = refl
before_cut test (suc n) (b ∷ v) h =
    split (test b)
    (λ t. rw t)
    (λ t. let k : suc (before test (take n v)) < suc (length (take n v)) = rw t at h in
    rw t (ap suc (before_cut test n v (le_of_suc-le-suc k))))

pub cut_short : (n : ℕ) (v : List ℕ) → (length (take n v) ≤ length v) × (length (take n v) ≤ n)
cut_short zero v = (omega arith, omega arith)
cut_short (suc n) [] = (omega arith, omega arith)
cut_short (suc n) (b ∷ v) = let (i, j) = cut_short n v in (omega arith, omega arith)

-- a text whose zero a limit lets be seen is answered as without one
pub cstring_seen : (m : ℕ) (v : List ℕ) → ltb (first_zero (take (m + 1) v)) (length (take (m + 1) v)) ≡ true
    → cstring_under (most m) v ≡ cstring v
unfolding zero_text cstring_under
cstring_seen m v t =
    let w = take (m + 1) v in
    let l = ltb-true (first_zero w) (length w) t in
    let i = before_cut is_zero (m + 1) v l in
    let c : take (first_zero w) w ≡ take (first_zero v) v = take-take (first_zero w) (m + 1) v (omega (arith, cut_short (m + 1) v))
    ∙ ap (λ (n : ℕ). take n v) i in
    let d : first_zero v < length v = omega (arith, cut_short (m + 1) v) in
    rw (t, lt-ltb _ _ d, c, i)

-- the first that passes is the first of so many bytes too, where it is among them
before_kept : (test : ℕ → Bool) (n : ℕ) (v : List ℕ) → before test v < n → before test v < length v
    → (before test (take n v) ≡ before test v) × (before test v < length (take n v))
before_kept test zero v i h = absurd (not-suc-le-zero i)
before_kept test (suc n) [] i h = absurd (not-suc-le-zero h)
before_kept test (suc n) (b ∷ v) i h =
    split (test b)
    (λ t. rw t (refl, omega arith))
    (λ t.
    let j : suc (before test v) < suc n = rw t at i in
    let k : suc (before test v) < suc (length v) = rw t at h in
    let (e, l) = before_kept test n v (le_of_suc-le-suc j) (le_of_suc-le-suc k) in
    rw t (ap suc e, omega arith))

-- a text of no more bytes than a limit allows is given under it
pub cstring_kept : (m : ℕ) (v : List ℕ) (k : ℕ) → cstring v ≡ gives k → k ≤ m → cstring_under (most m) v ≡ gives k
unfolding zero_text cstring_under
cstring_kept m v k e i =
    let (t, e1) = unless_gives (ltb (first_zero v) (length v)) 5 _ e in
    let (u, e2) = unless_gives (utf8 (take (first_zero v) v)) 6 _ e1 in
    let z : first_zero v ≡ k = gives_injective e2 in
    let (c, l) = before_kept is_zero (m + 1) v (omega arith) (ltb-true (first_zero v) (length v) t) in
    cstring_seen m v (rw c (lt-ltb _ _ l)) ∙ e

-- ---- under a limit

-- a text that is given under a limit is given without one
pub cstring_under_law : (limit : Limit) (v : List ℕ) (k : ℕ) → cstring_under limit v ≡ gives k → cstring v ≡ gives k
unfolding zero_text cstring_under
cstring_under_law unlimited v k e = e
cstring_under_law (most m) v k e =
    let (t, e1) = unless_gives (ltb (first_zero (take (m + 1) v)) (length (take (m + 1) v))) 22 _ e in
    sym (cstring_seen m v t) ∙ e

pub cstring_inside : (limit : Limit) (v : List ℕ) (k : ℕ) → cstring_under limit v ≡ gives k → k < length v
cstring_inside limit v k e = cstring_below v k (cstring_under_law limit v k e)

-- "a key, pattern or options may have at most m bytes"
pub cstring_most : (m : ℕ) (v : List ℕ) (k : ℕ) → cstring_under (most m) v ≡ gives k → k ≤ m
unfolding zero_text cstring_under
cstring_most m v k e =
    let w = take (m + 1) v in
    let (t, e1) = unless_gives (ltb (first_zero w) (length w)) 22 _ e in
    let (u, e2) = unless_gives (utf8 (take (first_zero w) w)) 6 _ e1 in
    omega (arith, ltb-true (first_zero w) (length w) t, cut_short (m + 1) v, gives_injective e2)

-- "the answer depends on the first m + 1 bytes of the rest alone"
pub cstring_first : (m : ℕ) (v w : List ℕ) → take (m + 1) v ≡ take (m + 1) w → cstring_under (most m) v ≡ cstring_under (most m) w
unfolding cstring_under
cstring_first m v w e = ap (zero_text 22) e

-- where no zero is seen, 22, whatever is behind
pub cstring_unseen : (m : ℕ) (v : List ℕ) → ltb (first_zero (take (m + 1) v)) (length (take (m + 1) v)) ≡ false
    → cstring_under (most m) v ≡ refuses 22 0
unfolding zero_text cstring_under
cstring_unseen m v t = rw t

-- limits that a list is not longer than are one
pub cstring_beyond : (m n : ℕ) (v : List ℕ) → length v ≤ m → length v ≤ n → cstring_under (most m) v ≡ cstring_under (most n) v
unfolding cstring_under
cstring_beyond m n v i j = ap (zero_text 22) (take_all (m + 1) v (omega arith) ∙ sym (take_all (n + 1) v (omega arith)))
