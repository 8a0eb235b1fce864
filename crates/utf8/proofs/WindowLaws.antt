-- The last three bytes say what is left of the row begun, and so judge the next byte (RULES.md, module 1; RFC 3629).
use Prim.Native.Nat.{ℕ, suc, ◌+◌, ◌-◌, ◌<◌, ◌≤◌}
use mathlib.Core.Path.{◌≡◌, refl, ap, ◌∙◌}
use mathlib.Core.List.{List, [], ◌∷◌}
use mathlib.Core.Bool.{Bool, true, false, not, ◌&&◌, ◌||◌, beq}
use native.Mathlib.Omega.{arith}
use native.Mathlib.Numerals.{add-one}
use lib.Dec.{T, eqb, ltb}
use lib.ListN.{length, get_or, drop, drop_of_length-le, get_or-eq_default}
use lib.Seq.{drop-cons}
use borrow.Author.Tests.{ltb-true, ltb-false}
use Rattle.bson.specs.Bytes.{AreBytes}
use Rattle.bson.specs.Utf8.{Range, ◌to◌, rows, Left, bad, ranges, next, read, whole, utf8}
use Rattle.laws.proofs.Common.{split, both_left, both_right, beq_eq, below, below_at}
use Rattle.laws.proofs.Utf8Laws.{leftovers, same_list}
use Rattle.utf8.specs.Window.{asked, stray_behind, stray}
use Rattle.utf8.proofs.EveryLaws.{holds, fails, same_bools_eq, among, every_at}

-- ---- what three bytes say

-- what three bytes say: whether one, two or three more are asked for, and whether the nearest is E0, ED, F0 or F4
abbrev marks : ℕ → ℕ → ℕ → List Bool
marks p q o = asked p q o ∷ (ltb 0xDF p || ltb 0xEF q) ∷ ltb 0xEF p ∷ eqb p 0xE0 ∷ eqb p 0xED ∷ eqb p 0xF0 ∷ eqb p 0xF4 ∷ []

-- what is left says the same
abbrev marks_left : List Range → List Bool
marks_left [] = marks 0 0 0
marks_left ((a to z) ∷ rs) = true ∷ ltb 0 (length rs) ∷ ltb 1 (length rs) ∷ eqb a 0xA0 ∷ eqb z 0x9F ∷ eqb a 0x90 ∷ eqb z 0x8F ∷ []

abbrev mark : List Bool → ℕ → Bool
mark m k = get_or m k false

abbrev stray_by : List Bool → ℕ → Bool
stray_by m b = stray_behind (mark m 0) (mark m 3) (mark m 4) (mark m 5) (mark m 6) b

-- the marks one byte further
abbrev shift : List Bool → ℕ → List Bool
shift m b = (ltb 0xBF b || mark m 1) ∷ (ltb 0xDF b || mark m 2) ∷ ltb 0xEF b ∷ eqb b 0xE0 ∷ eqb b 0xED ∷ eqb b 0xF0 ∷ eqb b 0xF4 ∷ []

-- the bytes so far: one was stray and no row fits, or none was, and p, q, o, the nearest first, say what is left
pub data After : Left → Bool → ℕ → ℕ → ℕ → Type 0 where
  fell : {p q o : ℕ} → After bad true p q o
  row_fits : {rs : List Range} {p q o : ℕ} → T (among rs leftovers) → marks p q o ≡ marks_left rs → After (ranges rs) false p q o

-- ---- computed, for each byte

-- computed at all that may be left and every byte
abbrev goes : List Bool → ℕ → Left → Bool
goes m b bad = stray_by m b
goes m b (ranges rs) = not (stray_by m b) && (among rs leftovers && same_list beq (shift m b) (marks_left rs))

abbrev goes_all : List Range → Bool
goes_all rs = below (λ b. goes (marks_left rs) b (next (ranges rs) b)) 256

goes_at : (rs : List Range) (b : ℕ) → T (among rs leftovers) → b < 256 → T (goes (marks_left rs) b (next (ranges rs) b))
unfolding rows
goes_at rs b k h = below_at (λ b. goes (marks_left rs) b (next (ranges rs) b)) 256 (every_at goes_all leftovers rs tt k) b h

-- a zero byte leaves the verdict as it is, and is stray exactly where a row is open
abbrev zero_same : List Range → Bool
zero_same rs = beq (whole (next (ranges rs) 0)) (whole (ranges rs))

abbrev zero_tells : List Range → Bool
zero_tells rs = beq (not (stray_by (marks_left rs) 0)) (whole (ranges rs))

-- ---- one byte more

marked : {m : List Bool} (b p q o : ℕ) → marks p q o ≡ m → stray b p q o ≡ stray_by m b
unfolding stray
marked b p q o e = ap (λ (x : List Bool). stray_by x b) e

turned : (m : List Bool) (b p q o : ℕ) (l : Left) → marks p q o ≡ m → T (goes m b l) → After l (stray b p q o) b p q
turned m b p q o bad e t = rw (marked b p q o e, holds (stray_by m b) t) fell
turned m b p q o (ranges rs) e t =
    let same = same_list beq (shift m b) (marks_left rs) in
    let u = both_right (not (stray_by m b)) (among rs leftovers && same) t in
    let says = same_bools_eq (shift m b) (marks_left rs) (both_right (among rs leftovers) same u) in
    rw (marked b p q o e, fails (stray_by m b) (both_left (not (stray_by m b)) (among rs leftovers && same) t))
    (row_fits (both_left (among rs leftovers) same u) (ap (λ (x : List Bool). shift x b) e ∙ says))

after_next : {l : Left} {any : Bool} {p q o : ℕ} (b : ℕ) → b < 256 → After l any p q o → After (next l b) (any || stray b p q o) b p q
after_next b h fell = fell
after_next {p = p} {q} {o} b h (row_fits {rs} k e) = turned (marks_left rs) b p q o (next (ranges rs) b) e (goes_at rs b k h)

zero_same_law : {l : Left} {any : Bool} {p q o : ℕ} → After l any p q o → whole (next l 0) ≡ whole l
unfolding rows
zero_same_law fell = refl
zero_same_law (row_fits {rs} k e) = beq_eq (whole (next (ranges rs) 0)) (whole (ranges rs)) (every_at zero_same leftovers rs tt k)

zero_tells_law : {l : Left} {any : Bool} {p q o : ℕ} → After l any p q o → not (any || stray 0 p q o) ≡ whole l
zero_tells_law fell = refl
zero_tells_law {p = p} {q} {o} (row_fits {rs} k e) =
    rw (marked 0 p q o e) (beq_eq (not (stray_by (marks_left rs) 0)) (whole (ranges rs)) (every_at zero_tells leftovers rs tt k))

-- ---- the loop

-- `any` says whether a byte before j was stray, and p, q, o are the last three; zeros stand before s and behind it
pub record Went (s : List ℕ) (any : Bool) (j p q o : ℕ) : Type 0 where
  pub l : Left
  pub after : After l any p q o
  pub same : whole (read l (drop j s)) ≡ utf8 s

read_one : {l : Left} {any : Bool} {p q o : ℕ} (s : List ℕ) (j : ℕ) → After l any p q o
    → whole (read (next l (get_or s j 0)) (drop (suc j) s)) ≡ whole (read l (drop j s))
read_one {l} s j a =
    split (ltb j (length s))
    (λ t. let h = ltb-true j (length s) t in rw (drop-cons s j 0 h) refl)
    (λ t. let h = ltb-false j (length s) t in let g : length s ≤ suc j = omega arith in
    rw (drop_of_length-le s h, drop_of_length-le s g, get_or-eq_default s 0 h) (zero_same_law a))

went_on : {s : List ℕ} {any : Bool} {j p q o : ℕ} → AreBytes s → Went s any j p q o
    → Went s (any || stray (get_or s j 0) p q o) (suc j) (get_or s j 0) p q
went_on {s} {j = j} k w =
    record { l = next w.l (get_or s j 0); after = after_next (get_or s j 0) (k j) w.after; same = read_one s j w.after ∙ w.same }

-- the first three bytes
pub went_start : {s : List ℕ} {a b c : ℕ} {x y z : Bool} → AreBytes s
    → a ≡ get_or s 0 0 → b ≡ get_or s 1 0 → c ≡ get_or s 2 0 → x ≡ stray a 0 0 0 → y ≡ stray b a 0 0 → z ≡ stray c b a 0
    → Went s ((x || y) || z) 3 (get_or s 2 0) (get_or s 1 0) (get_or s 0 0)
unfolding utf8
went_start {s} k ea eb ec ex ey ez =
    let none : Went s false 0 0 0 0 = record { l = ranges []; after = row_fits tt refl; same = refl } in
    rw (ex, ey, ez, ea, eb, ec) (went_on k (went_on k (went_on k none)))

-- a turn of the loop: the last three bytes are those before j
abbrev pub Turned : List ℕ → Bool → ℕ → Type 0
Turned s any j = (3 ≤ j) × Went s any j (get_or s (j - 1) 0) (get_or s (j - 2) 0) (get_or s (j - 3) 0)

pub went_turn : {s : List ℕ} {any t : Bool} {j : ℕ} → AreBytes s → Turned s any j
    → t ≡ stray (get_or s j 0) (get_or s (j - 1) 0) (get_or s (j - 2) 0) (get_or s (j - 3) 0) → Turned s (any || t) (j + 1)
went_turn {s} {any} {t} {j} k (h, w) e =
    let one : j + 1 - 1 ≡ j = omega arith in
    let two : j + 1 - 2 ≡ j - 1 = omega arith in
    let three : j + 1 - 3 ≡ j - 2 = omega arith in
    (omega arith, rw (e, one, two, three, add-one) (went_on k w))

-- the zero behind s
pub went_end : {s : List ℕ} {any t : Bool} {j x y z : ℕ} → Turned s any j → length s ≤ j
    → x ≡ get_or s (j - 1) 0 → y ≡ get_or s (j - 2) 0 → z ≡ get_or s (j - 3) 0 → t ≡ stray 0 x y z → not (any || t) ≡ utf8 s
went_end {s} (g, w) h ex ey ez e = rw (e, ex, ey, ez) (zero_tells_law w.after ∙ rw (drop_of_length-le s h) at w.same)
