-- TableLaws: the two tables are the rows of RFC 3629, by one test of every byte behind every state (RULES.md, request 8).
use Prim.Native.Nat.{ℕ, zero, suc, ◌+◌, ◌*◌, ◌/◌, ◌%◌, ◌<◌, ◌≤◌}
use mathlib.Core.Path.{◌≡◌, refl, ap, sym, ◌∙◌}
use mathlib.Core.List.{List, [], ◌∷◌}
use mathlib.Core.Bool.{Bool, true, false, ◌&&◌, beq}
use native.Mathlib.Numerals.{add-one}
use native.Mathlib.Omega.{arith}
use lib.Dec.{T, eqb, ltb, eqb→eq, ltb→lt}
use lib.ListN.{length, get_or, drop, drop_of_length-le}
use lib.Seq.{drop-cons}
use Rattle.bson.specs.Utf8.{Range, Left, bad, ranges, next, read, whole, utf8}
use Rattle.laws.proofs.Common.{both_left, both_right, beq_eq, below, below_at}
use Rattle.laws.proofs.Utf8Laws.{leftovers, same_ranges, same_ranges_eq}
use Rattle.utf8.specs.Moves.{class_of, move_of}

-- ---- states

-- what is left in each state: a state is six times a number, that of what may be left, and behind all of these no row fits
abbrev numbered : List (List Range) → ℕ → Left
numbered [] k = bad
numbered (rs ∷ more) zero = ranges rs
numbered (rs ∷ more) (suc k) = numbered more k

abbrev left_of : ℕ → Left
left_of k = numbered leftovers k

abbrev same_left : Left → Left → Bool
same_left bad bad = true
same_left bad (ranges ys) = false
same_left (ranges xs) bad = false
same_left (ranges xs) (ranges ys) = same_ranges xs ys

same_left_eq : (x y : Left) → T (same_left x y) → x ≡ y
same_left_eq bad bad t = refl
same_left_eq bad (ranges ys) t = absurd t
same_left_eq (ranges xs) bad t = absurd t
same_left_eq (ranges xs) (ranges ys) t = ap ranges (same_ranges_eq xs ys t)

-- x is a state, and in it is left what l says
abbrev is_state : ℕ → Left → Bool
is_state x l = eqb x (6 * (x / 6)) && (ltb (x / 6) 9 && same_left (left_of (x / 6)) l)

-- ---- the tables, by one computed test

-- the class of b has a number in the table, and the move behind it leaves what the rows leave
abbrev is_right : List ℕ → List ℕ → ℕ → ℕ → Bool
is_right c m k b = ltb (class_of c b) 12 && is_state (move_of c m (6 * k) b % 64) (next (left_of k) b)

-- "the class rule is proved once over the whole table"
pub record Right (c m : List ℕ) : Type 0 where
  pub computed : below (λ k. below (is_right c m k) 256) 9 ≡ true

table_right : {c m : List ℕ} → Right c m → (k b : ℕ) → k < 9 → b < 256 → T (is_right c m k b)
table_right {c} {m} t k b h l = below_at (is_right c m k) 256 (below_at (λ k. below (is_right c m k) 256) 9 (rw t.computed tt) k h) b l

pub class_few : {c m : List ℕ} (b : ℕ) → Right c m → b < 256 → class_of c b < 12
class_few {c} {m} b t h =
    let x = move_of c m 0 b % 64 in
    ltb→lt (class_of c b) 12 (both_left (ltb (class_of c b) 12) (is_state x (next (ranges []) b)) (table_right t 0 b (omega arith) h))

-- ---- a state and what is left of a row

-- a state stands for what is left of a row
pub record Runs (state : ℕ) (l : Left) : Type 0 where
  pub k : ℕ
  pub few : k < 9
  pub is : state % 64 ≡ 6 * k
  pub leaves : l ≡ left_of k

is_state_runs : (state : ℕ) (l : Left) → T (is_state (state % 64) l) → Runs state l
is_state_runs state l t =
    let x = state % 64 in
    let k = x / 6 in
    let six = eqb x (6 * k) in
    let few = ltb k 9 in
    let same = same_left (left_of k) l in
    let u = both_right six (few && same) t in
    record {
      k = k;
      few = ltb→lt k 9 (both_left few same u);
      is = eqb→eq x (6 * k) (both_left six (few && same) t);
      leaves = sym (same_left_eq (left_of k) l (both_right few same u));
    }

pub move_runs : {c m : List ℕ} {x : ℕ} {l : Left} (b : ℕ) → Right c m → Runs x l → b < 256 → Runs (move_of c m (x % 64) b) (next l b)
move_runs {c} {m} {x} {l} b t r h =
    let y = move_of c m (6 * r.k) b in
    let w = next (left_of r.k) b in
    rw (r.is, r.leaves) (is_state_runs y w (both_right (ltb (class_of c b) 12) (is_state (y % 64) w) (table_right t r.k b r.few h)))

-- no byte is read yet
pub first_runs : Runs 0 (ranges [])
first_runs = record { k = 0; few = omega arith; is = refl; leaves = refl }

-- in the first state, and in no other, no row is open
pub runs_whole : {x : ℕ} {l : Left} → Runs x l → eqb (x % 64) 0 ≡ whole l
runs_whole r =
    rw (r.is, r.leaves) (beq_eq _ _ (below_at (λ k. beq (eqb (6 * k) 0) (whole (left_of k))) 9 tt r.k r.few))

-- and in the last one no row fits
abbrev pub is_bad : Left → Bool
is_bad bad = true
is_bad (ranges rs) = false

pub runs_bad : {x : ℕ} {l : Left} → Runs x l → eqb (x % 64) 48 ≡ is_bad l
runs_bad r =
    rw (r.is, r.leaves) (beq_eq _ _ (below_at (λ k. beq (eqb (6 * k) 48) (is_bad (left_of k))) 9 tt r.k r.few))

-- ---- the loop

-- the bytes from i on decide, with what is left in the state
pub record Going (s : List ℕ) (state i : ℕ) : Type 0 where
  pub l : Left
  pub runs : Runs state l
  pub inside : i ≤ length s
  pub same : whole (read l (drop i s)) ≡ utf8 s

pub going_start : {s : List ℕ} → Going s 0 0
unfolding utf8
going_start = record { l = ranges []; runs = first_runs; inside = omega arith; same = refl }

pub going_on : {c m s : List ℕ} {state i x : ℕ} → Right c m → Going s state i → i < length s → get_or s i 0 < 256
    → x ≡ move_of c m (state % 64) (get_or s i 0)
    → Going s x (i + 1)
going_on {s = s} {i = i} t g h k e =
    record {
      l = next g.l (get_or s i 0);
      runs = rw e (move_runs (get_or s i 0) t g.runs k);
      inside = omega arith;
      same = rw add-one (sym (ap (λ (w : List ℕ). whole (read g.l w)) (drop-cons s i 0 h)) ∙ g.same);
    }

pub going_end : {s : List ℕ} {state i : ℕ} → Going s state i → length s ≤ i → eqb (state % 64) 0 ≡ utf8 s
going_end {s} g h = runs_whole g.runs ∙ rw (drop_of_length-le s h) at g.same
