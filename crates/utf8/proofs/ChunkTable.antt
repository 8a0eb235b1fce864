-- ChunkTable: the first chunk by the tables: the state stands for what is left of a row behind the last whole character (RULES.md,
-- request 4).
use Prim.Native.Nat.{ℕ, suc, ◌+◌, ◌-◌, ◌%◌, ◌<◌, ◌≤◌}
use mathlib.Core.Path.{◌≡◌, refl, ap, sym, subst, ◌∙◌}
use mathlib.Core.List.{List, [], ◌∷◌}
use mathlib.Core.Bool.{true, false}
use native.Mathlib.Omega.{arith}
use borrow.Author.Tests.{eq-eqb, ne_eqb, ltb-true, ltb-false}
use lib.Dec.{ltb}
use lib.ListN.{length, get_or, drop, length-drop, drop_of_length-le}
use lib.Seq.{get_or-drop}
use Rattle.bson.specs.Utf8.{Left, bad, ranges, next, whole}
use Rattle.bson.specs.Lossy.{piece}
use Rattle.laws.proofs.Common.{split}
use Rattle.laws.proofs.LossyLaws.{whole_is}
use Rattle.utf8.specs.Chunks.{chunk, at_least_one, Front, Begins}
use Rattle.utf8.specs.Moves.{move_of}
use Rattle.utf8.proofs.ChunkLaws.{front_none, front_more, front_bad, piece_in, piece_bad, piece_good, at_least_one_law}
use Rattle.utf8.proofs.ChunkLaws.{Begun, Onward, begun_onward}
use Rattle.utf8.proofs.TableLaws.{Right, Runs, first_runs, move_runs, runs_whole, is_bad, runs_bad}

-- ---- what a state says of the bytes behind the last whole character

module _ (v : List ℕ) (n : ℕ) where
  onward_bad : (l : Left) → is_bad l ≡ true → Onward v n l → piece_in v ≡ piece (at_least_one n) false
  onward_bad bad e o = o
  onward_bad (ranges rs) e o = let z : ◌≡◌ {A = ℕ} 0 1 = cc in absurd (omega arith)

  onward_more : (l : Left) → is_bad l ≡ false → whole l ≡ false → Onward v n l → Begun v (suc n) l
  onward_more bad e f o = let z : ◌≡◌ {A = ℕ} 0 1 = cc in absurd (omega arith)
  onward_more (ranges []) e f o = let z : ◌≡◌ {A = ℕ} 0 1 = cc in absurd (omega arith)
  onward_more (ranges (r ∷ rs)) e f o = (omega arith, o)

  -- at the end of the text a character that is begun is cut
  begun_end : (l : Left) → Begun v n l → length v ≤ n → 0 < n → piece_in v ≡ piece n false
  begun_end bad g h k = absurd g
  begun_end (ranges []) g h k = absurd (omega arith)
  begun_end (ranges (r ∷ rs)) g h k =
      let z : n + 0 ≡ n = omega arith in
      g.1 ∙ rw (drop_of_length-le v h) (ap (λ (m : ℕ). piece m false) z)

-- ---- the loop

-- whole characters before `valid`, and what the state says of the bytes from there to i
pub record Judging (v : List ℕ) (valid state i : ℕ) : Type 0 where
  pub l : Left
  pub runs : Runs state l
  pub low : valid ≤ i
  pub high : i ≤ length v
  pub front : Front v valid
  pub begun : Begun (drop valid v) (i - valid) l

-- the same with the byte at i read
pub record Judged (v : List ℕ) (valid state i : ℕ) : Type 0 where
  pub l : Left
  pub runs : Runs state l
  pub low : valid ≤ i
  pub high : i < length v
  pub front : Front v valid
  pub onward : Onward (drop valid v) (i - valid) l

pub judging_start : {v : List ℕ} → Judging v 0 0 0
judging_start {v} =
    record { l = ranges []; runs = first_runs; low = omega arith; high = omega arith; front = front_none v; begun = refl }

pub judge : {c m v : List ℕ} {valid state i x : ℕ} → Right c m → Judging v valid state i → i < length v → get_or v i 0 < 256
    → x ≡ move_of c m (state % 64) (get_or v i 0) → Judged v valid x i
judge {v = v} {valid = valid} {i = i} t j h k e =
    let b = get_or v i 0 in
    let z : valid + (i - valid) ≡ i = omega (arith, j.low) in
    let g : get_or (drop valid v) (i - valid) 0 ≡ b = get_or-drop valid v (i - valid) 0 ∙ ap (λ (n : ℕ). get_or v n 0) z in
    let n : i - valid < length (drop valid v) = omega (arith, length-drop valid v, j.low) in
    record {
      l = next j.l b;
      runs = rw e (move_runs b t j.runs k);
      low = j.low;
      high = h;
      front = j.front;
      onward = rw g at (begun_onward (i - valid) (drop valid v) j.l j.begun n);
    }

-- a bad part behind the whole characters
begins_bad : {v : List ℕ} {valid : ℕ} (n : ℕ) → Front v valid → 0 < n → valid + n ≤ length v → piece_in (drop valid v) ≡ piece n false
    → Begins v valid n
begins_bad {v} {valid} n f h k e =
    let w = drop valid v in
    let z : valid + 0 ≡ valid = omega arith in
    let l : 0 < length w = omega (arith, length-drop valid v) in
    record {
      inside = k;
      onward = λ _. omega arith;
      bad = λ _. front_bad f 0 n (piece_bad n w l e) ∙ ap (λ (m : ℕ). chunk m n) z;
      good = λ q. absurd (omega arith);
    }

module _ {v : List ℕ} {valid x i : ℕ} (j : Judged v valid x i) where
  -- no character fits
  pub judged_bad : x % 64 ≡ 48 → Begins v valid (at_least_one (i - valid))
  judged_bad e =
      let n = at_least_one_law (i - valid) in
      begins_bad (at_least_one (i - valid)) j.front n.0 (omega (arith, n.1, j.low, j.high))
      (onward_bad (drop valid v) (i - valid) j.l (sym (runs_bad j.runs) ∙ eq-eqb (x % 64) 48 e) j.onward)

  -- a character is whole
  pub judged_whole : x % 64 ≡ 0 → Judging v (i + 1) x (i + 1)
  judged_whole e =
      let w = drop valid v in
      let n = suc (i - valid) in
      let size = length-drop valid v in
      let z : valid + n ≡ i + 1 = omega (arith, j.low) in
      let is : j.l ≡ ranges [] = whole_is j.l (sym (runs_whole j.runs) ∙ eq-eqb (x % 64) 0 e) in
      let o : piece_in w ≡ piece n true = rw is at j.onward in
      let f = front_more j.front n (omega (arith, j.low, j.high)) (piece_good n w (omega (arith, j.low, j.high)) o) in
      record {
        l = ranges [];
        runs = rw is at j.runs;
        low = omega arith;
        high = omega (arith, j.high);
        front = subst (Front v) z f;
        begun = omega arith;
      }

  -- a character is begun
  pub judged_more : (x % 64 ≡ 48 → ⊥) → (x % 64 ≡ 0 → ⊥) → Judging v valid x (i + 1)
  judged_more p q =
      let w = drop valid v in
      let z : suc (i - valid) ≡ i + 1 - valid = omega (arith, j.low) in
      let fits = sym (runs_bad j.runs) ∙ ne_eqb (x % 64) 48 p in
      let begun = sym (runs_whole j.runs) ∙ ne_eqb (x % 64) 0 q in
      record {
        l = j.l;
        runs = j.runs;
        low = omega (arith, j.low);
        high = omega (arith, j.high);
        front = j.front;
        begun = subst (λ (n : ℕ). Begun w n j.l) z (onward_more w (i - valid) j.l fits begun j.onward);
      }

module _ {v : List ℕ} {valid state i : ℕ} (j : Judging v valid state i) where
  -- the end of a stretch
  pub judging_stop : 0 < valid → Begins v valid 0
  judging_stop h =
      record {
        inside = omega (arith, j.low, j.high);
        onward = λ _. omega arith;
        bad = λ k. absurd (omega arith);
        good = λ _. j.front.is;
      }

  -- the end of the text
  pub judging_end : length v ≤ i → Begins v valid (i - valid)
  judging_end h =
      let w = drop valid v in
      let size = length-drop valid v in
      let low = j.low in
      let high = j.high in
      split (ltb valid i)
      (λ t. let k = ltb-true valid i t in
      begins_bad (i - valid) j.front (omega arith) (omega arith)
      (begun_end w (i - valid) j.l j.begun (omega arith) (omega arith)))
      (λ t. let k = ltb-false valid i t in
      record {
        inside = omega arith;
        onward = λ p. omega arith;
        bad = λ p. absurd (omega arith);
        good = λ _. j.front.is;
      })
