-- Which states can be, and the kind of the innermost, as the code tests it (RULES.md, "Writer and joining").
use Prim.Native.Nat.{ℕ, zero, suc, ◌+◌, ◌-◌, ◌≤◌, ◌<◌, min}
use mathlib.Core.Path.{◌≡◌, ◌∙◌}
use mathlib.Core.List.{List}
use mathlib.Core.Bool.{Bool, true, false, ◌&&◌}
use native.Mathlib.Numerals.{sub-one}
use native.Mathlib.Omega.{arith}
use lib.Dec.{eqb, leb}
use Rattle.std.proofs.Math.Nat.{min-eq_left, min-eq_right}
use Rattle.laws.proofs.Common.{split}
use borrow.Author.Tests.{leb-true, leb-false, le-leb, lt-leb, lt-ltb, le-ltb}
use Rattle.std.specs.Prelude.{Result, Ok, Err, MatchResult}
use Rattle.bson.specs.Answer.{Answer, refuses}
use Rattle.bson.specs.Writer as paper
use Rattle.bson.specs.Writer.{used, depth, start, mark, kind_holds, stands, stand, room, possible, innermost}
use Rattle.refusal.specs.Said.{said_by}
use Rattle.refusal.specs.declared.Refusal.{Refusal}
use Rattle.writer_state.specs.Said.{said_kind}
use Rattle.writer_state.specs.declared.Kind.{Kind}

module _ (w : List ℕ) (i end : ℕ) where
  pub start_late : end < start w i + 4 → false ≡ stands w i end
  unfolding stands
  start_late h = rw (lt-leb _ _ h)

  pub kind_decides : start w i + 4 ≤ end → (r : Result Kind Refusal) → said_by said_kind r ≡ paper.kind_of (mark w i)
      → (b : Bool) → MatchResult r (λ k. b ≡ kind_holds (used w) (said_kind k)) (λ _. b ≡ false) → b ≡ stands w i end
  unfolding stands
  kind_decides h (Ok k) e b m = rw (le-leb _ _ h, ← e) m
  kind_decides h (Err why) e b m = rw (le-leb _ _ h, ← e) m

-- the smaller of two, as the definition tests it
pub smaller : (n : ℕ) → min n 2147483647 ≡ room n
unfolding room
smaller n =
    split (leb n 2147483647)
    (λ t. rw (t, min-eq_left (leb-true n 2147483647 t)))
    (λ t. let h = leb-false n 2147483647 t in rw (t, min-eq_right {n = 2147483647} {m = n} (omega arith)))

stand_turn : (w : List ℕ) (i end : ℕ) → 0 < i → stand w i end ≡ stands w (i - 1) end && stand w (i - 1) (start w (i - 1))
unfolding stand
stand_turn w zero end h = elim h [ ]
stand_turn w (suc i) end h = simp (sub-one)

module _ (w : List ℕ) (i end : ℕ) (h : 0 < i) where
  pub stand_refused : stands w (i - 1) end ≡ false → stand w i end ≡ false
  stand_refused e = stand_turn w i end h ∙ rw e

  pub stand_onward : stands w (i - 1) end ≡ true → stand w i end ≡ stand w (i - 1) (start w (i - 1))
  stand_onward e = stand_turn w i end h ∙ rw e

pub stand_last : (w : List ℕ) (i end : ℕ) → i ≡ 0 → stand w i end ≡ eqb end 0
unfolding stand
stand_last w i end e = rw e

-- which states can be, by the numbers that the code has
module _ (w : List ℕ) (room d : ℕ) (ed : d ≡ depth w) where
  pub too_many : 202 < d → false ≡ possible w room
  unfolding possible
  too_many h = rw (lt-leb (depth w) 202 (omega arith))

  pub past_the_room : d ≤ 202 → (u : ℕ) → u ≡ used w → room < u + d → false ≡ possible w room
  unfolding possible
  past_the_room h u eu g = rw (le-leb (depth w) 202 (omega arith), lt-leb (used w + depth w) room (omega arith))

  pub open_decide : d ≤ 202 → (u : ℕ) → u ≡ used w → u + d ≤ room → (b : Bool) → b ≡ stand w d (used w) → b ≡ possible w room
  unfolding possible
  open_decide h u eu g b e = rw (le-leb (depth w) 202 (omega arith), le-leb (used w + depth w) room (omega arith), ← ed) e

  -- and the kind of the innermost
  pub innermost_told : (b : Bool) → b ≡ possible w room → b ≡ true → 0 < d → (a : Answer paper.Kind) → a ≡ paper.kind_of (mark w (d - 1))
      → a ≡ innermost w room
  unfolding innermost
  innermost_told b eb t h a e = rw (← eb, t, ← ed, lt-ltb 0 d h) e

  pub nothing_open : (b : Bool) → b ≡ possible w room → b ≡ true → d ≤ 0 → refuses 18 0 ≡ innermost w room
  unfolding innermost
  nothing_open b eb t h = rw (← eb, t, ← ed, le-ltb 0 d h)

pub impossible : (w : List ℕ) (room : ℕ) (b : Bool) → b ≡ possible w room → b ≡ false → refuses 18 0 ≡ innermost w room
unfolding innermost
impossible w room b eb t = rw (← eb, t)
