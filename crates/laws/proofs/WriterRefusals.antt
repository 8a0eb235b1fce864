-- The numbers by which the writer refuses a call: 13, 14, 15 or 18, and a closing by 18 alone, so 0 tells an accepted call; and that a
-- refused one changes nothing (RULES.md, "Writer and joining").
use Prim.Native.Nat.{ℕ, ◌+◌, ◌-◌}
use mathlib.Core.Path.{◌≡◌, refl, sym}
use mathlib.Core.List.{List, [], ◌∷◌}
use mathlib.Core.Bool.{Bool, true, true≢false, ◌&&◌}
use lib.Dec.{leb, ltb, eqb}
use lib.ListN.{length}
use borrow.Author.Tests.{eqb-true}
use Rattle.bson.specs.Answer.{Answer, gives, refuses}
use Rattle.bson.specs.Bytes.{natural}
use Rattle.bson.specs.Grammar.{bytes32, row, embedded, nest_tag}
use Rattle.bson.specs.Writer.{State, used, depth, mark, kind_of, possible, Desk, desk, room_of, innermost, next_depth, key_in, key_passes}
use Rattle.bson.specs.Writer.{room_for, appended, opened_in, opened_top, closed, Call, open_top, close, append, open_nest, answer, leaves}
use Rattle.bson.specs.Writer.{performed}
use Rattle.laws.proofs.AnswerLaws.{one_of, RefusesIn, given, then_in, unless_in, cond_in, refused_in}
use Rattle.laws.proofs.Common.{split}

-- ---- which numbers a call may give

module _ {ms : List ℕ} (e18 : one_of ms 18 ≡ true) where
  kind_in : (m : ℕ) → RefusesIn ms (kind_of m)
  unfolding kind_of
  kind_in m = cond_in (natural m) given (unless_in (eqb m 0xFFFF_FFFF) 18 e18 given)

  innermost_in : (w : State) (room : ℕ) → RefusesIn ms (innermost w room)
  unfolding innermost
  innermost_in w room = unless_in (possible w room) 18 e18 (unless_in (ltb 0 (depth w)) 18 e18 (kind_in (mark w (depth w - 1))))

  closed_in : (d : Desk) → RefusesIn ms (closed d)
  unfolding closed
  closed_in d = then_in (innermost_in d.state (room_of d)) (λ kind q. given)

abbrev refusals : List ℕ
refusals = 13 ∷ 14 ∷ 15 ∷ 18 ∷ []

room_in : (w : State) (space more : ℕ) (key : List ℕ) (good : Bool) (size : ℕ) → RefusesIn refusals (room_for w space more key good size)
unfolding room_for
room_in w space more key good size =
    then_in (innermost_in refl w space) λ kind q.
    unless_in (leb (next_depth w) 200) 13 refl
    (unless_in (key_passes kind key && good) 15 refl
    (unless_in (leb (used w + (2 + length (key_in kind key) + size) + (depth w + more)) space) 14 refl given))

pub room_refused : (w : State) (space more : ℕ) (key : List ℕ) (good : Bool) (size n p : ℕ)
    → room_for w space more key good size ≡ refuses n p → one_of (13 ∷ 14 ∷ 15 ∷ 18 ∷ []) n ≡ true
room_refused w space more key good size n p = refused_in (room_in w space more key good size)

appended_in : (d : Desk) (more tag : ℕ) (key : List ℕ) (good : Bool) (value : List ℕ)
    → RefusesIn refusals (appended d more tag key good value)
unfolding appended
appended_in d more tag key good value = then_in (room_in d.state (room_of d) more key good (length value)) (λ kind q. given)

pub appended_refused : (d : Desk) (more tag : ℕ) (key : List ℕ) (good : Bool) (value : List ℕ) (n p : ℕ)
    → appended d more tag key good value ≡ refuses n p → one_of (13 ∷ 14 ∷ 15 ∷ 18 ∷ []) n ≡ true
appended_refused d more tag key good value n p = refused_in (appended_in d more tag key good value)

answer_in : (c : Call) (d : Desk) → RefusesIn refusals (answer c d)
unfolding answer opened_top opened_in
answer_in open_top d =
    unless_in (possible d.state (room_of d) && eqb (depth d.state) 0) 18 refl (unless_in (leb 5 (room_of d)) 14 refl given)
answer_in close d = closed_in refl d
answer_in (append key v) d = appended_in d 0 (row v).tag key (row v).good (row v).value
answer_in (open_nest n key) d = then_in (appended_in d 1 (nest_tag (embedded n)) key true (bytes32 5)) (λ e q. given)

-- "order: 18, 13, 15, 14"
pub refused_number : (c : Call) (d : Desk) (n p : ℕ) → answer c d ≡ refuses n p → one_of (13 ∷ 14 ∷ 15 ∷ 18 ∷ []) n ≡ true
refused_number c d n p = refused_in (answer_in c d)

-- closing is refused for its state alone
pub close_refused : (d : Desk) (n p : ℕ) → answer close d ≡ refuses n p → n ≡ 18
unfolding answer
close_refused d n p e =
    split (eqb n 18) (λ t. eqb-true n 18 t)
    (λ t. let z : one_of (18 ∷ []) n ≡ true = refused_in {ms = 18 ∷ []} (closed_in refl d) e in
    absurd (true≢false (sym (rw t at z))))

-- ---- 0 tells an accepted call

-- so 0 tells an accepted call
pub accepted_from : (d : Desk) (x : Answer Desk) → ((n p : ℕ) → x ≡ refuses n p → one_of (13 ∷ 14 ∷ 15 ∷ 18 ∷ []) n ≡ true)
    → (leaves d x).number ≡ 0 → x ≡ gives (leaves d x).left
accepted_from d (gives e) r h = refl
accepted_from d (refuses n p) r h = absurd (true≢false (sym (rw h at (r n p refl))))

pub accepted : (c : Call) (state : State) (buffer : List ℕ) → (performed c state buffer).number ≡ 0
    → answer c (desk state buffer) ≡ gives (performed c state buffer).left
unfolding performed
accepted c state buffer h = accepted_from (desk state buffer) (answer c (desk state buffer)) (refused_number c (desk state buffer)) h

-- "a refused call changes no byte of a lent buffer and no writer state"

-- ---- a refused call

leaves_unchanged : (d : Desk) (x : Answer Desk) → ((leaves d x).number ≡ 0 → ⊥) → (leaves d x).left ≡ d
leaves_unchanged d (gives e) h = absurd (h refl)
leaves_unchanged d (refuses n p) h = refl

pub unchanged : (c : Call) (state : State) (buffer : List ℕ) → ((performed c state buffer).number ≡ 0 → ⊥)
    → (performed c state buffer).left ≡ desk state buffer
unfolding performed
unchanged c state buffer = leaves_unchanged (desk state buffer) (answer c (desk state buffer))
