-- The walk as the code goes along it: what each answer of a step and of an opened value means for the whole walk (RULES.md, "The whole
-- check").
use Prim.Native.Nat.{ℕ, suc, ◌+◌, ◌≤◌, ◌<◌}
use mathlib.Core.Path.{◌≡◌, refl, sym, ap, subst, ◌∙◌}
use mathlib.Core.List.{List}
use mathlib.Core.Bool.{Bool, true, false, true≢false, ◌&&◌}
use native.Mathlib.Omega.{arith}
use lib.ListN.{length}
use Rattle.bson.specs.Answer.{Answer, gives, refuses, then}
use Rattle.bson.specs.Bytes.{Part, bytes}
use Rattle.bson.specs.Cstring.{Limit}
use Rattle.bson.specs.Step.{cursor, Cursor, Element, past, yield, end, step_under}
use Rattle.bson.specs.Value.{Value, leaf, document, array, code_with_scope}
use Rattle.bson.specs.Level.{Opening, closed, opens, opening, Level, deeper}
use Rattle.bson.specs.ArrayKey.{good_array_key}
use Rattle.bson.specs.Check.{Walk, key_passes, visit, opened, walk_under}
use Rattle.laws.specs.FramedAt.{FramedAt}
use Rattle.laws.proofs.StepLaws.{step_yields}
use Rattle.laws.proofs.OpenLaws.{value_opens}
use Rattle.laws.proofs.CheckLaws.{visit_says, visit_keyed, visit_bad_key, walk_from, walk_eq, walk_ends, walk_refused, walk_onward}
use Rattle.std.specs.Prelude.{Option, Ok, Err}
use Rattle.refusal.specs.Said.{number}
use Rattle.refusal.specs.declared.Refusal.{Refusal}
use Rattle.visit.specs.Said.{said_opening, said_visited}
use Rattle.visit.specs.declared.Opened.{Opened}

-- ---- places

-- an element that a step yields stands at its place
pub yields_placed : (limit : Limit) (s : List ℕ) (offset : ℕ) (e : Element) → step_under limit s (cursor offset false) ≡ gives (yield e)
    → FramedAt s (cursor e.place false) e
yields_placed limit s offset e x = let y = step_yields limit s _ e x in subst (λ (p : ℕ). FramedAt s (cursor p false) e) (sym y.placed) y

-- ---- an opened value

-- an opened value whose own key is not asked for, by what visiting it answers
module _ (walk : Walk) (s : List ℕ) (l : Level) (e : Element) where
  pub opened_refused : (n p : ℕ) → visit false s l 0 e ≡ refuses n p → refuses n p ≡ opened false walk s l 0 e
  unfolding opened
  opened_refused n p v = rw v

  pub opened_closed : visit false s l 0 e ≡ gives closed → gives 1 ≡ opened false walk s l 0 e
  unfolding opened
  opened_closed v = rw v

  pub opened_inside : (is_array : Bool) (levels : ℕ) (inner : Part) → visit false s l 0 e ≡ gives (opens is_array levels inner)
      → (d : List ℕ) → d ≡ bytes s inner → (x : Answer ℕ) → x ≡ walk d (deeper l is_array levels inner)
      → (then x λ n. gives (1 + n)) ≡ opened false walk s l 0 e
  unfolding opened
  opened_inside is_array levels inner v d b x w = rw (v, ← b, ← w)

-- one whose key is asked for: where that passes it is as one whose key is not, else it is refused with 19
module _ (walk : Walk) (strict : Bool) (s : List ℕ) (l : Level) (position : ℕ) (e : Element) where
  pub opened_keyed : key_passes strict l position (bytes s e.key) ≡ true → opened strict walk s l position e ≡ opened false walk s l 0 e
  unfolding opened
  opened_keyed k = rw (visit_keyed strict s l position e k)

  pub opened_bad_key : (counted : ℕ) → strict && l.is_array ≡ true → counted ≡ position → good_array_key counted (bytes s e.key) ≡ false
      → refuses 19 (l.base + e.place) ≡ opened strict walk s l position e
  unfolding opened
  opened_bad_key counted a p b = rw (visit_bad_key strict s l position e (rw (a, ← p, b)))

-- what is known of a key behind the question: that it passes at its position, and how many have been counted where they are asked for
module _ (strict : Bool) (l : Level) (key : List ℕ) (position counted more : ℕ) where
  pub record Asked : Type 0 where
    pub passes : key_passes strict l position key ≡ true
    pub counts : strict && l.is_array ≡ true → more ≡ suc position
    pub few : more ≤ suc counted

  pub asked_passes : strict && l.is_array ≡ true → counted ≡ position → good_array_key counted key ≡ true → more ≡ counted + 1 → Asked
  asked_passes a p good m =
      record { passes = rw (a, ← p, good); counts = λ q. omega arith; few = omega arith }

  pub not_asked : strict && l.is_array ≡ false → more ≡ counted → Asked
  not_asked a m = record { passes = rw a; counts = λ q. absurd (true≢false (sym q ∙ a)); few = omega arith }

levels_few : (x : Value) (is_array : Bool) (levels : ℕ) (inner : Part) → opening x ≡ opens is_array levels inner → levels ≤ 2
unfolding opening
levels_few (leaf x) is_array levels inner q = let z : ◌≡◌ {A = ℕ} 0 1 = cc in absurd (omega arith)
levels_few (document p) is_array levels inner q = let z : 1 ≡ levels = cc in omega arith
levels_few (array p) is_array levels inner q = let z : 1 ≡ levels = cc in omega arith
levels_few (code_with_scope x p) is_array levels inner q = let z : 2 ≡ levels = cc in omega arith

-- ---- what is inside

-- where what is inside lies, so that neither its depth nor its places grow out of bounds, and the depth left plus the bytes left fall
pub record Enters (s : List ℕ) (l : Level) (c : Cursor) (levels : ℕ) (inner : Part) : Type 0 where
  pub ends : inner.offset + inner.size ≤ length s
  pub shorter : inner.size + c.offset < length s
  pub shallow : l.depth ≤ 200
  pub few : levels ≤ 2

pub enters : (s : List ℕ) (l : Level) (c : Cursor) (e : Element) → FramedAt s c e
    → (is_array : Bool) (levels : ℕ) (inner : Part) → visit false s l 0 e ≡ gives (opens is_array levels inner)
    → Enters s l c levels inner
enters s l c e y is_array levels inner v =
    let r = visit_says false s l 0 e _ v in
    let o = value_opens s c e y r.value r.reads is_array levels inner r.is in
    record { ends = omega arith; shorter = omega arith; shallow = r.shallow; few = levels_few r.value is_array levels inner r.is }

-- ---- what a visit answered

pub visited_is : (p : ℕ) (a : Answer Opening) (o : Option Opened) → said_visited p (Ok o) ≡ a → a ≡ gives (said_opening o)
unfolding said_visited
visited_is p a o e = sym e

pub visited_refused : (p : ℕ) (a : Answer Opening) (why : Refusal) → said_visited p (Err why) ≡ a → a ≡ refuses (number why) p
unfolding said_visited
visited_refused p a why e = sym e

-- ---- what is left of the walk

-- the walk is what is left of it from an offset on, and the values counted before
abbrev pub LeftFrom : Limit → Bool → List ℕ → Level → ℕ → ℕ → ℕ → Type 0
LeftFrom limit strict s l offset count position =
    walk_under limit strict s l ≡ (then (walk_from limit strict s l position offset) λ n. gives (count + n))

then_again : (x : Answer ℕ) → x ≡ (then x λ n. gives (0 + n))
then_again (gives n) = ap gives (omega arith)
then_again (refuses n p) = refl

pub left_first : (limit : Limit) (strict : Bool) (s : List ℕ) (l : Level) → LeftFrom limit strict s l 4 0 0
left_first limit strict s l = walk_eq limit strict s l ∙ then_again _

module _ (limit : Limit) (strict : Bool) (s : List ℕ) (l : Level) (offset count position : ℕ)
    (left : LeftFrom limit strict s l offset count position) where
  pub left_ends : step_under limit s (cursor offset false) ≡ gives end → gives count ≡ walk_under limit strict s l
  left_ends e = sym (left ∙ rw (walk_ends limit strict s l position offset e) (ap gives (omega arith)))

  pub left_refused : (n p : ℕ) → step_under limit s (cursor offset false) ≡ refuses n p
      → refuses n (l.base + p) ≡ walk_under limit strict s l
  left_refused n p e = sym (left ∙ rw (walk_refused limit strict s l position offset n p e))

  module _ (e : Element) (y : step_under limit s (cursor offset false) ≡ gives (yield e)) where
    pub left_value_refused : (n p : ℕ) → refuses n p ≡ opened strict (walk_under limit strict) s l position e
        → refuses n p ≡ walk_under limit strict s l
    left_value_refused n p o = sym (left ∙ rw (walk_onward limit strict s l position offset e y, ← o))

    pub left_onward : (values : ℕ) → gives values ≡ opened strict (walk_under limit strict) s l position e
        → LeftFrom limit strict s l (past e) (count + values) (suc position)
    left_onward values o =
        left ∙ rw (walk_onward limit strict s l position offset e y, ← o) (counted (walk_from limit strict s l (suc position) (past e)))
      where
        counted : (x : Answer ℕ) → (then (then x λ m. gives (values + m)) λ n. gives (count + n)) ≡ (then x λ n. gives (count + values + n))
        counted (gives n) = ap gives (omega arith)
        counted (refuses n p) = refl
