-- How a step goes at each cursor, that it ends only at the terminator, where it refuses, and where the next one begins (RULES.md,
-- "Admission and one step").
use Prim.Native.Nat.{ℕ, ◌≤◌, ◌<◌}
use mathlib.Core.Path.{◌≡◌, refl, sym, ap, ◌∙◌}
use mathlib.Core.List.{List}
use mathlib.Core.Bool.{Bool, true, false, cond, ◌&&◌}
use mathlib.Core.Logic.{◌↔◌}
use native.Mathlib.Omega.{arith}
use lib.Dec.{leb, eqb}
use lib.ListN.{length, get_or}
use borrow.Author.Tests.{le-leb, eq-eqb, eqb-true}
use Rattle.bson.specs.Answer.{Answer, gives, refuses, then, at, unless}
use Rattle.bson.specs.Bytes.{declares}
use Rattle.bson.specs.Cstring.{Limit}
use Rattle.bson.specs.Step.{terminator, admitted, Cursor, cursor, Element, past, element_under, yield, end, yielding_under, step_under, after}
use Rattle.laws.proofs.AnswerLaws.{never}
use Rattle.laws.proofs.Common.{split}
use Rattle.laws.proofs.StepLaws.{admitted_says, step_admits, step_yields}

-- ---- what a step answers, by its offset

-- where a step may begin
abbrev pub begins : List ℕ → ℕ → Bool
begins s offset = leb 4 offset && leb offset (terminator s)

pub step_unadmitted : (limit : Limit) (s : List ℕ) (c : Cursor) (n p : ℕ) → admitted s ≡ refuses n p → step_under limit s c ≡ refuses n p
unfolding step_under
step_unadmitted limit s c n p a = rw a

-- a step at an element does not end
no_end : (x : Answer Element) (p : ℕ) → at p (then x λ e. gives (yield e)) ≡ gives end → ⊥
no_end (gives e) p q = let z : ◌≡◌ {A = ℕ} 0 1 = cc in omega arith
no_end (refuses n k) p q = never q

-- what is refused at a place has that place
pub at_place : {A : Type 0} (x : Answer A) (k n p : ℕ) → at k x ≡ refuses n p → p ≡ k
at_place (gives a) k n p q = never (sym q)
at_place (refuses m r) k n p q = cc

module _ (limit : Limit) (s : List ℕ) (m : ℕ) (a : admitted s ≡ gives m) where
  pub step_ended : (offset : ℕ) → step_under limit s (cursor offset true) ≡ gives end
  unfolding step_under
  step_ended offset = rw a

  pub step_outside : (offset : ℕ) → begins s offset ≡ false → step_under limit s (cursor offset false) ≡ refuses 4 offset
  unfolding step_under
  step_outside offset b = rw (a, b)

  pub step_terminator : step_under limit s (cursor (terminator s) false) ≡ gives end
  unfolding step_under
  step_terminator =
      let k = (admitted_says s m a).0 in
      let l : 4 ≤ terminator s = omega arith in
      let h : terminator s ≤ terminator s = omega arith in
      rw (a, le-leb 4 (terminator s) l, le-leb (terminator s) (terminator s) h, eq-eqb (terminator s) (terminator s) refl)

  pub step_inside : (offset : ℕ) → begins s offset ≡ true → eqb offset (terminator s) ≡ false
      → step_under limit s (cursor offset false) ≡ at offset (yielding_under limit s offset)
  unfolding step_under
  step_inside offset b e = rw (a, b, e)

  ends_only : (offset : ℕ) → step_under limit s (cursor offset false) ≡ gives end → offset ≡ terminator s
  ends_only offset e =
      split (eqb offset (terminator s))
      (λ t. eqb-true offset (terminator s) t)
      (λ t. split (begins s offset)
      (λ b. absurd (no_end (element_under limit s offset) offset (sym (step_inside offset b t) ∙ e)))
      (λ b. never (sym (step_outside offset b) ∙ e)))

  -- an unended cursor on an admitted slice answers end exactly where its offset is the terminator
  pub step_ends : (offset : ℕ) → (step_under limit s (cursor offset false) ≡ gives end) ↔ (offset ≡ terminator s)
  step_ends offset = (ends_only offset, λ e. ap (λ (o : ℕ). step_under limit s (cursor o false)) e ∙ step_terminator)

  -- a step on an admitted slice refuses at its offset
  pub refused_place : (offset n p : ℕ) → step_under limit s (cursor offset false) ≡ refuses n p → p ≡ offset
  unfolding step_under
  refused_place offset n p q =
      at_place (unless (begins s offset) 4 (cond (eqb offset (terminator s)) (gives end) (yielding_under limit s offset))) offset n p
      (rw a at q)

-- ---- the place of a refusal

unless_at_0 : {A : Type 0} (b : Bool) (k : ℕ) (x : Answer A) (n p : ℕ) → (x ≡ refuses n p → p ≡ 0) → unless b k x ≡ refuses n p → p ≡ 0
unless_at_0 true k x n p f q = f q
unless_at_0 false k x n p f q = cc

admission_at_0 : (s : List ℕ) (n p : ℕ) → admitted s ≡ refuses n p → p ≡ 0
unfolding admitted
admission_at_0 s n p =
    unless_at_0 (leb 5 (length s)) 1 _ n p
    (unless_at_0 (declares s (length s)) 2 _ n p
    (unless_at_0 (eqb (get_or s (terminator s) 0) 0) 3 _ n p (λ q. never (sym q))))

-- the place of a step's refusal does not lie behind its offset
pub refused_before : (limit : Limit) (s : List ℕ) (offset n p : ℕ) → step_under limit s (cursor offset false) ≡ refuses n p → p ≤ offset
refused_before limit s offset n p q = of (admitted s) refl
  where
    of : (x : Answer ℕ) → admitted s ≡ x → p ≤ offset
    of (gives m) a = omega (arith, refused_place limit s m a offset n p q)
    of (refuses k r) a =
        let u = sym (step_unadmitted limit s (cursor offset false) k r a) ∙ q in
        let i : r ≡ p = cc in
        omega (arith, admission_at_0 s k r a)

-- ---- where the next step begins

pub ended_at : (limit : Limit) (s : List ℕ) (offset : ℕ) → step_under limit s (cursor offset false) ≡ gives end → offset ≡ terminator s
ended_at limit s offset e = (step_ends limit s _ (step_admits _ s (cursor offset false) end e) offset).0 e

-- the next step begins where the element's value ends, which lies behind where this one began
pub next_begins : (limit : Limit) (s : List ℕ) (c : Cursor) (e : Element) → step_under limit s c ≡ gives (yield e)
    → (after c (step_under limit s c) ≡ cursor (past e) false) × (c.offset < past e)
next_begins limit s c e x = let y = step_yields _ s c e x in (ap (after c) x, omega arith)

-- so does a cursor that stands behind it
pub next_lands : (limit : Limit) (s : List ℕ) (c : Cursor) {next : ℕ} {ended : Bool} {e : Element} → step_under limit s c ≡ gives (yield e)
    → after c (step_under limit s c) ≡ cursor next ended → next ≡ past e
next_lands limit s c x a = ap (λ (d : Cursor). d.offset) (sym a ∙ (next_begins _ s c _ x).0)
