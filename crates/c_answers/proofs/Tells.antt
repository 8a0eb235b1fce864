-- The numbers that C is handed for the check, `is_empty`, joining and a step tell the answer: it is had again from them (RULES.md, "Numbers
-- returned" and module 8), whatever the limits.
use Prim.Native.Nat.{ℕ, ◌<◌}
use mathlib.Core.Path.{◌≡◌, refl, sym, ap, ◌∙◌}
use mathlib.Core.List.{List}
use mathlib.Core.Bool.{Bool, true, false, cond}
use mathlib.Core.Logic.{inl, inr}
use native.Mathlib.Omega.{arith}
use lib.Dec.{eqb}
use borrow.Author.Tests.{ne_eqb}
use Rattle.bson.specs.Answer.{Answer, gives, refuses}
use Rattle.bson.specs.Bytes.{part}
use Rattle.bson.specs.Cstring.{Limit, unlimited}
use Rattle.bson.specs.Check.{check_under}
use Rattle.bson.specs.Join.{Outcome, wrote, refused, join}
use Rattle.bson.specs.Lookup.{is_empty}
use Rattle.bson.specs.Step.{Cursor, cursor, Step, yield, end, step_under, after}
use Rattle.laws.proofs.ReadRefusals.{NoZero, one_above, no_zero, no_zero_under, steps, damage, checks, JoinsIn, step_in, empty_in, check_in}
use Rattle.laws.proofs.ReadRefusals.{join_in}
use Rattle.c_answers.specs.Numbers.{verdict, emptiness, joined, stepped}
use Rattle.c_answers.specs.declared.VerdictNumbers.{VerdictNumbers}
use Rattle.c_answers.specs.declared.JoinedNumbers.{JoinedNumbers}
use Rattle.c_answers.specs.declared.StepNumbers.{StepNumbers}

-- ---- numbers and answers

-- numbers from which answers are had again tell them
pub tells : {A N : Type 0} (back : N → A) {m n : N} {a b : A} → back m ≡ a → back n ≡ b → m ≡ n → a ≡ b
tells back p q e = sym p ∙ ap back e ∙ q

-- the answer of these numbers, where 0 is no refusal
abbrev pub answer_of : {A : Type 0} → ℕ → ℕ → A → Answer A
answer_of number place a = cond (eqb number 0) (gives a) (refuses number place)

pub answer_refused : {A : Type 0} (number place : ℕ) (a : A) → 0 < number → answer_of number place a ≡ refuses number place
answer_refused number place a h = rw (ne_eqb number 0 (λ e. omega arith))

-- ---- the check

abbrev verdict_of : VerdictNumbers → Answer ℕ
verdict_of v = answer_of v.number v.place v.count

verdict_back : (a : Answer ℕ) → NoZero a → verdict_of (verdict a) ≡ a
verdict_back (gives n) h = refl
verdict_back (refuses number place) h = answer_refused number place _ h

pub verdict_tells : (a b : Answer ℕ) → NoZero a → NoZero b → verdict a ≡ verdict b → a ≡ b
verdict_tells a b h k = tells verdict_of (verdict_back a h) (verdict_back b k)

pub check_tells : (limit limit' : Limit) (strict strict' : Bool) (s t : List ℕ)
    → verdict (check_under limit strict s) ≡ verdict (check_under limit' strict' t) → check_under limit strict s ≡ check_under limit' strict' t
check_tells limit limit' strict strict' s t = verdict_tells _ _ (check_no_zero limit strict s) (check_no_zero limit' strict' t)
  where
    check_no_zero : (l : Limit) (b : Bool) (v : List ℕ) → NoZero (check_under l b v)
    check_no_zero l false v = no_zero_under (λ k. checks k false) l refl (λ m. refl) (check_in l false v)
    check_no_zero l true v = no_zero_under (λ k. checks k true) l refl (λ m. refl) (check_in l true v)

-- ---- is_empty

abbrev emptiness_of : VerdictNumbers → Answer Bool
emptiness_of v = answer_of v.number v.place (eqb v.count 1)

emptiness_back : (a : Answer Bool) → NoZero a → emptiness_of (emptiness a) ≡ a
emptiness_back (gives true) h = refl
emptiness_back (gives false) h = refl
emptiness_back (refuses number place) h = answer_refused number place _ h

pub emptiness_tells : (a b : Answer Bool) → NoZero a → NoZero b → emptiness a ≡ emptiness b → a ≡ b
emptiness_tells a b h k = tells emptiness_of (emptiness_back a h) (emptiness_back b k)

pub empty_tells : (s t : List ℕ) → emptiness (is_empty s) ≡ emptiness (is_empty t) → is_empty s ≡ is_empty t
empty_tells s t = emptiness_tells _ _ (no_zero refl (empty_in s)) (no_zero refl (empty_in t))

-- ---- joining

abbrev outcome_of : JoinedNumbers → Outcome
outcome_of v = cond (eqb v.number 0) (wrote v.length) (refused v.number v.place v.which)

joined_back : (a : Outcome) → JoinsIn a → outcome_of (joined a) ≡ a
joined_back (wrote n) h = refl
joined_back (refused number place which) (inl h) =
    let k = one_above (damage unlimited) number refl h.0 in rw (ne_eqb number 0 (λ e. omega arith))
joined_back (refused number place which) (inr h) = rw (ne_eqb number 0 (λ e. omega arith))

pub joined_tells : (a b : Outcome) → JoinsIn a → JoinsIn b → joined a ≡ joined b → a ≡ b
joined_tells a b h k = tells outcome_of (joined_back a h) (joined_back b k)

pub join_tells : (first second buffer first' second' buffer' : List ℕ)
    → joined (join first second buffer).outcome ≡ joined (join first' second' buffer').outcome
    → (join first second buffer).outcome ≡ (join first' second' buffer').outcome
join_tells first second buffer first' second' buffer' = joined_tells _ _ (join_in first second buffer) (join_in first' second' buffer')

-- ---- steps

-- the cursor behind a step is ended unless an element was yielded
abbrev step_of : StepNumbers → Answer Step
step_of v =
    answer_of v.number v.place
    (cond v.ended
    end
    (yield (record {
      place = v.place;
      tag = v.tag;
      key = part v.key_offset v.key_size;
      value = part v.framed_offset v.framed_size;
    })))

abbrev cursor_of : StepNumbers → Cursor
cursor_of v = cursor v.next v.ended

module _ (c : Cursor) where
  step_back : (x : Answer Step) → NoZero x → step_of (stepped x (after c x)) ≡ x
  step_back (gives (yield e)) h = refl
  step_back (gives end) h = refl
  step_back (refuses number place) h = answer_refused number place end h

  cursor_back : (x : Answer Step) → cursor_of (stepped x (after c x)) ≡ after c x
  cursor_back (gives (yield e)) = refl
  cursor_back (gives end) = refl
  cursor_back (refuses number place) = refl

pub step_no_zero : (limit : Limit) (s : List ℕ) (c : Cursor) → NoZero (step_under limit s c)
step_no_zero limit s c = no_zero_under steps limit refl (λ m. refl) (step_in limit s c)

pub stepped_tells : (c d : Cursor) (x y : Answer Step) → NoZero x → NoZero y → stepped x (after c x) ≡ stepped y (after d y)
    → (x ≡ y) × (after c x ≡ after d y)
stepped_tells c d x y h k e = (tells step_of (step_back c x h) (step_back d y k) e, tells cursor_of (cursor_back c x) (cursor_back d y) e)

pub step_tells : (limit limit' : Limit) (s t : List ℕ) (c d : Cursor)
    → stepped (step_under limit s c) (after c (step_under limit s c)) ≡ stepped (step_under limit' t d) (after d (step_under limit' t d))
    → (step_under limit s c ≡ step_under limit' t d) × (after c (step_under limit s c) ≡ after d (step_under limit' t d))
step_tells limit limit' s t c d = stepped_tells c d _ _ (step_no_zero limit s c) (step_no_zero limit' t d)
