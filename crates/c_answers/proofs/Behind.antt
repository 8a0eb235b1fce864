-- Proof that the numbers of a step lie one behind the other (RULES.md, request 13; module 8).
use Prim.Native.Nat.{ℕ, ◌<◌}
use mathlib.Core.Path.{◌≡◌, refl, sym, ◌∙◌}
use mathlib.Core.List.{List}
use mathlib.Core.Bool.{true, false, true≢false}
use native.Mathlib.Omega.{arith}
use borrow.Author.Tests.{ne_eqb}
use Rattle.bson.specs.Answer.{Answer, gives, refuses}
use Rattle.bson.specs.Cstring.{Limit}
use Rattle.bson.specs.Step.{admitted, cursor, Step, yield, end, step_under, after}
use Rattle.laws.proofs.AdvanceLaws.{ended_at, refused_place, step_unadmitted}
use Rattle.laws.proofs.AnswerLaws.{one_of, refused_in}
use Rattle.laws.proofs.ReadRefusals.{NoZero, no_zero_under, steps, step_in, admissions, admitted_in}
use Rattle.laws.proofs.StepLaws.{step_yields}
use Rattle.c_answers.specs.Numbers.{stepped}
use Rattle.c_answers.specs.Behind.{StepSays}
use Rattle.c_answers.specs.declared.StepNumbers.{StepNumbers}

-- admission refuses by no number above 3
admission_low : (n : ℕ) → one_of admissions n ≡ true → 3 < n → ⊥
admission_low n h i =
    true≢false (sym (rw (ne_eqb n 1 (λ e. omega arith), ne_eqb n 2 (λ e. omega arith), ne_eqb n 3 (λ e. omega arith)) at h))

module _ (limit : Limit) (s : List ℕ) (offset : ℕ) where
  abbrev pub answer : Answer Step
  answer = step_under limit s (cursor offset false)

  refused_there : (n p : ℕ) → answer ≡ refuses n p → 3 < n → (a : Answer ℕ) → admitted s ≡ a → p ≡ offset
  refused_there n p q i (gives m) e = refused_place limit s m e offset n p q
  refused_there n p q i (refuses k r) e =
      let j : refuses k r ≡ refuses n p = sym (step_unadmitted limit s (cursor offset false) k r e) ∙ q in
      let z : k ≡ n = cc in
      absurd (admission_low n (rw z at (refused_in (admitted_in s) e)) i)

  says : (x : Answer Step) → NoZero x → answer ≡ x → StepSays s offset (stepped x (after (cursor offset false) x))
  says (gives (yield e)) z q =
      let y = step_yields limit s (cursor offset false) e q in
      record {
        yields = λ n d. record { place = y.placed; key = omega (arith, y.placed, y.key_at_law); value = y.value_at; next = refl };
        ends = λ n d. absurd (true≢false (sym d));
        refused = λ i. absurd (omega (arith, i));
      }
  says (gives end) z q =
      record {
        yields = λ n d. absurd (true≢false d);
        ends = λ n d. ended_at limit s offset q;
        refused = λ i. absurd
            (omega (arith, i));
      }
  says (refuses number place) z q =
      record {
        yields = λ n d. absurd (omega (arith, n));
        ends = λ n d. absurd (omega (arith, n));
        refused = λ i. refused_there number place q i (admitted s) refl;
      }

  pub step_says : (v : StepNumbers) → v ≡ stepped answer (after (cursor offset false) answer) → StepSays s offset v
  step_says v e = rw e (says answer (no_zero_under steps limit refl (λ m. refl) (step_in limit s (cursor offset false))) refl)
