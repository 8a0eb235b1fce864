-- Determined: the promise of each call allows one answer (RULES.md, "What every answer is bound to").
use mathlib.Core.Path.{◌≡◌, refl, sym, ap, ◌∙◌}
use contract.Lifetimes.{Lfts}
use borrow.Fn.Kinds.{Dens}
use Rattle.std.specs.Prelude.{Option, None, Some, Result}
use Rattle.bson.specs.Answer.{Answer}
use Rattle.bson.specs.Step as paper
use Rattle.laws.proofs.Determined.{Determined, DeterminedPart, injective_by}
use Rattle.part.proofs.Determined.{unsaid_part}
use Rattle.refusal.proofs.Determined.{placed_by_injective}
use Rattle.refusal.specs.declared.Refused.{Refused}
use Rattle.iter.specs.Said.{said_cursor, said_element, element_sized, step_of, said_answer, Answers}
use Rattle.iter.specs.declared.Cursor.{Cursor}
use Rattle.iter.specs.declared.Element.{Element}
use Rattle.iter.specs.declared.Sizes.{Sizes}
use Rattle.iter.specs.declared.Step.{Step}
use Rattle.iter.proofs.element_of.Reads as element_of_reads
use Rattle.iter.proofs.element_of.Kinds as element_of_kinds
use Rattle.iter.proofs.sizes_at.Reads as sizes_at_reads
use Rattle.iter.proofs.sizes_at.Kinds as sizes_at_kinds
use Rattle.iter.proofs.next.Reads as next_reads
use Rattle.iter.proofs.next.Kinds as next_kinds
use Rattle.iter.proofs.key_at.Reads as key_at_reads
use Rattle.iter.proofs.key_at.Kinds as key_at_kinds

-- ---- elements and sizes

abbrev pub unsaid_element : paper.Element → Element
unsaid_element e = record { place = e.place; tag = e.tag; key = unsaid_part e.key; value = unsaid_part e.value }

pub element_of_determined : (κs : Lfts 0) (a : Dens κs element_of_kinds.ps) → Determined (element_of_reads.Post κs a)
element_of_determined κs a r₁ r₂ s₁ s₂ p q = injective_by said_element unsaid_element (λ e. refl) r₁ r₂ (p ∙ sym q)

abbrev sizes_of : paper.Element → Sizes
sizes_of e = record { tag = e.tag; key = e.key.size; value = e.value.size }

-- what a step yields, back from paper
abbrev unstep : {E : Type 0} → (paper.Element → E) → paper.Step → Option E
unstep un (paper.yield e) = Some (un e)
unstep un paper.end = None

unstep_again : {E : Type 0} (f : E → paper.Element) (un : paper.Element → E) → ((e : E) → un (f e) ≡ e)
    → (x : Option E) → unstep un (step_of f x) ≡ x
unstep_again f un back None = refl
unstep_again f un back (Some e) = ap Some (back e)

pub sizes_at_determined : (κs : Lfts 1) (a : Dens κs sizes_at_kinds.ps) → Determined (sizes_at_reads.Post κs a)
sizes_at_determined κs a r₁ r₂ s₁ s₂ p q =
    placed_by_injective (step_of (element_sized _)) (unstep sizes_of) (unstep_again (element_sized _) sizes_of (λ z. refl))
    r₁ r₂ (p ∙ sym q)

-- ---- steps

pub said_answer_injective : (r₁ r₂ : Result (Option Element) Refused) → said_answer r₁ ≡ said_answer r₂ → r₁ ≡ r₂
said_answer_injective =
    placed_by_injective (step_of said_element) (unstep unsaid_element) (unstep_again said_element unsaid_element (λ e. refl))

abbrev unsaid_cursor : paper.Cursor → Cursor
unsaid_cursor c = record { offset = c.offset; ended = c.ended }

-- an answer and the cursor behind it
both : (r₁ r₂ : Step) → r₁.answer ≡ r₂.answer → r₁.next ≡ r₂.next → r₁ ≡ r₂
both r₁ r₂ e f = λ i. record { answer = e i; next = f i }

pub answers_determined : (r₁ r₂ : Step) (c : paper.Cursor) (x : Answer paper.Step) → Answers r₁ c x → Answers r₂ c x → r₁ ≡ r₂
answers_determined r₁ r₂ c x p q =
    both r₁ r₂ (said_answer_injective r₁.answer r₂.answer (p.0 ∙ sym q.0)) (ap unsaid_cursor (p.1 ∙ sym q.1))

pub next_determined : (κs : Lfts 1) (a : Dens κs next_kinds.ps) → Determined (next_reads.Post κs a)
next_determined κs a r₁ r₂ s₁ s₂ p q = answers_determined r₁ r₂ (said_cursor a.1.0) _ p q

-- ---- keys

pub key_at_determined : (κs : Lfts 1) (a : Dens κs key_at_kinds.ps) → DeterminedPart (λ x. x.now) (key_at_reads.Post κs a)
key_at_determined κs a r₁ r₂ s₁ s₂ p q = p ∙ sym q
