-- Determined: the promise of each call allows one answer (RULES.md, "What every answer is bound to").
use mathlib.Core.Path.{◌≡◌, refl, sym, ◌∙◌}
use contract.Lifetimes.{Lfts}
use borrow.Fn.Kinds.{Dens}
use Rattle.bson.specs.Lookup as paper
use Rattle.laws.proofs.Determined.{Determined, DeterminedPart}
use Rattle.refusal.proofs.Determined.{placed_injective, placed_by_injective}
use Rattle.iter.specs.Said.{said_element}
use Rattle.iter.proofs.Determined.{unsaid_element}
use Rattle.value.proofs.Determined.{unsaid_value, value_again}
use Rattle.document.specs.Said.{said_found}
use Rattle.document.specs.declared.Found.{Found}
use Rattle.document.proofs.from_bytes.Reads as from_bytes_reads
use Rattle.document.proofs.from_bytes.Kinds as from_bytes_kinds
use Rattle.document.proofs.is_empty.Reads as is_empty_reads
use Rattle.document.proofs.is_empty.Kinds as is_empty_kinds
use Rattle.document.proofs.find.Reads as find_reads
use Rattle.document.proofs.find.Kinds as find_kinds
use Rattle.document.proofs.read_element.Reads as read_element_reads
use Rattle.document.proofs.read_element.Kinds as read_element_kinds
use Rattle.document.proofs.read_element_with.Reads as read_element_with_reads
use Rattle.document.proofs.read_element_with.Kinds as read_element_with_kinds
use Rattle.document.proofs.get_element.Reads as get_element_reads
use Rattle.document.proofs.get_element.Kinds as get_element_kinds
use Rattle.document.proofs.element_at.Reads as element_at_reads
use Rattle.document.proofs.element_at.Kinds as element_at_kinds
use Rattle.document.proofs.get.Reads as get_reads
use Rattle.document.proofs.get.Kinds as get_kinds
use Rattle.document.proofs.get_with.Reads as get_with_reads
use Rattle.document.proofs.get_with.Kinds as get_with_kinds
use Rattle.document.proofs.get_part.Reads as get_part_reads
use Rattle.document.proofs.get_part.Kinds as get_part_kinds

abbrev pub unsaid_found : paper.Found → Found
unsaid_found f = record { element = unsaid_element f.element; value = unsaid_value f.value }

pub found_again : (f : Found) → unsaid_found (said_found f) ≡ f
found_again f = rw (value_again f.value)

pub from_bytes_determined : (κs : Lfts 1) (a : Dens κs from_bytes_kinds.ps) → Determined (from_bytes_reads.Post κs a)
from_bytes_determined κs a r₁ r₂ s₁ s₂ p q = placed_injective r₁ r₂ (p ∙ sym q)

pub is_empty_determined : (κs : Lfts 1) (a : Dens κs is_empty_kinds.ps) → Determined (is_empty_reads.Post κs a)
is_empty_determined κs a r₁ r₂ s₁ s₂ p q = placed_injective r₁ r₂ (p ∙ sym q)

pub find_determined : (κs : Lfts 2) (a : Dens κs find_kinds.ps) → Determined (find_reads.Post κs a)
find_determined κs a r₁ r₂ s₁ s₂ p q = placed_by_injective said_element unsaid_element (λ e. refl) r₁ r₂ (p ∙ sym q)

pub read_element_determined : (κs : Lfts 1) (a : Dens κs read_element_kinds.ps) → Determined (read_element_reads.Post κs a)
read_element_determined κs a r₁ r₂ s₁ s₂ p q = placed_by_injective said_found unsaid_found found_again r₁ r₂ (p ∙ sym q)

pub read_element_with_determined : (κs : Lfts 1) (a : Dens κs read_element_with_kinds.ps) → Determined (read_element_with_reads.Post κs a)
read_element_with_determined κs a r₁ r₂ s₁ s₂ p q = placed_by_injective said_found unsaid_found found_again r₁ r₂ (p ∙ sym q)

pub get_element_determined : (κs : Lfts 2) (a : Dens κs get_element_kinds.ps) → Determined (get_element_reads.Post κs a)
get_element_determined κs a r₁ r₂ s₁ s₂ p q = placed_by_injective said_found unsaid_found found_again r₁ r₂ (p ∙ sym q)

pub element_at_determined : (κs : Lfts 1) (a : Dens κs element_at_kinds.ps) → Determined (element_at_reads.Post κs a)
element_at_determined κs a r₁ r₂ s₁ s₂ p q = placed_by_injective said_found unsaid_found found_again r₁ r₂ (p ∙ sym q)

pub get_determined : (κs : Lfts 2) (a : Dens κs get_kinds.ps) → DeterminedPart (λ x. x.now) (get_reads.Post κs a)
get_determined κs a r₁ r₂ s₁ s₂ p q = p ∙ sym q

pub get_with_determined : (κs : Lfts 2) (a : Dens κs get_with_kinds.ps) → Determined (get_with_reads.Post κs a)
get_with_determined κs a r₁ r₂ s₁ s₂ p q = placed_by_injective said_found unsaid_found found_again r₁ r₂ (p ∙ sym q)

pub get_part_determined : (κs : Lfts 2) (a : Dens κs get_part_kinds.ps) → DeterminedPart (λ x. x.now) (get_part_reads.Post κs a)
get_part_determined κs a r₁ r₂ s₁ s₂ p q = p ∙ sym q
