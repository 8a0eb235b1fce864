-- Determined: the promise of each call allows one answer (RULES.md, "What every answer is bound to").
use mathlib.Core.Path.{sym, ◌∙◌}
use contract.Lifetimes.{Lfts}
use borrow.Fn.Kinds.{Dens}
use Rattle.laws.proofs.Determined.{Determined, DeterminedPart}
use Rattle.refusal.proofs.Determined.{placed_by_injective}
use Rattle.document.specs.Said.{said_found}
use Rattle.document.proofs.Determined.{unsaid_found, found_again}
use Rattle.path.proofs.get_element.Reads as get_element_reads
use Rattle.path.proofs.get_element.Kinds as get_element_kinds
use Rattle.path.proofs.get.Reads as get_reads
use Rattle.path.proofs.get.Kinds as get_kinds
use Rattle.path.proofs.get_with.Reads as get_with_reads
use Rattle.path.proofs.get_with.Kinds as get_with_kinds

pub get_element_determined : (κs : Lfts 2) (a : Dens κs get_element_kinds.ps) → Determined (get_element_reads.Post κs a)
get_element_determined κs a r₁ r₂ s₁ s₂ p q = placed_by_injective said_found unsaid_found found_again r₁ r₂ (p ∙ sym q)

pub get_determined : (κs : Lfts 2) (a : Dens κs get_kinds.ps) → DeterminedPart (λ x. x.now) (get_reads.Post κs a)
get_determined κs a r₁ r₂ s₁ s₂ p q = p ∙ sym q

pub get_with_determined : (κs : Lfts 2) (a : Dens κs get_with_kinds.ps) → Determined (get_with_reads.Post κs a)
get_with_determined κs a r₁ r₂ s₁ s₂ p q = placed_by_injective said_found unsaid_found found_again r₁ r₂ (p ∙ sym q)
