-- Determined: the numbers of an answer are one struct (RULES.md, "What every answer is bound to").
use mathlib.Core.Path.{sym, ◌∙◌}
use contract.Lifetimes.{Lfts}
use borrow.Fn.Kinds.{Dens}
use Rattle.laws.proofs.Determined.{Determined}
use Rattle.c_answers.proofs.of_verdict.Reads as of_verdict_reads
use Rattle.c_answers.proofs.of_verdict.Kinds as of_verdict_kinds
use Rattle.c_answers.proofs.of_empty.Reads as of_empty_reads
use Rattle.c_answers.proofs.of_empty.Kinds as of_empty_kinds
use Rattle.c_answers.proofs.of_found.Reads as of_found_reads
use Rattle.c_answers.proofs.of_found.Kinds as of_found_kinds
use Rattle.c_answers.proofs.of_joined.Reads as of_joined_reads
use Rattle.c_answers.proofs.of_joined.Kinds as of_joined_kinds
use Rattle.c_answers.proofs.of_step.Reads as of_step_reads
use Rattle.c_answers.proofs.of_step.Kinds as of_step_kinds
use Rattle.c_answers.proofs.of_element.Reads as of_element_reads
use Rattle.c_answers.proofs.of_element.Kinds as of_element_kinds
use Rattle.c_answers.proofs.no_element.Reads as no_element_reads
use Rattle.c_answers.proofs.no_element.Kinds as no_element_kinds
use Rattle.c_answers.proofs.of_shown.Reads as of_shown_reads
use Rattle.c_answers.proofs.of_shown.Kinds as of_shown_kinds
use Rattle.c_answers.proofs.of_written.Reads as of_written_reads
use Rattle.c_answers.proofs.of_written.Kinds as of_written_kinds

pub of_verdict_determined : (κs : Lfts 0) (a : Dens κs of_verdict_kinds.ps) → Determined (of_verdict_reads.Post κs a)
of_verdict_determined κs a r₁ r₂ s₁ s₂ p q = p ∙ sym q

pub of_empty_determined : (κs : Lfts 0) (a : Dens κs of_empty_kinds.ps) → Determined (of_empty_reads.Post κs a)
of_empty_determined κs a r₁ r₂ s₁ s₂ p q = p ∙ sym q

pub of_found_determined : (κs : Lfts 0) (a : Dens κs of_found_kinds.ps) → Determined (of_found_reads.Post κs a)
of_found_determined κs a r₁ r₂ s₁ s₂ p q = p ∙ sym q

pub of_joined_determined : (κs : Lfts 0) (a : Dens κs of_joined_kinds.ps) → Determined (of_joined_reads.Post κs a)
of_joined_determined κs a r₁ r₂ s₁ s₂ p q = p ∙ sym q

pub of_step_determined : (κs : Lfts 0) (a : Dens κs of_step_kinds.ps) → Determined (of_step_reads.Post κs a)
of_step_determined κs a r₁ r₂ s₁ s₂ p q = p ∙ sym q

pub of_element_determined : (κs : Lfts 0) (a : Dens κs of_element_kinds.ps) → Determined (of_element_reads.Post κs a)
of_element_determined κs a r₁ r₂ s₁ s₂ p q = p ∙ sym q

pub no_element_determined : (κs : Lfts 0) (a : Dens κs no_element_kinds.ps) → Determined (no_element_reads.Post κs a)
no_element_determined κs a r₁ r₂ s₁ s₂ p q = p ∙ sym q

pub of_shown_determined : (κs : Lfts 0) (a : Dens κs of_shown_kinds.ps) → Determined (of_shown_reads.Post κs a)
of_shown_determined κs a r₁ r₂ s₁ s₂ p q = p ∙ sym q

pub of_written_determined : (κs : Lfts 1) (a : Dens κs of_written_kinds.ps) → Determined (of_written_reads.Post κs a)
of_written_determined κs a r₁ r₂ s₁ s₂ p q = p ∙ sym q
