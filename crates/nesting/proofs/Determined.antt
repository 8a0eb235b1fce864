-- Determined: the promise of each call allows one answer, one buffer and one state (RULES.md, "What every answer is bound to").
use contract.Lifetimes.{Lfts}
use borrow.Fn.Kinds.{Dens}
use Rattle.bson.specs.Writer.{desk}
use Rattle.laws.proofs.Determined.{DeterminedBuf}
use Rattle.appending.proofs.Exits.{written_same}
use Rattle.nesting.proofs.open_document.Reads as open_document_reads
use Rattle.nesting.proofs.open_document.Kinds as open_document_kinds
use Rattle.nesting.proofs.open_array.Reads as open_array_reads
use Rattle.nesting.proofs.open_array.Kinds as open_array_kinds
use Rattle.nesting.proofs.open_top.Reads as open_top_reads
use Rattle.nesting.proofs.open_top.Kinds as open_top_kinds
use Rattle.nesting.proofs.close.Reads as close_reads
use Rattle.nesting.proofs.close.Kinds as close_kinds

pub open_document_determined : (κs : Lfts 3) (a : Dens κs open_document_kinds.ps)
    → DeterminedBuf (λ s. desk s.1.0.now s.0.now) (open_document_reads.Post κs a)
open_document_determined κs a r₁ r₂ s₁ s₂ p q = written_same r₁ r₂ _ _ _ _ _ p q

pub open_array_determined : (κs : Lfts 3) (a : Dens κs open_array_kinds.ps)
    → DeterminedBuf (λ s. desk s.1.0.now s.0.now) (open_array_reads.Post κs a)
open_array_determined κs a r₁ r₂ s₁ s₂ p q = written_same r₁ r₂ _ _ _ _ _ p q

pub open_top_determined : (κs : Lfts 2) (a : Dens κs open_top_kinds.ps)
    → DeterminedBuf (λ s. desk s.1.0.now s.0.now) (open_top_reads.Post κs a)
open_top_determined κs a r₁ r₂ s₁ s₂ p q = written_same r₁ r₂ _ _ _ _ _ p q

pub close_determined : (κs : Lfts 2) (a : Dens κs close_kinds.ps)
    → DeterminedBuf (λ s. desk s.1.0.now s.0.now) (close_reads.Post κs a)
close_determined κs a r₁ r₂ s₁ s₂ p q = written_same r₁ r₂ _ _ _ _ _ p q
