-- Determined: the promise of each call allows one answer, one buffer and one state (RULES.md, "What every answer is bound to").
use contract.Lifetimes.{Lfts}
use borrow.Fn.Kinds.{Dens}
use Rattle.bson.specs.Writer.{desk}
use Rattle.laws.proofs.Determined.{DeterminedBuf}
use Rattle.appending.proofs.Exits.{written_same}
use Rattle.appending.proofs.head.Reads as head_reads
use Rattle.appending.proofs.head.Kinds as head_kinds
use Rattle.appending.proofs.append.Reads as append_reads
use Rattle.appending.proofs.append.Kinds as append_kinds

pub head_determined : (κs : Lfts 3) (a : Dens κs head_kinds.ps)
    → DeterminedBuf (λ s. desk s.1.0.now s.0.now) (head_reads.Post κs a)
head_determined κs a r₁ r₂ s₁ s₂ p q = written_same r₁ r₂ _ _ _ _ _ p q

pub append_determined : (κs : Lfts 5) (a : Dens κs append_kinds.ps)
    → DeterminedBuf (λ s. desk s.1.0.now s.0.now) (append_reads.Post κs a)
append_determined κs a r₁ r₂ s₁ s₂ p q = written_same r₁ r₂ _ _ _ _ _ p q
