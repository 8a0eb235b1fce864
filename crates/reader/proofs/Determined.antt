-- Determined: the promise of each call allows one answer (RULES.md, "What every answer is bound to").
use mathlib.Core.Path.{sym, ◌∙◌}
use contract.Lifetimes.{Lfts}
use borrow.Fn.Kinds.{Dens}
use Rattle.laws.proofs.Determined.{Determined, DeterminedBuf}
use Rattle.iter.specs.Said.{said_cursor}
use Rattle.iter.proofs.Determined.{said_answer_injective, answers_determined}
use Rattle.reader.proofs.Reader.new.Reads as new_reads
use Rattle.reader.proofs.Reader.new.Kinds as new_kinds
use Rattle.reader.proofs.Reader.next.Reads as next_reads
use Rattle.reader.proofs.Reader.next.Kinds as next_kinds
use Rattle.reader.proofs.Reader.offset.Reads as offset_reads
use Rattle.reader.proofs.Reader.offset.Kinds as offset_kinds
use Rattle.reader.proofs.step_at.Reads as step_at_reads
use Rattle.reader.proofs.step_at.Kinds as step_at_kinds

pub new_determined : (κs : Lfts 1) (a : Dens κs new_kinds.ps) → Determined (new_reads.Post κs a)
new_determined κs a r₁ r₂ s₁ s₂ p q = p ∙ sym q

-- the answer, and the reader behind it
pub next_determined : (κs : Lfts 2) (a : Dens κs next_kinds.ps) → DeterminedBuf (λ s. s.0.now) (next_reads.Post κs a)
next_determined κs a r₁ r₂ s₁ s₂ p q = (said_answer_injective r₁ r₂ (p.0 ∙ sym q.0), p.1 ∙ sym q.1)

pub offset_determined : (κs : Lfts 2) (a : Dens κs offset_kinds.ps) → Determined (offset_reads.Post κs a)
offset_determined κs a r₁ r₂ s₁ s₂ p q = p ∙ sym q

pub step_at_determined : (κs : Lfts 1) (a : Dens κs step_at_kinds.ps) → Determined (step_at_reads.Post κs a)
step_at_determined κs a r₁ r₂ s₁ s₂ p q = answers_determined r₁ r₂ (said_cursor a.1.0) _ p q
