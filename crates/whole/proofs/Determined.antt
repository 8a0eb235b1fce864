-- Determined: the promise of each call allows one answer (RULES.md, "What every answer is bound to").
use mathlib.Core.Path.{sym, ◌∙◌}
use contract.Lifetimes.{Lfts}
use borrow.Fn.Kinds.{Dens}
use Rattle.laws.proofs.Determined.{Determined}
use Rattle.refusal.proofs.Determined.{placed_injective}
use Rattle.whole.proofs.check.Reads as check_reads
use Rattle.whole.proofs.check.Kinds as check_kinds
use Rattle.whole.proofs.check_strict.Reads as check_strict_reads
use Rattle.whole.proofs.check_strict.Kinds as check_strict_kinds

pub check_determined : (κs : Lfts 1) (a : Dens κs check_kinds.ps) → Determined (check_reads.Post κs a)
check_determined κs a r₁ r₂ s₁ s₂ p q = placed_injective r₁ r₂ (p ∙ sym q)

pub check_strict_determined : (κs : Lfts 1) (a : Dens κs check_strict_kinds.ps) → Determined (check_strict_reads.Post κs a)
check_strict_determined κs a r₁ r₂ s₁ s₂ p q = placed_injective r₁ r₂ (p ∙ sym q)
