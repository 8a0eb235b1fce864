-- Determined: the promise of each call allows one answer (RULES.md, "What every answer is bound to").
use mathlib.Core.Path.{sym, ◌∙◌}
use contract.Lifetimes.{Lfts}
use borrow.Fn.Kinds.{Dens}
use Rattle.laws.proofs.Determined.{Determined}
use Rattle.array_key.proofs.is_good.Reads as is_good_reads
use Rattle.array_key.proofs.is_good.Kinds as is_good_kinds

pub is_good_determined : (κs : Lfts 1) (a : Dens κs is_good_kinds.ps) → Determined (is_good_reads.Post κs a)
is_good_determined κs a r₁ r₂ s₁ s₂ p q = p ∙ sym q
