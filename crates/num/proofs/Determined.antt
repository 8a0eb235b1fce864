-- Determined: the promise of each call allows one answer (RULES.md, "What every answer is bound to").
use Prim.Native.Nat.{ℕ}
use mathlib.Core.Path.{refl, sym, ◌∙◌}
use contract.Lifetimes.{Lfts}
use borrow.Fn.Kinds.{Dens}
use Rattle.laws.proofs.Determined.{Determined}
use Rattle.refusal.proofs.Determined.{said_injective, said_by_injective}
use Rattle.num.specs.Said.{said_timestamp}
use Rattle.num.specs.declared.Timestamp.{Timestamp}
use Rattle.num.proofs.u32_from_slice.Reads as u32_from_slice_reads
use Rattle.num.proofs.u32_from_slice.Kinds as u32_from_slice_kinds
use Rattle.num.proofs.i32_from_slice.Reads as i32_from_slice_reads
use Rattle.num.proofs.i32_from_slice.Kinds as i32_from_slice_kinds
use Rattle.num.proofs.i64_from_slice.Reads as i64_from_slice_reads
use Rattle.num.proofs.i64_from_slice.Kinds as i64_from_slice_kinds
use Rattle.num.proofs.f64_from_slice.Reads as f64_from_slice_reads
use Rattle.num.proofs.f64_from_slice.Kinds as f64_from_slice_kinds
use Rattle.num.proofs.bool_from_slice.Reads as bool_from_slice_reads
use Rattle.num.proofs.bool_from_slice.Kinds as bool_from_slice_kinds
use Rattle.num.proofs.timestamp_from_slice.Reads as timestamp_from_slice_reads
use Rattle.num.proofs.timestamp_from_slice.Kinds as timestamp_from_slice_kinds

pub u32_from_slice_determined : (κs : Lfts 1) (a : Dens κs u32_from_slice_kinds.ps) → Determined (u32_from_slice_reads.Post κs a)
u32_from_slice_determined κs a r₁ r₂ s₁ s₂ p q = said_injective r₁ r₂ (p ∙ sym q)

pub i32_from_slice_determined : (κs : Lfts 1) (a : Dens κs i32_from_slice_kinds.ps) → Determined (i32_from_slice_reads.Post κs a)
i32_from_slice_determined κs a r₁ r₂ s₁ s₂ p q = said_injective r₁ r₂ (p ∙ sym q)

pub i64_from_slice_determined : (κs : Lfts 1) (a : Dens κs i64_from_slice_kinds.ps) → Determined (i64_from_slice_reads.Post κs a)
i64_from_slice_determined κs a r₁ r₂ s₁ s₂ p q = said_injective r₁ r₂ (p ∙ sym q)

pub f64_from_slice_determined : (κs : Lfts 1) (a : Dens κs f64_from_slice_kinds.ps) → Determined (f64_from_slice_reads.Post κs a)
f64_from_slice_determined κs a r₁ r₂ s₁ s₂ p q = said_injective r₁ r₂ (p ∙ sym q)

pub bool_from_slice_determined : (κs : Lfts 1) (a : Dens κs bool_from_slice_kinds.ps) → Determined (bool_from_slice_reads.Post κs a)
bool_from_slice_determined κs a r₁ r₂ s₁ s₂ p q = said_injective r₁ r₂ (p ∙ sym q)

abbrev timestamp_unsaid : ℕ × ℕ → Timestamp
timestamp_unsaid t = record { increment = t.0; seconds = t.1 }

pub timestamp_from_slice_determined : (κs : Lfts 1) (a : Dens κs timestamp_from_slice_kinds.ps)
    → Determined (timestamp_from_slice_reads.Post κs a)
timestamp_from_slice_determined κs a r₁ r₂ s₁ s₂ p q =
    said_by_injective said_timestamp timestamp_unsaid (λ t. refl) r₁ r₂ (p ∙ sym q)
