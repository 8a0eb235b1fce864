-- Determined: the promise of each call allows one answer and one buffer (RULES.md, "What every answer is bound to").
use mathlib.Core.Path.{refl, sym, ◌∙◌}
use contract.Lifetimes.{Lfts}
use borrow.Fn.Kinds.{Dens}
use Rattle.laws.proofs.Determined.{Determined, DeterminedBuf}
use Rattle.output.specs.Puts.{held}
use Rattle.encode.proofs.bytes32.Reads as bytes32_reads
use Rattle.encode.proofs.bytes32.Kinds as bytes32_kinds
use Rattle.encode.proofs.put_bytes32.Reads as put_bytes32_reads
use Rattle.encode.proofs.put_bytes32.Kinds as put_bytes32_kinds
use Rattle.encode.proofs.bits32.Reads as bits32_reads
use Rattle.encode.proofs.bits32.Kinds as bits32_kinds
use Rattle.encode.proofs.bits64.Reads as bits64_reads
use Rattle.encode.proofs.bits64.Kinds as bits64_kinds

pub bytes32_determined : (κs : Lfts 0) (a : Dens κs bytes32_kinds.ps) → Determined (bytes32_reads.Post κs a)
bytes32_determined κs a r₁ r₂ s₁ s₂ p q = p ∙ sym q

pub put_bytes32_determined : (κs : Lfts 2) (a : Dens κs put_bytes32_kinds.ps)
    → DeterminedBuf (λ s. held s.0.now) (put_bytes32_reads.Post κs a)
put_bytes32_determined κs a r₁ r₂ s₁ s₂ p q = (refl, p.0 ∙ sym q.0)

pub bits32_determined : (κs : Lfts 0) (a : Dens κs bits32_kinds.ps) → Determined (bits32_reads.Post κs a)
bits32_determined κs a r₁ r₂ s₁ s₂ p q = p ∙ sym q

pub bits64_determined : (κs : Lfts 0) (a : Dens κs bits64_kinds.ps) → Determined (bits64_reads.Post κs a)
bits64_determined κs a r₁ r₂ s₁ s₂ p q = p ∙ sym q
