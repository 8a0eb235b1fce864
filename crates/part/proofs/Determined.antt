-- Determined: the promise of each call allows one answer (RULES.md, "What every answer is bound to").
use mathlib.Core.Path.{sym, ◌∙◌}
use contract.Lifetimes.{Lfts}
use borrow.Fn.Kinds.{Dens}
use Rattle.bson.specs.Bytes as paper
use Rattle.laws.proofs.Determined.{Determined, DeterminedPart}
use Rattle.part.specs.declared.Part.{Part}
use Rattle.part.proofs.bytes_of.Reads as bytes_of_reads
use Rattle.part.proofs.bytes_of.Kinds as bytes_of_kinds
use Rattle.part.proofs.byte_or_zero.Reads as byte_or_zero_reads
use Rattle.part.proofs.byte_or_zero.Kinds as byte_or_zero_kinds

-- a part back from paper, for the answers that hold one
abbrev pub unsaid_part : paper.Part → Part
unsaid_part p = record { offset = p.offset; size = p.size }

pub bytes_of_determined : (κs : Lfts 1) (a : Dens κs bytes_of_kinds.ps) → DeterminedPart (λ x. x.now) (bytes_of_reads.Post κs a)
bytes_of_determined κs a r₁ r₂ s₁ s₂ p q = p ∙ sym q

pub byte_or_zero_determined : (κs : Lfts 1) (a : Dens κs byte_or_zero_kinds.ps) → Determined (byte_or_zero_reads.Post κs a)
byte_or_zero_determined κs a r₁ r₂ s₁ s₂ p q = p ∙ sym q
