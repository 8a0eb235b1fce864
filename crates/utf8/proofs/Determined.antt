-- Determined: the promises of `is_utf8` and of `next_chunk` allow one answer.
use mathlib.Core.Path.{sym, ◌∙◌}
use contract.Lifetimes.{Lfts}
use borrow.Fn.Kinds.{Dens}
use Rattle.laws.proofs.Determined.{Determined}
use Rattle.utf8.proofs.is_utf8.Reads as is_utf8_reads
use Rattle.utf8.proofs.is_utf8.Kinds as is_utf8_kinds
use Rattle.utf8.proofs.chunks.next_chunk.Reads as next_chunk_reads
use Rattle.utf8.proofs.chunks.next_chunk.Kinds as next_chunk_kinds

pub is_utf8_determined : (κs : Lfts 1) (a : Dens κs is_utf8_kinds.ps) → Determined (is_utf8_reads.Post κs a)
is_utf8_determined κs a r₁ r₂ s₁ s₂ p q = p ∙ sym q

pub next_chunk_determined : (κs : Lfts 1) (a : Dens κs next_chunk_kinds.ps) → Determined (next_chunk_reads.Post κs a)
next_chunk_determined κs a r₁ r₂ s₁ s₂ p q = p ∙ sym q
