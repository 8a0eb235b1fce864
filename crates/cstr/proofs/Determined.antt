-- Determined: the promise of each call allows one answer (RULES.md, "What every answer is bound to").
use mathlib.Core.Path.{sym, ◌∙◌}
use contract.Lifetimes.{Lfts}
use borrow.Fn.Kinds.{Dens}
use Rattle.laws.proofs.Determined.{Determined}
use Rattle.refusal.proofs.Determined.{said_injective}
use Rattle.cstr.proofs.read_cstring.Reads as read_cstring_reads
use Rattle.cstr.proofs.read_cstring.Kinds as read_cstring_kinds
use Rattle.cstr.proofs.read_cstring_with_max_len.Reads as read_max_reads
use Rattle.cstr.proofs.read_cstring_with_max_len.Kinds as read_max_kinds
use Rattle.cstr.proofs.first_zero.Reads as first_zero_reads
use Rattle.cstr.proofs.first_zero.Kinds as first_zero_kinds
use Rattle.cstr.proofs.is_valid_cstr.Reads as is_valid_cstr_reads
use Rattle.cstr.proofs.is_valid_cstr.Kinds as is_valid_cstr_kinds
use Rattle.cstr.proofs.equal.Reads as equal_reads
use Rattle.cstr.proofs.equal.Kinds as equal_kinds

pub read_cstring_determined : (κs : Lfts 1) (a : Dens κs read_cstring_kinds.ps) → Determined (read_cstring_reads.Post κs a)
read_cstring_determined κs a r₁ r₂ s₁ s₂ p q = said_injective r₁ r₂ (p ∙ sym q)

pub read_cstring_with_max_len_determined : (κs : Lfts 1) (a : Dens κs read_max_kinds.ps) → Determined (read_max_reads.Post κs a)
read_cstring_with_max_len_determined κs a r₁ r₂ s₁ s₂ p q = said_injective r₁ r₂ (p ∙ sym q)

pub first_zero_determined : (κs : Lfts 1) (a : Dens κs first_zero_kinds.ps) → Determined (first_zero_reads.Post κs a)
first_zero_determined κs a r₁ r₂ s₁ s₂ p q = p ∙ sym q

pub is_valid_cstr_determined : (κs : Lfts 1) (a : Dens κs is_valid_cstr_kinds.ps) → Determined (is_valid_cstr_reads.Post κs a)
is_valid_cstr_determined κs a r₁ r₂ s₁ s₂ p q = p ∙ sym q

pub equal_determined : (κs : Lfts 2) (a : Dens κs equal_kinds.ps) → Determined (equal_reads.Post κs a)
equal_determined κs a r₁ r₂ s₁ s₂ p q = p ∙ sym q
