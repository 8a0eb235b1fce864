-- Determined: the promise of each call allows one answer (RULES.md, "What every answer is bound to").
use Prim.Native.Nat.{ℕ}
use mathlib.Core.Path.{◌≡◌, refl, sym, ◌∙◌}
use contract.Lifetimes.{Lfts}
use borrow.Fn.Kinds.{Dens}
use Rattle.laws.proofs.Determined.{Determined, DeterminedPart}
use Rattle.num.specs.Said.{said_timestamp}
use Rattle.num.specs.declared.Timestamp.{Timestamp}
use Rattle.refusal.proofs.Determined.{placed_injective, placed_by_injective}
use Rattle.typed.proofs.get_f64.Reads as get_f64_reads
use Rattle.typed.proofs.get_f64.Kinds as get_f64_kinds
use Rattle.typed.proofs.get_bool.Reads as get_bool_reads
use Rattle.typed.proofs.get_bool.Kinds as get_bool_kinds
use Rattle.typed.proofs.get_timestamp.Reads as get_timestamp_reads
use Rattle.typed.proofs.get_timestamp.Kinds as get_timestamp_kinds
use Rattle.typed.proofs.get_i32.Reads as get_i32_reads
use Rattle.typed.proofs.get_i32.Kinds as get_i32_kinds
use Rattle.typed.proofs.get_i64.Reads as get_i64_reads
use Rattle.typed.proofs.get_i64.Kinds as get_i64_kinds
use Rattle.typed.proofs.get_datetime.Reads as get_datetime_reads
use Rattle.typed.proofs.get_datetime.Kinds as get_datetime_kinds
use Rattle.typed.proofs.get_str.Reads as get_str_reads
use Rattle.typed.proofs.get_str.Kinds as get_str_kinds
use Rattle.typed.proofs.get_document.Reads as get_document_reads
use Rattle.typed.proofs.get_document.Kinds as get_document_kinds
use Rattle.typed.proofs.get_array.Reads as get_array_reads
use Rattle.typed.proofs.get_array.Kinds as get_array_kinds
use Rattle.typed.proofs.get_binary.Reads as get_binary_reads
use Rattle.typed.proofs.get_binary.Kinds as get_binary_kinds
use Rattle.typed.proofs.get_object_id.Reads as get_object_id_reads
use Rattle.typed.proofs.get_object_id.Kinds as get_object_id_kinds
use Rattle.typed.proofs.get_regex.Reads as get_regex_reads
use Rattle.typed.proofs.get_regex.Kinds as get_regex_kinds

-- ---- numbers

abbrev unsaid_timestamp : ℕ × ℕ → Timestamp
unsaid_timestamp t = record { increment = t.0; seconds = t.1 }

pub get_f64_determined : (κs : Lfts 2) (a : Dens κs get_f64_kinds.ps) → Determined (get_f64_reads.Post κs a)
get_f64_determined κs a r₁ r₂ s₁ s₂ p q = placed_injective r₁ r₂ (p ∙ sym q)

pub get_bool_determined : (κs : Lfts 2) (a : Dens κs get_bool_kinds.ps) → Determined (get_bool_reads.Post κs a)
get_bool_determined κs a r₁ r₂ s₁ s₂ p q = placed_injective r₁ r₂ (p ∙ sym q)

pub get_i32_determined : (κs : Lfts 2) (a : Dens κs get_i32_kinds.ps) → Determined (get_i32_reads.Post κs a)
get_i32_determined κs a r₁ r₂ s₁ s₂ p q = placed_injective r₁ r₂ (p ∙ sym q)

pub get_i64_determined : (κs : Lfts 2) (a : Dens κs get_i64_kinds.ps) → Determined (get_i64_reads.Post κs a)
get_i64_determined κs a r₁ r₂ s₁ s₂ p q = placed_injective r₁ r₂ (p ∙ sym q)

pub get_datetime_determined : (κs : Lfts 2) (a : Dens κs get_datetime_kinds.ps) → Determined (get_datetime_reads.Post κs a)
get_datetime_determined κs a r₁ r₂ s₁ s₂ p q = placed_injective r₁ r₂ (p ∙ sym q)

pub get_timestamp_determined : (κs : Lfts 2) (a : Dens κs get_timestamp_kinds.ps) → Determined (get_timestamp_reads.Post κs a)
get_timestamp_determined κs a r₁ r₂ s₁ s₂ p q = placed_by_injective said_timestamp unsaid_timestamp (λ t. refl) r₁ r₂ (p ∙ sym q)

-- ---- parts

pub get_str_determined : (κs : Lfts 2) (a : Dens κs get_str_kinds.ps) → DeterminedPart (λ x. x.now) (get_str_reads.Post κs a)
get_str_determined κs a r₁ r₂ s₁ s₂ p q = p ∙ sym q

pub get_document_determined : (κs : Lfts 2) (a : Dens κs get_document_kinds.ps) → DeterminedPart (λ x. x.now) (get_document_reads.Post κs a)
get_document_determined κs a r₁ r₂ s₁ s₂ p q = p ∙ sym q

pub get_array_determined : (κs : Lfts 2) (a : Dens κs get_array_kinds.ps) → DeterminedPart (λ x. x.now) (get_array_reads.Post κs a)
get_array_determined κs a r₁ r₂ s₁ s₂ p q = p ∙ sym q

pub get_binary_determined : (κs : Lfts 2) (a : Dens κs get_binary_kinds.ps) → DeterminedPart (λ x. x.now) (get_binary_reads.Post κs a)
get_binary_determined κs a r₁ r₂ s₁ s₂ p q = p ∙ sym q

pub get_object_id_determined : (κs : Lfts 2) (a : Dens κs get_object_id_kinds.ps) → DeterminedPart (λ x. x.now) (get_object_id_reads.Post κs a)
get_object_id_determined κs a r₁ r₂ s₁ s₂ p q = p ∙ sym q

pub get_regex_determined : (κs : Lfts 2) (a : Dens κs get_regex_kinds.ps) → DeterminedPart (λ x. x.now) (get_regex_reads.Post κs a)
get_regex_determined κs a r₁ r₂ s₁ s₂ p q = p ∙ sym q
