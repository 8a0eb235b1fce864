-- Determined: the promise of each call allows one answer, one buffer and one state (RULES.md, "What every answer is bound to").
use Prim.Native.Nat.{ℕ}
use mathlib.Core.Path.{ap, sym, ◌∙◌}
use mathlib.Core.List.{List}
use contract.Lifetimes.{Lfts}
use borrow.Fn.Kinds.{Dens}
use Rattle.bson.specs.Writer.{desk}
use Rattle.laws.proofs.Determined.{Determined, DeterminedBuf}
use Rattle.appending.proofs.Exits.{written_same}
use Rattle.doc_writer.proofs.DocWriter.new.Reads as new_reads
use Rattle.doc_writer.proofs.DocWriter.new.Kinds as new_kinds
use Rattle.doc_writer.proofs.DocWriter.open.Reads as open_reads
use Rattle.doc_writer.proofs.DocWriter.open.Kinds as open_kinds
use Rattle.doc_writer.proofs.DocWriter.open_document.Reads as open_document_reads
use Rattle.doc_writer.proofs.DocWriter.open_document.Kinds as open_document_kinds
use Rattle.doc_writer.proofs.DocWriter.open_array.Reads as open_array_reads
use Rattle.doc_writer.proofs.DocWriter.open_array.Kinds as open_array_kinds
use Rattle.doc_writer.proofs.DocWriter.close.Reads as close_reads
use Rattle.doc_writer.proofs.DocWriter.close.Kinds as close_kinds
use Rattle.doc_writer.proofs.DocWriter.append_double.Reads as append_double_reads
use Rattle.doc_writer.proofs.DocWriter.append_double.Kinds as append_double_kinds
use Rattle.doc_writer.proofs.DocWriter.append_bool.Reads as append_bool_reads
use Rattle.doc_writer.proofs.DocWriter.append_bool.Kinds as append_bool_kinds
use Rattle.doc_writer.proofs.DocWriter.append_datetime.Reads as append_datetime_reads
use Rattle.doc_writer.proofs.DocWriter.append_datetime.Kinds as append_datetime_kinds
use Rattle.doc_writer.proofs.DocWriter.append_int32.Reads as append_int32_reads
use Rattle.doc_writer.proofs.DocWriter.append_int32.Kinds as append_int32_kinds
use Rattle.doc_writer.proofs.DocWriter.append_timestamp.Reads as append_timestamp_reads
use Rattle.doc_writer.proofs.DocWriter.append_timestamp.Kinds as append_timestamp_kinds
use Rattle.doc_writer.proofs.DocWriter.append_int64.Reads as append_int64_reads
use Rattle.doc_writer.proofs.DocWriter.append_int64.Kinds as append_int64_kinds
use Rattle.doc_writer.proofs.DocWriter.append_undefined.Reads as append_undefined_reads
use Rattle.doc_writer.proofs.DocWriter.append_undefined.Kinds as append_undefined_kinds
use Rattle.doc_writer.proofs.DocWriter.append_null.Reads as append_null_reads
use Rattle.doc_writer.proofs.DocWriter.append_null.Kinds as append_null_kinds
use Rattle.doc_writer.proofs.DocWriter.append_min_key.Reads as append_min_key_reads
use Rattle.doc_writer.proofs.DocWriter.append_min_key.Kinds as append_min_key_kinds
use Rattle.doc_writer.proofs.DocWriter.append_max_key.Reads as append_max_key_reads
use Rattle.doc_writer.proofs.DocWriter.append_max_key.Kinds as append_max_key_kinds
use Rattle.doc_writer.proofs.DocWriter.append_string.Reads as append_string_reads
use Rattle.doc_writer.proofs.DocWriter.append_string.Kinds as append_string_kinds
use Rattle.doc_writer.proofs.DocWriter.append_code.Reads as append_code_reads
use Rattle.doc_writer.proofs.DocWriter.append_code.Kinds as append_code_kinds
use Rattle.doc_writer.proofs.DocWriter.append_symbol.Reads as append_symbol_reads
use Rattle.doc_writer.proofs.DocWriter.append_symbol.Kinds as append_symbol_kinds
use Rattle.doc_writer.proofs.DocWriter.append_binary.Reads as append_binary_reads
use Rattle.doc_writer.proofs.DocWriter.append_binary.Kinds as append_binary_kinds
use Rattle.doc_writer.proofs.DocWriter.append_regex.Reads as append_regex_reads
use Rattle.doc_writer.proofs.DocWriter.append_regex.Kinds as append_regex_kinds
use Rattle.doc_writer.proofs.DocWriter.append_dbpointer.Reads as append_dbpointer_reads
use Rattle.doc_writer.proofs.DocWriter.append_dbpointer.Kinds as append_dbpointer_kinds
use Rattle.doc_writer.proofs.DocWriter.append_object_id.Reads as append_object_id_reads
use Rattle.doc_writer.proofs.DocWriter.append_object_id.Kinds as append_object_id_kinds
use Rattle.doc_writer.proofs.DocWriter.append_decimal128.Reads as append_decimal128_reads
use Rattle.doc_writer.proofs.DocWriter.append_decimal128.Kinds as append_decimal128_kinds

pub new_determined : (κs : Lfts 0) (a : Dens κs new_kinds.ps) → Determined (new_reads.Post κs a)
new_determined κs a r₁ r₂ s₁ s₂ p q = ap (λ (w : List ℕ). record { words = w }) (p ∙ sym q)

pub open_determined : (κs : Lfts 2) (a : Dens κs open_kinds.ps)
    → DeterminedBuf (λ s. desk s.0.now.words s.1.0.now) (open_reads.Post κs a)
open_determined κs a r₁ r₂ s₁ s₂ p q = written_same r₁ r₂ _ _ _ _ _ p q

pub open_document_determined : (κs : Lfts 3) (a : Dens κs open_document_kinds.ps)
    → DeterminedBuf (λ s. desk s.0.now.words s.1.0.now) (open_document_reads.Post κs a)
open_document_determined κs a r₁ r₂ s₁ s₂ p q = written_same r₁ r₂ _ _ _ _ _ p q

pub open_array_determined : (κs : Lfts 3) (a : Dens κs open_array_kinds.ps)
    → DeterminedBuf (λ s. desk s.0.now.words s.1.0.now) (open_array_reads.Post κs a)
open_array_determined κs a r₁ r₂ s₁ s₂ p q = written_same r₁ r₂ _ _ _ _ _ p q

pub close_determined : (κs : Lfts 2) (a : Dens κs close_kinds.ps)
    → DeterminedBuf (λ s. desk s.0.now.words s.1.0.now) (close_reads.Post κs a)
close_determined κs a r₁ r₂ s₁ s₂ p q = written_same r₁ r₂ _ _ _ _ _ p q

-- ---- scalars

pub append_double_determined : (κs : Lfts 3) (a : Dens κs append_double_kinds.ps)
    → DeterminedBuf (λ s. desk s.0.now.words s.1.0.now) (append_double_reads.Post κs a)
append_double_determined κs a r₁ r₂ s₁ s₂ p q = written_same r₁ r₂ _ _ _ _ _ p q

pub append_bool_determined : (κs : Lfts 3) (a : Dens κs append_bool_kinds.ps)
    → DeterminedBuf (λ s. desk s.0.now.words s.1.0.now) (append_bool_reads.Post κs a)
append_bool_determined κs a r₁ r₂ s₁ s₂ p q = written_same r₁ r₂ _ _ _ _ _ p q

pub append_datetime_determined : (κs : Lfts 3) (a : Dens κs append_datetime_kinds.ps)
    → DeterminedBuf (λ s. desk s.0.now.words s.1.0.now) (append_datetime_reads.Post κs a)
append_datetime_determined κs a r₁ r₂ s₁ s₂ p q = written_same r₁ r₂ _ _ _ _ _ p q

pub append_int32_determined : (κs : Lfts 3) (a : Dens κs append_int32_kinds.ps)
    → DeterminedBuf (λ s. desk s.0.now.words s.1.0.now) (append_int32_reads.Post κs a)
append_int32_determined κs a r₁ r₂ s₁ s₂ p q = written_same r₁ r₂ _ _ _ _ _ p q

pub append_timestamp_determined : (κs : Lfts 3) (a : Dens κs append_timestamp_kinds.ps)
    → DeterminedBuf (λ s. desk s.0.now.words s.1.0.now) (append_timestamp_reads.Post κs a)
append_timestamp_determined κs a r₁ r₂ s₁ s₂ p q = written_same r₁ r₂ _ _ _ _ _ p q

pub append_int64_determined : (κs : Lfts 3) (a : Dens κs append_int64_kinds.ps)
    → DeterminedBuf (λ s. desk s.0.now.words s.1.0.now) (append_int64_reads.Post κs a)
append_int64_determined κs a r₁ r₂ s₁ s₂ p q = written_same r₁ r₂ _ _ _ _ _ p q

pub append_undefined_determined : (κs : Lfts 3) (a : Dens κs append_undefined_kinds.ps)
    → DeterminedBuf (λ s. desk s.0.now.words s.1.0.now) (append_undefined_reads.Post κs a)
append_undefined_determined κs a r₁ r₂ s₁ s₂ p q = written_same r₁ r₂ _ _ _ _ _ p q

pub append_null_determined : (κs : Lfts 3) (a : Dens κs append_null_kinds.ps)
    → DeterminedBuf (λ s. desk s.0.now.words s.1.0.now) (append_null_reads.Post κs a)
append_null_determined κs a r₁ r₂ s₁ s₂ p q = written_same r₁ r₂ _ _ _ _ _ p q

pub append_min_key_determined : (κs : Lfts 3) (a : Dens κs append_min_key_kinds.ps)
    → DeterminedBuf (λ s. desk s.0.now.words s.1.0.now) (append_min_key_reads.Post κs a)
append_min_key_determined κs a r₁ r₂ s₁ s₂ p q = written_same r₁ r₂ _ _ _ _ _ p q

pub append_max_key_determined : (κs : Lfts 3) (a : Dens κs append_max_key_kinds.ps)
    → DeterminedBuf (λ s. desk s.0.now.words s.1.0.now) (append_max_key_reads.Post κs a)
append_max_key_determined κs a r₁ r₂ s₁ s₂ p q = written_same r₁ r₂ _ _ _ _ _ p q

-- ---- texts, data and ids

pub append_string_determined : (κs : Lfts 4) (a : Dens κs append_string_kinds.ps)
    → DeterminedBuf (λ s. desk s.0.now.words s.1.0.now) (append_string_reads.Post κs a)
append_string_determined κs a r₁ r₂ s₁ s₂ p q = written_same r₁ r₂ _ _ _ _ _ p q

pub append_code_determined : (κs : Lfts 4) (a : Dens κs append_code_kinds.ps)
    → DeterminedBuf (λ s. desk s.0.now.words s.1.0.now) (append_code_reads.Post κs a)
append_code_determined κs a r₁ r₂ s₁ s₂ p q = written_same r₁ r₂ _ _ _ _ _ p q

pub append_symbol_determined : (κs : Lfts 4) (a : Dens κs append_symbol_kinds.ps)
    → DeterminedBuf (λ s. desk s.0.now.words s.1.0.now) (append_symbol_reads.Post κs a)
append_symbol_determined κs a r₁ r₂ s₁ s₂ p q = written_same r₁ r₂ _ _ _ _ _ p q

pub append_binary_determined : (κs : Lfts 4) (a : Dens κs append_binary_kinds.ps)
    → DeterminedBuf (λ s. desk s.0.now.words s.1.0.now) (append_binary_reads.Post κs a)
append_binary_determined κs a r₁ r₂ s₁ s₂ p q = written_same r₁ r₂ _ _ _ _ _ p q

pub append_regex_determined : (κs : Lfts 5) (a : Dens κs append_regex_kinds.ps)
    → DeterminedBuf (λ s. desk s.0.now.words s.1.0.now) (append_regex_reads.Post κs a)
append_regex_determined κs a r₁ r₂ s₁ s₂ p q = written_same r₁ r₂ _ _ _ _ _ p q

pub append_dbpointer_determined : (κs : Lfts 5) (a : Dens κs append_dbpointer_kinds.ps)
    → DeterminedBuf (λ s. desk s.0.now.words s.1.0.now) (append_dbpointer_reads.Post κs a)
append_dbpointer_determined κs a r₁ r₂ s₁ s₂ p q = written_same r₁ r₂ _ _ _ _ _ p q

pub append_object_id_determined : (κs : Lfts 4) (a : Dens κs append_object_id_kinds.ps)
    → DeterminedBuf (λ s. desk s.0.now.words s.1.0.now) (append_object_id_reads.Post κs a)
append_object_id_determined κs a r₁ r₂ s₁ s₂ p q = written_same r₁ r₂ _ _ _ _ _ p q

pub append_decimal128_determined : (κs : Lfts 4) (a : Dens κs append_decimal128_kinds.ps)
    → DeterminedBuf (λ s. desk s.0.now.words s.1.0.now) (append_decimal128_reads.Post κs a)
append_decimal128_determined κs a r₁ r₂ s₁ s₂ p q = written_same r₁ r₂ _ _ _ _ _ p q
