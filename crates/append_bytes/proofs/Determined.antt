-- Determined: the promise of each call allows one answer, one buffer and one state (RULES.md, "What every answer is bound to").
use contract.Lifetimes.{Lfts}
use borrow.Fn.Kinds.{Dens}
use Rattle.bson.specs.Writer.{desk}
use Rattle.laws.proofs.Determined.{DeterminedBuf}
use Rattle.appending.proofs.Exits.{written_same}
use Rattle.append_bytes.proofs.append_string.Reads as append_string_reads
use Rattle.append_bytes.proofs.append_string.Kinds as append_string_kinds
use Rattle.append_bytes.proofs.append_code.Reads as append_code_reads
use Rattle.append_bytes.proofs.append_code.Kinds as append_code_kinds
use Rattle.append_bytes.proofs.append_symbol.Reads as append_symbol_reads
use Rattle.append_bytes.proofs.append_symbol.Kinds as append_symbol_kinds
use Rattle.append_bytes.proofs.append_dbpointer.Reads as append_dbpointer_reads
use Rattle.append_bytes.proofs.append_dbpointer.Kinds as append_dbpointer_kinds
use Rattle.append_bytes.proofs.append_binary.Reads as append_binary_reads
use Rattle.append_bytes.proofs.append_binary.Kinds as append_binary_kinds
use Rattle.append_bytes.proofs.append_regex.Reads as append_regex_reads
use Rattle.append_bytes.proofs.append_regex.Kinds as append_regex_kinds
use Rattle.append_bytes.proofs.append_object_id.Reads as append_object_id_reads
use Rattle.append_bytes.proofs.append_object_id.Kinds as append_object_id_kinds
use Rattle.append_bytes.proofs.append_decimal128.Reads as append_decimal128_reads
use Rattle.append_bytes.proofs.append_decimal128.Kinds as append_decimal128_kinds

pub append_string_determined : (κs : Lfts 4) (a : Dens κs append_string_kinds.ps)
    → DeterminedBuf (λ s. desk s.1.0.now s.0.now) (append_string_reads.Post κs a)
append_string_determined κs a r₁ r₂ s₁ s₂ p q = written_same r₁ r₂ _ _ _ _ _ p q

pub append_code_determined : (κs : Lfts 4) (a : Dens κs append_code_kinds.ps)
    → DeterminedBuf (λ s. desk s.1.0.now s.0.now) (append_code_reads.Post κs a)
append_code_determined κs a r₁ r₂ s₁ s₂ p q = written_same r₁ r₂ _ _ _ _ _ p q

pub append_symbol_determined : (κs : Lfts 4) (a : Dens κs append_symbol_kinds.ps)
    → DeterminedBuf (λ s. desk s.1.0.now s.0.now) (append_symbol_reads.Post κs a)
append_symbol_determined κs a r₁ r₂ s₁ s₂ p q = written_same r₁ r₂ _ _ _ _ _ p q

pub append_dbpointer_determined : (κs : Lfts 5) (a : Dens κs append_dbpointer_kinds.ps)
    → DeterminedBuf (λ s. desk s.1.0.now s.0.now) (append_dbpointer_reads.Post κs a)
append_dbpointer_determined κs a r₁ r₂ s₁ s₂ p q = written_same r₁ r₂ _ _ _ _ _ p q

pub append_binary_determined : (κs : Lfts 4) (a : Dens κs append_binary_kinds.ps)
    → DeterminedBuf (λ s. desk s.1.0.now s.0.now) (append_binary_reads.Post κs a)
append_binary_determined κs a r₁ r₂ s₁ s₂ p q = written_same r₁ r₂ _ _ _ _ _ p q

pub append_regex_determined : (κs : Lfts 5) (a : Dens κs append_regex_kinds.ps)
    → DeterminedBuf (λ s. desk s.1.0.now s.0.now) (append_regex_reads.Post κs a)
append_regex_determined κs a r₁ r₂ s₁ s₂ p q = written_same r₁ r₂ _ _ _ _ _ p q

pub append_object_id_determined : (κs : Lfts 4) (a : Dens κs append_object_id_kinds.ps)
    → DeterminedBuf (λ s. desk s.1.0.now s.0.now) (append_object_id_reads.Post κs a)
append_object_id_determined κs a r₁ r₂ s₁ s₂ p q = written_same r₁ r₂ _ _ _ _ _ p q

pub append_decimal128_determined : (κs : Lfts 4) (a : Dens κs append_decimal128_kinds.ps)
    → DeterminedBuf (λ s. desk s.1.0.now s.0.now) (append_decimal128_reads.Post κs a)
append_decimal128_determined κs a r₁ r₂ s₁ s₂ p q = written_same r₁ r₂ _ _ _ _ _ p q
