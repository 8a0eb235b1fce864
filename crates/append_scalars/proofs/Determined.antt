-- Determined: the promise of each call allows one answer, one buffer and one state (RULES.md, "What every answer is bound to").
use contract.Lifetimes.{Lfts}
use borrow.Fn.Kinds.{Dens}
use Rattle.bson.specs.Writer.{desk}
use Rattle.laws.proofs.Determined.{DeterminedBuf}
use Rattle.appending.proofs.Exits.{written_same}
use Rattle.append_scalars.proofs.append_double.Reads as append_double_reads
use Rattle.append_scalars.proofs.append_double.Kinds as append_double_kinds
use Rattle.append_scalars.proofs.append_bool.Reads as append_bool_reads
use Rattle.append_scalars.proofs.append_bool.Kinds as append_bool_kinds
use Rattle.append_scalars.proofs.append_int32.Reads as append_int32_reads
use Rattle.append_scalars.proofs.append_int32.Kinds as append_int32_kinds
use Rattle.append_scalars.proofs.append_int64.Reads as append_int64_reads
use Rattle.append_scalars.proofs.append_int64.Kinds as append_int64_kinds
use Rattle.append_scalars.proofs.append_datetime.Reads as append_datetime_reads
use Rattle.append_scalars.proofs.append_datetime.Kinds as append_datetime_kinds
use Rattle.append_scalars.proofs.append_timestamp.Reads as append_timestamp_reads
use Rattle.append_scalars.proofs.append_timestamp.Kinds as append_timestamp_kinds
use Rattle.append_scalars.proofs.append_null.Reads as append_null_reads
use Rattle.append_scalars.proofs.append_null.Kinds as append_null_kinds
use Rattle.append_scalars.proofs.append_undefined.Reads as append_undefined_reads
use Rattle.append_scalars.proofs.append_undefined.Kinds as append_undefined_kinds
use Rattle.append_scalars.proofs.append_min_key.Reads as append_min_key_reads
use Rattle.append_scalars.proofs.append_min_key.Kinds as append_min_key_kinds
use Rattle.append_scalars.proofs.append_max_key.Reads as append_max_key_reads
use Rattle.append_scalars.proofs.append_max_key.Kinds as append_max_key_kinds

pub append_double_determined : (κs : Lfts 3) (a : Dens κs append_double_kinds.ps)
    → DeterminedBuf (λ s. desk s.1.0.now s.0.now) (append_double_reads.Post κs a)
append_double_determined κs a r₁ r₂ s₁ s₂ p q = written_same r₁ r₂ _ _ _ _ _ p q

pub append_bool_determined : (κs : Lfts 3) (a : Dens κs append_bool_kinds.ps)
    → DeterminedBuf (λ s. desk s.1.0.now s.0.now) (append_bool_reads.Post κs a)
append_bool_determined κs a r₁ r₂ s₁ s₂ p q = written_same r₁ r₂ _ _ _ _ _ p q

pub append_int32_determined : (κs : Lfts 3) (a : Dens κs append_int32_kinds.ps)
    → DeterminedBuf (λ s. desk s.1.0.now s.0.now) (append_int32_reads.Post κs a)
append_int32_determined κs a r₁ r₂ s₁ s₂ p q = written_same r₁ r₂ _ _ _ _ _ p q

pub append_int64_determined : (κs : Lfts 3) (a : Dens κs append_int64_kinds.ps)
    → DeterminedBuf (λ s. desk s.1.0.now s.0.now) (append_int64_reads.Post κs a)
append_int64_determined κs a r₁ r₂ s₁ s₂ p q = written_same r₁ r₂ _ _ _ _ _ p q

pub append_datetime_determined : (κs : Lfts 3) (a : Dens κs append_datetime_kinds.ps)
    → DeterminedBuf (λ s. desk s.1.0.now s.0.now) (append_datetime_reads.Post κs a)
append_datetime_determined κs a r₁ r₂ s₁ s₂ p q = written_same r₁ r₂ _ _ _ _ _ p q

pub append_timestamp_determined : (κs : Lfts 3) (a : Dens κs append_timestamp_kinds.ps)
    → DeterminedBuf (λ s. desk s.1.0.now s.0.now) (append_timestamp_reads.Post κs a)
append_timestamp_determined κs a r₁ r₂ s₁ s₂ p q = written_same r₁ r₂ _ _ _ _ _ p q

pub append_null_determined : (κs : Lfts 3) (a : Dens κs append_null_kinds.ps)
    → DeterminedBuf (λ s. desk s.1.0.now s.0.now) (append_null_reads.Post κs a)
append_null_determined κs a r₁ r₂ s₁ s₂ p q = written_same r₁ r₂ _ _ _ _ _ p q

pub append_undefined_determined : (κs : Lfts 3) (a : Dens κs append_undefined_kinds.ps)
    → DeterminedBuf (λ s. desk s.1.0.now s.0.now) (append_undefined_reads.Post κs a)
append_undefined_determined κs a r₁ r₂ s₁ s₂ p q = written_same r₁ r₂ _ _ _ _ _ p q

pub append_min_key_determined : (κs : Lfts 3) (a : Dens κs append_min_key_kinds.ps)
    → DeterminedBuf (λ s. desk s.1.0.now s.0.now) (append_min_key_reads.Post κs a)
append_min_key_determined κs a r₁ r₂ s₁ s₂ p q = written_same r₁ r₂ _ _ _ _ _ p q

pub append_max_key_determined : (κs : Lfts 3) (a : Dens κs append_max_key_kinds.ps)
    → DeterminedBuf (λ s. desk s.1.0.now s.0.now) (append_max_key_reads.Post κs a)
append_max_key_determined κs a r₁ r₂ s₁ s₂ p q = written_same r₁ r₂ _ _ _ _ _ p q
