-- Determined: the promise of each call allows one answer, and of what is lent one content (RULES.md, "What every answer is bound to").
use Prim.Native.Nat.{ℕ}
use mathlib.Core.Path.{◌≡◌, sym, ap, ◌∙◌}
use mathlib.Core.List.{List}
use contract.Lifetimes.{Lfts}
use borrow.Fn.Kinds.{Dens}
use Rattle.bson.specs.Writer.{desk}
use Rattle.laws.proofs.Determined.{Determined, DeterminedBuf}
use Rattle.fringewell.proofs.fringewell_check.Reads as check_reads
use Rattle.fringewell.proofs.fringewell_check.Kinds as check_kinds
use Rattle.fringewell.proofs.fringewell_check_under.Reads as check_under_reads
use Rattle.fringewell.proofs.fringewell_check_under.Kinds as check_under_kinds
use Rattle.fringewell.proofs.fringewell_check_strict.Reads as check_strict_reads
use Rattle.fringewell.proofs.fringewell_check_strict.Kinds as check_strict_kinds
use Rattle.fringewell.proofs.fringewell_check_strict_under.Reads as check_strict_under_reads
use Rattle.fringewell.proofs.fringewell_check_strict_under.Kinds as check_strict_under_kinds
use Rattle.fringewell.proofs.fringewell_is_empty.Reads as is_empty_reads
use Rattle.fringewell.proofs.fringewell_is_empty.Kinds as is_empty_kinds
use Rattle.fringewell.proofs.fringewell_lookup.Reads as lookup_reads
use Rattle.fringewell.proofs.fringewell_lookup.Kinds as lookup_kinds
use Rattle.fringewell.proofs.fringewell_lookup_under.Reads as lookup_under_reads
use Rattle.fringewell.proofs.fringewell_lookup_under.Kinds as lookup_under_kinds
use Rattle.fringewell.proofs.fringewell_lookup_typed.Reads as lookup_typed_reads
use Rattle.fringewell.proofs.fringewell_lookup_typed.Kinds as lookup_typed_kinds
use Rattle.fringewell.proofs.fringewell_lookup_typed_under.Reads as lookup_typed_under_reads
use Rattle.fringewell.proofs.fringewell_lookup_typed_under.Kinds as lookup_typed_under_kinds
use Rattle.fringewell.proofs.fringewell_path.Reads as path_reads
use Rattle.fringewell.proofs.fringewell_path.Kinds as path_kinds
use Rattle.fringewell.proofs.fringewell_path_under.Reads as path_under_reads
use Rattle.fringewell.proofs.fringewell_path_under.Kinds as path_under_kinds
use Rattle.fringewell.proofs.fringewell_path_typed.Reads as path_typed_reads
use Rattle.fringewell.proofs.fringewell_path_typed.Kinds as path_typed_kinds
use Rattle.fringewell.proofs.fringewell_path_typed_under.Reads as path_typed_under_reads
use Rattle.fringewell.proofs.fringewell_path_typed_under.Kinds as path_typed_under_kinds
use Rattle.fringewell.proofs.fringewell_step.Reads as step_reads
use Rattle.fringewell.proofs.fringewell_step.Kinds as step_kinds
use Rattle.fringewell.proofs.fringewell_step_under.Reads as step_under_reads
use Rattle.fringewell.proofs.fringewell_step_under.Kinds as step_under_kinds
use Rattle.fringewell.proofs.fringewell_next.Reads as next_reads
use Rattle.fringewell.proofs.fringewell_next.Kinds as next_kinds
use Rattle.fringewell.proofs.fringewell_next_under.Reads as next_under_reads
use Rattle.fringewell.proofs.fringewell_next_under.Kinds as next_under_kinds
use Rattle.fringewell.proofs.fringewell_read.Reads as read_reads
use Rattle.fringewell.proofs.fringewell_read.Kinds as read_kinds
use Rattle.fringewell.proofs.fringewell_read_under.Reads as read_under_reads
use Rattle.fringewell.proofs.fringewell_read_under.Kinds as read_under_kinds
use Rattle.fringewell.proofs.fringewell_read_lossy.Reads as read_lossy_reads
use Rattle.fringewell.proofs.fringewell_read_lossy.Kinds as read_lossy_kinds
use Rattle.fringewell.proofs.fringewell_read_lossy_under.Reads as read_lossy_under_reads
use Rattle.fringewell.proofs.fringewell_read_lossy_under.Kinds as read_lossy_under_kinds
use Rattle.fringewell.proofs.fringewell_join.Reads as join_reads
use Rattle.fringewell.proofs.fringewell_join.Kinds as join_kinds
use Rattle.fringewell.proofs.fringewell_version.Reads as version_reads
use Rattle.fringewell.proofs.fringewell_version.Kinds as version_kinds
use Rattle.fringewell.proofs.fringewell_state_new.Reads as state_new_reads
use Rattle.fringewell.proofs.fringewell_state_new.Kinds as state_new_kinds
use Rattle.fringewell.proofs.fringewell_state_open.Reads as state_open_reads
use Rattle.fringewell.proofs.fringewell_state_open.Kinds as state_open_kinds
use Rattle.fringewell.proofs.fringewell_state_open_document.Reads as state_open_document_reads
use Rattle.fringewell.proofs.fringewell_state_open_document.Kinds as state_open_document_kinds
use Rattle.fringewell.proofs.fringewell_state_open_array.Reads as state_open_array_reads
use Rattle.fringewell.proofs.fringewell_state_open_array.Kinds as state_open_array_kinds
use Rattle.fringewell.proofs.fringewell_state_close.Reads as state_close_reads
use Rattle.fringewell.proofs.fringewell_state_close.Kinds as state_close_kinds
use Rattle.fringewell.proofs.fringewell_state_append_double.Reads as state_append_double_reads
use Rattle.fringewell.proofs.fringewell_state_append_double.Kinds as state_append_double_kinds
use Rattle.fringewell.proofs.fringewell_state_append_bool.Reads as state_append_bool_reads
use Rattle.fringewell.proofs.fringewell_state_append_bool.Kinds as state_append_bool_kinds
use Rattle.fringewell.proofs.fringewell_state_append_int32.Reads as state_append_int32_reads
use Rattle.fringewell.proofs.fringewell_state_append_int32.Kinds as state_append_int32_kinds
use Rattle.fringewell.proofs.fringewell_state_append_int64.Reads as state_append_int64_reads
use Rattle.fringewell.proofs.fringewell_state_append_int64.Kinds as state_append_int64_kinds
use Rattle.fringewell.proofs.fringewell_state_append_datetime.Reads as state_append_datetime_reads
use Rattle.fringewell.proofs.fringewell_state_append_datetime.Kinds as state_append_datetime_kinds
use Rattle.fringewell.proofs.fringewell_state_append_timestamp.Reads as state_append_timestamp_reads
use Rattle.fringewell.proofs.fringewell_state_append_timestamp.Kinds as state_append_timestamp_kinds
use Rattle.fringewell.proofs.fringewell_state_append_null.Reads as state_append_null_reads
use Rattle.fringewell.proofs.fringewell_state_append_null.Kinds as state_append_null_kinds
use Rattle.fringewell.proofs.fringewell_state_append_undefined.Reads as state_append_undefined_reads
use Rattle.fringewell.proofs.fringewell_state_append_undefined.Kinds as state_append_undefined_kinds
use Rattle.fringewell.proofs.fringewell_state_append_min_key.Reads as state_append_min_key_reads
use Rattle.fringewell.proofs.fringewell_state_append_min_key.Kinds as state_append_min_key_kinds
use Rattle.fringewell.proofs.fringewell_state_append_max_key.Reads as state_append_max_key_reads
use Rattle.fringewell.proofs.fringewell_state_append_max_key.Kinds as state_append_max_key_kinds
use Rattle.fringewell.proofs.fringewell_state_append_string.Reads as state_append_string_reads
use Rattle.fringewell.proofs.fringewell_state_append_string.Kinds as state_append_string_kinds
use Rattle.fringewell.proofs.fringewell_state_append_code.Reads as state_append_code_reads
use Rattle.fringewell.proofs.fringewell_state_append_code.Kinds as state_append_code_kinds
use Rattle.fringewell.proofs.fringewell_state_append_symbol.Reads as state_append_symbol_reads
use Rattle.fringewell.proofs.fringewell_state_append_symbol.Kinds as state_append_symbol_kinds
use Rattle.fringewell.proofs.fringewell_state_append_binary.Reads as state_append_binary_reads
use Rattle.fringewell.proofs.fringewell_state_append_binary.Kinds as state_append_binary_kinds
use Rattle.fringewell.proofs.fringewell_state_append_regex.Reads as state_append_regex_reads
use Rattle.fringewell.proofs.fringewell_state_append_regex.Kinds as state_append_regex_kinds
use Rattle.fringewell.proofs.fringewell_state_append_dbpointer.Reads as state_append_dbpointer_reads
use Rattle.fringewell.proofs.fringewell_state_append_dbpointer.Kinds as state_append_dbpointer_kinds
use Rattle.fringewell.proofs.fringewell_state_append_object_id.Reads as state_append_object_id_reads
use Rattle.fringewell.proofs.fringewell_state_append_object_id.Kinds as state_append_object_id_kinds
use Rattle.fringewell.proofs.fringewell_state_append_decimal128.Reads as state_append_decimal128_reads
use Rattle.fringewell.proofs.fringewell_state_append_decimal128.Kinds as state_append_decimal128_kinds

-- an answer beside what it leaves
both : {A B : Type 0} {x : A × B} (a₁ a₂ : A) (b₁ b₂ : B) → (a₁, b₁) ≡ x → (a₂, b₂) ≡ x → (a₁ ≡ a₂) × (b₁ ≡ b₂)
both {A} {B} a₁ a₂ b₁ b₂ p q = (ap (λ (y : A × B). y.0) (p ∙ sym q), ap (λ (y : A × B). y.1) (p ∙ sym q))

-- ---- the check

pub fringewell_check_determined : (κs : Lfts 1) (a : Dens κs check_kinds.ps) → Determined (check_reads.Post κs a)
fringewell_check_determined κs a r₁ r₂ s₁ s₂ p q = p ∙ sym q

pub fringewell_check_under_determined : (κs : Lfts 1) (a : Dens κs check_under_kinds.ps) → Determined (check_under_reads.Post κs a)
fringewell_check_under_determined κs a r₁ r₂ s₁ s₂ p q = p ∙ sym q

pub fringewell_check_strict_determined : (κs : Lfts 1) (a : Dens κs check_strict_kinds.ps) → Determined (check_strict_reads.Post κs a)
fringewell_check_strict_determined κs a r₁ r₂ s₁ s₂ p q = p ∙ sym q

pub fringewell_check_strict_under_determined : (κs : Lfts 1) (a : Dens κs check_strict_under_kinds.ps)
    → Determined (check_strict_under_reads.Post κs a)
fringewell_check_strict_under_determined κs a r₁ r₂ s₁ s₂ p q = p ∙ sym q

pub fringewell_is_empty_determined : (κs : Lfts 1) (a : Dens κs is_empty_kinds.ps) → Determined (is_empty_reads.Post κs a)
fringewell_is_empty_determined κs a r₁ r₂ s₁ s₂ p q = p ∙ sym q

-- ---- lookup

pub fringewell_lookup_determined : (κs : Lfts 2) (a : Dens κs lookup_kinds.ps) → Determined (lookup_reads.Post κs a)
fringewell_lookup_determined κs a r₁ r₂ s₁ s₂ p q = p ∙ sym q

pub fringewell_lookup_under_determined : (κs : Lfts 2) (a : Dens κs lookup_under_kinds.ps) → Determined (lookup_under_reads.Post κs a)
fringewell_lookup_under_determined κs a r₁ r₂ s₁ s₂ p q = p ∙ sym q

pub fringewell_lookup_typed_determined : (κs : Lfts 2) (a : Dens κs lookup_typed_kinds.ps) → Determined (lookup_typed_reads.Post κs a)
fringewell_lookup_typed_determined κs a r₁ r₂ s₁ s₂ p q = p ∙ sym q

pub fringewell_lookup_typed_under_determined : (κs : Lfts 2) (a : Dens κs lookup_typed_under_kinds.ps)
    → Determined (lookup_typed_under_reads.Post κs a)
fringewell_lookup_typed_under_determined κs a r₁ r₂ s₁ s₂ p q = p ∙ sym q

-- ---- lookup by a path

pub fringewell_path_determined : (κs : Lfts 2) (a : Dens κs path_kinds.ps) → Determined (path_reads.Post κs a)
fringewell_path_determined κs a r₁ r₂ s₁ s₂ p q = p ∙ sym q

pub fringewell_path_under_determined : (κs : Lfts 2) (a : Dens κs path_under_kinds.ps) → Determined (path_under_reads.Post κs a)
fringewell_path_under_determined κs a r₁ r₂ s₁ s₂ p q = p ∙ sym q

pub fringewell_path_typed_determined : (κs : Lfts 2) (a : Dens κs path_typed_kinds.ps) → Determined (path_typed_reads.Post κs a)
fringewell_path_typed_determined κs a r₁ r₂ s₁ s₂ p q = p ∙ sym q

pub fringewell_path_typed_under_determined : (κs : Lfts 2) (a : Dens κs path_typed_under_kinds.ps)
    → Determined (path_typed_under_reads.Post κs a)
fringewell_path_typed_under_determined κs a r₁ r₂ s₁ s₂ p q = p ∙ sym q

-- ---- steps and readings

pub fringewell_step_determined : (κs : Lfts 1) (a : Dens κs step_kinds.ps) → Determined (step_reads.Post κs a)
fringewell_step_determined κs a r₁ r₂ s₁ s₂ p q = p ∙ sym q

pub fringewell_step_under_determined : (κs : Lfts 1) (a : Dens κs step_under_kinds.ps) → Determined (step_under_reads.Post κs a)
fringewell_step_under_determined κs a r₁ r₂ s₁ s₂ p q = p ∙ sym q

pub fringewell_next_determined : (κs : Lfts 1) (a : Dens κs next_kinds.ps) → Determined (next_reads.Post κs a)
fringewell_next_determined κs a r₁ r₂ s₁ s₂ p q = p ∙ sym q

pub fringewell_next_under_determined : (κs : Lfts 1) (a : Dens κs next_under_kinds.ps) → Determined (next_under_reads.Post κs a)
fringewell_next_under_determined κs a r₁ r₂ s₁ s₂ p q = p ∙ sym q

pub fringewell_read_determined : (κs : Lfts 1) (a : Dens κs read_kinds.ps) → Determined (read_reads.Post κs a)
fringewell_read_determined κs a r₁ r₂ s₁ s₂ p q = p ∙ sym q

pub fringewell_read_under_determined : (κs : Lfts 1) (a : Dens κs read_under_kinds.ps) → Determined (read_under_reads.Post κs a)
fringewell_read_under_determined κs a r₁ r₂ s₁ s₂ p q = p ∙ sym q

-- ---- texts that are shown

pub fringewell_read_lossy_determined : (κs : Lfts 2) (a : Dens κs read_lossy_kinds.ps)
    → DeterminedBuf (λ s. s.1.1.0.now) (read_lossy_reads.Post κs a)
fringewell_read_lossy_determined κs a r₁ r₂ s₁ s₂ p q = both r₁ r₂ s₁.1.1.0.now s₂.1.1.0.now p q

pub fringewell_read_lossy_under_determined : (κs : Lfts 2) (a : Dens κs read_lossy_under_kinds.ps)
    → DeterminedBuf (λ s. s.1.1.0.now) (read_lossy_under_reads.Post κs a)
fringewell_read_lossy_under_determined κs a r₁ r₂ s₁ s₂ p q = both r₁ r₂ s₁.1.1.0.now s₂.1.1.0.now p q

-- ---- joining

pub fringewell_join_determined : (κs : Lfts 3) (a : Dens κs join_kinds.ps) → DeterminedBuf (λ s. s.1.1.0.now) (join_reads.Post κs a)
fringewell_join_determined κs a r₁ r₂ s₁ s₂ p q = both r₁ r₂ s₁.1.1.0.now s₂.1.1.0.now p q

-- ---- the version

pub fringewell_version_determined : (κs : Lfts 0) (a : Dens κs version_kinds.ps) → Determined (version_reads.Post κs a)
fringewell_version_determined κs a r₁ r₂ s₁ s₂ p q = p ∙ sym q

-- ---- documents and arrays

pub fringewell_state_new_determined : (κs : Lfts 0) (a : Dens κs state_new_kinds.ps) → Determined (state_new_reads.Post κs a)
fringewell_state_new_determined κs a r₁ r₂ s₁ s₂ p q = ap (λ (w : List ℕ). record { words = w }) (p ∙ sym q)

pub fringewell_state_open_determined : (κs : Lfts 2) (a : Dens κs state_open_kinds.ps)
    → DeterminedBuf (λ s. desk s.0.now s.1.0.now) (state_open_reads.Post κs a)
fringewell_state_open_determined κs a r₁ r₂ s₁ s₂ p q = both r₁ r₂ (desk _ _) (desk _ _) p q

pub fringewell_state_open_document_determined : (κs : Lfts 3) (a : Dens κs state_open_document_kinds.ps)
    → DeterminedBuf (λ s. desk s.0.now s.1.0.now) (state_open_document_reads.Post κs a)
fringewell_state_open_document_determined κs a r₁ r₂ s₁ s₂ p q = both r₁ r₂ (desk _ _) (desk _ _) p q

pub fringewell_state_open_array_determined : (κs : Lfts 3) (a : Dens κs state_open_array_kinds.ps)
    → DeterminedBuf (λ s. desk s.0.now s.1.0.now) (state_open_array_reads.Post κs a)
fringewell_state_open_array_determined κs a r₁ r₂ s₁ s₂ p q = both r₁ r₂ (desk _ _) (desk _ _) p q

pub fringewell_state_close_determined : (κs : Lfts 2) (a : Dens κs state_close_kinds.ps)
    → DeterminedBuf (λ s. desk s.0.now s.1.0.now) (state_close_reads.Post κs a)
fringewell_state_close_determined κs a r₁ r₂ s₁ s₂ p q = both r₁ r₂ (desk _ _) (desk _ _) p q

-- ---- scalars

pub fringewell_state_append_double_determined : (κs : Lfts 3) (a : Dens κs state_append_double_kinds.ps)
    → DeterminedBuf (λ s. desk s.0.now s.1.0.now) (state_append_double_reads.Post κs a)
fringewell_state_append_double_determined κs a r₁ r₂ s₁ s₂ p q = both r₁ r₂ (desk _ _) (desk _ _) p q

pub fringewell_state_append_bool_determined : (κs : Lfts 3) (a : Dens κs state_append_bool_kinds.ps)
    → DeterminedBuf (λ s. desk s.0.now s.1.0.now) (state_append_bool_reads.Post κs a)
fringewell_state_append_bool_determined κs a r₁ r₂ s₁ s₂ p q = both r₁ r₂ (desk _ _) (desk _ _) p q

pub fringewell_state_append_int32_determined : (κs : Lfts 3) (a : Dens κs state_append_int32_kinds.ps)
    → DeterminedBuf (λ s. desk s.0.now s.1.0.now) (state_append_int32_reads.Post κs a)
fringewell_state_append_int32_determined κs a r₁ r₂ s₁ s₂ p q = both r₁ r₂ (desk _ _) (desk _ _) p q

pub fringewell_state_append_int64_determined : (κs : Lfts 3) (a : Dens κs state_append_int64_kinds.ps)
    → DeterminedBuf (λ s. desk s.0.now s.1.0.now) (state_append_int64_reads.Post κs a)
fringewell_state_append_int64_determined κs a r₁ r₂ s₁ s₂ p q = both r₁ r₂ (desk _ _) (desk _ _) p q

pub fringewell_state_append_datetime_determined : (κs : Lfts 3) (a : Dens κs state_append_datetime_kinds.ps)
    → DeterminedBuf (λ s. desk s.0.now s.1.0.now) (state_append_datetime_reads.Post κs a)
fringewell_state_append_datetime_determined κs a r₁ r₂ s₁ s₂ p q = both r₁ r₂ (desk _ _) (desk _ _) p q

pub fringewell_state_append_timestamp_determined : (κs : Lfts 3) (a : Dens κs state_append_timestamp_kinds.ps)
    → DeterminedBuf (λ s. desk s.0.now s.1.0.now) (state_append_timestamp_reads.Post κs a)
fringewell_state_append_timestamp_determined κs a r₁ r₂ s₁ s₂ p q = both r₁ r₂ (desk _ _) (desk _ _) p q

pub fringewell_state_append_null_determined : (κs : Lfts 3) (a : Dens κs state_append_null_kinds.ps)
    → DeterminedBuf (λ s. desk s.0.now s.1.0.now) (state_append_null_reads.Post κs a)
fringewell_state_append_null_determined κs a r₁ r₂ s₁ s₂ p q = both r₁ r₂ (desk _ _) (desk _ _) p q

pub fringewell_state_append_undefined_determined : (κs : Lfts 3) (a : Dens κs state_append_undefined_kinds.ps)
    → DeterminedBuf (λ s. desk s.0.now s.1.0.now) (state_append_undefined_reads.Post κs a)
fringewell_state_append_undefined_determined κs a r₁ r₂ s₁ s₂ p q = both r₁ r₂ (desk _ _) (desk _ _) p q

pub fringewell_state_append_min_key_determined : (κs : Lfts 3) (a : Dens κs state_append_min_key_kinds.ps)
    → DeterminedBuf (λ s. desk s.0.now s.1.0.now) (state_append_min_key_reads.Post κs a)
fringewell_state_append_min_key_determined κs a r₁ r₂ s₁ s₂ p q = both r₁ r₂ (desk _ _) (desk _ _) p q

pub fringewell_state_append_max_key_determined : (κs : Lfts 3) (a : Dens κs state_append_max_key_kinds.ps)
    → DeterminedBuf (λ s. desk s.0.now s.1.0.now) (state_append_max_key_reads.Post κs a)
fringewell_state_append_max_key_determined κs a r₁ r₂ s₁ s₂ p q = both r₁ r₂ (desk _ _) (desk _ _) p q

-- ---- texts, data and ids

pub fringewell_state_append_string_determined : (κs : Lfts 4) (a : Dens κs state_append_string_kinds.ps)
    → DeterminedBuf (λ s. desk s.0.now s.1.0.now) (state_append_string_reads.Post κs a)
fringewell_state_append_string_determined κs a r₁ r₂ s₁ s₂ p q = both r₁ r₂ (desk _ _) (desk _ _) p q

pub fringewell_state_append_code_determined : (κs : Lfts 4) (a : Dens κs state_append_code_kinds.ps)
    → DeterminedBuf (λ s. desk s.0.now s.1.0.now) (state_append_code_reads.Post κs a)
fringewell_state_append_code_determined κs a r₁ r₂ s₁ s₂ p q = both r₁ r₂ (desk _ _) (desk _ _) p q

pub fringewell_state_append_symbol_determined : (κs : Lfts 4) (a : Dens κs state_append_symbol_kinds.ps)
    → DeterminedBuf (λ s. desk s.0.now s.1.0.now) (state_append_symbol_reads.Post κs a)
fringewell_state_append_symbol_determined κs a r₁ r₂ s₁ s₂ p q = both r₁ r₂ (desk _ _) (desk _ _) p q

pub fringewell_state_append_binary_determined : (κs : Lfts 4) (a : Dens κs state_append_binary_kinds.ps)
    → DeterminedBuf (λ s. desk s.0.now s.1.0.now) (state_append_binary_reads.Post κs a)
fringewell_state_append_binary_determined κs a r₁ r₂ s₁ s₂ p q = both r₁ r₂ (desk _ _) (desk _ _) p q

pub fringewell_state_append_regex_determined : (κs : Lfts 5) (a : Dens κs state_append_regex_kinds.ps)
    → DeterminedBuf (λ s. desk s.0.now s.1.0.now) (state_append_regex_reads.Post κs a)
fringewell_state_append_regex_determined κs a r₁ r₂ s₁ s₂ p q = both r₁ r₂ (desk _ _) (desk _ _) p q

pub fringewell_state_append_dbpointer_determined : (κs : Lfts 5) (a : Dens κs state_append_dbpointer_kinds.ps)
    → DeterminedBuf (λ s. desk s.0.now s.1.0.now) (state_append_dbpointer_reads.Post κs a)
fringewell_state_append_dbpointer_determined κs a r₁ r₂ s₁ s₂ p q = both r₁ r₂ (desk _ _) (desk _ _) p q

pub fringewell_state_append_object_id_determined : (κs : Lfts 4) (a : Dens κs state_append_object_id_kinds.ps)
    → DeterminedBuf (λ s. desk s.0.now s.1.0.now) (state_append_object_id_reads.Post κs a)
fringewell_state_append_object_id_determined κs a r₁ r₂ s₁ s₂ p q = both r₁ r₂ (desk _ _) (desk _ _) p q

pub fringewell_state_append_decimal128_determined : (κs : Lfts 4) (a : Dens κs state_append_decimal128_kinds.ps)
    → DeterminedBuf (λ s. desk s.0.now s.1.0.now) (state_append_decimal128_reads.Post κs a)
fringewell_state_append_decimal128_determined κs a r₁ r₂ s₁ s₂ p q = both r₁ r₂ (desk _ _) (desk _ _) p q
