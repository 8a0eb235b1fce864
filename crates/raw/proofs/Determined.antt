-- Determined: the promise of each call allows one answer (RULES.md, "What every answer is bound to").
use mathlib.Core.Path.{sym, ◌∙◌, ◌≡◌, refl}
use contract.Lifetimes.{Lfts}
use borrow.Fn.Kinds.{Dens}
use Rattle.bson.specs.Bytes.{Part}
use Rattle.laws.proofs.Determined.{Determined}
use Rattle.refusal.proofs.Determined.{said_injective, said_by_injective}
use Rattle.raw.specs.Said.{said_pattern_options}
use Rattle.raw.specs.declared.PatternOptions.{PatternOptions}
use Rattle.raw.proofs.read_len.Reads as read_len_reads
use Rattle.raw.proofs.read_len.Kinds as read_len_kinds
use Rattle.raw.proofs.admit.Reads as admit_reads
use Rattle.raw.proofs.admit.Kinds as admit_kinds
use Rattle.raw.proofs.pattern_options.Reads as pattern_options_reads
use Rattle.raw.proofs.pattern_options.Kinds as pattern_options_kinds
use Rattle.raw.proofs.value_len.Reads as value_len_reads
use Rattle.raw.proofs.value_len.Kinds as value_len_kinds

pub read_len_determined : (κs : Lfts 1) (a : Dens κs read_len_kinds.ps) → Determined (read_len_reads.Post κs a)
read_len_determined κs a r₁ r₂ s₁ s₂ p q = said_injective r₁ r₂ (p ∙ sym q)

pub admit_determined : (κs : Lfts 1) (a : Dens κs admit_kinds.ps) → Determined (admit_reads.Post κs a)
admit_determined κs a r₁ r₂ s₁ s₂ p q = said_injective r₁ r₂ (p ∙ sym q)

abbrev pattern_options_unsaid : Part × Part → PatternOptions
pattern_options_unsaid r = record { pattern = r.0.size; options = r.1.size }

pub pattern_options_determined : (κs : Lfts 1) (a : Dens κs pattern_options_kinds.ps) → Determined (pattern_options_reads.Post κs a)
pattern_options_determined κs a r₁ r₂ s₁ s₂ p q =
    said_by_injective said_pattern_options pattern_options_unsaid (λ r. refl) r₁ r₂ (p ∙ sym q)

pub value_len_determined : (κs : Lfts 1) (a : Dens κs value_len_kinds.ps) → Determined (value_len_reads.Post κs a)
value_len_determined κs a r₁ r₂ s₁ s₂ p q = said_injective r₁ r₂ (p ∙ sym q)
