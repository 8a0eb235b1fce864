-- Determined: the promise of each call allows one answer (RULES.md, "What every answer is bound to").
use mathlib.Core.Path.{◌≡◌, refl, sym, ◌∙◌}
use contract.Lifetimes.{Lfts}
use borrow.Fn.Kinds.{Dens}
use Rattle.bson.specs.Bytes as bytes
use Rattle.laws.proofs.Determined.{Determined, DeterminedPart, injective_by}
use Rattle.iter.proofs.Determined.{unsaid_element}
use Rattle.part.specs.Said.{said_part}
use Rattle.part.proofs.Determined.{unsaid_part}
use Rattle.value.proofs.Determined.{unsaid_value, value_again}
use Rattle.iter.specs.Said.{said_element}
use Rattle.value.specs.Said.{said_value}
use Rattle.refusal.proofs.Determined.{placed_by_injective}
use Rattle.reading.specs.Said.{said_parts}
use Rattle.reading.specs.declared.TwoParts.{TwoParts}
use Rattle.reading.proofs.value_of.Reads as value_of_reads
use Rattle.reading.proofs.value_of.Kinds as value_of_kinds
use Rattle.reading.proofs.locate.Reads as locate_reads
use Rattle.reading.proofs.locate.Kinds as locate_kinds
use Rattle.reading.proofs.read_at.Reads as read_at_reads
use Rattle.reading.proofs.read_at.Kinds as read_at_kinds
use Rattle.reading.proofs.read_with.Reads as read_with_reads
use Rattle.reading.proofs.read_with.Kinds as read_with_kinds
use Rattle.reading.proofs.parts_of.Reads as parts_of_reads
use Rattle.reading.proofs.parts_of.Kinds as parts_of_kinds
use Rattle.reading.proofs.part_of.Reads as part_of_reads
use Rattle.reading.proofs.part_of.Kinds as part_of_kinds
use Rattle.reading.proofs.part_at.Reads as part_at_reads
use Rattle.reading.proofs.part_at.Kinds as part_at_kinds
use Rattle.reading.proofs.parts.string.Reads as string_reads
use Rattle.reading.proofs.parts.string.Kinds as string_kinds
use Rattle.reading.proofs.parts.code.Reads as code_Reads
use Rattle.reading.proofs.parts.code.Kinds as code_kinds
use Rattle.reading.proofs.parts.symbol.Reads as symbol_reads
use Rattle.reading.proofs.parts.symbol.Kinds as symbol_kinds
use Rattle.reading.proofs.parts.document.Reads as document_reads
use Rattle.reading.proofs.parts.document.Kinds as document_kinds
use Rattle.reading.proofs.parts.array.Reads as array_reads
use Rattle.reading.proofs.parts.array.Kinds as array_kinds
use Rattle.reading.proofs.parts.binary.Reads as binary_reads
use Rattle.reading.proofs.parts.binary.Kinds as binary_kinds
use Rattle.reading.proofs.parts.pattern.Reads as pattern_reads
use Rattle.reading.proofs.parts.pattern.Kinds as pattern_kinds
use Rattle.reading.proofs.parts.options.Reads as options_reads
use Rattle.reading.proofs.parts.options.Kinds as options_kinds
use Rattle.reading.proofs.parts.namespace.Reads as namespace_reads
use Rattle.reading.proofs.parts.namespace.Kinds as namespace_kinds
use Rattle.reading.proofs.parts.scope_code.Reads as scope_code_reads
use Rattle.reading.proofs.parts.scope_code.Kinds as scope_code_kinds
use Rattle.reading.proofs.parts.scope.Reads as scope_reads
use Rattle.reading.proofs.parts.scope.Kinds as scope_kinds

-- ---- the element at a place

pub locate_determined : (κs : Lfts 1) (a : Dens κs locate_kinds.ps) → Determined (locate_reads.Post κs a)
locate_determined κs a r₁ r₂ s₁ s₂ p q = placed_by_injective said_element unsaid_element (λ e. refl) r₁ r₂ (p ∙ sym q)

-- ---- readings

pub value_of_determined : (κs : Lfts 1) (a : Dens κs value_of_kinds.ps) → Determined (value_of_reads.Post κs a)
value_of_determined κs a r₁ r₂ s₁ s₂ p q = placed_by_injective said_value unsaid_value value_again r₁ r₂ (p ∙ sym q)

pub read_at_determined : (κs : Lfts 1) (a : Dens κs read_at_kinds.ps) → Determined (read_at_reads.Post κs a)
read_at_determined κs a r₁ r₂ s₁ s₂ p q = placed_by_injective said_value unsaid_value value_again r₁ r₂ (p ∙ sym q)

pub read_with_determined : (κs : Lfts 1) (a : Dens κs read_with_kinds.ps) → Determined (read_with_reads.Post κs a)
read_with_determined κs a r₁ r₂ s₁ s₂ p q = placed_by_injective said_value unsaid_value value_again r₁ r₂ (p ∙ sym q)

-- ---- parts of a value

abbrev unsaid_parts : bytes.Part × bytes.Part → TwoParts
unsaid_parts p = record { 0 = unsaid_part p.0; 1 = unsaid_part p.1 }

pub parts_of_determined : (κs : Lfts 0) (a : Dens κs parts_of_kinds.ps) → Determined (parts_of_reads.Post κs a)
parts_of_determined κs a r₁ r₂ s₁ s₂ p q = injective_by said_parts unsaid_parts (λ r. refl) r₁ r₂ (p ∙ sym q)

pub part_of_determined : (κs : Lfts 0) (a : Dens κs part_of_kinds.ps) → Determined (part_of_reads.Post κs a)
part_of_determined κs a r₁ r₂ s₁ s₂ p q = injective_by said_part unsaid_part (λ r. refl) r₁ r₂ (p ∙ sym q)

pub part_at_determined : (κs : Lfts 1) (a : Dens κs part_at_kinds.ps) → DeterminedPart (λ x. x.now) (part_at_reads.Post κs a)
part_at_determined κs a r₁ r₂ s₁ s₂ p q = p ∙ sym q

-- ---- parts at a place

pub string_determined : (κs : Lfts 1) (a : Dens κs string_kinds.ps) → DeterminedPart (λ x. x.now) (string_reads.Post κs a)
string_determined κs a r₁ r₂ s₁ s₂ p q = p ∙ sym q

pub code_determined : (κs : Lfts 1) (a : Dens κs code_kinds.ps) → DeterminedPart (λ x. x.now) (code_Reads.Post κs a)
code_determined κs a r₁ r₂ s₁ s₂ p q = p ∙ sym q

pub symbol_determined : (κs : Lfts 1) (a : Dens κs symbol_kinds.ps) → DeterminedPart (λ x. x.now) (symbol_reads.Post κs a)
symbol_determined κs a r₁ r₂ s₁ s₂ p q = p ∙ sym q

pub document_determined : (κs : Lfts 1) (a : Dens κs document_kinds.ps) → DeterminedPart (λ x. x.now) (document_reads.Post κs a)
document_determined κs a r₁ r₂ s₁ s₂ p q = p ∙ sym q

pub array_determined : (κs : Lfts 1) (a : Dens κs array_kinds.ps) → DeterminedPart (λ x. x.now) (array_reads.Post κs a)
array_determined κs a r₁ r₂ s₁ s₂ p q = p ∙ sym q

pub binary_determined : (κs : Lfts 1) (a : Dens κs binary_kinds.ps) → DeterminedPart (λ x. x.now) (binary_reads.Post κs a)
binary_determined κs a r₁ r₂ s₁ s₂ p q = p ∙ sym q

pub pattern_determined : (κs : Lfts 1) (a : Dens κs pattern_kinds.ps) → DeterminedPart (λ x. x.now) (pattern_reads.Post κs a)
pattern_determined κs a r₁ r₂ s₁ s₂ p q = p ∙ sym q

pub options_determined : (κs : Lfts 1) (a : Dens κs options_kinds.ps) → DeterminedPart (λ x. x.now) (options_reads.Post κs a)
options_determined κs a r₁ r₂ s₁ s₂ p q = p ∙ sym q

pub namespace_determined : (κs : Lfts 1) (a : Dens κs namespace_kinds.ps) → DeterminedPart (λ x. x.now) (namespace_reads.Post κs a)
namespace_determined κs a r₁ r₂ s₁ s₂ p q = p ∙ sym q

pub scope_code_determined : (κs : Lfts 1) (a : Dens κs scope_code_kinds.ps) → DeterminedPart (λ x. x.now) (scope_code_reads.Post κs a)
scope_code_determined κs a r₁ r₂ s₁ s₂ p q = p ∙ sym q

pub scope_determined : (κs : Lfts 1) (a : Dens κs scope_kinds.ps) → DeterminedPart (λ x. x.now) (scope_reads.Post κs a)
scope_determined κs a r₁ r₂ s₁ s₂ p q = p ∙ sym q
