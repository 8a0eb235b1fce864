-- Determined: the promise of each call allows one answer (RULES.md, "What every answer is bound to").
use mathlib.Core.Path.{◌≡◌, refl, sym, ◌∙◌}
use contract.Lifetimes.{Lfts}
use borrow.Fn.Kinds.{Dens}
use Rattle.bson.specs.Writer as paper
use Rattle.laws.proofs.Determined.{Determined}
use Rattle.refusal.proofs.Determined.{said_by_injective}
use Rattle.writer_state.specs.Said.{said_kind}
use Rattle.writer_state.specs.declared.Kind.{Kind}
use Rattle.writer_state.specs.declared.Kind.TheVariants.{Document, Array}
use Rattle.writer_state.proofs.Kind.mark.Reads as mark_reads
use Rattle.writer_state.proofs.Kind.mark.Kinds as mark_kinds
use Rattle.writer_state.proofs.room_of.Reads as room_of_reads
use Rattle.writer_state.proofs.room_of.Kinds as room_of_kinds
use Rattle.writer_state.proofs.wide.Reads as wide_reads
use Rattle.writer_state.proofs.wide.Kinds as wide_kinds
use Rattle.writer_state.proofs.used.Reads as used_reads
use Rattle.writer_state.proofs.used.Kinds as used_kinds
use Rattle.writer_state.proofs.depth.Reads as depth_reads
use Rattle.writer_state.proofs.depth.Kinds as depth_kinds
use Rattle.writer_state.proofs.possible.Reads as possible_reads
use Rattle.writer_state.proofs.possible.Kinds as possible_kinds
use Rattle.writer_state.proofs.innermost.Reads as innermost_reads
use Rattle.writer_state.proofs.innermost.Kinds as innermost_kinds

abbrev unsaid_kind : paper.Kind → Kind
unsaid_kind paper.in_document = Document
unsaid_kind (paper.in_array count) = Array count

kind_again : (k : Kind) → unsaid_kind (said_kind k) ≡ k
kind_again Document = refl
kind_again (Array count) = refl

pub mark_determined : (κs : Lfts 0) (a : Dens κs mark_kinds.ps) → Determined (mark_reads.Post κs a)
mark_determined κs a r₁ r₂ s₁ s₂ p q = p ∙ sym q

pub room_of_determined : (κs : Lfts 0) (a : Dens κs room_of_kinds.ps) → Determined (room_of_reads.Post κs a)
room_of_determined κs a r₁ r₂ s₁ s₂ p q = p ∙ sym q

pub wide_determined : (κs : Lfts 0) (a : Dens κs wide_kinds.ps) → Determined (wide_reads.Post κs a)
wide_determined κs a r₁ r₂ s₁ s₂ p q = p.0 ∙ sym q.0

pub used_determined : (κs : Lfts 1) (a : Dens κs used_kinds.ps) → Determined (used_reads.Post κs a)
used_determined κs a r₁ r₂ s₁ s₂ p q = p.0 ∙ sym q.0

pub depth_determined : (κs : Lfts 1) (a : Dens κs depth_kinds.ps) → Determined (depth_reads.Post κs a)
depth_determined κs a r₁ r₂ s₁ s₂ p q = p.0 ∙ sym q.0

pub possible_determined : (κs : Lfts 1) (a : Dens κs possible_kinds.ps) → Determined (possible_reads.Post κs a)
possible_determined κs a r₁ r₂ s₁ s₂ p q = p ∙ sym q

pub innermost_determined : (κs : Lfts 1) (a : Dens κs innermost_kinds.ps) → Determined (innermost_reads.Post κs a)
innermost_determined κs a r₁ r₂ s₁ s₂ p q = said_by_injective said_kind unsaid_kind kind_again r₁ r₂ (p ∙ sym q)
