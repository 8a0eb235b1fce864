-- Determined: the promise of a call allows one answer (RULES.md, "What every answer is bound to").
use mathlib.Core.Path.{◌≡◌, refl, sym, ◌∙◌}
use contract.Lifetimes.{Lfts}
use borrow.Fn.Kinds.{Dens}
use Rattle.laws.proofs.Determined.{Determined}
use Rattle.refusal.proofs.Determined.{said_by_injective}
use Rattle.tags.specs.Said.{said_kind}
use Rattle.tags.specs.declared.Kind.{Kind}
use Rattle.tags.specs.declared.Kind.TheVariants.{Fixed, String, Pointer, Document, Binary, Regex, Scope}
use Rattle.tags.proofs.Table.{as_kind}
use Rattle.tags.proofs.kind_of.Reads as kind_of_reads
use Rattle.tags.proofs.kind_of.Kinds as kind_of_kinds

again : (k : Kind) → as_kind (said_kind k) ≡ k
again (Fixed n) = refl
again String = refl
again Pointer = refl
again Document = refl
again Binary = refl
again Regex = refl
again Scope = refl

pub kind_of_determined : (κs : Lfts 0) (a : Dens κs kind_of_kinds.ps) → Determined (kind_of_reads.Post κs a)
kind_of_determined κs a r₁ r₂ s₁ s₂ p q = said_by_injective said_kind as_kind again r₁ r₂ (p ∙ sym q)
