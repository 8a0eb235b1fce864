-- Determined: the promise of each call allows one answer (RULES.md, "What every answer is bound to").
use Prim.Native.Nat.{ℕ}
use mathlib.Core.Path.{◌≡◌, refl, ap, sym, ◌∙◌}
use contract.Lifetimes.{Lfts}
use borrow.Fn.Kinds.{Dens}
use Rattle.std.specs.Prelude.{Option, None, Some, Result, Ok, Err}
use Rattle.bson.specs.Level as paper
use Rattle.laws.proofs.Determined.{Determined}
use Rattle.part.proofs.Determined.{unsaid_part}
use Rattle.refusal.specs.declared.Refusal.{Refusal}
use Rattle.refusal.specs.Said.{said_by}
use Rattle.refusal.proofs.Determined.{said_by_injective, without_place}
use Rattle.visit.specs.declared.Opened.{Opened}
use Rattle.visit.specs.Said.{said_opening, said_visited}
use Rattle.visit.proofs.visit.Reads as visit_reads
use Rattle.visit.proofs.visit.Kinds as visit_kinds

abbrev unsaid_opening : paper.Opening → Option Opened
unsaid_opening paper.closed = None
unsaid_opening (paper.opens is_array levels inner) =
    Some (record { array = is_array; levels = levels; inner = unsaid_part inner })

opening_again : (o : Option Opened) → unsaid_opening (said_opening o) ≡ o
opening_again None = refl
opening_again (Some o) = refl

visited_injective : (place : ℕ) (r s : Result (Option Opened) Refusal) → said_visited place r ≡ said_visited place s → r ≡ s
unfolding said_visited
visited_injective place r s e =
    said_by_injective said_opening unsaid_opening opening_again r s (without_place said_opening place r s e)

pub visit_determined : (κs : Lfts 1) (a : Dens κs visit_kinds.ps) → Determined (visit_reads.Post κs a)
visit_determined κs a r₁ r₂ s₁ s₂ p q = visited_injective _ r₁ r₂ (p ∙ sym q)
