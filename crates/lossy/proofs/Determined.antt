-- Determined: the promise of each call allows one answer and one buffer (RULES.md, "What every answer is bound to").
use Prim.Native.Nat.{ℕ}
use mathlib.Core.Path.{◌≡◌, refl, sym, ap, ◌∙◌}
use mathlib.Core.List.{List}
use contract.Lifetimes.{Lfts}
use borrow.Fn.Kinds.{Dens}
use Rattle.bson.specs.Answer.{Answer}
use Rattle.bson.specs.Lossy as paper
use Rattle.laws.proofs.Determined.{DeterminedBuf}
use Rattle.refusal.proofs.Determined.{said_injective, placed_by_injective}
use Rattle.iter.proofs.Determined.{unsaid_element}
use Rattle.part.proofs.Determined.{unsaid_part}
use Rattle.lossy.specs.Said.{said_shown}
use Rattle.lossy.specs.declared.Shown.{Shown}
use Rattle.lossy.proofs.put_lossy.Reads as put_lossy_reads
use Rattle.lossy.proofs.put_lossy.Kinds as put_lossy_kinds
use Rattle.lossy.proofs.value_utf8_lossy.Reads as value_utf8_lossy_reads
use Rattle.lossy.proofs.value_utf8_lossy.Kinds as value_utf8_lossy_kinds
use Rattle.lossy.proofs.read_utf8_lossy.Reads as read_utf8_lossy_reads
use Rattle.lossy.proofs.read_utf8_lossy.Kinds as read_utf8_lossy_kinds

abbrev unsaid_shown : paper.Shown → Shown
unsaid_shown s = record { element = unsaid_element s.element; size = s.size; second = unsaid_part s.second }

-- what a call leaves is an answer and a buffer
leaves_same : {A R : Type 0} {said : R → Answer A} (injective : (a b : R) → said a ≡ said b → a ≡ b) (r₁ r₂ : R) (b₁ b₂ : List ℕ)
    (x : paper.Leaves A) → paper.leaves (said r₁) b₁ ≡ x → paper.leaves (said r₂) b₂ ≡ x → (r₁ ≡ r₂) × (b₁ ≡ b₂)
leaves_same {A} injective r₁ r₂ b₁ b₂ x p q = (
  injective r₁ r₂ (ap (λ (l : paper.Leaves A). l.answer) (p ∙ sym q)),
  ap (λ (l : paper.Leaves A). l.left) (p ∙ sym q),
)

pub put_lossy_determined : (κs : Lfts 2) (a : Dens κs put_lossy_kinds.ps) → DeterminedBuf (λ s. s.0.now) (put_lossy_reads.Post κs a)
put_lossy_determined κs a r₁ r₂ s₁ s₂ p q = leaves_same said_injective r₁ r₂ _ _ _ p q

pub value_utf8_lossy_determined : (κs : Lfts 2) (a : Dens κs value_utf8_lossy_kinds.ps) → DeterminedBuf (λ s. s.0.now) (value_utf8_lossy_reads.Post κs a)
value_utf8_lossy_determined κs a r₁ r₂ s₁ s₂ p q =
    leaves_same (placed_by_injective said_shown unsaid_shown (λ s. refl)) r₁ r₂ _ _ _ p q

pub read_utf8_lossy_determined : (κs : Lfts 2) (a : Dens κs read_utf8_lossy_kinds.ps) → DeterminedBuf (λ s. s.0.now) (read_utf8_lossy_reads.Post κs a)
read_utf8_lossy_determined κs a r₁ r₂ s₁ s₂ p q =
    leaves_same (placed_by_injective said_shown unsaid_shown (λ s. refl)) r₁ r₂ _ _ _ p q
