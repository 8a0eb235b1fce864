-- The results of a writer's call: what a `?` that is left by returns, and which promise allows one (RULES.md, "What every answer is bound to").
use Prim.Native.Nat.{ℕ}
use mathlib.Core.Path.{◌≡◌, ap}
use mathlib.Core.List.{List}
use Rattle.std.specs.Prelude.{Result, Ok, Err}
use Rattle.std.specs.Result.{IsErrAnd}
use Rattle.bson.specs.Writer.{State, desk, Written, written}
use Rattle.laws.proofs.Determined as numbers
use Rattle.refusal.proofs.Determined.{number_in_injective}
use Rattle.refusal.specs.Said.{number_in}
use Rattle.refusal.specs.declared.Refusal.{Refusal}

-- the refusal as it came
pub exit : {T E : Type 0} (r : Result T E) (e : E) → IsErrAnd r (λ x. x ≡ e) → r ≡ Err e
exit (Ok x) e h = elim h [ ]
exit (Err x) e h = ap Err h

-- what a writer's call leaves is a result, and a state and a buffer
pub written_same : (r₁ r₂ : Result Unit Refusal) (w₁ w₂ : State) (b₁ b₂ : List ℕ) (x : Written)
    → written (number_in r₁) w₁ b₁ ≡ x → written (number_in r₂) w₂ b₂ ≡ x → (r₁ ≡ r₂) × (desk w₁ b₁ ≡ desk w₂ b₂)
written_same r₁ r₂ w₁ w₂ b₁ b₂ x p q =
    let s = numbers.written_same (number_in r₁) (number_in r₂) w₁ w₂ b₁ b₂ x p q in
    (number_in_injective r₁ r₂ s.0, s.1)
