-- Determined: two answers that the promise of a call allows are equal (RULES.md, "What every answer is bound to").
use Prim.Native.Nat.{ℕ}
use mathlib.Core.Path.{◌≡◌, ap, sym, ◌∙◌}
use mathlib.Core.List.{List}
use Rattle.bson.specs.Answer.{Answer, gives, refuses}
use Rattle.bson.specs.Writer.{State, desk, Written, written}

-- of two promises over the same arguments: an answer that the one allows is each that the other allows
abbrev pub Agree : {A S : Type 0} → (A → S → Type 0) → (A → S → Type 0) → Type 0
Agree {A} {S} P Q = (r₁ r₂ : A) (s₁ s₂ : S) → P r₁ s₁ → Q r₂ s₂ → r₁ ≡ r₂

abbrev pub Determined : {A S : Type 0} → (A → S → Type 0) → Type 0
Determined P = Agree P P

-- of a part that is handed back, the bytes; where they lie says its twin
abbrev pub DeterminedPart : {A B S : Type 0} → (A → B) → (A → S → Type 0) → Type 0
DeterminedPart {A} {B} {S} now P = (r₁ r₂ : A) (s₁ s₂ : S) → P r₁ s₁ → P r₂ s₂ → now r₁ ≡ now r₂

-- of a lent buffer, what is left in it too
abbrev pub DeterminedBuf : {A S B : Type 0} → (S → B) → (A → S → Type 0) → Type 0
DeterminedBuf {A} {S} {B} left P = (r₁ r₂ : A) (s₁ s₂ : S) → P r₁ s₁ → P r₂ s₂ → (r₁ ≡ r₂) × (left s₁ ≡ left s₂)

-- what a writer's call leaves is a number, and a state and a buffer
pub written_same : (r₁ r₂ : ℕ) (w₁ w₂ : State) (b₁ b₂ : List ℕ) (x : Written)
    → written r₁ w₁ b₁ ≡ x → written r₂ w₂ b₂ ≡ x → (r₁ ≡ r₂) × (desk w₁ b₁ ≡ desk w₂ b₂)
written_same r₁ r₂ w₁ w₂ b₁ b₂ x p q = (ap (λ (y : Written). y.number) (p ∙ sym q), ap (λ (y : Written). y.left) (p ∙ sym q))

-- a meaning that can be read back is another's for no other case
pub injective_by : {A B : Type 0} (said : A → B) (unsaid : B → A) → ((a : A) → unsaid (said a) ≡ a) → (a b : A) → said a ≡ said b → a ≡ b
injective_by said unsaid again a b e = sym (again a) ∙ ap unsaid e ∙ again b

-- an answer back as a case of an enum that holds what is given, or a refusal's number
abbrev pub unsaid : {A E : Type 0} → (A → E) → (ℕ → E) → Answer A → E
unsaid is refused (gives a) = is a
unsaid is refused (refuses number place) = refused number

-- the same where the case of a refusal holds its place too
abbrev pub unsaid_at : {A E : Type 0} → (A → E) → (ℕ → ℕ → E) → Answer A → E
unsaid_at is refused (gives a) = is a
unsaid_at is refused (refuses number place) = refused number place
