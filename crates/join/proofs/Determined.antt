-- Determined: the promise of a join allows one answer and one buffer (RULES.md, "What every answer is bound to").
use Prim.Native.Nat.{ℕ}
use mathlib.Core.Path.{◌≡◌, refl, sym, ap, ◌∙◌}
use contract.Lifetimes.{Lfts}
use borrow.Fn.Kinds.{Dens}
use Rattle.std.specs.Prelude.{Result, Ok, Err, cond, eqb}
use Rattle.bson.specs.Answer.{Answer, gives, refuses}
use Rattle.bson.specs.Join as paper
use Rattle.laws.proofs.Determined.{DeterminedBuf}
use Rattle.refusal.specs.Said.{placed}
use Rattle.refusal.specs.declared.Refused.{Refused}
use Rattle.refusal.proofs.Determined.{placed_injective}
use Rattle.join.specs.Said.{said, said_which}
use Rattle.join.specs.declared.NotJoined.{NotJoined}
use Rattle.join.specs.declared.Which.{Which}
use Rattle.join.specs.declared.Which.TheVariants.{Neither, First, Second}
use Rattle.join.proofs.join.Reads as join_reads
use Rattle.join.proofs.join.Kinds as join_kinds

-- an outcome apart: the answer, and which document it is of
abbrev answer : paper.Outcome → Answer ℕ
answer (paper.wrote size) = gives size
answer (paper.refused number place which) = refuses number place

abbrev which : paper.Outcome → ℕ
which (paper.wrote size) = 0
which (paper.refused number place w) = w

abbrev numbered : ℕ → Which
numbered n = cond (eqb n 0) Neither (cond (eqb n 1) First Second)

again : (w : Which) → numbered (said_which w) ≡ w
again Neither = refl
again First = refl
again Second = refl

abbrev plain : Result ℕ NotJoined → Result ℕ Refused
plain (Ok size) = Ok size
plain (Err n) = Err n.refused

abbrev joined : Result ℕ Refused → Which → Result ℕ NotJoined
joined (Ok size) w = Ok size
joined (Err r) w = Err (record { refused = r; which = w })

answers : (r : Result ℕ NotJoined) → placed (plain r) ≡ answer (said r)
answers (Ok size) = refl
answers (Err n) = refl

rejoined : (r : Result ℕ NotJoined) → joined (plain r) (numbered (which (said r))) ≡ r
rejoined (Ok size) = refl
rejoined (Err n) = ap (λ (w : Which). Err (record { refused = n.refused; which = w })) (again n.which)

pub said_injective : (a b : Result ℕ NotJoined) → said a ≡ said b → a ≡ b
said_injective a b e =
    let p : plain a ≡ plain b = placed_injective _ _ (answers a ∙ ap answer e ∙ sym (answers b)) in
    let w : which (said a) ≡ which (said b) = ap which e in
    sym (rejoined a) ∙ rw (p, w) (rejoined b)

pub join_determined : (κs : Lfts 3) (a : Dens κs join_kinds.ps) → DeterminedBuf (λ s. s.0.now) (join_reads.Post κs a)
join_determined κs a r₁ r₂ s₁ s₂ p q = (
  said_injective r₁ r₂ (ap (λ (j : paper.Joined). j.outcome) (p ∙ sym q)),
  ap (λ (j : paper.Joined). j.left) (p ∙ sym q),
)
