-- What the whole check answers C in numbers says of a document's tree: 0 with n, exactly where it is the bytes of a good tree of n values
-- (BSON 1.1, "Specification"; RULES.md, "The whole check" and module 8).
use Prim.Native.Nat.{ℕ}
use mathlib.Core.Path.{◌≡◌, refl, ap}
use mathlib.Core.List.{List}
use mathlib.Core.Bool.{false}
use mathlib.Core.Logic.{◌↔◌}
use native.Mathlib.Omega.{arith}
use Rattle.bson.specs.Answer.{Answer, gives, refuses}
use Rattle.bson.specs.Bytes.{AreBytes}
use Rattle.bson.specs.Cstring.{unlimited}
use Rattle.bson.specs.Check.{check}
use Rattle.bson.specs.Grammar.{Elements}
use Rattle.theorems.specs.OneMeaning.{Frame}
use Rattle.theorems.proofs.Grammar.OneMeaning.{one_meaning}
use Rattle.laws.proofs.ReadRefusals.{NoZero, no_zero, check_in}
use Rattle.c_answers.specs.Numbers.{verdict}
use Rattle.c_answers.specs.declared.VerdictNumbers.{VerdictNumbers}

abbrev pub Accepts : VerdictNumbers → ℕ → Type 0
Accepts v n = (v.number ≡ 0) × (v.count ≡ n)

accepts : (a : Answer ℕ) → NoZero a → (n : ℕ) → Accepts (verdict a) n ↔ (a ≡ gives n)
accepts (gives m) h n = ((λ x. ap gives x.1), λ e. (refl, ap (λ (b : Answer ℕ). (verdict b).count) e))
accepts (refuses number place) h n =
    ((λ x. absurd (omega (arith, x.0))), λ e. (ap (λ (b : Answer ℕ). (verdict b).number) e, ap (λ (b : Answer ℕ). (verdict b).count) e))

pub check_frame : (s : List ℕ) → AreBytes s → (v : VerdictNumbers) → v ≡ verdict (check false s) → (n : ℕ)
    → Accepts v n ↔ ((t : Elements) × Frame s n t)
check_frame s are v e n =
    let (says, gave) = accepts (check false s) (no_zero refl (check_in unlimited false s)) n in
    let (framed, passed) = one_meaning.plain s n are in
    rw e ((λ x. framed (says x)), λ x. gave (passed x))
