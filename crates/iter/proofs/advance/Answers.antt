-- `iter::advance` meets its contract: the element of the sizes, and the cursor behind it.
use mathlib.Core.Path.{refl, sym}
use native.Mathlib.Omega.{arith}
use Rattle.laws.proofs.StepLaws.{step_yields}
use Rattle.iter.proofs.Sized.{made_yields}
use Rattle.iter.proofs.advance.Goals as goal

pub overflow_add-result : goal.overflow_add-result
overflow_add-result c =
    let y = rw c.in-Ok-Some.field-0-is at c.in-Ok-Some.ensures in
    omega (arith, (step_yields _ _ _ _ (made_yields _ _ (omega arith) (sym y) c.element_of-element.ensures)).inside)

pub returns-in-Ok-Some : goal.returns-in-Ok-Some
returns-in-Ok-Some c =
    let y = rw c.in-Ok-Some.field-0-is at c.in-Ok-Some.ensures in
    rw (made_yields _ _ (omega arith) (sym y) c.element_of-element.ensures) (refl, refl)
