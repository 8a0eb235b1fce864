-- `report::put_elements` meets its contract: the lines from each offset on the present buffer are all on the first.
use mathlib.Core.Path.{sym, ◌∙◌}
use native.Mathlib.Omega.{arith}
use Rattle.laws.proofs.StepLaws.{step_yields}
use Rattle.laws.proofs.AdvanceLaws.{next_lands}
use Rattle.report.proofs.Along.{lines_end, lines_refused, lines_onward}
use Rattle.report.proofs.put_elements.Goals as goal

pub returns-in-Ok-None : goal.returns-in-Ok-None
returns-in-Ok-None c =
    let l = c.loop-element in
    let e = lines_end _ _ _ (sym (rw (c.in-Ok-None.is, rw c.in-Ok-None.is at c.in-Ok-None.field-0-is) at c.next-step.ensures.0)) in
    (sym e ∙ l.invariant.0, l.invariant.1)

pub returns-in-Err : goal.returns-in-Err
returns-in-Err c =
    let l = c.loop-element in
    (sym (lines_refused _ _ _ _ _ (sym (rw c.in-Err.is at c.next-step.ensures.0))) ∙ l.invariant.0, l.invariant.1)

pub loop-element-smaller : goal.loop-element-smaller
loop-element-smaller c =
    let y = sym (rw (c.in-Ok-Some.is, rw c.in-Ok-Some.is at c.in-Ok-Some.field-0-is) at c.next-step.ensures.0) in
    let n = next_lands _ _ _ y (sym c.next-step.ensures.1) in
    let w = step_yields _ _ _ _ y in
    omega arith

pub loop-element-preserved : goal.loop-element-preserved
loop-element-preserved c =
    let l = c.loop-element in
    let y = sym (rw (c.in-Ok-Some.is, rw c.in-Ok-Some.is at c.in-Ok-Some.field-0-is) at c.next-step.ensures.0) in
    let n = next_lands _ _ _ y (sym c.next-step.ensures.1) in
    let p = c.put_element.ensures in
    (rw (n, p.0) (sym (lines_onward _ _ _ _ y) ∙ l.invariant.0), p.1 ∙ l.invariant.1)
