-- `decimal::put_digits` meets its contract: what is left to write on the present buffer is the whole on the first.
use Prim.Native.Nat.{suc, ◌-◌}
use mathlib.Core.Path.{◌≡◌, refl, ◌∙◌}
use native.Mathlib.Omega.{arith}
use Rattle.decimal.proofs.Powers.{table, digit_put, lead_put}
use Rattle.decimal.proofs.put_digits.Goals as goal

pub returns-then-k-eq1 : goal.returns-then-k-eq1
returns-then-k-eq1 c = digit_put _ _ _ _ (omega arith) c.if-k-eq1.true c.requires.3

pub loop-zeros-preserved : goal.loop-zeros-preserved
loop-zeros-preserved c =
    let l = c.loop-zeros in
    let first = c.lead-first.ensures in
    let p = table.power_at l.zeros l.invariant.1 in
    let e : suc (l.zeros - 1) ≡ l.zeros = omega arith in (
      omega arith,
      omega arith,
      rw (e, ← p) first.2,
      rw e (lead_put l.out l.place l.zeros _ _ _ _ (omega arith) p first ∙ l.invariant.3),
    )

pub returns : goal.returns
returns c =
    let l = c.loop-zeros in
    digit_put l.out l.place (suc l.zeros) _ (omega arith) (omega arith) l.invariant.2 ∙ l.invariant.3
