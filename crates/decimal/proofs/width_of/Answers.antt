-- `decimal::width_of` meets its contract: at every turn the number has k digits or more.
use mathlib.Core.Path.{refl}
use native.Mathlib.Omega.{arith}
use Rattle.laws.proofs.DecimalLaws.{width_positive, width_small, width_above, width_is}
use Rattle.decimal.proofs.Powers.{table}
use Rattle.decimal.proofs.width_of.Goals as goal

pub loop-k-init : goal.loop-k-init
loop-k-init c = width_positive c.args.n

pub returns-then-n-k : goal.returns-then-n-k
returns-then-n-k c =
    let l = c.loop-k in
    (width_is l.k _ (omega arith) l.invariant (rw (← table.power_at l.k (omega arith)) c.if-n-k.true), omega arith)

pub loop-k-preserved : goal.loop-k-preserved
loop-k-preserved c =
    let l = c.loop-k in
    omega (arith, width_above l.k c.args.n (rw (← table.power_at l.k (omega arith)) c.if-n-k.false))

pub returns : goal.returns
returns c = (omega (arith, c.loop-k.invariant, width_small c.args.n (omega arith)), omega arith)
