-- `appending::append` meets its contract: refused as its head is, or the runs are put behind it.
use mathlib.Core.Path.{ap}
use Prim.Native.Nat.{ℕ, ◌-◌}
use native.Mathlib.Omega.{arith}
use Rattle.std.proofs.Common.{rules}
use Rattle.refusal.specs.Said.{number_in}
use Rattle.appending.specs.Element.{texts_of}
use Rattle.appending.proofs.Exits.{exit}
use Rattle.appending.proofs.Runs.{runs_refused, runs_fit, runs_put}
use Rattle.appending.proofs.append.Goals as goal

pub returns-in_err-head : goal.returns-in_err-head
returns-in_err-head c =
    rw (exit _ _ c.from_residual.ensures.1)
    (runs_refused _ _ _ _ _ _ (texts_of c.args.runs.now) c.total-size.ensures c.head.ensures _ (ap number_in c.in_err-head.was))

pub overflow_sub-used : goal.overflow_sub-used
overflow_sub-used c =
    let f = runs_fit _ _ _ _ _ _ (texts_of c.args.runs.now) c.total-size.ensures c.head.ensures (ap number_in c.in_ok-head.was) in
    omega (arith, c.used.ensures.0)

pub returns : goal.returns
returns c =
    runs_put _ _ _ _ _ _ (texts_of c.args.runs.now) c.total-size.ensures c.head.ensures (ap number_in c.in_ok-head.was)
    c.head.auto.out (ap (λ (n : ℕ). n - c.total-size.result) c.used.ensures.0) c.put_runs.ensures.0
    (search rules)
