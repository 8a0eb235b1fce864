-- `appending::total` meets its contract: no sum is made that could pass the largest number.
use Rattle.appending.proofs.Runs.{run_added, runs_added}
use Rattle.appending.proofs.total.Goals as goal

pub loop-run-preserved : goal.loop-run-preserved
loop-run-preserved c =
    run_added c.args.runs.now c.loop-run.run-index c.loop-run.size _ _ _ c.loop-run-test.true c.saturating_add-size.ensures c.loop-run.invariant

pub returns : goal.returns
returns c = runs_added c.args.runs.now c.loop-run.run-index c.loop-run.size _ c.loop-run-test.false c.loop-run.invariant c.min.ensures
