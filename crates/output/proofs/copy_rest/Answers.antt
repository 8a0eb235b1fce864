-- `output::copy_rest` meets its contract: two bytes and the last, or the last alone.
use native.Mathlib.Omega.{arith}
use Rattle.output.proofs.Runs.{then_last}
use Rattle.output.proofs.copy_rest.Goals as goal

pub returns-then-text-from-ge2 : goal.returns-then-text-from-ge2
returns-then-text-from-ge2 c =
    then_last _ _ _ _ (omega arith) (omega arith) _ c.copy_two.ensures _ c.copy_last.ensures
