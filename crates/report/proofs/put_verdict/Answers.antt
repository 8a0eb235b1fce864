-- `report::put_verdict` meets its contract: the line of the case that the verdict is.
use native.Mathlib.Omega.{arith}
use Rattle.refusal.specs.Said.{number}
use Rattle.report.proofs.Fits.{accepted_short, refused_short, number_small}
use Rattle.report.proofs.put_verdict.Goals as goal

pub returns-in-Ok-clause-verdict_len_bound : goal.returns-in-Ok-clause-verdict_len_bound
returns-in-Ok-clause-verdict_len_bound c = rw c.in-Ok.is (accepted_short c.in-Ok.count (omega arith))

pub returns-in-Err-clause-verdict_len_bound : goal.returns-in-Err-clause-verdict_len_bound
returns-in-Err-clause-verdict_len_bound c =
    let n = number_small c.in-Err.refused.why in
    rw c.in-Err.is (refused_short (number c.in-Err.refused.why) _ (omega arith) (omega arith))
