-- `output::copy_last` meets its contract: one byte is left, or none.
use native.Mathlib.Omega.{arith}
use Rattle.output.proofs.Runs.{one_stored, none_stored}
use Rattle.output.proofs.copy_last.Goals as goal

pub returns-then-from-text : goal.returns-then-from-text
returns-then-from-text c = one_stored _ _ _ _ c.if-from-text.true c.requires.1 (omega arith)

pub returns-else-from-text : goal.returns-else-from-text
returns-else-from-text c = none_stored _ _ _ _ c.if-from-text.false
