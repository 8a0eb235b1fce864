-- `output::copy_two` meets its contract: two stores are a run of two.
use Rattle.output.proofs.Runs.{two_stored}
use Rattle.output.proofs.copy_two.Goals as goal

pub returns : goal.returns
returns c = two_stored _ _ _ _ c.requires.0 c.requires.1
