-- `output::copy_four` meets its contract: four stores are a run of four.
use Rattle.output.proofs.Runs.{four_stored}
use Rattle.output.proofs.copy_four.Goals as goal

pub returns : goal.returns
returns c = four_stored _ _ _ _ c.requires.0 c.requires.1
