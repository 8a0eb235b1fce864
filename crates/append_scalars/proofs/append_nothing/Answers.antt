-- `append_scalars::append_nothing` meets its contract: a head alone.
use Rattle.appending.proofs.Filled.{nothing_put}
use Rattle.append_scalars.proofs.append_nothing.Goals as goal

pub returns : goal.returns
returns c = nothing_put _ _ _ _ _ _ _ c.head.ensures c.head.auto.out
