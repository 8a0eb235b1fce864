-- `nesting::push` meets its contract: the stores are the definition.
use Rattle.nesting.specs.Opened.{pushed_at}
use Rattle.nesting.proofs.push.Goals as goal

pub returns : goal.returns
unfolding pushed_at
returns c = rw (c.depth-depth.ensures.0, c.mark.ensures)
