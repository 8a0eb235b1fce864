-- `nesting::open_document` meets its contract: the tag and the mark of a document.
use Rattle.bson.specs.Writer.{opened_in, answer, performed}
use Rattle.nesting.specs.Opened.{opened_as}
use Rattle.nesting.proofs.open_document.Goals as goal

pub returns : goal.returns
unfolding performed answer opened_in opened_as
returns c = c.open_in.ensures
