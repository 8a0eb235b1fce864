-- `writer_state::holds` meets its contract: a kind by its case.
use Rattle.bson.specs.Writer.{kind_holds}
use Rattle.writer_state.proofs.holds.Goals as goal

pub returns-in-Document : goal.returns-in-Document
unfolding kind_holds
returns-in-Document c = rw c.in-Document.is

pub returns-in-Array : goal.returns-in-Array
unfolding kind_holds
returns-in-Array c = rw c.in-Array.is
