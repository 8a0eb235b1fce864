-- `append_bytes::append_dbpointer` meets its contract: the namespace is a text, and the id is behind it.
use Rattle.bson.specs.Writer.{answer, performed}
use Rattle.bson.specs.Grammar.{row}
use Rattle.appending.specs.Element.{appending}
use Rattle.appending.proofs.Valued.{tested}
use Rattle.append_bytes.proofs.Runs.{text_runs}
use Rattle.append_bytes.proofs.append_dbpointer.Goals as goal

pub returns : goal.returns
unfolding performed answer row appending
returns c =
    tested _ _ _ _ _ c.append.ensures c.is_utf8-good.ensures (text_runs _ _ _ c.bytes32-size.ensures)
