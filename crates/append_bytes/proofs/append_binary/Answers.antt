-- `append_bytes::append_binary` meets its contract: each way out by the subtype.
use Rattle.bson.specs.Writer.{answer, performed}
use Rattle.bson.specs.Grammar.{row}
use Rattle.appending.specs.Element.{appending}
use Rattle.appending.proofs.Valued.{valued}
use Rattle.append_bytes.proofs.Runs.{with_inner_length, with_one_length}
use Rattle.append_bytes.proofs.append_binary.Goals as goal

pub returns-then-subtype-eq2 : goal.returns-then-subtype-eq2
unfolding performed answer row appending
returns-then-subtype-eq2 c =
    valued _ _ _ _ _ _ c.append.ensures
    (with_inner_length _ _ _ c.bytes32-size.ensures c.if-subtype-eq2.true _ c.bytes32-outer.ensures)

pub returns : goal.returns
unfolding performed answer row appending
returns c =
    valued _ _ _ _ _ _ c.append-2.ensures (with_one_length _ _ _ c.bytes32-size.ensures c.if-subtype-eq2.false)
