-- `writer_state::kind_of` meets its contract: each way out by the test that led there.
use borrow.Author.Tests.{lt-ltb, le-ltb, eq-eqb, ne_eqb}
use Rattle.bson.specs.Writer.{kind_of}
use Rattle.writer_state.proofs.kind_of.Goals as goal

pub returns-then-mark-lt-NEGATIVE : goal.returns-then-mark-lt-NEGATIVE
unfolding kind_of
returns-then-mark-lt-NEGATIVE c = rw (lt-ltb _ _ c.if-mark-lt-NEGATIVE.true)

pub returns-then-mark-eq-DOCUMENT_MARK : goal.returns-then-mark-eq-DOCUMENT_MARK
unfolding kind_of
returns-then-mark-eq-DOCUMENT_MARK c = rw (le-ltb _ _ c.if-mark-lt-NEGATIVE.false, eq-eqb _ _ c.if-mark-eq-DOCUMENT_MARK.true)

pub returns : goal.returns
unfolding kind_of
returns c = rw (le-ltb _ _ c.if-mark-lt-NEGATIVE.false, ne_eqb _ _ c.if-mark-eq-DOCUMENT_MARK.false)
