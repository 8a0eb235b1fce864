-- `writer_state::possible` meets its contract: each way out by the test that led there.
use mathlib.Core.Path.{sym, ◌∙◌}
use native.Mathlib.Omega.{arith}
use borrow.Author.Tests.{leb-true, leb-false}
use Rattle.writer_state.proofs.Tests.{too_many, past_the_room, open_decide}
use Rattle.writer_state.proofs.possible.Goals as goal
use Rattle.writer_state.proofs.possible.Goals.{then-depth-le-MAX_OPEN, else-depth-le-MAX_OPEN}

pub returns-then-used-depth : goal.returns-then-used-depth
returns-then-used-depth c =
    elim c.if-depth-le-MAX_OPEN.branch [
      | then-depth-le-MAX_OPEN w ↦
          open_decide _ _ _ c.depth-depth.ensures.0 (omega arith) _ w.used.ensures.0
          (leb-true _ _ (sym w.value-is ∙ c.if-used-depth.true)) _ c.stand.ensures
      | else-depth-le-MAX_OPEN w ↦ absurd (omega (arith, leb-true _ _ (sym w.value-is ∙ c.if-used-depth.true)))
    ]

pub returns-else-used-depth : goal.returns-else-used-depth
returns-else-used-depth c =
    elim c.if-depth-le-MAX_OPEN.branch [
      | then-depth-le-MAX_OPEN w ↦
          c.if-used-depth.false
          ∙ past_the_room _ _ _ c.depth-depth.ensures.0 (omega arith) _ w.used.ensures.0
          (leb-false _ _ (sym w.value-is ∙ c.if-used-depth.false))
      | else-depth-le-MAX_OPEN w ↦ c.if-used-depth.false ∙ too_many _ _ _ c.depth-depth.ensures.0 (omega arith)
    ]
