-- `path::find` meets its contract: the slice lies in itself from 0 on.
use mathlib.Core.Path.{sym, ◌∙◌}
use native.Mathlib.Omega.{arith}
use borrow.Author.Tests.{leb-true, leb-false}
use Rattle.laws.proofs.PathLaws.{path_long}
use Rattle.path.proofs.Levels.{reached}
use Rattle.path.proofs.find.Goals as goal

pub along-requires : goal.along-requires
along-requires c = (omega arith, leb-true _ _ (sym c.is_short.ensures ∙ c.if-is_short.true))

pub returns-then-is_short : goal.returns-then-is_short
returns-then-is_short c = reached c.along.ensures

pub returns-else-is_short : goal.returns-else-is_short
returns-else-is_short c = rw c.at.ensures (sym (path_long _ _ _ (leb-false _ _ (sym c.is_short.ensures ∙ c.if-is_short.false))))
