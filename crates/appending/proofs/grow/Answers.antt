-- `appending::grow` meets its contract: each way out by the kind.
use native.Mathlib.Omega.{arith}
use borrow.Author.Tests.{leb-true}
use Rattle.bson.specs.Writer.{kind_holds, grown}
use Rattle.appending.proofs.grow.Goals as goal

pub overflow_add-words-in-Array : goal.overflow_add-words-in-Array
unfolding kind_holds
overflow_add-words-in-Array c =
    let h = rw c.in-Array.is at c.requires.kind_value in
    omega (arith, leb-true c.in-Array.count 2147483647 h)

pub returns-in-Array : goal.returns-in-Array
unfolding grown
returns-in-Array c =
    rw (c.in-Array.is, c.depth-last.ensures.0)

pub returns-in_default : goal.returns-in_default
unfolding grown
returns-in_default c = rw c.in_default.is
