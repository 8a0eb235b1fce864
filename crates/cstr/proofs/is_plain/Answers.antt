-- `cstr::is_plain` meets its contract: the bytes passed are plain, and what is left of the text decides.
use mathlib.Core.Path.{sym, ◌∙◌}
use borrow.Author.Tests.{ltb-false}
use Rattle.cstr.proofs.Plain.{plain_on}
use native.Mathlib.Omega.{arith}
use Rattle.cstr.proofs.is_plain.Goals as goal

pub loop-i-preserved : goal.loop-i-preserved
loop-i-preserved c =
    let l = c.loop-i in
    (omega arith, plain_on _ _ l.invariant.1 (ltb-false _ _ (sym c.stops_in_four.ensures ∙ c.if-stops_in_four.false)))
