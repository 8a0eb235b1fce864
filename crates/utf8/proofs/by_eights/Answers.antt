-- `utf8::by_eights` meets its contract: what is in front of the rest is ASCII, so the rest decides.
use mathlib.Core.Path.{sym, ◌∙◌}
use native.Mathlib.Omega.{arith}
use lib.ListN.{take-append-drop}
use Rattle.utf8.proofs.AsciiLaws.{behind_none, behind_more}
use Rattle.utf8.proofs.TextLaws.{behind_same, behind_ends}
use Rattle.utf8.proofs.by_eights.Goals as goal

pub loop-block-init : goal.loop-block-init
loop-block-init c = behind_none c.args.s.now

pub loop-block-preserved : goal.loop-block-preserved
loop-block-preserved c =
    let s = c.in-Some.ensures.cases in
    behind_more c.in-Some.block.now c.loop-block.invariant (rw (s.1, s.2) (sym (take-append-drop 8 c.loop-block.left.now)))
    (sym c.ascii.ensures ∙ c.if-not-ascii.false)

pub returns-then-not-ascii : goal.returns-then-not-ascii
returns-then-not-ascii c = c.mixed.ensures ∙ behind_same c.loop-block.invariant

pub returns-then-ends_in_ascii : goal.returns-then-ends_in_ascii
returns-then-ends_in_ascii c =
    behind_ends c.loop-block.invariant (omega (arith, c.in_default.ensures)) (sym c.ends_in_ascii.ensures ∙ c.if-ends_in_ascii.true)

pub returns : goal.returns
returns c = c.mixed-2.ensures ∙ behind_same c.loop-block.invariant
