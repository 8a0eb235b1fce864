-- `utf8::is_utf8` meets its contract: what is in front of the rest is ASCII, so the rest decides.
use mathlib.Core.Path.{sym, ◌∙◌}
use lib.ListN.{take-append-drop}
use Rattle.utf8.proofs.AsciiLaws.{behind_none, behind_more}
use Rattle.utf8.proofs.TextLaws.{ascii_utf8, behind_same}
use Rattle.utf8.proofs.is_utf8.Goals as goal

pub loop-block-init : goal.loop-block-init
loop-block-init c = behind_none c.args.s.now

pub loop-block-preserved : goal.loop-block-preserved
loop-block-preserved c =
    let s = c.in-Some.ensures.cases in
    behind_more c.in-Some.block.now c.loop-block.invariant (rw (s.1, s.2) (sym (take-append-drop 32 c.loop-block.rest.now)))
    (sym c.ascii-in-Some.ensures ∙ c.if-not-ascii.false)

pub returns-then-ascii : goal.returns-then-ascii
returns-then-ascii c = c.if-ascii.true ∙ sym (ascii_utf8 _ (rw (sym c.ascii.ensures ∙ c.if-ascii.true) tt))

pub returns-then-not-ascii : goal.returns-then-not-ascii
returns-then-not-ascii c = c.mixed.ensures ∙ behind_same c.loop-block.invariant

pub returns : goal.returns
returns c = c.by_eights.ensures ∙ behind_same c.loop-block.invariant
