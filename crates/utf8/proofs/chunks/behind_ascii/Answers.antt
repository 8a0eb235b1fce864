-- `utf8::chunks::behind_ascii` meets its contract: what is in front of the rest is ASCII.
use mathlib.Core.Path.{sym, ◌∙◌}
use lib.ListN.{take-append-drop}
use Rattle.utf8.proofs.AsciiLaws.{behind_none, behind_more}
use Rattle.utf8.proofs.chunks.behind_ascii.Goals as goal

pub loop-block-init : goal.loop-block-init
loop-block-init c = behind_none c.args.v.now

pub loop-block-preserved : goal.loop-block-preserved
loop-block-preserved c =
    let s = c.in-Some.ensures.cases in
    behind_more c.in-Some.block.now c.loop-block.invariant (rw (s.1, s.2) (sym (take-append-drop 32 c.loop-block.rest.now)))
    (sym c.ascii.ensures ∙ c.if-not-ascii.false)
