-- `writer_state::stand` meets its contract: each turn tests one open document and leaves those around it.
use mathlib.Core.Path.{sym, ◌∙◌}
use native.Mathlib.Omega.{arith}
use Rattle.writer_state.proofs.Tests.{stand_refused, stand_onward, stand_last}
use Rattle.writer_state.proofs.stand.Goals as goal

pub returns-then-not-stands : goal.returns-then-not-stands
returns-then-not-stands c =
    sym (stand_refused _ _ _ (omega arith) (sym c.stands.ensures ∙ c.if-not-stands.true)) ∙ c.loop-i.invariant

pub loop-i-preserved : goal.loop-i-preserved
loop-i-preserved c =
    sym (stand_onward _ _ _ (omega arith) (sym c.stands.ensures ∙ c.if-not-stands.false)) ∙ c.loop-i.invariant

pub returns : goal.returns
returns c = sym (stand_last _ _ _ (omega arith)) ∙ c.loop-i.invariant
