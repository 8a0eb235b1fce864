-- `writer_state::innermost` meets its contract: each way out by the test that led there.
use mathlib.Core.Path.{sym, ◌∙◌}
use native.Mathlib.Omega.{arith}
use Rattle.laws.proofs.WriterLaws.{possible_says}
use Rattle.writer_state.proofs.Tests.{innermost_told, nothing_open, impossible}
use Rattle.writer_state.proofs.innermost.Goals as goal

pub bounds-words-depth : goal.bounds-words-depth
bounds-words-depth c =
    let p = c.possible.ensures in
    let h = (possible_says _ _ (sym p ∙ c.if-possible.true)).0 in
    omega (arith, c.depth-depth.ensures.0)

pub returns-then-depth-gt0 : goal.returns-then-depth-gt0
returns-then-depth-gt0 c =
    innermost_told _ _ _ c.depth-depth.ensures.0 _ c.possible.ensures c.if-possible.true
    c.if-depth-gt0.true _ c.kind_of.ensures

pub returns-else-depth-gt0 : goal.returns-else-depth-gt0
returns-else-depth-gt0 c =
    nothing_open _ _ _ c.depth-depth.ensures.0 _ c.possible.ensures c.if-possible.true c.if-depth-gt0.false

pub returns-else-possible : goal.returns-else-possible
returns-else-possible c = impossible _ _ _ c.possible.ensures c.if-possible.false
