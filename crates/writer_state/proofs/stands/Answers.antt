-- `writer_state::stands` meets its contract: each way out by the test that led there.
use native.Mathlib.Omega.{arith}
use Rattle.std.proofs.Common.{rules}
use mathlib.Core.Path.{◌≡◌}
use mathlib.Core.Bool.{false}
use Rattle.std.specs.Prelude.{MatchResult}
use Rattle.bson.specs.Writer.{used, kind_holds}
use Rattle.writer_state.specs.Said.{said_kind}
use Rattle.writer_state.proofs.Tests.{start_late, kind_decides}
use Rattle.writer_state.proofs.stands.Goals as goal
use Rattle.writer_state.proofs.stands.Goals.{then-end-lt4-via-then-end-lt4, then-end-lt4-via-else-end-lt4+then-end-words}

pub returns-then-end-lt4 : goal.returns-then-end-lt4
returns-then-end-lt4 c =
    elim c.then-end-lt4.branch [
      | then-end-lt4-via-then-end-lt4 w ↦ start_late _ _ _ (omega arith)
      | then-end-lt4-via-else-end-lt4+then-end-words w ↦ start_late _ _ _ (omega arith)
    ]

pub returns : goal.returns
returns c =
    let w = c.args.words.now in
    let m : MatchResult c.kind_of.result (λ k. c.is_ok_and.result ≡ kind_holds (used w) (said_kind k)) (λ _. c.is_ok_and.result ≡ false)
    = search rules in
    kind_decides _ _ _ (omega arith) _ c.kind_of.ensures _ m
