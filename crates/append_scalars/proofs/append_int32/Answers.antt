-- `append_scalars::append_int32` meets its contract: refused as its head is, or the four bytes of its bits behind it.
use Prim.Native.Nat.{ℕ, ◌-◌}
use mathlib.Core.List.{[], ◌∷◌}
use mathlib.Core.Path.{ap, sym, ◌∙◌}
use mir.Syntax.{w32}
use Rattle.std.proofs.Common.{rules}
use Rattle.bson.specs.Writer.{answer, performed}
use Rattle.bson.specs.Grammar.{row, bytes32, unsigned}
use Rattle.laws.proofs.GrammarLaws.{length_bytes32}
use Rattle.appending.specs.Element.{appending}
use Rattle.refusal.specs.Said.{number_in}
use Rattle.appending.proofs.Exits.{exit}
use Rattle.appending.proofs.Filled.{head_refused, head_ready, value_put}
use Rattle.encode.proofs.Basic.{passed}
use Rattle.append_scalars.proofs.Words.{word}
use Rattle.append_scalars.proofs.append_int32.Goals as goal

pub overflow_sub-used : goal.overflow_sub-used
overflow_sub-used c =
    head_ready _ _ _ _ _ _ _ c.head.ensures (ap number_in c.in_ok-head.was) c.used-used.ensures.0

pub returns : goal.returns
unfolding performed answer row appending
returns c =
    let e = passed w32 c.args.n c.ranges.n (unsigned 0x8000_0000) c.bits32.ensures in
    value_put _ _ _ _ _ _ _ (sym (length_bytes32 _)) c.head.ensures (ap number_in c.in_ok-head.was) c.head.auto.out
    (ap (λ (n : ℕ). n - 4) c.used-used.ensures.0) (_ ∷ []) (word _ ∙ ap bytes32 e)
    c.put_bytes32.ensures.0 (search rules)

pub returns-in_err-head : goal.returns-in_err-head
unfolding performed answer row appending
returns-in_err-head c = rw (exit _ _ c.from_residual.ensures.1) (head_refused _ _ _ _ _ _ _ (sym (length_bytes32 _)) c.head.ensures _ (ap number_in c.in_err-head.was))
