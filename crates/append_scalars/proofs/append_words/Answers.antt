-- `append_scalars::append_words` meets its contract: refused as its head is, or two words behind it.
use Prim.Native.Nat.{ℕ, ◌-◌}
use mathlib.Core.Path.{ap}
use mathlib.Core.List.{[], ◌∷◌}
use Rattle.std.proofs.Common.{rules}
use Rattle.refusal.specs.Said.{number_in}
use Rattle.appending.proofs.Exits.{exit}
use Rattle.appending.proofs.Filled.{head_refused, head_ready, value_put}
use Rattle.append_scalars.proofs.Words.{words, eight}
use Rattle.append_scalars.proofs.append_words.Goals as goal

pub overflow_sub-used : goal.overflow_sub-used
overflow_sub-used c =
    head_ready _ _ _ _ _ _ _ c.head.ensures (ap number_in c.in_ok-head.was) c.used-used.ensures.0

pub returns : goal.returns
returns c =
    value_put _ _ _ _ _ _ _ (eight _ _) c.head.ensures (ap number_in c.in_ok-head.was) c.head.auto.out
    (ap (λ (n : ℕ). n - 8) c.used-used.ensures.0) (_ ∷ []) (words _ _ _ _ c.bytes32-p.ensures c.bytes32-q.ensures)
    c.put_text.ensures.0 (search rules)

pub returns-in_err-head : goal.returns-in_err-head
returns-in_err-head c = rw (exit _ _ c.from_residual.ensures.1) (head_refused _ _ _ _ _ _ _ (eight _ _) c.head.ensures _ (ap number_in c.in_err-head.was))
