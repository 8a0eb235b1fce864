-- `nesting::open_in` meets its contract: refused as its head is, or its length behind it and one document more open.
use mathlib.Core.Path.{refl, sym, ap}
use mathlib.Core.List.{[], ◌∷◌, append-nil}
use Rattle.std.proofs.Common.{rules}
use Rattle.laws.proofs.GrammarLaws.{length_bytes32}
use Rattle.refusal.specs.Said.{number_in}
use Rattle.appending.proofs.Exits.{exit}
use Rattle.appending.proofs.Filled.{head_refused, head_ready, value_put}
use Rattle.nesting.proofs.Turns.{opened_ready, opened_done, opened_refused}
use Rattle.nesting.proofs.open_in.Goals as goal

pub returns-in_err-head : goal.returns-in_err-head
returns-in_err-head c =
    rw (exit _ _ c.from_residual.ensures.1)
    (opened_refused _ _ _ _ _ _ _ _ (head_refused _ _ _ _ _ _ _ (sym (length_bytes32 5)) c.head.ensures _ (ap number_in c.in_err-head.was)) _ refl)

pub overflow_sub-start : goal.overflow_sub-start
overflow_sub-start c = head_ready _ _ _ _ _ _ _ c.head.ensures (ap number_in c.in_ok-head.was) refl

pub push-requires : goal.push-requires
push-requires c =
    let e = value_put _ _ _ _ _ _ _ (sym (length_bytes32 5)) c.head.ensures (ap number_in c.in_ok-head.was) c.head.auto.out
    c.wide-used.ensures.0 (_ ∷ []) (append-nil _) c.put_bytes32.ensures.0 refl in
    opened_ready _ _ _ 0 _ _ _ _ e refl

pub returns : goal.returns
returns c =
    let e = value_put _ _ _ _ _ _ _ (sym (length_bytes32 5)) c.head.ensures (ap number_in c.in_ok-head.was) c.head.auto.out
    c.wide-used.ensures.0 (_ ∷ []) (append-nil _) c.put_bytes32.ensures.0 (search rules) in
    opened_done _ _ _ _ _ _ _ _ e refl _ c.push.ensures
