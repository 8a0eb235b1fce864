-- `append_bytes::append_text` meets its contract: refused as its head is, or the length, the text and its zero behind it.
use Prim.Native.Nat.{ℕ, ◌+◌, ◌-◌}
use mathlib.Core.Path.{ap}
use mathlib.Core.List.{[], ◌∷◌}
use lib.ListN.{length}
use Rattle.std.proofs.Common.{rules}
use Rattle.laws.proofs.OutputLaws.{then_put}
use Rattle.refusal.specs.Said.{number_in}
use Rattle.appending.proofs.Exits.{exit}
use Rattle.appending.proofs.Filled.{head_refused, head_ready, value_put}
use Rattle.append_bytes.proofs.Runs.{text_size, text_joined, whole_key}
use Rattle.append_bytes.proofs.append_text.Goals as goal

pub overflow_sub-used : goal.overflow_sub-used
overflow_sub-used c =
    head_ready _ _ _ _ _ _ _ c.head.ensures (ap number_in c.in_ok-head.was) c.used.ensures.0

pub returns : goal.returns
returns c =
    let a = c.args in
    let o = then_put _ (then_put _ c.put_bytes32.ensures.0 c.put_text.ensures.0) c.put_text-2.ensures.0 in
    let e = value_put _ _ _ _ _ _ _ (text_size a.text.now) c.head.ensures (ap number_in c.in_ok-head.was)
    c.head.auto.out
    (ap (λ (n : ℕ). n - (length a.text.now + 5)) c.used.ensures.0) (_ ∷ _ ∷ _ ∷ []) (text_joined a.text.now) o (search rules) in
    whole_key _ _ _ _ _ e c.is_utf8-good.ensures

pub returns-in_err-head : goal.returns-in_err-head
returns-in_err-head c =
    let e = head_refused _ _ _ _ _ _ _ (text_size c.args.text.now) c.head.ensures _ (ap number_in c.in_err-head.was) in
    rw (exit _ _ c.from_residual.ensures.1) (whole_key _ _ _ _ _ e c.is_utf8-good.ensures)
