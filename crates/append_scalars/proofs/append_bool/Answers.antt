-- `append_scalars::append_bool` meets its contract: refused as its head is, or a byte behind it, 1 or 0.
use Prim.Native.Nat.{ℕ, ◌-◌}
use mathlib.Core.List.{[], ◌∷◌}
use mathlib.Core.Path.{refl, ap, ◌∙◌}
use Rattle.std.proofs.Common.{rules}
use Rattle.bson.specs.Writer.{answer, performed}
use Rattle.bson.specs.Grammar.{row}
use Rattle.appending.specs.Element.{appending}
use Rattle.refusal.specs.Said.{number_in}
use Rattle.appending.proofs.Exits.{exit}
use Rattle.appending.proofs.Filled.{head_refused, head_ready, value_put}
use Rattle.encode.proofs.Basic.{boolean_byte}
use Rattle.append_scalars.proofs.append_bool.Goals as goal

pub overflow_sub-used : goal.overflow_sub-used
overflow_sub-used c =
    head_ready _ _ _ _ _ _ _ c.head.ensures (ap number_in c.in_ok-head.was) c.used-used.ensures.0

pub returns : goal.returns
unfolding performed answer row appending
returns c =
    value_put _ _ _ _ _ _ _ refl c.head.ensures (ap number_in c.in_ok-head.was) c.head.auto.out
    (ap (λ (n : ℕ). n - 1) c.used-used.ensures.0) (_ ∷ []) (ap (λ (n : ℕ). n ∷ []) (c.from.ensures ∙ boolean_byte c.args.b))
    c.put_text.ensures.0 (search rules)

pub returns-in_err-head : goal.returns-in_err-head
unfolding performed answer row appending
returns-in_err-head c = rw (exit _ _ c.from_residual.ensures.1) (head_refused _ _ _ _ _ _ _ refl c.head.ensures _ (ap number_in c.in_err-head.was))
