-- What is made of the sizes that a step tells is the element that it yields: no sum of it wraps (RULES.md, "Admission and one step").
use Prim.Native.Nat.{ℕ, ◌+◌, ◌%◌, ◌^◌, ◌<◌}
use mathlib.Core.Path.{◌≡◌, sym, ap, ◌∙◌}
use mathlib.Core.List.{List}
use mathlib.Core.Bool.{false}
use lib.ListN.{length}
use native.Mathlib.Omega.{arith}
use Rattle.bson.specs.Answer.{gives}
use Rattle.bson.specs.Cstring.{Limit}
use Rattle.bson.specs.Step.{Element, cursor, yield, step_under}
use Rattle.laws.proofs.StepLaws.{step_yields}
use Rattle.iter.specs.Said.{sized, sized_wrapping}

no_wrap : (place tag key value : ℕ) → place + 1 + key + 1 < 2 ^ 64 → sized_wrapping place tag key value ≡ sized place tag key value
no_wrap place tag key value low =
    let e : (place + 1) % 2 ^ 64 ≡ place + 1 = omega arith in
    let f : (place + 1 + key + 1) % 2 ^ 64 ≡ place + 1 + key + 1 = omega arith in
    rw (e, f)

pub made_yields : (limit : Limit) (s : List ℕ) {place tag key value : ℕ} {e : Element} → length s < 2 ^ 64
    → step_under limit s (cursor place false) ≡ gives (yield (sized place tag key value)) → e ≡ sized_wrapping place tag key value
    → step_under limit s (cursor place false) ≡ gives (yield e)
made_yields limit s small y m =
    y ∙ ap (λ x. gives (yield x)) (sym (m ∙ no_wrap _ _ _ _ (omega (arith, (step_yields _ _ _ _ y).inside))))
