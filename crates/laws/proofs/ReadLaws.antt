-- A reading at a place is the reading of what the step there yields, and a value is refused at its element's place (RULES.md, "Values").
use Prim.Native.Nat.{ℕ}
use mathlib.Core.Path.{◌≡◌, ap}
use mathlib.Core.List.{List}
use mathlib.Core.Bool.{false}
use Rattle.bson.specs.Answer.{Answer, gives, refuses, then}
use Rattle.bson.specs.Step.{cursor, Element, Step, yield, end, yielded, step_under}
use Rattle.bson.specs.Value.{Value, value_in, value_of, element_at_under, read_at_under}
use Rattle.bson.specs.Cstring.{Limit}
use Rattle.laws.proofs.AdvanceLaws.{at_place}
use Rattle.laws.proofs.AnswerLaws.{never, gives_injective, then_gives}

pub read_step : (limit : Limit) (s : List ℕ) (place : ℕ) (e : Element) → step_under limit s (cursor place false) ≡ gives (yield e)
    → read_at_under limit s place ≡ value_of s e
unfolding read_at_under element_at_under
read_step limit s place e y = rw y

yielded_says : (place : ℕ) (e : Element) (x : Answer Step) → then x (yielded place) ≡ gives e → x ≡ gives (yield e)
yielded_says place e (gives (yield d)) q = ap (λ (f : Element). gives (yield f)) (gives_injective q)
yielded_says place e (gives end) q = never q
yielded_says place e (refuses n p) q = never q

pub element_at_says : (limit : Limit) (s : List ℕ) (place : ℕ) (e : Element) → element_at_under limit s place ≡ gives e
    → step_under limit s (cursor place false) ≡ gives (yield e)
unfolding element_at_under
element_at_says limit s place e q = yielded_says place e (step_under _ s (cursor place false)) q

pub read_says : (limit : Limit) (s : List ℕ) (place : ℕ) (v : Value) → read_at_under limit s place ≡ gives v
    → (e : Element) × (step_under limit s (cursor place false) ≡ gives (yield e)) × (value_of s e ≡ gives v)
unfolding read_at_under
read_says limit s place v x =
    let (e, q, h) = then_gives (element_at_under _ s place) _ x in
    (e, element_at_says limit s place e q, h)

pub value_refused : (s : List ℕ) (e : Element) (n p : ℕ) → value_of s e ≡ refuses n p → p ≡ e.place
unfolding value_of
value_refused s e = at_place (value_in s e.tag e.value) e.place
