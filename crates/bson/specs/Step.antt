-- Admission, the cursor, one step and iteration (RULES.md, "Admission and one step").
use Rattle.std.specs.Prelude.{ℕ, zero, suc, ◌+◌, ◌-◌, List, [], ◌∷◌, ◌++◌, Bool, true, false, cond, ◌&&◌, length, get_or, drop, leb, eqb}
use Rattle.bson.specs.Answer.{Answer, gives, refuses, then, unless, at}
use Rattle.bson.specs.Bytes.{declares, Part, part, bytes}
use Rattle.bson.specs.Cstring.{Limit, unlimited, cstring_under}
use Rattle.bson.specs.Framing.{value_size_under}

-- ---- admission

-- "the terminator is the last offset"
abbrev pub terminator : List ℕ → ℕ
terminator s = length s - 1

-- "admission tests 1, 2, 3 in this order"; it gives the length, which is the i32 in front
unfoldable pub admitted : List ℕ → Answer ℕ
admitted s =
    unless (leb 5 (length s)) 1
    (unless (declares s (length s)) 2
    (unless (eqb (get_or s (terminator s) 0) 0) 3
    (gives (length s))))

-- ---- the cursor and the element

-- "a cursor is an offset and an ended mark"
pub record Cursor : Type 0 where
  pub offset : ℕ
  pub ended : Bool

abbrev pub cursor : ℕ → Bool → Cursor
cursor offset ended = record { offset = offset; ended = ended }

-- an element: the offset of its tag byte, its tag, and where its key and its framed value lie
pub record Element : Type 0 where
  pub place : ℕ
  pub tag : ℕ
  pub key : Part
  pub value : Part

-- where the next step begins
abbrev pub past : Element → ℕ
past e = e.value.offset + e.value.size

-- "key, up to its zero, 6; tag, 7; framing"
unfoldable pub element_under : Limit → List ℕ → ℕ → Answer Element
element_under limit s p =
    then (cstring_under limit (drop (p + 1) s)) λ k.
    then (value_size_under limit (get_or s p 0) (drop (p + 1 + k + 1) s)) λ n.
    gives (record { place = p; tag = get_or s p 0; key = part (p + 1) k; value = part (p + 1 + k + 1) n })

-- ---- one step

pub data Step : Type 0 where
  yield : Element → Step
  end : Step

-- the step at an element
abbrev pub yielding_under : Limit → List ℕ → ℕ → Answer Step
yielding_under limit s p = then (element_under limit s p) λ e. gives (yield e)

-- "admission; ended cursor (answers end); 4; at the terminator (end)", then the element
unfoldable pub step_under : Limit → List ℕ → Cursor → Answer Step
step_under limit s c =
    then (admitted s) λ _.
    cond c.ended (gives end)
    (at c.offset
    (unless (leb 4 c.offset && leb c.offset (terminator s)) 4
    (cond (eqb c.offset (terminator s)) (gives end)
    (yielding_under limit s c.offset))))

-- "a refusal or an end sets the mark and keeps the offset; an ended cursor stays ended"
abbrev pub after : Cursor → Answer Step → Cursor
after c (gives (yield e)) = cursor (past e) false
after c (gives end) = cursor c.offset true
after c (refuses n p) = cursor c.offset true

-- the element that a step yields; "place is the terminator" 16
abbrev pub yielded : ℕ → Step → Answer Element
yielded place (yield e) = gives e
yielded place end = refuses 16 place

-- ---- the key, handed back

-- "a call that hands back a part has a twin [..]; where the twin refuses, the part is empty"
abbrev pub handed : List ℕ → Answer Part → List ℕ
handed s (gives p) = bytes s p
handed s (refuses n p) = []

-- the key that a step yields; the twin is the step
unfoldable pub key_at_under : Limit → List ℕ → Cursor → List ℕ
key_at_under limit s c =
    handed s
    (then (step_under limit s c) λ x.
    then (yielded c.offset x) λ e.
    gives e.key)

-- ---- iteration

-- iteration: the elements that steps yield one after the other, and how they end: at the terminator, or refused
pub data Iteration : Type 0 where
  ended : Iteration
  broken : (number place : ℕ) → Iteration
  more : Element → Iteration → Iteration

abbrev pub onward : Answer Step → (ℕ → Iteration) → Iteration
onward (gives (yield e)) from = more e (from (past e))
onward (gives end) from = ended
onward (refuses n p) from = broken n p

-- an element has two bytes or more, so as many steps as the slice has bytes, and one, are enough (`iterate_eq`)
unfoldable pub iterate_for : Limit → ℕ → List ℕ → ℕ → Iteration
iterate_for limit zero s offset = broken 0 0
iterate_for limit (suc n) s offset = onward (step_under limit s (cursor offset false)) (iterate_for limit n s)

unfoldable pub iterate_under : Limit → List ℕ → ℕ → Iteration
iterate_under limit s offset = iterate_for limit (suc (length s)) s offset

-- ---- the bytes of elements

-- the elements that an iteration yields
abbrev pub elements : Iteration → List Element
elements ended = []
elements (broken n p) = []
elements (more e rest) = e ∷ elements rest

-- "an element is its tag, key, zero and framed value"
abbrev pub span : Element → Part
span e = part e.place (1 + e.key.size + 1 + e.value.size)

-- the bytes of elements, one behind the other
abbrev pub spans : List ℕ → List Element → List ℕ
spans s [] = []
spans s (e ∷ es) = bytes s (span e) ++ spans s es

-- ---- without a limit

abbrev pub element : List ℕ → ℕ → Answer Element
element s p = element_under unlimited s p

abbrev pub step : List ℕ → Cursor → Answer Step
step s c = step_under unlimited s c

abbrev pub key_at : List ℕ → Cursor → List ℕ
key_at s c = key_at_under unlimited s c

abbrev pub iterate : List ℕ → ℕ → Iteration
iterate s offset = iterate_under unlimited s offset
