-- Every yielded byte is accounted for: of an admitted slice, passed or refused, under a limit on keys or under
-- none (RULES.md, request 13).
use Rattle.std.specs.Prelude.{ℕ, ◌+◌, ◌-◌, ◌≤◌, ◌<◌, ◌≡◌, List, [], ◌∷◌, Bool, false, ◌↔◌, ◌⊎◌, length, drop}
use Rattle.bson.specs.Answer.{gives, refuses}
use Rattle.bson.specs.Bytes.{le32, part, bytes}
use Rattle.bson.specs.Cstring.{Limit}
use Rattle.bson.specs.Step.{terminator, admitted, Cursor, cursor, Element, past, span, spans, yield, end, step_under, Iteration, ended}
use Rattle.bson.specs.Step.{broken, more, iterate_under, elements}
use Rattle.bson.specs.Check.{check_under}

-- ---- elements, one behind the other

-- an element begins at an offset and has no gap in it: tag, key, zero, value; and "each has at least two bytes"
pub record Lies (s : List ℕ) (from : ℕ) (e : Element) : Type 0 where
  pub tag : e.place ≡ from
  pub key : e.key.offset ≡ from + 1
  pub value : e.value.offset ≡ e.key.offset + e.key.size + 1
  pub ends : past e ≡ from + (span e).size
  pub least : 2 ≤ (span e).size
  pub inside : past e ≤ length s

-- "the elements yielded [..] lie one behind the other with no gap or overlap, [..] and the next step starts where they end": at a clean end
-- at the terminator, and at any refusal "the place is that start"
abbrev pub Accounted : Limit → List ℕ → ℕ → Iteration → Type 0
Accounted limit s from ended = (step_under limit s (cursor from false) ≡ gives end) × (from ≡ terminator s)
Accounted limit s from (broken number place) = (step_under limit s (cursor from false) ≡ refuses number place) × (place ≡ from)
Accounted limit s from (more e rest) =
    (step_under limit s (cursor from false) ≡ gives (yield e)) × Lies s from e × Accounted limit s (from + (span e).size) rest

-- how many bytes elements have together
abbrev pub extent : List Element → ℕ
extent [] = 0
extent (e ∷ es) = (span e).size + extent es

-- "at a clean end their lengths add up to the document's length less 5"; at a refusal they reach its place
abbrev pub AddUp : List ℕ → ℕ → Iteration → Type 0
AddUp s total ended = total ≡ length s - 5
AddUp s total (broken number place) = 4 + total ≡ place
AddUp s total (more e rest) = AddUp s total rest

abbrev pub RefusedBy : ℕ → Iteration → Type 0
RefusedBy n ended = ⊥
RefusedBy n (broken number place) = number ≡ n
RefusedBy n (more e rest) = RefusedBy n rest

-- refused by 4 exactly where the elements, from an offset on, reach past the terminator
abbrev pub Overrun : List ℕ → ℕ → Iteration → Type 0
Overrun s from i = RefusedBy 4 i ↔ (terminator s < from + extent (elements i))

-- ---- where a refusal is met

-- an offset at an element, in it, or where it ends: there 4 is met of a document inside that reaches past its own terminator
abbrev pub OfElement : Element → ℕ → Type 0
OfElement e p = (e.place ≤ p) × (p ≤ past e)

-- a refusal, by its number and its place, that is of an element, or that of the iteration itself
abbrev pub Met : Iteration → ℕ → ℕ → Type 0
Met ended n p = ⊥
Met (broken number place) n p = (n ≡ number) × (p ≡ place)
Met (more e rest) n p = OfElement e p ⊎ Met rest n p

-- ---- the statement

-- an iteration from offset 4 on
pub record IterationSays (limit : Limit) (s : List ℕ) (i : Iteration) : Type 0 where
  pub accounted : Accounted limit s 4 i
  pub add_up : AddUp s (extent (elements i)) i
  pub overrun : Overrun s 4 i
  -- the bytes of its elements, one behind the other, are those of the slice
  pub told : spans s (elements i) ≡ bytes s (part 4 (extent (elements i)))
  -- what the check refuses, at whatever depth, is met there
  pub refused : (strict : Bool) (number place : ℕ) → check_under limit strict s ≡ refuses number place → Met i number place

pub record EveryYieldedByte (limit : Limit) (s : List ℕ) : Type 0 where
  pub iteration : IterationSays limit s (iterate_under limit s 4)
  -- a step, wherever it begins
  pub steps : (c : Cursor) (e : Element) → step_under limit s c ≡ gives (yield e) → Lies s c.offset e
  -- a code with scope has as many value bytes as its length says, so one of length 0 to 3 "only those few"
  pub scopes : (c : Cursor) (e : Element) → step_under limit s c ≡ gives (yield e) → e.tag ≡ 0x0F
      → e.value.size ≡ le32 (drop e.value.offset s)

abbrev pub YieldedBytes : Type 0
YieldedBytes = (limit : Limit) (s : List ℕ) (n : ℕ) → admitted s ≡ gives n → EveryYieldedByte limit s
