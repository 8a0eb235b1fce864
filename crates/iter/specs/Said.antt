-- What cursors, elements and the cases of an answer say on paper, and the cursor behind a step (RULES.md, "Admission and one step").
use Rattle.std.specs.Prelude.{ℕ, ◌+◌, ◌%◌, ◌^◌, ◌≡◌, Option, None, Some, Result}
use Rattle.bson.specs.Answer.{Answer}
use Rattle.bson.specs.Bytes as bytes
use Rattle.bson.specs.Step as paper
use Rattle.part.specs.Said.{said_part}
use Rattle.refusal.specs.Said.{placed_by}
use Rattle.refusal.specs.declared.Refused.{Refused}
use Rattle.iter.specs.declared.Cursor.{Cursor}
use Rattle.iter.specs.declared.Element.{Element}
use Rattle.iter.specs.declared.Sizes.{Sizes}
use Rattle.iter.specs.declared.Step.{Step}

abbrev pub said_cursor : Cursor → paper.Cursor
said_cursor c = paper.cursor c.offset c.ended

abbrev pub said_element : Element → paper.Element
said_element e = record { place = e.place; tag = e.tag; key = said_part e.key; value = said_part e.value }

-- the element at a place whose key and value are so long
abbrev pub sized : ℕ → ℕ → ℕ → ℕ → paper.Element
sized place tag key value =
    record { place = place; tag = tag; key = bytes.part (place + 1) key; value = bytes.part (place + 1 + key + 1) value }

-- the same of any numbers, where sums wrap
abbrev pub sized_wrapping : ℕ → ℕ → ℕ → ℕ → paper.Element
sized_wrapping place tag key value =
    record {
      place = place;
      tag = tag;
      key = bytes.part ((place + 1) % 2 ^ 64) key;
      value = bytes.part ((place + 1 + key + 1) % 2 ^ 64) value;
    }

-- the element at a place of these sizes
abbrev pub element_sized : ℕ → Sizes → paper.Element
element_sized place z = sized place z.tag z.key z.value

-- an element, or none at the end
abbrev pub step_of : {E : Type 0} → (E → paper.Element) → Option E → paper.Step
step_of f None = paper.end
step_of f (Some e) = paper.yield (f e)

abbrev pub said_sizes : ℕ → Result (Option Sizes) Refused → Answer paper.Step
said_sizes place = placed_by (step_of (element_sized place))

abbrev pub said_answer : Result (Option Element) Refused → Answer paper.Step
said_answer = placed_by (step_of said_element)

abbrev pub said : Step → Answer paper.Step
said r = said_answer r.answer

abbrev pub cursor_behind : Step → paper.Cursor
cursor_behind r = said_cursor r.next

-- what a step from a cursor answers, and that the cursor behind it is the one after that answer
abbrev pub Answers : Step → paper.Cursor → Answer paper.Step → Type 0
Answers r c a = (said r ≡ a) × (cursor_behind r ≡ paper.after c a)
