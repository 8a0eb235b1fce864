-- The numbers that a caller in C is handed for each answer: 0 is no refusal, and what a refusal does not give is 0 (RULES.md, "Numbers
-- returned" and module 8).
use Rattle.std.specs.Prelude.{ℕ, ◌+◌, ◌*◌, Bool, cond, List, eqb, ℤ, Option, None, Some}
use Rattle.bson.specs.Answer.{Answer, gives, refuses}
use Rattle.bson.specs.Bytes.{Part}
use Rattle.bson.specs.Grammar.{unsigned}
use Rattle.bson.specs.Join.{Outcome, wrote, refused}
use Rattle.bson.specs.Lookup.{Found}
use Rattle.bson.specs.Lossy.{Shown}
use Rattle.bson.specs.Step.{Cursor, Element, Step, yield, end}
use Rattle.bson.specs.Value.{Value, leaf, document, array, code_with_scope, none, parts_of, boolean, int32, int64, date_time, double, timestamp}
use Rattle.bson.specs.Value.{object_id, decimal128, string, code, symbol, null, undefined, min_key, max_key, db_pointer, binary, regex, value_of}
use Rattle.bson.specs.Writer.{State, used}
use Rattle.refusal.specs.Said.{number}
use Rattle.refusal.specs.declared.Refused.{Refused}
use Rattle.c_answers.specs.declared.VerdictNumbers.{VerdictNumbers}
use Rattle.c_answers.specs.declared.ValueNumbers.{ValueNumbers}
use Rattle.c_answers.specs.declared.StepNumbers.{StepNumbers}
use Rattle.c_answers.specs.declared.ElementNumbers.{ElementNumbers}
use Rattle.c_answers.specs.declared.JoinedNumbers.{JoinedNumbers}
use Rattle.c_answers.specs.declared.ShownNumbers.{ShownNumbers}
use Rattle.c_answers.specs.declared.WrittenNumbers.{WrittenNumbers}

abbrev pub truth : Bool → ℕ
truth b = cond b 1 0

-- of a refusal, if there is one, the number and the place
abbrev pub number_or_0 : Option Refused → ℕ
number_or_0 None = 0
number_or_0 (Some r) = number r.why

abbrev pub place_or_0 : Option Refused → ℕ
place_or_0 None = 0
place_or_0 (Some r) = r.place

-- ---- the check and joining

-- the whole check: how many values
abbrev pub verdict : Answer ℕ → VerdictNumbers
verdict (gives n) = record { number = 0; place = 0; count = n }
verdict (refuses number place) = record { number = number; place = place; count = 0 }

-- whether a document is empty: 1 where it is
abbrev pub emptiness : Answer Bool → VerdictNumbers
emptiness (gives b) = record { number = 0; place = 0; count = truth b }
emptiness (refuses number place) = record { number = number; place = place; count = 0 }

abbrev pub joined : Outcome → JoinedNumbers
joined (wrote length) = record { number = 0; which = 0; place = 0; length = length }
joined (refused number place which) = record { number = number; which = which; place = place; length = 0 }

-- ---- values

-- a signed number in 64 bits, by two's complement
abbrev pub signed_bits : ℤ → ℕ
signed_bits n = unsigned 0x8000_0000_0000_0000 n

-- what a value has as a number: a double's bits, a boolean, an integer, a timestamp with the seconds in its upper half, a binary's subtype
unfoldable pub bits_of : Value → ℕ
bits_of (leaf (double bits)) = bits
bits_of (leaf (boolean b)) = truth b
bits_of (leaf (int32 n)) = signed_bits n
bits_of (leaf (int64 n)) = signed_bits n
bits_of (leaf (date_time n)) = signed_bits n
bits_of (leaf (timestamp increment seconds)) = increment + 4294967296 * seconds
bits_of (leaf (binary subtype p)) = subtype
bits_of (leaf (string p)) = 0
bits_of (leaf (object_id p)) = 0
bits_of (leaf (decimal128 p)) = 0
bits_of (leaf (code p)) = 0
bits_of (leaf (symbol p)) = 0
bits_of (leaf null) = 0
bits_of (leaf undefined) = 0
bits_of (leaf min_key) = 0
bits_of (leaf max_key) = 0
bits_of (leaf (db_pointer p i)) = 0
bits_of (leaf (regex p o)) = 0
bits_of (document p) = 0
bits_of (array p) = 0
bits_of (code_with_scope c p) = 0

-- the value of an element: its tag, place and framed bytes, its number, and its parts in the order in which they lie
abbrev pub valued : Element → Value → ValueNumbers
valued e v =
    let parts = parts_of v in
    record {
      number = 0;
      tag = e.tag;
      place = e.place;
      framed_offset = e.value.offset;
      framed_size = e.value.size;
      bits = bits_of v;
      offset = parts.0.offset;
      size = parts.0.size;
      offset2 = parts.1.offset;
      size2 = parts.1.size;
    }

-- a refusal, with a tag and framed bytes where these are known
abbrev pub unvalued : ℕ → ℕ → ℕ → Part → ValueNumbers
unvalued number place tag framed =
    record {
      number = number;
      tag = tag;
      place = place;
      framed_offset = framed.offset;
      framed_size = framed.size;
      bits = 0;
      offset = 0;
      size = 0;
      offset2 = 0;
      size2 = 0;
    }

-- a lookup, or a reading at a place: the value with its element
abbrev pub found : Answer Found → ValueNumbers
found (gives f) = valued f.element f.value
found (refuses number place) = unvalued number place 0 none

-- the reading of an element, which is known where its value is refused
abbrev pub read_of : Element → Answer Value → ValueNumbers
read_of e (gives v) = valued e v
read_of e (refuses number place) = unvalued number place e.tag e.value

-- ---- steps

-- a step that yields no element, and the cursor behind it
abbrev pub no_step : ℕ → ℕ → Cursor → StepNumbers
no_step number place c =
    record {
      number = number;
      tag = 0;
      ended = c.ended;
      place = place;
      next = c.offset;
      key_offset = 0;
      key_size = 0;
      framed_offset = 0;
      framed_size = 0;
    }

-- a step, and the cursor behind it
abbrev pub stepped : Answer Step → Cursor → StepNumbers
stepped (gives (yield e)) c =
    record {
      number = 0;
      tag = e.tag;
      ended = c.ended;
      place = e.place;
      next = c.offset;
      key_offset = e.key.offset;
      key_size = e.key.size;
      framed_offset = e.value.offset;
      framed_size = e.value.size;
    }
stepped (gives end) c = no_step 0 0 c
stepped (refuses number place) c = no_step number place c

-- ---- steps that read what they yield

-- an element, its reading, and the cursor behind the step
abbrev pub yielded : Element → Answer Value → Cursor → ElementNumbers
yielded e a c =
    record {
      value = read_of e a;
      key_offset = e.key.offset;
      key_size = e.key.size;
      next = c.offset;
      ended = c.ended;
    }

-- no element, and the cursor behind the step
abbrev pub no_element : ℕ → ℕ → Cursor → ElementNumbers
no_element number place c =
    record { value = unvalued number place 0 none; key_offset = 0; key_size = 0; next = c.offset; ended = c.ended }

-- a step in a slice, the reading of what it yields, and the cursor behind it
abbrev pub step_read : List ℕ → Answer Step → Cursor → ElementNumbers
step_read s (gives (yield e)) c = yielded e (value_of s e) c
step_read s (gives end) c = no_element 0 0 c
step_read s (refuses number place) c = no_element number place c

-- ---- texts that are shown

-- a text that was written: its element's tag and place, how many bytes, and the part behind the text
abbrev pub shown : Answer Shown → ShownNumbers
shown (gives w) =
    record {
      number = 0;
      tag = w.element.tag;
      place = w.element.place;
      length = w.size;
      offset2 = w.second.offset;
      size2 = w.second.size;
    }
shown (refuses number place) = record { number = number; tag = 0; place = place; length = 0; offset2 = 0; size2 = 0 }

-- ---- the writer

-- a writer's call: its number, and where that is 0 the bytes then used
abbrev pub written_by : ℕ → State → WrittenNumbers
written_by number left = record { number = number; used = cond (eqb number 0) (used left) 0 }
