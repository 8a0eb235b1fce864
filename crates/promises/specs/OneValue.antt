-- A value is the same by whichever call C has it: by a lookup, by a path, by a step that reads what it yields, by a reading at its
-- place (RULES.md, "Values" and request 1), under a limit and without one.
use Rattle.std.specs.Prelude.{ℕ, ◌≡◌, List, false, cond, eqb}
use Rattle.bson.specs.Answer.{Answer}
use Rattle.bson.specs.Cstring.{Limit}
use Rattle.bson.specs.Lookup.{Found, get_under, get_with_under, get_at_under}
use Rattle.bson.specs.Path.{get_path_under, get_path_with_under}
use Rattle.bson.specs.Step.{Cursor}
use Rattle.bson.specs.Value.{none}
use Rattle.c_answers.specs.Numbers.{unvalued, found}
use Rattle.c_answers.specs.declared.ElementNumbers.{ElementNumbers}
use Rattle.c_answers.specs.declared.StepNumbers.{StepNumbers}
use Rattle.c_answers.specs.declared.ValueNumbers.{ValueNumbers}
use Rattle.fringewell.specs.Left.{steps_under, reads_under}

-- the step in the numbers of one that read
abbrev pub as_step : ElementNumbers → StepNumbers
as_step n =
    record {
      number = cond n.ended n.value.number 0;
      tag = n.value.tag;
      ended = n.ended;
      place = n.value.place;
      next = n.next;
      key_offset = n.key_offset;
      key_size = n.key_size;
      framed_offset = n.value.framed_offset;
      framed_size = n.value.framed_size;
    }

-- its value, without what a reading at a place does not tell of a refused one
abbrev pub as_read : ValueNumbers → ValueNumbers
as_read v = cond (eqb v.number 0) v (unvalued v.number v.place 0 none)

-- what `fringewell_read` answers at a place, or `fringewell_read_under` under the limit
abbrev pub read_there : Limit → List ℕ → ℕ → ValueNumbers
read_there limit s place = found (get_at_under limit s place)

-- the numbers of an answer that is not refused are those of a reading at its place
abbrev pub AsThere : Limit → List ℕ → Answer Found → Type 0
AsThere limit s a = (n : ValueNumbers) → n ≡ found a → n.number ≡ 0 → n ≡ read_there limit s n.place

-- under each limit and none, of every slice
pub record OneValue (limit : Limit) (s : List ℕ) : Type 0 where
  -- a lookup and a path, plain and typed
  pub lookup : (key : List ℕ) → AsThere limit s (get_under limit s key)
  pub typed : (key : List ℕ) (tag : ℕ) → AsThere limit s (get_with_under limit s key tag)
  pub path : (path : List ℕ) → AsThere limit s (get_path_under limit s path)
  pub typed_path : (path : List ℕ) (tag : ℕ) → AsThere limit s (get_path_with_under limit s path tag)
  -- the element and the cursor of a step that reads are those of the step alone
  pub step : (c : Cursor) (n : ElementNumbers) → n ≡ reads_under limit s c → as_step n ≡ steps_under limit s c
  -- and its value, or the refusal of that, is what a reading there answers
  pub reads : (c : Cursor) (n : ElementNumbers) → n ≡ reads_under limit s c → n.ended ≡ false
      → read_there limit s n.value.place ≡ as_read n.value
