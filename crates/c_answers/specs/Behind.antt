-- What the numbers of a step say to a caller in C: they lie one behind the other, an open cursor ends at the terminator, and in an admitted
-- document a step is refused where it begins (RULES.md, request 13; module 8).
use Rattle.std.specs.Prelude.{ℕ, ◌+◌, ◌<◌, ◌≡◌, List, true, false}
use Rattle.bson.specs.Step.{terminator}
use Rattle.c_answers.specs.declared.StepNumbers.{StepNumbers}

-- the numbers of an element that a step from an offset on yields
pub record Behind (offset : ℕ) (v : StepNumbers) : Type 0 where
  pub place : v.place ≡ offset
  pub key : v.key_offset ≡ v.place + 1
  pub value : v.framed_offset ≡ v.key_offset + v.key_size + 1
  pub next : v.next ≡ v.framed_offset + v.framed_size

-- and of each step with an open cursor
pub record StepSays (s : List ℕ) (offset : ℕ) (v : StepNumbers) : Type 0 where
  pub yields : v.number ≡ 0 → v.ended ≡ false → Behind offset v
  pub ends : v.number ≡ 0 → v.ended ≡ true → offset ≡ terminator s
  pub refused : 3 < v.number → v.place ≡ offset
