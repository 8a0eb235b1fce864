-- Moves: what a table of classes and one of moves say of a byte (RULES.md, request 8).
use Rattle.std.specs.Prelude.{ℕ, ◌/◌, ◌^◌, List, get_or}

abbrev pub class_of : List ℕ → ℕ → ℕ
class_of classes b = get_or classes b 0

-- a state says how far to shift the class's number: the six lowest bits of what is left are the state behind b
abbrev pub move_of : List ℕ → List ℕ → ℕ → ℕ → ℕ
move_of classes moves state b = get_or moves (class_of classes b) 0 / 2 ^ state
