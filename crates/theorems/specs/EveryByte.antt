-- Every byte of a document has one role: it is of the length, of an element's tag, key, zero or value, or the terminator (BSON 1.1,
-- `document` and `element`; RULES.md, "Admission and one step").
use Rattle.std.specs.Prelude.{ℕ, ◌+◌, ◌≤◌, ◌<◌, ◌≡◌, List}
use Rattle.bson.specs.Bytes.{Part}
use Rattle.bson.specs.Step.{terminator, Element}
use Rattle.bson.specs.Reach.{Among}
use Rattle.bson.specs.Cstring.{unlimited}

pub data Role : Type 0 where
  of_length of_terminator : Role
  of_tag of_key of_zero of_value : Element → Role

-- a byte lies in a part
abbrev pub LiesIn : ℕ → Part → Type 0
LiesIn i p = (p.offset ≤ i) × (i < p.offset + p.size)

-- the byte at an offset of a document has a role; elements are those that iterating the document yields
abbrev pub Has : List ℕ → ℕ → Role → Type 0
Has d i of_length = i < 4
Has d i (of_tag e) = Among unlimited d e × (i ≡ e.place)
Has d i (of_key e) = Among unlimited d e × LiesIn i e.key
Has d i (of_zero e) = Among unlimited d e × (i ≡ e.key.offset + e.key.size)
Has d i (of_value e) = Among unlimited d e × LiesIn i e.value
Has d i of_terminator = i ≡ terminator d

-- and no other
pub record OneRole (d : List ℕ) (i : ℕ) : Type 0 where
  pub role : Role
  pub has : Has d i role
  pub only : (r : Role) → Has d i r → r ≡ role
