-- An element that is framed at a cursor, under whatever limit: where it lies, and that its key and its value are framed there. A step that
-- yields an element frames it so (RULES.md, "Admission and one step").
use Rattle.std.specs.Prelude.{ℕ, ◌+◌, ◌≤◌, ◌<◌, ◌≡◌, List, false, length, get_or, drop}
use Rattle.bson.specs.Answer.{gives}
use Rattle.bson.specs.Cstring.{cstring}
use Rattle.bson.specs.Framing.{value_size}
use Rattle.bson.specs.Step.{terminator, admitted, Cursor, Element, past}

pub record FramedAt (s : List ℕ) (c : Cursor) (e : Element) : Type 0 where
  pub admits : admitted s ≡ gives (length s)
  pub going : c.ended ≡ false
  pub low : 4 ≤ c.offset
  pub high : c.offset < terminator s
  pub placed : e.place ≡ c.offset
  pub tagged : e.tag ≡ get_or s c.offset 0
  pub key_at_law : e.key.offset ≡ c.offset + 1
  pub value_at : e.value.offset ≡ e.key.offset + e.key.size + 1
  pub wide : c.offset + 2 ≤ e.value.offset
  pub inside : past e ≤ length s
  pub key_is : cstring (drop (c.offset + 1) s) ≡ gives e.key.size
  pub value_is_law : value_size e.tag (drop e.value.offset s) ≡ gives e.value.size
