-- What the cases of an answer say on paper (RULES.md, request 1).
use Rattle.std.specs.Prelude.{◌≡◌, List, ℕ, Result, Ok, Err, length}
use Rattle.bson.specs.Answer.{Answer, refuses, then}
use Rattle.bson.specs.Bytes.{Part, part, bytes}
use Rattle.bson.specs.Lookup.{Found, found}
use Rattle.bson.specs.Path.{moved}
use Rattle.bson.specs.Value.{Value}
use Rattle.refusal.specs.Said.{number}
use Rattle.refusal.specs.declared.Refused.{Refused}
use Rattle.iter.specs.Said.{said_element}
use Rattle.iter.specs.declared.Element.{Element}

-- a value that can't be entered: its own refusal, then 17
abbrev pub stops : Answer Value → Answer Part
stops a = then a λ v. refuses 17 0

-- what reading the element that a path leads to answers
abbrev pub reads : List ℕ → Result Element Refused → Answer Found
reads s (Ok e) = found s (said_element e)
reads s (Err r) = refuses (number r.why) r.place

-- in every slice that holds this one from an offset on, this is what reading there answers
pub record Reaches (s : List ℕ) (base : ℕ) (result : Result Element Refused) (answer : Answer Found) : Type 0 where
  pub answers : (whole : List ℕ) → bytes whole (part base (length s)) ≡ s → reads whole result ≡ moved base answer
