-- A reader at the first element, the cursor that a reader carries, and the step there with the reader behind it (RULES.md, "Values").
use Rattle.std.specs.Prelude.{ℕ, ◌≡◌, List, false, Result, Option}
use Rattle.std.specs.Borrow.{Bor}
use Rattle.bson.specs.Step.{Cursor, cursor, step, after}
use Rattle.refusal.specs.declared.Refused.{Refused}
use Rattle.iter.specs.Said.{said_answer}
use Rattle.iter.specs.declared.Element.{Element}
use Rattle.reader.specs.declared.Reader.{Reader}

abbrev pub started : Bor (List ℕ) → Reader
started src = record { src = src; offset = 4; ended = false }

abbrev pub cursor_of : Reader → Cursor
cursor_of r = cursor r.offset r.ended

-- the document stays
abbrev pub moved_to : Reader → Cursor → Reader
moved_to r c = record { src = r.src; offset = c.offset; ended = c.ended }

-- what the step at a reader's cursor answers, and that the reader is behind it then: the same one, moved to the cursor after that answer
abbrev pub Steps : Result (Option Element) Refused → Reader → Reader → Type 0
Steps answer r behind =
    (said_answer answer ≡ step r.src.now (cursor_of r))
    × (behind ≡ moved_to r (after (cursor_of r) (step r.src.now (cursor_of r))))
