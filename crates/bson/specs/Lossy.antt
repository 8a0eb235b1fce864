-- Damaged text still shown: UTF-8 with EF BF BD for each maximal bad part, and the values whose text is read so, into a lent buffer
-- (RULES.md, request 4; Unicode, section 3.9, "U+FFFD Substitution of Maximal Subparts"; `parse_utf8_lossy` of the Rust).
use Rattle.std.specs.Prelude.{ℕ, zero, suc, ◌+◌, ◌-◌, List, [], ◌∷◌, ◌++◌, Bool, true, false, cond, length, take, drop, leb, ltb}
use Rattle.bson.specs.Answer.{Answer, gives, refuses, then, unless, at}
use Rattle.bson.specs.Bytes.{Part, part, bytes, trim}
use Rattle.bson.specs.Utf8.{Range, in_range, rows, Left, bad, ranges, begin}
use Rattle.bson.specs.Cstring.{Limit, unlimited}
use Rattle.bson.specs.Tags.{Sized, fixed, as_string, as_pointer, as_document, as_binary, as_regex, as_scope, sized_of}
use Rattle.bson.specs.Framing.{string_size}
use Rattle.bson.specs.Step.{admitted, Element}
use Rattle.bson.specs.Value.{none, element_at_under}
use Rattle.bson.specs.Output.{put}

-- ---- a text

-- the bytes in front of a text that belong together, and whether they are a character
pub record Piece : Type 0 where
  pub size : ℕ
  pub good : Bool

abbrev pub piece : ℕ → Bool → Piece
piece size good = record { size = size; good = good }

-- with a byte more in front
abbrev pub longer : Piece → Piece
longer p = piece (suc p.size) p.good

-- the bytes that lie in the ranges left of a row, one after the other; a character where no range is left
abbrev pub follow : List Range → List ℕ → Piece
follow [] v = piece 0 true
follow (r ∷ rs) [] = piece 0 false
follow (r ∷ rs) (b ∷ v) = cond (in_range r b) (longer (follow rs v)) (piece 0 false)

-- a first byte, by what it leaves, and what follows it: "a maximal bad part" is a byte that begins no row, or the bytes that begin one and
-- do not end it
abbrev pub piece_by : Left → List ℕ → Piece
piece_by bad v = piece 1 false
piece_by (ranges rs) v = longer (follow rs v)

abbrev pub piece_of : ℕ → List ℕ → Piece
piece_of b v = piece_by (begin rows b) v

-- a text falls apart into characters and maximal bad parts. Each has a byte or more, so as many turns as bytes are enough (`pieces_eq`)
unfoldable pub pieces_for : ℕ → List ℕ → List Piece
pieces_for zero v = []
pieces_for (suc n) [] = []
pieces_for (suc n) (b ∷ v) =
    let p = piece_of b v in
    p ∷ pieces_for n (drop p.size (b ∷ v))

unfoldable pub pieces : List ℕ → List Piece
pieces v = pieces_for (length v) v

-- U+FFFD
abbrev pub replacement : List ℕ
replacement = 0xEF ∷ 0xBF ∷ 0xBD ∷ []

-- "each maximal bad part becomes EF BF BD"
abbrev pub shown : List Piece → List ℕ → List ℕ
shown [] v = []
shown (p ∷ ps) v = cond p.good (take p.size v) replacement ++ shown ps (drop p.size v)

unfoldable pub lossy : List ℕ → List ℕ
lossy v = shown (pieces v) v

-- ---- where the text of a value lies

-- a text, and what the value has behind it: a DBPointer's id, a scope, or none
pub record Text : Type 0 where
  pub text : Part
  pub second : Part

abbrev pub text_and : Part → Part → Text
text_and text second = record { text = text; second = second }

-- "refusals: those of framing and inner shape as before, without 6"; "a scope starts after the code's raw bytes"
unfoldable pub scope_text : List ℕ → Part → Answer Text
scope_text v p =
    unless (leb 14 (length v)) 12
    (then (string_size (drop 4 v)) λ n.
    unless (ltb (4 + n) (length v)) 12
    (then (admitted (drop (4 + n) v)) λ _.
    gives (text_and (part (p.offset + 8) (n - 5)) (trim (4 + n) 0 p))))

-- "string, code, symbol, DBPointer namespace and code with scope"; "17 for any other type once framed, its value unread"
unfoldable pub text_by : List ℕ → Part → Sized → Answer Text
text_by s p as_string = gives (text_and (trim 4 1 p) none)
text_by s p as_pointer = gives (text_and (trim 4 13 p) (trim (p.size - 12) 0 p))
text_by s p as_scope = scope_text (bytes s p) p
text_by s p (fixed n) = refuses 17 0
text_by s p as_document = refuses 17 0
text_by s p as_binary = refuses 17 0
text_by s p as_regex = refuses 17 0

-- the text of a value of this tag in a part of the slice. A part that a step yields fits; another "runs past the slice" (9)
unfoldable pub text_in : List ℕ → ℕ → Part → Answer Text
text_in s tag p =
    unless (leb (p.offset + p.size) (length s)) 9
    (then (sized_of tag) (text_by s p))

-- ---- written into a lent buffer

-- what a call answers, and the buffer that it leaves
pub record Leaves (A : Type 0) : Type 0 where
  pub answer : Answer A
  pub left : List ℕ

abbrev pub leaves : {A : Type 0} → Answer A → List ℕ → Leaves A
leaves answer left = record { answer = answer; left = left }

-- tests in their order; a refusal leaves the buffer as it was
abbrev pub passing : {A B : Type 0} → Answer A → List ℕ → (A → Leaves B) → Leaves B
passing (gives a) buffer f = f a
passing (refuses number place) buffer f = leaves (refuses number place) buffer

-- "then 14, exactly when the text written does not fit, buffer unchanged": how many bytes were written
unfoldable pub put_lossy : List ℕ → List ℕ → Leaves ℕ
put_lossy text buffer =
    cond (leb (length (lossy text)) (length buffer))
    (leaves (gives (length (lossy text))) (put buffer 0 (lossy text)))
    (leaves (refuses 14 0) buffer)

-- what is told of a text that was written: its element, how many bytes, and the part behind the text
pub record Shown : Type 0 where
  pub element : Element
  pub size : ℕ
  pub second : Part

-- the text of an element
unfoldable pub value_lossy : List ℕ → Element → List ℕ → Leaves Shown
value_lossy s e buffer =
    passing (at e.place (text_in s e.tag e.value)) buffer λ t.
    let w = put_lossy (bytes s t.text) buffer in
    leaves (then w.answer λ n. gives (record { element = e; size = n; second = t.second })) w.left

-- "a value read takes a document and a place, steps there first, then reads"
unfoldable pub read_lossy_under : Limit → List ℕ → ℕ → List ℕ → Leaves Shown
read_lossy_under limit s place buffer =
    passing (element_at_under limit s place) buffer λ e.
    value_lossy s e buffer

abbrev pub read_lossy : List ℕ → ℕ → List ℕ → Leaves Shown
read_lossy s place buffer = read_lossy_under unlimited s place buffer
