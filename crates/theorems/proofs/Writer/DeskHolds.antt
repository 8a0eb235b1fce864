-- What the state and the buffer of a writer hold while a tree is being built: its open documents' bytes, their starts and their kinds
-- (RULES.md, "Writer and joining").
use Prim.Native.Nat.{ℕ, ◌+◌, ◌≤◌}
use mathlib.Core.Path.{◌≡◌, sym, ap, ◌∙◌}
use mathlib.Core.List.{List, [], ◌∷◌, ◌++◌}
use lib.ListN.{length, take}
use lib.Seq.{length-take-le}
use Rattle.bson.specs.Answer.{gives}
use Rattle.bson.specs.Grammar.{bytes32, Embedded, document, array, embedded, nest_tag, element_bytes, list_bytes, count}
use Rattle.bson.specs.Writer.{State, used, depth, start, mark, Kind, in_document, in_array, kind_of, Desk}
use Rattle.theorems.specs.ReadBack.{Open}

-- the bytes of open documents, innermost first: each has 5 for its length, and its end is still to come
unfoldable pub shown : List Open → List ℕ
shown [] = []
shown (o ∷ []) = bytes32 5 ++ list_bytes o.inside
shown (o ∷ p ∷ around) = shown (p ∷ around) ++ (element_bytes (nest_tag (embedded o.nest)) o.key (bytes32 5) ++ list_bytes o.inside)

-- where the innermost starts
unfoldable pub start_of : List Open → ℕ
start_of [] = 0
start_of (o ∷ []) = 0
start_of (o ∷ p ∷ around) = length (shown (p ∷ around)) + length (element_bytes (nest_tag (embedded o.nest)) o.key [])

-- a document or an array of n elements
abbrev pub kind_for : Embedded → ℕ → Kind
kind_for document n = in_document
kind_for array n = in_array n

-- the kind of an open document, where so many of its elements are begun and not closed
abbrev pub kind_is : Open → ℕ → Kind
kind_is o begun = kind_for o.nest (count o.inside + begun)

-- the words of the open documents; each that is not the innermost has one element begun
unfoldable pub Tied : State → ℕ → List Open → Type 0
Tied w begun [] = Unit
Tied w begun (o ∷ around) =
    (start w (length around) ≡ start_of (o ∷ around))
    × ((kind_of (mark w (length around)) ≡ gives (kind_is o begun))
    × Tied w 1 around)

-- a desk where all the used bytes are these and these documents are open, so many elements begun in the innermost
pub record HoldsAll (d : Desk) (os : List Open) (begun : ℕ) (all : List ℕ) : Type 0 where
  pub words : length d.state ≡ 406
  pub deep : depth d.state ≡ length os
  pub in_buffer : used d.state ≤ length d.buffer
  pub bytes : take (used d.state) d.buffer ≡ all
  pub tied : Tied d.state begun os

pub many : {d : Desk} {os : List Open} {begun : ℕ} {all : List ℕ} → HoldsAll d os begun all → used d.state ≡ length all
many {d} h = sym (length-take-le (used d.state) d.buffer h.in_buffer) ∙ ap length h.bytes

abbrev pub Holds : Desk → List Open → Type 0
Holds d os = HoldsAll d os 0 (shown os)
