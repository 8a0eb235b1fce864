-- The tag table: a type says its tag, and how the size of its values is found (RULES.md, "Admission and one step").
use Prim.Native.Nat.{ℕ}
use mathlib.Core.Path.{◌≡◌, subst, ap, sym, ◌∙◌}
use mathlib.Core.List.{List, [], ◌∷◌}
use lib.Dec.{eqb}
use borrow.Author.Tests.{eqb-true}
use Rattle.bson.specs.Answer.{gives}
use Rattle.bson.specs.Tags
use Rattle.bson.specs.Framing.{framed, value_size, value_size_under}
use Rattle.laws.proofs.AnswerLaws.{never, gives_injective, then_gives, then_from}
use Rattle.laws.proofs.Common.{split}
use Tags.{ElementType, Boolean, Int32, Double, Int64, DateTime, Timestamp, ObjectId, Decimal128, Null, Undefined, MinKey, MaxKey, String}
use Tags.{JavaScriptCode, Symbol, DbPointer, EmbeddedDocument, Array, Binary, RegularExpression, JavaScriptCodeWithScope, Sized, fixed}
use Tags.{as_string, as_pointer, as_document, as_binary, as_regex, as_scope, Row, tags, find, row_of, type_of, sized_of}

-- ---- the size and the tag of each type

abbrev pub size_for : ElementType → Sized
size_for Boolean = fixed 1
size_for Int32 = fixed 4
size_for Double = fixed 8
size_for Int64 = fixed 8
size_for DateTime = fixed 8
size_for Timestamp = fixed 8
size_for ObjectId = fixed 12
size_for Decimal128 = fixed 16
size_for Null = fixed 0
size_for Undefined = fixed 0
size_for MinKey = fixed 0
size_for MaxKey = fixed 0
size_for String = as_string
size_for JavaScriptCode = as_string
size_for Symbol = as_string
size_for DbPointer = as_pointer
size_for EmbeddedDocument = as_document
size_for Array = as_document
size_for Binary = as_binary
size_for RegularExpression = as_regex
size_for JavaScriptCodeWithScope = as_scope

abbrev pub tag_for : ElementType → ℕ
tag_for Boolean = 0x08
tag_for Int32 = 0x10
tag_for Double = 0x01
tag_for Int64 = 0x12
tag_for DateTime = 0x09
tag_for Timestamp = 0x11
tag_for ObjectId = 0x07
tag_for Decimal128 = 0x13
tag_for Null = 0x0A
tag_for Undefined = 0x06
tag_for MinKey = 0xFF
tag_for MaxKey = 0x7F
tag_for String = 0x02
tag_for JavaScriptCode = 0x0D
tag_for Symbol = 0x0E
tag_for DbPointer = 0x0C
tag_for EmbeddedDocument = 0x03
tag_for Array = 0x04
tag_for Binary = 0x05
tag_for RegularExpression = 0x0B
tag_for JavaScriptCodeWithScope = 0x0F

-- ---- sizes

-- what holds of every row of a table holds of the row found
abbrev Every : (Row → Type 0) → List Row → Type 0
Every P [] = record {}
Every P (r ∷ rs) = P r × Every P rs

found_of : (P : Row → Type 0) (rs : List Row) (tag : ℕ) (r : Row) → Every P rs → find rs tag ≡ gives r → P r
found_of P [] tag r h e = never e
found_of P (q ∷ rs) tag r h e =
    split (eqb q.tag tag)
    (λ t. subst P (gives_injective (rw t at e)) h.0)
    (λ t. found_of P rs tag r h.1 (rw t at e))

abbrev SizedRight : Row → Type 0
SizedRight r = r.sized ≡ size_for r.type

rows_sized : Every SizedRight tags
unfolding tags
rows_sized = search

pub type_sized : (tag : ℕ) (t : ElementType) → type_of tag ≡ gives t → sized_of tag ≡ gives (size_for t)
unfolding row_of
type_sized tag t e =
    let (r, q, h) = then_gives (row_of tag) _ e in
    let i : r.type ≡ t = gives_injective h in
    let f : r.sized ≡ size_for t = found_of SizedRight tags tag r rows_sized q ∙ ap size_for i in
    then_from (row_of tag) _ q ∙ ap gives f

pub sized_by : (tag : ℕ) (t : ElementType) (v : List ℕ) → type_of tag ≡ gives t → value_size tag v ≡ framed (size_for t) v
unfolding value_size_under
sized_by tag t v e = then_from _ _ (type_sized tag t e)

-- ---- tags

-- the row found has the tag looked for
found_tag : (rs : List Row) (tag : ℕ) (r : Row) → find rs tag ≡ gives r → r.tag ≡ tag
found_tag [] tag r e = never e
found_tag (q ∷ rs) tag r e =
    split (eqb q.tag tag)
    (λ t. let i : q ≡ r = gives_injective (rw t at e) in ap (λ (x : Row). x.tag) (sym i) ∙ eqb-true q.tag tag t)
    (λ t. found_tag rs tag r (rw t at e))

abbrev TaggedRight : Row → Type 0
TaggedRight r = r.tag ≡ tag_for r.type

rows_tagged : Every TaggedRight tags
unfolding tags
rows_tagged = search

pub type_tag : (tag : ℕ) (t : ElementType) → type_of tag ≡ gives t → tag ≡ tag_for t
unfolding row_of
type_tag tag t e =
    let (r, q, h) = then_gives (row_of tag) _ e in
    let i : r.type ≡ t = gives_injective h in
    sym (found_tag tags tag r q) ∙ found_of TaggedRight tags tag r rows_tagged q ∙ ap tag_for i
