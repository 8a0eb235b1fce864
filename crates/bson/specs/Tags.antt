-- The tag table: twenty-one rows (RULES.md, "Admission and one step"; BSON 1.1, `element`).
use Rattle.std.specs.Prelude.{ℕ, List, [], ◌∷◌, cond, eqb}
use Rattle.bson.specs.Answer.{Answer, gives, refuses, then}

pub data ElementType : Type 0 where
  Boolean Int32 Double Int64 DateTime Timestamp ObjectId Decimal128 : ElementType
  Null Undefined MinKey MaxKey : ElementType
  String JavaScriptCode Symbol DbPointer : ElementType
  EmbeddedDocument Array Binary RegularExpression JavaScriptCodeWithScope : ElementType

-- "size of the value": fixed, or found by one of six rules of Framing.antt
pub data Sized : Type 0 where
  fixed : ℕ → Sized
  as_string as_pointer as_document as_binary as_regex as_scope : Sized

pub record Row : Type 0 where
  pub tag : ℕ
  pub type : ElementType
  pub sized : Sized

abbrev pub row : ℕ → ElementType → Sized → Row
row tag type sized = record { tag = tag; type = type; sized = sized }

unfoldable pub tags : List Row
tags =
    row 0x08 Boolean (fixed 1)
    ∷ row 0x10 Int32 (fixed 4)
    ∷ row 0x01 Double (fixed 8)
    ∷ row 0x12 Int64 (fixed 8)
    ∷ row 0x09 DateTime (fixed 8)
    ∷ row 0x11 Timestamp (fixed 8)
    ∷ row 0x07 ObjectId (fixed 12)
    ∷ row 0x13 Decimal128 (fixed 16)
    ∷ row 0x0A Null (fixed 0)
    ∷ row 0x06 Undefined (fixed 0)
    ∷ row 0xFF MinKey (fixed 0)
    ∷ row 0x7F MaxKey (fixed 0)
    ∷ row 0x02 String as_string
    ∷ row 0x0D JavaScriptCode as_string
    ∷ row 0x0E Symbol as_string
    ∷ row 0x0C DbPointer as_pointer
    ∷ row 0x03 EmbeddedDocument as_document
    ∷ row 0x04 Array as_document
    ∷ row 0x05 Binary as_binary
    ∷ row 0x0B RegularExpression as_regex
    ∷ row 0x0F JavaScriptCodeWithScope as_scope
    ∷ []

abbrev pub find : List Row → ℕ → Answer Row
find [] tag = refuses 7 0
find (r ∷ rs) tag = cond (eqb r.tag tag) (gives r) (find rs tag)

-- "tag not in the tag table" 7
unfoldable pub row_of : ℕ → Answer Row
row_of tag = find tags tag

abbrev pub type_of : ℕ → Answer ElementType
type_of tag = then (row_of tag) λ r. gives r.type

abbrev pub sized_of : ℕ → Answer Sized
sized_of tag = then (row_of tag) λ r. gives r.sized
