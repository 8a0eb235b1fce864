-- Each of the twenty-one types is read as itself: its size, its value and its parts (RULES.md, "Admission and one step" and "Values"),
-- each by bytes that show it.
use Rattle.std.specs.Prelude.{ℕ, zero, suc, List, [], ◌∷◌, ◌++◌, true, ℤ, pos, negsuc}
use Rattle.bson.specs.Answer.{Answer, gives, refuses, then}
use Rattle.bson.specs.Bytes.{i32, i64, Part, part}
use Rattle.bson.specs.Tags.{Row, row_of}
use Rattle.bson.specs.Step.{Element, elements, iterate}
use Rattle.bson.specs.Value.{boolean, int32, int64, date_time, double, timestamp, object_id, decimal128, string, code, symbol}
use Rattle.bson.specs.Value.{null, undefined, min_key, max_key, db_pointer, binary, regex, Leaf, Value, leaf, document, array}
use Rattle.bson.specs.Value.{code_with_scope, parts_of}
use Rattle.bson.specs.Lookup.{Found, found}
use Rattle.bson.specs.Vectors.{elem}

-- ---- the document

-- every type by its tag, from 01 to FF, under the keys `a` to `u`, and under `v` binary data of subtype 2
abbrev pub every_type : List ℕ
every_type =
    0xE3 ∷ 0 ∷ 0 ∷ 0
    ∷ 0x01 ∷ 0x61 ∷ 0 ∷ 0x88 ∷ 0x97 ∷ 0xA6 ∷ 0xB5 ∷ 0xC4 ∷ 0xD3 ∷ 0xE2 ∷ 0xF1
    ∷ 0x02 ∷ 0x62 ∷ 0 ∷ 0x04 ∷ 0 ∷ 0 ∷ 0 ∷ 0xC3 ∷ 0xA9 ∷ 0 ∷ 0
    ∷ 0x03 ∷ 0x63 ∷ 0 ∷ 0x07 ∷ 0 ∷ 0 ∷ 0 ∷ 0x0A ∷ 0 ∷ 0
    ∷ 0x04 ∷ 0x64 ∷ 0 ∷ 0x05 ∷ 0 ∷ 0 ∷ 0 ∷ 0
    ∷ 0x05 ∷ 0x65 ∷ 0 ∷ 0x02 ∷ 0 ∷ 0 ∷ 0 ∷ 0x80 ∷ 0xAA ∷ 0xBB
    ∷ 0x06 ∷ 0x66 ∷ 0
    ∷ 0x07 ∷ 0x67 ∷ 0 ∷ 0x01 ∷ 0x02 ∷ 0x03 ∷ 0x04 ∷ 0x05 ∷ 0x06 ∷ 0x07 ∷ 0x08 ∷ 0x09 ∷ 0x0A ∷ 0x0B ∷ 0x0C
    ∷ 0x08 ∷ 0x68 ∷ 0 ∷ 0x01
    ∷ 0x09 ∷ 0x69 ∷ 0 ∷ 0x18 ∷ 0x29 ∷ 0x3A ∷ 0x4B ∷ 0x5C ∷ 0x6D ∷ 0x7E ∷ 0x8F
    ∷ 0x0A ∷ 0x6A ∷ 0
    ∷ 0x0B ∷ 0x6B ∷ 0 ∷ 0x61 ∷ 0x62 ∷ 0 ∷ 0x69 ∷ 0
    ∷ 0x0C ∷ 0x6C ∷ 0 ∷ 0x03 ∷ 0 ∷ 0 ∷ 0 ∷ 0x6E ∷ 0x73 ∷ 0
    ∷ 0x01 ∷ 0x02 ∷ 0x03 ∷ 0x04 ∷ 0x05 ∷ 0x06 ∷ 0x07 ∷ 0x08 ∷ 0x09 ∷ 0x0A ∷ 0x0B ∷ 0x0C
    ∷ 0x0D ∷ 0x6D ∷ 0 ∷ 0x02 ∷ 0 ∷ 0 ∷ 0 ∷ 0x63 ∷ 0
    ∷ 0x0E ∷ 0x6E ∷ 0 ∷ 0x03 ∷ 0 ∷ 0 ∷ 0 ∷ 0x73 ∷ 0x79 ∷ 0
    ∷ 0x0F ∷ 0x6F ∷ 0 ∷ 0x11 ∷ 0 ∷ 0 ∷ 0 ∷ 0x02 ∷ 0 ∷ 0 ∷ 0 ∷ 0x78 ∷ 0 ∷ 0x07 ∷ 0 ∷ 0 ∷ 0 ∷ 0xFF ∷ 0 ∷ 0
    ∷ 0x10 ∷ 0x70 ∷ 0 ∷ 0x5C ∷ 0x6D ∷ 0x7E ∷ 0x8F
    ∷ 0x11 ∷ 0x71 ∷ 0 ∷ 0xC1 ∷ 0xD2 ∷ 0xE3 ∷ 0xF4 ∷ 0xC5 ∷ 0xD6 ∷ 0xE7 ∷ 0xF8
    ∷ 0x12 ∷ 0x72 ∷ 0 ∷ 0x88 ∷ 0x97 ∷ 0xA6 ∷ 0xB5 ∷ 0xC4 ∷ 0xD3 ∷ 0xE2 ∷ 0xF1
    ∷ 0x13 ∷ 0x73 ∷ 0 ∷ 0x01 ∷ 0x02 ∷ 0x03 ∷ 0x04 ∷ 0x05 ∷ 0x06 ∷ 0x07 ∷ 0x08 ∷ 0x09 ∷ 0x0A ∷ 0x0B ∷ 0x0C ∷ 0x0D ∷ 0x0E ∷ 0x0F ∷ 0x10
    ∷ 0x7F ∷ 0x74 ∷ 0
    ∷ 0xFF ∷ 0x75 ∷ 0
    ∷ 0x05 ∷ 0x76 ∷ 0 ∷ 0x05 ∷ 0 ∷ 0 ∷ 0 ∷ 0x02 ∷ 0x01 ∷ 0 ∷ 0 ∷ 0 ∷ 0xAA
    ∷ 0 ∷ []

-- ---- each type

-- an element with its value, and the value's parts
abbrev pub Reading : Type 0
Reading = Answer (Found × (Part × Part))

abbrev pub readings : List ℕ → List Element → List Reading
readings s [] = []
readings s (e ∷ es) = then (found s e) (λ f. gives (f, parts_of f.value)) ∷ readings s es

-- the element of this place, tag and size of the value, with this value and these parts
abbrev pub holds : ℕ → ℕ → ℕ → Value → Part → Part → Reading
holds place tag size v p q = gives (record { element = elem place tag 1 size; value = v }, (p, q))

-- a value of no parts, of one, of two
abbrev pub plain : ℕ → ℕ → ℕ → Leaf → Reading
plain place tag size v = holds place tag size (leaf v) (part 0 0) (part 0 0)

abbrev pub one : ℕ → ℕ → ℕ → (Part → Value) → Part → Reading
one place tag size v p = holds place tag size (v p) p (part 0 0)

abbrev pub two : ℕ → ℕ → ℕ → (Part → Part → Value) → Part → Part → Reading
two place tag size v p q = holds place tag size (v p q) p q

-- what is settled of each, in their order
abbrev pub every_reading : List Reading
every_reading =
    plain 4 0x01 8 (double 0xF1E2_D3C4_B5A6_9788)
    -- "zero bytes inside a text are allowed"
    ∷ one 15 0x02 8 (λ p. leaf (string p)) (part 22 3)
    ∷ one 26 0x03 7 document (part 29 7)
    ∷ one 36 0x04 5 array (part 39 5)
    ∷ one 44 0x05 7 (λ p. leaf (binary 0x80 p)) (part 52 2)
    ∷ plain 54 0x06 0 undefined
    ∷ one 57 0x07 12 (λ p. leaf (object_id p)) (part 60 12)
    ∷ plain 72 0x08 1 (boolean true)
    ∷ plain 76 0x09 8 (date_time (negsuc 0x7081_92A3_B4C5_D6E7))
    ∷ plain 87 0x0A 0 null
    ∷ two 90 0x0B 5 (λ p o. leaf (regex p o)) (part 93 2) (part 96 1)
    ∷ two 98 0x0C 19 (λ t i. leaf (db_pointer t i)) (part 105 2) (part 108 12)
    ∷ one 120 0x0D 6 (λ p. leaf (code p)) (part 127 1)
    ∷ one 129 0x0E 7 (λ p. leaf (symbol p)) (part 136 2)
    ∷ two 139 0x0F 17 code_with_scope (part 150 1) (part 152 7)
    ∷ plain 159 0x10 4 (int32 (negsuc 0x7081_92A3))
    -- "increment, then seconds, both u32"
    ∷ plain 166 0x11 8 (timestamp 0xF4E3_D2C1 0xF8E7_D6C5)
    ∷ plain 177 0x12 8 (int64 (negsuc 0x0E1D_2C3B_4A59_6877))
    ∷ one 188 0x13 16 (λ p. leaf (decimal128 p)) (part 191 16)
    ∷ plain 207 0x7F 0 max_key
    ∷ plain 210 0xFF 0 min_key
    -- under subtype 2 the bytes behind the inner length "are the part given"
    ∷ one 213 0x05 10 (λ p. leaf (binary 2 p)) (part 225 1)
    ∷ []

unfoldable pub type_points : List (List Reading × List Reading)
type_points = (readings every_type (elements (iterate every_type 4)), every_reading) ∷ []

-- ---- the tags of the table

abbrev pub table_tags : List ℕ
table_tags =
    0x01 ∷ 0x02 ∷ 0x03 ∷ 0x04 ∷ 0x05 ∷ 0x06 ∷ 0x07 ∷ 0x08 ∷ 0x09 ∷ 0x0A ∷ 0x0B ∷ 0x0C ∷ 0x0D ∷ 0x0E ∷ 0x0F
    ∷ 0x10 ∷ 0x11 ∷ 0x12 ∷ 0x13 ∷ 0x7F ∷ 0xFF ∷ []

-- a tag that has a row, else nothing
abbrev pub or_none : ℕ → Answer Row → List ℕ
or_none tag (gives r) = tag ∷ []
or_none tag (refuses n p) = []

-- those below n
abbrev pub known : ℕ → List ℕ
known zero = []
known (suc n) = known n ++ or_none n (row_of n)

-- no other byte is a tag
unfoldable pub tag_points : List (List ℕ × List ℕ)
tag_points = (known 256, table_tags) ∷ []

-- ---- signed numbers

-- the greatest, whatever lies behind, and the least; bytes that are not there are 0
unfoldable pub signed_points : List (ℤ × ℤ)
signed_points =
    (i32 (0xFF ∷ 0xFF ∷ 0xFF ∷ 0x7F ∷ 0xFF ∷ []), pos 0x7FFF_FFFF)
    ∷ (i32 (0 ∷ 0 ∷ 0 ∷ 0x80 ∷ []), negsuc 0x7FFF_FFFF)
    ∷ (i64 (0xFF ∷ 0xFF ∷ 0xFF ∷ 0xFF ∷ 0xFF ∷ 0xFF ∷ 0xFF ∷ 0x7F ∷ []), pos 0x7FFF_FFFF_FFFF_FFFF)
    ∷ (i64 (0 ∷ 0 ∷ 0 ∷ 0 ∷ 0 ∷ 0 ∷ 0 ∷ 0x80 ∷ []), negsuc 0x7FFF_FFFF_FFFF_FFFF)
    ∷ (i32 [], pos 0)
    ∷ []
