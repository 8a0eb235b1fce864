-- What framing refuses, class by class, what the reading of a framed value refuses, and the cursor behind a step (RULES.md, "Admission
-- and one step" and "Values"), each by bytes that show it.
use Rattle.std.specs.Prelude.{ℕ, ◌+◌, ◌-◌, List, [], ◌∷◌, ◌++◌, true, false, length, replicate}
use Rattle.bson.specs.Answer.{Answer, gives, refuses}
use Rattle.bson.specs.Bytes.{Part, part}
use Rattle.bson.specs.Framing.{pattern_options, value_size}
use Rattle.bson.specs.Step.{Cursor, cursor, after, step}
use Rattle.bson.specs.Value.{Value, leaf, binary, timestamp, value_of, read_at}
use Rattle.bson.specs.Vectors.{elem}
use Rattle.bson.specs.Decided.{Point, given, two_keys}

-- ---- sizes, of the rest of the slice from the value's first byte

-- "values of a fixed size: the value fits (9)": of each tag with its size, one byte is lacking, and none
abbrev pub fixed_each : List (ℕ × ℕ) → List Point
fixed_each [] = []
fixed_each (x ∷ xs) =
    (value_size x.0 (replicate (x.1 - 1) 1), refuses 9 0) ∷ (value_size x.0 (replicate x.1 1), gives x.1) ∷ fixed_each xs

unfoldable pub fixed_points : List Point
fixed_points =
    -- "tag not in the tag table" 7
    (value_size 0x14 [], refuses 7 0)
    ∷ fixed_each ((0x08, 1) ∷ (0x10, 4) ∷ (0x01, 8) ∷ (0x12, 8) ∷ (0x09, 8) ∷ (0x11, 8) ∷ (0x07, 12) ∷ (0x13, 16) ∷ [])

-- "four bytes present and n at least 1 (8), fits (9), last byte zero (10)"
unfoldable pub string_points : List Point
string_points =
    (value_size 0x02 (0x01 ∷ 0 ∷ 0 ∷ []), refuses 8 0)
    ∷ (value_size 0x02 (0 ∷ 0 ∷ 0 ∷ 0 ∷ 0 ∷ []), refuses 8 0)
    -- negative: -1 and the least i32; the greatest is not
    ∷ (value_size 0x02 (0xFF ∷ 0xFF ∷ 0xFF ∷ 0xFF ∷ 0 ∷ []), refuses 8 0)
    ∷ (value_size 0x02 (0 ∷ 0 ∷ 0 ∷ 0x80 ∷ 0 ∷ []), refuses 8 0)
    ∷ (value_size 0x02 (0xFF ∷ 0xFF ∷ 0xFF ∷ 0x7F ∷ 0 ∷ []), refuses 9 0)
    -- the last byte is lacking, or not zero though the one before it and the one behind it are
    ∷ (value_size 0x02 (0x01 ∷ 0 ∷ 0 ∷ 0 ∷ []), refuses 9 0)
    ∷ (value_size 0x02 (0x02 ∷ 0 ∷ 0 ∷ 0 ∷ 0 ∷ 0x61 ∷ 0 ∷ []), refuses 10 0)
    -- just as long as the rest
    ∷ (value_size 0x02 (0x01 ∷ 0 ∷ 0 ∷ 0 ∷ 0 ∷ []), gives 5)
    ∷ []

-- "a DBPointer then needs 12 more (9)"
unfoldable pub pointer_points : List Point
pointer_points =
    (value_size 0x0C (0x01 ∷ 0 ∷ 0 ∷ []), refuses 8 0)
    ∷ (value_size 0x0C (0 ∷ 0 ∷ 0 ∷ 0 ∷ replicate 13 0), refuses 8 0)
    ∷ (value_size 0x0C (0xFF ∷ 0xFF ∷ 0xFF ∷ 0xFF ∷ replicate 13 0), refuses 8 0)
    ∷ (value_size 0x0C (0x01 ∷ 0 ∷ 0 ∷ 0 ∷ []), refuses 9 0)
    ∷ (value_size 0x0C (0x01 ∷ 0 ∷ 0 ∷ 0 ∷ 0x61 ∷ []), refuses 10 0)
    ∷ (value_size 0x0C (0x01 ∷ 0 ∷ 0 ∷ 0 ∷ 0 ∷ replicate 11 0xAA), refuses 9 0)
    ∷ (value_size 0x0C (0x01 ∷ 0 ∷ 0 ∷ 0 ∷ 0 ∷ replicate 12 0xAA), gives 17)
    ∷ []

-- "five bytes present and n at least 5 (8), fits (9), last byte zero (10)"
unfoldable pub document_points : List Point
document_points =
    (value_size 0x03 (0x05 ∷ 0 ∷ 0 ∷ 0 ∷ []), refuses 8 0)
    ∷ (value_size 0x03 (0x04 ∷ 0 ∷ 0 ∷ 0 ∷ 0 ∷ []), refuses 8 0)
    ∷ (value_size 0x03 (0xFF ∷ 0xFF ∷ 0xFF ∷ 0xFF ∷ 0 ∷ []), refuses 8 0)
    ∷ (value_size 0x03 (0x06 ∷ 0 ∷ 0 ∷ 0 ∷ 0 ∷ []), refuses 9 0)
    ∷ (value_size 0x03 (0x06 ∷ 0 ∷ 0 ∷ 0 ∷ 0 ∷ 0x61 ∷ 0 ∷ []), refuses 10 0)
    ∷ (value_size 0x03 (0x05 ∷ 0 ∷ 0 ∷ 0 ∷ 0 ∷ []), gives 5)
    -- an array too
    ∷ (value_size 0x04 (0x05 ∷ 0 ∷ 0 ∷ 0 ∷ 0x61 ∷ []), refuses 10 0)
    ∷ []

-- "four bytes present and n at least 0 (8), fits (9)", the subtype too
unfoldable pub binary_points : List Point
binary_points =
    (value_size 0x05 (0 ∷ 0 ∷ 0 ∷ []), refuses 8 0)
    ∷ (value_size 0x05 (0xFF ∷ 0xFF ∷ 0xFF ∷ 0xFF ∷ 0 ∷ []), refuses 8 0)
    ∷ (value_size 0x05 (0 ∷ 0 ∷ 0 ∷ 0 ∷ []), refuses 9 0)
    ∷ (value_size 0x05 (0x01 ∷ 0 ∷ 0 ∷ 0 ∷ 0x80 ∷ []), refuses 9 0)
    ∷ (value_size 0x05 (0 ∷ 0 ∷ 0 ∷ 0 ∷ 0x80 ∷ []), gives 5)
    ∷ (value_size 0x05 (0x01 ∷ 0 ∷ 0 ∷ 0 ∷ 0x80 ∷ 0xAA ∷ []), gives 6)
    ∷ []

-- the same without a subtype, of a code with scope
unfoldable pub scope_size_points : List Point
scope_size_points =
    (value_size 0x0F (0 ∷ 0 ∷ 0 ∷ []), refuses 8 0)
    ∷ (value_size 0x0F (0xFF ∷ 0xFF ∷ 0xFF ∷ 0xFF ∷ 0 ∷ []), refuses 8 0)
    ∷ (value_size 0x0F (0x05 ∷ 0 ∷ 0 ∷ 0 ∷ []), refuses 9 0)
    ∷ (value_size 0x0F (0 ∷ 0 ∷ 0 ∷ 0 ∷ []), gives 0)
    ∷ (value_size 0x0F (0x05 ∷ 0 ∷ 0 ∷ 0 ∷ 0xAA ∷ []), gives 5)
    ∷ []

-- "pattern 5, 6, then options 5, 6"
unfoldable pub regex_size_points : List Point
regex_size_points =
    (value_size 0x0B (0xFF ∷ []), refuses 5 0)
    ∷ (value_size 0x0B (0xFF ∷ 0 ∷ 0x69 ∷ []), refuses 6 0)
    ∷ (value_size 0x0B (0x61 ∷ 0 ∷ 0xFF ∷ []), refuses 5 0)
    ∷ (value_size 0x0B (0x61 ∷ 0 ∷ 0xFF ∷ 0 ∷ []), refuses 6 0)
    ∷ (value_size 0x0B (0x61 ∷ 0x62 ∷ 0 ∷ 0x69 ∷ 0 ∷ []), gives 5)
    ∷ []

-- where the two lie
unfoldable pub regex_part_points : List (Answer (Part × Part) × Answer (Part × Part))
regex_part_points = (pattern_options (0x61 ∷ 0x62 ∷ 0 ∷ 0x69 ∷ 0 ∷ []), gives (part 0 2, part 3 1)) ∷ []

-- ---- readings, of documents of one element under an empty key

-- a document of the element of this tag and value
abbrev pub alone : ℕ → List ℕ → List ℕ
alone tag v = (length v + 7) ∷ 0 ∷ 0 ∷ 0 ∷ tag ∷ 0 ∷ v ++ (0 ∷ [])

-- a code with scope, by the bytes behind its length
abbrev pub code : List ℕ → Answer ℕ
code v = given (read_at (alone 0x0F ((length v + 4) ∷ 0 ∷ 0 ∷ 0 ∷ v)) 4)

-- "under 14 bytes 12; code framed as a string within the value, from byte 4 (8, 9, 10), then its UTF-8 (6);
-- scope start not before the end 12; scope admitted (1, 2, 3)"
unfoldable pub code_points : List Point
code_points =
    -- 13 bytes, before the code's length
    (code (0 ∷ 0 ∷ 0 ∷ 0 ∷ 0 ∷ 0x04 ∷ 0 ∷ 0 ∷ 0 ∷ []), refuses 12 4)
    -- the code: its length, within the value and not the document, its last byte, its text
    ∷ (code (0 ∷ 0 ∷ 0 ∷ 0 ∷ 0 ∷ 0x05 ∷ 0 ∷ 0 ∷ 0 ∷ 0 ∷ []), refuses 8 4)
    ∷ (code (0xFF ∷ 0xFF ∷ 0xFF ∷ 0xFF ∷ 0 ∷ 0x05 ∷ 0 ∷ 0 ∷ 0 ∷ 0 ∷ []), refuses 8 4)
    ∷ (code (0x07 ∷ 0 ∷ 0 ∷ 0 ∷ 0x61 ∷ 0x61 ∷ 0x61 ∷ 0x61 ∷ 0x61 ∷ 0 ∷ []), refuses 9 4)
    ∷ (code (0x01 ∷ 0 ∷ 0 ∷ 0 ∷ 0x61 ∷ 0 ∷ 0 ∷ 0 ∷ 0 ∷ 0 ∷ []), refuses 10 4)
    ∷ (code (0x06 ∷ 0 ∷ 0 ∷ 0 ∷ 0xFF ∷ 0x61 ∷ 0x61 ∷ 0x61 ∷ 0x61 ∷ 0 ∷ []), refuses 6 4)
    -- no byte is left for the scope; one is
    ∷ (code (0x06 ∷ 0 ∷ 0 ∷ 0 ∷ 0x61 ∷ 0x61 ∷ 0x61 ∷ 0x61 ∷ 0x61 ∷ 0 ∷ []), refuses 12 4)
    ∷ (code (0x05 ∷ 0 ∷ 0 ∷ 0 ∷ 0x61 ∷ 0x61 ∷ 0x61 ∷ 0x61 ∷ 0 ∷ 0x01 ∷ []), refuses 1 4)
    -- the scope: four bytes, a length too small, one too great, its last byte
    ∷ (code (0x02 ∷ 0 ∷ 0 ∷ 0 ∷ 0x61 ∷ 0 ∷ 0x05 ∷ 0 ∷ 0 ∷ 0x01 ∷ []), refuses 1 4)
    ∷ (code (0x01 ∷ 0 ∷ 0 ∷ 0 ∷ 0 ∷ 0x04 ∷ 0 ∷ 0 ∷ 0 ∷ 0 ∷ []), refuses 2 4)
    ∷ (code (0x01 ∷ 0 ∷ 0 ∷ 0 ∷ 0 ∷ 0x06 ∷ 0 ∷ 0 ∷ 0 ∷ 0x01 ∷ []), refuses 2 4)
    ∷ (code (0x01 ∷ 0 ∷ 0 ∷ 0 ∷ 0 ∷ 0x05 ∷ 0 ∷ 0 ∷ 0 ∷ 0x01 ∷ []), refuses 3 4)
    ∷ []

-- binary data, by its subtype and the data
abbrev pub data_of : ℕ → List ℕ → Answer ℕ
data_of subtype d = given (read_at (alone 0x05 (length d ∷ 0 ∷ 0 ∷ 0 ∷ subtype ∷ d)) 4)

-- "under subtype 2 the data must begin with an i32 equal to the bytes after it (12)"
unfoldable pub data_points : List Point
data_points =
    (data_of 2 (0 ∷ 0 ∷ 0 ∷ 0 ∷ []), gives 0)
    ∷ (data_of 2 (0x01 ∷ 0 ∷ 0 ∷ 0 ∷ []), refuses 12 4)
    ∷ (data_of 2 (0 ∷ 0 ∷ 0 ∷ 0 ∷ 0xAA ∷ []), refuses 12 4)
    ∷ (data_of 2 (0x01 ∷ 0x01 ∷ 0 ∷ 0 ∷ 0xAA ∷ []), refuses 12 4)
    -- negative; where as many bytes lie behind it as its bits say, `NegativeRefused` has it
    ∷ (data_of 2 (0xFF ∷ 0xFF ∷ 0xFF ∷ 0xFF ∷ 0xAA ∷ []), refuses 12 4)
    -- under another subtype they are any
    ∷ (data_of 1 (0xAA ∷ []), gives 0)
    ∷ []

-- texts that are not UTF-8 (6): string, code, symbol, the namespace of a DBPointer
unfoldable pub text_points : List Point
text_points =
    (given (read_at (alone 0x02 (0x02 ∷ 0 ∷ 0 ∷ 0 ∷ 0xFF ∷ 0 ∷ [])) 4), refuses 6 4)
    ∷ (given (read_at (alone 0x0D (0x02 ∷ 0 ∷ 0 ∷ 0 ∷ 0xFF ∷ 0 ∷ [])) 4), refuses 6 4)
    ∷ (given (read_at (alone 0x0E (0x02 ∷ 0 ∷ 0 ∷ 0 ∷ 0xFF ∷ 0 ∷ [])) 4), refuses 6 4)
    ∷ (given (read_at (alone 0x0C (0x02 ∷ 0 ∷ 0 ∷ 0 ∷ 0xFF ∷ 0 ∷ replicate 12 0)) 4), refuses 6 4)
    ∷ []

-- ---- elements of the caller's own

-- an element of this tag at 4, its value the so many bytes from 7 on, each 1
abbrev pub own : ℕ → ℕ → Answer Value
own tag n = value_of (replicate 40 1) (elem 4 tag 1 n)

unfoldable pub own_points : List (Answer Value × Answer Value)
own_points =
    -- a part too small for its number
    (own 0x08 0, refuses 9 4)
    ∷ (own 0x10 3, refuses 9 4)
    ∷ (own 0x01 7, refuses 9 4)
    ∷ (own 0x12 7, refuses 9 4)
    ∷ (own 0x09 7, refuses 9 4)
    ∷ (own 0x11 7, refuses 9 4)
    -- one too great, and one too small for a subtype
    ∷ (own 0x11 9, gives (leaf (timestamp 0x0101_0101 0x0101_0101)))
    ∷ (own 0x05 4, gives (leaf (binary 0 (part 12 0))))
    -- past the slice before an unknown tag
    ∷ (own 0x14 99, refuses 9 4)
    ∷ []

-- ---- the cursor behind a step

-- "a refusal or an end sets the mark and keeps the offset", also where the place of the refusal is 0; "an ended cursor stays ended"
unfoldable pub cursor_points : List (Cursor × Cursor)
cursor_points =
    (after (cursor 4 false) (step two_keys (cursor 4 false)), cursor 8 false)
    ∷ (after (cursor 12 false) (step two_keys (cursor 12 false)), cursor 12 true)
    ∷ (after (cursor 13 false) (step two_keys (cursor 13 false)), cursor 13 true)
    ∷ (after (cursor 4 false) (step (0x05 ∷ 0 ∷ 0 ∷ 0 ∷ []) (cursor 4 false)), cursor 4 true)
    ∷ (after (cursor 4 true) (step two_keys (cursor 4 true)), cursor 4 true)
    ∷ []
