-- What the check program prints (RULES.md, "Bytes to try").
use Rattle.std.specs.Prelude.{ℕ, ◌+◌, ◌/◌, ◌%◌, List, [], ◌∷◌, ◌++◌, false, cond, length, ltb, leb}
use Rattle.bson.specs.Answer.{Answer, gives, refuses}
use Rattle.bson.specs.Decimal.{decimal}
use Rattle.bson.specs.Output.{joined}
use Rattle.bson.specs.Step.{Element, Iteration, ended, broken, more, iterate}
use Rattle.bson.specs.Check.{check}

-- a space, a newline
abbrev pub sp : ℕ
sp = 0x20

abbrev pub nl : ℕ
nl = 0x0A

-- `offset tag size`
unfoldable pub header : List ℕ
header =
    0x6F ∷ 0x66 ∷ 0x66 ∷ 0x73 ∷ 0x65 ∷ 0x74 ∷ sp ∷ 0x74 ∷ 0x61 ∷ 0x67 ∷ sp ∷ 0x73 ∷ 0x69 ∷ 0x7A ∷ 0x65 ∷ nl ∷ []

-- "two lowercase hex digits"
abbrev pub hex_digit : ℕ → ℕ
hex_digit d = cond (ltb d 10) (48 + d) (87 + d)

unfoldable pub hex_byte : ℕ → List ℕ
hex_byte b = hex_digit (b / 16) ∷ hex_digit (b % 16) ∷ []

-- "offset of its tag, tag in two lowercase hex digits, value size in bytes"
unfoldable pub element_line : Element → List ℕ
element_line e = decimal e.place ++ (sp ∷ (hex_byte e.tag ++ (sp ∷ (decimal e.value.size ++ (nl ∷ [])))))

-- "`accepted` and the count, or `refused`, number, place"
unfoldable pub verdict_line : Answer ℕ → List ℕ
verdict_line (gives count) = 0x61 ∷ 0x63 ∷ 0x63 ∷ 0x65 ∷ 0x70 ∷ 0x74 ∷ 0x65 ∷ 0x64 ∷ sp ∷ (decimal count ++ (nl ∷ []))
verdict_line (refuses number place) =
    0x72 ∷ 0x65 ∷ 0x66 ∷ 0x75 ∷ 0x73 ∷ 0x65 ∷ 0x64 ∷ sp ∷ (decimal number ++ (sp ∷ (decimal place ++ (nl ∷ []))))

-- "one line for each top element that a step yields"
abbrev pub element_lines : Iteration → List (List ℕ)
element_lines ended = []
element_lines (broken number place) = []
element_lines (more e rest) = element_line e ∷ element_lines rest

-- "a header, one line for each top element [..], then the plain verdict"; over 65,535 bytes 20, which "has place 0 and no element lines"
unfoldable pub report_lines : List ℕ → List (List ℕ)
report_lines s =
    header ∷ cond (leb (length s) 65535)
    (element_lines (iterate s 4) ++ (verdict_line (check false s) ∷ []))
    (verdict_line (refuses 20 0) ∷ [])

unfoldable pub report : List ℕ → List ℕ
report s = joined (report_lines s)
