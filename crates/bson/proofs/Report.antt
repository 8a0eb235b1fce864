-- The definition prints of P12 what RULES.md prints, and of two more documents what its rules say.
use Prim.Native.Nat.{ℕ}
use mathlib.Core.Path.{◌≡◌, refl}
use mathlib.Core.List.{List, [], ◌∷◌, ◌++◌}
use Rattle.bson.specs.Bytes.{le32, le64, signed, i32, i64, bytes}
use Rattle.bson.specs.Utf8.{rows, utf8}
use Rattle.bson.specs.Cstring.{zero_text, cstring_under}
use Rattle.bson.specs.Tags.{tags, row_of}
use Rattle.bson.specs.Framing.{fits, framed_under, value_size_under}
use Rattle.bson.specs.Step.{admitted, element_under, step_under, iterate_for, iterate_under}
use Rattle.bson.specs.Value.{bool, content, value_in, value_of}
use Rattle.bson.specs.Level.{opening}
use Rattle.bson.specs.Check.{visit, opened, walk_for, walk_under, check_under}
use Rattle.bson.specs.Decimal.{digits, width_for, width, decimal}
use Rattle.bson.specs.Report.{header, hex_byte, element_line, verdict_line, report_lines, report}

abbrev title : List ℕ
title = 0x6F ∷ 0x66 ∷ 0x66 ∷ 0x73 ∷ 0x65 ∷ 0x74 ∷ 0x20 ∷ 0x74 ∷ 0x61 ∷ 0x67 ∷ 0x20 ∷ 0x73 ∷ 0x69 ∷ 0x7A ∷ 0x65 ∷ 0x0A ∷ []

-- bytes, and what is printed of them behind `offset tag size`
abbrev transcripts : List (List ℕ × List ℕ)
transcripts =
    -- P12: 4 08 1, 8 08 1, accepted 2
    (
      0x0D ∷ 0 ∷ 0 ∷ 0 ∷ 0x08 ∷ 0x61 ∷ 0 ∷ 0 ∷ 0x08 ∷ 0x61 ∷ 0 ∷ 0x01 ∷ 0 ∷ [],
      0x34 ∷ 0x20 ∷ 0x30 ∷ 0x38 ∷ 0x20 ∷ 0x31 ∷ 0x0A
          ∷ 0x38 ∷ 0x20 ∷ 0x30 ∷ 0x38 ∷ 0x20 ∷ 0x31 ∷ 0x0A
          ∷ 0x61 ∷ 0x63 ∷ 0x63 ∷ 0x65 ∷ 0x70 ∷ 0x74 ∷ 0x65 ∷ 0x64 ∷ 0x20 ∷ 0x32 ∷ 0x0A ∷ [],
    )
    -- P5: 4 10 4, refused 4 10
    ∷ (
      0x0A ∷ 0 ∷ 0 ∷ 0 ∷ 0x10 ∷ 0 ∷ 0x07 ∷ 0 ∷ 0 ∷ 0 ∷ [],
      0x34 ∷ 0x20 ∷ 0x31 ∷ 0x30 ∷ 0x20 ∷ 0x34 ∷ 0x0A
          ∷ 0x72 ∷ 0x65 ∷ 0x66 ∷ 0x75 ∷ 0x73 ∷ 0x65 ∷ 0x64 ∷ 0x20 ∷ 0x34 ∷ 0x20 ∷ 0x31 ∷ 0x30 ∷ 0x0A ∷ [],
    )
    -- a min key: 4 ff 0, accepted 1
    ∷ (
      0x07 ∷ 0 ∷ 0 ∷ 0 ∷ 0xFF ∷ 0 ∷ 0 ∷ [],
      0x34 ∷ 0x20 ∷ 0x66 ∷ 0x66 ∷ 0x20 ∷ 0x30 ∷ 0x0A
          ∷ 0x61 ∷ 0x63 ∷ 0x63 ∷ 0x65 ∷ 0x70 ∷ 0x74 ∷ 0x65 ∷ 0x64 ∷ 0x20 ∷ 0x31 ∷ 0x0A ∷ [],
    )
    ∷ []

-- a list printed anew
abbrev prints : List (List ℕ × List ℕ) → List (List ℕ)
prints [] = []
prints (x ∷ xs) = report x.0 ∷ prints xs

abbrev titled : List (List ℕ × List ℕ) → List (List ℕ)
titled [] = []
titled (x ∷ xs) = (title ++ x.1) ∷ titled xs

pub transcripts_hold : prints transcripts ≡ titled transcripts
unfolding le32 le64 signed i32 i64 bytes rows utf8 zero_text cstring_under tags row_of fits framed_under value_size_under admitted
    element_under step_under iterate_for iterate_under bool content value_in value_of opening visit opened walk_for walk_under check_under digits
    width_for width decimal header hex_byte element_line verdict_line report_lines report
transcripts_hold = refl
