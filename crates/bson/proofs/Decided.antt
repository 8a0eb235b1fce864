-- The definition says what DECISIONS.md settles.
use Prim.Native.Nat.{ℕ, ◌-◌}
use mathlib.Core.Path.{◌≡◌, refl, ap, ◌∙◌}
use mathlib.Core.List.{List}
use mathlib.Core.Bool.{Bool, false, ◌&&◌, and-false}
use lib.ListN.{length, drop}
use lib.Dec.{leb, eqb}
use Rattle.bson.specs.Bytes.{le32, le64, signed, i32, i64, natural, declares, bytes}
use Rattle.bson.specs.Utf8.{rows, utf8}
use Rattle.bson.specs.Cstring.{zero_text, cstring_under}
use Rattle.bson.specs.Tags.{tags, row_of}
use Rattle.bson.specs.Framing.{length_field, fits, zero_ended, string_size, pointer_size, document_size, binary_size, scope_size}
use Rattle.bson.specs.Framing.{pattern_options_under, regex_size_under, framed_under, value_size_under}
use Rattle.bson.specs.Step.{admitted, element_under, step_under, key_at_under, iterate_for, iterate_under}
use Rattle.bson.specs.Value.{bool, timestamp_of, text, declares_data, binary_value, scope_value, content, value_in, value_of}
use Rattle.bson.specs.Value.{element_at_under, read_at_under, read_with_under, parts_of, part_at_under}
use Rattle.bson.specs.Lookup.{found, find_under, get_under, get_bytes_under, get_with_under, get_part_under, is_empty}
use Rattle.bson.specs.Level.{opening}
use Rattle.bson.specs.Check.{visit, opened, walk_for, walk_under, check_under}
use Rattle.bson.specs.Decided.{step_points, reading_points, lookup_points, part_points, check_points, scope_points, depth_points}
use Rattle.bson.specs.Decided.{NegativeRefused, Hold}

pub decided_hold : Hold step_points × Hold reading_points × Hold lookup_points × Hold part_points
    × Hold check_points × Hold scope_points × Hold depth_points
unfolding le32 le64 signed i32 i64 bytes rows utf8 zero_text cstring_under tags row_of length_field fits zero_ended string_size pointer_size
    document_size binary_size scope_size pattern_options_under regex_size_under framed_under value_size_under admitted element_under step_under
    key_at_under iterate_for iterate_under bool timestamp_of text binary_value scope_value content value_in value_of element_at_under read_at_under
    read_with_under parts_of part_at_under found find_under get_under get_bytes_under get_with_under get_part_under is_empty opening visit opened
    walk_for walk_under check_under step_points reading_points lookup_points part_points check_points scope_points depth_points
decided_hold = (refl, refl, refl, refl, refl, refl, refl)

negative_differs : (v : List ℕ) (m : ℕ) → natural (le32 v) ≡ false → declares v m ≡ false
negative_differs v m n = ap (λ (b : Bool). b && eqb (le32 v) m) n

inner_differs : (v : List ℕ) → natural (le32 (drop 5 v)) ≡ false → declares_data v ≡ false
inner_differs v n =
    ap (λ (b : Bool). leb 9 (length v) && b) (negative_differs (drop 5 v) (length v - 9) n) ∙ and-false (leb 9 (length v))

pub negative_refused : NegativeRefused
unfolding admitted binary_value
negative_refused =
    record {
      document = λ s l n. rw (l, negative_differs s (length s) n);
      inner = λ v p t n. rw (t, inner_differs v n);
    }
