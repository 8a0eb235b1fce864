-- The definition refuses and frames what RULES.md says, in every class.
use mathlib.Core.Path.{refl}
use Rattle.bson.specs.Bytes.{le32, le64, signed, i32, i64, bytes}
use Rattle.bson.specs.Utf8.{rows, utf8}
use Rattle.bson.specs.Cstring.{zero_text, cstring_under}
use Rattle.bson.specs.Tags.{tags, row_of}
use Rattle.bson.specs.Framing.{length_field, fits, zero_ended, string_size, pointer_size, document_size, binary_size, scope_size}
use Rattle.bson.specs.Framing.{pattern_options_under, regex_size_under, framed_under, value_size_under}
use Rattle.bson.specs.Step.{admitted, element_under, step_under}
use Rattle.bson.specs.Value.{bool, timestamp_of, text, binary_value, scope_value, content, value_in, value_of, element_at_under, read_at_under}
use Rattle.bson.specs.Decided.{Hold}
use Rattle.bson.specs.FramingPoints.{fixed_points, string_points, pointer_points, document_points, binary_points, scope_size_points}
use Rattle.bson.specs.FramingPoints.{regex_size_points, regex_part_points, code_points, data_points, text_points, own_points, cursor_points}

pub framing_points_hold : Hold fixed_points × Hold string_points × Hold pointer_points × Hold document_points × Hold binary_points
    × Hold scope_size_points × Hold regex_size_points × Hold regex_part_points × Hold code_points × Hold data_points × Hold text_points
    × Hold own_points × Hold cursor_points
unfolding le32 le64 signed i32 i64 bytes rows utf8 zero_text cstring_under tags row_of length_field fits zero_ended string_size pointer_size
    document_size binary_size scope_size pattern_options_under regex_size_under framed_under value_size_under admitted element_under step_under bool
    timestamp_of text binary_value scope_value content value_in value_of element_at_under read_at_under fixed_points string_points pointer_points
    document_points binary_points scope_size_points regex_size_points regex_part_points code_points data_points text_points own_points cursor_points
framing_points_hold = (refl, refl, refl, refl, refl, refl, refl, refl, refl, refl, refl, refl, refl)
