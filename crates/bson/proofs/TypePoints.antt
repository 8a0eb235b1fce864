-- The definition reads each type as RULES.md says.
use mathlib.Core.Path.{refl}
use Rattle.bson.specs.Bytes.{le32, le64, signed, i32, i64, bytes}
use Rattle.bson.specs.Utf8.{rows, utf8}
use Rattle.bson.specs.Cstring.{zero_text, cstring_under}
use Rattle.bson.specs.Tags.{tags, row_of}
use Rattle.bson.specs.Framing.{length_field, fits, zero_ended, string_size, pointer_size, document_size, binary_size, scope_size}
use Rattle.bson.specs.Framing.{pattern_options_under, regex_size_under, framed_under, value_size_under}
use Rattle.bson.specs.Step.{admitted, element_under, step_under, iterate_for, iterate_under}
use Rattle.bson.specs.Value.{bool, timestamp_of, text, binary_value, scope_value, content, value_in, value_of, parts_of}
use Rattle.bson.specs.Lookup.{found}
use Rattle.bson.specs.Decided.{Hold}
use Rattle.bson.specs.TypePoints.{type_points, tag_points, signed_points}

pub type_points_hold : Hold type_points × Hold tag_points × Hold signed_points
unfolding le32 le64 signed i32 i64 bytes rows utf8 zero_text cstring_under tags row_of length_field fits zero_ended string_size pointer_size
    document_size binary_size scope_size pattern_options_under regex_size_under framed_under value_size_under admitted element_under step_under
    iterate_for iterate_under bool timestamp_of text binary_value scope_value content value_in value_of parts_of found type_points tag_points
    signed_points
type_points_hold = (refl, refl, refl)
