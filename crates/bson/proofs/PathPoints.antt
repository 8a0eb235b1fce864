-- The definition says of paths what RULES.md, request 1, says.
use mathlib.Core.Path.{refl}
use Rattle.bson.specs.Bytes.{le32, le64, signed, i32, i64, bytes}
use Rattle.bson.specs.Utf8.{rows, utf8}
use Rattle.bson.specs.Cstring.{zero_text, cstring_under}
use Rattle.bson.specs.Tags.{tags, row_of}
use Rattle.bson.specs.Framing.{length_field, fits, zero_ended, string_size, pointer_size, document_size, binary_size, scope_size}
use Rattle.bson.specs.Framing.{pattern_options_under, regex_size_under, framed_under, value_size_under}
use Rattle.bson.specs.Step.{admitted, element_under, step_under, iterate_for, iterate_under}
use Rattle.bson.specs.Value.{bool, timestamp_of, text, binary_value, scope_value, content, value_in, value_of, parts_of}
use Rattle.bson.specs.Lookup.{found, find_under, get_under}
use Rattle.bson.specs.Path.{get_path_under, get_path_bytes_under, get_path_with_under}
use Rattle.bson.specs.Grammar.{bytes32, element_bytes, document_of}
use Rattle.bson.specs.Decided.{Hold}
use Rattle.bson.specs.PathPoints.{split_points, level_points, array_points, deep_points, number_points, whole_points, part_points, two_points}
use Rattle.bson.specs.PathPoints.{absent_points, entered_points, deeper_points, own_points, damage_points, behind_points, count_points}
use Rattle.bson.specs.PathPoints.{typed_points, framed_points, none_points, limit_points, unlimited_points}

pub path_points_hold : Hold split_points × Hold level_points × Hold array_points × Hold deep_points × Hold number_points × Hold whole_points
    × Hold part_points × Hold two_points × Hold absent_points × Hold entered_points × Hold deeper_points × Hold own_points × Hold damage_points
    × Hold behind_points × Hold count_points × Hold typed_points × Hold framed_points × Hold none_points × Hold limit_points
    × Hold unlimited_points
unfolding le32 le64 signed i32 i64 bytes rows utf8 zero_text cstring_under tags row_of length_field fits zero_ended string_size pointer_size
    document_size binary_size scope_size pattern_options_under regex_size_under framed_under value_size_under admitted element_under step_under
    iterate_for iterate_under bool timestamp_of text binary_value scope_value content value_in value_of parts_of found find_under get_under
    get_path_under get_path_bytes_under get_path_with_under bytes32 element_bytes document_of split_points level_points array_points deep_points
    number_points whole_points part_points two_points absent_points entered_points deeper_points own_points damage_points behind_points count_points
    typed_points framed_points none_points limit_points unlimited_points
path_points_hold = (refl, refl, refl, refl, refl, refl, refl, refl, refl, refl, refl, refl, refl, refl, refl, refl, refl, refl, refl, refl)
