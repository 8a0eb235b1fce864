-- Proof that what a limit refuses and lets through is what the definition says.
use mathlib.Core.Path.{refl}
use Rattle.bson.specs.Bytes.{le32, bytes}
use Rattle.bson.specs.Utf8.{rows, utf8}
use Rattle.bson.specs.Cstring.{zero_text, cstring_under}
use Rattle.bson.specs.Tags.{tags, row_of}
use Rattle.bson.specs.Framing.{length_field, fits, zero_ended, string_size, document_size, scope_size, pattern_options_under, regex_size_under}
use Rattle.bson.specs.Framing.{framed_under, value_size_under}
use Rattle.bson.specs.Step.{admitted, element_under, step_under, key_at_under, iterate_for, iterate_under}
use Rattle.bson.specs.Value.{text, scope_value, content, value_in, value_of, element_at_under, read_at_under, read_with_under, parts_of}
use Rattle.bson.specs.Value.{part_at_under}
use Rattle.bson.specs.Lookup.{found, find_under, get_under, get_bytes_under, get_with_under, get_part_under}
use Rattle.bson.specs.Decimal.{digits, width_for, width, decimal}
use Rattle.bson.specs.ArrayKey.{good_array_key}
use Rattle.bson.specs.Level.{opening}
use Rattle.bson.specs.Check.{visit, opened, walk_for, walk_under, check_under}
use Rattle.bson.specs.Decided.{Hold}
use Rattle.bson.specs.LimitPoints.{key_points, regex_points, nested_points, call_points, unlimited_points}

pub limit_points_hold : Hold key_points × Hold regex_points × Hold nested_points × Hold call_points × Hold unlimited_points
unfolding le32 bytes rows utf8 zero_text cstring_under tags row_of length_field fits zero_ended string_size document_size scope_size
    pattern_options_under regex_size_under framed_under value_size_under admitted element_under step_under key_at_under iterate_for iterate_under text
    scope_value content value_in value_of element_at_under read_at_under read_with_under parts_of part_at_under found find_under get_under get_bytes_under
    get_with_under get_part_under digits width_for width decimal good_array_key opening visit opened walk_for walk_under check_under key_points
    regex_points nested_points call_points unlimited_points
limit_points_hold = (refl, refl, refl, refl, refl)
