-- The definition says of lookups in a damaged document what RULES.md says, without a limit and under one that the keys keep.
use mathlib.Core.Path.{refl}
use Rattle.bson.specs.Bytes.{le32, signed, i32, bytes}
use Rattle.bson.specs.Utf8.{rows, utf8}
use Rattle.bson.specs.Cstring.{unlimited, most, zero_text, cstring_under}
use Rattle.bson.specs.Tags.{tags, row_of}
use Rattle.bson.specs.Framing.{length_field, fits, zero_ended, string_size, pattern_options_under, regex_size_under, framed_under}
use Rattle.bson.specs.Framing.{value_size_under}
use Rattle.bson.specs.Step.{admitted, element_under, step_under, iterate_for, iterate_under}
use Rattle.bson.specs.Value.{bool, text, content, value_in, value_of, parts_of}
use Rattle.bson.specs.Lookup.{found, find_under, get_under, get_bytes_under, get_with_under, get_part_under}
use Rattle.bson.specs.Decided.{Hold}
use Rattle.bson.specs.LookupPoints.{found_points, with_points, damage_points, handed_points, typed_points}

pub lookup_points_hold : Hold (found_points unlimited) × Hold (with_points unlimited) × Hold (handed_points unlimited)
    × Hold damage_points × Hold typed_points × Hold (found_points (most 7)) × Hold (with_points (most 7)) × Hold (handed_points (most 7))
unfolding le32 signed i32 bytes rows utf8 zero_text cstring_under tags row_of length_field fits zero_ended string_size pattern_options_under
    regex_size_under framed_under value_size_under admitted element_under step_under iterate_for iterate_under bool text content value_in value_of
    parts_of found find_under get_under get_bytes_under get_with_under get_part_under found_points with_points damage_points handed_points typed_points
lookup_points_hold = (refl, refl, refl, refl, refl, refl, refl, refl)
