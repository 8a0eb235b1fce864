-- The definition takes the keys of arrays that RULES.md, request 3, names, refuses all others, and asks in its order.
use mathlib.Core.Path.{refl}
use Rattle.bson.specs.Bytes.{le32, bytes}
use Rattle.bson.specs.Utf8.{rows, utf8}
use Rattle.bson.specs.Cstring.{zero_text, cstring_under}
use Rattle.bson.specs.Tags.{tags, row_of}
use Rattle.bson.specs.Framing.{length_field, fits, zero_ended, string_size, document_size, scope_size, framed_under, value_size_under}
use Rattle.bson.specs.Step.{admitted, element_under, step_under, iterate_for, iterate_under}
use Rattle.bson.specs.Value.{bool, text, scope_value, content, value_in, value_of}
use Rattle.bson.specs.Decimal.{digits, width_for, width, decimal}
use Rattle.bson.specs.ArrayKey.{good_array_key}
use Rattle.bson.specs.Level.{opening}
use Rattle.bson.specs.Grammar.{bytes32, element_bytes, document_of}
use Rattle.bson.specs.Check.{visit, opened, walk_for, walk_under, check_under}
use Rattle.bson.specs.Decided.{Hold}
use Rattle.bson.specs.StrictPoints.{key_points, tenth_points, level_points, order_points}

pub strict_points_hold : Hold key_points × Hold tenth_points × Hold level_points × Hold order_points
unfolding le32 bytes rows utf8 zero_text cstring_under tags row_of length_field fits zero_ended string_size document_size scope_size framed_under
    value_size_under admitted element_under step_under iterate_for iterate_under bool text scope_value content value_in value_of digits width_for
    width decimal good_array_key opening visit opened walk_for walk_under check_under bytes32 element_bytes document_of key_points tenth_points
    level_points order_points
strict_points_hold = (refl, refl, refl, refl)
