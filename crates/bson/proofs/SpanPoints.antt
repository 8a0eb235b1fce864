-- The elements of an iteration have the bytes that RULES.md, request 13, says.
use mathlib.Core.Path.{refl}
use Rattle.bson.specs.Bytes.{le32, bytes}
use Rattle.bson.specs.Utf8.{rows, utf8}
use Rattle.bson.specs.Cstring.{zero_text, cstring_under}
use Rattle.bson.specs.Tags.{tags, row_of}
use Rattle.bson.specs.Framing.{length_field, fits, scope_size, framed_under, value_size_under}
use Rattle.bson.specs.Step.{admitted, element_under, step_under, iterate_for, iterate_under}
use Rattle.bson.specs.Decided.{Hold}
use Rattle.bson.specs.SpanPoints.{span_points}

pub span_points_hold : Hold span_points
unfolding le32 bytes rows utf8 zero_text cstring_under tags row_of length_field fits scope_size framed_under value_size_under admitted
    element_under step_under iterate_for iterate_under span_points
span_points_hold = refl
