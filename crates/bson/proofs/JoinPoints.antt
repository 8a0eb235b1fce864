-- The definition of joining says what RULES.md and DECISIONS.md settle.
use mathlib.Core.Path.{refl}
use Rattle.bson.specs.Bytes.{le32, bytes}
use Rattle.bson.specs.Utf8.{rows, utf8}
use Rattle.bson.specs.Cstring.{zero_text, cstring_under}
use Rattle.bson.specs.Tags.{tags, row_of}
use Rattle.bson.specs.Framing.{fits, framed_under, value_size_under}
use Rattle.bson.specs.Step.{admitted, element_under, step_under, iterate_for, iterate_under}
use Rattle.bson.specs.Value.{bool, content, value_in, value_of}
use Rattle.bson.specs.ArrayKey.{good_array_key}
use Rattle.bson.specs.Level.{opening}
use Rattle.bson.specs.Check.{visit, opened, walk_for, walk_under, check_under}
use Rattle.bson.specs.Output.{put}
use Rattle.bson.specs.Grammar.{bytes32, document_of}
use Rattle.bson.specs.Writer.{room}
use Rattle.bson.specs.Join.{body, both, size_of_both, both_put, join}
use Rattle.bson.specs.Decided.{Hold}
use Rattle.bson.specs.JoinPoints.{join_points}

pub join_points_hold : Hold join_points
unfolding le32 bytes rows utf8 zero_text cstring_under tags row_of fits framed_under value_size_under admitted element_under step_under
    iterate_for iterate_under bool content value_in value_of good_array_key opening visit opened walk_for walk_under check_under put bytes32
    document_of room body both size_of_both both_put join join_points
join_points_hold = refl
