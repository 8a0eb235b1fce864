-- The definition says of a value in a scope that it is reachable, and of the later element of a key that it is not the first.
use Prim.Native.Nat.{◌<◌}
use mathlib.Core.Path.{refl}
use mathlib.Core.Bool.{false}
use native.Mathlib.Omega.{arith}
use Rattle.bson.specs.Bytes.{le32, bytes, part}
use Rattle.bson.specs.Utf8.{rows, utf8}
use Rattle.bson.specs.Cstring.{unlimited, zero_text, cstring_under}
use Rattle.bson.specs.Tags.{tags, row_of}
use Rattle.bson.specs.Framing.{length_field, fits, zero_ended, string_size, scope_size, framed_under, value_size_under}
use Rattle.bson.specs.Step.{admitted, element_under, step_under}
use Rattle.bson.specs.Value.{code_with_scope, scope_value, content, value_in, value_of, element_at_under, read_at_under}
use Rattle.bson.specs.Level.{opening}
use Rattle.bson.specs.Reach.{Among, first, next, into}
use Rattle.bson.specs.Vectors.{elem}
use Rattle.bson.specs.Decided.{two_keys}
use Rattle.bson.specs.ReachPoints.{earlier, ReachPoints}

pub reach_points_hold : ReachPoints
unfolding le32 bytes rows utf8 zero_text cstring_under tags row_of length_field fits zero_ended string_size scope_size framed_under value_size_under
    admitted element_under step_under scope_value content value_in value_of element_at_under read_at_under opening
reach_points_hold =
    let before : Among unlimited two_keys earlier = record { offset = 4; from = first; yields = refl } in
    let lower : 4 < 8 = omega arith in
    record {
      in_scope_law = record {
        comes = into (code_with_scope (part 14 0) (part 15 7)) false 2 (part 15 7) first refl refl;
        element = elem 4 0x0A 0 0;
        yields = refl;
      };
      both = (before, record { offset = 8; from = next earlier first refl; yields = refl });
      not_first = λ f. f.none_before earlier before lower refl;
    }
