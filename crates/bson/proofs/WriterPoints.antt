-- The definition of the writer says what RULES.md and DECISIONS.md settle.
use mathlib.Core.Path.{refl}
use Rattle.bson.specs.Utf8.{rows, utf8}
use Rattle.bson.specs.Cstring.{valid_cstr}
use Rattle.bson.specs.Decimal.{digits, width_for, width, decimal}
use Rattle.bson.specs.Output.{put}
use Rattle.bson.specs.Grammar.{bytes32, bytes64, unsigned, string_bytes, binary_bytes, row, element_bytes}
use Rattle.bson.specs.Writer.{fresh, kind_of, kind_holds, stands, stand, room, possible, innermost, key_in, key_passes, grown, room_for}
use Rattle.bson.specs.Writer.{appended, pushed, opened_in, opened_top, closed, answer, performed}
use Rattle.bson.specs.Decided.{Hold}
use Rattle.bson.specs.WriterPoints.{out_of_turn, too_deep, not_in_order, no_room, written_points}

pub writer_points_hold : Hold out_of_turn × Hold too_deep × Hold not_in_order × Hold no_room × Hold written_points
unfolding rows utf8 valid_cstr digits width_for width decimal put bytes32 bytes64 unsigned string_bytes binary_bytes row element_bytes fresh
    kind_of kind_holds stands stand room possible innermost key_in key_passes grown room_for appended pushed opened_in opened_top closed answer
    performed out_of_turn too_deep not_in_order no_room written_points
writer_points_hold = (refl, refl, refl, refl, refl)
