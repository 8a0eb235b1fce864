-- The sessions of the statement make the trees that are written out, and leave their bytes.
use mathlib.Core.Path.{◌≡◌, refl}
use mathlib.Core.List.{[], ◌∷◌}
use Rattle.bson.specs.Utf8.{rows, utf8}
use Rattle.bson.specs.Cstring.{valid_cstr}
use Rattle.bson.specs.Decimal.{digits, width_for, width, decimal}
use Rattle.bson.specs.Output.{put}
use Rattle.bson.specs.Grammar.{bytes32, array, row, none, element_bytes, document_of, list_bytes}
use Rattle.bson.specs.Writer.{fresh, kind_of, kind_holds, stands, stand, room, possible, innermost, key_in, key_passes, grown, room_for}
use Rattle.bson.specs.Writer.{appended, pushed, opened_in, opened_top, closed, answer}
use Rattle.bson.specs.WriterPoints.{zero_key}
use Rattle.theorems.specs.ReadBack.{open_of, key_for}
use Rattle.theorems.specs.SessionPoints.{null_at, SessionPoints}

digits_0 : decimal 0 ≡ 0x30 ∷ []
unfolding digits width_for width decimal
digits_0 = refl

digits_1 : decimal 1 ≡ 0x31 ∷ []
unfolding digits width_for width decimal
digits_1 = refl

-- the number is compared, and not its digits, so that a wrong one is told
key_0 : key_for (open_of array [] none) zero_key ≡ 0x30 ∷ []
key_0 = digits_0

key_1 : key_for (open_of array [] (null_at (0x30 ∷ []) none)) zero_key ≡ 0x31 ∷ []
key_1 = digits_1

pub session_points_hold : SessionPoints
unfolding rows utf8 valid_cstr digits width_for width decimal put bytes32 row element_bytes document_of list_bytes fresh kind_of kind_holds stands
    stand room possible innermost key_in key_passes grown room_for appended pushed opened_in opened_top closed answer
session_points_hold =
    record {
      first_key = key_0;
      second_key = key_1;
      so_far = refl;
      at_last = refl;
      nested = refl;
      nested_bytes = refl;
      nested_strict = λ d r. r.strict;
      too_early = refl;
      zero_in_key = refl;
      too_late = refl;
    }
