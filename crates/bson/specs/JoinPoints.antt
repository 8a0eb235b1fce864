-- What joining answers and leaves, each by two documents and a buffer that show it (RULES.md, "Writer and joining").
use Rattle.std.specs.Prelude.{ℕ, List, [], ◌∷◌}
use Rattle.bson.specs.Join.{Joined, wrote, refused, joined, join}
use Rattle.bson.specs.Decided.{empty}
use Rattle.bson.specs.WriterPoints.{blank}

-- a null under the key `a`, and a boolean under `b`
abbrev pub null_document : List ℕ
null_document = 0x08 ∷ 0 ∷ 0 ∷ 0 ∷ 0x0A ∷ 0x61 ∷ 0 ∷ 0 ∷ []

abbrev pub true_document : List ℕ
true_document = 0x09 ∷ 0 ∷ 0 ∷ 0 ∷ 0x08 ∷ 0x62 ∷ 0 ∷ 0x01 ∷ 0 ∷ []

-- a boolean of 2 behind a null: admitted, and refused by the whole check with 11 at 7
abbrev pub damaged : List ℕ
damaged = 0x0C ∷ 0 ∷ 0 ∷ 0 ∷ 0x0A ∷ 0x61 ∷ 0 ∷ 0x08 ∷ 0x62 ∷ 0 ∷ 0x02 ∷ 0 ∷ []

unfoldable pub join_points : List (Joined × Joined)
join_points =
    -- first before second; a byte behind stays
    (
      join null_document true_document (blank 13),
      joined (wrote 12) (0x0C ∷ 0 ∷ 0 ∷ 0 ∷ 0x0A ∷ 0x61 ∷ 0 ∷ 0x08 ∷ 0x62 ∷ 0 ∷ 0x01 ∷ 0 ∷ 0xEE ∷ []),
    )
    ∷ (join empty empty (blank 5), joined (wrote 5) empty)
    -- the room is the sum less 5
    ∷ (join null_document true_document (blank 11), joined (refused 14 0 0) (blank 11))
    ∷ (join empty empty [], joined (refused 14 0 0) [])
    -- the whole check of the first, then of the second, then the room
    ∷ (join damaged true_document (blank 20), joined (refused 11 7 1) (blank 20))
    ∷ (join true_document damaged (blank 20), joined (refused 11 7 2) (blank 20))
    ∷ (join damaged [] [], joined (refused 11 7 1) [])
    ∷ (join true_document damaged [], joined (refused 11 7 2) [])
    ∷ (join [] true_document [], joined (refused 1 0 1) [])
    ∷ []
