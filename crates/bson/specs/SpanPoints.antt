-- The bytes of the elements that an iteration yields, of slices that end cleanly and of slices that are refused (RULES.md, request
-- 13), each by bytes that show it.
use Rattle.std.specs.Prelude.{ℕ, List, [], ◌∷◌}
use Rattle.bson.specs.Step.{iterate, elements, spans}
use Rattle.bson.specs.Decided.{empty, two_keys}

-- those bytes, one behind the other
abbrev pub told : List ℕ → List ℕ
told s = spans s (elements (iterate s 4))

-- a code with scope of this length
abbrev pub short_scope : ℕ → List ℕ
short_scope n = 0x0B ∷ 0 ∷ 0 ∷ 0 ∷ 0x0F ∷ 0 ∷ n ∷ 0 ∷ 0 ∷ 0 ∷ 0 ∷ []

unfoldable pub span_points : List (List ℕ × List ℕ)
span_points =
    -- none; two, one behind the other
    (told empty, [])
    ∷ (told two_keys, 0x08 ∷ 0x61 ∷ 0 ∷ 0 ∷ 0x08 ∷ 0x61 ∷ 0 ∷ 0x01 ∷ [])
    -- what is not admitted tells none
    ∷ (told (0x05 ∷ 0 ∷ 0 ∷ 0 ∷ 0x01 ∷ []), [])
    -- an unknown tag behind a null: up to it
    ∷ (told (0x0B ∷ 0 ∷ 0 ∷ 0 ∷ 0x0A ∷ 0x61 ∷ 0 ∷ 0x14 ∷ 0x62 ∷ 0 ∷ 0 ∷ []), 0x0A ∷ 0x61 ∷ 0 ∷ [])
    -- P5: the terminator is of the value
    ∷ (told (0x0A ∷ 0 ∷ 0 ∷ 0 ∷ 0x10 ∷ 0 ∷ 0x07 ∷ 0 ∷ 0 ∷ 0 ∷ []), 0x10 ∷ 0 ∷ 0x07 ∷ 0 ∷ 0 ∷ 0 ∷ [])
    -- "a code with scope of length 0 to 3 has only those few value bytes"; of length 4 it has no more than its length
    ∷ (told (short_scope 0), 0x0F ∷ 0 ∷ [])
    ∷ (told (short_scope 1), 0x0F ∷ 0 ∷ 0x01 ∷ [])
    ∷ (told (short_scope 2), 0x0F ∷ 0 ∷ 0x02 ∷ 0 ∷ [])
    ∷ (told (short_scope 3), 0x0F ∷ 0 ∷ 0x03 ∷ 0 ∷ 0 ∷ [])
    ∷ (told (short_scope 4), 0x0F ∷ 0 ∷ 0x04 ∷ 0 ∷ 0 ∷ 0 ∷ [])
    ∷ []
