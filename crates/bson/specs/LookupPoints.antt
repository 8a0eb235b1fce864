-- Lookups in a damaged document (RULES.md, "Values"): plain, typed, of a part, and under a limit, each by bytes that show it.
use Rattle.std.specs.Prelude.{ℕ, ◌+◌, List, [], ◌∷◌, ◌++◌, length, pos}
use Rattle.bson.specs.Answer.{Answer, gives, refuses, then}
use Rattle.bson.specs.Bytes.{le32, part}
use Rattle.bson.specs.Cstring.{Limit, unlimited}
use Rattle.bson.specs.Framing.{in_front}
use Rattle.bson.specs.Value.{Value, leaf, int32, string, bool, first}
use Rattle.bson.specs.Lookup.{get_under, get_bytes_under, get_with_under, get_part_under, typed}
use Rattle.bson.specs.Decided.{Point, given}

-- ---- documents

-- the keys `battery` and `s`, and one that no element has
abbrev pub battery_key : List ℕ
battery_key = 0x62 ∷ 0x61 ∷ 0x74 ∷ 0x74 ∷ 0x65 ∷ 0x72 ∷ 0x79 ∷ []

abbrev pub text_key : List ℕ
text_key = 0x73 ∷ []

abbrev pub other_key : List ℕ
other_key = 0x7A ∷ []

-- the element of a battery, an int32
abbrev pub battery : ℕ → List ℕ
battery n = 0x10 ∷ battery_key ++ (0 ∷ n ∷ 0 ∷ 0 ∷ 0 ∷ [])

-- what a text holds: two letters, and leftover bytes that are shaped like a battery of 7
abbrev pub leftover : ℕ → List ℕ
leftover letter = letter ∷ 0x6B ∷ battery 7

-- the element of that text, by its first letter and its length, which is 16 where it is not damaged
abbrev pub noted : ℕ → ℕ → List ℕ
noted letter n = 0x02 ∷ text_key ++ (0 ∷ n ∷ 0 ∷ 0 ∷ 0 ∷ leftover letter ++ (0 ∷ []))

-- an element of a tag that is in no row
abbrev pub unknown : List ℕ
unknown = 0x14 ∷ other_key ++ (0 ∷ [])

-- a document of two elements
abbrev pub both : List ℕ → List ℕ → List ℕ
both x y = (length x + length y + 5) ∷ 0 ∷ 0 ∷ 0 ∷ x ++ (y ++ (0 ∷ []))

-- nothing is damaged: the text at 4, a battery of 42 at 27, the terminator at 40
abbrev pub sound : List ℕ
sound = both (noted 0x6F 16) (battery 42)

-- the text's length is damaged, so that without a test of its last byte a step would come to the leftover battery: before the battery of
-- 42, and behind it, at 17
abbrev pub damaged_before : List ℕ
damaged_before = both (noted 0x6F 2) (battery 42)

abbrev pub damaged_behind : List ℕ
damaged_behind = both (battery 42) (noted 0x6F 2)

-- the text is framed, and is not UTF-8
abbrev pub bad_text : List ℕ
bad_text = both (noted 0xFF 16) (battery 42)

-- P5: an int32 of 7 under an empty key, and behind it a step past the terminator
abbrev pub swallowed : List ℕ
swallowed = 0x0A ∷ 0 ∷ 0 ∷ 0 ∷ 0x10 ∷ 0 ∷ 0x07 ∷ 0 ∷ 0 ∷ 0 ∷ []

-- ---- what is found

-- the value found, by a lookup and by one of a type
abbrev pub look : Limit → List ℕ → List ℕ → Answer Value
look limit s key = then (get_under limit s key) λ f. gives f.value

abbrev pub look_with : Limit → List ℕ → List ℕ → ℕ → Answer Value
look_with limit s key tag = then (get_with_under limit s key tag) λ f. gives f.value

unfoldable pub found_points : Limit → List (Answer Value × Answer Value)
found_points limit =
    -- without damage; "no match is 16"
    (look limit sound text_key, gives (leaf (string (part 11 15))))
    ∷ (look limit sound battery_key, gives (leaf (int32 (pos 42))))
    ∷ (look limit sound other_key, refuses 16 40)
    -- "equal bytes": no key is empty, or one less than the text's
    ∷ (look limit sound [], refuses 16 40)
    ∷ (look limit sound (0x72 ∷ []), refuses 16 40)
    -- "damage before it is returned"
    ∷ (look limit damaged_before battery_key, refuses 10 4)
    -- "damage behind it is not seen"
    ∷ (look limit damaged_behind battery_key, gives (leaf (int32 (pos 42))))
    ∷ (look limit swallowed [], gives (leaf (int32 (pos 7))))
    -- the match cannot be framed, or read
    ∷ (look limit damaged_behind text_key, refuses 10 17)
    ∷ (look limit bad_text text_key, refuses 6 4)
    -- no other value is read
    ∷ (look limit bad_text battery_key, gives (leaf (int32 (pos 42))))
    -- no match: the damage, and not 16
    ∷ (look limit damaged_behind other_key, refuses 10 17)
    ∷ []

-- "typed lookup: 16, then the value's refusal, then 17"
unfoldable pub with_points : Limit → List (Answer Value × Answer Value)
with_points limit =
    (look_with limit sound battery_key 0x10, gives (leaf (int32 (pos 42))))
    ∷ (look_with limit damaged_before battery_key 0x10, refuses 10 4)
    ∷ (look_with limit damaged_behind battery_key 0x10, gives (leaf (int32 (pos 42))))
    ∷ (look_with limit damaged_behind battery_key 0x02, refuses 17 4)
    ∷ (look_with limit damaged_behind text_key 0x10, refuses 10 17)
    ∷ (look_with limit bad_text text_key 0x10, refuses 6 4)
    ∷ (look_with limit damaged_behind other_key 0x10, refuses 10 17)
    ∷ []

-- what a step refuses without a limit, number by number: of RULES.md, "Bytes to try", and a key that is not UTF-8
abbrev pub damages : List (List ℕ × Answer Value)
damages =
    (0x05 ∷ 0 ∷ 0 ∷ 0 ∷ [], refuses 1 0)
    ∷ (0x06 ∷ 0 ∷ 0 ∷ 0 ∷ 0 ∷ [], refuses 2 0)
    ∷ (0x05 ∷ 0 ∷ 0 ∷ 0 ∷ 0x01 ∷ [], refuses 3 0)
    ∷ (swallowed, refuses 4 10)
    ∷ (0x07 ∷ 0 ∷ 0 ∷ 0 ∷ 0x0B ∷ 0 ∷ 0 ∷ [], refuses 5 4)
    ∷ (0x08 ∷ 0 ∷ 0 ∷ 0 ∷ 0x0A ∷ 0xFF ∷ 0 ∷ 0 ∷ [], refuses 6 4)
    ∷ (0x07 ∷ 0 ∷ 0 ∷ 0 ∷ 0x14 ∷ 0 ∷ 0 ∷ [], refuses 7 4)
    ∷ (0x0B ∷ 0 ∷ 0 ∷ 0 ∷ 0x02 ∷ 0 ∷ 0 ∷ 0 ∷ 0 ∷ 0 ∷ 0 ∷ [], refuses 8 4)
    ∷ (0x0A ∷ 0 ∷ 0 ∷ 0 ∷ 0x12 ∷ 0 ∷ 0x07 ∷ 0 ∷ 0 ∷ 0 ∷ [], refuses 9 4)
    ∷ (0x0C ∷ 0 ∷ 0 ∷ 0 ∷ 0x02 ∷ 0 ∷ 0x01 ∷ 0 ∷ 0 ∷ 0 ∷ 0x61 ∷ 0 ∷ [], refuses 10 4)
    ∷ []

-- a lookup and a typed one of a key that is not there
abbrev pub absent_in : List (List ℕ × Answer Value) → List (Answer Value × Answer Value)
absent_in [] = []
absent_in (d ∷ ds) =
    (look unlimited d.0 other_key, d.1) ∷ (look_with unlimited d.0 other_key 0x10, d.1) ∷ absent_in ds

unfoldable pub damage_points : List (Answer Value × Answer Value)
damage_points = absent_in damages

-- ---- what is handed back

-- the framed bytes and a part: nothing where the damage is before the match or of it
unfoldable pub handed_points : Limit → List (List ℕ × List ℕ)
handed_points limit =
    (get_bytes_under limit damaged_before battery_key, [])
    ∷ (get_bytes_under limit damaged_behind battery_key, 42 ∷ 0 ∷ 0 ∷ 0 ∷ [])
    ∷ (get_bytes_under limit bad_text text_key, [])
    ∷ (get_bytes_under limit damaged_behind other_key, [])
    ∷ (get_part_under limit (both unknown (noted 0x6F 16)) text_key 0x02 first, [])
    ∷ (get_part_under limit (both (noted 0x6F 16) unknown) text_key 0x02 first, leftover 0x6F)
    ∷ (get_part_under limit bad_text text_key 0x02 first, [])
    ∷ []

-- the getters of numbers, which have no limit; the place of what such a number refuses is the element's
unfoldable pub typed_points : List Point
typed_points =
    (typed (in_front 4 le32) damaged_before battery_key 0x10, refuses 10 4)
    ∷ (typed (in_front 4 le32) damaged_behind battery_key 0x10, gives 42)
    ∷ (typed (in_front 4 le32) sound text_key 0x10, refuses 17 4)
    ∷ (typed (in_front 4 le32) bad_text text_key 0x10, refuses 6 4)
    ∷ (typed (in_front 4 le32) damaged_behind other_key 0x10, refuses 10 17)
    ∷ (given (typed bool damaged_behind battery_key 0x10), refuses 11 4)
    ∷ []
