-- What a limit on keys, patterns and options refuses, and what it lets through (RULES.md, request 2), each by bytes that show it.
use Rattle.std.specs.Prelude.{ℕ, ◌+◌, List, [], ◌∷◌, ◌++◌, true, false, length}
use Rattle.bson.specs.Answer.{gives, refuses}
use Rattle.bson.specs.Bytes.{le32}
use Rattle.bson.specs.Cstring.{unlimited, most, cstring}
use Rattle.bson.specs.Tags.{as_regex}
use Rattle.bson.specs.Framing.{pattern_options, regex_size, framed, value_size}
use Rattle.bson.specs.Step.{cursor, step_under, key_at_under, elements, element, step, key_at, iterate}
use Rattle.bson.specs.Value.{first, second, read_at_under, read_with_under, part_at_under, read_at, read_with, part_at}
use Rattle.bson.specs.Lookup.{get_under, get_bytes_under, get_with_under, get_part_under, get, get_bytes, get_with, get_part}
use Rattle.bson.specs.Check.{check_under, check}
use Rattle.bson.specs.Decided.{Point, given, regex_of, one_null, null_in_scope}

-- ---- documents

abbrev pub abc : List ℕ
abc = 0x61 ∷ 0x62 ∷ 0x63 ∷ []

-- bytes that are no UTF-8
abbrev pub no_text : List ℕ
no_text = 0xFF ∷ 0xFF ∷ 0xFF ∷ []

-- an element of no value bytes, by its tag and its key, as a document
abbrev pub only : ℕ → List ℕ → List ℕ
only tag key = (length key + 7) ∷ 0 ∷ 0 ∷ 0 ∷ tag ∷ key ++ (0 ∷ 0 ∷ [])

-- a regex under an empty key
abbrev pub regex_with : List ℕ → List ℕ → List ℕ
regex_with pattern options = (length pattern + length options + 9) ∷ 0 ∷ 0 ∷ 0 ∷ 0x0B ∷ 0 ∷ pattern ++ (0 ∷ options ++ (0 ∷ 0 ∷ []))

-- options without a zero byte
abbrev pub endless : List ℕ
endless = 0x07 ∷ 0 ∷ 0 ∷ 0 ∷ 0x0B ∷ 0 ∷ 0 ∷ []

-- a document or an array, by its tag, that holds one null under the key
abbrev pub holding : ℕ → List ℕ → List ℕ
holding tag key = (length key + 14) ∷ 0 ∷ 0 ∷ 0 ∷ tag ∷ 0 ∷ only 0x0A key ++ (0 ∷ [])

-- a null under an empty key, then one under `abc`
abbrev pub empty_then_long : List ℕ
empty_then_long = 0x0C ∷ 0 ∷ 0 ∷ 0 ∷ 0x0A ∷ 0 ∷ 0x0A ∷ abc ++ (0 ∷ 0 ∷ [])

-- ---- keys

unfoldable pub key_points : List Point
key_points =
    -- as many bytes as the limit says, and one more; under 0 only an empty key; however large the limit
    (check_under (most 3) false (only 0x0A abc), gives 1)
    ∷ (check_under (most 2) false (only 0x0A abc), refuses 22 4)
    ∷ (check_under (most 0) false (only 0x0A abc), refuses 22 4)
    ∷ (check_under (most 0) false (only 0x0A []), gives 1)
    ∷ (check_under (most 0xFFFF_FFFF_FFFF_FFFF) false (only 0x0A abc), gives 1)
    -- too long comes before not UTF-8, and that before the tag
    ∷ (check_under (most 2) false (only 0x14 no_text), refuses 22 4)
    ∷ (check_under (most 3) false (only 0x14 no_text), refuses 6 4)
    ∷ (check_under (most 3) false (only 0x14 abc), refuses 7 4)
    -- admission comes before
    ∷ (check_under (most 0) false (0x05 ∷ 0 ∷ 0 ∷ 0 ∷ []), refuses 1 0)
    ∷ []

-- ---- patterns and options

-- patterns and options, each by itself
unfoldable pub regex_points : List Point
regex_points =
    (check_under (most 1) false regex_of, gives 1)
    ∷ (check_under (most 2) false (regex_with abc []), refuses 22 4)
    ∷ (check_under (most 2) false (regex_with [] abc), refuses 22 4)
    -- the pattern is asked first
    ∷ (check_under (most 2) false (regex_with (0xFF ∷ []) abc), refuses 6 4)
    -- 22 in the place of 5
    ∷ (check_under unlimited false endless, refuses 5 4)
    ∷ (check_under (most 100) false endless, refuses 22 4)
    ∷ (check_under (most 0xFFFF_FFFF_FFFF_FFFF) false endless, refuses 22 4)
    ∷ []

-- ---- levels

-- the same limit at every level, and places in the outermost slice
unfoldable pub nested_points : List Point
nested_points =
    (check_under (most 3) false (holding 0x03 abc), gives 2)
    ∷ (check_under (most 2) false (holding 0x03 abc), refuses 22 10)
    ∷ (check_under (most 2) false (holding 0x04 abc), refuses 22 10)
    ∷ (check_under (most 0) false null_in_scope, gives 2)
    -- the strict check asks for the key of an array behind the step
    ∷ (check_under (most 2) true (holding 0x04 abc), refuses 22 10)
    ∷ (check_under (most 3) true (holding 0x04 abc), refuses 19 10)
    ∷ []

-- ---- calls

-- steps, readings and lookups, each with what it hands back
unfoldable pub call_points : List Point
call_points =
    (given (step_under (most 3) (only 0x0A abc) (cursor 4 false)), gives 0)
    ∷ (given (step_under (most 2) (only 0x0A abc) (cursor 4 false)), refuses 22 4)
    ∷ (gives (length (key_at_under (most 3) (only 0x0A abc) (cursor 4 false))), gives 3)
    ∷ (gives (length (key_at_under (most 2) (only 0x0A abc) (cursor 4 false))), gives 0)
    ∷ (given (read_at_under (most 0) regex_of 4), refuses 22 4)
    ∷ (given (read_with_under (most 0) regex_of 4 0x0B), refuses 22 4)
    ∷ (given (read_with_under (most 1) regex_of 4 0x02), refuses 17 4)
    ∷ (gives (le32 (part_at_under (most 1) regex_of 4 0x0B second)), gives 0x69)
    ∷ (gives (length (part_at_under (most 0) regex_of 4 0x0B second)), gives 0)
    -- the key looked up is not limited; a key too long is damage before it, and not seen behind it
    ∷ (given (get_under (most 0) one_null abc), refuses 16 6)
    ∷ (given (get_under (most 2) empty_then_long []), gives 0)
    ∷ (given (get_under (most 2) empty_then_long abc), refuses 22 6)
    ∷ (given (get_under (most 3) empty_then_long abc), gives 0)
    ∷ (given (get_with_under (most 2) empty_then_long abc 0x08), refuses 22 6)
    ∷ (given (get_with_under (most 3) empty_then_long abc 0x08), refuses 17 6)
    ∷ (gives (length (get_bytes_under (most 1) regex_of [])), gives 4)
    ∷ (gives (length (get_bytes_under (most 0) regex_of [])), gives 0)
    ∷ (gives (le32 (get_part_under (most 1) regex_of [] 0x0B first)), gives 0x61)
    ∷ (gives (length (get_part_under (most 0) regex_of [] 0x0B first)), gives 0)
    ∷ []

-- ---- without a limit

abbrev pub abcd : List ℕ
abcd = 0x61 ∷ 0x62 ∷ 0x63 ∷ 0x64 ∷ []

-- a regex of pattern `abcd` and no options, and its document, under the key `abcd`
abbrev pub long_regex : List ℕ
long_regex = abcd ++ (0 ∷ 0 ∷ [])

abbrev pub long_names : List ℕ
long_names = 0x11 ∷ 0 ∷ 0 ∷ 0 ∷ 0x0B ∷ abcd ++ (0 ∷ long_regex ++ (0 ∷ []))

-- "a claim that names no limit means none"
unfoldable pub unlimited_points : List Point
unlimited_points =
    (cstring long_regex, gives 4)
    ∷ (given (pattern_options long_regex), gives 0)
    ∷ (regex_size long_regex, gives 6)
    ∷ (framed as_regex long_regex, gives 6)
    ∷ (value_size 0x0B long_regex, gives 6)
    ∷ (given (element long_names 4), gives 0)
    ∷ (given (step long_names (cursor 4 false)), gives 0)
    ∷ (gives (length (key_at long_names (cursor 4 false))), gives 4)
    ∷ (gives (length (elements (iterate long_names 4))), gives 1)
    ∷ (given (read_at long_names 4), gives 0)
    ∷ (given (read_with long_names 4 0x0B), gives 0)
    ∷ (gives (length (part_at long_names 4 0x0B first)), gives 4)
    ∷ (given (get long_names abcd), gives 0)
    ∷ (gives (length (get_bytes long_names abcd)), gives 6)
    ∷ (given (get_with long_names abcd 0x0B), gives 0)
    ∷ (gives (length (get_part long_names abcd 0x0B first)), gives 4)
    ∷ (check false long_names, gives 1)
    ∷ []
