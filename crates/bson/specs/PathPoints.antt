-- Where a path leads, how what is found lies in the slice given, and what is refused on the way (RULES.md, request 1), each by bytes that
-- show it.
use Rattle.std.specs.Prelude.{ℕ, List, [], ◌∷◌, ◌++◌, true, length, replicate, pos, negsuc}
use Rattle.bson.specs.Answer.{gives, refuses, then}
use Rattle.bson.specs.Bytes.{part}
use Rattle.bson.specs.Cstring.{Limit, unlimited, most}
use Rattle.bson.specs.Value.{boolean, int32, int64, date_time, double, timestamp, object_id, decimal128, string, code, symbol}
use Rattle.bson.specs.Value.{null, undefined, min_key, max_key, db_pointer, binary, regex, leaf, document, array, code_with_scope}
use Rattle.bson.specs.Value.{parts_of}
use Rattle.bson.specs.Path.{keys_of, get_path_under, get_path_bytes_under, get_path_with_under, get_path, get_path_bytes, get_path_with}
use Rattle.bson.specs.Grammar.{element_bytes, document_of}
use Rattle.bson.specs.Vectors.{elem}
use Rattle.bson.specs.Decided.{Point, given, empty, bad_boolean, one_null, null_within, null_in_scope}
use Rattle.bson.specs.TypePoints.{Reading, plain, one, two}
use Rattle.bson.specs.LookupPoints.{other_key, swallowed, unknown}
use Rattle.bson.specs.LimitPoints.{abc, abcd, holding, long_names}
use Rattle.bson.specs.StrictPoints.{nulls, array_of, zeroth, first}
use Rattle.bson.specs.ReachPoints.{key_a}

-- ---- the keys of a path

abbrev pub key_b : List ℕ
key_b = 0x62 ∷ []

-- paths of the keys `a`, `b`, `z` and `0`
abbrev pub ab : List ℕ
ab = 0x61 ∷ 0 ∷ 0x62 ∷ []

abbrev pub az : List ℕ
az = 0x61 ∷ 0 ∷ 0x7A ∷ []

abbrev pub abz : List ℕ
abz = 0x61 ∷ 0 ∷ 0x62 ∷ 0 ∷ 0x7A ∷ []

abbrev pub ab0 : List ℕ
ab0 = 0x61 ∷ 0 ∷ 0x62 ∷ 0 ∷ 0x30 ∷ []

-- "keys with a zero byte between them": one more than zero bytes, be they empty
unfoldable pub split_points : List ((List ℕ × List (List ℕ)) × (List ℕ × List (List ℕ)))
split_points =
    (keys_of [], ([], []))
    ∷ (keys_of abc, (abc, []))
    ∷ (keys_of ab, (key_a, key_b ∷ []))
    ∷ (keys_of abz, (key_a, key_b ∷ other_key ∷ []))
    -- in front, at the end, and doubled
    ∷ (keys_of (0 ∷ []), ([], [] ∷ []))
    ∷ (keys_of (0 ∷ 0x61 ∷ []), ([], key_a ∷ []))
    ∷ (keys_of (0x61 ∷ 0 ∷ []), (key_a, [] ∷ []))
    ∷ (keys_of (0x61 ∷ 0 ∷ 0 ∷ 0x62 ∷ []), (key_a, [] ∷ key_b ∷ []))
    ∷ (keys_of (0 ∷ 0 ∷ []), ([], [] ∷ [] ∷ []))
    ∷ []

-- ---- documents

-- an int32 under `b`
abbrev pub number : ℕ → List ℕ
number n = element_bytes 0x10 key_b (n ∷ 0 ∷ 0 ∷ 0 ∷ [])

-- these elements in a document under `a`: it begins at 7, its first element at 11
abbrev pub under : List ℕ → List ℕ
under list = element_bytes 0x03 key_a (document_of list)

-- one value alone there, under `b`: the value begins at 14
abbrev pub inside : ℕ → List ℕ → List ℕ
inside tag value = document_of (under (element_bytes tag key_b value))

-- the number 7 there: the document inside has its terminator at 18, the whole at 19
abbrev pub seven : List ℕ
seven = document_of (under (number 7))

-- the text `a`, framed
abbrev pub letter : List ℕ
letter = 0x02 ∷ 0 ∷ 0 ∷ 0 ∷ 0x61 ∷ 0 ∷ []

-- a null at 4; behind it a document from 10; in that an array from 17 to 30; in that a text at 21
abbrev pub deep : List ℕ
deep = document_of (nulls (other_key ∷ []) ++ under (array_of key_b (element_bytes 0x02 zeroth letter)))

-- an array under `a` of nulls under `1` and `0`, and of a number under `10`
abbrev pub keyed : List ℕ
keyed = document_of (array_of key_a (nulls (first ∷ zeroth ∷ []) ++ element_bytes 0x10 (0x31 ∷ 0x30 ∷ []) (0x07 ∷ 0 ∷ 0 ∷ 0 ∷ [])))

-- two documents under `a`: the first has two numbers under `b`, and its terminator at 25; the second alone has `z`
abbrev pub repeated : List ℕ
repeated = document_of (under (number 1 ++ number 2) ++ under (nulls (other_key ∷ [])))

-- code of no letter whose scope holds a null
abbrev pub null_scope : List ℕ
null_scope = 0x10 ∷ 0 ∷ 0 ∷ 0 ∷ 0x01 ∷ 0 ∷ 0 ∷ 0 ∷ 0 ∷ one_null

-- a regex of pattern `a` and options `im`, and a DBPointer of namespace `a`
abbrev pub pattern : List ℕ
pattern = 0x61 ∷ 0 ∷ 0x69 ∷ 0x6D ∷ 0 ∷ []

abbrev pub pointer : List ℕ
pointer = letter ++ replicate 12 0x01

-- ---- what is found

-- the element and the value, and the value's parts
abbrev pub reached : Limit → List ℕ → List ℕ → Reading
reached limit s path = then (get_path_under limit s path) λ f. gives (f, parts_of f.value)

abbrev pub reached_with : Limit → List ℕ → List ℕ → ℕ → Reading
reached_with limit s path tag = then (get_path_with_under limit s path tag) λ f. gives (f, parts_of f.value)

-- a null, or the number 7, whose key has so many bytes
abbrev pub null_at : ℕ → ℕ → Reading
null_at place k = gives (record { element = elem place 0x0A k 0; value = leaf null }, (part 0 0, part 0 0))

abbrev pub seven_at : ℕ → ℕ → Reading
seven_at place k = gives (record { element = elem place 0x10 k 4; value = leaf (int32 (pos 7)) }, (part 0 0, part 0 0))

-- "one key is used up at each level"
unfoldable pub level_points : List (Reading × Reading)
level_points =
    -- one key is a lookup; what it finds is not entered
    (reached unlimited (document_of (number 7)) key_b, seven_at 4 1)
    ∷ (reached unlimited seven key_a, one 4 0x03 12 document (part 7 12))
    ∷ (reached unlimited seven ab, seven_at 11 1)
    -- "The empty path is the one empty key"
    ∷ (reached unlimited one_null [], null_at 4 0)
    ∷ (reached unlimited null_within (0 ∷ []), null_at 10 0)
    ∷ []

-- in an array too by the key, and not by where an element stands
unfoldable pub array_points : List (Reading × Reading)
array_points =
    (reached unlimited keyed (0x61 ∷ 0 ∷ 0x31 ∷ []), null_at 11 1)
    ∷ (reached unlimited keyed (0x61 ∷ 0 ∷ 0x30 ∷ []), null_at 14 1)
    ∷ (reached unlimited keyed (0x61 ∷ 0 ∷ 0x31 ∷ 0x30 ∷ []), seven_at 17 2)
    ∷ []

-- each level lies in the one before it
unfoldable pub deep_points : List (Reading × Reading)
deep_points =
    (reached unlimited deep ab, one 14 0x04 14 array (part 17 14))
    ∷ (reached unlimited deep ab0, one 21 0x02 6 (λ p. leaf (string p)) (part 28 1))
    ∷ []

-- each type as the last value of a document inside, its parts by offsets of the slice given; numbers stay
unfoldable pub number_points : List (Reading × Reading)
number_points =
    (reached unlimited (inside 0x01 (replicate 8 0x01)) ab, plain 11 0x01 8 (double 0x0101_0101_0101_0101))
    ∷ (reached unlimited (inside 0x08 (0x01 ∷ [])) ab, plain 11 0x08 1 (boolean true))
    ∷ (reached unlimited (inside 0x09 (replicate 8 0xFF)) ab, plain 11 0x09 8 (date_time (negsuc 0)))
    ∷ (reached unlimited (inside 0x10 (replicate 4 0xFF)) ab, plain 11 0x10 4 (int32 (negsuc 0)))
    ∷ (reached unlimited (inside 0x11 (replicate 4 0x01 ++ replicate 4 0x02)) ab, plain 11 0x11 8 (timestamp 0x0101_0101 0x0202_0202))
    ∷ (reached unlimited (inside 0x12 (replicate 8 0x01)) ab, plain 11 0x12 8 (int64 (pos 0x0101_0101_0101_0101)))
    ∷ []

-- values of no bytes, and those that are one part as a whole
unfoldable pub whole_points : List (Reading × Reading)
whole_points =
    (reached unlimited (inside 0x06 []) ab, plain 11 0x06 0 undefined)
    ∷ (reached unlimited (inside 0x0A []) ab, plain 11 0x0A 0 null)
    ∷ (reached unlimited (inside 0x7F []) ab, plain 11 0x7F 0 max_key)
    ∷ (reached unlimited (inside 0xFF []) ab, plain 11 0xFF 0 min_key)
    ∷ (reached unlimited (inside 0x03 empty) ab, one 11 0x03 5 document (part 14 5))
    ∷ (reached unlimited (inside 0x04 empty) ab, one 11 0x04 5 array (part 14 5))
    ∷ (reached unlimited (inside 0x07 (replicate 12 0x01)) ab, one 11 0x07 12 (λ p. leaf (object_id p)) (part 14 12))
    ∷ (reached unlimited (inside 0x13 (replicate 16 0x01)) ab, one 11 0x13 16 (λ p. leaf (decimal128 p)) (part 14 16))
    ∷ []

-- one part, behind a length
unfoldable pub part_points : List (Reading × Reading)
part_points =
    (reached unlimited (inside 0x02 letter) ab, one 11 0x02 6 (λ p. leaf (string p)) (part 18 1))
    ∷ (reached unlimited (inside 0x0D letter) ab, one 11 0x0D 6 (λ p. leaf (code p)) (part 18 1))
    ∷ (reached unlimited (inside 0x0E letter) ab, one 11 0x0E 6 (λ p. leaf (symbol p)) (part 18 1))
    ∷ (reached unlimited (inside 0x05 (0x01 ∷ 0 ∷ 0 ∷ 0 ∷ 0x80 ∷ 0xAA ∷ [])) ab, one 11 0x05 6 (λ p. leaf (binary 0x80 p)) (part 19 1))
    ∷ []

-- two parts, in the order in which they lie
unfoldable pub two_points : List (Reading × Reading)
two_points =
    (reached unlimited (inside 0x0B pattern) ab, two 11 0x0B 5 (λ p o. leaf (regex p o)) (part 14 1) (part 16 2))
    ∷ (reached unlimited (inside 0x0C pointer) ab, two 11 0x0C 18 (λ t i. leaf (db_pointer t i)) (part 18 1) (part 20 12))
    ∷ (reached unlimited (inside 0x0F (0x0F ∷ 0 ∷ 0 ∷ 0 ∷ letter ++ empty)) ab, two 11 0x0F 15 code_with_scope (part 22 1) (part 24 5))
    ∷ []

-- ---- what is refused

-- "for 16 the terminator of the document searched"
unfoldable pub absent_points : List (Reading × Reading)
absent_points =
    (reached unlimited seven other_key, refuses 16 19)
    ∷ (reached unlimited seven (0x7A ∷ 0 ∷ 0x62 ∷ []), refuses 16 19)
    ∷ (reached unlimited seven az, refuses 16 18)
    ∷ (reached unlimited seven (0x61 ∷ 0 ∷ []), refuses 16 18)
    ∷ []

-- 17 at the tag byte of what can't be entered: a number, a text, a code with scope, at the top and inside
unfoldable pub entered_points : List (Reading × Reading)
entered_points =
    (reached unlimited (document_of (number 7)) (0x62 ∷ 0 ∷ 0x61 ∷ []), refuses 17 4)
    ∷ (reached unlimited seven abz, refuses 17 11)
    ∷ (reached unlimited (inside 0x02 letter) abz, refuses 17 11)
    ∷ (reached unlimited null_in_scope (0 ∷ []), refuses 17 4)
    ∷ (reached unlimited (inside 0x0F null_scope) (ab ++ (0 ∷ [])), refuses 17 11)
    ∷ []

-- 16 and 17 two levels down
unfoldable pub deeper_points : List (Reading × Reading)
deeper_points =
    (reached unlimited deep abz, refuses 16 30)
    ∷ (reached unlimited deep (ab0 ++ (0 ∷ [])), refuses 17 21)
    ∷ []

-- what a value refuses itself, where it is found, and on the way before 17
unfoldable pub own_points : List (Reading × Reading)
own_points =
    (reached unlimited bad_boolean (0 ∷ []), refuses 11 4)
    ∷ (reached unlimited (inside 0x08 (0x02 ∷ [])) ab, refuses 11 11)
    ∷ (reached unlimited (inside 0x08 (0x02 ∷ [])) abz, refuses 11 11)
    ∷ []

-- damage on the way is returned
unfoldable pub damage_points : List (Reading × Reading)
damage_points =
    -- "for 1 to 3 of the given slice, 0"
    (reached unlimited (0x05 ∷ 0 ∷ 0 ∷ 0 ∷ []) ab, refuses 1 0)
    ∷ (reached unlimited (0x06 ∷ 0 ∷ 0 ∷ 0 ∷ 0 ∷ []) ab, refuses 2 0)
    ∷ (reached unlimited (0x05 ∷ 0 ∷ 0 ∷ 0 ∷ 0x01 ∷ []) ab, refuses 3 0)
    -- before the match, at the top and inside
    ∷ (reached unlimited (document_of (unknown ++ under (number 7))) ab, refuses 7 4)
    ∷ (reached unlimited (document_of (under (unknown ++ number 7))) ab, refuses 7 11)
    -- a document inside has its own end: a number that needs a byte of the one around it, and P5, whose next step is past that end
    ∷ (reached unlimited (inside 0x10 (0x07 ∷ 0 ∷ [])) ab, refuses 9 11)
    ∷ (reached unlimited (document_of (element_bytes 0x03 [] swallowed)) (0 ∷ 0x61 ∷ []), refuses 4 16)
    ∷ []

-- "by first match": what lies behind it at its level, damage or another of its key, is not seen
unfoldable pub behind_points : List (Reading × Reading)
behind_points =
    (reached unlimited repeated ab, plain 11 0x10 4 (int32 (pos 1)))
    ∷ (reached unlimited repeated az, refuses 16 25)
    ∷ (reached unlimited (document_of (under (number 7 ++ unknown) ++ unknown)) ab, seven_at 11 1)
    -- no match inside: the damage, and not 16
    ∷ (reached unlimited (document_of (under (number 7 ++ unknown) ++ unknown)) az, refuses 7 18)
    -- what is found is not looked into
    ∷ (reached unlimited (document_of (under unknown)) key_a, one 4 0x03 8 document (part 7 8))
    ∷ []

-- "a path of more than 201 keys is refused before the document is looked at": keys and not bytes are counted
unfoldable pub count_points : List Point
count_points =
    (given (get_path_under unlimited empty (replicate 201 0)), refuses 21 0)
    ∷ (given (get_path_under unlimited [] (replicate 201 0)), refuses 21 0)
    ∷ (given (get_path_under (most 0) [] (replicate 201 0)), refuses 21 0)
    ∷ (given (get_path_with_under unlimited [] (replicate 201 0) 0x10), refuses 21 0)
    ∷ (given (get_path_under unlimited [] (replicate 200 0)), refuses 1 0)
    ∷ (given (get_path_under unlimited empty (replicate 200 0)), refuses 16 4)
    ∷ (given (get_path_under unlimited empty (replicate 202 0x61)), refuses 16 4)
    ∷ []

-- ---- typed, and what is handed back

-- "the value's refusal, then 17"
unfoldable pub typed_points : List (Reading × Reading)
typed_points =
    (reached_with unlimited seven ab 0x10, seven_at 11 1)
    ∷ (reached_with unlimited seven ab 0x12, refuses 17 11)
    ∷ (reached_with unlimited seven key_a 0x10, refuses 17 4)
    ∷ (reached_with unlimited (inside 0x08 (0x02 ∷ [])) ab 0x10, refuses 11 11)
    ∷ (reached_with unlimited seven az 0x10, refuses 16 18)
    -- a value on the way that has the type asked for
    ∷ (reached_with unlimited seven abz 0x10, refuses 17 11)
    ∷ []

-- the framed bytes
unfoldable pub framed_points : List (List ℕ × List ℕ)
framed_points =
    (get_path_bytes_under unlimited seven ab, 0x07 ∷ 0 ∷ 0 ∷ 0 ∷ [])
    ∷ (get_path_bytes_under unlimited (inside 0x03 one_null) ab, one_null)
    ∷ (get_path_bytes_under unlimited deep ab0, letter)
    ∷ (get_path_bytes_under (most 2) (inside 0x0B pattern) ab, pattern)
    ∷ []

-- none where the twin refuses
unfoldable pub none_points : List (List ℕ × List ℕ)
none_points =
    (get_path_bytes_under unlimited seven az, [])
    ∷ (get_path_bytes_under unlimited seven abz, [])
    ∷ (get_path_bytes_under unlimited (inside 0x08 (0x02 ∷ [])) ab, [])
    ∷ (get_path_bytes_under (most 1) (inside 0x0B pattern) ab, [])
    ∷ []

-- ---- under a limit, and without one

-- the same limit at every level
unfoldable pub limit_points : List (Reading × Reading)
limit_points =
    (reached (most 3) (holding 0x03 abc) (0 ∷ abc), null_at 10 3)
    ∷ (reached (most 2) (holding 0x03 abc) (0 ∷ abc), refuses 22 10)
    ∷ (reached (most 2) (document_of (element_bytes 0x03 abc one_null)) (abc ++ (0 ∷ [])), refuses 22 4)
    ∷ (reached (most 2) (document_of (element_bytes 0x03 [] (holding 0x04 abc))) (0 ∷ 0 ∷ abc), refuses 22 16)
    -- the keys of the path have none
    ∷ (reached (most 0) null_within abc, refuses 16 13)
    ∷ (reached (most 0) null_within (0 ∷ abc), refuses 16 12)
    -- before 17, as damage
    ∷ (reached_with (most 1) (inside 0x0B pattern) ab 0x02, refuses 22 11)
    ∷ []

-- a key and a pattern of four bytes, inside
abbrev pub long_inside : List ℕ
long_inside = document_of (element_bytes 0x03 key_a long_names)

abbrev pub long_path : List ℕ
long_path = 0x61 ∷ 0 ∷ abcd

-- "a claim that names no limit means none"
unfoldable pub unlimited_points : List Point
unlimited_points =
    (given (get_path long_inside long_path), gives 0)
    ∷ (gives (length (get_path_bytes long_inside long_path)), gives 6)
    ∷ (given (get_path_with long_inside long_path 0x0B), gives 0)
    ∷ []
