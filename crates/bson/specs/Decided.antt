-- Points that RULES.md leaves open, as DECISIONS.md settles them, and a zero byte met as a tag, each by bytes that show it.
use Rattle.std.specs.Prelude.{ℕ, ◌≡◌, List, [], ◌∷◌, ◌++◌, true, false, cond, length, get_or, drop, leb}
use Rattle.bson.specs.Answer.{Answer, gives, refuses, then}
use Rattle.bson.specs.Step.{admitted, cursor, step, key_at}
use Rattle.bson.specs.Bytes.{le32, natural, Part}
use Rattle.bson.specs.Value.{first, second, bool, binary_value, value_of, read_at, read_with, part_at}
use Rattle.bson.specs.Vectors.{elem}
use Rattle.bson.specs.Lookup.{get, get_bytes, get_with, typed, get_part, is_empty}
use Rattle.bson.specs.Check.{walk, check}

-- ---- documents

-- an answer of which only the refusal matters
abbrev pub given : {A : Type 0} → Answer A → Answer ℕ
given a = then a λ _. gives 0

abbrev pub empty : List ℕ
empty = 0x05 ∷ 0 ∷ 0 ∷ 0 ∷ 0 ∷ []

-- key `a` twice: false, then true
abbrev pub two_keys : List ℕ
two_keys = 0x0D ∷ 0 ∷ 0 ∷ 0 ∷ 0x08 ∷ 0x61 ∷ 0 ∷ 0 ∷ 0x08 ∷ 0x61 ∷ 0 ∷ 0x01 ∷ 0 ∷ []

-- code with scope of empty code, its scope five bytes of which the first is given
abbrev pub scope_of : ℕ → List ℕ
scope_of n = 0x15 ∷ 0 ∷ 0 ∷ 0 ∷ 0x0F ∷ 0 ∷ 0x0E ∷ 0 ∷ 0 ∷ 0 ∷ 0x01 ∷ 0 ∷ 0 ∷ 0 ∷ 0 ∷ n ∷ 0 ∷ 0 ∷ 0 ∷ 0 ∷ 0 ∷ []

-- a boolean byte of 2
abbrev pub bad_boolean : List ℕ
bad_boolean = 0x08 ∷ 0 ∷ 0 ∷ 0 ∷ 0x08 ∷ 0 ∷ 0x02 ∷ 0 ∷ []

-- binary data of subtype 2, one byte behind its inner length
abbrev pub old_binary : List ℕ
old_binary = 0x11 ∷ 0 ∷ 0 ∷ 0 ∷ 0x05 ∷ 0 ∷ 0x05 ∷ 0 ∷ 0 ∷ 0 ∷ 0x02 ∷ 0x01 ∷ 0 ∷ 0 ∷ 0 ∷ 0xAA ∷ 0 ∷ []

-- a regex of pattern `a` and options `i`
abbrev pub regex_of : List ℕ
regex_of = 0x0B ∷ 0 ∷ 0 ∷ 0 ∷ 0x0B ∷ 0 ∷ 0x61 ∷ 0 ∷ 0x69 ∷ 0 ∷ 0 ∷ []

-- a document of one null, its length 7
abbrev pub one_null : List ℕ
one_null = 0x07 ∷ 0 ∷ 0 ∷ 0 ∷ 0x0A ∷ 0 ∷ 0 ∷ []

-- that document within another, and as the scope of an empty code
abbrev pub null_within : List ℕ
null_within = 0x0E ∷ 0 ∷ 0 ∷ 0 ∷ 0x03 ∷ 0 ∷ one_null ++ (0 ∷ [])

abbrev pub null_in_scope : List ℕ
null_in_scope = 0x17 ∷ 0 ∷ 0 ∷ 0 ∷ 0x0F ∷ 0 ∷ 0x10 ∷ 0 ∷ 0 ∷ 0 ∷ 0x01 ∷ 0 ∷ 0 ∷ 0 ∷ 0 ∷ one_null ++ (0 ∷ [])

-- the plain check of a document whose values have this depth
abbrev pub walk_at : ℕ → List ℕ → Answer ℕ
walk_at depth s = walk false s (record { is_array = false; base = 0; depth = depth })

-- ---- the points

-- what the definition says, and what was settled
abbrev pub Point : Type 0
Point = Answer ℕ × Answer ℕ

-- steps, and `is_empty`
unfoldable pub step_points : List Point
step_points =
    -- admission comes before the ended mark
    (given (step (0x05 ∷ 0 ∷ 0 ∷ 0 ∷ []) (cursor 4 true)), refuses 1 0)
    ∷ (given (step empty (cursor 99 true)), gives 0)
    -- 4 at that very offset, however large
    ∷ (given (step empty (cursor 3 false)), refuses 4 3)
    ∷ (given (step empty (cursor 5 false)), refuses 4 5)
    ∷ (given (read_at empty 0xFFFF_FFFF_FFFF_FFFF), refuses 4 0xFFFF_FFFF_FFFF_FFFF)
    -- the key that a step yields, and none at the terminator
    ∷ (gives (le32 (key_at two_keys (cursor 8 false))), gives 0x61)
    ∷ (gives (length (key_at two_keys (cursor 12 false))), gives 0)
    -- `is_empty`
    ∷ (then (is_empty empty) (λ b. gives (cond b 1 0)), gives 1)
    ∷ (then (is_empty two_keys) (λ b. gives (cond b 1 0)), gives 0)
    ∷ (given (is_empty (0x06 ∷ 0 ∷ 0 ∷ 0 ∷ 0 ∷ [])), refuses 2 0)
    ∷ []

-- readings
unfoldable pub reading_points : List Point
reading_points =
    -- reading at the terminator
    (given (read_at empty 4), refuses 16 4)
    -- the value's refusal comes before 17, in a lookup and in a reading; a value of its tag, and of another
    ∷ (given (get_with bad_boolean [] 0x10), refuses 11 4)
    ∷ (given (read_with bad_boolean 4 0x10), refuses 11 4)
    ∷ (given (read_with two_keys 8 0x08), gives 0)
    ∷ (given (read_with two_keys 8 0x10), refuses 17 8)
    -- an element of the caller's own whose value runs past the slice
    ∷ (given (value_of two_keys (elem 8 0x08 1 1)), gives 0)
    ∷ (given (value_of two_keys (elem 8 0x08 1 3)), refuses 9 8)
    ∷ []

-- lookups
unfoldable pub lookup_points : List Point
lookup_points =
    -- a key with a zero byte, or not UTF-8, matches nothing
    (given (get two_keys (0x61 ∷ 0 ∷ [])), refuses 16 12)
    ∷ (given (get two_keys (0xFF ∷ [])), refuses 16 12)
    -- a typed lookup by the element's tag, another, and one outside the table; the place of 17
    ∷ (given (get_with two_keys (0x61 ∷ []) 0x08), gives 0)
    ∷ (given (get_with two_keys (0x61 ∷ []) 0x10), refuses 17 4)
    ∷ (given (get_with two_keys (0x61 ∷ []) 0x14), refuses 17 4)
    ∷ (given (get_with two_keys (0x62 ∷ []) 0x14), refuses 16 12)
    ∷ []

-- what is handed back
unfoldable pub part_points : List Point
part_points =
    -- the parts of a value; none where its twin refuses
    (gives (le32 (part_at old_binary 4 0x05 first)), gives 0xAA)
    ∷ (gives (length (part_at old_binary 4 0x05 first)), gives 1)
    ∷ (gives (length (part_at old_binary 4 0x02 first)), gives 0)
    ∷ (gives (le32 (part_at regex_of 4 0x0B first)), gives 0x61)
    ∷ (gives (le32 (part_at regex_of 4 0x0B second)), gives 0x69)
    -- what typed getters give: a part, a number
    ∷ (gives (le32 (get_part regex_of [] 0x0B second)), gives 0x69)
    ∷ (gives (length (get_part regex_of [] 0x02 first)), gives 0)
    ∷ (then (typed bool two_keys (0x61 ∷ []) 0x08) (λ b. gives (cond b 1 0)), gives 0)
    -- the framed bytes that a lookup hands back
    ∷ (gives (length (get_bytes old_binary [])), gives 10)
    ∷ []

-- the plain check
unfoldable pub check_points : List Point
check_points =
    -- a zero byte met as a tag is no end: it is in no row of the table
    (check false (0x07 ∷ 0 ∷ 0 ∷ 0 ∷ 0 ∷ 0 ∷ 0 ∷ []), refuses 7 4)
    -- a negative length of an embedded document
    ∷ (check false (0x0B ∷ 0 ∷ 0 ∷ 0 ∷ 0x03 ∷ 0 ∷ 0xFF ∷ 0xFF ∷ 0xFF ∷ 0xFF ∷ 0 ∷ []), refuses 8 4)
    -- data of subtype 2: one byte behind its length, and under four bytes
    ∷ (check false old_binary, gives 1)
    ∷ (check false (0x0F ∷ 0 ∷ 0 ∷ 0 ∷ 0x05 ∷ 0 ∷ 0x03 ∷ 0 ∷ 0 ∷ 0 ∷ 0x02 ∷ 0 ∷ 0 ∷ 0 ∷ 0 ∷ []), refuses 12 4)
    ∷ []

-- scopes and documents inside
unfoldable pub scope_points : List Point
scope_points =
    -- values inside a scope are counted
    (check false null_in_scope, gives 2)
    -- bad code text and bad scope: the order of the text
    ∷ (check false (0x15 ∷ 0 ∷ 0 ∷ 0 ∷ 0x0F ∷ 0 ∷ 0x0E ∷ 0 ∷ 0 ∷ 0 ∷ 0x02 ∷ 0 ∷ 0 ∷ 0 ∷ 0xFF ∷ 0 ∷ 0 ∷ 0 ∷ 0 ∷ 0 ∷ 0 ∷ []), refuses 6 4)
    -- a scope's own 2 stands at the tag byte
    ∷ (check false (scope_of 5), gives 1)
    ∷ (check false (scope_of 6), refuses 2 4)
    -- places in nested documents count in the outermost slice
    ∷ (check false (0x0E ∷ 0 ∷ 0 ∷ 0 ∷ 0x03 ∷ 0 ∷ 0x07 ∷ 0 ∷ 0 ∷ 0 ∷ 0x14 ∷ 0 ∷ 0 ∷ 0 ∷ []), refuses 7 10)
    -- P5 inside another, whose own iteration ends at 16
    ∷ (check false (0x11 ∷ 0 ∷ 0 ∷ 0 ∷ 0x03 ∷ 0 ∷ 0x0A ∷ 0 ∷ 0 ∷ 0 ∷ 0x10 ∷ 0 ∷ 0x07 ∷ 0 ∷ 0 ∷ 0 ∷ 0 ∷ []), refuses 4 16)
    ∷ []

-- depth
unfoldable pub depth_points : List Point
depth_points =
    -- a value of depth 200, and of 201; inside a document one level deeper, inside a scope two
    (walk_at 200 one_null, gives 1)
    ∷ (walk_at 201 one_null, refuses 13 4)
    ∷ (walk_at 199 null_within, gives 2)
    ∷ (walk_at 200 null_within, refuses 13 10)
    ∷ (walk_at 198 null_in_scope, gives 2)
    ∷ (walk_at 199 null_in_scope, refuses 13 19)
    -- reading comes before the depth, and an empty document may lie deeper
    ∷ (walk_at 201 bad_boolean, refuses 11 4)
    ∷ (walk_at 202 empty, gives 0)
    ∷ []

-- ---- what no bytes can show

-- a negative length, also where there are as many bytes as its bits say: of a document 2, inside data of subtype 2 12
pub record NegativeRefused : Type 0 where
  pub document : (s : List ℕ) → leb 5 (length s) ≡ true → natural (le32 s) ≡ false → admitted s ≡ refuses 2 0
  pub inner : (v : List ℕ) (p : Part) → get_or v 4 0 ≡ 2 → natural (le32 (drop 5 v)) ≡ false → binary_value v p ≡ refuses 12 0

-- ---- points that hold

-- points of whatever kind hold
abbrev pub said_of : {A : Type 0} → List (A × A) → List A
said_of [] = []
said_of (p ∷ ps) = p.0 ∷ said_of ps

abbrev pub settled_of : {A : Type 0} → List (A × A) → List A
settled_of [] = []
settled_of (p ∷ ps) = p.1 ∷ settled_of ps

abbrev pub Hold : {A : Type 0} → List (A × A) → Type 0
Hold points = said_of points ≡ settled_of points
