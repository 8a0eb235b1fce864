-- Which keys of arrays the strict check takes, and where it asks for them (RULES.md, request 3), each by bytes that show it.
use Rattle.std.specs.Prelude.{ℕ, ◌+◌, List, [], ◌∷◌, ◌++◌, true, false, length}
use Rattle.bson.specs.Answer.{Answer, gives, refuses}
use Rattle.bson.specs.Check.{walk, check}
use Rattle.bson.specs.Grammar.{element_bytes, document_of}
use Rattle.bson.specs.Decided.{Point}

-- ---- documents

-- nulls under these keys
abbrev pub nulls : List (List ℕ) → List ℕ
nulls [] = []
nulls (key ∷ keys) = element_bytes 0x0A key [] ++ nulls keys

-- an array of these elements, and code of no letter with this scope
abbrev pub array_of : List ℕ → List ℕ → List ℕ
array_of key body = element_bytes 0x04 key (document_of body)

abbrev pub scope_with : List ℕ → List ℕ → List ℕ
scope_with key body = element_bytes 0x0F key ((length body + 14) ∷ 0 ∷ 0 ∷ 0 ∷ 0x01 ∷ 0 ∷ 0 ∷ 0 ∷ 0 ∷ document_of body)

-- the keys `0`, `1`, `7` and `a`
abbrev pub zeroth : List ℕ
zeroth = 0x30 ∷ []

abbrev pub first : List ℕ
first = 0x31 ∷ []

abbrev pub seventh : List ℕ
seventh = 0x37 ∷ []

abbrev pub letter : List ℕ
letter = 0x61 ∷ []

-- the first ten positions
abbrev pub ten_keys : List (List ℕ)
ten_keys =
    zeroth ∷ first ∷ (0x32 ∷ []) ∷ (0x33 ∷ []) ∷ (0x34 ∷ []) ∷ (0x35 ∷ []) ∷ (0x36 ∷ []) ∷ seventh ∷ (0x38 ∷ []) ∷ (0x39 ∷ []) ∷ []

-- the strict check of a document that has one array, under the key `a`: its first element stands at 11
abbrev pub strict_of : List ℕ → Answer ℕ
strict_of body = check true (document_of (array_of letter body))

-- ---- keys

unfoldable pub key_points : List Point
key_points =
    -- 0, 0, 7: the second differs; the plain check asks for none
    (strict_of (nulls (zeroth ∷ zeroth ∷ seventh ∷ [])), refuses 19 14)
    ∷ (check false (document_of (array_of letter (nulls (zeroth ∷ zeroth ∷ seventh ∷ [])))), gives 4)
    -- no element; 0, 1
    ∷ (strict_of [], gives 1)
    ∷ (strict_of (nulls (zeroth ∷ first ∷ [])), gives 3)
    -- from 1; a zero in front, of the first and of the second; a sign; no byte; what comes before the digits
    ∷ (strict_of (nulls (first ∷ [])), refuses 19 11)
    ∷ (strict_of (nulls ((0x30 ∷ 0x30 ∷ []) ∷ [])), refuses 19 11)
    ∷ (strict_of (nulls (zeroth ∷ (0x30 ∷ 0x31 ∷ []) ∷ [])), refuses 19 14)
    ∷ (strict_of (nulls ((0x2B ∷ 0x30 ∷ []) ∷ [])), refuses 19 11)
    ∷ (strict_of (nulls ([] ∷ [])), refuses 19 11)
    ∷ (strict_of (nulls ((0x2F ∷ []) ∷ [])), refuses 19 11)
    ∷ []

-- behind 9 comes 10, and not what comes behind the digits, one digit of it, one digit more, or another in either place
unfoldable pub tenth_points : List Point
tenth_points =
    (strict_of (nulls (ten_keys ++ ((0x31 ∷ 0x30 ∷ []) ∷ []))), gives 12)
    ∷ (strict_of (nulls (ten_keys ++ ((0x3A ∷ []) ∷ []))), refuses 19 41)
    ∷ (strict_of (nulls (ten_keys ++ (zeroth ∷ []))), refuses 19 41)
    ∷ (strict_of (nulls (ten_keys ++ ((0x31 ∷ 0x30 ∷ 0x30 ∷ []) ∷ []))), refuses 19 41)
    ∷ (strict_of (nulls (ten_keys ++ ((0x31 ∷ 0x31 ∷ []) ∷ []))), refuses 19 41)
    ∷ (strict_of (nulls (ten_keys ++ ((0x32 ∷ 0x30 ∷ []) ∷ []))), refuses 19 41)
    ∷ []

-- ---- levels

unfoldable pub level_points : List Point
level_points =
    -- in an array within an array the positions begin anew, and places count in the outermost slice
    (strict_of (nulls (zeroth ∷ []) ++ array_of first (nulls (zeroth ∷ []))), gives 4)
    ∷ (strict_of (nulls (zeroth ∷ []) ++ array_of first (nulls (first ∷ []))), refuses 19 21)
    -- and behind it they go on
    ∷ (strict_of (array_of zeroth (nulls (zeroth ∷ [])) ++ nulls (first ∷ [])), gives 4)
    ∷ (strict_of (array_of zeroth (nulls (zeroth ∷ [])) ++ nulls (zeroth ∷ [])), refuses 19 22)
    -- never of a document or a scope, be it in an array; of an array in a scope in an array
    ∷ (strict_of (element_bytes 0x03 zeroth (document_of (nulls (seventh ∷ [])))), gives 3)
    ∷ (strict_of (scope_with zeroth (nulls (seventh ∷ []))), gives 3)
    ∷ (strict_of (scope_with zeroth (array_of letter (nulls (zeroth ∷ [])))), gives 4)
    ∷ (strict_of (scope_with zeroth (array_of letter (nulls (first ∷ [])))), refuses 19 34)
    ∷ []

-- ---- the order of refusals

-- the strict walk of an array whose values lie at this depth
abbrev pub strict_at : ℕ → List ℕ → Answer ℕ
strict_at depth body = walk true (document_of body) (record { is_array = true; base = 0; depth = depth })

unfoldable pub order_points : List Point
order_points =
    -- behind the step: a key that is no UTF-8, a tag in no row, a value that is cut
    (strict_of (element_bytes 0x0A (0xFF ∷ []) []), refuses 6 11)
    ∷ (strict_of (element_bytes 0x14 letter []), refuses 7 11)
    ∷ (strict_of (element_bytes 0x10 letter []), refuses 9 11)
    -- before the reading, here of a boolean of 2, and before the depth
    ∷ (strict_of (element_bytes 0x08 letter (0x02 ∷ [])), refuses 19 11)
    ∷ (strict_of (element_bytes 0x08 zeroth (0x02 ∷ [])), refuses 11 11)
    ∷ (strict_at 201 (nulls (letter ∷ [])), refuses 19 4)
    ∷ (strict_at 201 (nulls (zeroth ∷ [])), refuses 13 4)
    ∷ []
