-- Zero-ended texts: keys, patterns and options (RULES.md, modules 1 and 2; BSON 1.1, `cstring`).
use Rattle.std.specs.Prelude.{ℕ, suc, ◌+◌, List, [], ◌∷◌, Bool, cond, ◌&&◌, length, take, ltb, eqb}
use Rattle.bson.specs.Answer.{Answer, gives, unless}
use Rattle.bson.specs.Utf8.{utf8}

-- how many bytes stand before the first that passes a test; all of them where none does
abbrev pub before : (ℕ → Bool) → List ℕ → ℕ
before test [] = 0
before test (b ∷ v) = cond (test b) 0 (suc (before test v))

abbrev pub is_zero : ℕ → Bool
is_zero b = eqb b 0

abbrev pub first_zero : List ℕ → ℕ
first_zero v = before is_zero v

-- a ceiling on zero-ended texts, `max_cstr_parse_len`: none, or the most bytes that one may have (RULES.md, request 2)
pub data Limit : Type 0 where
  unlimited : Limit
  most : ℕ → Limit

-- the size of the text in front of a zero: without a zero byte this number, "not UTF-8" 6
unfoldable pub zero_text : ℕ → List ℕ → Answer ℕ
zero_text number v =
    unless (ltb (first_zero v) (length v)) number
    (unless (utf8 (take (first_zero v) v)) 6
    (gives (first_zero v)))

-- "the answer depends on the first m + 1 bytes of the rest alone"
abbrev pub seen : Limit → List ℕ → List ℕ
seen unlimited v = v
seen (most m) v = take (m + 1) v

-- "22 in the place of 5 whenever a limit is set"
abbrev pub missing : Limit → ℕ
missing unlimited = 5
missing (most m) = 22

unfoldable pub cstring_under : Limit → List ℕ → Answer ℕ
cstring_under limit v = zero_text (missing limit) (seen limit v)

-- "a claim that names no limit means none"
abbrev pub cstring : List ℕ → Answer ℕ
cstring v = cstring_under unlimited v

-- a valid key, pattern or options: UTF-8 and no zero byte
unfoldable pub valid_cstr : List ℕ → Bool
valid_cstr k = eqb (first_zero k) (length k) && utf8 k
