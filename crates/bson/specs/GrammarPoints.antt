-- The bytes, the count, the depth, the keys and the texts of trees, each by a tree that shows it: the examples of BSON 1.1
-- ("Specification"), and a code with scope (RULES.md, "The whole check").
use Rattle.std.specs.Prelude.{ℕ, ◌≡◌, List, [], ◌∷◌, false, pos}
use Rattle.bson.specs.Value.{int32, double, string, null}
use Rattle.bson.specs.Grammar.{array, Nest, embedded, scope, nest_good, Elements, none, leaf, nest, tree_bytes, size, Shallow, Numbered}

-- {"hello": "world"}
abbrev pub hello : Elements
hello = leaf (0x68 ∷ 0x65 ∷ 0x6C ∷ 0x6C ∷ 0x6F ∷ []) (string (0x77 ∷ 0x6F ∷ 0x72 ∷ 0x6C ∷ 0x64 ∷ [])) none

-- {"BSON": ["awesome", 5.05, 1986]}
abbrev pub awesome : Elements
awesome =
    nest (embedded array) (0x42 ∷ 0x53 ∷ 0x4F ∷ 0x4E ∷ [])
    (leaf (0x30 ∷ []) (string (0x61 ∷ 0x77 ∷ 0x65 ∷ 0x73 ∷ 0x6F ∷ 0x6D ∷ 0x65 ∷ []))
    (leaf (0x31 ∷ []) (double 0x4014_3333_3333_3333)
    (leaf (0x32 ∷ []) (int32 (pos 1986)) none)))
    none

-- the code `abcd`, in its scope an x of 1
abbrev pub scoped : Elements
scoped = nest (scope (0x61 ∷ 0x62 ∷ 0x63 ∷ 0x64 ∷ [])) (0x61 ∷ []) (leaf (0x78 ∷ []) (int32 (pos 1)) none) none

abbrev pub bytes_of : List Elements → List (List ℕ)
bytes_of [] = []
bytes_of (t ∷ ts) = tree_bytes t ∷ bytes_of ts

-- their bytes, as BSON 1.1 writes them out; those of the code are counted by hand: 4 + 9 + 12, and 4 + 3 + 25 + 1 for the whole
unfoldable pub written : List (List ℕ)
written =
    (0x16 ∷ 0 ∷ 0 ∷ 0 ∷ 0x02 ∷ 0x68 ∷ 0x65 ∷ 0x6C ∷ 0x6C ∷ 0x6F ∷ 0 ∷ 0x06 ∷ 0 ∷ 0 ∷ 0 ∷ 0x77 ∷ 0x6F ∷ 0x72 ∷ 0x6C ∷ 0x64 ∷ 0 ∷ 0 ∷ [])
    ∷ (
    0x31 ∷ 0 ∷ 0 ∷ 0 ∷ 0x04 ∷ 0x42 ∷ 0x53 ∷ 0x4F ∷ 0x4E ∷ 0 ∷ 0x26 ∷ 0 ∷ 0 ∷ 0
    ∷ 0x02 ∷ 0x30 ∷ 0 ∷ 0x08 ∷ 0 ∷ 0 ∷ 0 ∷ 0x61 ∷ 0x77 ∷ 0x65 ∷ 0x73 ∷ 0x6F ∷ 0x6D ∷ 0x65 ∷ 0
    ∷ 0x01 ∷ 0x31 ∷ 0 ∷ 0x33 ∷ 0x33 ∷ 0x33 ∷ 0x33 ∷ 0x33 ∷ 0x33 ∷ 0x14 ∷ 0x40
    ∷ 0x10 ∷ 0x32 ∷ 0 ∷ 0xC2 ∷ 0x07 ∷ 0 ∷ 0 ∷ 0 ∷ 0 ∷ []
    )
    ∷ (
    0x21 ∷ 0 ∷ 0 ∷ 0 ∷ 0x0F ∷ 0x61 ∷ 0 ∷ 0x19 ∷ 0 ∷ 0 ∷ 0 ∷ 0x05 ∷ 0 ∷ 0 ∷ 0 ∷ 0x61 ∷ 0x62 ∷ 0x63 ∷ 0x64 ∷ 0
    ∷ 0x0C ∷ 0 ∷ 0 ∷ 0 ∷ 0x10 ∷ 0x78 ∷ 0 ∷ 0x01 ∷ 0 ∷ 0 ∷ 0 ∷ 0 ∷ 0 ∷ []
    )
    ∷ []

abbrev pub sizes_of : List Elements → List ℕ
sizes_of [] = []
sizes_of (t ∷ ts) = size t ∷ sizes_of ts

-- one value in what holds a document
abbrev pub holding_null : Nest → Elements
holding_null n = nest n [] (leaf [] null none) none

-- an array of a null under a key, and of what comes behind it
abbrev pub array_keyed : List ℕ → Elements → Elements
array_keyed key rest = nest (embedded array) [] (leaf key null rest) none

pub record GrammarPoints : Type 0 where
  pub bytes : bytes_of (hello ∷ awesome ∷ scoped ∷ []) ≡ written
  -- a value that holds others is one too
  pub sizes : sizes_of (hello ∷ awesome ∷ scoped ∷ []) ≡ 1 ∷ 4 ∷ 2 ∷ []
  -- "inside documents and arrays one more, inside a scope two more"; a value at 200 passes, one at 201 is too deep
  pub array_at_199 : Shallow 199 (holding_null (embedded array))
  pub array_at_200 : Shallow 200 (holding_null (embedded array)) → ⊥
  pub scope_at_198 : Shallow 198 (holding_null (scope []))
  pub scope_at_199 : Shallow 199 (holding_null (scope [])) → ⊥
  -- "0, 1, 2 on in decimal" are the keys of an array; those of a document or a scope are any
  pub numbered : Numbered false 0 awesome
  pub from_1 : Numbered false 0 (array_keyed (0x31 ∷ []) (leaf (0x32 ∷ []) null none)) → ⊥
  pub repeated : Numbered false 0 (array_keyed (0x30 ∷ []) (leaf (0x30 ∷ []) null none)) → ⊥
  pub in_scope_law : Numbered false 0 scoped
  -- a code is UTF-8
  pub code : nest_good (scope (0xFF ∷ [])) ≡ false
