-- The grammar: elements as a tree, and the bytes of a tree, rule by rule beside its words (BSON 1.1, "Specification" and "Basic Types"). A
-- leaf holds what is meant, the integer or the text, never encoded bytes.
use Rattle.std.specs.Prelude.{ℕ, suc, ◌+◌, ◌-◌, ◌/◌, ◌%◌, ◌<◌, ◌≤◌, ◌≡◌, List, [], ◌∷◌, ◌++◌, Bool, true, false, cond, ◌&&◌, eqb, ℤ, pos, negsuc, length}
use Rattle.bson.specs.Utf8.{utf8}
use Rattle.bson.specs.Cstring.{valid_cstr}
use Rattle.bson.specs.Decimal.{decimal}
use Rattle.bson.specs.Value.{Scalar, boolean, int32, int64, date_time, double, timestamp, object_id, decimal128, string, code, symbol}
use Rattle.bson.specs.Value.{null, undefined, min_key, max_key, db_pointer, binary, regex}

-- ---- basic types

-- "4 bytes" and "8 bytes", little-endian
unfoldable pub bytes32 : ℕ → List ℕ
bytes32 n = n % 256 ∷ (n / 256 % 256 ∷ (n / 65536 % 256 ∷ (n / 16777216 % 256 ∷ [])))

unfoldable pub bytes64 : ℕ → List ℕ
bytes64 n = bytes32 n ++ bytes32 (n / 4294967296)

-- "two's complement": the numbers from -1 down are the upper half
unfoldable pub unsigned : ℕ → ℤ → ℕ
unsigned half (pos n) = n
unsigned half (negsuc n) = half + half - suc n

-- "string ::= int32 (byte*) "\x00"": "the int32 is the number of bytes in the (byte*) plus one"
unfoldable pub string_bytes : List ℕ → List ℕ
string_bytes text = bytes32 (length text + 1) ++ (text ++ (0 ∷ []))

-- "binary ::= int32 subtype (byte*)": "the int32 is the number of bytes in the (byte*)"; under subtype 2 "the structure of the binary data
-- must be: int32 (byte*)"
unfoldable pub binary_bytes : ℕ → List ℕ → List ℕ
binary_bytes subtype contents =
    cond (eqb subtype 2)
    (bytes32 (length contents + 4) ++ (2 ∷ (bytes32 (length contents) ++ contents)))
    (bytes32 (length contents) ++ (subtype ∷ contents))

-- "code_w_s ::= int32 string document": "the int32 is the length in bytes of the entire code_w_s value"
unfoldable pub scope_bytes : List ℕ → List ℕ → List ℕ
scope_bytes t d = bytes32 (4 + length (string_bytes t ++ d)) ++ (string_bytes t ++ d)

-- ---- values that hold no document

-- what a leaf is: its bytes are themselves
abbrev pub Item : Type 0
Item = Scalar (List ℕ)

-- an item's tag, whether its texts are in order, and its bytes
pub record Coded : Type 0 where
  pub tag : ℕ
  pub good : Bool
  pub value : List ℕ

abbrev pub coded : ℕ → Bool → List ℕ → Coded
coded tag good value = record { tag = tag; good = good; value = value }

-- "element ::=", a line for each type that holds no document; "(byte*) - zero or more bytes, UTF-8", and a cstring "must not contain \x00"
unfoldable pub row : Item → Coded
row (double bits) = coded 0x01 true (bytes64 bits)  -- "\x01" e_name double
row (string t) = coded 0x02 (utf8 t) (string_bytes t)  -- "\x02" e_name string
row (binary subtype d) = coded 0x05 true (binary_bytes subtype d)  -- "\x05" e_name binary
row undefined = coded 0x06 true []  -- "\x06" e_name
row (object_id id) = coded 0x07 true id  -- "\x07" e_name (byte*12)
row (boolean b) = coded 0x08 true (cond b 1 0 ∷ [])  -- "\x08" e_name "\x00", or "\x01" for true
row (date_time n) = coded 0x09 true (bytes64 (unsigned 0x8000_0000_0000_0000 n))  -- "\x09" e_name int64
row null = coded 0x0A true []  -- "\x0A" e_name
row (regex p o) = coded 0x0B (valid_cstr p && valid_cstr o) (p ++ (0 ∷ (o ++ (0 ∷ []))))  -- "\x0B" e_name cstring cstring
row (db_pointer t id) = coded 0x0C (utf8 t) (string_bytes t ++ id)  -- "\x0C" e_name string (byte*12)
row (code t) = coded 0x0D (utf8 t) (string_bytes t)  -- "\x0D" e_name string
row (symbol t) = coded 0x0E (utf8 t) (string_bytes t)  -- "\x0E" e_name string
row (int32 n) = coded 0x10 true (bytes32 (unsigned 0x8000_0000 n))  -- "\x10" e_name int32
row (timestamp i t) = coded 0x11 true (bytes32 i ++ bytes32 t)  -- "\x11" e_name uint64: the increment, then the seconds
row (int64 n) = coded 0x12 true (bytes64 (unsigned 0x8000_0000_0000_0000 n))  -- "\x12" e_name int64
row (decimal128 d) = coded 0x13 true d  -- "\x13" e_name decimal128
row min_key = coded 0xFF true []  -- "\xFF" e_name
row max_key = coded 0x7F true []  -- "\x7F" e_name

-- ---- values that hold one

-- an embedded document, and an array, "a normal BSON document with integer values for the keys"
pub data Embedded : Type 0 where
  document array : Embedded

-- what holds a document: these two, and a code, whose scope it is
pub data Nest : Type 0 where
  embedded : Embedded → Nest
  scope : (text : List ℕ) → Nest

-- "\x03" e_name document, "\x04" e_name document, "\x0F" e_name code_w_s
abbrev pub nest_tag : Nest → ℕ
nest_tag (embedded document) = 0x03
nest_tag (embedded array) = 0x04
nest_tag (scope t) = 0x0F

abbrev pub nest_good : Nest → Bool
nest_good (embedded n) = true
nest_good (scope t) = utf8 t

-- the value, by the bytes of the document that it holds
abbrev pub nest_bytes : Nest → List ℕ → List ℕ
nest_bytes (embedded n) d = d
nest_bytes (scope t) d = scope_bytes t d

-- "inside documents and arrays one more, inside a scope two more"
abbrev pub levels : Nest → ℕ
levels (embedded n) = 1
levels (scope t) = 2

abbrev pub is_array : Nest → Bool
is_array (embedded document) = false
is_array (embedded array) = true
is_array (scope t) = false

-- ---- trees

-- "e_list ::= element e_list | """
pub data Elements : Type 0 where
  none : Elements
  leaf : (key : List ℕ) → Item → Elements → Elements
  nest : Nest → (key : List ℕ) (inner rest : Elements) → Elements

-- elements behind others, and how many there are, those inside them not counted
abbrev pub followed_by : Elements → Elements → Elements
followed_by none t = t
followed_by (leaf key v rest) t = leaf key v (followed_by rest t)
followed_by (nest n key inner rest) t = nest n key inner (followed_by rest t)

abbrev pub count : Elements → ℕ
count none = 0
count (leaf key v rest) = suc (count rest)
count (nest n key inner rest) = suc (count rest)

-- ---- the bytes of a tree

-- the tag, "e_name ::= cstring", and the value
unfoldable pub element_bytes : ℕ → List ℕ → List ℕ → List ℕ
element_bytes tag key value = tag ∷ (key ++ (0 ∷ value))

-- "document ::= int32 e_list "\x00"": "int32 is the total number of bytes comprising the document"
unfoldable pub document_of : List ℕ → List ℕ
document_of list = bytes32 (length list + 5) ++ (list ++ (0 ∷ []))

unfoldable pub list_bytes : Elements → List ℕ
list_bytes none = []
list_bytes (leaf key v rest) = element_bytes (row v).tag key (row v).value ++ list_bytes rest
list_bytes (nest n key inner rest) = element_bytes (nest_tag n) key (nest_bytes n (document_of (list_bytes inner))) ++ list_bytes rest

abbrev pub tree_bytes : Elements → List ℕ
tree_bytes t = document_of (list_bytes t)

-- ---- how many values, and how deep

-- the number of values
abbrev pub size : Elements → ℕ
size none = 0
size (leaf key v rest) = 1 + size rest
size (nest n key inner rest) = 1 + size inner + size rest

-- "none lies deeper than 200", where these values have this depth
abbrev pub Shallow : ℕ → Elements → Type 0
Shallow depth none = Unit
Shallow depth (leaf key v rest) = (depth ≤ 200) × Shallow depth rest
Shallow depth (nest n key inner rest) = (depth ≤ 200) × (Shallow (depth + levels n) inner × Shallow depth rest)

-- ---- good trees

-- a number that fits half the numbers of its bits
abbrev pub Ranged : ℕ → ℤ → Type 0
Ranged half (pos n) = n < half
Ranged half (negsuc n) = n < half

-- numbers fit their bytes, an ObjectId has twelve and a decimal128 sixteen
abbrev pub Fitting : Item → Type 0
Fitting (double bits) = bits < 0x1_0000_0000_0000_0000
Fitting (int32 n) = Ranged 0x8000_0000 n
Fitting (int64 n) = Ranged 0x8000_0000_0000_0000 n
Fitting (date_time n) = Ranged 0x8000_0000_0000_0000 n
Fitting (timestamp i t) = (i < 0x1_0000_0000) × (t < 0x1_0000_0000)
Fitting (object_id id) = length id ≡ 12
Fitting (decimal128 d) = length d ≡ 16
Fitting (db_pointer t id) = length id ≡ 12
Fitting (boolean b) = Unit
Fitting (string t) = Unit
Fitting (code t) = Unit
Fitting (symbol t) = Unit
Fitting (binary subtype d) = Unit
Fitting (regex p o) = Unit
Fitting null = Unit
Fitting undefined = Unit
Fitting min_key = Unit
Fitting max_key = Unit

-- keys are cstrings, texts in order, numbers fit
abbrev pub InOrder : Elements → Type 0
InOrder none = Unit
InOrder (leaf key v rest) = (valid_cstr key ≡ true) × (((row v).good ≡ true) × (Fitting v × InOrder rest))
InOrder (nest n key inner rest) = (valid_cstr key ≡ true) × ((nest_good n ≡ true) × (InOrder inner × InOrder rest))

-- a good tree. Every length in it is less than that of the whole, so that one test is enough for all to fit an int32
pub record Good (t : Elements) : Type 0 where
  pub ordered : InOrder t
  pub short : length (tree_bytes t) ≤ 0x7FFF_FFFF

-- ---- the keys of arrays

-- "0, 1, 2 on in decimal": every key in an array is that of its position; `position` elements of an array, or of no array, come before
abbrev pub Numbered : Bool → ℕ → Elements → Type 0
Numbered in_array position none = Unit
Numbered in_array position (leaf key v rest) = (in_array ≡ true → key ≡ decimal position) × Numbered in_array (suc position) rest
Numbered in_array position (nest n key inner rest) =
    (in_array ≡ true → key ≡ decimal position) × (Numbered (is_array n) 0 inner × Numbered in_array (suc position) rest)
