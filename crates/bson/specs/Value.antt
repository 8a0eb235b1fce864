-- Values: what a framed element holds, and reading at a place (RULES.md, "Values").
use Rattle.std.specs.Prelude.{ℕ, ◌+◌, ◌-◌, List, Bool, false, cond, ◌&&◌, length, get_or, drop, leb, ltb, eqb, ℤ}
use Rattle.bson.specs.Answer.{Answer, gives, then, unless, at}
use Rattle.bson.specs.Bytes.{le32, le64, i32, i64, declares, Part, part, bytes, trim}
use Rattle.bson.specs.Utf8.{utf8}
use Rattle.bson.specs.Tags
use Rattle.bson.specs.Framing.{in_front, string_size, pattern_options}
use Rattle.bson.specs.Step.{admitted, cursor, Element, step_under, yielded, handed}
use Rattle.bson.specs.Cstring.{Limit, unlimited}
use Tags.{ElementType, Boolean, Int32, Double, Int64, DateTime, Timestamp, ObjectId, Decimal128, Null, Undefined, MinKey, MaxKey, String}
use Tags.{JavaScriptCode, Symbol, DbPointer, EmbeddedDocument, Array, Binary, RegularExpression, JavaScriptCodeWithScope, type_of}

-- ---- what a value is

-- a value that holds no other: numbers as numbers, a double by its bits, and B for bytes
pub data Scalar (B : Type 0) : Type 0 where
  boolean : Bool → Scalar B
  int32 int64 date_time : ℤ → Scalar B
  double : (bits : ℕ) → Scalar B
  timestamp : (increment seconds : ℕ) → Scalar B
  object_id decimal128 string code symbol : B → Scalar B
  null undefined min_key max_key : Scalar B
  db_pointer : (namespace id : B) → Scalar B
  binary : (subtype : ℕ) (contents : B) → Scalar B
  regex : (pattern options : B) → Scalar B

-- the same with something else in the place of its bytes
abbrev pub mapped : {B C : Type 0} → (B → C) → Scalar B → Scalar C
mapped f (boolean b) = boolean b
mapped f (int32 n) = int32 n
mapped f (int64 n) = int64 n
mapped f (date_time n) = date_time n
mapped f (double bits) = double bits
mapped f (timestamp i n) = timestamp i n
mapped f (object_id id) = object_id (f id)
mapped f (decimal128 d) = decimal128 (f d)
mapped f (string t) = string (f t)
mapped f (code t) = code (f t)
mapped f (symbol t) = symbol (f t)
mapped f null = null
mapped f undefined = undefined
mapped f min_key = min_key
mapped f max_key = max_key
mapped f (db_pointer t id) = db_pointer (f t) (f id)
mapped f (binary subtype d) = binary subtype (f d)
mapped f (regex p o) = regex (f p) (f o)

-- as it is read: bytes as parts of the slice
abbrev pub Leaf : Type 0
Leaf = Scalar Part

pub data Value : Type 0 where
  leaf : Leaf → Value
  document array : Part → Value
  code_with_scope : (code scope : Part) → Value

abbrev pub as_leaf : {A : Type 0} → (A → Leaf) → Answer A → Answer Value
as_leaf f a = then a λ x. gives (leaf (f x))

-- ---- what the bytes of a value hold

-- "boolean byte above 1" 11
unfoldable pub bool : List ℕ → Answer Bool
bool v =
    then (in_front 1 (λ w. get_or w 0 0) v) λ b.
    unless (leb b 1) 11 (gives (eqb b 1))

-- "increment, then seconds, both u32"
unfoldable pub timestamp_of : List ℕ → Answer (ℕ × ℕ)
timestamp_of v =
    then (in_front 4 le32 v) λ increment.
    then (in_front 4 le32 (drop 4 v)) λ seconds.
    gives (increment, seconds)

-- "text must be UTF-8 (6)"
unfoldable pub text : List ℕ → Part → Answer Part
text s t = unless (utf8 (bytes s t)) 6 (gives t)

-- "the data must begin with an i32 equal to the bytes after it"
abbrev pub declares_data : List ℕ → Bool
declares_data v = leb 9 (length v) && declares (drop 5 v) (length v - 9)

-- "under subtype 2 the data must begin with an i32 equal to the bytes after it (12), which are the part given"
unfoldable pub binary_value : List ℕ → Part → Answer Value
binary_value v p =
    let subtype = get_or v 4 0 in
    cond (eqb subtype 2)
    (unless (declares_data v) 12
    (gives (leaf (binary 2 (trim 9 0 p)))))
    (gives (leaf (binary subtype (trim 5 0 p))))

-- "under 14 bytes 12; code framed as a string within the value, from byte 4 (8, 9, 10), then its UTF-8 (6);
-- scope start not before the end 12; scope admitted (1, 2, 3)"
unfoldable pub scope_value : List ℕ → Part → Answer Value
scope_value v p =
    unless (leb 14 (length v)) 12
    (then (string_size (drop 4 v)) λ n.
    unless (utf8 (bytes v (part 8 (n - 5)))) 6
    (unless (ltb (4 + n) (length v)) 12
    (then (admitted (drop (4 + n) v)) λ _.
    gives (code_with_scope (part (p.offset + 8) (n - 5)) (trim (4 + n) 0 p)))))

-- ---- a value by its type, and by its tag

-- the part p of s holds a value of this type. A text lies "without length and final zero", documents and arrays are "handed back whole"
unfoldable pub content : List ℕ → Part → ElementType → Answer Value
content s p Boolean = as_leaf boolean (bool (bytes s p))
content s p Int32 = as_leaf int32 (in_front 4 i32 (bytes s p))
content s p Double = as_leaf double (in_front 8 le64 (bytes s p))
content s p Int64 = as_leaf int64 (in_front 8 i64 (bytes s p))
content s p DateTime = as_leaf date_time (in_front 8 i64 (bytes s p))
content s p Timestamp = as_leaf (λ t. timestamp t.0 t.1) (timestamp_of (bytes s p))
content s p ObjectId = gives (leaf (object_id p))
content s p Decimal128 = gives (leaf (decimal128 p))
content s p Null = gives (leaf null)
content s p Undefined = gives (leaf undefined)
content s p MinKey = gives (leaf min_key)
content s p MaxKey = gives (leaf max_key)
content s p String = as_leaf string (text s (trim 4 1 p))
content s p JavaScriptCode = as_leaf code (text s (trim 4 1 p))
content s p Symbol = as_leaf symbol (text s (trim 4 1 p))
content s p DbPointer = as_leaf (λ t. db_pointer t (trim (p.size - 12) 0 p)) (text s (trim 4 13 p))
content s p EmbeddedDocument = gives (document p)
content s p Array = gives (array p)
content s p Binary = binary_value (bytes s p) p
content s p RegularExpression =
    then (pattern_options (bytes s p)) λ r.
    gives (leaf (regex (part p.offset r.0.size) (part (p.offset + r.1.offset) r.1.size)))
content s p JavaScriptCodeWithScope = scope_value (bytes s p) p

-- the value of this tag in a part of the slice. A part that a step yields fits; another "runs past the slice" (9)
unfoldable pub value_in : List ℕ → ℕ → Part → Answer Value
value_in s tag p =
    unless (leb (p.offset + p.size) (length s)) 9
    (then (type_of tag) λ t.
    content s p t)

unfoldable pub value_of : List ℕ → Element → Answer Value
value_of s e = at e.place (value_in s e.tag e.value)

-- "value of another type than asked" 17
abbrev pub of_tag : {A : Type 0} → Element → ℕ → A → Answer A
of_tag e tag a = at e.place (unless (eqb e.tag tag) 17 (gives a))

-- ---- reading at a place

-- "a value read takes a document and a place, steps there first, then reads"
unfoldable pub element_at_under : Limit → List ℕ → ℕ → Answer Element
element_at_under limit s place = then (step_under limit s (cursor place false)) (yielded place)

unfoldable pub read_at_under : Limit → List ℕ → ℕ → Answer Value
read_at_under limit s place = then (element_at_under limit s place) (value_of s)

-- the same, of a value that must have this tag: "the value's refusal, then 17"
unfoldable pub read_with_under : Limit → List ℕ → ℕ → ℕ → Answer Value
read_with_under limit s place tag =
    then (element_at_under limit s place) λ e.
    then (value_of s e) λ v.
    of_tag e tag v

-- ---- the parts of a value

-- a part that a value has not
abbrev pub none : Part
none = part 0 0

-- the parts of a value that a call can hand back, first and second in the order in which they lie
unfoldable pub parts_of : Value → Part × Part
parts_of (leaf (boolean b)) = (none, none)
parts_of (leaf (int32 n)) = (none, none)
parts_of (leaf (int64 n)) = (none, none)
parts_of (leaf (date_time n)) = (none, none)
parts_of (leaf (double b)) = (none, none)
parts_of (leaf (timestamp i n)) = (none, none)
parts_of (leaf null) = (none, none)
parts_of (leaf undefined) = (none, none)
parts_of (leaf min_key) = (none, none)
parts_of (leaf max_key) = (none, none)
parts_of (leaf (object_id p)) = (p, none)
parts_of (leaf (decimal128 p)) = (p, none)
parts_of (leaf (string p)) = (p, none)
parts_of (leaf (code p)) = (p, none)
parts_of (leaf (symbol p)) = (p, none)
parts_of (leaf (binary subtype p)) = (p, none)
parts_of (leaf (db_pointer namespace id)) = (namespace, id)
parts_of (leaf (regex pattern options)) = (pattern, options)
parts_of (document p) = (p, none)
parts_of (array p) = (p, none)
parts_of (code_with_scope c scope) = (c, scope)

pub data Which : Type 0 where
  first second : Which

abbrev pub part_of : Which → Value → Part
part_of first v = (parts_of v).0
part_of second v = (parts_of v).1

-- the twin is `read_with`
unfoldable pub part_at_under : Limit → List ℕ → ℕ → ℕ → Which → List ℕ
part_at_under limit s place tag w = handed s (then (read_with_under limit s place tag) λ v. gives (part_of w v))

-- ---- without a limit

abbrev pub read_at : List ℕ → ℕ → Answer Value
read_at s place = read_at_under unlimited s place

abbrev pub read_with : List ℕ → ℕ → ℕ → Answer Value
read_with s place tag = read_with_under unlimited s place tag

abbrev pub part_at : List ℕ → ℕ → ℕ → Which → List ℕ
part_at s place tag w = part_at_under unlimited s place tag w
