-- What is read in a part of a slice is read in the slice, so much further on (RULES.md, request 1).
use Prim.Native.Nat.{ℕ, ◌+◌, ◌-◌, ◌≤◌, ◌<◌}
use mathlib.Core.Path.{◌≡◌, refl, sym, ap, ◌∙◌}
use mathlib.Core.List.{List}
use mathlib.Core.Bool.{Bool, true, false}
use native.Mathlib.Omega.{arith}
use lib.ListN.{length, get_or, take, drop}
use lib.Seq.{get_or-take, get_or-drop}
use lib.Dec.{leb, ltb, eqb}
use borrow.Author.Tests.{le-leb, ne_eqb}
use Rattle.bson.specs.Answer.{Answer, gives, refuses, then, unless, at}
use Rattle.bson.specs.Bytes.{le64, i32, i64, Part, part, bytes, trim}
use Rattle.bson.specs.Utf8.{utf8}
use Rattle.bson.specs.Tags
use Rattle.bson.specs.Framing.{in_front, string_size, pattern_options, framed, framed_under, value_size_under}
use Rattle.bson.specs.Cstring.{Limit, cstring_under}
use Rattle.bson.specs.Step.{terminator, admitted, Cursor, cursor, Element, element_under, yield, step_under}
use Rattle.bson.specs.Value
use Rattle.bson.specs.Lookup.{Found, found}
use Rattle.bson.specs.Path.{moved_part, moved_element, moved_value, moved}
use Rattle.laws.proofs.Common.{split}
use Rattle.laws.proofs.BytesLaws.{bytes_trim, bytes_within}
use Rattle.laws.proofs.FramingLaws.{string_least, pointer_is}
use Rattle.laws.proofs.TagLaws.{size_for, sized_by}
use Rattle.laws.specs.FramedAt.{FramedAt}
use Rattle.laws.proofs.StepLaws.{step_yields, step_frames}
use Rattle.laws.proofs.FrontLaws.{cstring_under_front, value_size_front}
use Tags.{ElementType, Boolean, Int32, Double, Int64, DateTime, Timestamp, ObjectId, Decimal128, Null, Undefined, MinKey, MaxKey, String}
use Tags.{JavaScriptCode, Symbol, DbPointer, EmbeddedDocument, Array, Binary, RegularExpression, JavaScriptCodeWithScope, type_of}
use Value.{mapped, Leaf, Value, leaf, as_leaf, bool, timestamp_of, text, declares_data, binary_value, scope_value, content, value_in, value_of}
use Value.{boolean, int32, int64, date_time, double, timestamp, object_id, decimal128, string, code, symbol, null, undefined, min_key, max_key}
use Value.{db_pointer, binary, regex, document, array, code_with_scope}

-- what a part holds, moved; a refusal stays
abbrev pub moved_whole : ℕ → Answer Value → Answer Value
moved_whole by a = then a λ v. gives (moved_value by v)

trim_moved : (by front back : ℕ) (p : Part) → trim front back (moved_part by p) ≡ moved_part by (trim front back p)
trim_moved by front back p =
    let i : by + p.offset + front ≡ by + (p.offset + front) = omega arith in
    ap (λ (o : ℕ). part o (p.size - (front + back))) i

-- what is moved by nothing stays
part_stays : (p : Part) → moved_part 0 p ≡ p
part_stays p = let i : 0 + p.offset ≡ p.offset = omega arith in ap (λ (o : ℕ). part o p.size) i

leaf_stays : (v : Leaf) → mapped (moved_part 0) v ≡ v
leaf_stays (boolean x) = refl
leaf_stays (int32 n) = refl
leaf_stays (int64 n) = refl
leaf_stays (date_time n) = refl
leaf_stays (double bits) = refl
leaf_stays (timestamp i n) = refl
leaf_stays (object_id p) = ap object_id (part_stays p)
leaf_stays (decimal128 p) = ap decimal128 (part_stays p)
leaf_stays (string p) = ap string (part_stays p)
leaf_stays (code p) = ap code (part_stays p)
leaf_stays (symbol p) = ap symbol (part_stays p)
leaf_stays null = refl
leaf_stays undefined = refl
leaf_stays min_key = refl
leaf_stays max_key = refl
leaf_stays (db_pointer p q) = rw (part_stays p, part_stays q)
leaf_stays (binary subtype p) = ap (binary subtype) (part_stays p)
leaf_stays (regex p q) = rw (part_stays p, part_stays q)

value_stays : (v : Value) → moved_value 0 v ≡ v
value_stays (leaf v) = ap leaf (leaf_stays v)
value_stays (document p) = ap document (part_stays p)
value_stays (array p) = ap array (part_stays p)
value_stays (code_with_scope p q) = rw (part_stays p, part_stays q)

pub moved_stays : (x : Answer Found) → moved 0 x ≡ x
moved_stays (gives f) =
    let i : 0 + f.element.place ≡ f.element.place = omega arith in
    rw (i, part_stays f.element.key, part_stays f.element.value, value_stays f.value)
moved_stays (refuses n p) = let i : 0 + p ≡ p = omega arith in ap (refuses n) i

-- what is moved twice is moved by both
part_again : (a b : ℕ) (p : Part) → moved_part a (moved_part b p) ≡ moved_part (a + b) p
part_again a b p = let i : a + (b + p.offset) ≡ a + b + p.offset = omega arith in ap (λ (o : ℕ). part o p.size) i

leaf_again : (a b : ℕ) (v : Leaf) → mapped (moved_part a) (mapped (moved_part b) v) ≡ mapped (moved_part (a + b)) v
leaf_again a b (boolean x) = refl
leaf_again a b (int32 n) = refl
leaf_again a b (int64 n) = refl
leaf_again a b (date_time n) = refl
leaf_again a b (double bits) = refl
leaf_again a b (timestamp i n) = refl
leaf_again a b (object_id p) = ap object_id (part_again a b p)
leaf_again a b (decimal128 p) = ap decimal128 (part_again a b p)
leaf_again a b (string p) = ap string (part_again a b p)
leaf_again a b (code p) = ap code (part_again a b p)
leaf_again a b (symbol p) = ap symbol (part_again a b p)
leaf_again a b null = refl
leaf_again a b undefined = refl
leaf_again a b min_key = refl
leaf_again a b max_key = refl
leaf_again a b (db_pointer p q) = rw (part_again a b p, part_again a b q)
leaf_again a b (binary subtype p) = ap (binary subtype) (part_again a b p)
leaf_again a b (regex p q) = rw (part_again a b p, part_again a b q)

value_again : (a b : ℕ) (v : Value) → moved_value a (moved_value b v) ≡ moved_value (a + b) v
value_again a b (leaf v) = ap leaf (leaf_again a b v)
value_again a b (document p) = ap document (part_again a b p)
value_again a b (array p) = ap array (part_again a b p)
value_again a b (code_with_scope p q) = rw (part_again a b p, part_again a b q)

pub moved_again : (a b : ℕ) (x : Answer Found) → moved a (moved b x) ≡ moved (a + b) x
moved_again a b (gives f) =
    let i : a + (b + f.element.place) ≡ a + b + f.element.place = omega arith in
    rw (i, part_again a b f.element.key, part_again a b f.element.value, value_again a b f.value)
moved_again a b (refuses n p) = let i : a + (b + p) ≡ a + b + p = omega arith in ap (refuses n) i

-- tests in their order: what is gone on with decides
then_moved : {A : Type 0} (by : ℕ) (a : Answer A) (f g : A → Answer Value) → ((x : A) → f x ≡ moved_whole by (g x))
    → then a f ≡ moved_whole by (then a g)
then_moved by (gives x) f g h = h x
then_moved by (refuses n p) f g h = refl

unless_moved : (by : ℕ) (b : Bool) (n : ℕ) (x y : Answer Value) → x ≡ moved_whole by y → unless b n x ≡ moved_whole by (unless b n y)
unless_moved by true n x y h = h
unless_moved by false n x y h = refl

-- a number has no parts to move
number_moved : {A : Type 0} (by : ℕ) (f : A → Leaf) (a : Answer A) → ((x : A) → f x ≡ mapped (moved_part by) (f x))
    → as_leaf f a ≡ moved_whole by (as_leaf f a)
number_moved by f a h = then_moved by a _ _ (λ x. ap (λ (v : Leaf). gives (leaf v)) (h x))

-- ---- a value in a part, by its type

-- its bytes are the same; where it lies is so much further on
module _ (by : ℕ) (v : List ℕ) (p : Part) where
  binary_moved : binary_value v (moved_part by p) ≡ moved_whole by (binary_value v p)
  unfolding binary_value
  binary_moved =
      split (eqb (get_or v 4 0) 2)
      (λ t. rw (t, trim_moved by 9 0 p) (unless_moved by (declares_data v) 12 _ _ refl))
      (λ t. rw (t, trim_moved by 5 0 p))

  scope_moved : scope_value v (moved_part by p) ≡ moved_whole by (scope_value v p)
  unfolding scope_value
  scope_moved =
      unless_moved by (leb 14 (length v)) 12 _ _
      (then_moved by (string_size (drop 4 v)) _ _ λ n.
      unless_moved by (utf8 (bytes v (part 8 (n - 5)))) 6 _ _
      (unless_moved by (ltb (4 + n) (length v)) 12 _ _
      (then_moved by (admitted (drop (4 + n) v)) _ _ λ m.
      let i : by + p.offset + 8 ≡ by + (p.offset + 8) = omega arith in
      rw (i, trim_moved by (4 + n) 0 p))))

-- the slice `s` lies in `w`, so many bytes from its start
module _ (w s : List ℕ) (by : ℕ) (held : bytes w (part by (length s)) ≡ s) (fits : by + length s ≤ length w) where
  pub bytes_moved : (p : Part) → p.offset + p.size ≤ length s → bytes w (moved_part by p) ≡ bytes s p
  bytes_moved p h = bytes_within w (part by (length s)) p.offset p.size fits h ∙ ap (λ (v : List ℕ). bytes v p) held

  text_moved : (f g : Part → Leaf) (t : Part) → t.offset + t.size ≤ length s → g (moved_part by t) ≡ mapped (moved_part by) (f t)
      → as_leaf g (text w (moved_part by t)) ≡ moved_whole by (as_leaf f (text s t))
  unfolding text
  text_moved f g t h e = rw (bytes_moved t h) (split (utf8 (bytes s t)) (λ u. rw (u, e)) (λ u. rw u))

  module _ (p : Part) (h : p.offset + p.size ≤ length s) where
    -- a text behind its length, before its zero
    string_moved : (f : Part → Leaf) → ((t : Part) → f (moved_part by t) ≡ mapped (moved_part by) (f t)) → 5 ≤ p.size
        → as_leaf f (text w (trim 4 1 (moved_part by p))) ≡ moved_whole by (as_leaf f (text s (trim 4 1 p)))
    string_moved f e l = rw (trim_moved by 4 1 p) (text_moved f f (trim 4 1 p) (omega arith) (e _))

    pub content_moved : (t : ElementType) → framed (size_for t) (drop p.offset s) ≡ gives p.size
        → content w (moved_part by p) t ≡ moved_whole by (content s p t)
    unfolding content framed_under
    content_moved Boolean f = rw (bytes_moved p h) (number_moved by boolean (bool (bytes s p)) (λ x. refl))
    content_moved Int32 f = rw (bytes_moved p h) (number_moved by int32 (in_front 4 i32 (bytes s p)) (λ x. refl))
    content_moved Double f = rw (bytes_moved p h) (number_moved by double (in_front 8 le64 (bytes s p)) (λ x. refl))
    content_moved Int64 f = rw (bytes_moved p h) (number_moved by int64 (in_front 8 i64 (bytes s p)) (λ x. refl))
    content_moved DateTime f = rw (bytes_moved p h) (number_moved by date_time (in_front 8 i64 (bytes s p)) (λ x. refl))
    content_moved Timestamp f =
        rw (bytes_moved p h) (number_moved by (λ t. timestamp t.0 t.1) (timestamp_of (bytes s p)) (λ x. refl))
    content_moved ObjectId f = refl
    content_moved Decimal128 f = refl
    content_moved Null f = refl
    content_moved Undefined f = refl
    content_moved MinKey f = refl
    content_moved MaxKey f = refl
    content_moved String f = string_moved string (λ t. refl) (string_least _ p.size f)
    content_moved JavaScriptCode f = string_moved code (λ t. refl) (string_least _ p.size f)
    content_moved Symbol f = string_moved symbol (λ t. refl) (string_least _ p.size f)
    content_moved DbPointer f =
        rw (trim_moved by 4 13 p, trim_moved by (p.size - 12) 0 p)
        (text_moved (λ t. db_pointer t (trim (p.size - 12) 0 p)) _ (trim 4 13 p) (omega (arith, pointer_is _ p.size f)) refl)
    content_moved EmbeddedDocument f = refl
    content_moved Array f = refl
    content_moved Binary f = rw (bytes_moved p h) (binary_moved by (bytes s p) p)
    content_moved RegularExpression f =
        rw (bytes_moved p h)
        (then_moved by (pattern_options (bytes s p)) _ _ λ r.
        let i : by + p.offset + r.1.offset ≡ by + (p.offset + r.1.offset) = omega arith in
        rw i)
    content_moved JavaScriptCodeWithScope f = rw (bytes_moved p h) (scope_moved by (bytes s p) p)

  -- ---- an element that is framed in the part

  module _ (c : Cursor) (e : Element) (y : FramedAt s c e) where
    value_in_moved : value_in w e.tag (moved_part by e.value) ≡ moved_whole by (value_in s e.tag e.value)
    unfolding value_in
    value_in_moved =
        let inner : e.value.offset + e.value.size ≤ length s = y.inside in
        let outer : by + e.value.offset + e.value.size ≤ length w = omega arith in
        rw (le-leb _ _ inner, le-leb _ _ outer) (by_type (type_of e.tag) refl inner)
      where
        by_type : (t : Answer ElementType) → type_of e.tag ≡ t → e.value.offset + e.value.size ≤ length s
            → then t (content w (moved_part by e.value)) ≡ moved_whole by (then t (content s e.value))
        by_type (gives t) q inner = content_moved e.value inner t (sym (sized_by e.tag t _ q) ∙ y.value_is_law)
        by_type (refuses n p) q inner = refl

    -- reading it in the slice answers what reading it in the part answers, moved
    pub found_moved : found w (moved_element by e) ≡ moved by (found s e)
    unfolding found value_of
    found_moved = rw value_in_moved (read_moved (value_in s e.tag e.value))
      where
        read_moved : (a : Answer Value)
            → then {B = Found} (at (by + e.place) (moved_whole by a)) (λ v. gives (record { element = moved_element by e; value = v }))
            ≡ moved by (then (at e.place a) λ v. gives (record { element = e; value = v }))
        read_moved (gives v) = refl
        read_moved (refuses n p) = refl

  -- ---- a step in the part

  -- how many bytes of the part stand from an offset on
  abbrev behind : ℕ → ℕ
  behind from = length s - (from + 0)

  rest_moved : (from : ℕ) → from ≤ length s → drop from s ≡ take (behind from) (drop (by + from) w)
  unfolding bytes
  rest_moved from h = ap (drop from) (sym held) ∙ sym (bytes_trim w (part by (length s)) from fits h)

  byte_moved : (i : ℕ) → i < length s → get_or s i 0 ≡ get_or w (by + i) 0
  unfolding bytes
  byte_moved i h =
      ap (λ (v : List ℕ). get_or v i 0) (sym held) ∙ get_or-take (length s) (drop by w) i 0 h ∙ get_or-drop by w i 0

  module _ (limit : Limit) (c : Cursor) (e : Element) (x : step_under limit s c ≡ gives (yield e)) where
    -- a step in the slice, at the same byte, yields the same element
    pub step_moved : admitted w ≡ gives (length w) → step_under limit w (cursor (by + e.place) false) ≡ gives (yield (moved_element by e))
    unfolding step_under element_under
    step_moved a =
        let y = step_yields limit s c e x in
        let (key, value) = step_frames limit s c e x in
        let p = by + e.place in
        let low = le-leb 4 p (omega arith) in
        let high = le-leb p (terminator w) (omega arith) in
        let going = ne_eqb p (terminator w) (λ i. omega arith) in
        let tagged : get_or s e.place 0 ≡ e.tag = rw y.placed (sym y.tagged) in
        let tag : get_or w p 0 ≡ e.tag = sym (byte_moved e.place (omega arith)) ∙ tagged in
        let key_at_law : p + 1 ≡ by + e.key.offset = omega arith in
        let value_at : by + e.key.offset + e.key.size + 1 ≡ by + e.value.offset = omega arith in
        let key_front = rw (rest_moved e.key.offset (omega arith)) at key in
        let value_front = rw (rest_moved e.value.offset (omega arith)) at value in
        let key_is : cstring_under limit (drop (by + e.key.offset) w) ≡ gives e.key.size =
        cstring_under_front (behind e.key.offset) _ limit e.key.size key_front in
        let value_is_law : value_size_under limit e.tag (drop (by + e.value.offset) w) ≡ gives e.value.size =
        value_size_front (behind e.value.offset) _ limit e.tag e.value.size value_front in
        rw (a, low, high, going, key_at_law, key_is, value_at, tag, value_is_law)
