-- What a value opens: it lies inside the value, and is a document by itself (RULES.md, "Values").
use Prim.Native.Nat.{ℕ, ◌+◌, ◌-◌, ◌≤◌, ◌<◌}
use mathlib.Core.Path.{◌≡◌, refl, sym, ap, subst, ◌∙◌}
use mathlib.Core.List.{List}
use mathlib.Core.Bool.{Bool, true}
use native.Mathlib.Omega.{arith}
use lib.ListN.{length, get_or, take, drop, length-drop}
use lib.Seq.{length-take-le, get_or-take}
use lib.Dec.{leb, ltb, eqb}
use borrow.Author.Tests.{ltb-true, le-leb, lt-ltb, eq-eqb}
use Rattle.bson.specs.Answer.{Answer, gives}
use Rattle.bson.specs.Bytes.{le32, le64, i32, i64, Part, part, bytes, trim}
use Rattle.bson.specs.Utf8.{utf8}
use Rattle.bson.specs.Tags
use Rattle.bson.specs.Framing.{in_front, string_size, document_size, pattern_options, framed, framed_under, value_size_under}
use Rattle.bson.specs.Step.{admitted, Cursor, Element, past}
use Rattle.bson.specs.Value
use Rattle.bson.specs.Level.{Opening, closed, opens, opening}
use Rattle.laws.proofs.AnswerLaws.{gives_injective, unless_gives, then_gives, then_from, at_gives}
use Rattle.laws.proofs.BytesLaws.{bytes_length, bytes_trim}
use Rattle.laws.proofs.Common.{split}
use Rattle.laws.proofs.FramingLaws.{string_least, document_is, document_least}
use Rattle.laws.proofs.TagLaws.{size_for, type_sized}
use Rattle.laws.specs.FramedAt.{FramedAt}
use Rattle.laws.proofs.StepLaws.{admitted_says}
use Tags.{ElementType, Boolean, Int32, Double, Int64, DateTime, Timestamp, ObjectId, Decimal128, Null, Undefined, MinKey, MaxKey, String}
use Tags.{JavaScriptCode, Symbol, DbPointer, EmbeddedDocument, Array, Binary, RegularExpression, JavaScriptCodeWithScope, type_of}
use Value.{Leaf, Value, leaf, document, array, code_with_scope, as_leaf, bool, timestamp_of, text, declares_data, binary_value, scope_value}
use Value.{content, value_in, value_of}

-- ---- values by what they open

-- a claim that every leaf meets holds of a value where it holds of what the value opens
module _ (P : Value → Type 0) (leafy : (x : Leaf) → P (leaf x)) (v : Value) where
  pub leaf_case : {x : Leaf} → gives (leaf x) ≡ gives v → P v
  leaf_case e = subst P (gives_injective e) (leafy _)

  pub as_leaf_case : {A : Type 0} (f : A → Leaf) (a : Answer A) → as_leaf f a ≡ gives v → P v
  as_leaf_case f a e = let (x, q, h) = then_gives a _ e in leaf_case h

  pub binary_case : (b : List ℕ) (w : Part) → binary_value b w ≡ gives v → P v
  unfolding binary_value
  binary_case b w e =
      split (eqb (get_or b 4 0) 2)
      (λ t. leaf_case (unless_gives (declares_data b) 12 _ (rw t at e)).1)
      (λ t. leaf_case (rw t at e))

  module _ (s : List ℕ) (w : Part)
      (of_document : document_size (drop w.offset s) ≡ gives w.size → P (document w))
      (of_Array : document_size (drop w.offset s) ≡ gives w.size → P (array w))
      (of_scope : scope_value (bytes s w) w ≡ gives v → P v) where
    content_case : (t : ElementType) → framed (size_for t) (drop w.offset s) ≡ gives w.size → content s w t ≡ gives v → P v
    unfolding content framed_under
    content_case Boolean f e = as_leaf_case _ (bool (bytes s w)) e
    content_case Int32 f e = as_leaf_case _ (in_front 4 i32 (bytes s w)) e
    content_case Double f e = as_leaf_case _ (in_front 8 le64 (bytes s w)) e
    content_case Int64 f e = as_leaf_case _ (in_front 8 i64 (bytes s w)) e
    content_case DateTime f e = as_leaf_case _ (in_front 8 i64 (bytes s w)) e
    content_case Timestamp f e = as_leaf_case _ (timestamp_of (bytes s w)) e
    content_case ObjectId f e = leaf_case e
    content_case Decimal128 f e = leaf_case e
    content_case Null f e = leaf_case e
    content_case Undefined f e = leaf_case e
    content_case MinKey f e = leaf_case e
    content_case MaxKey f e = leaf_case e
    content_case String f e = as_leaf_case _ (text s (trim 4 1 w)) e
    content_case JavaScriptCode f e = as_leaf_case _ (text s (trim 4 1 w)) e
    content_case Symbol f e = as_leaf_case _ (text s (trim 4 1 w)) e
    content_case DbPointer f e = as_leaf_case _ (text s (trim 4 13 w)) e
    content_case EmbeddedDocument f e = subst P (gives_injective e) (of_document f)
    content_case Array f e = subst P (gives_injective e) (of_Array f)
    content_case Binary f e = binary_case (bytes s w) w e
    content_case RegularExpression f e = let (r, q, g) = then_gives (pattern_options (bytes s w)) _ e in leaf_case g
    content_case JavaScriptCodeWithScope f e = of_scope e

-- ---- a code with scope

-- what a code with scope that is read says: where its scope starts, that its code is framed and UTF-8, that the scope
-- is admitted, and where both lie
pub record Scoped (b : List ℕ) (w : Part) (v : Value) : Type 0 where
  pub start : ℕ
  pub length_of : ℕ
  pub least : 9 ≤ start
  pub before : start < length b
  pub framed_code : string_size (drop 4 b) ≡ gives (start - 4)
  pub texts : utf8 (bytes b (part 8 (start - 9))) ≡ true
  pub admits : admitted (drop start b) ≡ gives length_of
  pub is : code_with_scope (part (w.offset + 8) (start - 9)) (trim start 0 w) ≡ v

pub scope_says : (b : List ℕ) (w : Part) (v : Value) → scope_value b w ≡ gives v → Scoped b w v
unfolding scope_value
scope_says b w v e =
    let (t, e1) = unless_gives (leb 14 (length b)) 12 _ e in
    let (n, q, e2) = then_gives (string_size (drop 4 b)) _ e1 in
    let (u, e3) = unless_gives (utf8 (bytes b (part 8 (n - 5)))) 6 _ e2 in
    let (l, e4) = unless_gives (ltb (4 + n) (length b)) 12 _ e3 in
    let (k, a, e5) = then_gives (admitted (drop (4 + n) b)) _ e4 in
    let z = string_least (drop 4 b) n q in
    let m : n - 5 ≡ 4 + n - 9 = omega arith in
    let i : n ≡ 4 + n - 4 = omega arith in
    record {
      start = 4 + n;
      length_of = k;
      least = omega arith;
      before = ltb-true (4 + n) (length b) l;
      framed_code = q ∙ ap gives i;
      texts = rw m at u;
      admits = a;
      is = ap (λ (x : ℕ). code_with_scope (part (w.offset + 8) x) (trim (4 + n) 0 w)) (sym m) ∙ gives_injective e5;
    }

-- ---- a document that framing gives

-- the four bytes in front are those of the whole
pub le32_take : (n : ℕ) (v : List ℕ) → 4 ≤ n → le32 (take n v) ≡ le32 v
unfolding le32
le32_take n v h =
    let a : 0 < n = omega arith in
    let b : 1 < n = omega arith in
    let c : 2 < n = omega arith in
    let d : 3 < n = omega arith in
    rw (get_or-take n v 0 0 a, get_or-take n v 1 0 b, get_or-take n v 2 0 c, get_or-take n v 3 0 d)

-- a document that framing gives is admitted
framed_admitted : (v : List ℕ) (n : ℕ) → document_size v ≡ gives n → admitted (take n v) ≡ gives n
unfolding admitted
framed_admitted v n e =
    let d = document_is v n e in
    let l : length (take n v) ≡ n = length-take-le n v d.3 in
    let i : n - 1 < n = omega arith in
    rw (
      l,
      le-leb 5 n d.1,
      le32_take n v (omega arith),
      d.0,
      lt-ltb n 2147483648 d.2,
      eq-eqb n n refl,
      get_or-take n v (n - 1) 0 i,
      d.4,
    )

-- ---- what a value opens

-- a document inside a value: it lies in the value's part, and is admitted with just its size
pub record Opens (s : List ℕ) (whole inner : Part) : Type 0 where
  pub from : whole.offset ≤ inner.offset
  pub to : inner.offset + inner.size ≤ whole.offset + whole.size
  pub least : 5 ≤ inner.size
  pub admits : admitted (bytes s inner) ≡ gives inner.size

abbrev OpensIn : List ℕ → Part → Opening → Type 0
OpensIn s w closed = record {}
OpensIn s w (opens is_array levels p) = Opens s w p

whole_opens : (s : List ℕ) (w : Part) → document_size (drop w.offset s) ≡ gives w.size → Opens s w w
unfolding bytes
whole_opens s w f =
    record {
      from = omega arith;
      to = omega arith;
      least = document_least _ w.size f;
      admits = framed_admitted (drop w.offset s) w.size f;
    }

scope_opens : (s : List ℕ) (w : Part) (v : Value) → w.offset + w.size ≤ length s → scope_value (bytes s w) w ≡ gives v
    → OpensIn s w (opening v)
unfolding opening
scope_opens s w v h e =
    let r = scope_says (bytes s w) w v e in
    let i = bytes_length s w h in
    let a = admitted_says (drop r.start (bytes s w)) r.length_of r.admits in
    let j : r.start ≤ w.size = omega arith in
    let z : r.length_of ≡ w.size - (r.start + 0) = omega (arith, length-drop r.start (bytes s w)) in
    let o : Opens s w (trim r.start 0 w) = record {
      from = omega arith;
      to = omega arith;
      least = omega (arith, length-drop r.start (bytes s w));
      admits = ap admitted (bytes_trim s w r.start h j) ∙ r.admits ∙ ap gives z;
    } in
    subst (λ (x : Value). OpensIn s w (opening x)) r.is o

module _ (s : List ℕ) (c : Cursor) (e : Element) (y : FramedAt s c e) (v : Value) where
  -- it is what its part holds of the type that framed it
  pub value_content : value_of s e ≡ gives v
      → (t : ElementType) × (framed (size_for t) (drop e.value.offset s) ≡ gives e.value.size) × (content s e.value t ≡ gives v)
  unfolding value_of value_in value_size_under
  value_content x =
      let (u, x1) = unless_gives (leb (past e) (length s)) 9 _ (at_gives e.place _ x) in
      let (t, q, h) = then_gives (type_of e.tag) _ x1 in
      (t, sym (then_from _ _ (type_sized e.tag t q)) ∙ y.value_is_law, h)

  value_case : (P : Value → Type 0) → ((x : Leaf) → P (leaf x))
      → (document_size (drop e.value.offset s) ≡ gives e.value.size → P (document e.value))
      → (document_size (drop e.value.offset s) ≡ gives e.value.size → P (array e.value))
      → (scope_value (bytes s e.value) e.value ≡ gives v → P v)
      → value_of s e ≡ gives v → P v
  value_case P l d a z x = let (t, f, h) = value_content x in content_case P l v s e.value d a z t f h

  opens_in : value_of s e ≡ gives v → OpensIn s e.value (opening v)
  unfolding opening
  opens_in =
      value_case (λ (x : Value). OpensIn s e.value (opening x)) (λ x. record {}) (whole_opens s _) (whole_opens s _)
      (scope_opens s e.value v y.inside)

  -- what the value of a yielded element opens is a document inside it
  pub value_opens : value_of s e ≡ gives v → (is_array : Bool) (levels : ℕ) (p : Part) → opening v ≡ opens is_array levels p
      → Opens s e.value p
  value_opens x is_array levels p o = subst (OpensIn s e.value) o (opens_in x)

-- and is shorter than the slice
module _ (s : List ℕ) (c : Cursor) (e : Element) (y : FramedAt s c e) where
  pub opens_shorter : (p : Part) → Opens s e.value p → (length (bytes s p) ≡ p.size) × (p.size < length s)
  opens_shorter p o = (bytes_length s p (omega arith), omega arith)
