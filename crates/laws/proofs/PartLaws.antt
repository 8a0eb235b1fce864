-- The parts of a value that a reading gives lie in the slice (RULES.md, "Values").
use Prim.Native.Nat.{ℕ, ◌+◌, ◌-◌, ◌≤◌}
use mathlib.Core.Path.{◌≡◌, subst}
use mathlib.Core.List.{List}
use mathlib.Core.Bool.{false}
use native.Mathlib.Omega.{arith}
use lib.ListN.{length, get_or, drop}
use lib.Dec.{leb, eqb}
use borrow.Author.Tests.{leb-true}
use Rattle.bson.specs.Answer.{Answer, gives}
use Rattle.bson.specs.Bytes.{le64, i32, i64, Part, bytes, trim}
use Rattle.bson.specs.Utf8.{utf8}
use Rattle.bson.specs.Tags
use Rattle.bson.specs.Framing.{in_front, pattern_options, framed, framed_under}
use Rattle.bson.specs.Step.{Cursor, cursor, Element}
use Rattle.bson.specs.Value
use Rattle.laws.proofs.AnswerLaws.{gives_injective, unless_gives, then_gives}
use Rattle.laws.proofs.ReadLaws.{read_says}
use Rattle.laws.proofs.BytesLaws.{bytes_length}
use Rattle.laws.proofs.Common.{split, both_hold}
use Rattle.laws.proofs.FramingLaws.{string_least, pointer_is, binary_is, pattern_options_fit}
use Rattle.laws.proofs.TagLaws.{size_for}
use Rattle.laws.specs.FramedAt.{FramedAt}
use Rattle.laws.proofs.StepLaws.{step_yields}
use Rattle.laws.proofs.OpenLaws.{scope_says, value_content}
use Tags.{ElementType, Boolean, Int32, Double, Int64, DateTime, Timestamp, ObjectId, Decimal128, Null, Undefined, MinKey, MaxKey, String}
use Tags.{JavaScriptCode, Symbol, DbPointer, EmbeddedDocument, Array, Binary, RegularExpression, JavaScriptCodeWithScope}
use Value.{Leaf, Value, leaf, as_leaf, bool, timestamp_of, text, declares_data, binary_value, scope_value, content, value_of, string, code}
use Value.{symbol, db_pointer, read_at, parts_of}

-- a part ends in a slice of this length
abbrev pub PartEnds : ℕ → Part → Type 0
PartEnds n p = p.offset + p.size ≤ n

abbrev pub BothEnd : ℕ → Value → Type 0
BothEnd n v = PartEnds n (parts_of v).0 × PartEnds n (parts_of v).1

-- ---- by the type of the value

module _ (n : ℕ) (v : Value) where
  -- of a value that is known, both parts
  known : (x : Value) → gives x ≡ gives v → BothEnd n x → BothEnd n v
  known x e b = subst (BothEnd n) (gives_injective e) b

  number : {A : Type 0} (f : A → Leaf) (a : Answer A) → as_leaf f a ≡ gives v → ((x : A) → BothEnd n (leaf (f x))) → BothEnd n v
  number f a e b = let (x, q, h) = then_gives a _ e in known (leaf (f x)) h (b x)

  a_text : (f : Part → Leaf) (s : List ℕ) (t : Part) → as_leaf f (text s t) ≡ gives v → BothEnd n (leaf (f t)) → BothEnd n v
  unfolding text
  a_text f s t e b =
      let (x, q, h) = then_gives (text s t) _ e in
      let (u, q1) = unless_gives (utf8 (bytes s t)) 6 _ q in
      known (leaf (f x)) h (subst (λ (y : Part). BothEnd n (leaf (f y))) (gives_injective q1) b)

module _ (s : List ℕ) (w : Part) (v : Value) (inside : w.offset + w.size ≤ length s) where
  old_or_new : 5 ≤ w.size → binary_value (bytes s w) w ≡ gives v → BothEnd (length s) v
  unfolding binary_value parts_of
  old_or_new l e =
      let b = bytes s w in
      split (eqb (get_or b 4 0) 2)
      (λ t. let (u, x) = unless_gives (declares_data b) 12 _ (rw t at e) in
      let k = leb-true 9 (length b) (both_hold (leb 9 (length b)) _ u).0 in
      known (length s) v _ x (omega (arith, bytes_length s w inside), omega arith))
      (λ t. known (length s) v _ (rw t at e) (omega arith, omega arith))

  of_regex : (content s w RegularExpression) ≡ gives v → BothEnd (length s) v
  unfolding content parts_of
  of_regex e =
      let (r, q, h) = then_gives (pattern_options (bytes s w)) _ e in
      let f = pattern_options_fit (bytes s w) r q in
      known (length s) v _ h (omega (arith, bytes_length s w inside), omega (arith, bytes_length s w inside))

  of_scope : scope_value (bytes s w) w ≡ gives v → BothEnd (length s) v
  unfolding parts_of
  of_scope e =
      let r = scope_says (bytes s w) w v e in
      let i = bytes_length s w inside in
      subst (BothEnd (length s)) r.is (omega arith, omega arith)

  content_parts : (t : ElementType) → framed (size_for t) (drop w.offset s) ≡ gives w.size → content s w t ≡ gives v
      → BothEnd (length s) v
  unfolding content framed_under parts_of
  content_parts Boolean f e = number (length s) v _ (bool (bytes s w)) e (λ x. (omega arith, omega arith))
  content_parts Int32 f e = number (length s) v _ (in_front 4 i32 (bytes s w)) e (λ x. (omega arith, omega arith))
  content_parts Double f e = number (length s) v _ (in_front 8 le64 (bytes s w)) e (λ x. (omega arith, omega arith))
  content_parts Int64 f e = number (length s) v _ (in_front 8 i64 (bytes s w)) e (λ x. (omega arith, omega arith))
  content_parts DateTime f e = number (length s) v _ (in_front 8 i64 (bytes s w)) e (λ x. (omega arith, omega arith))
  content_parts Timestamp f e = number (length s) v _ (timestamp_of (bytes s w)) e (λ x. (omega arith, omega arith))
  content_parts ObjectId f e = known (length s) v _ e (inside, omega arith)
  content_parts Decimal128 f e = known (length s) v _ e (inside, omega arith)
  content_parts Null f e = known (length s) v _ e (omega arith, omega arith)
  content_parts Undefined f e = known (length s) v _ e (omega arith, omega arith)
  content_parts MinKey f e = known (length s) v _ e (omega arith, omega arith)
  content_parts MaxKey f e = known (length s) v _ e (omega arith, omega arith)
  content_parts String f e = a_text (length s) v string s _ e (omega (arith, string_least _ w.size f), omega arith)
  content_parts JavaScriptCode f e = a_text (length s) v code s _ e (omega (arith, string_least _ w.size f), omega arith)
  content_parts Symbol f e = a_text (length s) v symbol s _ e (omega (arith, string_least _ w.size f), omega arith)
  content_parts DbPointer f e =
      a_text (length s) v (λ t. db_pointer t (trim (w.size - 12) 0 w)) s _ e
      (omega (arith, pointer_is _ w.size f), omega (arith, pointer_is _ w.size f))
  content_parts EmbeddedDocument f e = known (length s) v _ e (inside, omega arith)
  content_parts Array f e = known (length s) v _ e (inside, omega arith)
  content_parts Binary f e = old_or_new (omega (arith, binary_is _ w.size f)) e
  content_parts RegularExpression f e = of_regex e
  content_parts JavaScriptCodeWithScope f e = of_scope e

-- ---- of a value that is read

-- both parts of a value that is read from a yielded element end in the slice
pub parts_inside : (s : List ℕ) (c : Cursor) (e : Element) → FramedAt s c e → (v : Value) → value_of s e ≡ gives v → BothEnd (length s) v
parts_inside s c e y v x =
    let (t, f, h) = value_content s c e y v x in
    content_parts s e.value v y.inside t f h

-- the same of a reading at a place
pub read_inside : (s : List ℕ) (place : ℕ) (v : Value) → read_at s place ≡ gives v → BothEnd (length s) v
read_inside s place v x =
    let (e, y, h) = read_says _ s place v x in
    parts_inside s (cursor place false) e (step_yields _ s _ e y) v h
