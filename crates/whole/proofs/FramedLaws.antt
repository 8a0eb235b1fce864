-- A framed value of a fixed size, but for a boolean, is read whatever its bytes are, and opens nothing; a framed document or array opens
-- itself (RULES.md, "Values").
use Prim.Native.Nat.{ℕ, ◌+◌, ◌≤◌}
use mathlib.Core.Path.{◌≡◌, refl, sym, ap, ◌∙◌}
use mathlib.Core.List.{List}
use mathlib.Core.Bool.{Bool, true, false, true≢false, cond}
use lib.ListN.{length, drop, length-drop}
use lib.Dec.{leb}
use native.Mathlib.Omega.{arith}
use borrow.Author.Tests.{le-leb}
use Rattle.bson.specs.Answer.{gives}
use Rattle.bson.specs.Bytes.{le32, le64, i32, i64, Part, bytes}
use Rattle.bson.specs.Check.{visit}
use Rattle.bson.specs.Framing.{fits, framed_under, value_size_under}
use Rattle.bson.specs.Level.{Opening, closed, opens, opening, Level}
use Rattle.bson.specs.Step.{Cursor, Element}
use Rattle.bson.specs.Tags
use Rattle.bson.specs.Value as value
use Rattle.bson.specs.Value.{Value, leaf, document, int32, int64, date_time, double, timestamp, content, value_in, value_of, timestamp_of}
use Rattle.laws.proofs.AnswerLaws.{gives_injective, then_gives, then_from, unless_gives}
use Rattle.laws.proofs.BytesLaws.{bytes_length}
use Rattle.laws.proofs.CheckLaws.{visit_gives}
use Rattle.laws.specs.FramedAt.{FramedAt}
use Rattle.laws.proofs.TagLaws.{size_for, type_sized}
use Tags.{ElementType, Boolean, Int32, Double, Int64, DateTime, Timestamp, ObjectId, Decimal128, Null, Undefined, MinKey, MaxKey, String}
use Tags.{JavaScriptCode, Symbol, DbPointer, EmbeddedDocument, Array, Binary, RegularExpression, JavaScriptCodeWithScope, Sized, fixed}
use Tags.{as_string, as_pointer, as_document, as_binary, as_regex, as_scope, tags, row_of, type_of, sized_of}

-- ---- parts that open nothing

abbrev size_of : Sized → ℕ
size_of (fixed n) = n
size_of as_string = 0
size_of as_pointer = 0
size_of as_document = 0
size_of as_binary = 0
size_of as_regex = 0
size_of as_scope = 0

abbrev is_fixed : Sized → Bool
is_fixed (fixed n) = true
is_fixed as_string = false
is_fixed as_pointer = false
is_fixed as_document = false
is_fixed as_binary = false
is_fixed as_regex = false
is_fixed as_scope = false

-- what is read of a part that opens nothing
record Closed (s : List ℕ) (p : Part) (t : ElementType) : Type 0 where
  value : Value
  reads : content s p t ≡ gives value
  shut : opening value ≡ closed

unfixed : {P : Type 0} → false ≡ true → P
unfixed e = absurd (true≢false (sym e))

module _ (s : List ℕ) (p : Part) (n : ℕ) (one : n ≡ 1 → ⊥) (l : length (bytes s p) ≡ n) where
  closes : (t : ElementType) → size_for t ≡ fixed n → Closed s p t
  unfolding content opening fits timestamp_of
  closes Boolean z = absurd (one (sym (ap size_of z)))
  closes Int32 z =
      record {
        value = leaf
            (int32 (i32 (bytes s p)));
        reads = rw (le-leb 4 (length (bytes s p)) (omega (arith, l, ap size_of z)));
        shut = refl;
      }
  closes Double z =
      record {
        value = leaf
            (double (le64 (bytes s p)));
        reads = rw (le-leb 8 (length (bytes s p)) (omega (arith, l, ap size_of z)));
        shut = refl;
      }
  closes Int64 z =
      record {
        value = leaf
            (int64 (i64 (bytes s p)));
        reads = rw (le-leb 8 (length (bytes s p)) (omega (arith, l, ap size_of z)));
        shut = refl;
      }
  closes DateTime z =
      record {
        value = leaf
            (date_time (i64 (bytes s p)));
        reads = rw (le-leb 8 (length (bytes s p)) (omega (arith, l, ap size_of z)));
        shut = refl;
      }
  closes Timestamp z =
      let h : length (bytes s p) ≡ 8 = l ∙ sym (ap size_of z) in
      record {
        value = leaf (timestamp (le32 (bytes s p)) (le32 (drop 4 (bytes s p))));
        reads =
            rw (
              le-leb 4 (length (bytes s p)) (omega arith),
              le-leb 4 (length (drop 4 (bytes s p))) (omega (arith, length-drop 4 (bytes s p))),
            );
        shut = refl;
      }
  closes ObjectId z = record { value = _; reads = refl; shut = refl }
  closes Decimal128 z = record { value = _; reads = refl; shut = refl }
  closes Null z = record { value = _; reads = refl; shut = refl }
  closes Undefined z = record { value = _; reads = refl; shut = refl }
  closes MinKey z = record { value = _; reads = refl; shut = refl }
  closes MaxKey z = record { value = _; reads = refl; shut = refl }
  closes String z = unfixed (ap is_fixed z)
  closes JavaScriptCode z = unfixed (ap is_fixed z)
  closes Symbol z = unfixed (ap is_fixed z)
  closes DbPointer z = unfixed (ap is_fixed z)
  closes EmbeddedDocument z = unfixed (ap is_fixed z)
  closes Array z = unfixed (ap is_fixed z)
  closes Binary z = unfixed (ap is_fixed z)
  closes RegularExpression z = unfixed (ap is_fixed z)
  closes JavaScriptCodeWithScope z = unfixed (ap is_fixed z)

-- ---- what framing has told

module _ (s : List ℕ) (c : Cursor) (e : Element) (y : FramedAt s c e) where
  -- once it is framed, what its type says is read
  value_is_of : (t : ElementType) (v : Value) → type_of e.tag ≡ gives t → content s e.value t ≡ gives v → value_of s e ≡ gives v
  unfolding value_of value_in
  value_is_of t v q r = rw (le-leb (e.value.offset + e.value.size) (length s) y.inside, q, r)

  module _ (n : ℕ) (z : sized_of e.tag ≡ gives (fixed n)) where
    size_is : e.value.size ≡ n
    unfolding value_size_under framed_under fits
    size_is =
        let h = y.value_is_law in
        sym (gives_injective (unless_gives (leb n (length (drop e.value.offset s))) 9 _ (rw z at h)).1)

    reads_closed : (n ≡ 1 → ⊥) → (v : Value) × (value_of s e ≡ gives v) × (opening v ≡ closed)
    reads_closed one =
        let (r, q, h) = then_gives (row_of e.tag) _ z in
        let t : type_of e.tag ≡ gives r.type = then_from (row_of e.tag) _ q in
        let f : size_for r.type ≡ fixed n = gives_injective (sym (type_sized e.tag r.type t) ∙ z) in
        let k = closes s e.value n one (bytes_length s e.value y.inside ∙ size_is) r.type f in
        (k.value, value_is_of r.type k.value t k.reads, k.shut)

  reads_document : (array : Bool) → e.tag ≡ cond array 4 3 → (v : Value) × (value_of s e ≡ gives v) × (opening v ≡ opens array 1 e.value)
  unfolding row_of tags content opening
  reads_document true t = (value.array e.value, value_is_of Array _ (rw t) refl, refl)
  reads_document false t = (document e.value, value_is_of EmbeddedDocument _ (rw t) refl, refl)

  -- what is read and not too deep is visited
  module _ (l : Level) (deep : l.depth ≤ 200) where
    visits : (v : Value) (o : Opening) → value_of s e ≡ gives v → opening v ≡ o → gives o ≡ visit false s l 0 e
    visits v o reads is = sym (visit_gives false s l 0 e o (record { key = refl; value = v; reads = reads; shallow = deep; is = is }))

    pub visits_closed : (n : ℕ) → sized_of e.tag ≡ gives (fixed n) → (n ≡ 1 → ⊥) → gives closed ≡ visit false s l 0 e
    visits_closed n z one = let (v, reads, shut) = reads_closed n z one in visits v closed reads shut

    pub visits_document : (array : Bool) → e.tag ≡ cond array 4 3 → gives (opens array 1 e.value) ≡ visit false s l 0 e
    visits_document array t = let (v, reads, into) = reads_document array t in visits v (opens array 1 e.value) reads into
