-- The numbers that C is handed for a value tell it: from its element's tag, its number and its parts it is had again, whether by a lookup,
-- a path, a reading at a place, or a step that reads what it yields (RULES.md, "Values" and module 8).
use Prim.Native.Nat.{ℕ, ◌+◌, ◌*◌, ◌/◌, ◌%◌}
use mathlib.Core.Path.{◌≡◌, refl, sym, ap, subst, ◌∙◌}
use mathlib.Core.List.{List}
use mathlib.Core.Bool.{Bool, true, false, cond}
use native.Mathlib.Omega.{arith}
use lib.Dec.{leb, eqb}
use lib.IntN.{ℤ}
use lib.ListN.{length, get_or, drop}
use Rattle.bson.specs.Answer.{Answer, gives, refuses, then}
use Rattle.bson.specs.Bytes.{AreBytes, le32, le64, i32, i64, signed, Part, part, bytes, trim}
use Rattle.bson.specs.Cstring.{Limit}
use Rattle.bson.specs.Framing.{in_front, pattern_options}
use Rattle.bson.specs.Grammar.{unsigned, Ranged}
use Rattle.bson.specs.Lookup.{Found, get_under, get_with_under, get_at_under}
use Rattle.bson.specs.Path.{get_path_under, get_path_with_under}
use Rattle.bson.specs.Step.{Cursor, cursor, Element, past, Step, yield, end, step_under, after}
use Rattle.bson.specs.Tags
use Rattle.bson.specs.Value
use Rattle.laws.proofs.AlongLaws.{path_finds, path_with_finds}
use Rattle.laws.proofs.AnswerLaws.{never, gives_injective, unless_gives, then_gives, at_gives}
use Rattle.laws.proofs.Common.{split}
use Rattle.laws.proofs.FramingLaws.{in_front_is}
use Rattle.laws.proofs.GrammarLaws.{signed_unsigned}
use Rattle.laws.proofs.GrammarBack.{bytes_are, le32_below, i32_ranged, i64_ranged}
use Rattle.laws.proofs.LookupLaws.{FoundAt, get_finds, get_with_finds, get_at_value, get_at_finds}
use Rattle.laws.proofs.OpenLaws.{scope_says}
use Rattle.laws.proofs.ReadLaws.{value_refused}
use Rattle.laws.proofs.ReadRefusals.{NoZero, no_zero, no_zero_under, reads, typed_reads, paths, get_in, get_with_in, get_at_in, path_in}
use Rattle.laws.proofs.ReadRefusals.{path_with_in, value_in_law}
use Rattle.laws.proofs.StepLaws.{step_yields, yields_step}
use Rattle.laws.proofs.TagLaws.{tag_for, type_tag}
use Rattle.c_answers.specs.Numbers.{bits_of, found, yielded, step_read}
use Rattle.c_answers.specs.declared.ElementNumbers.{ElementNumbers}
use Rattle.c_answers.specs.declared.ValueNumbers.{ValueNumbers}
use Rattle.c_answers.proofs.Tells.{tells, answer_of, answer_refused, step_no_zero}
use Tags.{ElementType, Boolean, Int32, Double, Int64, DateTime, Timestamp, ObjectId, Decimal128, Null, Undefined, MinKey, MaxKey, String}
use Tags.{JavaScriptCode, Symbol, DbPointer, EmbeddedDocument, Array, Binary, RegularExpression, JavaScriptCodeWithScope, type_of}
use Value.{Leaf, Value, leaf, document, array, code_with_scope, boolean, int32, int64, date_time, double, timestamp, object_id, decimal128}
use Value.{string, code, symbol, null, undefined, min_key, max_key, db_pointer, binary, regex, as_leaf, bool, timestamp_of, text, declares_data}
use Value.{binary_value, content, value_in, value_of, read_at_under, parts_of}

-- ---- values, type by type

-- the value of a tag, a number and two parts
abbrev value_from : ℕ → ℕ → Part → Part → Value
value_from tag bits p q =
    cond (eqb tag 0x01) (leaf (double bits))
    (cond (eqb tag 0x02) (leaf (string p))
    (cond (eqb tag 0x03) (document p)
    (cond (eqb tag 0x04) (array p)
    (cond (eqb tag 0x05) (leaf (binary bits p))
    (cond (eqb tag 0x06) (leaf undefined)
    (cond (eqb tag 0x07) (leaf (object_id p))
    (cond (eqb tag 0x08) (leaf (boolean (eqb bits 1)))
    (cond (eqb tag 0x09) (leaf (date_time (signed 0x8000_0000_0000_0000 bits)))
    (cond (eqb tag 0x0A) (leaf null)
    (cond (eqb tag 0x0B) (leaf (regex p q))
    (cond (eqb tag 0x0C) (leaf (db_pointer p q))
    (cond (eqb tag 0x0D) (leaf (code p))
    (cond (eqb tag 0x0E) (leaf (symbol p))
    (cond (eqb tag 0x0F) (code_with_scope p q)
    (cond (eqb tag 0x10) (leaf (int32 (signed 0x8000_0000_0000_0000 bits)))
    (cond (eqb tag 0x11) (leaf (timestamp (bits % 0x1_0000_0000) (bits / 0x1_0000_0000)))
    (cond (eqb tag 0x12) (leaf (int64 (signed 0x8000_0000_0000_0000 bits)))
    (cond (eqb tag 0x13) (leaf (decimal128 p))
    (cond (eqb tag 0x7F) (leaf max_key) (leaf min_key))))))))))))))))))))

-- a value that is had again from its numbers, under a tag
abbrev Had : ℕ → Value → Type 0
Had tag v = value_from tag (bits_of v) (parts_of v).0 (parts_of v).1 ≡ v

module _ (s : List ℕ) (small : AreBytes s) where
  module _ (v : Value) where
    had : (tag : ℕ) (x : Value) → Had tag x → gives x ≡ gives v → Had tag v
    had tag x h e = subst (Had tag) (gives_injective e) h

    leaf_had : {A : Type 0} (tag : ℕ) (f : A → Leaf) (a : Answer A) → ((x : A) → a ≡ gives x → Had tag (leaf (f x)))
        → as_leaf f a ≡ gives v → Had tag v
    leaf_had tag f a h e = let (x, q, g) = then_gives a _ e in had tag (leaf (f x)) (h x q) g

    -- integers are read by two's complement, which 64 bits tell
    integer_had : (tag : ℕ) (f : ℤ → Leaf) (number : List ℕ → ℤ) (size : ℕ) (p : Part)
        → ((z : ℤ) → signed 0x8000_0000_0000_0000 (unsigned 0x8000_0000_0000_0000 z) ≡ z → Had tag (leaf (f z)))
        → Ranged 0x8000_0000_0000_0000 (number (bytes s p)) → as_leaf f (in_front size number (bytes s p)) ≡ gives v → Had tag v
    integer_had tag f number size p h r =
        leaf_had tag f (in_front size number (bytes s p))
        (λ z q. h z (signed_unsigned _ z (subst (Ranged 0x8000_0000_0000_0000) (in_front_is size number (bytes s p) z q).1 r)))

    boolean_had : (b : Bool) → Had 0x08 (leaf (boolean b))
    unfolding bits_of parts_of
    boolean_had true = refl
    boolean_had false = refl

    timestamp_had : (p : Part) (t : ℕ × ℕ) → timestamp_of (bytes s p) ≡ gives t → Had 0x11 (leaf (timestamp t.0 t.1))
    unfolding timestamp_of bits_of parts_of
    timestamp_had p t e =
        let (i, q, e1) = then_gives (in_front 4 le32 (bytes s p)) _ e in
        let (n, r, e2) = then_gives (in_front 4 le32 (drop 4 (bytes s p))) _ e1 in
        let k = le32_below (bytes s p) (bytes_are s p small) in
        let b = (in_front_is 4 le32 (bytes s p) i q).1 in
        let low : (i + 4294967296 * n) % 0x1_0000_0000 ≡ i = omega arith in
        let high : (i + 4294967296 * n) / 0x1_0000_0000 ≡ n = omega arith in
        subst (λ (x : ℕ × ℕ). Had 0x11 (leaf (timestamp x.0 x.1))) (gives_injective e2) (rw (low, high))

    binary_had : (w : List ℕ) (p : Part) → binary_value w p ≡ gives v → Had 0x05 v
    unfolding binary_value bits_of parts_of
    binary_had w p e =
        split (eqb (get_or w 4 0) 2)
        (λ t. had 0x05 _ refl (unless_gives (declares_data w) 12 _ (rw t at e)).1)
        (λ t. had 0x05 _ refl (rw t at e))

    content_had : (p : Part) (t : ElementType) → content s p t ≡ gives v → Had (tag_for t) v
    unfolding content bits_of parts_of
    content_had p Boolean e = leaf_had 0x08 boolean (bool (bytes s p)) (λ b q. boolean_had b) e
    content_had p Int32 e =
        integer_had 0x10 int32 i32 4 p (λ z q. ap (λ (x : ℤ). leaf (int32 x)) q) (i32_ranged (bytes s p) _ (omega arith)) e
    content_had p Double e = leaf_had 0x01 double (in_front 8 le64 (bytes s p)) (λ b q. refl) e
    content_had p Int64 e =
        integer_had 0x12 int64 i64 8 p (λ z q. ap (λ (x : ℤ). leaf (int64 x)) q) (i64_ranged (bytes s p)) e
    content_had p DateTime e =
        integer_had 0x09 date_time i64 8 p (λ z q. ap (λ (x : ℤ). leaf (date_time x)) q) (i64_ranged (bytes s p)) e
    content_had p Timestamp e = leaf_had 0x11 _ (timestamp_of (bytes s p)) (timestamp_had p) e
    content_had p ObjectId e = had 0x07 _ refl e
    content_had p Decimal128 e = had 0x13 _ refl e
    content_had p Null e = had 0x0A _ refl e
    content_had p Undefined e = had 0x06 _ refl e
    content_had p MinKey e = had 0xFF _ refl e
    content_had p MaxKey e = had 0x7F _ refl e
    content_had p String e = leaf_had 0x02 string (text s (trim 4 1 p)) (λ x q. refl) e
    content_had p JavaScriptCode e = leaf_had 0x0D code (text s (trim 4 1 p)) (λ x q. refl) e
    content_had p Symbol e = leaf_had 0x0E symbol (text s (trim 4 1 p)) (λ x q. refl) e
    content_had p DbPointer e = leaf_had 0x0C _ (text s (trim 4 13 p)) (λ x q. refl) e
    content_had p EmbeddedDocument e = had 0x03 _ refl e
    content_had p Array e = had 0x04 _ refl e
    content_had p Binary e = binary_had (bytes s p) p e
    content_had p RegularExpression e = let (r, q, g) = then_gives (pattern_options (bytes s p)) _ e in had 0x0B _ refl g
    content_had p JavaScriptCodeWithScope e = subst (Had 0x0F) (scope_says (bytes s p) p v e).is refl

    value_had : (e : Element) → value_of s e ≡ gives v → Had e.tag v
    unfolding value_of value_in
    value_had e x =
        let (u, x1) = unless_gives (leb (past e) (length s)) 9 _ (at_gives e.place _ x) in
        let (t, r, x2) = then_gives (type_of e.tag) _ x1 in
        rw (type_tag e.tag t r) (content_had e.value t x2)

-- ---- what is found

-- what the numbers keep of it: place, tag and framed bytes of the element, and the value
abbrev pub Sight : Type 0
Sight = ℕ × (ℕ × (Part × Value))

abbrev pub sight : Found → Sight
sight f = (f.element.place, (f.element.tag, (f.element.value, f.value)))

abbrev pub seen : Answer Found → Answer Sight
seen a = then a λ f. gives (sight f)

abbrev framed_of : ValueNumbers → Part
framed_of n = part n.framed_offset n.framed_size

abbrev value_is : ValueNumbers → Value
value_is n = value_from n.tag n.bits (part n.offset n.size) (part n.offset2 n.size2)

abbrev sight_of : ValueNumbers → Answer Sight
sight_of n = answer_of n.number n.place (n.place, (n.tag, (framed_of n, value_is n)))

found_back : (a : Answer Found) → NoZero a → ((f : Found) → a ≡ gives f → Had f.element.tag f.value)
    → sight_of (found a) ≡ seen a
found_back (gives f) h k = ap (λ (v : Value). gives (f.element.place, (f.element.tag, (f.element.value, v)))) (k f refl)
found_back (refuses number place) h k = answer_refused number place _ h

-- the answer of a lookup, of a path, or of a reading at a place: under some limit
pub record Looks (s : List ℕ) (a : Answer Found) : Type 0 where
  pub numbered : NoZero a
  pub limit : Limit
  pub finds : (f : Found) → a ≡ gives f → FoundAt limit s f

-- of any two slices of bytes
pub found_tells : (s t : List ℕ) → AreBytes s → AreBytes t → (a b : Answer Found) → Looks s a → Looks t b → found a ≡ found b
    → seen a ≡ seen b
found_tells s t x y a b l m = tells sight_of (back s x a l) (back t y b m)
  where
    back : (w : List ℕ) → AreBytes w → (c : Answer Found) → Looks w c → sight_of (found c) ≡ seen c
    back w h c k = found_back c k.numbered (λ f q. value_had w h f.value f.element (k.finds f q).reads)

-- in one slice the element is known by its place, with its key
module _ (s : List ℕ) where
  one_there : (l m : Limit) (f g : Found) → FoundAt l s f → FoundAt m s g → f.element.place ≡ g.element.place → f ≡ g
  one_there l m f g a b i =
      let y = yields_step s _ f.element (step_yields l s _ f.element a.steps) in
      let z = yields_step s _ g.element (step_yields m s _ g.element b.steps) in
      let e : f.element ≡ g.element = cc in
      let v : f.value ≡ g.value = gives_injective (sym a.reads ∙ ap (value_of s) e ∙ b.reads) in
      rw (e, v)

  abbrev placed : ValueNumbers → Answer ℕ
  placed n = answer_of n.number n.place n.place

  placed_back : (a : Answer Found) → NoZero a → placed (found a) ≡ (then a λ f. gives f.element.place)
  placed_back (gives f) h = refl
  placed_back (refuses number place) h = answer_refused number place _ h

  same_there : (a b : Answer Found) → Looks s a → Looks s b
      → (then a λ f. gives f.element.place) ≡ (then b λ f. gives f.element.place)
      → a ≡ b
  same_there (gives f) (gives g) l m e =
      ap gives (one_there l.limit m.limit f g (l.finds f refl) (m.finds g refl) (gives_injective e))
  same_there (gives f) (refuses n p) l m e = never (sym e)
  same_there (refuses n p) (gives g) l m e = never e
  same_there (refuses n p) (refuses k q) l m e = cc

  pub found_tells_all : (a b : Answer Found) → Looks s a → Looks s b → found a ≡ found b → a ≡ b
  found_tells_all a b l m e = same_there a b l m (tells placed (placed_back a l.numbered) (placed_back b m.numbered) e)

module _ (limit : Limit) (s : List ℕ) where
  pub get_looks : (key : List ℕ) → Looks s (get_under limit s key)
  get_looks key =
      record {
        numbered = no_zero_under reads limit refl (λ m. refl) (get_in limit s key);
        limit = limit;
        finds = get_finds limit s key;
      }

  pub get_with_looks : (key : List ℕ) (tag : ℕ) → Looks s (get_with_under limit s key tag)
  get_with_looks key tag =
      record {
        numbered = no_zero_under typed_reads limit refl (λ m. refl) (get_with_in limit s key tag);
        limit = limit;
        finds = get_with_finds limit s key tag;
      }

  pub path_looks : (path : List ℕ) → Looks s (get_path_under limit s path)
  path_looks path =
      record {
        numbered = no_zero_under paths limit refl (λ m. refl) (path_in limit s path);
        limit = limit;
        finds = path_finds limit s path;
      }

  pub path_with_looks : (path : List ℕ) (tag : ℕ) → Looks s (get_path_with_under limit s path tag)
  path_with_looks path tag =
      record {
        numbered = no_zero_under paths limit refl (λ m. refl) (path_with_in limit s path tag);
        limit = limit;
        finds = path_with_finds limit s path tag;
      }

  pub get_at_looks : (place : ℕ) → Looks s (get_at_under limit s place)
  get_at_looks place =
      record {
        numbered = no_zero_under reads limit refl (λ m. refl) (get_at_in limit s place);
        limit = limit;
        finds = λ f x. (get_at_finds limit s place f x).1;
      }

-- so the numbers of a reading at a place tell what is read there
pub read_tells : (limit limit' : Limit) (s t : List ℕ) → AreBytes s → AreBytes t → (place place' : ℕ)
    → found (get_at_under limit s place) ≡ found (get_at_under limit' t place')
    → read_at_under limit s place ≡ read_at_under limit' t place'
read_tells limit limit' s t a b place place' e =
    sym (value_seen (get_at_under limit s place) ∙ get_at_value limit s place)
    ∙ ap (λ (x : Answer Sight). then x λ y. gives y.1.1.1)
    (found_tells s t a b _ _ (get_at_looks limit s place) (get_at_looks limit' t place') e)
    ∙ (value_seen (get_at_under limit' t place') ∙ get_at_value limit' t place')
  where
    value_seen : (x : Answer Found) → (then (seen x) λ y. gives y.1.1.1) ≡ (then x λ f. gives f.value)
    value_seen (gives f) = refl
    value_seen (refuses n p) = refl

-- ---- a step that reads what it yields

abbrev element_of : ElementNumbers → Element
element_of n =
    record {
      place = n.value.place;
      tag = n.value.tag;
      key = part n.key_offset n.key_size;
      value = framed_of n.value;
    }

-- an element is yielded unless the cursor has ended
abbrev step_of : ElementNumbers → Answer Step
step_of n = cond n.ended (answer_of n.value.number n.value.place end) (gives (yield (element_of n)))

abbrev cursor_of : ElementNumbers → Cursor
cursor_of n = cursor n.next n.ended

abbrev reading_of : ElementNumbers → Answer Value
reading_of n = answer_of n.value.number n.value.place (value_is n.value)

module _ (s : List ℕ) (small : AreBytes s) (c : Cursor) where
  abbrev numbers : Answer Step → ElementNumbers
  numbers x = step_read s x (after c x)

  yielded_back : (e : Element) (d : Cursor) (a : Answer Value) → ((n p : ℕ) → a ≡ refuses n p → p ≡ e.place)
      → element_of (yielded e a d) ≡ e
  yielded_back e d (gives v) h = refl
  yielded_back e d (refuses n p) h = rw (h n p refl)

  step_back : (x : Answer Step) → NoZero x → step_of (numbers x) ≡ x
  step_back (gives (yield e)) h =
      ap (λ (d : Element). gives (yield d)) (yielded_back e (cursor (past e) false) (value_of s e) (value_refused s e))
  step_back (gives end) h = refl
  step_back (refuses number place) h = answer_refused number place end h

  cursor_back : (x : Answer Step) → cursor_of (numbers x) ≡ after c x
  cursor_back (gives (yield e)) = refl
  cursor_back (gives end) = refl
  cursor_back (refuses number place) = refl

  value_back : (e : Element) (d : Cursor) (a : Answer Value) → NoZero a → ((v : Value) → a ≡ gives v → Had e.tag v)
      → reading_of (yielded e a d) ≡ a
  value_back e d (gives v) h k = ap gives (k v refl)
  value_back e d (refuses n p) h k = answer_refused n p _ h

  reading_back : (e : Element) → reading_of (numbers (gives (yield e))) ≡ value_of s e
  reading_back e = value_back e (cursor (past e) false) (value_of s e) (no_zero refl (value_in_law s e)) (λ v. value_had s small v e)

module _ (limit limit' : Limit) (s t : List ℕ) (are_s : AreBytes s) (are_t : AreBytes t) (c d : Cursor) where
  abbrev x : Answer Step
  x = step_under limit s c

  abbrev y : Answer Step
  y = step_under limit' t d

  -- the step, the cursor behind it, and what is read of an element
  pub record SameNext : Type 0 where
    pub steps : x ≡ y
    pub behind : after c x ≡ after d y
    pub reads : (e : Element) → x ≡ gives (yield e) → value_of s e ≡ value_of t e

  pub next_tells : step_read s x (after c x) ≡ step_read t y (after d y) → SameNext
  next_tells e =
      let same : x ≡ y =
      tells step_of (step_back s are_s c x (step_no_zero limit s c)) (step_back t are_t d y (step_no_zero limit' t d)) e in
      record {
        steps = same;
        behind = tells cursor_of (cursor_back s are_s c x) (cursor_back t are_t d y) e;
        reads = λ i q. tells reading_of (reading_back s are_s c i) (reading_back t are_t d i) (rw (q, sym same ∙ q) at e);
      }
