-- A value that is framed and read is the bytes of what it holds: an item, or a nest with its document (BSON 1.1,
-- "Specification"; RULES.md, "Values").
use Prim.Native.Nat.{ℕ, ◌+◌, ◌-◌, ◌≤◌}
use mathlib.Core.Path.{◌≡◌, refl, sym, ap, subst, ◌∙◌}
use mathlib.Core.List.{List, [], ◌∷◌, ◌++◌}
use mathlib.Core.Bool.{Bool, true, false, cond}
use native.Mathlib.Omega.{arith}
use lib.ListN.{length, get_or, take, drop, length-drop}
use lib.Seq.{take_all}
use lib.Dec.{leb, eqb}
use borrow.Author.Tests.{leb-true, eqb-true, eqb-false}
use Rattle.bson.specs.Answer.{gives}
use Rattle.bson.specs.Bytes.{AreBytes, le32, le64, i32, i64, natural, Part, part, bytes, trim}
use Rattle.bson.specs.Utf8.{utf8}
use Rattle.bson.specs.Tags
use Rattle.bson.specs.Framing.{fits, in_front, string_size, pointer_size, binary_size, pattern_options, regex_size, scope_size, framed, value_size}
use Rattle.bson.specs.Framing.{framed_under}
use Rattle.bson.specs.Step.{cursor, Element, yield, step}
use Rattle.bson.specs.Value
use Rattle.bson.specs.Grammar.{string_bytes, Item, coded, row, Fitting, Nest, nest_tag, nest_good, nest_bytes}
use Rattle.bson.specs.Meaning.{held, Holding, single, nested, holding}
use Rattle.laws.proofs.AnswerLaws.{gives_injective, unless_gives, then_gives, at_gives}
use Rattle.laws.proofs.BytesLaws.{bytes_length, bytes_trim, bytes_drop, bytes_within}
use Rattle.laws.proofs.Common.{split, both_hold}
use Rattle.laws.proofs.FramingLaws.{fits_is, in_front_is, pointer_is, binary_is, scope_is}
use Rattle.laws.proofs.GrammarLaws.{pattern_options_of}
use Rattle.laws.proofs.GrammarBack.{drop_are, bytes_are, le32_below, le64_below, bytes64_back, i32_back, i64_back, i32_ranged, i64_ranged}
use Rattle.laws.proofs.GrammarBack.{timestamp_back, string_back, pointer_back, binary_back, old_binary_back, scope_back, regex_back}
use Rattle.laws.proofs.StepLaws.{step_yields}
use Rattle.laws.proofs.OpenLaws.{scope_says, le32_take}
use Rattle.laws.proofs.TagLaws.{size_for, tag_for, sized_by, type_tag}
use Rattle.theorems.proofs.Grammar.ItemReads.{bytes_here, regex_here}
use Tags.{ElementType, Boolean, Int32, Double, Int64, DateTime, Timestamp, ObjectId, Decimal128, Null, Undefined, MinKey, MaxKey, String}
use Tags.{JavaScriptCode, Symbol, DbPointer, EmbeddedDocument, Array, Binary, RegularExpression, JavaScriptCodeWithScope, fixed, type_of}
use Value.{boolean, int32, int64, date_time, double, timestamp, string, code, symbol, null, undefined, min_key, max_key, db_pointer, binary}
use Value.{regex, Leaf, Value, leaf, as_leaf, bool, timestamp_of, text, declares_data, binary_value, scope_value, content, value_in, value_of}
use Rattle.bson.specs.Cstring.{unlimited}

-- ---- bytes that are a value's

-- the bytes of a part are a value's, under its tag, and its texts and numbers are in order
pub record Codes (s : List ℕ) (tag : ℕ) (p : Part) (item : Item) : Type 0 where
  pub tagged : tag ≡ (row item).tag
  pub good : (row item).good ≡ true
  pub fitting : Fitting item
  pub value : bytes s p ≡ (row item).value

pub record CodesNest (s : List ℕ) (tag : ℕ) (p : Part) (n : Nest) (inner : Part) : Type 0 where
  pub tagged : tag ≡ nest_tag n
  pub good : nest_good n ≡ true
  pub value : bytes s p ≡ nest_bytes n (bytes s inner)

-- by what it holds
abbrev pub CodesOf : List ℕ → ℕ → Part → Holding → Type 0
CodesOf s tag p (single item) = Codes s tag p item
CodesOf s tag p (nested n inner) = CodesNest s tag p n inner

-- ---- numbers

-- what a boolean and a timestamp that are read say of their bytes
bool_back : (w : List ℕ) (x : Bool) → length w ≡ 1 → bool w ≡ gives x → w ≡ cond x 1 0 ∷ []
unfolding bool fits
bool_back [] x l e = absurd (omega arith)
bool_back (b ∷ (c ∷ w)) x l e = absurd (omega arith)
bool_back (b ∷ []) x l e =
    let (t, e1) = unless_gives (leb b 1) 11 _ e in
    rw (← gives_injective e1)
    (split (eqb b 1)
    (λ u. rw (u, eqb-true b 1 u))
    (λ u. let z : b ≡ 0 = omega (arith, leb-true b 1 t, eqb-false b 1 u) in rw (u, z)))

timestamp_is : (w : List ℕ) (x : ℕ × ℕ) → timestamp_of w ≡ gives x → ◌≡◌ {A = ℕ × ℕ} (le32 w, le32 (drop 4 w)) x
unfolding timestamp_of
timestamp_is w x e =
    let (i, q, h) = then_gives (in_front 4 le32 w) _ e in
    let (t, r, k) = then_gives (in_front 4 le32 (drop 4 w)) _ h in
    let a : le32 w ≡ i = (in_front_is 4 le32 w i q).1 in
    let c : le32 (drop 4 w) ≡ t = (in_front_is 4 le32 (drop 4 w) t r).1 in
    let d : ◌≡◌ {A = ℕ × ℕ} (i, t) x = gives_injective k in
    cc (a, c, d)

module _ (s : List ℕ) (b : AreBytes s) (p : Part) (inside : p.offset + p.size ≤ length s) (v : Value) where
  -- a value that is known is coded as it is
  known : (tag : ℕ) (x : Value) → gives x ≡ gives v → CodesOf s tag p (holding s x) → CodesOf s tag p (holding s v)
  known tag x e c = subst (λ (y : Value). CodesOf s tag p (holding s y)) (gives_injective e) c

  -- fixed sizes

  size_is : (n : ℕ) → framed (fixed n) (drop p.offset s) ≡ gives p.size → length (bytes s p) ≡ n
  unfolding framed_under
  size_is n f = bytes_length s p inside ∙ (fits_is n _ p.size f).0

  of_size : (item : Item) (n : ℕ) → framed (fixed n) (drop p.offset s) ≡ gives p.size → (row item).good ≡ true → Fitting item
      → (n ≤ length (bytes s p) → (row item).value ≡ take n (bytes s p)) → Codes s (row item).tag p item
  of_size item n f g h k =
      let l = size_is n f in
      record { tagged = refl; good = g; fitting = h; value = sym (k (omega arith) ∙ take_all n (bytes s p) (omega arith)) }

  -- a number that its bytes give back
  module _ {A : Type 0} (n : ℕ) (number : List ℕ → A) (f : A → Leaf) where
    abbrev item_of : List ℕ → Item
    item_of w = held s (f (number w))

    of_number : framed (fixed n) (drop p.offset s) ≡ gives p.size → (row (item_of (bytes s p))).good ≡ true
        → ((w : List ℕ) → AreBytes w → Fitting (item_of w))
        → ((w : List ℕ) → AreBytes w → n ≤ length w → (row (item_of w)).value ≡ take n w)
        → as_leaf f (in_front n number (bytes s p)) ≡ gives v → CodesOf s (row (item_of (bytes s p))).tag p (holding s v)
    of_number z g fit back e =
        let w = bytes s p in
        let a = bytes_are s p b in
        let (x, q, h) = then_gives (in_front n number w) _ e in
        let i : number w ≡ x = (in_front_is n number w x q).1 in
        known (row (item_of w)).tag (leaf (f (number w))) (ap (λ (y : A). gives (leaf (f y))) i ∙ h)
        (of_size (item_of w) n z g (fit w a) (back w a))

  of_bool : framed (fixed 1) (drop p.offset s) ≡ gives p.size → as_leaf boolean (bool (bytes s p)) ≡ gives v
      → CodesOf s 0x08 p (holding s v)
  unfolding row
  of_bool f e =
      let (x, q, h) = then_gives (bool (bytes s p)) _ e in
      known 0x08 (leaf (boolean x)) h
      (record { tagged = refl; good = refl; fitting = tt; value = bool_back (bytes s p) x (size_is 1 f) q })

  of_timestamp : framed (fixed 8) (drop p.offset s) ≡ gives p.size
      → as_leaf (λ t. timestamp t.0 t.1) (timestamp_of (bytes s p)) ≡ gives v → CodesOf s 0x11 p (holding s v)
  unfolding row
  of_timestamp f e =
      let w = bytes s p in
      let a = bytes_are s p b in
      let (x, q, h) = then_gives (timestamp_of w) _ e in
      let c = le32_below (drop 4 w) (drop_are 4 w a) in
      known 0x11 (leaf (timestamp x.0 x.1)) h
      (rw (← timestamp_is w x q)
      (record { tagged = refl; good = refl; fitting = (le32_below w a, c); value = sym (timestamp_back w a (size_is 8 f)) }))

  -- texts

  -- ---- texts, pointers and regexes

  text_is : (t x : Part) → text s t ≡ gives x → (utf8 (bytes s t) ≡ true) × (t ≡ x)
  unfolding text
  text_is t x e = let (u, q) = unless_gives (utf8 (bytes s t)) 6 _ e in (u, gives_injective q)

  -- a string, a code, a symbol
  of_text : (tag : ℕ) (f : Part → Leaf)
      → ((t : Part) → (row (held s (f t)) ≡ coded tag (utf8 (bytes s t)) (string_bytes (bytes s t))) × Fitting (held s (f t)))
      → string_size (drop p.offset s) ≡ gives p.size → as_leaf f (text s (trim 4 1 p)) ≡ gives v → CodesOf s tag p (holding s v)
  unfolding bytes
  of_text tag f r z e =
      let (x, q, h) = then_gives (text s (trim 4 1 p)) _ e in
      let (u, i) = text_is (trim 4 1 p) x q in
      let (k, g) = r (trim 4 1 p) in
      let here = bytes_drop s p.offset 4 (p.size - 5) in
      let back = string_back (drop p.offset s) p.size (drop_are p.offset s b) z in
      known tag (leaf (f x)) h (rw (← i) (record { tagged = rw k; good = rw k u; fitting = g; value = rw (k, here) (sym back) }))

  of_pointer : pointer_size (drop p.offset s) ≡ gives p.size
      → as_leaf (λ t. db_pointer t (trim (p.size - 12) 0 p)) (text s (trim 4 13 p)) ≡ gives v → CodesOf s 0x0C p (holding s v)
  unfolding row bytes
  of_pointer f e =
      let n = p.size - 12 in
      let (x, q, h) = then_gives (text s (trim 4 13 p)) _ e in
      let (u, i) = text_is (trim 4 13 p) x q in
      let (least, _) = pointer_is _ p.size f in
      let ids = bytes_trim s p n inside (omega arith) in
      let l : length (drop n (bytes s p)) ≡ 12 = omega (arith, length-drop n (bytes s p), bytes_length s p inside) in
      let here = bytes_drop s p.offset 4 (p.size - 17) in
      let back = pointer_back (drop p.offset s) p.size (drop_are p.offset s b) f in
      known 0x0C (leaf (db_pointer x (trim n 0 p))) h
      (rw (← i)
      (record { tagged = refl; good = u; fitting = ap length ids ∙ l; value = rw (ids, here) (sym back) }))

  of_regex : regex_size (drop p.offset s) ≡ gives p.size → content s p RegularExpression ≡ gives v → CodesOf s 0x0B p (holding s v)
  unfolding content row
  of_regex f e =
      let r = regex_back (drop p.offset s) p.size f in
      let a = r.pattern in
      let c = r.options in
      let i = bytes_here s p.offset (a ++ (0 ∷ (c ++ (0 ∷ [])))) r.behind r.is p.size r.size in
      let (j, k) = regex_here s p.offset a c r.behind r.is in
      let (x, q, h) = then_gives (pattern_options (bytes s p)) _ e in
      let z : ◌≡◌ {A = Part × Part} (part 0 (length a), part (length a + 1) (length c)) x =
      gives_injective (sym (ap pattern_options i ∙ pattern_options_of a c [] r.pattern_valid r.options_valid) ∙ q) in
      known 0x0B (leaf (regex (part p.offset x.0.size) (part (p.offset + x.1.offset) x.1.size))) h
      (rw (← z, j, k) (record { tagged = refl; good = rw (r.pattern_valid, r.options_valid); fitting = tt; value = i }))

  -- a length in front

  -- ---- binaries

  le32_here : 4 ≤ p.size → le32 (bytes s p) ≡ le32 (drop p.offset s)
  unfolding bytes
  le32_here h = le32_take p.size (drop p.offset s) h

  -- a binary, and one of the old subtype, whose data begin with their own length
  of_data : length (bytes s p) ≡ 5 + le32 (bytes s p) → eqb (get_or (bytes s p) 4 0) 2 ≡ false
      → gives (leaf (binary (get_or (bytes s p) 4 0) (trim 5 0 p))) ≡ gives v → CodesOf s 0x05 p (holding s v)
  unfolding row
  of_data l t e =
      let back = bytes_trim s p 5 inside (omega (arith, bytes_length s p inside)) in
      known 0x05 _ e (record { tagged = refl; good = refl; fitting = tt; value = rw back (binary_back _ (bytes_are s p b) l t) })

  of_old_data : length (bytes s p) ≡ 5 + le32 (bytes s p) → eqb (get_or (bytes s p) 4 0) 2 ≡ true → declares_data (bytes s p) ≡ true
      → gives (leaf (binary 2 (trim 9 0 p))) ≡ gives v → CodesOf s 0x05 p (holding s v)
  unfolding row
  of_old_data l t u e =
      let (j, i) = both_hold (leb 9 (length (bytes s p))) _ u in
      let (_, k) = both_hold (natural (le32 (drop 5 (bytes s p)))) _ i in
      let m = leb-true 9 (length (bytes s p)) j in
      let back = bytes_trim s p 9 inside (omega (arith, bytes_length s p inside)) in
      let is = old_binary_back (bytes s p) (bytes_are s p b) l t m (eqb-true _ _ k) in
      known 0x05 _ e (record { tagged = refl; good = refl; fitting = tt; value = rw back is })

  of_binary : binary_size (drop p.offset s) ≡ gives p.size → binary_value (bytes s p) p ≡ gives v → CodesOf s 0x05 p (holding s v)
  unfolding binary_value
  of_binary f e =
      let w = bytes s p in
      let (i, _) = binary_is _ p.size f in
      let l : length w ≡ 5 + le32 w = omega (arith, bytes_length s p inside, le32_here (omega arith)) in
      split (eqb (get_or w 4 0) 2)
      (λ t. let (u, x) = unless_gives (declares_data w) 12 _ (rw t at e) in of_old_data l t u x)
      (λ t. of_data l t (rw t at e))

  -- ---- every type

  of_scope : scope_size (drop p.offset s) ≡ gives p.size → scope_value (bytes s p) p ≡ gives v → CodesOf s 0x0F p (holding s v)
  of_scope f e =
      let w = bytes s p in
      let r = scope_says w p v e in
      let n = bytes_length s p inside in
      let (i, _) = scope_is _ p.size f in
      let c = bytes_within s p 8 (r.start - 9) inside (omega arith) in
      let d = bytes_trim s p r.start inside (omega arith) in
      let k : r.start ≡ 4 + (r.start - 4) = omega arith in
      let m : r.start - 9 ≡ r.start - 4 - 5 = omega arith in
      let l : le32 w ≡ length w = omega (arith, le32_here (omega arith)) in
      let g = scope_back w (r.start - 4) (bytes_are s p b) l r.framed_code in
      subst (λ (y : Value). CodesOf s 0x0F p (holding s y)) r.is
      (record { tagged = refl; good = rw c r.texts; value = rw (c, d) (rw (← m, ← k) at g) })

  content_codes : (t : ElementType) → framed (size_for t) (drop p.offset s) ≡ gives p.size → content s p t ≡ gives v
      → CodesOf s (tag_for t) p (holding s v)
  unfolding content framed_under row
  content_codes Boolean f e = of_bool f e
  content_codes Int32 f e = of_number 4 i32 int32 f refl (λ w a. i32_ranged w _ (omega arith)) i32_back e
  content_codes Double f e = of_number 8 le64 double f refl le64_below bytes64_back e
  content_codes Int64 f e = of_number 8 i64 int64 f refl (λ w a. i64_ranged w) i64_back e
  content_codes DateTime f e = of_number 8 i64 date_time f refl (λ w a. i64_ranged w) i64_back e
  content_codes Timestamp f e = of_timestamp f e
  content_codes ObjectId f e = known 0x07 _ e (record { tagged = refl; good = refl; fitting = size_is 12 f; value = refl })
  content_codes Decimal128 f e = known 0x13 _ e (record { tagged = refl; good = refl; fitting = size_is 16 f; value = refl })
  content_codes Null f e = known 0x0A _ e (of_size null 0 f refl tt (λ h. refl))
  content_codes Undefined f e = known 0x06 _ e (of_size undefined 0 f refl tt (λ h. refl))
  content_codes MinKey f e = known 0xFF _ e (of_size min_key 0 f refl tt (λ h. refl))
  content_codes MaxKey f e = known 0x7F _ e (of_size max_key 0 f refl tt (λ h. refl))
  content_codes String f e = of_text 0x02 string (λ t. (refl, tt)) f e
  content_codes JavaScriptCode f e = of_text 0x0D code (λ t. (refl, tt)) f e
  content_codes Symbol f e = of_text 0x0E symbol (λ t. (refl, tt)) f e
  content_codes DbPointer f e = of_pointer f e
  content_codes EmbeddedDocument f e = known 0x03 _ e (record { tagged = refl; good = refl; value = refl })
  content_codes Array f e = known 0x04 _ e (record { tagged = refl; good = refl; value = refl })
  content_codes Binary f e = of_binary f e
  content_codes RegularExpression f e = of_regex f e
  content_codes JavaScriptCodeWithScope f e = of_scope f e

pub value_codes : (s : List ℕ) → AreBytes s → (tag : ℕ) (p : Part) (v : Value) → p.offset + p.size ≤ length s
    → value_size tag (drop p.offset s) ≡ gives p.size → value_in s tag p ≡ gives v → CodesOf s tag p (holding s v)
unfolding value_in
value_codes s b tag p v inside f e =
    let (_, e1) = unless_gives (leb (p.offset + p.size) (length s)) 9 _ e in
    let (t, q, h) = then_gives (type_of tag) _ e1 in
    let c = content_codes s b p inside v t (sym (sized_by tag t (drop p.offset s) q) ∙ f) h in
    subst (λ (x : ℕ). CodesOf s x p (holding s v)) (sym (type_tag tag t q)) c

-- of what a step yields
pub element_codes : (s : List ℕ) → AreBytes s → (offset : ℕ) (e : Element) (v : Value) → step s (cursor offset false) ≡ gives (yield e)
    → value_of s e ≡ gives v → CodesOf s e.tag e.value (holding s v)
unfolding value_of
element_codes s a offset e v y x =
    let z = step_yields unlimited s (cursor offset false) e y in
    value_codes s a e.tag e.value v z.inside z.value_is_law (at_gives e.place _ x)
