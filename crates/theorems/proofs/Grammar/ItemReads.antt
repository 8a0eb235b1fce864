-- The bytes of a single value, wherever they lie in a slice, are framed and read as that value (BSON 1.1,
-- "Specification"; RULES.md, "Values").
use Prim.Native.Nat.{ℕ, ◌+◌, ◌-◌, ◌≤◌, ◌<◌}
use mathlib.Core.Path.{◌≡◌, refl, sym, ap, ◌∙◌}
use mathlib.Core.List.{List, [], ◌∷◌, ◌++◌, append_assoc, append-nil}
use mathlib.Core.Bool.{Bool, true, false, cond}
use native.Mathlib.Omega.{arith}
use lib.ListN.{length, get_or, drop, length-append}
use lib.Seq.{take-append_seam, drop-append_seam, drop-append-add, drop_at, drop-drop}
use lib.Dec.{eqb}
use borrow.Author.Tests.{le-leb, lt-ltb, eq-eqb, eqb-true}
use Rattle.bson.specs.Answer.{gives}
use Rattle.bson.specs.Bytes.{le32, le64, i32, i64, Part, part, bytes, trim}
use Rattle.bson.specs.Utf8.{utf8}
use Rattle.bson.specs.Cstring.{valid_cstr}
use Rattle.bson.specs.Tags
use Rattle.bson.specs.Framing.{fits, in_front, framed, value_size, framed_under}
use Rattle.bson.specs.Value
use Rattle.bson.specs.Grammar.{bytes32, string_bytes, binary_bytes, Item, row, Fitting}
use Rattle.bson.specs.Meaning.{held, Holding, single, holding}
use Rattle.laws.proofs.AnswerLaws.{then_from}
use Rattle.laws.proofs.Common.{split, both_hold}
use Rattle.laws.proofs.TagLaws.{size_for, sized_by}
use Rattle.laws.proofs.GrammarLaws.{length_bytes32, length_bytes64, le32_bytes, le64_bytes, i32_bytes, i64_bytes, length_string}
use Rattle.laws.proofs.GrammarLaws.{pattern_options_of, fits_of, in_front_of, string_of, pointer_of, binary_of, regex_of_law}
use Tags.{ElementType, Boolean, Int32, Double, Int64, DateTime, Timestamp, ObjectId, Decimal128, Null, Undefined, MinKey, MaxKey, String}
use Tags.{JavaScriptCode, Symbol, DbPointer, Binary, RegularExpression, fixed, as_string, tags, row_of, type_of}
use Value.{boolean, int32, int64, date_time, double, timestamp, object_id, decimal128, string, code, symbol, null, undefined, min_key, max_key}
use Value.{db_pointer, binary, regex, Leaf, Value, leaf, as_leaf, bool, timestamp_of, text, binary_value, content, value_in}

-- where from an offset on a slice has some bytes and others behind them

-- ---- bytes that lie at an offset

module _ (s : List ℕ) (offset : ℕ) (a back : List ℕ) (here : drop offset s ≡ a ++ back) where
  pub bytes_here : (size : ℕ) → size ≡ length a → bytes s (part offset size) ≡ a
  unfolding bytes
  bytes_here size e = rw (e, here) (take-append_seam a back)

  pub drop_behind : (next : ℕ) → next ≡ offset + length a → drop next s ≡ back
  drop_behind next e = rw e (sym (drop-drop (length a) offset s) ∙ ap (drop (length a)) here ∙ drop-append_seam a back)

-- a tag's type says how its values are read
value_by : (s : List ℕ) (tag : ℕ) (t : ElementType) (p : Part) → type_of tag ≡ gives t → p.offset + p.size ≤ length s
    → value_in s tag p ≡ content s p t
unfolding value_in
value_by s tag t p e inside = rw (le-leb _ _ inside) (then_from _ _ e)

-- ---- bytes that are framed and read

-- bytes of a tag at an offset, with others behind, are framed, and what is read holds this
pub record Reads (s : List ℕ) (offset tag : ℕ) (value back : List ℕ) (h : Holding) : Type 0 where
  pub sized : value_size tag (value ++ back) ≡ gives (length value)
  pub found : Value
  pub reads : value_in s tag (part offset (length value)) ≡ gives found
  pub holds : holding s found ≡ h

module _ (s : List ℕ) (offset : ℕ) (value back : List ℕ) (here : drop offset s ≡ value ++ back)
    (inside : offset + length value ≤ length s) where
  abbrev here_part : Part
  here_part = part offset (length value)

  pub here_bytes : bytes s here_part ≡ value
  here_bytes = bytes_here s offset value back here (length value) refl

  -- a type that has this tag frames and reads them
  pub typed_value : (tag : ℕ) (h : Holding) (t : ElementType) → type_of tag ≡ gives t
      → framed (size_for t) (value ++ back) ≡ gives (length value)
      → (x : Value) → content s here_part t ≡ gives x → holding s x ≡ h → Reads s offset tag value back h
  typed_value tag h t tagged f x c i =
      record { sized = sized_by tag t _ tagged ∙ f; found = x; reads = value_by s tag t here_part tagged inside ∙ c; holds = i }

  typed : (tag : ℕ) (item : Item) (t : ElementType) → type_of tag ≡ gives t → framed (size_for t) (value ++ back) ≡ gives (length value)
      → (x : Leaf) → content s here_part t ≡ gives (leaf x) → held s x ≡ item → Reads s offset tag value back (single item)
  typed tag item t tagged f x c h = typed_value tag (single item) t tagged f (leaf x) c (ap single h)

module _ (s : List ℕ) (offset : ℕ) (t rest : List ℕ) (here : drop offset s ≡ string_bytes t ++ rest) where
  -- the text of a string lies behind its length
  pub text_here : (size : ℕ) → size ≡ length t → bytes s (part (offset + 4) size) ≡ t
  unfolding string_bytes
  text_here size e =
      let n = bytes32 (length t + 1) in
      let l = length_bytes32 (length t + 1) in
      let behind = drop_behind s offset n _ (here ∙ append_assoc n (t ++ (0 ∷ [])) rest) (offset + 4) (omega arith) in
      bytes_here s (offset + 4) t (0 ∷ rest) (behind ∙ append_assoc t (0 ∷ []) rest) size e

  text_reads : (size : ℕ) → size ≡ length t → utf8 t ≡ true → text s (part (offset + 4) size) ≡ gives (part (offset + 4) size)
  unfolding text
  text_reads size e u = rw (text_here size e, u)

-- ---- values of a fixed size

-- bytes of a tag that read as an item wherever they lie in a slice
abbrev pub Readable : ℕ → List ℕ → Item → Type 0
Readable tag value item = (s : List ℕ) (offset : ℕ) (back : List ℕ) → length value < 2147483648 → drop offset s ≡ value ++ back
    → offset + length value ≤ length s → Reads s offset tag value back (single item)

-- a value of a fixed size
of_size : (tag : ℕ) (type : ElementType) (n : ℕ) (value : List ℕ) (item : Item) → type_of tag ≡ gives type
    → size_for type ≡ fixed n → length value ≡ n
    → ((s : List ℕ) (p : Part) → bytes s p ≡ value → (x : Leaf) × (content s p type ≡ gives (leaf x)) × (held s x ≡ item))
    → Readable tag value item
unfolding framed_under
of_size tag type n value item tagged z e c s offset back small here inside =
    let l = length-append value back in
    let (x, r, h) = c s _ (here_bytes s offset value back here inside) in
    typed s offset value back here inside tag item type tagged (rw z (fits_of (value ++ back) n (omega arith) ∙ ap gives (sym e))) x r h

number_of : {A : Type 0} (n : ℕ) (number : List ℕ → A) (f : A → Leaf) (a : A) (v value : List ℕ) → v ≡ value → length value ≡ n
    → number (value ++ []) ≡ a → as_leaf f (in_front n number v) ≡ gives (leaf (f a))
number_of n number f a v value e l i = rw (e, in_front_of value n number (omega arith), ← append-nil value, i)

-- ---- texts and pointers

-- a string, a code, a symbol
of_text : (tag : ℕ) (type : ElementType) (f : Part → Leaf) (g : List ℕ → Item) (t : List ℕ) → type_of tag ≡ gives type
    → size_for type ≡ as_string
    → ((s : List ℕ) (p : Part) → (content s p type ≡ as_leaf f (text s (trim 4 1 p))) × (held s (f p) ≡ g (bytes s p)))
    → utf8 t ≡ true → Readable tag (string_bytes t) (g t)
unfolding framed_under
of_text tag type f g t tagged z c u s offset back small here inside =
    let l = length_string t in
    let m = length (string_bytes t) - (4 + 1) in
    let e : m ≡ length t = omega arith in
    typed s offset (string_bytes t) back here inside tag (g t) type tagged (rw z (string_of t back (omega arith)))
    (f (part (offset + 4) m)) ((c s _).0 ∙ rw (text_reads s offset t back here m e u)) ((c s _).1 ∙ ap g (text_here s offset t back here m e))

of_pointer : (t id : List ℕ) → length id ≡ 12 → utf8 t ≡ true → Readable 0x0C (string_bytes t ++ id) (db_pointer t id)
unfolding framed_under content row_of tags
of_pointer t id i u s offset back small here inside =
    let n = length (string_bytes t ++ id) in
    let l : n ≡ length t + 17 = simp (length-append, length_string) (omega arith) in
    let m = n - (4 + 13) in
    let e : m ≡ length t = omega arith in
    let start = here ∙ append_assoc (string_bytes t) id back in
    let p = part (offset + (n - 12)) (n - (n - 12 + 0)) in
    let behind = drop_behind s offset (string_bytes t) (id ++ back) start (offset + (n - 12)) (omega (arith, length_string t)) in
    let ids : bytes s p ≡ id = bytes_here s (offset + (n - 12)) id back behind (n - (n - 12 + 0)) (omega arith) in
    typed s offset (string_bytes t ++ id) back here inside 0x0C (db_pointer t id) DbPointer refl (pointer_of t id back i (omega arith))
    (db_pointer (part (offset + 4) m) p) (rw (text_reads s offset t (id ++ back) start m e u))
    (rw (text_here s offset t (id ++ back) start m e, ids))

-- ---- binaries

-- a binary: its subtype stands behind the length, and its data behind that
subtype_of : (n subtype : ℕ) (w : List ℕ) → (get_or (bytes32 n ++ (subtype ∷ w)) 4 0 ≡ subtype) × (drop 5 (bytes32 n ++ (subtype ∷ w)) ≡ w)
unfolding bytes32
subtype_of n subtype w = (refl, refl)

data_here : (s : List ℕ) (offset n subtype : ℕ) (w back : List ℕ) → drop offset s ≡ bytes32 n ++ (subtype ∷ w) ++ back
    → drop (offset + 5) s ≡ w ++ back
data_here s offset n subtype w back here =
    sym (drop-drop 5 offset s) ∙ ap (drop 5) (here ∙ append_assoc (bytes32 n) (subtype ∷ w) back) ∙ (subtype_of n subtype (w ++ back)).1

of_data : (subtype : ℕ) (d : List ℕ) → eqb subtype 2 ≡ false → Readable 0x05 (bytes32 (length d) ++ (subtype ∷ d)) (binary subtype d)
unfolding framed_under content binary_value row_of tags
of_data subtype d other s offset back small here inside =
    let n = length d in
    let value = bytes32 n ++ (subtype ∷ d) in
    let l : length value ≡ 5 + n = simp (length-append, length_bytes32) (omega arith) in
    typed s offset value back here inside 0x05 (binary subtype d) Binary refl (binary_of n subtype d back refl (omega arith))
    (binary subtype (part (offset + 5) (length value - (5 + 0))))
    (rw (here_bytes s offset value back here inside, (subtype_of n subtype d).0, other))
    (ap (binary subtype) (bytes_here s (offset + 5) d back (data_here s offset n subtype d back here) _ (omega arith)))

of_old_data : (d : List ℕ) → Readable 0x05 (bytes32 (length d + 4) ++ (2 ∷ (bytes32 (length d) ++ d))) (binary 2 d)
unfolding framed_under content binary_value row_of tags
of_old_data d s offset back small here inside =
    let n = length d in
    let w = bytes32 n ++ d in
    let i : length w ≡ n + 4 = simp (length-append, length_bytes32) (omega arith) in
    let value = bytes32 (n + 4) ++ (2 ∷ w) in
    let l : length value ≡ 9 + n = simp (length-append, length_bytes32) (omega arith) in
    let inner = data_here s offset (n + 4) 2 w back here ∙ append_assoc (bytes32 n) d back in
    let behind = drop_behind s (offset + 5) (bytes32 n) (d ++ back) inner (offset + 9) (omega (arith, length_bytes32 n)) in
    let k : le32 w ≡ length value - 9 = le32_bytes n d (omega arith) ∙ omega arith in
    typed s offset value back here inside 0x05 (binary 2 d) Binary refl (binary_of (n + 4) 2 w back (omega arith) (omega arith))
    (binary 2 (part (offset + 9) (length value - (9 + 0))))
    (rw (
      here_bytes s offset value back here inside,
      (subtype_of (n + 4) 2 w).0,
      (subtype_of (n + 4) 2 w).1,
      le-leb 9 (length value) (omega arith),
      lt-ltb (le32 w) 0x8000_0000 (omega arith),
      eq-eqb (le32 w) (length value - 9) k,
    ))
    (ap (binary 2) (bytes_here s (offset + 9) d back behind _ (omega arith)))

of_binary : (subtype : ℕ) (d : List ℕ) → Readable 0x05 (binary_bytes subtype d) (binary subtype d)
unfolding binary_bytes
of_binary subtype d =
    split (eqb subtype 2)
    (λ t. rw (t, eqb-true subtype 2 t) (of_old_data d))
    (λ t. rw t (of_data subtype d t))

-- ---- regexes

-- a pattern lies in front, its options behind its zero
pub regex_here : (s : List ℕ) (offset : ℕ) (p o back : List ℕ) → drop offset s ≡ p ++ (0 ∷ (o ++ (0 ∷ []))) ++ back
    → (bytes s (part offset (length p)) ≡ p) × (bytes s (part (offset + (length p + 1)) (length o)) ≡ o)
regex_here s offset p o back here =
    let e = here ∙ append_assoc p (0 ∷ (o ++ (0 ∷ []))) back in
    let next = offset + (length p + 1) in
    let behind : drop next s ≡ o ++ (0 ∷ []) ++ back =
    sym (drop-drop (length p + 1) offset s) ∙ ap (drop (length p + 1)) e ∙ drop-append-add p (0 ∷ (o ++ (0 ∷ []) ++ back)) 1 in
    (bytes_here s offset p _ e (length p) refl, bytes_here s next o (0 ∷ back) (behind ∙ append_assoc o (0 ∷ []) back) (length o) refl)

of_regex : (p o : List ℕ) → valid_cstr p ≡ true → valid_cstr o ≡ true → Readable 0x0B (p ++ (0 ∷ (o ++ (0 ∷ [])))) (regex p o)
unfolding framed_under content row_of tags
of_regex p o h k s offset back small here inside =
    let value = p ++ (0 ∷ (o ++ (0 ∷ []))) in
    let (i, j) = regex_here s offset p o back here in
    typed s offset value back here inside 0x0B (regex p o) RegularExpression refl (regex_of_law p o back h k)
    (regex (part offset (length p)) (part (offset + (length p + 1)) (length o)))
    (rw (here_bytes s offset value back here inside, pattern_options_of p o [] h k))
    (rw (i, j))

-- ---- booleans and timestamps

bool_of : (b : Bool) → bool (cond b 1 0 ∷ []) ≡ gives b
unfolding bool fits
bool_of true = refl
bool_of false = refl

length_pair : (i t : ℕ) → length (bytes32 i ++ bytes32 t) ≡ 8
length_pair i t = simp (length-append, length_bytes32)

timestamp_of_law : (i t : ℕ) → i < 0x1_0000_0000 → t < 0x1_0000_0000 → timestamp_of (bytes32 i ++ bytes32 t) ≡ gives (i, t)
unfolding timestamp_of
timestamp_of_law i t h k =
    rw (
      in_front_of (bytes32 i ++ bytes32 t) 4 le32 (omega (arith, length_pair i t)),
      le32_bytes i (bytes32 t) h,
      drop_at (bytes32 i) (bytes32 t) 4 (length_bytes32 i),
      in_front_of (bytes32 t) 4 le32 (omega (arith, length_bytes32 t)),
      ← append-nil (bytes32 t),
      le32_bytes t [] k,
    )

-- ---- every item

-- every item's bytes read as the item
pub item_reads : (v : Item) → Fitting v → (row v).good ≡ true → Readable (row v).tag (row v).value v
unfolding row content row_of tags
item_reads (double n) f g =
    of_size 0x01 Double 8 _ (double n) refl refl (length_bytes64 n) λ s p e.
    (double n, number_of 8 le64 double n _ _ e (length_bytes64 n) (le64_bytes n [] f), refl)
item_reads (string t) f g = of_text 0x02 String string string t refl refl (λ s p. (refl, refl)) g
item_reads (binary subtype d) f g = of_binary subtype d
item_reads undefined f g = of_size 0x06 Undefined 0 [] undefined refl refl refl λ s p e. (undefined, refl, refl)
item_reads (object_id id) f g = of_size 0x07 ObjectId 12 id (object_id id) refl refl f λ s p e. (object_id p, refl, ap object_id e)
item_reads (boolean b) f g = of_size 0x08 Boolean 1 _ (boolean b) refl refl refl λ s p e. (boolean b, rw (e, bool_of b), refl)
item_reads (date_time n) f g =
    of_size 0x09 DateTime 8 _ (date_time n) refl refl (length_bytes64 _) λ s p e.
    (date_time n, number_of 8 i64 date_time n _ _ e (length_bytes64 _) (i64_bytes n [] f), refl)
item_reads null f g = of_size 0x0A Null 0 [] null refl refl refl λ s p e. (null, refl, refl)
item_reads (regex p o) f g = let (h, k) = both_hold (valid_cstr p) (valid_cstr o) g in of_regex p o h k
item_reads (db_pointer t id) f g = of_pointer t id f g
item_reads (code t) f g = of_text 0x0D JavaScriptCode code code t refl refl (λ s p. (refl, refl)) g
item_reads (symbol t) f g = of_text 0x0E Symbol symbol symbol t refl refl (λ s p. (refl, refl)) g
item_reads (int32 n) f g =
    of_size 0x10 Int32 4 _ (int32 n) refl refl (length_bytes32 _) λ s p e.
    (int32 n, number_of 4 i32 int32 n _ _ e (length_bytes32 _) (i32_bytes n [] f), refl)
item_reads (timestamp i t) f g =
    of_size 0x11 Timestamp 8 _ (timestamp i t) refl refl (length_pair i t) λ s p e.
    (timestamp i t, rw (e, timestamp_of_law i t f.0 f.1), refl)
item_reads (int64 n) f g =
    of_size 0x12 Int64 8 _ (int64 n) refl refl (length_bytes64 _) λ s p e.
    (int64 n, number_of 8 i64 int64 n _ _ e (length_bytes64 _) (i64_bytes n [] f), refl)
item_reads (decimal128 d) f g = of_size 0x13 Decimal128 16 d (decimal128 d) refl refl f λ s p e. (decimal128 p, refl, ap decimal128 e)
item_reads min_key f g = of_size 0xFF MinKey 0 [] min_key refl refl refl λ s p e. (min_key, refl, refl)
item_reads max_key f g = of_size 0x7F MaxKey 0 [] max_key refl refl refl λ s p e. (max_key, refl, refl)
