-- Numbers, texts and documents that are framed and read have just the bytes that the grammar gives them: the way back from GrammarLaws
-- (BSON 1.1, "Basic Types" and "Specification").
use Prim.Native.Nat.{ℕ, suc, ◌+◌, ◌*◌, ◌-◌, ◌/◌, ◌%◌, ◌≤◌, ◌<◌}
use mathlib.Core.Path.{◌≡◌, refl, sym, ap, ◌∙◌}
use mathlib.Core.List.{List, [], ◌∷◌, ◌++◌, append_assoc}
use mathlib.Core.Bool.{true, false}
use native.Mathlib.Nat.{mod-eq_of_lt}
use native.Mathlib.Omega.{arith}
use lib.ListN.{length, get_or, take, drop, length-append, length-take, length-drop, take-append-drop, get_or-eq_default}
use lib.Seq.{length-take-le, get_or-take, get_or-drop, take-suc, take-take, take-add, take_all, take-append_seam, drop-drop, split_at}
use lib.Dec.{ltb, eqb}
use borrow.Author.Tests.{ltb-true, ltb-false, eqb-true}
use Rattle.bson.specs.Answer.{gives}
use Rattle.bson.specs.Bytes.{AreBytes, le32, le64, i32, i64, signed, Part, part, bytes}
use Rattle.bson.specs.Cstring.{valid_cstr}
use Rattle.bson.specs.Framing.{string_size, pointer_size, regex_size, pattern_options}
use Rattle.bson.specs.Step.{admitted}
use Rattle.bson.specs.Grammar.{bytes32, bytes64, unsigned, string_bytes, binary_bytes, scope_bytes, document_of, Ranged}
use Rattle.laws.proofs.AnswerLaws.{then_gives}
use Rattle.laws.proofs.BytesLaws.{bytes_length, bytes_drop}
use Rattle.laws.proofs.Common.{split}
use Rattle.laws.proofs.CstringLaws.{cstring_below, cstring_valid, cstring_splits}
use Rattle.laws.proofs.FramingLaws.{fits_is, string_is, regex_is}
use Rattle.laws.proofs.GrammarLaws.{pattern_options_of}
use Rattle.laws.proofs.StepLaws.{admitted_says}

-- bytes of bytes

-- ---- lists of bytes

pub drop_are : (n : ℕ) (s : List ℕ) → AreBytes s → AreBytes (drop n s)
drop_are n s b i = rw (get_or-drop n s i 0) (b (n + i))

take_are : (n : ℕ) (s : List ℕ) → AreBytes s → AreBytes (take n s)
take_are n s b i =
    split (ltb i n)
    (λ t. rw (get_or-take n s i 0 (ltb-true i n t)) (b i))
    (λ t. let h : length (take n s) ≤ i = omega (arith, ltb-false i n t, length-take n s) in
    rw (get_or-eq_default (take n s) 0 h) (omega arith))

pub bytes_are : (s : List ℕ) (p : Part) → AreBytes s → AreBytes (bytes s p)
unfolding bytes
bytes_are s p b = take_are p.size (drop p.offset s) (drop_are p.offset s b)

-- numbers

-- ---- numbers of four and eight bytes

pub le32_below : (v : List ℕ) → AreBytes v → le32 v < 0x1_0000_0000
unfolding le32
le32_below v b = omega (arith, b 0, b 1, b 2, b 3)

pub le64_below : (v : List ℕ) → AreBytes v → le64 v < 0x1_0000_0000_0000_0000
unfolding le64
le64_below v b = omega (arith, le32_below v b, le32_below (drop 4 v) (drop_are 4 v b))

-- the digits of a number of four bytes are the bytes
digits_back : (a b c d : ℕ) → a < 256 → b < 256 → c < 256 → d < 256
    → bytes32 (a + 256 * b + 65536 * c + 16777216 * d) ≡ a ∷ (b ∷ (c ∷ (d ∷ [])))
unfolding bytes32
digits_back a b c d h i j k =
    let n = a + 256 * b + 65536 * c + 16777216 * d in
    let x : n / 256 ≡ b + 256 * c + 65536 * d = omega arith in
    let y : n / 65536 ≡ c + 256 * d = omega arith in
    let z : n / 16777216 ≡ d = omega arith in
    let e : n % 256 ≡ a = omega arith in
    let f : (b + 256 * c + 65536 * d) % 256 ≡ b = omega arith in
    let g : (c + 256 * d) % 256 ≡ c = omega arith in
    rw (x, y, z, e, f, g, mod-eq_of_lt k)

front_bytes : (v : List ℕ) → 4 ≤ length v → take 4 v ≡ get_or v 0 0 ∷ (get_or v 1 0 ∷ (get_or v 2 0 ∷ (get_or v 3 0 ∷ [])))
front_bytes [] h = absurd (omega arith)
front_bytes (a ∷ []) h = absurd (omega arith)
front_bytes (a ∷ (b ∷ [])) h = absurd (omega arith)
front_bytes (a ∷ (b ∷ (c ∷ []))) h = absurd (omega arith)
front_bytes (a ∷ (b ∷ (c ∷ (d ∷ v)))) h = refl

pub bytes32_back : (v : List ℕ) → AreBytes v → 4 ≤ length v → bytes32 (le32 v) ≡ take 4 v
unfolding le32
bytes32_back v b h = digits_back (get_or v 0 0) (get_or v 1 0) (get_or v 2 0) (get_or v 3 0) (b 0) (b 1) (b 2) (b 3) ∙ sym (front_bytes v h)

-- what is above four digits does not count in them
digits_low : (a b : ℕ) → bytes32 (a + 4294967296 * b) ≡ bytes32 a
unfolding bytes32
digits_low a b =
    let n = a + 4294967296 * b in
    let w : n % 256 ≡ a % 256 = omega arith in
    let x : n / 256 ≡ a / 256 + 16777216 * b = omega arith in
    let y : n / 65536 ≡ a / 65536 + 65536 * b = omega arith in
    let z : n / 16777216 ≡ a / 16777216 + 256 * b = omega arith in
    let e : (a / 256 + 16777216 * b) % 256 ≡ a / 256 % 256 = omega arith in
    let f : (a / 65536 + 65536 * b) % 256 ≡ a / 65536 % 256 = omega arith in
    let g : (a / 16777216 + 256 * b) % 256 ≡ a / 16777216 % 256 = omega arith in
    rw (w, x, y, z, e, f, g)

pub bytes64_back : (v : List ℕ) → AreBytes v → 8 ≤ length v → bytes64 (le64 v) ≡ take 8 v
unfolding le64 bytes64
bytes64_back v b h =
    let low = le32 v in
    let high = le32 (drop 4 v) in
    let over : (low + 4294967296 * high) / 4294967296 ≡ high = omega (arith, le32_below v b) in
    let k : 4 ≤ length (drop 4 v) = omega (arith, length-drop 4 v) in
    rw (digits_low low high, over, bytes32_back v b (omega arith), bytes32_back (drop 4 v) (drop_are 4 v b) k) (sym (take-add 4 4 v))

-- ---- signed numbers, and timestamps

pub unsigned_signed : (half n : ℕ) → n < half + half → unsigned half (signed half n) ≡ n
unfolding signed unsigned
unsigned_signed half n h = split (ltb n half) (λ t. rw t) (λ t. rw t (omega (arith, ltb-false n half t)))

-- a number read by two's complement fits its bits, and more bits too
signed_ranged : (half wide n : ℕ) → 0 < half → half ≤ wide → Ranged wide (signed half n)
unfolding signed
signed_ranged half wide n h k =
    split (ltb n half) (λ t. rw t (omega (arith, ltb-true n half t))) (λ t. rw t (omega (arith, ltb-false n half t)))

pub i32_back : (v : List ℕ) → AreBytes v → 4 ≤ length v → bytes32 (unsigned 0x8000_0000 (i32 v)) ≡ take 4 v
unfolding i32
i32_back v b h = ap bytes32 (unsigned_signed 0x8000_0000 (le32 v) (le32_below v b)) ∙ bytes32_back v b h

pub i64_back : (v : List ℕ) → AreBytes v → 8 ≤ length v → bytes64 (unsigned 0x8000_0000_0000_0000 (i64 v)) ≡ take 8 v
unfolding i64
i64_back v b h = ap bytes64 (unsigned_signed 0x8000_0000_0000_0000 (le64 v) (le64_below v b)) ∙ bytes64_back v b h

pub i32_ranged : (v : List ℕ) (wide : ℕ) → 0x8000_0000 ≤ wide → Ranged wide (i32 v)
unfolding i32
i32_ranged v wide h = signed_ranged 0x8000_0000 wide (le32 v) (omega arith) h

pub i64_ranged : (v : List ℕ) → Ranged 0x8000_0000_0000_0000 (i64 v)
unfolding i64
i64_ranged v = signed_ranged 0x8000_0000_0000_0000 0x8000_0000_0000_0000 (le64 v) (omega arith) (omega arith)

-- the increment and the seconds
pub timestamp_back : (w : List ℕ) → AreBytes w → length w ≡ 8 → bytes32 (le32 w) ++ bytes32 (le32 (drop 4 w)) ≡ w
timestamp_back w b l =
    let k = length-drop 4 w in
    rw (bytes32_back w b (omega arith), bytes32_back (drop 4 w) (drop_are 4 w b) (omega arith), take_all 4 (drop 4 w) (omega arith))
    (take-append-drop 4 w)

-- texts and documents

-- ---- texts and pointers

-- a text without its length and its zero
text_back : (v : List ℕ) (n : ℕ) → 5 ≤ n → n ≤ length v → get_or v (n - 1) 0 ≡ 0
    → bytes v (part 4 (n - 5)) ++ (0 ∷ []) ≡ take (n - 4) (drop 4 v)
unfolding bytes
text_back v n l h z =
    let w = drop 4 v in
    let k : n - 4 ≡ suc (n - 5) = omega arith in
    let i : 4 + (n - 5) ≡ n - 1 = omega arith in
    let d : get_or w (n - 5) 0 ≡ 0 = get_or-drop 4 v (n - 5) 0 ∙ ap (λ (j : ℕ). get_or v j 0) i ∙ z in
    rw (k, take-suc w (n - 5) 0 (omega (arith, length-drop 4 v)), d)

pub string_back : (v : List ℕ) (n : ℕ) → AreBytes v → string_size v ≡ gives n → string_bytes (bytes v (part 4 (n - 5))) ≡ take n v
unfolding string_bytes
string_back v n b e =
    let (size, least, fits, zero) = string_is v n e in
    let l : length (bytes v (part 4 (n - 5))) + 1 ≡ le32 v = omega (arith, bytes_length v (part 4 (n - 5)) (omega arith)) in
    let i : n ≡ 4 + (n - 4) = omega arith in
    rw (l, bytes32_back v b (omega arith), text_back v n least fits zero) (sym (ap (λ (m : ℕ). take m v) i ∙ take-add 4 (n - 4) v))

-- a string and twelve bytes
pub pointer_back : (v : List ℕ) (n : ℕ) → AreBytes v → pointer_size v ≡ gives n
    → string_bytes (bytes v (part 4 (n - 17))) ++ drop (n - 12) (take n v) ≡ take n v
unfolding pointer_size
pointer_back v n b e =
    let (m, q, h) = then_gives (string_size v) _ e in
    let (i, _) = fits_is (m + 12) v n h in
    let j : m ≡ n - 12 = omega arith in
    let k : n - 17 ≡ n - 12 - 5 = omega arith in
    rw (k, string_back v (n - 12) b (q ∙ ap gives j), ← take-take (n - 12) n v (omega arith)) (take-append-drop (n - 12) (take n v))

-- ---- binaries

-- a binary: its length, its subtype, its data
binary_front : (w : List ℕ) → AreBytes w → length w ≡ 5 + le32 w → w ≡ bytes32 (length (drop 5 w)) ++ (get_or w 4 0 ∷ drop 5 w)
binary_front w b l =
    let k : length (drop 5 w) ≡ le32 w = omega (arith, length-drop 5 w) in
    rw (k, bytes32_back w b (omega arith)) (split_at w 4 0 (omega arith))

pub binary_back : (w : List ℕ) → AreBytes w → length w ≡ 5 + le32 w → eqb (get_or w 4 0) 2 ≡ false → w ≡ binary_bytes (get_or w 4 0) (drop 5 w)
unfolding binary_bytes
binary_back w b l t = rw t (binary_front w b l)

-- of the old subtype the data begin with their own length
pub old_binary_back : (w : List ℕ) → AreBytes w → length w ≡ 5 + le32 w → eqb (get_or w 4 0) 2 ≡ true
    → 9 ≤ length w → le32 (drop 5 w) ≡ length w - 9 → w ≡ binary_bytes 2 (drop 9 w)
unfolding binary_bytes
old_binary_back w b l t h e =
    let d = drop 5 w in
    let c = length-drop 5 w in
    let f = length-drop 9 w in
    let i : length (drop 9 w) + 4 ≡ length d = omega arith in
    let j : length (drop 9 w) ≡ le32 d = omega arith in
    let k : bytes32 (le32 d) ++ drop 9 w
    ≡ d = rw (bytes32_back d (drop_are 5 w b) (omega arith), ← drop-drop 4 5 w) (take-append-drop 4 d) in
    rw (i, j, k, ← eqb-true (get_or w 4 0) 2 t) (binary_front w b l)

-- ---- documents and scopes

-- a code with its scope: the length of all of it, the code as a string, and what is behind
pub scope_back : (w : List ℕ) (n : ℕ) → AreBytes w → le32 w ≡ length w → string_size (drop 4 w) ≡ gives n
    → w ≡ scope_bytes (bytes w (part 8 (n - 5))) (drop (4 + n) w)
unfolding scope_bytes
scope_back w n b l e =
    let c = drop 4 w in
    let t = ap string_bytes (bytes_drop w 4 4 (n - 5)) ∙ string_back c n (drop_are 4 w b) e in
    let k : 4 + length c ≡ le32 w = omega (arith, length-drop 4 w, string_is c n e) in
    rw (t, ← drop-drop n 4 w, take-append-drop n c, k, bytes32_back w b (omega (arith, length-drop 4 w))) (sym (take-append-drop 4 w))

pub document_back : (s : List ℕ) (m : ℕ) → AreBytes s → admitted s ≡ gives m → (list : List ℕ) → drop 4 s ≡ list ++ (0 ∷ [])
    → document_of list ≡ s
unfolding document_of
document_back s m b a list e =
    let (least, _, _, size, _) = admitted_says s m a in
    let l : length list + 5 ≡ le32 s = omega (arith, length-drop 4 s, ap length e, length-append list (0 ∷ [])) in
    rw (l, bytes32_back s b (omega arith), ← e) (take-append-drop 4 s)

-- ---- regexes

-- a pattern and its options: both valid, each with its zero, and what is behind them
pub record Regex (v : List ℕ) (n : ℕ) : Type 0 where
  pub pattern : List ℕ
  pub options : List ℕ
  pub behind : List ℕ
  pub pattern_valid : valid_cstr pattern ≡ true
  pub options_valid : valid_cstr options ≡ true
  pub is : v ≡ pattern ++ (0 ∷ (options ++ (0 ∷ []))) ++ behind
  pub size : n ≡ length (pattern ++ (0 ∷ (options ++ (0 ∷ []))))

pub regex_back : (v : List ℕ) (n : ℕ) → regex_size v ≡ gives n → Regex v n
regex_back v n e =
    let (p, o, x, y, i) = regex_is v n e in
    let w = drop (p + 1) v in
    let a = take p v in
    let c = take o w in
    let l : length a ≡ p = length-take-le p v (omega (arith, cstring_below v p x)) in
    let m : length c ≡ o = length-take-le o w (omega (arith, cstring_below w o y)) in
    record {
      pattern = a;
      options = c;
      behind = drop (o + 1) w;
      pattern_valid = cstring_valid v p x;
      options_valid = cstring_valid w o y;
      is = cstring_splits v p x ∙ ap (λ (z : List ℕ). a ++ (0 ∷ z)) (cstring_splits w o y) ∙ simp append_assoc;
      size = simp length-append (omega arith);
    }

-- its own bytes answer as they do with what is behind them
pub regex_alone : (v : List ℕ) (n : ℕ) → regex_size v ≡ gives n → pattern_options (take n v) ≡ pattern_options v
regex_alone v n e =
    let r = regex_back v n e in
    let a = r.pattern in
    let o = r.options in
    let behind : v ≡ a ++ (0 ∷ (o ++ (0 ∷ r.behind))) = r.is ∙ simp append_assoc in
    let alone : take n v ≡ a ++ (0 ∷ (o ++ (0 ∷ []))) =
    ap (λ (k : ℕ). take k v) r.size ∙ ap (take (length (a ++ (0 ∷ (o ++ (0 ∷ [])))))) r.is ∙ take-append_seam _ r.behind in
    let said = pattern_options_of a o [] r.pattern_valid r.options_valid in
    ap pattern_options alone ∙ said
    ∙ sym (ap pattern_options behind ∙ pattern_options_of a o r.behind r.pattern_valid r.options_valid)
