-- The bytes that the grammar gives numbers, texts and documents are read and framed as those (BSON 1.1, "Basic Types" and "Specification").
use Prim.Native.Nat.{ℕ, suc, ◌+◌, ◌*◌, ◌-◌, ◌/◌, ◌%◌, ◌≤◌, ◌<◌}
use mathlib.Core.Path.{◌≡◌, refl, sym, ap, ◌∙◌}
use mathlib.Core.List.{List, [], ◌∷◌, ◌++◌, append_assoc}
use mathlib.Core.Bool.{true}
use native.Mathlib.Nat.{add-zero, div-div-eq-div-mul, mod-eq_of_lt}
use native.Mathlib.Omega.{arith}
use lib.ListN.{length, get_or, length-append}
use lib.IntN.{ℤ, pos, negsuc}
use lib.Seq.{take-append_seam, drop-append-add, drop_at, get_or_at}
use lib.Dec.{eqb}
use borrow.Author.Tests.{le-leb, lt-ltb, le-ltb, eq-eqb, eqb-true}
use Rattle.bson.specs.Answer.{gives, then}
use Rattle.bson.specs.Bytes.{le32, le64, i32, i64, signed, part}
use Rattle.bson.specs.Utf8.{utf8}
use Rattle.bson.specs.Cstring.{is_zero, first_zero, cstring, valid_cstr, cstring_under, zero_text}
use Rattle.bson.specs.Framing.{length_field, fits, in_front, zero_ended, string_size, pointer_size, document_size, binary_size, scope_size}
use Rattle.bson.specs.Framing.{pattern_options, regex_size, pattern_options_under, regex_size_under}
use Rattle.bson.specs.Step.{admitted}
use Rattle.bson.specs.Grammar.{bytes32, bytes64, unsigned, string_bytes, element_bytes, document_of, Ranged}
use Rattle.laws.proofs.Common.{split, both_hold}

-- numbers

-- ---- numbers of four and eight bytes

pub length_bytes32 : (n : ℕ) → length (bytes32 n) ≡ 4
unfolding bytes32
length_bytes32 n = refl

pub length_bytes64 : (n : ℕ) → length (bytes64 n) ≡ 8
unfolding bytes64 bytes32
length_bytes64 n = refl

-- four digits, and what is above them
digits : (n : ℕ) → n % 256 + 256 * (n / 256 % 256) + 65536 * (n / 65536 % 256) + 16777216 * (n / 16777216 % 256) ≡ n % 0x1_0000_0000
digits n =
    let a = div-div-eq-div-mul n 256 256 in
    let b = div-div-eq-div-mul n 65536 256 in
    let c = div-div-eq-div-mul n 16777216 256 in
    omega arith

le32_digits : (n : ℕ) (rest : List ℕ) → le32 (bytes32 n ++ rest) ≡ n % 0x1_0000_0000
unfolding le32 bytes32
le32_digits n rest = digits n

pub le32_bytes : (n : ℕ) (rest : List ℕ) → n < 0x1_0000_0000 → le32 (bytes32 n ++ rest) ≡ n
le32_bytes n rest h = le32_digits n rest ∙ mod-eq_of_lt h

pub le64_bytes : (n : ℕ) (rest : List ℕ) → n < 0x1_0000_0000_0000_0000 → le64 (bytes64 n ++ rest) ≡ n
unfolding le64 bytes64
le64_bytes n rest h =
    let low = bytes32 n in
    let high = bytes32 (n / 0x1_0000_0000) in
    rw (
      append_assoc low high rest,
      le32_digits n (high ++ rest),
      drop_at low (high ++ rest) 4 (length_bytes32 n),
      le32_bytes (n / 0x1_0000_0000) rest (omega arith),
    ) (omega arith)

-- ---- signed numbers

pub signed_unsigned : (half : ℕ) (z : ℤ) → Ranged half z → signed half (unsigned half z) ≡ z
unfolding signed unsigned
signed_unsigned half (pos n) h = rw (lt-ltb n half h)
signed_unsigned half (negsuc n) h =
    let k : half + half - suc (half + half - suc n) ≡ n = omega arith in
    let l : half ≤ half + half - suc n = omega arith in
    rw (le-ltb _ _ l, k)

unsigned_below : (half : ℕ) (z : ℤ) → Ranged half z → unsigned half z < half + half
unfolding unsigned
unsigned_below half (pos n) h = omega arith
unsigned_below half (negsuc n) h = omega arith

pub i32_bytes : (z : ℤ) (rest : List ℕ) → Ranged 0x8000_0000 z → i32 (bytes32 (unsigned 0x8000_0000 z) ++ rest) ≡ z
unfolding i32
i32_bytes z rest h = rw (le32_bytes _ rest (unsigned_below 0x8000_0000 z h)) (signed_unsigned 0x8000_0000 z h)

pub i64_bytes : (z : ℤ) (rest : List ℕ) → Ranged 0x8000_0000_0000_0000 z → i64 (bytes64 (unsigned 0x8000_0000_0000_0000 z) ++ rest) ≡ z
unfolding i64
i64_bytes z rest h = rw (le64_bytes _ rest (unsigned_below 0x8000_0000_0000_0000 z h)) (signed_unsigned 0x8000_0000_0000_0000 z h)

-- a zero-ended text

-- ---- zero-ended texts

first_zero_law : (key rest : List ℕ) → first_zero key ≡ length key → first_zero (key ++ (0 ∷ rest)) ≡ length key
first_zero_law [] rest e = refl
first_zero_law (b ∷ key) rest e =
    split (is_zero b)
    (λ t. let z : 0 ≡ suc (length key) = rw t at e in absurd (omega arith))
    (λ t. let i : suc (first_zero key) ≡ suc (length key) = rw t at e in rw t (ap suc (first_zero_law key rest (omega arith))))

pub cstring_of : (key rest : List ℕ) → valid_cstr key ≡ true → cstring (key ++ (0 ∷ rest)) ≡ gives (length key)
unfolding zero_text cstring_under valid_cstr
cstring_of key rest h =
    let (z, u) = both_hold (eqb (first_zero key) (length key)) (utf8 key) h in
    let l : length key < length (key ++ (0 ∷ rest)) = omega (arith, length-append key (0 ∷ rest)) in
    rw (first_zero_law key rest (eqb-true _ _ z), lt-ltb _ _ l, take-append_seam key (0 ∷ rest), u)

pub pattern_options_of : (p o rest : List ℕ) → valid_cstr p ≡ true → valid_cstr o ≡ true
    → pattern_options (p ++ (0 ∷ (o ++ (0 ∷ rest)))) ≡ gives (part 0 (length p), part (length p + 1) (length o))
unfolding pattern_options_under
pattern_options_of p o rest h k =
    rw (cstring_of p (o ++ (0 ∷ rest)) h, drop-append-add p (0 ∷ (o ++ (0 ∷ rest))) 1, cstring_of o rest k)

-- tests that hold

-- ---- what is framed by a length

module _ (v : List ℕ) where
  pub length_field_of : (present least n : ℕ) → le32 v ≡ n → present ≤ length v → least ≤ n → n < 2147483648
      → length_field present least v ≡ gives n
  unfolding length_field
  length_field_of present least n e p l h = rw (e, le-leb _ _ p, le-leb _ _ l, lt-ltb _ _ h)

  pub fits_of : (size : ℕ) → size ≤ length v → fits size v ≡ gives size
  unfolding fits
  fits_of size h = rw (le-leb _ _ h)

  pub in_front_of : {A : Type 0} (size : ℕ) (number : List ℕ → A) → size ≤ length v → in_front size number v ≡ gives (number v)
  in_front_of size number h = rw (fits_of size h)

  pub zero_ended_of : (size : ℕ) → size ≤ length v → get_or v (size - 1) 0 ≡ 0 → zero_ended size v ≡ gives size
  unfolding zero_ended
  zero_ended_of size h z = rw (fits_of size h, z)

-- a length, bytes, a zero

module _ (n : ℕ) (b rest : List ℕ) where
  abbrev counted : List ℕ
  counted = bytes32 n ++ (b ++ (0 ∷ rest))

  length_counted : length counted ≡ length b + 5 + length rest
  length_counted = simp (length-append, length_bytes32) (omega arith)

  ahead : bytes32 n ++ (b ++ (0 ∷ [])) ++ rest ≡ counted
  ahead = append_assoc (bytes32 n) (b ++ (0 ∷ [])) rest ∙ ap (λ (l : List ℕ). bytes32 n ++ l) (append_assoc b (0 ∷ []) rest)

  zero_behind : (i : ℕ) → i ≡ length b + 5 → get_or counted (i - 1) 0 ≡ 0
  zero_behind i e =
      let k : length (bytes32 n ++ b) ≡ i - 1 = simp (length-append, length_bytes32) (omega arith) in
      ap (λ (v : List ℕ). get_or v (i - 1) 0) (sym (append_assoc (bytes32 n) b (0 ∷ rest))) ∙ get_or_at (bytes32 n ++ b) 0 rest 0 (i - 1) k

  -- framed by their length, up to the zero
  ended_of : (whole : ℕ → ℕ) (present least : ℕ) → whole n ≡ length b + 5 → present ≤ 5 → least ≤ n → n < 2147483648
      → (then (length_field present least counted) λ k. zero_ended (whole k) counted) ≡ gives (length b + 5)
  ended_of whole present least e p l h =
      let c = length_counted in
      let f = length_field_of counted present least n (le32_bytes n _ (omega arith)) (omega arith) l h in
      rw f (zero_ended_of counted (whole n) (omega arith) (zero_behind (whole n) e) ∙ ap gives e)

-- ---- lengths

pub length_string : (t : List ℕ) → length (string_bytes t) ≡ length t + 5
unfolding string_bytes
length_string t = length_counted (length t + 1) t [] ∙ add-zero (length t + 5)

pub length_document : (list : List ℕ) → length (document_of list) ≡ length list + 5
unfolding document_of
length_document list = length_counted (length list + 5) list [] ∙ add-zero (length list + 5)

pub length_element : (tag : ℕ) (key value : List ℕ) → length (element_bytes tag key value) ≡ 2 + length key + length value
unfolding element_bytes
length_element tag key value = simp length-append (omega arith)

-- ---- strings and documents

pub string_of : (t rest : List ℕ) → length t + 1 < 2147483648 → string_size (string_bytes t ++ rest) ≡ gives (length (string_bytes t))
unfolding string_size string_bytes
string_of t rest small =
    rw (length_string t, ahead (length t + 1) t rest)
    (ended_of (length t + 1) t rest (λ k. 4 + k) 4 1 (omega arith) (omega arith) (omega arith) small)

pub document_of_law : (list rest : List ℕ) → length list + 5 < 2147483648
    → document_size (document_of list ++ rest) ≡ gives (length (document_of list))
unfolding document_size document_of
document_of_law list rest small =
    rw (length_document list, ahead (length list + 5) list rest)
    (ended_of (length list + 5) list rest (λ k. k) 5 5 refl (omega arith) (omega arith) small)

pub document_admitted : (list : List ℕ) → length list + 5 < 2147483648 → admitted (document_of list) ≡ gives (length (document_of list))
unfolding admitted document_of
document_admitted list h =
    let n = length list + 5 in
    let l : length (counted n list []) ≡ n = length_counted n list [] ∙ add-zero n in
    let k : 5 ≤ n = omega arith in
    rw (
      l,
      le-leb 5 n k,
      le32_bytes n (list ++ (0 ∷ [])) (omega arith),
      lt-ltb n 2147483648 h,
      eq-eqb n n refl,
      zero_behind n list [] n refl,
    )

-- a string and twelve bytes, a length, the subtype and the data, two texts that end in a zero

-- ---- pointers, binaries, scopes and regexes

pub pointer_of : (t id rest : List ℕ) → length id ≡ 12 → length t + 1 < 2147483648
    → pointer_size (string_bytes t ++ id ++ rest) ≡ gives (length (string_bytes t ++ id))
unfolding pointer_size
pointer_of t id rest e h =
    let v = string_bytes t ++ (id ++ rest) in
    let l : length v ≡ length (string_bytes t) + (12 + length rest) = simp length-append (omega arith) in
    let i : length (string_bytes t) + 12 ≡ length (string_bytes t ++ id) = simp length-append (omega arith) in
    rw (append_assoc (string_bytes t) id rest, string_of t (id ++ rest) h)
    (fits_of v (length (string_bytes t) + 12) (omega arith) ∙ ap gives i)

pub binary_of : (n subtype : ℕ) (d rest : List ℕ) → n ≡ length d → n < 2147483648
    → binary_size (bytes32 n ++ (subtype ∷ d) ++ rest) ≡ gives (length (bytes32 n ++ (subtype ∷ d)))
unfolding binary_size
binary_of n subtype d rest e h =
    let v = bytes32 n ++ ((subtype ∷ d) ++ rest) in
    let l : length v ≡ 5 + n + length rest = simp (length-append, length_bytes32) (omega arith) in
    let i : 5 + n ≡ length (bytes32 n ++ (subtype ∷ d)) = simp (length-append, length_bytes32) (omega arith) in
    rw (append_assoc (bytes32 n) (subtype ∷ d) rest, length_field_of v 4 0 n (le32_bytes n _ (omega arith)) (omega arith) (omega arith) h)
    (fits_of v (5 + n) (omega arith) ∙ ap gives i)

-- the length of a code with scope counts itself
pub scope_of : (n : ℕ) (w rest : List ℕ) → n ≡ 4 + length w → n < 2147483648
    → scope_size (bytes32 n ++ w ++ rest) ≡ gives (length (bytes32 n ++ w))
unfolding scope_size
scope_of n w rest e h =
    let v = bytes32 n ++ (w ++ rest) in
    let l : length v ≡ n + length rest = simp (length-append, length_bytes32) (omega arith) in
    let i : n ≡ length (bytes32 n ++ w) = simp (length-append, length_bytes32) (omega arith) in
    rw (append_assoc (bytes32 n) w rest, length_field_of v 4 0 n (le32_bytes n _ (omega arith)) (omega arith) (omega arith) h)
    (fits_of v n (omega arith) ∙ ap gives i)

pub regex_of_law : (p o rest : List ℕ) → valid_cstr p ≡ true → valid_cstr o ≡ true
    → regex_size (p ++ (0 ∷ (o ++ (0 ∷ []))) ++ rest) ≡ gives (length (p ++ (0 ∷ (o ++ (0 ∷ [])))))
unfolding regex_size_under
regex_of_law p o rest h k =
    let e : p ++ (0 ∷ (o ++ (0 ∷ []))) ++ rest ≡ p ++ (0 ∷ (o ++ (0 ∷ rest))) = simp append_assoc in
    rw (e, pattern_options_of p o rest h k) (ap gives (simp length-append (omega arith)))
