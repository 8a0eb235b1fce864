-- A size that framing gives fits the rest of the slice, and is no less than its class asks (RULES.md, "Admission and one step").
use Prim.Native.Nat.{ℕ, ◌+◌, ◌-◌, ◌≤◌, ◌<◌}
use mathlib.Core.Path.{◌≡◌, refl, sym, ap, ◌∙◌}
use mathlib.Core.List.{List}
use native.Mathlib.Omega.{arith}
use lib.ListN.{length, get_or, drop, length-drop}
use lib.Dec.{leb, eqb}
use borrow.Author.Tests.{leb-true, leb-false, ltb-true, eqb-true}
use Rattle.bson.specs.Answer.{gives, refuses}
use Rattle.bson.specs.Bytes.{le32, natural, Part, part}
use Rattle.bson.specs.Cstring.{Limit, most, cstring_under, cstring}
use Rattle.bson.specs.Tags.{Sized, fixed, as_string, as_pointer, as_document, as_binary, as_regex, as_scope, sized_of}
use Rattle.bson.specs.Framing.{length_field, fits, in_front, zero_ended, string_size, pointer_size, document_size, binary_size, scope_size}
use Rattle.bson.specs.Framing.{pattern_options, regex_size, framed, value_size, framed_under, pattern_options_under, regex_size_under}
use Rattle.bson.specs.Framing.{value_size_under}
use Rattle.laws.proofs.Common.{split}
use Rattle.laws.proofs.CstringLaws.{cstring_below, cstring_under_law, cstring_most, cstring_kept}
use Rattle.laws.proofs.AnswerLaws.{never, gives_injective, unless_gives, then_gives}

-- ---- length fields and fixed sizes

pub length_field_is : (present least : ℕ) (v : List ℕ) (n : ℕ) → length_field present least v ≡ gives n
    → (present ≤ length v) × (least ≤ n) × (n < 2147483648) × (le32 v ≡ n)
unfolding length_field
length_field_is present least v n e =
    let (t, e1) = unless_gives (leb present (length v)) 8 _ e in
    let (u, e2) = unless_gives (leb least (le32 v)) 8 _ e1 in
    let (w, e3) = unless_gives (natural (le32 v)) 8 _ e2 in
    let i : le32 v ≡ n = gives_injective e3 in
    (leb-true present (length v) t, omega (arith, leb-true least (le32 v) u), omega (arith, ltb-true (le32 v) 2147483648 w), i)

-- what fits is given back
pub fits_is : (size : ℕ) (v : List ℕ) (n : ℕ) → fits size v ≡ gives n → (n ≡ size) × (n ≤ length v)
unfolding fits
fits_is size v n e =
    let (t, e1) = unless_gives (leb size (length v)) 9 _ e in
    let i : size ≡ n = gives_injective e1 in
    (sym i, omega (arith, leb-true size (length v) t))

-- a number in front, where there are bytes enough
pub in_front_is : {A : Type 0} (size : ℕ) (number : List ℕ → A) (v : List ℕ) (a : A) → in_front size number v ≡ gives a
    → (size ≤ length v) × (number v ≡ a)
in_front_is size number v a e =
    let (n, q, h) = then_gives (fits size v) _ e in
    let f = fits_is size v n q in
    (omega arith, gives_injective h)

pub in_front_refuses : {A : Type 0} (size : ℕ) (number : List ℕ → A) (v : List ℕ) (n p : ℕ) → in_front size number v ≡ refuses n p
    → length v < size
unfolding fits
in_front_refuses size number v n p e =
    split (leb size (length v)) (λ t. never (sym (rw t at e))) (λ t. leb-false size (length v) t)

-- ---- strings, documents, pointers, binaries and scopes

pub zero_ended_is : (size : ℕ) (v : List ℕ) (n : ℕ) → zero_ended size v ≡ gives n → (n ≡ size) × (n ≤ length v) × (get_or v (n - 1) 0 ≡ 0)
unfolding zero_ended
zero_ended_is size v n e =
    let (m, q, h) = then_gives (fits size v) _ e in
    let (t, e1) = unless_gives (eqb (get_or v (m - 1) 0) 0) 10 _ h in
    let i : m ≡ n = gives_injective e1 in
    let f = fits_is size v m q in
    let z : get_or v (m - 1) 0 ≡ 0 = eqb-true _ _ t in
    (omega arith, omega arith, rw i at z)

-- a length, text, a zero
pub string_is : (v : List ℕ) (n : ℕ) → string_size v ≡ gives n → (n ≡ 4 + le32 v) × (5 ≤ n) × (n ≤ length v) × (get_or v (n - 1) 0 ≡ 0)
unfolding string_size
string_is v n e =
    let (m, q, h) = then_gives (length_field 4 1 v) _ e in
    let f = length_field_is 4 1 v m q in
    let z = zero_ended_is (4 + m) v n h in
    (omega arith, omega arith, z.1, z.2)

pub string_least : (v : List ℕ) (n : ℕ) → string_size v ≡ gives n → 5 ≤ n
string_least v n e = (string_is v n e).1

-- what admission asks of a document, besides that it ends where the slice ends
pub document_is : (v : List ℕ) (n : ℕ) → document_size v ≡ gives n
    → (le32 v ≡ n) × (5 ≤ n) × (n < 2147483648) × (n ≤ length v) × (get_or v (n - 1) 0 ≡ 0)
unfolding document_size
document_is v n e =
    let (m, q, h) = then_gives (length_field 5 5 v) _ e in
    let f = length_field_is 5 5 v m q in
    let z = zero_ended_is m v n h in
    (omega arith, omega arith, omega arith, z.1, z.2)

pub document_least : (v : List ℕ) (n : ℕ) → document_size v ≡ gives n → 5 ≤ n
document_least v n e = (document_is v n e).1

-- a string and twelve bytes
pub pointer_is : (v : List ℕ) (n : ℕ) → pointer_size v ≡ gives n → (17 ≤ n) × (n ≤ length v)
unfolding pointer_size
pointer_is v n e =
    let (m, q, h) = then_gives (string_size v) _ e in
    let f = fits_is (m + 12) v n h in
    (omega (arith, string_least v m q), f.1)

-- a length, the subtype, the data
pub binary_is : (v : List ℕ) (n : ℕ) → binary_size v ≡ gives n → (n ≡ 5 + le32 v) × (n ≤ length v)
unfolding binary_size
binary_is v n e =
    let (m, q, h) = then_gives (length_field 4 0 v) _ e in
    let f = fits_is (5 + m) v n h in
    (omega (arith, length_field_is 4 0 v m q), f.1)

-- its length counts all of it; whether that is enough, reading asks
pub scope_is : (v : List ℕ) (n : ℕ) → scope_size v ≡ gives n → (n ≡ le32 v) × (n ≤ length v)
unfolding scope_size
scope_is v n e =
    let (m, q, h) = then_gives (length_field 4 0 v) _ e in
    let f = fits_is m v n h in
    (omega (arith, length_field_is 4 0 v m q), f.1)

-- ---- regexes

-- the options begin behind the pattern's zero, and their zero is in the list too
pub pattern_options_fit : (v : List ℕ) (r : Part × Part) → pattern_options v ≡ gives r
    → (r.0.offset ≡ 0) × (r.1.offset ≡ r.0.size + 1) × (r.1.offset + r.1.size < length v)
unfolding pattern_options_under
pattern_options_fit v r e =
    let (p, q, h) = then_gives (cstring v) _ e in
    let (o, u, g) = then_gives (cstring (drop (p + 1) v)) _ h in
    let i : ◌≡◌ {A = Part × Part} (part 0 p, part (p + 1) o) r = gives_injective g in
    rw (← i) (refl, refl, omega (arith, cstring_below v p q, cstring_below (drop (p + 1) v) o u, length-drop (p + 1) v))

-- two texts, each with its zero
pub regex_is : (v : List ℕ) (n : ℕ) → regex_size v ≡ gives n
    → (p : ℕ) × (o : ℕ) × (cstring v ≡ gives p) × (cstring (drop (p + 1) v) ≡ gives o) × (n ≡ p + 1 + (o + 1))
unfolding regex_size_under pattern_options_under
regex_is v n e =
    let (r, q, h) = then_gives (pattern_options v) _ e in
    let (p, x, q1) = then_gives (cstring v) _ q in
    let (o, y, q2) = then_gives (cstring (drop (p + 1) v)) _ q1 in
    let i : ◌≡◌ {A = Part × Part} (part 0 p, part (p + 1) o) r = gives_injective q2 in
    (p, o, x, y, sym (ap (λ (z : Part × Part). z.0.size + 1 + (z.1.size + 1)) i ∙ gives_injective h))

pub regex_fits : (v : List ℕ) (n : ℕ) → regex_size v ≡ gives n → n ≤ length v
unfolding regex_size_under
regex_fits v n e =
    let (r, q, h) = then_gives (pattern_options v) _ e in
    let f = pattern_options_fit v r q in
    omega (arith, gives_injective h)

-- ---- any type

pub framed_fits : (z : Sized) (v : List ℕ) (n : ℕ) → framed z v ≡ gives n → n ≤ length v
unfolding framed_under
framed_fits (fixed m) v n e = (fits_is m v n e).1
framed_fits as_string v n e = (string_is v n e).2
framed_fits as_pointer v n e = (pointer_is v n e).1
framed_fits as_document v n e = (document_is v n e).3
framed_fits as_binary v n e = (binary_is v n e).1
framed_fits as_regex v n e = regex_fits v n e
framed_fits as_scope v n e = (scope_is v n e).1

pub value_size_fits : (tag : ℕ) (v : List ℕ) (n : ℕ) → value_size tag v ≡ gives n → n ≤ length v
unfolding value_size_under
value_size_fits tag v n e = let (z, q, h) = then_gives (sized_of tag) _ e in framed_fits z v n h

-- ---- under a limit

-- a size that is given under a limit is given without one
pub pattern_options_under_law : (limit : Limit) (v : List ℕ) (r : Part × Part) → pattern_options_under limit v ≡ gives r
    → pattern_options v ≡ gives r
unfolding pattern_options_under
pattern_options_under_law limit v r e =
    let (p, q, h) = then_gives (cstring_under _ v) _ e in
    let (o, u, g) = then_gives (cstring_under _ (drop (p + 1) v)) _ h in
    rw (cstring_under_law _ v p q, cstring_under_law _ (drop (p + 1) v) o u) g

-- a pattern and options that a limit lets through have no more bytes than it says, and the other way round
pub pattern_options_most : (m : ℕ) (v : List ℕ) (r : Part × Part) → pattern_options_under (most m) v ≡ gives r
    → (r.0.size ≤ m) × (r.1.size ≤ m)
unfolding pattern_options_under
pattern_options_most m v r e =
    let (p, q, h) = then_gives (cstring_under _ v) _ e in
    let (o, u, g) = then_gives (cstring_under _ (drop (p + 1) v)) _ h in
    let i : ◌≡◌ {A = Part × Part} (part 0 p, part (p + 1) o) r = gives_injective g in
    rw (← i) (cstring_most m v p q, cstring_most m (drop (p + 1) v) o u)

pub pattern_options_kept : (m : ℕ) (v : List ℕ) (r : Part × Part) → pattern_options v ≡ gives r → r.0.size ≤ m → r.1.size ≤ m
    → pattern_options_under (most m) v ≡ gives r
unfolding pattern_options_under
pattern_options_kept m v r e j k =
    let (p, q, h) = then_gives (cstring v) _ e in
    let (o, u, g) = then_gives (cstring (drop (p + 1) v)) _ h in
    let i : ◌≡◌ {A = Part × Part} (part 0 p, part (p + 1) o) r = gives_injective g in
    let a : p ≤ m = rw (← i) at j in
    let b : o ≤ m = rw (← i) at k in
    rw (cstring_kept m v p q a, cstring_kept m (drop (p + 1) v) o u b) g

framed_under_law : (limit : Limit) (z : Sized) (v : List ℕ) (n : ℕ) → framed_under limit z v ≡ gives n → framed z v ≡ gives n
unfolding framed_under regex_size_under
framed_under_law limit (fixed m) v n e = e
framed_under_law limit as_string v n e = e
framed_under_law limit as_pointer v n e = e
framed_under_law limit as_document v n e = e
framed_under_law limit as_binary v n e = e
framed_under_law limit as_regex v n e =
    let (r, q, h) = then_gives (pattern_options_under _ v) _ e in
    rw (pattern_options_under_law _ v r q) h
framed_under_law limit as_scope v n e = e

pub value_size_under_law : (limit : Limit) (tag : ℕ) (v : List ℕ) (n : ℕ) → value_size_under limit tag v ≡ gives n → value_size tag v ≡ gives n
unfolding value_size_under
value_size_under_law limit tag v n e =
    let (z, q, h) = then_gives (sized_of tag) _ e in
    rw q (framed_under_law _ z v n h)
