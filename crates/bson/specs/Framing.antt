-- Framing: how many bytes a value has. It "looks at the rest of the slice from the value's first byte, the terminator included"
-- (RULES.md, "Admission and one step").
use Rattle.std.specs.Prelude.{ℕ, ◌+◌, ◌-◌, List, length, get_or, drop, leb, eqb}
use Rattle.bson.specs.Answer.{Answer, gives, then, unless}
use Rattle.bson.specs.Bytes.{le32, natural, Part, part}
use Rattle.bson.specs.Cstring.{Limit, unlimited, cstring_under}
use Rattle.bson.specs.Tags.{Sized, fixed, as_string, as_pointer, as_document, as_binary, as_regex, as_scope, sized_of}

-- ---- length fields and sizes

-- "n is the i32 in front": so many bytes present and n not negative and at least its least, else 8
unfoldable pub length_field : ℕ → ℕ → List ℕ → Answer ℕ
length_field present least v =
    unless (leb present (length v)) 8
    (unless (leb least (le32 v)) 8
    (unless (natural (le32 v)) 8
    (gives (le32 v))))

-- "fits (9)"
unfoldable pub fits : ℕ → List ℕ → Answer ℕ
fits size v = unless (leb size (length v)) 9 (gives size)

-- a number that so many bytes in front hold
abbrev pub in_front : {A : Type 0} → ℕ → (List ℕ → A) → List ℕ → Answer A
in_front size number v = then (fits size v) λ _. gives (number v)

-- "fits (9), last byte zero (10)"
unfoldable pub zero_ended : ℕ → List ℕ → Answer ℕ
zero_ended size v =
    then (fits size v) λ n.
    unless (eqb (get_or v (n - 1) 0) 0) 10 (gives n)

-- ---- the classes of the table

-- "four bytes present and n at least 1 (8), fits (9), last byte zero (10)"
unfoldable pub string_size : List ℕ → Answer ℕ
string_size v = then (length_field 4 1 v) λ n. zero_ended (4 + n) v

-- "a DBPointer then needs 12 more (9)"
unfoldable pub pointer_size : List ℕ → Answer ℕ
pointer_size v = then (string_size v) λ n. fits (n + 12) v

-- "five bytes present and n at least 5 (8), fits (9), last byte zero (10)"
unfoldable pub document_size : List ℕ → Answer ℕ
document_size v = then (length_field 5 5 v) λ n. zero_ended n v

-- "four bytes present and n at least 0 (8), fits (9)"
unfoldable pub binary_size : List ℕ → Answer ℕ
binary_size v = then (length_field 4 0 v) λ n. fits (5 + n) v

-- the same; "so a code with scope of n from 0 to 3 is framed"
unfoldable pub scope_size : List ℕ → Answer ℕ
scope_size v = then (length_field 4 0 v) λ n. fits n v

-- "pattern 5, 6, then options 5, 6"
unfoldable pub pattern_options_under : Limit → List ℕ → Answer (Part × Part)
pattern_options_under limit v =
    then (cstring_under limit v) λ p.
    then (cstring_under limit (drop (p + 1) v)) λ o.
    gives (part 0 p, part (p + 1) o)

-- "pattern, zero, options, zero"
unfoldable pub regex_size_under : Limit → List ℕ → Answer ℕ
regex_size_under limit v = then (pattern_options_under limit v) λ r. gives (r.0.size + 1 + (r.1.size + 1))

unfoldable pub framed_under : Limit → Sized → List ℕ → Answer ℕ
framed_under limit (fixed n) v = fits n v
framed_under limit as_string v = string_size v
framed_under limit as_pointer v = pointer_size v
framed_under limit as_document v = document_size v
framed_under limit as_binary v = binary_size v
framed_under limit as_regex v = regex_size_under limit v
framed_under limit as_scope v = scope_size v

-- ---- the value of a tag

-- "tag, 7; framing"
unfoldable pub value_size_under : Limit → ℕ → List ℕ → Answer ℕ
value_size_under limit tag v = then (sized_of tag) λ z. framed_under limit z v

-- ---- without a limit

abbrev pub pattern_options : List ℕ → Answer (Part × Part)
pattern_options v = pattern_options_under unlimited v

abbrev pub regex_size : List ℕ → Answer ℕ
regex_size v = regex_size_under unlimited v

abbrev pub framed : Sized → List ℕ → Answer ℕ
framed z v = framed_under unlimited z v

abbrev pub value_size : ℕ → List ℕ → Answer ℕ
value_size tag v = value_size_under unlimited tag v
