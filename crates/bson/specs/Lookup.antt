-- Lookup and typed lookup, along the iteration, and `is_empty` (RULES.md, "Values" and module 5).
use Rattle.std.specs.Prelude.{ℕ, List, Bool, cond, eqb}
use Rattle.bson.specs.Answer.{Answer, gives, refuses, then, at}
use Rattle.bson.specs.Bytes.{bytes, same}
use Rattle.bson.specs.Step.{terminator, admitted, Element, handed, Iteration, ended, broken, more, iterate_under}
use Rattle.bson.specs.Cstring.{Limit, unlimited}
use Rattle.bson.specs.Value.{Value, value_of, element_at_under, of_tag, Which, part_of}

-- what a lookup finds: the element and its value
pub record Found : Type 0 where
  pub element : Element
  pub value : Value

-- a match is read, which may refuse
unfoldable pub found : List ℕ → Element → Answer Found
found s e = then (value_of s e) λ v. gives (record { element = e; value = v })

-- "goes by equal bytes, stops at the first match"; "damage behind it is not seen, damage before it is returned; no match is 16".
-- A key that is not UTF-8 "matches nothing" (`other_key_unmatched`)
abbrev pub first : List ℕ → List ℕ → Iteration → Answer Element
first s key ended = refuses 16 (terminator s)
first s key (broken n p) = refuses n p
first s key (more e rest) =
    cond (same key (bytes s e.key))
    (gives e)
    (first s key rest)

-- "iteration starts at 4"
unfoldable pub find_under : Limit → List ℕ → List ℕ → Answer Element
find_under limit s key = first s key (iterate_under limit s 4)

-- "and reads it, returning the value's refusal if there is one"
unfoldable pub get_under : Limit → List ℕ → List ℕ → Answer Found
get_under limit s key = then (find_under limit s key) (found s)

-- "lookup hands back a part of the document, never of the key: the value's framed bytes"; the twin is `get`
unfoldable pub get_bytes_under : Limit → List ℕ → List ℕ → List ℕ
get_bytes_under limit s key = handed s (then (get_under limit s key) λ f. gives f.element.value)

-- "typed lookup: 16, then the value's refusal, then 17"
unfoldable pub get_with_under : Limit → List ℕ → List ℕ → ℕ → Answer Found
get_with_under limit s key tag = then (get_under limit s key) λ f. of_tag f.element tag f

-- the element at a place, and its value: "steps there first, then reads" (`get_at_value`)
unfoldable pub get_at_under : Limit → List ℕ → ℕ → Answer Found
get_at_under limit s place = then (element_at_under limit s place) (found s)

-- without a limit
abbrev pub get : List ℕ → List ℕ → Answer Found
get s key = get_under unlimited s key

abbrev pub get_bytes : List ℕ → List ℕ → List ℕ
get_bytes s key = get_bytes_under unlimited s key

abbrev pub get_with : List ℕ → List ℕ → ℕ → Answer Found
get_with s key tag = get_with_under unlimited s key tag

abbrev pub get_at : List ℕ → ℕ → Answer Found
get_at s place = get_at_under unlimited s place

-- a typed getter gives the number that the framed bytes hold
abbrev pub typed : {A : Type 0} → (List ℕ → Answer A) → List ℕ → List ℕ → ℕ → Answer A
typed number s key tag =
    then (get_with s key tag) λ f.
    at f.element.place (number (bytes s f.element.value))

-- or a part of the value; the twin is `get_with`
unfoldable pub get_part_under : Limit → List ℕ → List ℕ → ℕ → Which → List ℕ
get_part_under limit s key tag w = handed s (then (get_with_under limit s key tag) λ f. gives (part_of w f.value))

abbrev pub get_part : List ℕ → List ℕ → ℕ → Which → List ℕ
get_part s key tag w = get_part_under unlimited s key tag w

-- `is_empty`: a document of five bytes has no element
unfoldable pub is_empty : List ℕ → Answer Bool
is_empty s = then (admitted s) λ n. gives (eqb n 5)
