-- Paths into nested documents: one lookup after another (RULES.md, request 1).
use Rattle.std.specs.Prelude.{ℕ, ◌+◌, List, [], ◌∷◌, cond, leb, length}
use Rattle.bson.specs.Answer.{Answer, gives, refuses, then, at, unless}
use Rattle.bson.specs.Bytes.{Part, part, bytes}
use Rattle.bson.specs.Cstring.{is_zero, Limit, unlimited}
use Rattle.bson.specs.Step.{Element, handed}
use Rattle.bson.specs.Value.{mapped, Value, leaf, document, array, code_with_scope, of_tag}
use Rattle.bson.specs.Lookup.{Found, get_under}

-- ---- the keys of a path

-- "keys with a zero byte between them": the first, and those behind it. "The empty path is the one empty key"
abbrev pub keys_of : List ℕ → List ℕ × List (List ℕ)
keys_of [] = ([], [])
keys_of (b ∷ path) =
    let (key, keys) = keys_of path in
    cond (is_zero b) ([], key ∷ keys) (b ∷ key, keys)

-- ---- what is found inside a part, as it lies in the slice: places and parts so much further on

abbrev pub moved_part : ℕ → Part → Part
moved_part by p = part (by + p.offset) p.size

abbrev pub moved_element : ℕ → Element → Element
moved_element by e =
    record { place = by + e.place; tag = e.tag; key = moved_part by e.key; value = moved_part by e.value }

abbrev pub moved_value : ℕ → Value → Value
moved_value by (leaf v) = leaf (mapped (moved_part by) v)
moved_value by (document p) = document (moved_part by p)
moved_value by (array p) = array (moved_part by p)
moved_value by (code_with_scope c p) = code_with_scope (moved_part by c) (moved_part by p)

abbrev pub moved : ℕ → Answer Found → Answer Found
moved by (gives f) = gives (record { element = moved_element by f.element; value = moved_value by f.value })
moved by (refuses number place) = refuses number (by + place)

-- ---- lookup by a path

-- "through documents and arrays; a code with scope is not entered": "17 where a value on the way can't be entered"
abbrev pub entered : Value → Answer Part
entered (document p) = gives p
entered (array p) = gives p
entered (leaf v) = refuses 17 0
entered (code_with_scope c p) = refuses 17 0

-- "from the document, one key is used up at each level, by first match"
abbrev pub look_along : Limit → List ℕ → List ℕ → List (List ℕ) → Answer Found
look_along limit s key [] = get_under limit s key
look_along limit s key (next ∷ keys) =
    then (get_under limit s key) λ f.
    then (at f.element.place (entered f.value)) λ p.
    moved p.offset (look_along limit (bytes s p) next keys)

-- "a path of more than 201 keys is refused before the document is looked at"
unfoldable pub get_path_under : Limit → List ℕ → List ℕ → Answer Found
get_path_under limit s path =
    let (key, keys) = keys_of path in
    unless (leb (length keys) 200) 21
    (look_along limit s key keys)

-- the framed bytes of what is found; the twin is `get_path`
unfoldable pub get_path_bytes_under : Limit → List ℕ → List ℕ → List ℕ
get_path_bytes_under limit s path = handed s (then (get_path_under limit s path) λ f. gives f.element.value)

-- typed: "the value's refusal, then 17"
unfoldable pub get_path_with_under : Limit → List ℕ → List ℕ → ℕ → Answer Found
get_path_with_under limit s path tag = then (get_path_under limit s path) λ f. of_tag f.element tag f

-- ---- without a limit

abbrev pub get_path : List ℕ → List ℕ → Answer Found
get_path s path = get_path_under unlimited s path

abbrev pub get_path_bytes : List ℕ → List ℕ → List ℕ
get_path_bytes s path = get_path_bytes_under unlimited s path

abbrev pub get_path_with : List ℕ → List ℕ → ℕ → Answer Found
get_path_with s path tag = get_path_with_under unlimited s path tag
