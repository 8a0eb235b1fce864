-- What a lookup by a path answers, said by lookups of one key: the first key's, and the rest of the path inside what that finds; a path
-- of more than 200 zero bytes is 21; and what is found is had at its place in the slice given (RULES.md, request 1).
use Rattle.std.specs.Prelude.{ℕ, suc, ◌+◌, ◌≤◌, ◌<◌, ◌≡◌, List, [], ◌∷◌, ◌++◌, cond, ◌↔◌, eqb, length}
use Rattle.bson.specs.Answer.{Answer, gives, refuses, then, at}
use Rattle.bson.specs.Bytes.{Part, bytes}
use Rattle.bson.specs.Cstring.{first_zero, Limit}
use Rattle.bson.specs.Value.{parts_of}
use Rattle.bson.specs.Lookup.{Found, get_under, get_at_under}
use Rattle.bson.specs.Path.{keys_of, moved, entered, get_path_under, get_path_with_under}

-- how many zero bytes there are
abbrev pub zeros_in : List ℕ → ℕ
zeros_in [] = 0
zeros_in (b ∷ path) = cond (eqb b 0) (suc (zeros_in path)) (zeros_in path)

-- a lookup of a key, and of a path inside what it finds; what that finds or refuses, as it lies in the slice
abbrev pub key_then_path : Limit → List ℕ → List ℕ → List ℕ → Answer Found
key_then_path limit s key rest =
    then (get_under limit s key) λ f.
    then (at f.element.place (entered f.value)) λ p.
    moved p.offset (get_path_under limit (bytes s p) rest)

-- a part lies in the slice
abbrev pub LiesIn : List ℕ → Part → Type 0
LiesIn s p = p.offset + p.size ≤ length s

pub record Paths (limit : Limit) : Type 0 where
  -- "keys with a zero byte between them": a path of n zero bytes has n + 1 keys
  pub zeros : (path : List ℕ) → length ((keys_of path).0 ∷ (keys_of path).1) ≡ zeros_in path + 1
  -- a path without a zero byte is the lookup of a key
  pub one : (s key : List ℕ) → first_zero key ≡ length key → get_path_under limit s key ≡ get_under limit s key
  -- "from the document, one key is used up at each level, by first match": of a longer one the first key is, and the rest inside
  pub more : (s key rest : List ℕ) → first_zero key ≡ length key → zeros_in rest < 200
      → get_path_under limit s (key ++ (0 ∷ rest)) ≡ key_then_path limit s key rest
  -- "a path of more than 201 keys is refused before the document is looked at"
  pub long : (s path : List ℕ) → 200 < zeros_in path → get_path_under limit s path ≡ refuses 21 0
  -- a typed path finds what the plain one finds, where that has the tag
  pub typed : (s path : List ℕ) (tag : ℕ) (f : Found)
      → (get_path_with_under limit s path tag ≡ gives f) ↔ ((get_path_under limit s path ≡ gives f) × (f.element.tag ≡ tag))
  -- what is found is had at its place in the slice given, so that a reading there gives its value
  pub there : (s path : List ℕ) (f : Found) → get_path_under limit s path ≡ gives f → get_at_under limit s f.element.place ≡ gives f
  -- its framed bytes lie in the slice, and so do the parts of its value
  pub inside : (s path : List ℕ) (f : Found) → get_path_under limit s path ≡ gives f
      → LiesIn s f.element.value × LiesIn s (parts_of f.value).0 × LiesIn s (parts_of f.value).1
