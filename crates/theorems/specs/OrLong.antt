-- What a limit on keys, patterns and options does, as one statement (RULES.md, request 2): how a text is read under it, and that it
-- turns an answer into 22 and into nothing else. Demand 3 under a limit is said in Demand3.antt, for every limit and for none.
use Rattle.std.specs.Prelude.{ℕ, ◌+◌, ◌≤◌, ◌≡◌, List, Bool, ◌⊎◌, take}
use Rattle.bson.specs.Answer.{Answer, gives, refuses}
use Rattle.bson.specs.Bytes.{bytes}
use Rattle.bson.specs.Cstring.{most, cstring_under, cstring}
use Rattle.bson.specs.Framing.{pattern_options_under, pattern_options}
use Rattle.bson.specs.Step.{Cursor, Element, yield, step_under, step}
use Rattle.bson.specs.Value.{read_at_under, read_with_under, read_at, read_with}
use Rattle.bson.specs.Lookup.{get_under, get_with_under, get, get_with}
use Rattle.bson.specs.Path.{get_path_under, get_path_with_under, get_path, get_path_with}
use Rattle.bson.specs.Check.{check_under, check}

-- the answer without a limit, or 22
abbrev pub OrLong : {A : Type 0} → Answer A → Answer A → Type 0
OrLong under without = (under ≡ without) ⊎ ((place : ℕ) × (under ≡ refuses 22 place))

pub record Limited (m : ℕ) : Type 0 where
  -- "a key, pattern or options may have at most m bytes"; one that has no more is read as without a limit
  pub at_most : (v : List ℕ) (k : ℕ) → cstring_under (most m) v ≡ gives k → k ≤ m
  pub kept : (v : List ℕ) (k : ℕ) → cstring v ≡ gives k → k ≤ m → cstring_under (most m) v ≡ gives k
  -- "the answer depends on the first m + 1 bytes of the rest alone"
  pub first : (v w : List ℕ) → take (m + 1) v ≡ take (m + 1) w → cstring_under (most m) v ≡ cstring_under (most m) w
  -- a limit turns an answer into 22 and into nothing else
  pub steps : (s : List ℕ) (c : Cursor) → OrLong (step_under (most m) s c) (step s c)
  pub readings : (s : List ℕ) (place : ℕ) → OrLong (read_at_under (most m) s place) (read_at s place)
  pub typed_readings : (s : List ℕ) (place tag : ℕ) → OrLong (read_with_under (most m) s place tag) (read_with s place tag)
  pub lookups : (s key : List ℕ) → OrLong (get_under (most m) s key) (get s key)
  pub typed_lookups : (s key : List ℕ) (tag : ℕ) → OrLong (get_with_under (most m) s key tag) (get_with s key tag)
  pub paths : (s path : List ℕ) → OrLong (get_path_under (most m) s path) (get_path s path)
  pub typed_paths : (s path : List ℕ) (tag : ℕ) → OrLong (get_path_with_under (most m) s path tag) (get_path_with s path tag)
  pub checks : (strict : Bool) (s : List ℕ) → OrLong (check_under (most m) strict s) (check strict s)
  -- so what passes under a limit passes without one, with the same count
  pub passes : (strict : Bool) (s : List ℕ) (n : ℕ) → check_under (most m) strict s ≡ gives n → check strict s ≡ gives n
  -- an element that is yielded under it has such a key and, where it is a regex, such texts, so that reading it needs no limit
  pub keys : (s : List ℕ) (c : Cursor) (e : Element) → step_under (most m) s c ≡ gives (yield e) → e.key.size ≤ m
  pub regexes : (s : List ℕ) (c : Cursor) (e : Element) → step_under (most m) s c ≡ gives (yield e) → e.tag ≡ 0x0B
      → pattern_options_under (most m) (bytes s e.value) ≡ pattern_options (bytes s e.value)
