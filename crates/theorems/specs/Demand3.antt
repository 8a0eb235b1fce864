-- Demand 3 as one statement: what the whole check finds out, and what a passed slice then answers (RULES.md, "The three demands"). What is
-- reachable, whole, absent and first is said in bson/specs/Reach.antt, without the check.
use Rattle.std.specs.Prelude.{ℕ, ◌≡◌, List, Bool, true, false, ◌↔◌, ◌⊎◌}
use Rattle.bson.specs.Answer.{gives, refuses}
use Rattle.bson.specs.Bytes.{bytes}
use Rattle.bson.specs.Cstring.{Limit}
use Rattle.bson.specs.Step.{terminator, cursor, Element, Step, step_under}
use Rattle.bson.specs.Value.{Value, read_at_under, read_with_under}
use Rattle.bson.specs.Lookup.{Found, get_under, get_bytes_under, get_with_under}
use Rattle.bson.specs.Path.{get_path_under, get_path_with_under}
use Rattle.bson.specs.Level.{Level}
use Rattle.bson.specs.Check.{check_under}
use Rattle.bson.specs.Reach.{Spot, start, Comes, Reachable, Whole, GoodKeys, Number, Absent, First}

-- by which numbers a path is refused where nothing is damaged
abbrev pub PathRefuses : ℕ → Type 0
PathRefuses k = (k ≡ 16) ⊎ ((k ≡ 17) ⊎ (k ≡ 21))

module _ (limit : Limit) where
  -- lookups of a key in a document where nothing is damaged
  pub record Lookups (d key : List ℕ) : Type 0 where
    -- absent, at the terminator, exactly when no element yielded from 4 has the key; refused by nothing else
    pub absent : (get_under limit d key ≡ refuses 16 (terminator d)) ↔ Absent limit d key
    pub refused : (k p : ℕ) → get_under limit d key ≡ refuses k p → (k ≡ 16) × (p ≡ terminator d)
    -- an element exactly when it is the first of the key, with its value as it reads, and its framed bytes
    pub first : (e : Element) → ((v : Value) × (get_under limit d key ≡ gives (record { element = e; value = v }))) ↔ First limit d key e
    pub reads : (f : Found) → get_under limit d key ≡ gives f → read_at_under limit d f.element.place ≡ gives f.value
    pub framed : (e : Element) → First limit d key e → get_bytes_under limit d key ≡ bytes d e.value
    -- a typed lookup: absent as the plain one; 17, at the first element's tag byte, exactly when its tag is another; else as the plain one
    pub typed_absent : (tag : ℕ) → (get_with_under limit d key tag ≡ refuses 16 (terminator d)) ↔ Absent limit d key
    pub typed_other : (tag p : ℕ)
        → (get_with_under limit d key tag ≡ refuses 17 p) ↔ ((e : Element) × First limit d key e × (p ≡ e.place) × (e.tag ≡ tag → ⊥))
    pub typed_first : (e : Element) (tag : ℕ) → First limit d key e → e.tag ≡ tag → get_with_under limit d key tag ≡ get_under limit d key
    pub typed_refused : (tag k p : ℕ) → get_with_under limit d key tag ≡ refuses k p → ((k ≡ 16) × (p ≡ terminator d)) ⊎ (k ≡ 17)

  -- what is not refused in a passed slice, at the slice itself and at every document, array and scope reached
  pub record Undamaged (s : List ℕ) : Type 0 where
    -- no step from 4 or from where the last one ended, whatever the mark
    pub steps : (σ : Spot) → Comes limit s σ → (mark : Bool)
        → (x : Step) × (step_under limit σ.document (cursor σ.offset mark) ≡ gives x)
    -- no reading of a reachable value; one with a tag says 17 exactly when the tag is another
    pub readings : (σ : Spot) → Reachable limit s σ → (v : Value) × (read_at_under limit σ.document σ.offset ≡ gives v)
    pub typed_readings : (σ : Spot) (x : Reachable limit s σ) (tag k p : ℕ)
        → (read_with_under limit σ.document σ.offset tag ≡ refuses k p) ↔ ((k ≡ 17) × (p ≡ σ.offset) × (x.element.tag ≡ tag → ⊥))
    pub lookups : (d : List ℕ) (l : Level) → Comes limit s (start d l) → (key : List ℕ) → Lookups d key
    -- "in a passed slice a path gives a value, 16, 17 or the new number", and so does a typed one
    pub paths : (d : List ℕ) (l : Level) → Comes limit s (start d l) → (path : List ℕ) (k p : ℕ) → get_path_under limit d path ≡ refuses k p
        → PathRefuses k
    pub typed_paths : (d : List ℕ) (l : Level) → Comes limit s (start d l) → (path : List ℕ) (tag k p : ℕ)
        → get_path_with_under limit d path tag ≡ refuses k p → PathRefuses k

  pub record Demand3 : Type 0 where
    -- "passes a slice exactly when it is admitted, every iteration so met ends at its own terminator, every reachable value can be read,
    -- and none lies deeper than 200"
    pub passes : (s : List ℕ) → ((n : ℕ) × (check_under limit false s ≡ gives n)) ↔ Whole limit s
    -- "the count it reports is the number of reachable values", of which there is one
    pub counts : (s : List ℕ) (n : ℕ) → check_under limit false s ≡ gives n → Number limit s n
    pub unique : (s : List ℕ) (m n : ℕ) → Number limit s m → Number limit s n → m ≡ n
    -- "in a passed slice no step [..], no reading of a reachable value and no lookup, at any level, is refused as damaged"
    pub undamaged : (s : List ℕ) (n : ℕ) → check_under limit false s ≡ gives n → Undamaged s
    -- the strict check passes exactly where the plain one does and every key of an array is good, with the same count
    pub strict : (s : List ℕ) (n : ℕ) → (check_under limit true s ≡ gives n) ↔ ((check_under limit false s ≡ gives n) × GoodKeys limit s)
