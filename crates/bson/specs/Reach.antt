-- What one comes to from a document by iterating and by opening documents, arrays and scopes, and what is true of it where the
-- document is whole (RULES.md, "The whole check"). Nothing here mentions the check.
use Rattle.std.specs.Prelude.{ℕ, suc, ◌+◌, ◌≤◌, ◌<◌, ◌≡◌, ◌↔◌, Bool, true, false, length}
use mathlib.Core.List.{List, [], ◌∷◌, Memᴰ}
use Rattle.bson.specs.Answer.{gives}
use Rattle.bson.specs.Bytes.{Part, bytes}
use Rattle.bson.specs.Cstring.{Limit}
use Rattle.bson.specs.Step.{terminator, admitted, cursor, Element, past, yield, step_under}
use Rattle.bson.specs.Value.{Value, read_at_under}
use Rattle.bson.specs.ArrayKey.{good_array_key}
use Rattle.bson.specs.Level.{opens, opening, Level, outermost, deeper}

-- ---- spots

-- where an iteration stands: in a document that lies at a level, behind so many of its elements, at an offset
pub record Spot : Type 0 where
  pub document : List ℕ
  pub level : Level
  pub position : ℕ
  pub offset : ℕ

-- "iteration starts at 4"
abbrev pub start : List ℕ → Level → Spot
start d l = record { document = d; level = l; position = 0; offset = 4 }

-- behind an element
abbrev pub spot_behind : Spot → Element → Spot
spot_behind σ e = record { document = σ.document; level = σ.level; position = suc σ.position; offset = past e }

-- at the start of what a value opens
abbrev pub within : Spot → Bool → ℕ → Part → Spot
within σ is_array levels p = start (bytes σ.document p) (deeper σ.level is_array levels p)

-- the offset in the slice given of the tag byte at a spot
abbrev pub place_of : Spot → ℕ
place_of σ = σ.level.base + σ.offset

-- places rise from `low` on and stay below `high`
abbrev pub Rising : ℕ → List Spot → ℕ → Type 0
Rising low [] high = low ≤ high
Rising low (σ ∷ l) high = (low ≤ place_of σ) × Rising (suc (place_of σ)) l high

-- ---- what one comes to, and what is true of it where the document is whole

-- all of it under a limit on keys, or under none
module _ (limit : Limit) where
  -- the step at a spot yields an element
  abbrev pub YieldsAt : Spot → Element → Type 0
  YieldsAt σ e = step_under limit σ.document (cursor σ.offset false) ≡ gives (yield e)

  -- the spots that one comes to
  pub data Comes (s : List ℕ) : Spot → Type 0 where
    first : Comes s (start s outermost)
    next : {σ : Spot} (e : Element) → Comes s σ → YieldsAt σ e → Comes s (spot_behind σ e)
    into : {σ : Spot} (v : Value) (is_array : Bool) (levels : ℕ) (p : Part) → Comes s σ
        → read_at_under limit σ.document σ.offset ≡ gives v → opening v ≡ opens is_array levels p → Comes s (within σ is_array levels p)

  -- a reachable value, named by the spot at which a step yields it
  pub record Reachable (s : List ℕ) (σ : Spot) : Type 0 where
    pub comes : Comes s σ
    pub element : Element
    pub yields : YieldsAt σ element

  -- from an offset on, iteration comes to its document's own terminator. Nothing is said of what a step answers there
  pub data Ends (d : List ℕ) : ℕ → Type 0 where
    here : {offset : ℕ} → offset ≡ terminator d → Ends d offset
    later : {offset : ℕ} (e : Element) → step_under limit d (cursor offset false) ≡ gives (yield e) → Ends d (past e) → Ends d offset

  -- what the whole check is to find out: admitted, every iteration met ends at its own terminator, every reachable value can be read, none
  -- lies deeper than 200
  pub record Whole (s : List ℕ) : Type 0 where
    pub admits : admitted s ≡ gives (length s)
    pub ends : (d : List ℕ) (l : Level) → Comes s (start d l) → Ends d 4
    pub reads : (σ : Spot) → Reachable s σ → (v : Value) × (read_at_under limit σ.document σ.offset ≡ gives v)
    pub shallow : (σ : Spot) → Reachable s σ → σ.level.depth ≤ 200

  -- and the strict one: every key of an array is good
  abbrev pub GoodKeys : List ℕ → Type 0
  GoodKeys s =
      (σ : Spot) (x : Reachable s σ) → σ.level.is_array ≡ true
      → good_array_key σ.position (bytes σ.document x.element.key) ≡ true

  -- n is the number of reachable values: a list of them all and of nothing else, by rising place, so that none stands there twice
  pub record Number (s : List ℕ) (n : ℕ) : Type 0 where
    pub list : List Spot
    pub rising : Rising 0 list (length s)
    pub exactly : (σ : Spot) → Memᴰ σ list ↔ Reachable s σ
    pub size : length list ≡ n

  -- the offsets at which iterating a document from 4 steps
  pub data From (d : List ℕ) : ℕ → Type 0 where
    first : From d 4
    next : {offset : ℕ} (e : Element) → From d offset → step_under limit d (cursor offset false) ≡ gives (yield e) → From d (past e)

  -- an element that is yielded there
  pub record Among (d : List ℕ) (e : Element) : Type 0 where
    pub offset : ℕ
    pub from : From d offset
    pub yields : step_under limit d (cursor offset false) ≡ gives (yield e)

  -- no element has the key
  abbrev pub Absent : List ℕ → List ℕ → Type 0
  Absent d key = (e : Element) → Among d e → bytes d e.key ≡ key → ⊥

  -- the first element that has the key
  pub record First (d key : List ℕ) (e : Element) : Type 0 where
    pub among : Among d e
    pub keyed : bytes d e.key ≡ key
    pub none_before : (f : Element) → Among d f → f.place < e.place → bytes d f.key ≡ key → ⊥
