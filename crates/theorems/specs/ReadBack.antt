-- What the writer closes reads back as exactly the elements given, and every tree can be written (demand 2;
-- RULES.md, "Writer and joining").
use Rattle.std.specs.Prelude.{ℕ, suc, ◌≡◌, List, [], ◌∷◌, true, false, cond, length, take}
use Rattle.bson.specs.Answer.{Answer, gives, refuses}
use Rattle.bson.specs.Check.{check}
use Rattle.bson.specs.Decimal.{decimal}
use Rattle.bson.specs.Grammar.{Embedded, document, embedded, scope, is_array, Elements, none, leaf, nest, followed_by, count, tree_bytes, size}
use Rattle.bson.specs.Grammar.{Shallow, Fitting, Good, Numbered}
use Rattle.bson.specs.Meaning.{Means}
use Rattle.bson.specs.Writer.{fresh, used, depth, Desk, desk, Call, open_top, close, append, open_nest, answer}

-- ---- the tree of the elements given

-- a document that is open: its nest and its key in the one around it, and the elements in it so far
pub record Open : Type 0 where
  pub nest : Embedded
  pub key : List ℕ
  pub inside : Elements

abbrev pub open_of : Embedded → List ℕ → Elements → Open
open_of n key inside = record { nest = n; key = key; inside = inside }

-- the tree of the elements given: not begun, with its open documents, innermost first, or closed
pub data Building : Type 0 where
  unopened : Building
  building : (innermost : Open) (around : List Open) → Building
  built : Elements → Building

abbrev pub with : Open → Elements → Open
with o t = open_of o.nest o.key (followed_by o.inside t)

-- "inside an array it makes the keys itself, 0, 1, 2 on in decimal"
abbrev pub key_for : Open → List ℕ → List ℕ
key_for o key = cond (is_array (embedded o.nest)) (decimal (count o.inside)) key

-- what an accepted call makes of the tree
abbrev pub tree_after : Call → Building → Building
tree_after open_top unopened = building (open_of document [] none) []
tree_after (append key v) (building o around) = building (with o (leaf (key_for o key) v none)) around
tree_after (open_nest n key) (building o around) = building (open_of n (key_for o key) none) (o ∷ around)
tree_after close (building o []) = built o.inside
tree_after close (building o (p ∷ around)) = building (with p (nest (embedded o.nest) o.key o.inside none)) around
tree_after open_top (building o around) = building o around
tree_after c (built t) = built t
tree_after (append key v) unopened = unopened
tree_after (open_nest n key) unopened = unopened
tree_after close unopened = unopened

-- ---- sessions

-- "each call given the buffer and the state that the one before left"
pub record Session : Type 0 where
  pub left : Desk
  pub tree : Building

-- a refused call leaves all as it was
abbrev pub session_after : Call → Session → Answer Desk → Session
session_after c s (gives d) = record { left = d; tree = tree_after c s.tree }
session_after c s (refuses n p) = s

abbrev pub turn : Call → Session → Session
turn c s = session_after c s (answer c s.left)

abbrev pub run : List Call → Session → Session
run [] s = s
run (c ∷ cs) s = run cs (turn c s)

-- "begun fresh"
abbrev pub session_start : List ℕ → Session
session_start buffer = record { left = desk fresh buffer; tree = unopened }

-- what a call is given fits its type
abbrev pub Typed : List Call → Type 0
Typed [] = Unit
Typed (append key v ∷ cs) = Fitting v × Typed cs
Typed (open_top ∷ cs) = Typed cs
Typed (close ∷ cs) = Typed cs
Typed (open_nest n key ∷ cs) = Typed cs

-- every call is answered 0
abbrev pub Accepted : List Call → Session → Type 0
Accepted [] s = Unit
Accepted (c ∷ cs) s = ((d : Desk) × (answer c s.left ≡ gives d)) × Accepted cs (turn c s)

-- ---- what is written reads back

-- the used bytes are the tree's bytes; these mean the tree, and pass the whole check, plain and strict, with the number of its values
pub record ReadsBack (d : Desk) (t : Elements) : Type 0 where
  pub closed : depth d.state ≡ 0
  pub bytes : take (used d.state) d.buffer ≡ tree_bytes t
  pub means : Means (tree_bytes t) t
  pub numbered : Numbered false 0 t
  pub passes : check false (tree_bytes t) ≡ gives (size t)
  pub strict : check true (tree_bytes t) ≡ gives (size t)

-- how a session stands that began with a buffer: nothing is open before the top is opened, and after it is closed
abbrev pub Stands : List ℕ → Desk → Building → Type 0
Stands buffer d unopened = d ≡ desk fresh buffer
Stands buffer d (building o around) = depth d.state ≡ suc (length around)
Stands buffer d (built t) = ReadsBack d t

-- "what the writer closes, begun fresh and each call given the buffer and the state that the one before left, reads
-- back as exactly the elements given"
abbrev pub WriterReadsBack : Type 0
WriterReadsBack = (buffer : List ℕ) (calls : List Call) → Typed calls
    → Stands buffer (run calls (session_start buffer)).left (run calls (session_start buffer)).tree

-- ---- every tree that can be written is

-- a tree without code with scope, which the writer does not make
abbrev pub Unscoped : Elements → Type 0
Unscoped none = Unit
Unscoped (leaf key v rest) = Unscoped rest
Unscoped (nest (embedded n) key inner rest) = Unscoped inner × Unscoped rest
Unscoped (nest (scope t) key inner rest) = ⊥

-- a tree that the writer can build: its keys as the writer makes them, none deeper than 200
pub record Writable (t : Elements) : Type 0 where
  pub good : Good t
  pub unscoped : Unscoped t
  pub numbered : Numbered false 0 t
  pub shallow : Shallow 0 t

-- and by which calls, all answered 0, in a buffer of just its size
pub record Builds (t : Elements) (buffer : List ℕ) : Type 0 where
  pub calls : List Call
  pub typed : Typed calls
  pub accepted : Accepted calls (session_start buffer)
  pub finished : (run calls (session_start buffer)).tree ≡ built t
  pub whole : (run calls (session_start buffer)).left.buffer ≡ tree_bytes t

abbrev pub WriterBuilds : Type 0
WriterBuilds = (t : Elements) → Writable t → (buffer : List ℕ) → length buffer ≡ length (tree_bytes t) → Builds t buffer
