-- One frame, one meaning: the whole check passes exactly the bytes of good trees, none deeper than 200, and each frame has one tree
-- (BSON 1.1, "Specification"; RULES.md, "The whole check"). The tree is bson/specs/Grammar.antt, and what a slice means
-- bson/specs/Meaning.antt.
use Rattle.std.specs.Prelude.{ℕ, ◌<◌, ◌≡◌, List, true, false, ◌↔◌, length}
use Rattle.bson.specs.Answer.{gives}
use Rattle.bson.specs.Bytes.{AreBytes}
use Rattle.bson.specs.Level.{Level}
use Rattle.bson.specs.Check.{check}
use Rattle.bson.specs.Grammar.{Elements, tree_bytes, size, Shallow, Good, Numbered}
use Rattle.bson.specs.Meaning.{Means}
use Rattle.bson.specs.Reach.{start, Comes}
use Rattle.bson.specs.Cstring.{unlimited}
use Rattle.theorems.specs.EveryByte.{OneRole}
use Rattle.theorems.specs.FirstChild.{child_of, LooksUp}

-- a slice is the bytes of a good tree of n values, none deeper than 200
pub record Frame (s : List ℕ) (n : ℕ) (t : Elements) : Type 0 where
  pub good : Good t
  pub shallow : Shallow 0 t
  pub bytes : tree_bytes t ≡ s
  pub counts : size t ≡ n

-- a document that is the bytes of one good tree, with no byte left over, and where a lookup answers the first child of the key
pub record OneTree (d : List ℕ) : Type 0 where
  pub tree : Elements
  pub good : Good tree
  pub bytes : tree_bytes tree ≡ d
  pub means : Means d tree
  pub every_byte : (i : ℕ) → i < length d → OneRole d i
  pub lookup : (key : List ℕ) → LooksUp d key (child_of key tree)

pub record OneMeaning : Type 0 where
  -- the plain check accepts a slice with n exactly where it is the bytes of a good tree of n values, none deeper than 200
  pub plain : (s : List ℕ) (n : ℕ) → AreBytes s → (check false s ≡ gives n) ↔ ((t : Elements) × Frame s n t)
  -- the strict one where in this tree the keys of arrays are as the writer makes them besides
  pub strict : (s : List ℕ) (n : ℕ) → AreBytes s
      → (check true s ≡ gives n) ↔ ((t : Elements) × Frame s n t × Numbered false 0 t)
  -- one frame, one tree
  pub injective : (t u : Elements) → Good t → Good u → tree_bytes t ≡ tree_bytes u → t ≡ u
  -- iterating, reading and opening the bytes of a tree gives the tree, and what gives a tree is its bytes
  pub reads : (t : Elements) → Good t → Means (tree_bytes t) t
  pub meant : (s : List ℕ) (t : Elements) → AreBytes s → Means s t → Good t × (tree_bytes t ≡ s)
  -- so slices that mean one tree are equal
  pub same : (s s' : List ℕ) (t : Elements) → AreBytes s → AreBytes s' → Means s t → Means s' t → s ≡ s'
  -- and in a passed slice the slice itself, and every document, array and scope reached, is one tree
  pub throughout : (s : List ℕ) (n : ℕ) → AreBytes s → check false s ≡ gives n → (d : List ℕ) (l : Level) → Comes unlimited s (start d l)
      → OneTree d
