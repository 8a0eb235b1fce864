-- What a document means: the elements that iterating it, reading its values and opening its documents, arrays and scopes yields (RULES.md,
-- "Writer and joining": what the writer closes "reads back"). Nothing here mentions the writer, the check or the bytes of a tree.
use Rattle.std.specs.Prelude.{ℕ, ◌≡◌, List, false}
use Rattle.bson.specs.Answer.{gives}
use Rattle.bson.specs.Bytes.{Part, bytes}
use Rattle.bson.specs.Step.{terminator, cursor, Element, past, yield, end, step}
use Rattle.bson.specs.Value.{mapped, Leaf, Value, read_at}
use Rattle.bson.specs.Value as value
use Rattle.bson.specs.Grammar.{Item, row, Nest, embedded, scope, document, array, nest_tag, Elements, none, leaf, nest}

-- the item that a leaf read from a slice holds: its parts' bytes
abbrev pub held : List ℕ → Leaf → Item
held s = mapped (bytes s)

-- what a value read from a slice holds: an item, or a nest, whose document lies in a part
pub data Holding : Type 0 where
  single : Item → Holding
  nested : Nest → Part → Holding

abbrev pub holding : List ℕ → Value → Holding
holding s (value.leaf v) = single (held s v)
holding s (value.document p) = nested (embedded document) p
holding s (value.array p) = nested (embedded array) p
holding s (value.code_with_scope c p) = nested (scope (bytes s c)) p

-- the step at an offset yields an element with this key and tag, and the value read there holds this
pub record Yields (s : List ℕ) (offset : ℕ) (key : List ℕ) (tag : ℕ) (h : Holding) (e : Element) : Type 0 where
  pub steps : step s (cursor offset false) ≡ gives (yield e)
  pub keyed : bytes s e.key ≡ key
  pub tagged : e.tag ≡ tag
  pub value : Value
  pub reads : read_at s offset ≡ gives value
  pub holds : holding s value ≡ h

-- from an offset on a document yields these elements, one after the other, and then the end, at its terminator
pub data MeansFrom : List ℕ → ℕ → Elements → Type 0 where
  ends : {s : List ℕ} {offset : ℕ} → offset ≡ terminator s → step s (cursor offset false) ≡ gives end → MeansFrom s offset none
  yields : {s : List ℕ} {offset : ℕ} {key : List ℕ} {item : Item} {rest : Elements} (e : Element)
      → Yields s offset key (row item).tag (single item) e → MeansFrom s (past e) rest → MeansFrom s offset (leaf key item rest)
  opens : {s : List ℕ} {offset : ℕ} {key : List ℕ} {n : Nest} {inner rest : Elements} (p : Part) (e : Element)
      → Yields s offset key (nest_tag n) (nested n p) e → MeansFrom (bytes s p) 4 inner → MeansFrom s (past e) rest
      → MeansFrom s offset (nest n key inner rest)

-- "iteration starts at 4"
abbrev pub Means : List ℕ → Elements → Type 0
Means s t = MeansFrom s 4 t
