-- The first child of a key in a tree, and what a lookup answers of it (RULES.md, "Values": a lookup "goes by equal bytes, stops at
-- the first match and reads it").
use Rattle.std.specs.Prelude.{ℕ, ◌≡◌, List, cond}
use Rattle.std.proofs.Math.Option.{Option, some}
use Rattle.std.proofs.Math.Option as option
use Rattle.bson.specs.Answer.{gives, refuses}
use Rattle.bson.specs.Bytes.{Part, bytes, same}
use Rattle.bson.specs.Step.{terminator}
use Rattle.bson.specs.Value.{Value}
use Rattle.bson.specs.Lookup.{Found, get, get_bytes}
use Rattle.bson.specs.Grammar.{Item, row, Nest, nest_tag, nest_bytes, Elements, none, leaf, nest, tree_bytes}
use Rattle.bson.specs.Meaning.{single, nested, holding, Means}

-- what an element of a tree holds
pub data Child : Type 0 where
  item : Item → Child
  inner : Nest → Elements → Child

abbrev pub child_of : List ℕ → Elements → Option Child
child_of key none = option.none
child_of key (leaf k v rest) = cond (same key k) (some (item v)) (child_of key rest)
child_of key (nest n k t rest) = cond (same key k) (some (inner n t)) (child_of key rest)

abbrev pub child_tag : Child → ℕ
child_tag (item v) = (row v).tag
child_tag (inner n t) = nest_tag n

abbrev pub child_bytes : Child → List ℕ
child_bytes (item v) = (row v).value
child_bytes (inner n t) = nest_bytes n (tree_bytes t)

-- a value read from a document is a child
abbrev pub Is : List ℕ → Value → Child → Type 0
Is d v (item i) = holding d v ≡ single i
Is d v (inner n t) = (p : Part) × (holding d v ≡ nested n p) × Means (bytes d p) t

-- the lookup finds a child: its tag, its framed bytes and its value
pub record Finds (d key : List ℕ) (c : Child) : Type 0 where
  pub found : Found
  pub answers : get d key ≡ gives found
  pub tagged : found.element.tag ≡ child_tag c
  pub framed : get_bytes d key ≡ child_bytes c
  pub value : Is d found.value c

-- or says that there is none
abbrev pub LooksUp : List ℕ → List ℕ → Option Child → Type 0
LooksUp d key (some c) = Finds d key c
LooksUp d key option.none = get d key ≡ refuses 16 (terminator d)
