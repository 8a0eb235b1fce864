-- What is reachable, and which element of a key is not the first, each by a document that shows it (RULES.md, "The three demands").
use Rattle.std.specs.Prelude.{ℕ, List, [], ◌∷◌, false}
use Rattle.bson.specs.Cstring.{unlimited}
use Rattle.bson.specs.Step.{Element}
use Rattle.bson.specs.Reach.{Spot, start, Reachable, Among, First}
use Rattle.bson.specs.Vectors.{elem}
use Rattle.bson.specs.Decided.{two_keys, one_null, null_in_scope}

-- the null in the scope: its document lies at 15, and "inside a scope two more" is its depth
abbrev pub in_scope : Spot
in_scope = start one_null (record { is_array = false; base = 15; depth = 2 })

abbrev pub key_a : List ℕ
key_a = 0x61 ∷ []

-- the two elements of the key `a`
abbrev pub earlier : Element
earlier = elem 4 0x08 1 1

abbrev pub later : Element
later = elem 8 0x08 1 1

pub record ReachPoints : Type 0 where
  -- "by iterating and by opening documents, arrays and scopes"
  pub in_scope_law : Reachable unlimited null_in_scope in_scope
  -- iterating yields both elements of the key, and the later one is not the first
  pub both : Among unlimited two_keys earlier × Among unlimited two_keys later
  pub not_first : First unlimited two_keys key_a later → ⊥
