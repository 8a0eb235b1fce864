-- What a value opens, and how deep the values inside lie (RULES.md, "The whole check").
use Rattle.std.specs.Prelude.{ℕ, ◌+◌, Bool, true, false}
use Rattle.bson.specs.Bytes.{Part}
use Rattle.bson.specs.Value.{Value, leaf, document, array, code_with_scope}

-- what there is to go into: nothing, or a document in a part of the slice, whether an array, its values so many levels deeper
pub data Opening : Type 0 where
  closed : Opening
  opens : (is_array : Bool) (levels : ℕ) (inner : Part) → Opening

-- "inside documents and arrays one more, inside a scope two more"
unfoldable pub opening : Value → Opening
opening (leaf v) = closed
opening (document p) = opens false 1 p
opening (array p) = opens true 1 p
opening (code_with_scope c p) = opens false 2 p

-- where a document lies: whether it is an array, its offset in the outermost slice, the depth of its values
pub record Level : Type 0 where
  pub is_array : Bool
  pub base : ℕ
  pub depth : ℕ

-- "top values have depth 0"
abbrev pub outermost : Level
outermost = record { is_array = false; base = 0; depth = 0 }

abbrev pub deeper : Level → Bool → ℕ → Part → Level
deeper l is_array levels p = record { is_array = is_array; base = l.base + p.offset; depth = l.depth + levels }
