-- What demand 3 says of two documents, had from its statement: how many values are reachable, and which value a lookup gives (RULES.md,
-- "The three demands").
use Rattle.std.specs.Prelude.{ℕ, ◌≡◌}
use Rattle.bson.specs.Answer.{gives}
use Rattle.bson.specs.Cstring.{unlimited}
use Rattle.bson.specs.Step.{Element}
use Rattle.bson.specs.Value.{read_at}
use Rattle.bson.specs.Lookup.{Found, get}
use Rattle.bson.specs.Reach.{Number, First}
use Rattle.bson.specs.Decided.{two_keys, null_in_scope}
use Rattle.bson.specs.ReachPoints.{key_a}
use Rattle.theorems.specs.Demand3.{Demand3}

pub record DemandPoints : Type 0 where
  -- a code with scope and the null in its scope are two values, and no other number is theirs
  pub two : Demand3 unlimited → (n : ℕ) → Number unlimited null_in_scope n → n ≡ 2
  -- of two elements of a key the first lies at 4, and a reading there gives what a lookup of the key gives
  pub first : Demand3 unlimited → (e : Element) → First unlimited two_keys key_a e → e.place ≡ 4
  pub value : Demand3 unlimited → (f : Found) → get two_keys key_a ≡ gives f → read_at two_keys 4 ≡ gives f.value
