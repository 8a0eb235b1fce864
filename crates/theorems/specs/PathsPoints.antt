-- What the statements on paths say of given bytes, had from them: from how many keys on a path is refused, where it leads, and by which
-- numbers it is refused where nothing is damaged (RULES.md, request 1).
use Rattle.std.specs.Prelude.{ℕ, ◌≤◌, ◌≡◌, List, [], replicate}
use Rattle.bson.specs.Answer.{gives, refuses}
use Rattle.bson.specs.Cstring.{unlimited}
use Rattle.bson.specs.Step.{past}
use Rattle.bson.specs.Lookup.{Found, get, get_at}
use Rattle.bson.specs.Path.{get_path, get_path_with}
use Rattle.bson.specs.Decided.{one_null}
use Rattle.bson.specs.ReachPoints.{key_a}
use Rattle.bson.specs.PathPoints.{ab, ab0, seven, deep}
use Rattle.theorems.specs.Demand3.{Demand3}
use Rattle.theorems.specs.Paths.{key_then_path, Paths}

pub record PathsPoints : Type 0 where
  -- 202 empty keys are refused whatever the slice; of 201 the first is looked up in it, and the others inside
  pub long : Paths unlimited → (s : List ℕ) → get_path s (replicate 201 0) ≡ refuses 21 0
  pub longest : Paths unlimited → (s : List ℕ) → get_path s (replicate 200 0) ≡ key_then_path unlimited s [] (replicate 199 0)
  -- the path of one letter is the lookup of that key
  pub one : Paths unlimited → (s : List ℕ) → get_path s key_a ≡ get s key_a
  -- a text in an array in a document lies at 21 of the whole, and is had there
  pub place : Paths unlimited → (f : Found) → get_path deep ab0 ≡ gives f → f.element.place ≡ 21
  pub there : Paths unlimited → (f : Found) → get_path deep ab0 ≡ gives f → get_at deep 21 ≡ gives f
  -- whatever a path finds in 20 bytes ends there
  pub inside : Paths unlimited → (path : List ℕ) (f : Found) → get_path seven path ≡ gives f → past f.element ≤ 20
  -- an int32 is found as such, and not as an int64
  pub typed : Paths unlimited → (f : Found) → get_path seven ab ≡ gives f → get_path_with seven ab 0x10 ≡ gives f
  pub other : Paths unlimited → (f : Found) → get_path_with seven ab 0x12 ≡ gives f → ⊥
  -- in the scope of a passed slice no path, plain or typed, is refused as damaged, as too deep or for a long key
  pub undamaged : Demand3 unlimited → (path : List ℕ) (k p : ℕ) → get_path one_null path ≡ refuses k p → (16 ≤ k) × (k ≤ 21)
  pub typed_undamaged : Demand3 unlimited → (path : List ℕ) (tag k p : ℕ) → get_path_with one_null path tag ≡ refuses k p
      → (16 ≤ k) × (k ≤ 21)
