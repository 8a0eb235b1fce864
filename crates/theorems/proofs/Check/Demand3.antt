-- Demand 3 holds (RULES.md, "The whole check").
use mathlib.Core.List.{List}
use mathlib.Core.Bool.{false}
use mathlib.Core.Path.{◌≡◌}
use Prim.Native.Nat.{ℕ}
use Rattle.bson.specs.Answer.{gives}
use Rattle.bson.specs.Level.{Level}
use Rattle.bson.specs.Reach.{start, Comes}
use Rattle.theorems.specs.Demand3.{Lookups, Undamaged, Demand3}
use Rattle.theorems.proofs.Check.Whole.{check_passes, strict_passes}
use Rattle.theorems.proofs.Check.Count.{check_counts, number_unique}
use Rattle.theorems.proofs.Check.Undamaged as passed
use Rattle.theorems.proofs.Check.PathsAnswer.{path_refused, path_with_refused}
use Rattle.bson.specs.Cstring.{Limit}
use Rattle.bson.specs.Check.{check_under}

module _ (limit : Limit) where
  lookups_hold : (s : List ℕ) (n : ℕ) → check_under limit false s ≡ gives n → (d : List ℕ) (l : Level) → Comes limit s (start d l)
      → (key : List ℕ) → Lookups limit d key
  lookups_hold s n p d l c key =
      record {
        absent = passed.lookup_absent limit s n p d l c key;
        refused = passed.lookup_refused limit s n p d l c key;
        first = passed.lookup_first limit s n p d l c key;
        reads = passed.lookup_value limit s n p d l c key;
        framed = passed.lookup_bytes limit s n p d l c key;
        typed_absent = passed.typed_absent limit s n p d l c key;
        typed_other = passed.typed_other limit s n p d l c key;
        typed_first = passed.typed_first limit s n p d l c key;
        typed_refused = passed.typed_refused limit s n p d l c key;
      }

  passed_undamaged : (s : List ℕ) (n : ℕ) → check_under limit false s ≡ gives n → Undamaged limit s
  passed_undamaged s n p =
      record {
        steps = passed.step_answers limit s n p;
        readings = passed.reading_answers limit s n p;
        typed_readings = passed.reading_other limit s n p;
        lookups = lookups_hold s n p;
        paths = path_refused limit s n p;
        typed_paths = path_with_refused limit s n p;
      }

  pub demand_3 : Demand3 limit
  demand_3 =
      record {
        passes = check_passes limit;
        counts = check_counts limit false;
        unique = number_unique limit;
        undamaged = passed_undamaged;
        strict = strict_passes limit;
      }
