-- Every yielded byte is accounted for (RULES.md, request 13).
use mathlib.Core.Path.{refl}
use native.Mathlib.Omega.{arith}
use Rattle.bson.specs.Step.{iterate_under, elements}
use Rattle.theorems.specs.EveryYield.{extent, YieldedBytes}
use Rattle.theorems.proofs.Check.NoGap.{step_lies, scope_size_law, accounted, adds_from, told_from, overruns}
use Rattle.theorems.proofs.Check.WhereRefused.{check_met}

pub yielded_bytes : YieldedBytes
yielded_bytes limit s n a =
    let i = iterate_under limit s 4 in
    let x = accounted limit s n a in
    record {
      iteration = record {
        accounted = x;
        add_up = adds_from limit s n a 4 (extent (elements i)) i refl x;
        overrun = overruns limit s n a 4 i (omega arith) x;
        told = told_from limit s n a 4 i x;
        refused = check_met limit s n a;
      };
      steps = step_lies limit s;
      scopes = scope_size_law limit s;
    }
