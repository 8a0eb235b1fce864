-- `decimal::width_of` goes round: at every turn the number has k digits or more.
use Prim.Native.Nat.{◌≤◌}
use Rattle.bson.specs.Decimal.{width}
use Rattle.decimal.proofs.width_of.Given as goal

abbrev pub invariant-loop-k : goal.invariant-loop-k
invariant-loop-k l = l.k ≤ width l.n
