-- `cstr::first_zero` goes round: the bytes passed are not zero.
use Prim.Native.Nat.{◌+◌, ◌≤◌}
use mathlib.Core.Path.{◌≡◌}
use lib.ListN.{length, drop}
use Rattle.bson.specs.Cstring.{first_zero}
use Rattle.cstr.proofs.first_zero.Given as goal

abbrev pub invariant-loop-i : goal.invariant-loop-i
invariant-loop-i l = (l.i ≤ length l.text) × (l.i + first_zero (drop l.i l.text) ≡ first_zero l.text)
