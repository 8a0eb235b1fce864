-- `cstr::plain_rest` goes round: the bytes passed are plain, and what is left of the text decides.
use Prim.Native.Nat.{◌+◌, ◌≤◌}
use mathlib.Core.Path.{◌≡◌}
use lib.ListN.{length, drop}
use Rattle.cstr.specs.Scan.{plain}
use Rattle.cstr.proofs.plain_rest.Given as goal

abbrev pub invariant-loop-i : goal.invariant-loop-i
invariant-loop-i l = (l.i ≤ length l.v) × (l.i + plain (drop l.i l.v) ≡ l.from + plain (drop l.from l.v))
