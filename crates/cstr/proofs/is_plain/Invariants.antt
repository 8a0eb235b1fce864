-- `cstr::is_plain` goes round: the bytes passed are plain, and what is left of the text decides.
use Prim.Native.Nat.{◌+◌, ◌-◌, ◌≤◌}
use mathlib.Core.Path.{◌≡◌}
use lib.ListN.{length, drop}
use Rattle.cstr.specs.Scan.{plain}
use Rattle.cstr.proofs.is_plain.Given as goal

abbrev pub invariant-loop-i : goal.invariant-loop-i
invariant-loop-i l = (l.i ≤ length l.k) × (l.i + plain (drop l.i l.k) ≡ plain l.k)

abbrev pub decreases-loop-i : goal.decreases-loop-i
decreases-loop-i l = length l.k - l.i
