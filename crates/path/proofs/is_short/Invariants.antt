-- `path::is_short` goes over the bytes: those passed are counted, and the first key is.
use Prim.Native.Nat.{◌+◌, ◌≤◌}
use mathlib.Core.Path.{◌≡◌}
use lib.ListN.{length}
use Rattle.path.proofs.Keys.{keys_from}
use Rattle.path.proofs.is_short.Given as goal

abbrev pub invariant-loop-i : goal.invariant-loop-i
invariant-loop-i l = (l.i ≤ length l.path) × (l.keys ≤ l.i + 1) × (keys_from l.path l.i + l.keys ≡ keys_from l.path 0 + 1)
