-- `appending::total` goes round: the runs so far and those left are all, up to the largest number.
use mathlib.Core.Path.{◌≡◌}
use Prim.Native.Nat.{◌+◌, min}
use lib.ListN.{drop, length}
use Rattle.bson.specs.Output.{joined}
use Rattle.appending.specs.Element.{texts_of}
use Rattle.appending.proofs.total.Given as goal

abbrev pub invariant-loop-run : goal.invariant-loop-run
invariant-loop-run l =
    min (l.size + length (joined (texts_of (drop l.run-index l.runs)))) 18446744073709551615
    ≡ min (length (joined (texts_of l.runs))) 18446744073709551615
