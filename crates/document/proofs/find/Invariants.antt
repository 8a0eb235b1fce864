-- `document::find` goes round: the search from each offset is the whole search.
use Prim.Native.Nat.{◌-◌}
use lib.ListN.{length}
use Rattle.cstr.specs.Said.{limit_of}
use Rattle.document.proofs.Search.{Searching}
use Rattle.document.proofs.find.Given as goal

-- the loop goes over `whole`, which is all of the slice
abbrev pub invariant-loop-sizes : goal.invariant-loop-sizes
invariant-loop-sizes l = Searching (limit_of l.fn.limit) l.s l.key l.whole l.place

abbrev pub decreases-loop-sizes : goal.decreases-loop-sizes
decreases-loop-sizes l = length l.s - l.place
