-- `utf8::table::by_table` goes round: at every turn the bytes from b on decide, with what is left in the state.
use Rattle.utf8.proofs.TableLaws.{Going}
use Rattle.utf8.proofs.table.by_table.Given as goal

abbrev pub invariant-loop-b : goal.invariant-loop-b
invariant-loop-b l = Going l.s l.state l.b-index
