-- `tags::kind_of` goes round: the rows from the next on answer for the table.
use Rattle.tags.proofs.Table.{Searched}
use Rattle.tags.proofs.kind_of.Given as goal

abbrev pub invariant-loop-row : goal.invariant-loop-row
invariant-loop-row l = Searched l.row-items l.tag l.row-index
