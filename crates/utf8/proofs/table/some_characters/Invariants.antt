-- `utf8::table::some_characters` goes round: whole characters before `valid`, and the state stands for the bytes from there to i.
use Rattle.utf8.proofs.ChunkTable.{Judging}
use Rattle.utf8.proofs.table.some_characters.Given as goal

abbrev pub invariant-loop-i : goal.invariant-loop-i
invariant-loop-i l = Judging l.v l.valid l.left l.i
