-- `utf8::ascii` goes round: `all` stands for the bytes before b.
use Rattle.utf8.proofs.AsciiLaws.{Seen}
use Rattle.utf8.proofs.ascii.Given as goal

abbrev pub invariant-loop-b : goal.invariant-loop-b
invariant-loop-b l = Seen l.v l.all l.b-index
