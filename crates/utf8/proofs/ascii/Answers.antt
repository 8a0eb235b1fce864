-- `utf8::ascii` meets its contract: `all` stands for the bytes before b.
use native.Mathlib.Omega.{arith}
use Rattle.utf8.proofs.AsciiLaws.{seen_more}
use Rattle.utf8.proofs.ascii.Goals as goal

pub loop-b-preserved : goal.loop-b-preserved
loop-b-preserved c = seen_more c.loop-b.invariant (omega arith)
