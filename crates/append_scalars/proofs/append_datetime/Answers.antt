-- `append_scalars::append_datetime` meets its contract: the eight bytes of its bits.
use mathlib.Core.Path.{ap}
use mir.Syntax.{w64}
use Rattle.bson.specs.Writer.{answer, performed}
use Rattle.bson.specs.Grammar.{row, bytes64, unsigned}
use Rattle.appending.specs.Element.{appending}
use Rattle.appending.proofs.Valued.{valued}
use Rattle.encode.proofs.Basic.{passed}
use Rattle.append_scalars.proofs.append_datetime.Goals as goal

pub returns : goal.returns
unfolding performed answer row appending
returns c =
    let e = passed w64 c.args.n c.ranges.n (unsigned 0x8000_0000_0000_0000) c.bits64.ensures in
    valued _ _ _ _ _ _ c.append_eight.ensures (ap bytes64 e)
