-- `num::double_word` meets its contract: std's sum of the bytes is the definition's.
use native.Mathlib.Omega.{arith}
use lib.Seq.{get_or-drop}
use Rattle.bson.specs.Bytes.{le32, le64}
use Rattle.num.proofs.double_word.Goals as goal

pub returns : goal.returns
unfolding le32 le64
returns c =
    let v = c.args.v.now in
    omega (arith, c.from_le_bytes.ensures, get_or-drop 4 v 0 0, get_or-drop 4 v 1 0, get_or-drop 4 v 2 0, get_or-drop 4 v 3 0)
