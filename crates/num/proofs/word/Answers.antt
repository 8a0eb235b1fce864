-- `num::word` meets its contract: std's sum of the bytes is the definition's.
use native.Mathlib.Omega.{arith}
use Rattle.bson.specs.Bytes.{le32}
use Rattle.num.proofs.word.Goals as goal

pub returns : goal.returns
unfolding le32
returns c = omega (arith, c.from_le_bytes.ensures)
