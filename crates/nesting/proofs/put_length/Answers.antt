-- `nesting::put_length` meets its contract: the bytes fit.
use mathlib.Core.Path.{◌≡◌}
use native.Mathlib.Omega.{arith}
use lib.ListN.{length}
use Rattle.std.proofs.Common.{rules}
use Rattle.bson.specs.Grammar.{bytes32}
use Rattle.laws.proofs.GrammarLaws.{length_bytes32}
use Rattle.output.proofs.Left.{text_there}
use Rattle.nesting.proofs.put_length.Goals as goal

pub returns : goal.returns
returns c =
    let a = c.args in
    let l : length (bytes32 a.n) ≡ 4 = length_bytes32 a.n in
    text_there a.out.now a.at (bytes32 a.n) (omega arith) c.put_bytes32.ensures.0 (search rules)
