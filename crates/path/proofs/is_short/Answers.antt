-- `path::is_short` meets its contract: a path of up to 200 bytes has no more zeros than that, and those of another are counted.
use mathlib.Core.Path.{sym}
use native.Mathlib.Omega.{arith}
use lib.ListN.{length}
use borrow.Author.Tests.{le-leb}
use Rattle.bson.specs.Path.{keys_of}
use Rattle.path.proofs.Keys.{keys_most}
use Rattle.path.proofs.is_short.Goals as goal

pub returns-then-path-lt-MAX_KEYS : goal.returns-then-path-lt-MAX_KEYS
returns-then-path-lt-MAX_KEYS c =
    let path = c.args.path.now in
    sym (le-leb (length (keys_of path).1) 200 (omega (arith, keys_most path)))
