-- `nesting::seal` meets its contract: the zero fits, and then the length.
use mathlib.Core.Path.{ap, ◌∙◌}
use Prim.Native.Nat.{ℕ, ◌+◌, ◌-◌}
use mathlib.Core.List.{[], List, ◌∷◌}
use native.Mathlib.Omega.{arith}
use Rattle.std.proofs.Common.{rules}
use Rattle.bson.specs.Grammar.{bytes32}
use Rattle.bson.specs.Output.{put}
use Rattle.output.proofs.Left.{text_there}
use Rattle.nesting.proofs.seal.Goals as goal

pub returns : goal.returns
returns c =
    let a = c.args in
    let e = text_there a.out.now a.used (0 ∷ []) (omega arith) c.put_text.ensures.0 (search rules) in
    c.put_length.ensures ∙ ap (λ (b : List ℕ). put b a.start (bytes32 (a.used + 1 - a.start))) e
