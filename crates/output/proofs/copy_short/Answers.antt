-- `output::copy_short` meets its contract: after each turn four bytes more of the text are put.
use Prim.Native.Nat.{ℕ, ◌+◌}
use mathlib.Core.Path.{sym, ap, ◌∙◌}
use mathlib.Core.List.{List}
use native.Mathlib.Omega.{arith}
use lib.ListN.{take, drop}
use Rattle.bson.specs.Output.{put}
use Rattle.laws.proofs.OutputLaws.{put_nil}
use Rattle.output.proofs.Runs.{then_rest, then_more}
use Rattle.output.proofs.copy_short.Goals as goal

pub loop-i-init : goal.loop-i-init
loop-i-init c = (omega arith, sym (put_nil c.args.out.now c.args.at))

pub loop-i-preserved : goal.loop-i-preserved
loop-i-preserved c =
    let l = c.loop-i in
    let b = ap (λ (b : List ℕ). put b (c.args.at + l.i) (take 4 (drop l.i c.args.text.now))) l.invariant.1 in (
      omega arith,
      c.copy_four.ensures ∙ b
          ∙ then_more c.args.out.now c.args.at c.args.text.now l.i (omega arith) (omega arith) 4 (omega arith),
    )

pub returns : goal.returns
returns c =
    let l = c.loop-i in
    let b = ap (λ (b : List ℕ). put b (c.args.at + l.i) (drop l.i c.args.text.now)) l.invariant.1 in
    c.copy_rest.ensures ∙ b ∙ then_rest c.args.out.now c.args.at c.args.text.now l.i (omega arith) (omega arith)
