-- `output::copy_long` meets its contract: after each turn one byte more of the text is pasted.
use Prim.Native.Nat.{ℕ, ◌+◌, ◌<◌}
use mathlib.Core.Path.{◌≡◌, sym, ap, ◌∙◌}
use mathlib.Core.List.{List}
use native.Mathlib.Numerals.{add-one}
use native.Mathlib.Omega.{arith}
use lib.ListN.{length, get_or, set}
use lib.Seq.{paste, paste-suc}
use Rattle.laws.proofs.OutputLaws.{put_paste}
use Rattle.output.proofs.copy_long.Goals as goal

pub loop-i-preserved : goal.loop-i-preserved
loop-i-preserved c =
    let l = c.loop-i in
    let a = c.args in
    let h : a.at + l.i < length a.out.now = omega arith in
    let g : l.i < length a.text.now = omega arith in
    ap (λ (b : List ℕ). set b (a.at + l.i) (get_or a.text.now l.i 0)) l.invariant
    ∙ paste-suc a.out.now a.at a.text.now l.i 0 h g
    ∙ ap (paste a.out.now a.at a.text.now) (sym (add-one l.i))

pub returns : goal.returns
returns c =
    let l = c.loop-i in
    let a = c.args in
    let e : l.i ≡ length a.text.now = omega arith in
    l.invariant ∙ ap (paste a.out.now a.at a.text.now) e ∙ put_paste _ _ _
