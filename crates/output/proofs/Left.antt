-- What is left in a buffer that was lent as an output (RULES.md, "What every answer is bound to").
use Prim.Native.Nat.{ℕ, ◌+◌, ◌≤◌}
use mathlib.Core.Path.{◌≡◌, ap, ◌∙◌}
use mathlib.Core.List.{List}
use lib.ListN.{length}
use Rattle.bson.specs.Output.{Output, output, put, put_text}
use Rattle.laws.proofs.OutputLaws.{text_fits}

-- what an output holds, as its buffer is given back
pub left_there : {left : List ℕ} {used : ℕ} {o : Output} → output left used ≡ o → {exit : List ℕ} → exit ≡ left → output exit used ≡ o
left_there {used = used} e x = ap (λ (b : List ℕ). output b used) x ∙ e

-- a text that fits was put
pub text_there : (buffer : List ℕ) (at : ℕ) (text : List ℕ) → at + length text ≤ length buffer → {left : List ℕ} {end : ℕ}
    → output left end ≡ put_text (output buffer at) text → {exit : List ℕ} → exit ≡ left → exit ≡ put buffer at text
text_there buffer at text h e x = x ∙ ap (λ (o : Output). o.buffer) (e ∙ text_fits buffer at text h)
