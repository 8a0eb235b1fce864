-- Determined: the promise of each call allows one answer and one buffer (RULES.md, "What every answer is bound to").
use Prim.Native.Nat.{ℕ}
use mathlib.Core.Path.{◌≡◌, ap, sym, ◌∙◌}
use mathlib.Core.List.{List}
use contract.Lifetimes.{Lfts}
use borrow.Fn.Kinds.{Dens}
use Rattle.bson.specs.Output.{Output, output}
use Rattle.laws.proofs.Determined.{DeterminedBuf}
use Rattle.report.proofs.put_report.Reads as put_report_reads
use Rattle.report.proofs.put_report.Kinds as put_report_kinds

-- an output is its used bytes and its buffer
output_same : (b₁ b₂ : List ℕ) (r₁ r₂ : ℕ) (o : Output) → output b₁ r₁ ≡ o → output b₂ r₂ ≡ o → (r₁ ≡ r₂) × (b₁ ≡ b₂)
output_same b₁ b₂ r₁ r₂ o p q =
    let e = p ∙ sym q in
    (ap (λ (o : Output). o.used) e, ap (λ (o : Output). o.buffer) e)

pub put_report_determined : (κs : Lfts 2) (a : Dens κs put_report_kinds.ps) → DeterminedBuf (λ s. s.0.now) (put_report_reads.Post κs a)
put_report_determined κs a r₁ r₂ s₁ s₂ p q = output_same _ _ r₁ r₂ _ p.0 q.0
