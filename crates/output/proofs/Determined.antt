-- Determined: the promise of each call allows one answer and one buffer (RULES.md, "What every answer is bound to").
use mathlib.Core.Path.{refl, sym, ◌∙◌}
use contract.Lifetimes.{Lfts}
use borrow.Fn.Kinds.{Dens}
use Rattle.laws.proofs.Determined.{Determined, DeterminedBuf}
use Rattle.output.specs.Puts.{held}
use Rattle.output.proofs.fits.Reads as fits_reads
use Rattle.output.proofs.fits.Kinds as fits_kinds
use Rattle.output.proofs.Output.put_text.Reads as put_text_reads
use Rattle.output.proofs.Output.put_text.Kinds as put_text_kinds

pub fits_determined : (κs : Lfts 0) (a : Dens κs fits_kinds.ps) → Determined (fits_reads.Post κs a)
fits_determined κs a r₁ r₂ s₁ s₂ p q = p ∙ sym q

pub put_text_determined : (κs : Lfts 3) (a : Dens κs put_text_kinds.ps) → DeterminedBuf (λ s. held s.0.now) (put_text_reads.Post κs a)
put_text_determined κs a r₁ r₂ s₁ s₂ p q = (refl, p.0 ∙ sym q.0)
