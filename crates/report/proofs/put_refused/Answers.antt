-- `report::put_refused` meets its contract: word, number, place and newline where the line fits, else nothing.
use mathlib.Core.Path.{refl, sym, ◌∙◌}
use Rattle.laws.proofs.OutputLaws.{text_left, then_put}
use Rattle.report.proofs.Lines.{refused_size, refused_put}
use Rattle.report.proofs.put_refused.Goals as goal

pub returns-then-fits : goal.returns-then-fits
returns-then-fits c =
    let a = c.put_text.ensures in
    let b = c.put_decimal.ensures in
    let d = c.put_text-then-fits.ensures in
    let e = c.put_decimal-then-fits.ensures in
    let f = c.put_text-then-fits-2.ensures in (
      rw (← c.number-n.ensures)
          (refused_put _ _ _ _ c.width_of.ensures.0 c.width_of-2.ensures.0
          (sym c.fits.ensures ∙ c.if-fits.true)
          (then_put _ (then_put _ (then_put _ (then_put _ a.0 b.0) d.0) e.0) f.0)),
      f.1 ∙ e.1 ∙ d.1 ∙ b.1 ∙ a.1,
    )

pub returns-else-fits : goal.returns-else-fits
returns-else-fits c = (
  rw (← c.number-n.ensures)
      (text_left _ _ _ _ (refused_size _ _ _ _ c.width_of.ensures.0 c.width_of-2.ensures.0)
      (sym c.fits.ensures ∙ c.if-fits.false)),
  refl,
)
