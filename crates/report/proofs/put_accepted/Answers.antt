-- `report::put_accepted` meets its contract: word, count and newline where the line fits, else nothing.
use mathlib.Core.Path.{refl, sym, ◌∙◌}
use Rattle.laws.proofs.OutputLaws.{text_left, then_put}
use Rattle.report.proofs.Lines.{accepted_size, accepted_put}
use Rattle.report.proofs.put_accepted.Goals as goal

pub returns-then-fits : goal.returns-then-fits
returns-then-fits c =
    let a = c.put_text.ensures in
    let b = c.put_decimal.ensures in
    let d = c.put_text-then-fits.ensures in (
      accepted_put _ _ _ c.width_of-line.ensures.0 (sym c.fits.ensures ∙ c.if-fits.true) (then_put _ (then_put _ a.0 b.0) d.0),
      d.1 ∙ b.1 ∙ a.1,
    )

pub returns-else-fits : goal.returns-else-fits
returns-else-fits c =
    (text_left _ _ _ _ (accepted_size _ _ c.width_of-line.ensures.0) (sym c.fits.ensures ∙ c.if-fits.false), refl)
