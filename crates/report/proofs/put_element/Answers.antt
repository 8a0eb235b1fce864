-- `report::put_element` meets its contract: place, tag, size and newline where the line fits, else nothing.
use mathlib.Core.Path.{refl, sym, ◌∙◌}
use Rattle.laws.proofs.OutputLaws.{text_left, then_put}
use Rattle.report.proofs.Lines.{element_size, element_put}
use Rattle.report.proofs.put_element.Goals as goal

pub returns-then-fits : goal.returns-then-fits
returns-then-fits c =
    let a = c.put_decimal.ensures in
    let b = c.put_text.ensures in
    let d = c.put_decimal-then-fits.ensures in
    let e = c.put_text-then-fits.ensures in (
      element_put _ _ _ c.width_of.ensures.0 c.width_of-2.ensures.0
          c.hex_digit.ensures c.hex_digit-then-fits.ensures
          (sym c.fits.ensures ∙ c.if-fits.true)
          (then_put _ (then_put _ (then_put _ a.0 b.0) d.0) e.0),
      e.1 ∙ d.1 ∙ b.1 ∙ a.1,
    )

pub returns-else-fits : goal.returns-else-fits
returns-else-fits c =
    (text_left _ _ _ _ (element_size _ _ _ c.width_of.ensures.0 c.width_of-2.ensures.0) (sym c.fits.ensures ∙ c.if-fits.false), refl)
