-- `output::Output::put_text` meets its contract: the copy where the text fits, else nothing.
use mathlib.Core.Path.{refl, sym, ◌∙◌}
use Rattle.laws.proofs.OutputLaws.{text_put, text_left}
use Rattle.output.proofs.Output.put_text.Goals as goal

pub returns-then-fits : goal.returns-then-fits
returns-then-fits c =
    (text_put _ _ _ _ refl _ (sym c.fits.ensures ∙ c.if-fits.true) c.copy.ensures, refl)

pub returns-else-fits : goal.returns-else-fits
returns-else-fits c = (text_left _ _ _ _ refl (sym c.fits.ensures ∙ c.if-fits.false), refl)
