-- `decimal::put_decimal` meets its contract: the digits where they fit, else nothing.
use Prim.Native.Nat.{ℕ}
use mathlib.Core.Path.{◌≡◌, refl, sym, ap, ◌∙◌}
use mathlib.Core.List.{List}
use borrow.Author.Tests.{leb-true}
use Rattle.bson.specs.Decimal.{digits, width, decimal}
use Rattle.bson.specs.Output.{put}
use Rattle.laws.proofs.OutputLaws.{text_put, text_left}
use Rattle.laws.proofs.DecimalLaws.{width_positive, width_holds, length_decimal}
use Rattle.decimal.proofs.put_decimal.Goals as goal

-- the digits that are asked for are all that the number has
all_digits : (exit buffer : List ℕ) (at n k : ℕ) → k ≡ width n → exit ≡ put buffer at (digits k n) → exit ≡ put buffer at (decimal n)
unfolding decimal
all_digits exit buffer at n k w e = e ∙ ap (λ (k : ℕ). put buffer at (digits k n)) w

pub put_digits-requires : goal.put_digits-requires
put_digits-requires c =
    let w = c.width_of-k.ensures in (
      leb-true _ _ (sym c.fits.ensures ∙ c.if-fits.true),
      rw w.0 (width_positive _),
      w.1,
      rw w.0 (width_holds _),
    )

pub returns-then-fits : goal.returns-then-fits
returns-then-fits c =
    let w = c.width_of-k.ensures.0 in (
      text_put _ _ _ _ (w ∙ sym (length_decimal _)) _ (sym c.fits.ensures ∙ c.if-fits.true)
          (all_digits _ _ _ _ _ w c.put_digits.ensures),
      refl,
    )

pub returns-else-fits : goal.returns-else-fits
returns-else-fits c =
    (text_left _ _ _ _ (c.width_of-k.ensures.0 ∙ sym (length_decimal _)) (sym c.fits.ensures ∙ c.if-fits.false), refl)
