-- Powers: the code's table holds the powers of ten, by one computed test, and what a turn of each loop over it
-- leaves (RULES.md, request 5).
use Prim.Native.Nat.{ℕ, suc, ◌+◌, ◌-◌, ◌*◌, ◌%◌, ◌^◌, ◌≤◌, ◌<◌}
use mathlib.Core.Path.{◌≡◌, refl, sym, ap, ◌∙◌}
use mathlib.Core.Bool.{true}
use mathlib.Core.List.{List}
use native.Mathlib.Nat.{add-mul, one-mul, lt_of_mul-lt-mul_right}
use native.Mathlib.Omega.{arith}
use lib.Dec.{eqb, eqb→eq}
use lib.ListN.{length, set, get_or}
use Rattle.bson.specs.Decimal.{digits}
use Rattle.bson.specs.Output.{put}
use Rattle.laws.proofs.Common.{below, below_at}
use Rattle.laws.proofs.DecimalLaws.{length_digits, digits_lead}
use Rattle.laws.proofs.OutputLaws.{put_byte, put_lead}
use Rattle.decimal.specs.Powers.{PowersOfTen}
use Rattle.decimal.specs.declared.TheConstants.{POWERS}

-- one test over a whole table
pub computed_powers : {powers : List ℕ} → below (λ i. eqb (get_or powers i 0) (10 ^ i)) (length powers) ≡ true → PowersOfTen powers
computed_powers {powers} t =
    record { power_at = λ i h. eqb→eq _ _ (below_at (λ i. eqb (get_or powers i 0) (10 ^ i)) (length powers) (rw t tt) i h) }

-- of the code's own
pub table : PowersOfTen POWERS
table = computed_powers refl

-- how often a power has gone into a number, and what is left
module _ (n power digit rest : ℕ) (sum : n ≡ digit * power + rest) where
  pub digit_below : n < 10 * power → digit < 10
  digit_below h = lt_of_mul-lt-mul_right power (omega arith)

  pub digit_more : power ≤ rest → n ≡ (digit + 1) * power + (rest - power)
  digit_more h = sum ∙ rw (add-mul digit 1 power, one-mul power) (omega arith)

-- a number of one digit is that digit
pub one_digit : (k n : ℕ) → k ≡ 1 → n < 10 ^ k → n < 10
one_digit k n e h = rw e at h

pub digit_put : (buffer : List ℕ) (at k n : ℕ) → at < length buffer → k ≡ 1 → n < 10 ^ k
    → set buffer at (48 + n) ≡ put buffer at (digits k n)
unfolding digits
digit_put buffer at k n h e l =
    let small : n < 10 = one_digit k n e l in
    let same : n % 10 ≡ n = omega arith in
    rw (e, same) (put_byte buffer at (48 + n) h)

-- a turn: the first digit stored, the rest is left to do
pub lead_put : (buffer : List ℕ) (at zeros power n digit rest : ℕ) → at + suc zeros ≤ length buffer → power ≡ 10 ^ zeros
    → (digit < 10) × (n ≡ digit * power + rest) × (rest < power)
    → put (set buffer at (48 + digit)) (at + 1) (digits zeros rest) ≡ put buffer at (digits (suc zeros) n)
lead_put buffer at zeros power n digit rest h p l =
    put_lead buffer at (48 + digit) (digits zeros rest) (omega (arith, length_digits zeros rest))
    ∙ ap (put buffer at) (sym (ap (digits (suc zeros)) (rw p at l.1) ∙ digits_lead zeros digit rest l.0 (rw p at l.2)))
