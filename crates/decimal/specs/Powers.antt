-- What a table of powers of ten holds (RULES.md, request 5: "the powers of ten that decide a key's length").
use Rattle.std.specs.Prelude.{ℕ, ◌<◌, ◌^◌, ◌≡◌, List, length, get_or}

-- at each place the power with so many zeros
pub record PowersOfTen (powers : List ℕ) : Type 0 where
  pub power_at : (i : ℕ) → i < length powers → get_or powers i 0 ≡ 10 ^ i
