-- What a good key of an array is to the strict check (RULES.md, "The whole check", as request 3 has it; BSON 1.1, `array`).
use Rattle.std.specs.Prelude.{ℕ, List, Bool}
use Rattle.bson.specs.Bytes.{same}
use Rattle.bson.specs.Decimal.{decimal}

-- "exactly the decimal form of its position, without leading zeros"
unfoldable pub good_array_key : ℕ → List ℕ → Bool
good_array_key position key = same key (decimal position)
