-- `raw::regex_len` meets its contract: the pattern and the options lie within the part, each with its zero.
use Prim.Native.Nat.{ℕ, ◌+◌, ◌<◌}
use mathlib.Core.Path.{◌≡◌, sym}
use mathlib.Core.List.{List}
use lib.ListN.{length}
use native.Mathlib.Omega.{arith}
use Rattle.bson.specs.Answer.{gives}
use Rattle.bson.specs.Bytes.{part}
use Rattle.bson.specs.Cstring.{Limit}
use Rattle.bson.specs.Framing.{pattern_options_under}
use Rattle.laws.proofs.FramingLaws.{pattern_options_fit, pattern_options_under_law}
use Rattle.raw.proofs.regex_len.Goals as goal

-- both texts lie within the part
fit : (limit : Limit) (v : List ℕ) (p n : ℕ) → gives (part 0 p, part (p + 1) n) ≡ pattern_options_under limit v → p + 1 + n < length v
fit limit v p n e = (pattern_options_fit _ _ (pattern_options_under_law _ _ _ (sym e))).2

pub overflow_add-result : goal.overflow_add-result
overflow_add-result c = omega (arith, fit _ _ _ _ c.in_ok-both.ensures)

pub overflow_add-result-2 : goal.overflow_add-result-2
overflow_add-result-2 c = omega (arith, fit _ _ _ _ c.in_ok-both.ensures)

pub overflow_add-result-3 : goal.overflow_add-result-3
overflow_add-result-3 c = omega (arith, fit _ _ _ _ c.in_ok-both.ensures)
