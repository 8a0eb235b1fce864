-- What the sizes that framing gives say of the value that holds a code or a regex (RULES.md, "Values").
use Prim.Native.Nat.{ℕ, ◌+◌, ◌≤◌, ◌<◌}
use mathlib.Core.Path.{◌≡◌, sym}
use mathlib.Core.List.{List}
use native.Mathlib.Omega.{arith}
use lib.Dec.{leb}
use lib.ListN.{length, drop, length-drop}
use Rattle.bson.specs.Answer.{gives, unless}
use Rattle.bson.specs.Bytes.{part}
use Rattle.bson.specs.Framing.{string_size, pattern_options}
use Rattle.laws.proofs.AnswerLaws.{unless_gives}
use Rattle.laws.proofs.FramingLaws.{string_is, pattern_options_fit}

-- a code has a length field and a zero, and lies behind the value's own length field
pub code_is : (v : List ℕ) (n : ℕ) → gives n ≡ unless (leb 14 (length v)) 12 (string_size (drop 4 v)) → (5 ≤ n) × (4 + n ≤ length v)
code_is v n e =
    let (t, q) = unless_gives (leb 14 (length v)) 12 _ (sym e) in
    let s = string_is (drop 4 v) n q in
    (omega arith, omega (arith, length-drop 4 v))

-- a pattern and options lie within the value
pub regex_is : (v : List ℕ) (p n : ℕ) → gives (part 0 p, part (p + 1) n) ≡ pattern_options v → p + 1 + n < length v
regex_is v p n e = (pattern_options_fit _ _ (sym e)).2
