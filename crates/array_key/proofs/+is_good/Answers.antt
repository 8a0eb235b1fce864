-- `array_key::is_good`, which calls itself, meets its contract: the key gets shorter by its last byte, the position by its last digit.
use Prim.Native.Nat.{ℕ, ◌-◌, ◌<◌}
use mathlib.Core.Path.{◌≡◌, ◌∙◌}
use mathlib.Core.List.{List}
use native.Mathlib.Omega.{arith}
use lib.ListN.{length, take}
use lib.Seq.{length-take-le}
use Rattle.array_key.proofs.Keys.{none_bad, digit_is, last_differs, last_passes}
use Rattle.array_key.proofs.+is_good.Goals as goal

-- without its last byte the key is shorter by one
shorter : (key : List ℕ) → 0 < length key → length (take (length key - 1) key) ≡ length key - 1
shorter key h = length-take-le (length key - 1) key (omega arith)

pub returns-then-key-eq0 : goal.returns-then-key-eq0
returns-then-key-eq0 t c = none_bad _ _ c.if-key-eq0.true

pub returns-then-position-lt10 : goal.returns-then-position-lt10
returns-then-position-lt10 t c = digit_is _ _ (omega arith) (omega arith)

pub returns-then-key-last : goal.returns-then-key-last
returns-then-key-last t c = last_differs _ _ (omega arith) (omega arith) c.if-key-last.true

pub returns : goal.returns
returns t c = c.is_good.ensures ∙ last_passes _ _ (omega arith) (omega arith) c.if-key-last.false
