-- An element appended whose value, or whose test, is told otherwise (RULES.md, "Writer and joining").
use Prim.Native.Nat.{ℕ}
use mathlib.Core.Path.{◌≡◌, ap, sym, ◌∙◌}
use mathlib.Core.List.{List}
use mathlib.Core.Bool.{Bool}
use lib.ListN.{length}
use Rattle.bson.specs.Grammar.{bytes32}
use Rattle.bson.specs.Writer.{State, Written}
use Rattle.laws.proofs.GrammarLaws.{length_bytes32}
use Rattle.appending.specs.Element.{appending}

module _ (w : State) (buffer : List ℕ) (more tag : ℕ) (key : List ℕ) {x : Written} {u v : List ℕ} where
  pub valued : (good : Bool) → x ≡ appending w buffer more tag key good u → u ≡ v → x ≡ appending w buffer more tag key good v
  valued good h e = h ∙ ap (appending w buffer more tag key good) e

  pub tested : {a b : Bool} → x ≡ appending w buffer more tag key a u → a ≡ b → u ≡ v → x ≡ appending w buffer more tag key b v
  tested {a} h e f = valued a h f ∙ ap (λ (good : Bool). appending w buffer more tag key good v) e

-- so many bytes are lent where a run is a number
pub four : (n : ℕ) {p : List ℕ} → p ≡ bytes32 n → 4 ≡ length p
four n e = sym (ap length e ∙ length_bytes32 n)
