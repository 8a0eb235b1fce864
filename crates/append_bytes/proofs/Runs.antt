-- The runs of a text and of binary data are its bytes, and a key handed on whole (BSON 1.1, "string" and "binary").
use Prim.Native.Nat.{ℕ, ◌+◌, ◌-◌}
use mathlib.Core.Path.{◌≡◌, refl, sym, ap, ◌∙◌}
use mathlib.Core.List.{List, [], ◌∷◌, ◌++◌, append-nil, append_assoc}
use mathlib.Core.Bool.{Bool}
use native.Mathlib.Omega.{arith}
use lib.ListN.{length, take, drop, length-append}
use borrow.Author.Tests.{eq-eqb, ne_eqb}
use Rattle.bson.specs.Grammar.{bytes32, string_bytes, binary_bytes}
use Rattle.bson.specs.Writer.{State, Written}
use Rattle.laws.proofs.Common.{rest_part}
use Rattle.laws.proofs.GrammarLaws.{length_bytes32}
use Rattle.appending.specs.Element.{appending}

pub text_runs : (text behind size : List ℕ) → size ≡ bytes32 (length text + 1) → size ++ (text ++ (0 ∷ (behind ++ []))) ≡ string_bytes text ++ behind
unfolding string_bytes bytes32
text_runs text behind size e = rw (e, append-nil behind, append_assoc text (0 ∷ []) behind)

pub text_joined : (text : List ℕ) → bytes32 (length text + 1) ++ (text ++ (0 ∷ [])) ≡ string_bytes text
unfolding string_bytes
text_joined text = refl

pub text_size : (text : List ℕ) → length text + 5 ≡ length (string_bytes text)
unfolding string_bytes
text_size text = sym (simp length-append (omega (arith, length_bytes32 (length text + 1))))

-- a key handed on from its first byte, and the test of its value
pub whole_key : (w : State) (buffer : List ℕ) (tag : ℕ) (key value : List ℕ) {x : Written} {a b : Bool}
    → x ≡ appending w buffer 0 tag (take (length key - 0) (drop 0 key)) a value → a ≡ b → x ≡ appending w buffer 0 tag key b value
whole_key w buffer tag key value {a = a} h e =
    h ∙ ap (λ (k : List ℕ). appending w buffer 0 tag k a value) (rest_part key 0)
    ∙ ap (λ (good : Bool). appending w buffer 0 tag key good value) e

module _ (subtype : ℕ) (contents size : List ℕ) (es : size ≡ bytes32 (length contents)) where
  pub with_inner_length : subtype ≡ 2 → (outer : List ℕ) → outer ≡ bytes32 (length contents + 4)
      → outer ++ (2 ∷ (size ++ (contents ++ []))) ≡ binary_bytes subtype contents
  unfolding binary_bytes
  with_inner_length h outer eo = rw (eq-eqb subtype 2 h, eo, es, append-nil contents)

  pub with_one_length : (subtype ≡ 2 → ⊥) → size ++ (subtype ∷ (contents ++ [])) ≡ binary_bytes subtype contents
  unfolding binary_bytes
  with_one_length h = rw (ne_eqb subtype 2 h, es, append-nil contents)
