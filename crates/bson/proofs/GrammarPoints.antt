-- The definition of a tree's bytes, count, depth and keys says what BSON 1.1 and RULES.md show of them.
use Prim.Native.Nat.{ℕ}
use mathlib.Core.Path.{◌≡◌, refl, ap}
use mathlib.Core.List.{List, [], ◌∷◌}
use mathlib.Core.Bool.{false≢true}
use lib.ListN.{get_or}
use native.Mathlib.Omega.{arith}
use Rattle.bson.specs.Utf8.{rows, utf8}
use Rattle.bson.specs.Decimal.{digits, width_for, width, decimal}
use Rattle.bson.specs.Grammar.{bytes32, bytes64, unsigned, string_bytes, scope_bytes, row, element_bytes, document_of, list_bytes}
use Rattle.bson.specs.GrammarPoints.{written, GrammarPoints}

-- the byte in front of a key, by which a wrong one is told
abbrev front : List ℕ → ℕ
front key = get_or key 0 0

pub grammar_points_hold : GrammarPoints
unfolding digits width_for width decimal rows utf8 bytes32 bytes64 unsigned string_bytes scope_bytes row element_bytes document_of list_bytes
    written
grammar_points_hold =
    record {
      bytes = refl;
      sizes = refl;
      array_at_199 = omega arith;
      array_at_200 = λ h. omega arith;
      scope_at_198 = omega arith;
      scope_at_199 = λ h. omega arith;
      numbered = ((λ e. absurd (false≢true e)), (((λ e. refl), ((λ e. refl), ((λ e. refl), tt))), tt));
      from_1 = λ h. let e : front (0x31 ∷ []) ≡ 0x30 = ap front (h.1.0.0 refl) in absurd (omega arith);
      repeated = λ h. let e : front (0x30 ∷ []) ≡ 0x31 = ap front (h.1.0.1.0 refl) in absurd (omega arith);
      in_scope_law = ((λ e. absurd (false≢true e)), (((λ e. absurd (false≢true e)), tt), tt));
      code = refl;
    }
