-- The statements on paths say of these bytes what RULES.md says: 21 from 202 keys on, a text at 21, and no damage in a passed scope.
use Prim.Native.Nat.{ℕ, ◌≤◌}
use mathlib.Core.Path.{◌≡◌, refl, sym, ap, subst, ◌∙◌}
use mathlib.Core.List.{List, [], ◌∷◌}
use mathlib.Core.Bool.{false}
use mathlib.Core.Logic.{inl, inr}
use native.Mathlib.Omega.{arith}
use lib.IntN.{pos}
use lib.ListN.{length, replicate}
use Rattle.bson.specs.Answer.{gives, refuses}
use Rattle.bson.specs.Bytes.{part, le32, signed, i32, bytes}
use Rattle.bson.specs.Utf8.{rows, utf8}
use Rattle.bson.specs.Cstring.{unlimited, zero_text, cstring_under}
use Rattle.bson.specs.Tags.{tags, row_of}
use Rattle.bson.specs.Framing.{length_field, fits, zero_ended, string_size, document_size, scope_size, framed_under, value_size_under}
use Rattle.bson.specs.Step.{admitted, element_under, step_under, iterate_for, iterate_under}
use Rattle.bson.specs.Value.{leaf, string, int32, text, scope_value, content, value_in, value_of}
use Rattle.bson.specs.Lookup.{Found, found, find_under, get_under, get_at}
use Rattle.bson.specs.Path.{get_path_under, get_path, get_path_with}
use Rattle.bson.specs.Level.{opening}
use Rattle.bson.specs.Check.{visit, opened, walk_for, walk_under, check, check_under}
use Rattle.bson.specs.Grammar.{bytes32, element_bytes, document_of}
use Rattle.bson.specs.Vectors.{elem}
use Rattle.bson.specs.Decided.{one_null, null_in_scope}
use Rattle.bson.specs.ReachPoints.{key_a, in_scope}
use Rattle.bson.specs.PathPoints.{key_b, ab, ab0, seven, deep}
use Rattle.bson.proofs.ReachPoints.{reach_points_hold}
use Rattle.laws.proofs.AnswerLaws.{gives_injective}
use Rattle.theorems.specs.Demand3.{PathRefuses, Demand3, Undamaged}
use Rattle.theorems.specs.Paths.{zeros_in, key_then_path, Paths}
use Rattle.theorems.specs.PathsPoints.{PathsPoints}

-- the path `b`, `0`
abbrev b0 : List ℕ
b0 = 0x62 ∷ 0 ∷ 0x30 ∷ []

abbrev the_text : Found
the_text = record { element = elem 21 0x02 1 6; value = leaf (string (part 28 1)) }

abbrev the_number : Found
the_number = record { element = elem 11 0x10 1 4; value = leaf (int32 (pos 7)) }

-- what the check answers, and what lookups of a key and inside what it finds
answers : (check false null_in_scope ≡ gives 2) × (key_then_path unlimited deep key_a b0 ≡ gives the_text)
    × (key_then_path unlimited seven key_a key_b ≡ gives the_number)
unfolding le32 signed i32 bytes rows utf8 zero_text cstring_under tags row_of length_field fits zero_ended string_size document_size scope_size
    framed_under value_size_under admitted element_under step_under iterate_for iterate_under text scope_value content value_in value_of found
    find_under get_under get_path_under bytes32 element_bytes document_of opening visit opened walk_for walk_under check_under
answers = (refl, refl, refl)

seven_length : length seven ≡ 20
unfolding bytes32 element_bytes document_of
seven_length = refl

module _ (p : Paths unlimited) where
  -- no other is found
  text_there : (f : Found) → get_path deep ab0 ≡ gives f → f ≡ the_text
  text_there f q =
      let zeros : zeros_in b0 ≡ 1 = refl in
      gives_injective (sym q ∙ p.more deep key_a b0 refl (omega arith) ∙ answers.1)

  number_there : (f : Found) → get_path seven ab ≡ gives f → f ≡ the_number
  number_there f q =
      let zeros : zeros_in key_b ≡ 0 = refl in
      gives_injective (sym q ∙ p.more seven key_a key_b refl (omega arith) ∙ answers.2)

  text_place : (f : Found) → get_path deep ab0 ≡ gives f → f.element.place ≡ 21
  text_place f q = ap (λ (g : Found). g.element.place) (text_there f q)

  number_tag : (f : Found) → get_path seven ab ≡ gives f → f.element.tag ≡ 0x10
  number_tag f q = ap (λ (g : Found). g.element.tag) (number_there f q)

  as_int64 : (f : Found) → get_path_with seven ab 0x12 ≡ gives f → ⊥
  as_int64 f q = let (found, tag) = (p.typed seven ab 0x12 f).0 q in omega (arith, tag, number_tag f found)

  too_long : (s : List ℕ) → get_path s (replicate 201 0) ≡ refuses 21 0
  too_long s = let zeros : zeros_in (replicate 201 0) ≡ 201 = refl in p.long s (replicate 201 0) (omega arith)

  longest_path : (s : List ℕ) → get_path s (replicate 200 0) ≡ key_then_path unlimited s [] (replicate 199 0)
  longest_path s = let zeros : zeros_in (replicate 199 0) ≡ 199 = refl in p.more s [] (replicate 199 0) refl (omega arith)

-- the numbers that a path is refused by where nothing is damaged
left : (k : ℕ) → PathRefuses k → (16 ≤ k) × (k ≤ 21)
left k (inl e) = (omega arith, omega arith)
left k (inr (inl e)) = (omega arith, omega arith)
left k (inr (inr e)) = (omega arith, omega arith)

scope : Demand3 unlimited → Undamaged unlimited null_in_scope
scope d = d.undamaged null_in_scope 2 answers.0

pub paths_points_hold : PathsPoints
paths_points_hold =
    let comes = reach_points_hold.in_scope_law.comes in
    record {
      long = too_long;
      longest = longest_path;
      one = λ p s. p.one s key_a refl;
      place = text_place;
      there = λ p f q. subst (λ (n : ℕ). get_at deep n ≡ gives f) (text_place p f q) (p.there deep ab0 f q);
      inside = λ p path f q. rw seven_length at (p.inside seven path f q).0;
      typed = λ p f q. (p.typed seven ab 0x10 f).1 (q, number_tag p f q);
      other = as_int64;
      undamaged = λ d path k p h. left k ((scope d).paths one_null in_scope.level comes path k p h);
      typed_undamaged = λ d path tag k p h. left k ((scope d).typed_paths one_null in_scope.level comes path tag k p h);
    }
