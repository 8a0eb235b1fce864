-- Demand 3 says of these documents what RULES.md says: two values, and the first of two elements of a key.
use mathlib.Core.Path.{◌≡◌, refl, sym, ap, subst, ◌∙◌}
use mathlib.Core.Bool.{false}
use Rattle.bson.specs.Answer.{gives}
use Rattle.bson.specs.Bytes.{le32, bytes}
use Rattle.bson.specs.Utf8.{rows, utf8}
use Rattle.bson.specs.Cstring.{unlimited, zero_text, cstring_under}
use Rattle.bson.specs.Tags.{tags, row_of}
use Rattle.bson.specs.Framing.{length_field, fits, zero_ended, string_size, scope_size, framed_under, value_size_under}
use Rattle.bson.specs.Step.{admitted, element_under, step_under, iterate_for, iterate_under}
use Rattle.bson.specs.Value.{leaf, boolean, bool, scope_value, content, value_in, value_of, read_at}
use Rattle.bson.specs.Lookup.{Found, found, find_under, get, get_under}
use Rattle.bson.specs.Level.{outermost, opening}
use Rattle.bson.specs.Check.{visit, opened, walk_for, walk_under, check, check_under}
use Rattle.bson.specs.Reach.{first}
use Rattle.bson.specs.Decided.{two_keys, null_in_scope}
use Rattle.bson.specs.ReachPoints.{key_a, earlier}
use Rattle.laws.proofs.AnswerLaws.{gives_injective}
use Rattle.theorems.specs.Demand3.{Demand3, Lookups}
use Rattle.theorems.specs.DemandPoints.{DemandPoints}

abbrev there : Found
there = record { element = earlier; value = leaf (boolean false) }

-- what the check and a lookup answer
answers : (check false null_in_scope ≡ gives 2) × (check false two_keys ≡ gives 2) × (get two_keys key_a ≡ gives there)
unfolding le32 bytes rows utf8 zero_text cstring_under tags row_of length_field fits zero_ended string_size scope_size framed_under value_size_under
    admitted element_under step_under iterate_for iterate_under bool scope_value content value_in value_of found find_under get_under opening visit
    opened walk_for walk_under check_under
answers = (refl, refl, refl)

lookups : Demand3 unlimited → Lookups unlimited two_keys key_a
lookups d = (d.undamaged two_keys 2 answers.1).lookups two_keys outermost first key_a

-- no other is found
found_there : (f : Found) → get two_keys key_a ≡ gives f → f ≡ there
found_there f q = gives_injective (sym q ∙ answers.2)

pub demand_points_hold : DemandPoints
demand_points_hold =
    record {
      two = λ d n x. d.unique null_in_scope n 2 x (d.counts null_in_scope 2 answers.0);
      first = λ d e f. let (v, q) = ((lookups d).first e).1 f in ap (λ (g : Found). g.element.place) (found_there _ q);
      value = λ d f q. subst (λ (g : Found). read_at two_keys 4 ≡ gives g.value) (sym (found_there f q))
          ((lookups d).reads there answers.2);
    }
