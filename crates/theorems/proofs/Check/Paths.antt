-- A lookup by a path is lookups of one key, one inside the other (RULES.md, request 1).
use Prim.Native.Nat.{ℕ, suc, ◌<◌}
use mathlib.Core.Path.{◌≡◌, refl, ap, sym, ◌∙◌}
use mathlib.Core.List.{List, [], ◌∷◌, ◌++◌}
use native.Mathlib.Omega.{arith}
use lib.ListN.{length}
use borrow.Author.Tests.{eq-eqb}
use Rattle.bson.specs.Answer.{gives, at}
use Rattle.bson.specs.Bytes.{bytes}
use Rattle.bson.specs.Cstring.{is_zero, first_zero, Limit}
use Rattle.bson.specs.Lookup.{Found, get_under, get_at_under}
use Rattle.bson.specs.Path.{keys_of, moved, entered, get_path_under, get_path_with_under}
use Rattle.laws.proofs.AlongLaws.{path_finds}
use Rattle.laws.proofs.AnswerLaws.{then_same}
use Rattle.laws.proofs.Common.{split}
use Rattle.laws.proofs.LookupLaws.{had_there, found_inside}
use Rattle.laws.proofs.PathLaws.{keys_last, keys_behind, path_short, path_long, path_with_says}
use Rattle.theorems.specs.Paths.{zeros_in, key_then_path, Paths}

-- behind the first key there is one for each zero byte
keys_zeros : (path : List ℕ) → length (keys_of path).1 ≡ zeros_in path
keys_zeros [] = refl
keys_zeros (b ∷ path) = split (is_zero b) (λ t. rw t (ap suc (keys_zeros path))) (λ t. rw t (keys_zeros path))

module _ (limit : Limit) where
  path_one : (s key : List ℕ) → first_zero key ≡ length key → get_path_under limit s key ≡ get_under limit s key
  unfolding get_path_under
  path_one s key e = rw (keys_last key e)

  path_more : (s key rest : List ℕ) → first_zero key ≡ length key → length (keys_of rest).1 < 200
      → get_path_under limit s (key ++ (0 ∷ rest)) ≡ key_then_path limit s key rest
  path_more s key rest e i =
      let k = keys_behind key rest e in
      path_short limit s (key ++ (0 ∷ rest)) (rw k (omega arith)) ∙ rw k
      (then_same (get_under limit s key) _ _ λ f q.
      then_same (at f.element.place (entered f.value)) _ _ λ p r.
      ap (moved p.offset) (sym (path_short limit (bytes s p) rest (omega arith))))

  path_typed : (s path : List ℕ) (tag : ℕ) (f : Found) → get_path_under limit s path ≡ gives f → f.element.tag ≡ tag
      → get_path_with_under limit s path tag ≡ gives f
  unfolding get_path_with_under
  path_typed s path tag f q t = rw (q, eq-eqb f.element.tag tag t)

  -- What a path finds reads as it does at its place.
  pub path_value : (s path : List ℕ) (f : Found) → get_path_under limit s path ≡ gives f → get_at_under limit s f.element.place ≡ gives f
  path_value s path f x = had_there limit s f (path_finds limit s path f x)

  pub paths_hold : Paths limit
  paths_hold =
      record {
        zeros = λ path. omega (arith, keys_zeros path);
        one = path_one;
        more = λ s key rest e i. path_more s key rest e (omega (arith, keys_zeros rest));
        long = λ s path i. path_long limit s path (omega (arith, keys_zeros path));
        typed = λ s path tag f. (path_with_says limit s path tag f, λ r. path_typed s path tag f r.0 r.1);
        there = path_value;
        inside = λ s path f x. let (past, both) = found_inside limit s f (path_finds limit s path f x) in (past, both.0, both.1);
      }
