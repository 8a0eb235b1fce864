-- What a lookup by a path is refused by in a passed slice, at every level (RULES.md, request 1; demand 3).
use Prim.Native.Nat.{ℕ}
use mathlib.Core.Path.{◌≡◌, refl, sym, ap}
use mathlib.Core.List.{List, [], ◌∷◌}
use mathlib.Core.Bool.{Bool, true, false, true≢false}
use mathlib.Core.Logic.{inl, inr}
use lib.Dec.{leb, eqb}
use lib.ListN.{length}
use borrow.Author.Tests.{eqb-true}
use Rattle.bson.specs.Answer.{Answer, gives, refuses}
use Rattle.bson.specs.Bytes.{Part, bytes}
use Rattle.bson.specs.Cstring.{Limit}
use Rattle.bson.specs.Value.{Value, leaf, document, array, code_with_scope}
use Rattle.bson.specs.Lookup.{Found, get_under}
use Rattle.bson.specs.Path.{keys_of, entered, look_along, get_path_under, get_path_with_under}
use Rattle.bson.specs.Level.{Level, opens, opening}
use Rattle.bson.specs.Check.{check_under}
use Rattle.bson.specs.Reach.{start, Comes, into}
use Rattle.laws.proofs.AnswerLaws.{never, gives_injective, at_gives, one_of, RefusesIn, given, by, then_in, unless_in, at_in, refused_in}
use Rattle.laws.proofs.Common.{split}
use Rattle.laws.proofs.ReadRefusals.{of_tag_in, entered_in, moved_in}
use Rattle.theorems.specs.Demand3.{PathRefuses}
use Rattle.theorems.proofs.Check.Undamaged.{lookup_refused, lookup_value, lookup_comes}

-- the numbers that are left where nothing is damaged
abbrev left : List ℕ
left = 16 ∷ 17 ∷ 21 ∷ []

left_one : (k : ℕ) → one_of left k ≡ true → PathRefuses k
left_one k h =
    split (eqb k 16) (λ t. inl (eqb-true k 16 t)) λ a.
    split (eqb k 17) (λ t. inr (inl (eqb-true k 17 t))) λ b.
    split (eqb k 21) (λ t. inr (inr (eqb-true k 21 t))) λ c.
    absurd (true≢false (sym (rw (a, b, c) at h)))

absent_in_law : (x : Answer Found) → ((k p : ℕ) → x ≡ refuses k p → k ≡ 16) → RefusesIn left x
absent_in_law (gives f) h = given
absent_in_law (refuses k p) h = by {n = k} (rw (h k p refl))

-- what can be entered opens
entered_opens : (v : Value) (p : Part) → entered v ≡ gives p → (is_array : Bool) × (opening v ≡ opens is_array 1 p)
unfolding opening
entered_opens (leaf v) p e = never e
entered_opens (document q) p e = (false, ap (opens false 1) (gives_injective e))
entered_opens (array q) p e = (true, ap (opens true 1) (gives_injective e))
entered_opens (code_with_scope c q) p e = never e

module _ (limit : Limit) (s : List ℕ) (n : ℕ) (passed : check_under limit false s ≡ gives n) where
  looked_in : (d : List ℕ) (l : Level) → Comes limit s (start d l) → (key : List ℕ) → RefusesIn left (get_under limit d key)
  looked_in d l c key = absent_in_law (get_under limit d key) (λ k p h. (lookup_refused limit s n passed d l c key k p h).0)

  -- from each document one comes to the next
  along_in : (d : List ℕ) (l : Level) → Comes limit s (start d l) → (key : List ℕ) (keys : List (List ℕ))
      → RefusesIn left (look_along limit d key keys)
  along_in d l c key [] = looked_in d l c key
  along_in d l c key (next ∷ keys) =
      then_in (looked_in d l c key) λ f q.
      then_in (at_in f.element.place (entered_in f.value refl)) λ p r.
      let (is_array, o) = entered_opens f.value p (at_gives f.element.place _ r) in
      let (m, x) = lookup_comes limit s n passed d l c key f q in
      let inner = into f.value is_array 1 p x (lookup_value limit s n passed d l c key f q) o in
      moved_in p.offset (along_in (bytes d p) _ inner next keys)

  path_left : (d : List ℕ) (l : Level) → Comes limit s (start d l) → (path : List ℕ) → RefusesIn left (get_path_under limit d path)
  unfolding get_path_under
  path_left d l c path = let (key, keys) = keys_of path in unless_in (leb (length keys) 200) 21 refl (along_in d l c key keys)

  path_with_left : (d : List ℕ) (l : Level) → Comes limit s (start d l) → (path : List ℕ) (tag : ℕ)
      → RefusesIn left (get_path_with_under limit d path tag)
  unfolding get_path_with_under
  path_with_left d l c path tag = then_in (path_left d l c path) (λ f q. of_tag_in f.element tag f refl)

  -- A path is refused by 16, 17 and 21 alone.
  pub path_refused : (d : List ℕ) (l : Level) → Comes limit s (start d l) → (path : List ℕ) (k p : ℕ)
      → get_path_under limit d path ≡ refuses k p → PathRefuses k
  path_refused d l c path k p h = left_one k (refused_in (path_left d l c path) h)

  -- And so is one with a tag.
  pub path_with_refused : (d : List ℕ) (l : Level) → Comes limit s (start d l) → (path : List ℕ) (tag k p : ℕ)
      → get_path_with_under limit d path tag ≡ refuses k p → PathRefuses k
  path_with_refused d l c path tag k p h = left_one k (refused_in (path_with_left d l c path tag) h)
