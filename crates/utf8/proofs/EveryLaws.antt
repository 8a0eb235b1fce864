-- What a test of every list of ranges says of one of them; tests of Bools (RULES.md, module 1).
use mathlib.Core.Path.{◌≡◌, refl, subst, sym}
use mathlib.Core.List.{List, [], ◌∷◌}
use mathlib.Core.Bool.{Bool, true, false, not, ◌&&◌, ◌||◌, beq}
use lib.Dec.{T}
use Rattle.bson.specs.Utf8.{Range}
use Rattle.laws.proofs.Common.{split, both_left, both_right, beq_eq}
use Rattle.laws.proofs.Utf8Laws.{same_list, same_list_eq, same_ranges, same_ranges_eq}

pub holds : (b : Bool) → T b → b ≡ true
holds true t = refl
holds false t = absurd t

pub fails : (b : Bool) → T (not b) → b ≡ false
fails true t = absurd t
fails false t = refl

pub same_bools_eq : (xs ys : List Bool) → T (same_list beq xs ys) → xs ≡ ys
same_bools_eq = same_list_eq beq beq_eq

-- a list of ranges among others, and a test of each of these
abbrev pub among : List Range → List (List Range) → Bool
among rs [] = false
among rs (x ∷ xs) = same_ranges rs x || among rs xs

abbrev pub every : (List Range → Bool) → List (List Range) → Bool
every f [] = true
every f (x ∷ xs) = f x && every f xs

pub every_at : (f : List Range → Bool) (xs : List (List Range)) (rs : List Range) → T (every f xs) → T (among rs xs) → T (f rs)
every_at f [] rs t m = absurd m
every_at f (x ∷ xs) rs t m =
    split (same_ranges rs x)
    (λ p. subst (λ (y : List Range). T (f y)) (sym (same_ranges_eq rs x (rw p tt))) (both_left (f x) (every f xs) t))
    (λ p. every_at f xs rs (both_right (f x) (every f xs) t) (rw p at m))
