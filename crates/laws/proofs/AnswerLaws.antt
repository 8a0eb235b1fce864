-- What an answer that gives says of the tests before it, and by which numbers one refuses (RULES.md, "Numbers returned").
use Prim.Native.Nat.{ℕ, ◌-◌}
use mathlib.Core.Path.{◌≡◌, refl, ap, sym, subst, ◌∙◌}
use mathlib.Core.List.{List, [], ◌∷◌}
use mathlib.Core.Bool.{Bool, true, false, true≢false, cond, ◌&&◌}
use lib.ListN.{length, take, drop}
use lib.Dec.{eqb}
use native.Mathlib.Omega.{arith}
use borrow.Author.Tests.{eqb-true}
use Rattle.bson.specs.Answer.{Answer, gives, refuses, then, unless, at}
use Rattle.laws.proofs.Common.{split, both_hold, rest_part}

-- ---- answers that give

pub never : {A P : Type 0} {n p : ℕ} {a : A} → refuses n p ≡ gives a → P
never e = let z : ◌≡◌ {A = ℕ} 0 1 = cc in let w : ⊥ = omega arith in absurd w

pub gives_injective : {A : Type 0} {a b : A} → gives a ≡ gives b → a ≡ b
gives_injective e = cc

-- the test held
pub unless_gives : {A : Type 0} {a : A} (b : Bool) (n : ℕ) (x : Answer A) → unless b n x ≡ gives a → (b ≡ true) × (x ≡ gives a)
unless_gives true n x e = (refl, e)
unless_gives false n x e = never e

-- the first gave what the second went on with
pub then_gives : {A B : Type 0} {b : B} (x : Answer A) (f : A → Answer B) → then x f ≡ gives b → (a : A) × (x ≡ gives a) × (f a ≡ gives b)
then_gives (gives a) f e = (a, refl, e)
then_gives (refuses n p) f e = never e

pub at_gives : {A : Type 0} {a : A} (p : ℕ) (x : Answer A) → at p x ≡ gives a → x ≡ gives a
at_gives p (gives b) e = e
at_gives p (refuses n q) e = never e

-- what was given is gone on with
pub then_from : {A B : Type 0} {a : A} (x : Answer A) (f : A → Answer B) → x ≡ gives a → then x f ≡ f a
then_from x f e = rw e

-- the rest matters only for what is given
pub then_same : {A B : Type 0} (x : Answer A) (f g : A → Answer B) → ((a : A) → x ≡ gives a → f a ≡ g a) → then x f ≡ then x g
then_same (gives a) f g h = h a refl
then_same (refuses n p) f g h = refl

-- ---- what a call answers

-- what a call answers, by the case that it turned out to be
pub answered : {E A : Type 0} (said : E → Answer A) {r x : E} {a : Answer A} → said r ≡ a → r ≡ x → a ≡ said x
answered said e q = sym e ∙ ap said q

-- the same of a call on `&v[a..]`
pub rest_answered : {E A : Type 0} (said : E → Answer A) (f : List ℕ → Answer A) (v : List ℕ) (a : ℕ) {r x : E}
    → said r ≡ f (take (length v - a) (drop a v)) → r ≡ x → f (drop a v) ≡ said x
rest_answered said f v a e q = ap f (sym (rest_part v a)) ∙ answered said e q

-- An answer that refuses by none but these numbers, and how that goes from the tests to the whole.

-- ---- the numbers that an answer may refuse by

abbrev pub one_of : List ℕ → ℕ → Bool
one_of [] n = false
one_of (m ∷ ms) n = cond (eqb n m) true (one_of ms n)

pub data RefusesIn {A : Type 0} (ms : List ℕ) : Answer A → Type 0 where
  given : {a : A} → RefusesIn ms (gives a)
  by : {n p : ℕ} → one_of ms n ≡ true → RefusesIn ms (refuses n p)

pub then_in : {A B : Type 0} {ms : List ℕ} {x : Answer A} {f : A → Answer B} → RefusesIn ms x
    → ((a : A) → x ≡ gives a → RefusesIn ms (f a)) → RefusesIn ms (then x f)
then_in given g = g _ refl
then_in (by e) g = by e

pub unless_in : {A : Type 0} {ms : List ℕ} (b : Bool) (n : ℕ) {x : Answer A} → one_of ms n ≡ true → RefusesIn ms x
    → RefusesIn ms (unless b n x)
unless_in true n e h = h
unless_in false n e h = by e

pub cond_in : {A : Type 0} {ms : List ℕ} (b : Bool) {x y : Answer A} → RefusesIn ms x → RefusesIn ms y → RefusesIn ms (cond b x y)
cond_in true h k = h
cond_in false h k = k

pub at_in : {A : Type 0} {ms : List ℕ} (p : ℕ) {x : Answer A} → RefusesIn ms x → RefusesIn ms (at p x)
at_in p given = given
at_in p (by e) = by e

pub refused_in : {A : Type 0} {ms : List ℕ} {x : Answer A} {n p : ℕ} → RefusesIn ms x → x ≡ refuses n p → one_of ms n ≡ true
refused_in given e = never (sym e)
refused_in {ms = ms} {n = n} (by {n = m} h) e = let i : m ≡ n = cc in subst (λ (k : ℕ). one_of ms k ≡ true) i h

-- each number of a list is in another: `refl` shows it of two that are written out
abbrev pub all_in : List ℕ → List ℕ → Bool
all_in [] ns = true
all_in (m ∷ ms) ns = one_of ns m && all_in ms ns

pub one_all_in : (ms ns : List ℕ) (n : ℕ) → all_in ms ns ≡ true → one_of ms n ≡ true → one_of ns n ≡ true
one_all_in [] ns n w h = absurd (true≢false (sym h))
one_all_in (m ∷ ms) ns n w h =
    let (a, b) = both_hold (one_of ns m) (all_in ms ns) w in
    split (eqb n m)
    (λ t. subst (λ (k : ℕ). one_of ns k ≡ true) (sym (eqb-true n m t)) a)
    (λ t. one_all_in ms ns n b (rw t at h))

pub weaken : {A : Type 0} {ms ns : List ℕ} {x : Answer A} → all_in ms ns ≡ true → RefusesIn ms x → RefusesIn ns x
weaken w given = given
weaken {ms = ms} {ns = ns} w (by {n = n} h) = by (one_all_in ms ns n w h)
