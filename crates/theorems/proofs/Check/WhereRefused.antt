-- Where the whole check is refused: at an element that steps from offset 4 yield, in it or where it ends, or where these steps are refused
-- (RULES.md, request 13; "The whole check").
use Prim.Native.Nat.{ℕ, zero, suc, ◌+◌, ◌≤◌, ◌<◌}
use mathlib.Core.Path.{◌≡◌, refl, sym, subst, ◌∙◌}
use mathlib.Core.List.{List}
use mathlib.Core.Bool.{Bool, false}
use mathlib.Core.Logic.{inl, inr}
use native.Mathlib.Omega.{arith}
use lib.ListN.{length}
use lib.Dec.{leb}
use Rattle.bson.specs.Answer.{Answer, gives, refuses, then, at, unless}
use Rattle.bson.specs.Bytes.{bytes}
use Rattle.bson.specs.Cstring.{Limit}
use Rattle.bson.specs.Step.{admitted, Cursor, cursor, Element, span, Iteration, ended, broken, more, iterate_under}
use Rattle.bson.specs.Value.{value_of}
use Rattle.bson.specs.Level.{Opening, closed, opens, opening, Level, outermost, deeper}
use Rattle.bson.specs.Check.{Walk, key_passes, visit, inside, opened, along, walk_for, walk_under, check_under}
use Rattle.laws.proofs.AnswerLaws.{never}
use Rattle.laws.specs.FramedAt.{FramedAt}
use Rattle.laws.proofs.StepLaws.{step_yields, admitted_says}
use Rattle.laws.proofs.CheckLaws.{visit_says}
use Rattle.laws.proofs.OpenLaws.{value_opens, opens_shorter}
use Rattle.theorems.specs.EveryYield.{Accounted, OfElement, Met}
use Rattle.theorems.proofs.Check.NoGap.{accounted}

-- ---- refusals by number and offset

-- refused, if at all, as this says of the number and of the offset in a document that begins at a base
data Refused {A : Type 0} (base : ℕ) (P : ℕ → ℕ → Type 0) : Answer A → Type 0 where
  given : {a : A} → Refused base P (gives a)
  there : {n p : ℕ} (q : ℕ) → p ≡ base + q → P n q → Refused base P (refuses n p)

module _ (base : ℕ) (P : ℕ → ℕ → Type 0) where
  moved : {A : Type 0} {x : Answer A} (base' : ℕ) (Q : ℕ → ℕ → Type 0) → ((n q : ℕ) → Q n q → (r : ℕ) × (base' + q ≡ base + r) × P n r)
      → Refused base' Q x → Refused base P x
  moved base' Q f given = given
  moved base' Q f (there {n = n} q e h) = let (r, i, k) = f n q h in there r (e ∙ i) k

  then_refused : {A B : Type 0} {x : Answer A} {f : A → Answer B} → Refused base P x → ((a : A) → x ≡ gives a → Refused base P (f a))
      → Refused base P (then x f)
  then_refused given g = g _ refl
  then_refused (there q e h) g = there q e h

  at_refused : {A : Type 0} (q : ℕ) (x : Answer A) → ((n : ℕ) → P n q) → Refused base P (at (base + q) x)
  at_refused q (gives a) h = given
  at_refused q (refuses n p) h = there q refl (h n)

-- ---- what the check meets, level by level

abbrev At : Element → ℕ → ℕ → Type 0
At e n q = OfElement e q

abbrev Within : List ℕ → ℕ → ℕ → Type 0
Within s n q = q ≤ length s

visit_met : (strict : Bool) (s : List ℕ) (l : Level) (position : ℕ) (c : Cursor) (e : Element) → FramedAt s c e
    → Refused l.base (At e) (visit strict s l position e)
unfolding visit
visit_met strict s l position c e y =
    at_refused l.base (At e) e.place
    (unless (key_passes strict l position (bytes s e.key)) 19
    (then (value_of s e) λ v. unless (leb l.depth 200) 13 (gives (opening v))))
    (λ n. (omega arith, omega arith))

module _ (limit : Limit) (strict : Bool) where
  module _ (s : List ℕ) (w : Walk)
      (h : (v : List ℕ) (k : Level) (n : ℕ) → length v < length s → admitted v ≡ gives n → Refused k.base (Within v) (w v k)) where
    inside_met : (l : Level) (position : ℕ) (c : Cursor) (e : Element) → FramedAt s c e → (o : Opening)
        → visit strict s l position e ≡ gives o
        → Refused l.base (At e) (inside w s l o)
    inside_met l position c e y closed q = given
    inside_met l position c e y (opens is_array levels p) q =
        let r = visit_says strict s l position e (opens is_array levels p) q in
        let o = value_opens s c e y r.value r.reads is_array levels p r.is in
        let (i, j) = opens_shorter s c e y p o in
        moved l.base (At e) (l.base + p.offset) (Within (bytes s p))
        (λ n k t. (p.offset + k, omega arith, (omega (arith, o.from), omega (arith, o.to))))
        (h (bytes s p) (deeper l is_array levels p) _ (omega arith) o.admits)

    opened_met : (l : Level) (position : ℕ) (c : Cursor) (e : Element) → FramedAt s c e
        → Refused l.base (At e) (opened strict w s l position e)
    unfolding opened
    opened_met l position c e y =
        then_refused l.base (At e) (visit_met strict s l position c e y)
        (λ o q. then_refused l.base (At e) (inside_met l position c e y o q) (λ n r. given))

    along_met : (l : Level) (position from : ℕ) (i : Iteration) → Accounted limit s from i
        → Refused l.base (Met i) (along strict w s l position i)
    along_met l position from ended x = given
    along_met l position from (broken n p) x = there p refl (refl, refl)
    along_met l position from (more e rest) (q, k, r) =
        let base = l.base in
        let y = step_yields limit s (cursor from false) e q in
        then_refused base (Met (more e rest))
        (moved base (Met (more e rest)) base (At e) (λ n p t. (p, refl, inl t)) (opened_met l position (cursor from false) e y))
        (λ n u. then_refused base (Met (more e rest))
        (moved base (Met (more e rest)) base (Met rest) (λ m p t. (p, refl, inr t))
        (along_met l (suc position) (from + (span e).size) rest r))
        (λ m v. given))

  -- all of that lies in the slice
  met_within : (s : List ℕ) (from : ℕ) (i : Iteration) → from ≤ length s → Accounted limit s from i → (n q : ℕ) → Met i n q → q ≤ length s
  met_within s from ended j x n q h = absurd h
  met_within s from (broken m p) j (y, t) n q (a, b) = omega arith
  met_within s from (more e rest) j (y, k, r) n q (inl (a, b)) = omega (arith, k.inside)
  met_within s from (more e rest) j (y, k, r) n q (inr h) =
      met_within s (from + (span e).size) rest (omega (arith, k.ends, k.inside)) r n q h

  walk_met : (f : ℕ) (s : List ℕ) (l : Level) (n : ℕ) → length s < f → admitted s ≡ gives n
      → Refused l.base (Within s) (walk_for limit f strict s l)
  unfolding walk_for
  walk_met zero s l n i a = absurd (omega arith)
  walk_met (suc f) s l n i a =
      let x = accounted limit s n a in
      let m = met_within s 4 (iterate_under limit s 4) (omega (arith, admitted_says s n a)) x in
      moved l.base (Within s) l.base (Met (iterate_under limit s 4)) (λ k q t. (q, refl, m k q t))
      (along_met s (walk_for limit f strict) (λ v k j u b. walk_met f v k j (omega arith) b) l 0 4 (iterate_under limit s 4) x)

-- ---- the check

refused_as : {A : Type 0} {n p : ℕ} {x : Answer A} (P : ℕ → ℕ → Type 0) → Refused 0 P x → x ≡ refuses n p → P n p
refused_as P given e = never (sym e)
refused_as {n = n} {p = p} P (there {n = m} {p = r} q i h) e =
    let a : m ≡ n = cc in
    let b : r ≡ p = cc in
    let c : q ≡ p = omega arith in
    subst (P n) c (subst (λ (k : ℕ). P k q) a h)

pub check_met : (limit : Limit) (s : List ℕ) (m : ℕ) → admitted s ≡ gives m → (strict : Bool) (n p : ℕ)
    → check_under limit strict s ≡ refuses n p
    → Met (iterate_under limit s 4) n p
unfolding check_under walk_under walk_for
check_met limit s m a strict n p q =
    refused_as (Met (iterate_under limit s 4))
    (along_met limit strict s (walk_for limit (length s) strict) (λ v k j u b. walk_met limit strict (length s) v k j u b)
    outermost 0 4 (iterate_under limit s 4) (accounted limit s m a))
    q
