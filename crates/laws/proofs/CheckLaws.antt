-- The walk of the whole check goes from step to step and into what values open; its fuel never runs out, and its count is small (RULES.md,
-- "The whole check").
use Prim.Native.Nat.{ℕ, zero, suc, ◌+◌, ◌-◌, ◌≤◌, ◌<◌}
use mathlib.Core.Path.{◌≡◌, refl, sym, ap, ◌∙◌}
use mathlib.Core.List.{List}
use mathlib.Core.Bool.{Bool, true, false}
use native.Mathlib.Omega.{arith}
use lib.ListN.{length}
use lib.Dec.{leb}
use borrow.Author.Tests.{leb-true, le-leb}
use Rattle.bson.specs.Answer.{Answer, gives, refuses, then}
use Rattle.bson.specs.Bytes.{bytes}
use Rattle.bson.specs.Step.{Cursor, cursor, Element, past, yield, end, Iteration, ended, broken, more, onward, step_under, iterate_under}
use Rattle.bson.specs.Value.{Value, value_of}
use Rattle.bson.specs.Level.{Opening, closed, opens, opening, Level, deeper}
use Rattle.bson.specs.Check.{Walk, key_passes, visit, inside, opened, along, walk_for, walk_under}
use Rattle.laws.proofs.AnswerLaws.{never, gives_injective, unless_gives, then_gives, then_same, at_gives}
use Rattle.laws.specs.FramedAt.{FramedAt}
use Rattle.laws.proofs.StepLaws.{iterate_eq, Each, iterate_each}
use Rattle.bson.specs.Cstring.{Limit}
use Rattle.laws.proofs.OpenLaws.{value_opens, opens_shorter}

-- ---- one value

module _ (strict : Bool) (s : List ℕ) (l : Level) (position : ℕ) (e : Element) where
  -- what a visit that gives says: the key passed, the value reads, and it is not too deep
  pub record Visited (o : Opening) : Type 0 where
    pub key : key_passes strict l position (bytes s e.key) ≡ true
    pub value : Value
    pub reads : value_of s e ≡ gives value
    pub shallow : l.depth ≤ 200
    pub is : opening value ≡ o

  pub visit_says : (o : Opening) → visit strict s l position e ≡ gives o → Visited o
  unfolding visit
  visit_says o x =
      let (t, x1) = unless_gives (key_passes strict l position (bytes s e.key)) 19 _ (at_gives (l.base + e.place) _ x) in
      let (v, q, x2) = then_gives (value_of s e) _ x1 in
      let (d, x3) = unless_gives (leb l.depth 200) 13 _ x2 in
      record { key = t; value = v; reads = q; shallow = leb-true l.depth 200 d; is = gives_injective x3 }

  pub visit_gives : (o : Opening) → Visited o → visit strict s l position e ≡ gives o
  unfolding visit
  visit_gives o r = rw (r.key, r.reads, le-leb l.depth 200 r.shallow, r.is)

  -- where the key passes the visit is that of the plain check, which asks for none; else it is refused with 19
  pub visit_keyed : key_passes strict l position (bytes s e.key) ≡ true → visit strict s l position e ≡ visit false s l 0 e
  unfolding visit
  visit_keyed k = rw k

  pub visit_bad_key : key_passes strict l position (bytes s e.key) ≡ false → visit strict s l position e ≡ refuses 19 (l.base + e.place)
  unfolding visit
  visit_bad_key k = rw k

-- ---- the fuel of the walk

-- walks that agree on shorter lists
module _ (strict : Bool) (s : List ℕ) (w x : Walk) (h : (v : List ℕ) (k : Level) → length v < length s → w v k ≡ x v k) where
  inside_same : (l : Level) (position : ℕ) (c : Cursor) (e : Element) → FramedAt s c e → (o : Opening)
      → visit strict s l position e ≡ gives o
      → inside w s l o ≡ inside x s l o
  inside_same l position c e y closed q = refl
  inside_same l position c e y (opens is_array levels p) q =
      let r = visit_says strict s l position e (opens is_array levels p) q in
      let o = value_opens s c e y r.value r.reads is_array levels p r.is in
      h _ _ (omega (arith, opens_shorter s c e y p o))

  opened_same : (l : Level) (position : ℕ) (c : Cursor) (e : Element) → FramedAt s c e
      → opened strict w s l position e ≡ opened strict x s l position e
  unfolding opened
  opened_same l position c e y = then_same (visit strict s l position e) _ _ (λ o q. rw (inside_same l position c e y o q))

  along_same : (l : Level) (position offset : ℕ) (i : Iteration) → Each s offset i
      → along strict w s l position i ≡ along strict x s l position i
  along_same l position offset ended g = refl
  along_same l position offset (broken n p) g = refl
  along_same l position offset (more e rest) g = rw (opened_same l position _ e g.0, along_same l (suc position) _ rest g.1)

-- as many levels as bytes, and one, are enough, so more change nothing
enough : (limit : Limit) (strict : Bool) (n m : ℕ) (s : List ℕ) (l : Level) → length s < n → length s < m
    → walk_for limit n strict s l ≡ walk_for limit m strict s l
unfolding walk_for
enough limit strict zero m s l h k = absurd (omega arith)
enough limit strict (suc n) zero s l h k = absurd (omega arith)
enough limit strict (suc n) (suc m) s l h k =
    along_same strict s (walk_for limit n strict) (walk_for limit m strict)
    (λ v d i. enough limit strict n m v d (omega arith) (omega arith)) l 0 4 (iterate_under limit s 4) (iterate_each limit s 4)

-- the walk from an offset on, behind so many elements
abbrev pub walk_from : Limit → Bool → List ℕ → Level → ℕ → ℕ → Answer ℕ
walk_from limit strict s l position offset = along strict (walk_under limit strict) s l position (iterate_under limit s offset)

pub walk_eq : (limit : Limit) (strict : Bool) (s : List ℕ) (l : Level) → walk_under limit strict s l ≡ walk_from limit strict s l 0 4
unfolding walk_under walk_for
walk_eq limit strict s l =
    along_same strict s (walk_for limit (length s) strict) (walk_under limit strict)
    (λ v d i. enough limit strict (length s) (suc (length v)) v d i (omega arith)) l 0 4 (iterate_under limit s 4) (iterate_each limit s 4)

module _ (limit : Limit) (strict : Bool) (s : List ℕ) (l : Level) (position offset : ℕ) where
  walked : walk_from limit strict s l position offset
      ≡ along strict (walk_under limit strict) s l position (onward (step_under limit s (cursor offset false)) (iterate_under limit s))
  walked = ap (along strict (walk_under limit strict) s l position) (iterate_eq limit s offset)

  pub walk_ends : step_under limit s (cursor offset false) ≡ gives end → walk_from limit strict s l position offset ≡ gives 0
  walk_ends e = walked ∙ rw e

  pub walk_refused : (n p : ℕ) → step_under limit s (cursor offset false) ≡ refuses n p
      → walk_from limit strict s l position offset ≡ refuses n (l.base + p)
  walk_refused n p e = walked ∙ rw e

  pub walk_onward : (e : Element) → step_under limit s (cursor offset false) ≡ gives (yield e)
      → walk_from limit strict s l position offset
      ≡ (then (opened strict (walk_under limit strict) s l position e) λ n. then
      (walk_from limit strict s l (suc position) (past e)) λ m. gives (n + m))
  walk_onward e y = walked ∙ rw y

-- ---- no more values than bytes

-- a document has no more values than bytes
module _ (strict : Bool) (s : List ℕ) (w : Walk)
    (h : (v : List ℕ) (k : Level) (n : ℕ) → length v < length s → w v k ≡ gives n → n ≤ length v) where
  inside_few : (l : Level) (position : ℕ) (c : Cursor) (e : Element) → FramedAt s c e → (o : Opening)
      → visit strict s l position e ≡ gives o
      → (n : ℕ) → inside w s l o ≡ gives n → n ≤ e.value.size
  inside_few l position c e y closed q n x = let z : 0 ≡ n = gives_injective x in omega arith
  inside_few l position c e y (opens is_array levels p) q n x =
      let r = visit_says strict s l position e (opens is_array levels p) q in
      let o = value_opens s c e y r.value r.reads is_array levels p r.is in
      let (i, k) = opens_shorter s c e y p o in
      let j : length (bytes s p) < length s = omega arith in
      omega (arith, h (bytes s p) (deeper l is_array levels p) n j x)

  opened_few : (l : Level) (position : ℕ) (c : Cursor) (e : Element) → FramedAt s c e → (n : ℕ) → opened strict w s l position e ≡ gives n
      → c.offset + n < past e
  unfolding opened
  opened_few l position c e y n x =
      let (o, q, x1) = then_gives (visit strict s l position e) _ x in
      let (k, z, x2) = then_gives (inside w s l o) _ x1 in
      let i : 1 + k ≡ n = gives_injective x2 in
      omega (arith, inside_few l position c e y o q k z)

  along_few : (l : Level) (position offset : ℕ) (i : Iteration) → Each s offset i → (n : ℕ) → along strict w s l position i ≡ gives n
      → n ≤ length s - offset
  along_few l position offset ended g n x = let z : 0 ≡ n = gives_injective x in omega arith
  along_few l position offset (broken k p) g n x = never x
  along_few l position offset (more e rest) g n x =
      let (a, q, x1) = then_gives (opened strict w s l position e) _ x in
      let (m, z, x2) = then_gives (along strict w s l (suc position) rest) _ x1 in
      let i : a + m ≡ n = gives_injective x2 in
      let y = g.0 in
      omega (arith, opened_few l position (cursor offset false) e y a q, along_few l (suc position) (past e) rest g.1 m z)

few_for : (limit : Limit) (f : ℕ) (strict : Bool) (s : List ℕ) (l : Level) (n : ℕ) → length s < f → walk_under limit strict s l ≡ gives n
    → n ≤ length s
few_for limit zero strict s l n i x = absurd (omega arith)
few_for limit (suc f) strict s l n i x =
    omega (
      arith,
      along_few strict s (walk_under limit strict) (λ v k m j y. few_for limit f strict v k m (omega arith) y) l 0 4 (iterate_under limit s 4)
          (iterate_each limit s 4) n
          (sym (walk_eq limit strict s l) ∙ x),
    )

walk_few : (limit : Limit) (strict : Bool) (v : List ℕ) (k : Level) (m : ℕ) → walk_under limit strict v k ≡ gives m → m ≤ length v
walk_few limit strict v k m x = few_for limit (suc (length v)) strict v k m (omega arith) x

-- an element brings fewer values than it has bytes, whether its own key is asked for or not
pub opened_count : (limit : Limit) (asked strict : Bool) (s : List ℕ) (l : Level) (position : ℕ) (c : Cursor) (e : Element)
    → FramedAt s c e → (n : ℕ) → opened asked (walk_under limit strict) s l position e ≡ gives n → c.offset + n < past e
opened_count limit asked strict s l position c e y n x =
    opened_few asked s (walk_under limit strict) (λ v k m j q. walk_few limit strict v k m q) l position c e y n x
