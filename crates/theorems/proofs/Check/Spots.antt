-- What the walk of the whole check says at a spot that it accepts from (RULES.md, "The whole check").
use Prim.Native.Nat.{ℕ, ◌+◌, ◌-◌, ◌<◌}
use mathlib.Core.Path.{◌≡◌, refl, sym, ap, subst, ◌∙◌}
use mathlib.Core.List.{List}
use mathlib.Core.Bool.{Bool, false}
use native.Mathlib.Omega.{arith}
use lib.ListN.{length}
use Rattle.bson.specs.Answer.{Answer, gives, refuses, then}
use Rattle.bson.specs.Bytes.{Part, bytes}
use Rattle.bson.specs.Cstring.{Limit}
use Rattle.bson.specs.Step.{cursor, Element, Step, yield, end, step_under}
use Rattle.bson.specs.Value.{Value, value_of}
use Rattle.bson.specs.Level.{Opening, closed, opens, opening}
use Rattle.bson.specs.Check.{inside, visit, opened, check_under, walk_under}
use Rattle.bson.specs.Reach.{Spot, spot_behind, within, YieldsAt, Comes, first, next, into}
use Rattle.laws.proofs.AnswerLaws.{never, gives_injective, then_gives, then_from}
use Rattle.laws.proofs.ReadLaws.{read_says}
use Rattle.laws.specs.FramedAt.{FramedAt}
use Rattle.laws.proofs.StepLaws.{step_yields}
use Rattle.laws.proofs.OpenLaws.{Opens, value_opens, opens_shorter}
use Rattle.laws.proofs.CheckLaws.{Visited, visit_says, visit_gives, walk_from, walk_eq, walk_ends, walk_refused, walk_onward}

-- the bytes from a spot on: fewer behind an element and within it
abbrev pub bytes_left : Spot → ℕ
bytes_left σ = length σ.document - σ.offset

-- two answers of one step are one element
pub one_element : (x : Answer Step) (e f : Element) → x ≡ gives (yield e) → x ≡ gives (yield f) → e ≡ f
one_element x e f p q = cc

pub end_no_element : (x : Answer Step) (e : Element) → x ≡ gives end → x ≡ gives (yield e) → ⊥
end_no_element x e p q = let z : ◌≡◌ {A = ℕ} 0 1 = cc in omega arith

-- ---- what is opened at a spot

-- what is opened at a spot lies inside the element there, and is shorter than its document
pub record Deeper (σ : Spot) (e : Element) (p : Part) : Type 0 where
  pub yields : FramedAt σ.document (cursor σ.offset false) e
  pub lies : Opens σ.document e.value p
  pub sized : length (bytes σ.document p) ≡ p.size
  pub shorter : p.size < length σ.document

module _ (limit : Limit) where
  -- the walk from a spot on
  abbrev pub spot_walk : Bool → Spot → Answer ℕ
  spot_walk strict σ = walk_from limit strict σ.document σ.level σ.position σ.offset

  -- what an accepted value opens: nothing, or a document that is accepted
  pub data Inner (strict : Bool) (σ : Spot) : Opening → ℕ → Type 0 where
    plain : Inner strict σ closed 1
    deep : (is_array : Bool) (levels : ℕ) (p : Part) (n : ℕ) → spot_walk strict (within σ is_array levels p) ≡ gives n
        → Inner strict σ (opens is_array levels p) (1 + n)

  -- an accepted value: the key passed, it reads, it is not too deep, and what it opens is accepted; n values with those inside
  pub record OpenedAt (strict : Bool) (σ : Spot) (e : Element) (n : ℕ) : Type 0 where
    pub what : Opening
    pub visited : Visited strict σ.document σ.level σ.position e what
    pub inner : Inner strict σ what n

  -- an accepted walk ends there, or goes on behind an accepted value
  pub data Walked (strict : Bool) (σ : Spot) : ℕ → Type 0 where
    ended : step_under limit σ.document (cursor σ.offset false) ≡ gives end → Walked strict σ 0
    more : (e : Element) (n m : ℕ) → YieldsAt limit σ e → OpenedAt strict σ e n → spot_walk strict (spot_behind σ e) ≡ gives m
        → Walked strict σ (n + m)

  module _ (strict : Bool) (σ : Spot) where
    inner_says : (o : Opening) (n : ℕ) → inside (walk_under limit strict) σ.document σ.level o ≡ gives n → Inner strict σ o (1 + n)
    inner_says closed n x = subst (λ (k : ℕ). Inner strict σ closed (1 + k)) (gives_injective x) plain
    inner_says (opens is_array levels p) n x = deep is_array levels p n (sym (walk_eq limit strict _ _) ∙ x)

    pub opened_at_says : (e : Element) (n : ℕ) → opened strict (walk_under limit strict) σ.document σ.level σ.position e ≡ gives n
        → OpenedAt strict σ e n
    unfolding opened
    opened_at_says e n x =
        let (o, q, x1) = then_gives (visit strict σ.document σ.level σ.position e) _ x in
        let (k, z, x2) = then_gives (inside (walk_under limit strict) σ.document σ.level o) _ x1 in
        subst (OpenedAt strict σ e) (gives_injective x2)
        (record { what = o; visited = visit_says strict σ.document σ.level σ.position e o q; inner = inner_says o k z })

    inner_gives : (o : Opening) (n : ℕ) → Inner strict σ o n
        → (then (inside (walk_under limit strict) σ.document σ.level o) λ k. gives (1 + k)) ≡ gives n
    inner_gives o n plain = refl
    inner_gives o n (deep is_array levels p k w) = then_from _ _ (walk_eq limit strict _ _ ∙ w)

    pub opened_at_gives : (e : Element) (n : ℕ) → OpenedAt strict σ e n
        → opened strict (walk_under limit strict) σ.document σ.level σ.position e ≡ gives n
    unfolding opened
    opened_at_gives e n r =
        then_from _ _ (visit_gives strict σ.document σ.level σ.position e r.what r.visited)
        ∙ inner_gives r.what n r.inner

    walked_by : (n : ℕ) (x : Answer Step) → step_under limit σ.document (cursor σ.offset false) ≡ x → spot_walk strict σ ≡ gives n
        → Walked strict σ n
    walked_by n (gives end) y w = subst (Walked strict σ) (gives_injective (sym (walk_ends limit strict _ _ _ _ y) ∙ w)) (ended y)
    walked_by n (refuses k p) y w = never (sym (walk_refused limit strict _ _ _ _ k p y) ∙ w)
    walked_by n (gives (yield e)) y w =
        let (k, q, x1) = then_gives (opened strict (walk_under limit strict) σ.document σ.level σ.position e) _
        (sym (walk_onward limit strict _ _ _ _ e y) ∙ w) in
        let (m, z, x2) = then_gives (spot_walk strict (spot_behind σ e)) _ x1 in
        subst (Walked strict σ) (gives_injective x2) (more e k m y (opened_at_says e k q) z)

    pub walked_says : (n : ℕ) → spot_walk strict σ ≡ gives n → Walked strict σ n
    walked_says n x = walked_by n (step_under limit σ.document (cursor σ.offset false)) refl x

    pub walked_gives : (n : ℕ) → Walked strict σ n → spot_walk strict σ ≡ gives n
    walked_gives n (ended y) = walk_ends limit strict _ _ _ _ y
    walked_gives n (more e k m y o w) =
        walk_onward limit strict _ _ _ _ e y ∙ then_from _ _ (opened_at_gives e k o) ∙ then_from _ _ w

  -- ---- onward and inward

  pub opens_deeper : (σ : Spot) (e : Element) (v : Value) (is_array : Bool) (levels : ℕ) (p : Part) → YieldsAt limit σ e
      → value_of σ.document e ≡ gives v → opening v ≡ opens is_array levels p → Deeper σ e p
  opens_deeper σ e v is_array levels p y x o =
      let yields = step_yields limit σ.document _ e y in
      let lies = value_opens σ.document _ e yields v x is_array levels p o in
      let (sized, shorter) = opens_shorter σ.document _ e yields p lies in
      record { yields = yields; lies = lies; sized = sized; shorter = shorter }

  -- what an accepted walk says where the step yields an element
  pub record Onward (strict : Bool) (σ : Spot) (e : Element) (n : ℕ) : Type 0 where
    pub values : ℕ
    pub opened : OpenedAt strict σ e values
    pub rest : ℕ
    pub accepted : spot_walk strict (spot_behind σ e) ≡ gives rest
    pub sum : values + rest ≡ n

  onward_says : (strict : Bool) (σ : Spot) (e : Element) (n : ℕ) → YieldsAt limit σ e → Walked strict σ n → Onward strict σ e n
  onward_says strict σ e n y (ended q) = absurd (end_no_element _ e q y)
  onward_says strict σ e n y (more f k m q o w) =
      let i : f ≡ e = one_element _ f e q y in
      record {
        values = k;
        opened = subst (λ (d : Element). OpenedAt strict σ d k) i o;
        rest = m;
        accepted = subst (λ (d : Element). spot_walk strict (spot_behind σ d) ≡ gives m) i w;
        sum = refl;
      }

  pub accepted_onward : (strict : Bool) (σ : Spot) (e : Element) (n : ℕ) → YieldsAt limit σ e → spot_walk strict σ ≡ gives n
      → Onward strict σ e n
  accepted_onward strict σ e n y w = onward_says strict σ e n y (walked_says strict σ n w)

  inner_accepted : (strict : Bool) (σ : Spot) (is_array : Bool) (levels : ℕ) (p : Part) (o : Opening) (n : ℕ) → o ≡ opens is_array levels p
      → Inner strict σ o n → (m : ℕ) × (spot_walk strict (within σ is_array levels p) ≡ gives m)
  inner_accepted strict σ is_array levels p o n q plain = let z : ◌≡◌ {A = ℕ} 0 1 = cc in absurd (omega arith)
  inner_accepted strict σ is_array levels p o n q (deep is_array' levels' p' m w) =
      let a : is_array' ≡ is_array = cc in
      let b : levels' ≡ levels = cc in
      let c : p' ≡ p = cc in
      (m, rw (← a, ← b, ← c) w)

  -- ---- every spot that one comes to

  -- from an accepted slice every spot that one comes to is accepted
  pub comes_accepted : (strict : Bool) (s : List ℕ) (n : ℕ) → check_under limit strict s ≡ gives n → (σ : Spot) → Comes limit s σ
      → (m : ℕ) × (spot_walk strict σ ≡ gives m)
  unfolding check_under
  comes_accepted strict s n h σ first = (n, sym (walk_eq limit strict s _) ∙ h)
  comes_accepted strict s n h τ (next {σ} e c y) =
      let (m, w) = comes_accepted strict s n h σ c in
      let r = accepted_onward strict σ e m y w in
      (r.rest, r.accepted)
  comes_accepted strict s n h τ (into {σ} v is_array levels p c x o) =
      let (m, w) = comes_accepted strict s n h σ c in
      let (e, y, q) = read_says limit σ.document σ.offset v x in
      let r = (accepted_onward strict σ e m y w).opened in
      let i : r.visited.value ≡ v = gives_injective (sym r.visited.reads ∙ q) in
      inner_accepted strict σ is_array levels p r.what _ (sym r.visited.is ∙ ap opening i ∙ o) r.inner
