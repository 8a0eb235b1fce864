-- Which slices the whole check passes, plain and strict (RULES.md, "The whole check"; demand 3).
use Prim.Native.Nat.{ℕ, zero, suc, ◌+◌, ◌<◌}
use mathlib.Core.Path.{◌≡◌, refl, sym, ap, ◌∙◌}
use mathlib.Core.List.{List}
use mathlib.Core.Bool.{Bool, true, false}
use mathlib.Core.Logic.{◌↔◌}
use native.Mathlib.Omega.{arith}
use lib.ListN.{length}
use Rattle.bson.specs.Answer.{Answer, gives, refuses}
use Rattle.bson.specs.Bytes.{bytes}
use Rattle.bson.specs.Step.{admitted, cursor, Element, Step, yield, end, step_under}
use Rattle.bson.specs.Value.{Value, value_of}
use Rattle.bson.specs.Level.{Opening, closed, opens, opening, outermost}
use Rattle.bson.specs.Check.{key_passes, check_under}
use Rattle.bson.specs.Reach.{Spot, start, spot_behind, within, YieldsAt, Comes, first, next, into, Reachable, Ends, here, later, Whole, GoodKeys}
use Rattle.laws.proofs.AnswerLaws.{never}
use Rattle.laws.proofs.ReadLaws.{read_step, read_says}
use Rattle.laws.proofs.Common.{split}
use Rattle.laws.proofs.StepLaws.{step_admits, step_yields}
use Rattle.laws.proofs.AdvanceLaws.{step_ends, ended_at}
use Rattle.laws.proofs.CheckLaws.{walk_eq}
use Rattle.theorems.proofs.Check.Spots.{spot_walk, bytes_left, Inner, plain, deep, OpenedAt, Walked, ended, more, walked_says}
use Rattle.theorems.proofs.Check.Spots.{walked_gives, opens_deeper, Onward, accepted_onward, comes_accepted}
use Rattle.theorems.proofs.Check.FirstOfKey.{ends_next}
use Rattle.bson.specs.Cstring.{Limit}

-- ---- the keys that a check asks

module _ (limit : Limit) where
  -- the key test of a check holds at every reachable value; the plain check's holds always
  abbrev KeysPass : Bool → List ℕ → Type 0
  KeysPass strict s =
      (σ : Spot) (x : Reachable limit s σ) → key_passes strict σ.level σ.position (bytes σ.document x.element.key) ≡ true

  -- and the strict one's where the keys of arrays are good
  good_keys : (s : List ℕ) → KeysPass true s ↔ GoodKeys limit s
  good_keys s = ((λ k σ x a. let h = k σ x in rw a at h), λ g σ x. split σ.level.is_array (λ t. rw t (g σ x t)) (λ t. rw t))

  -- ---- what passes is whole

  -- an accepted walk is one of an admitted document, and comes to its terminator
  walked_admitted : (strict : Bool) (σ : Spot) (n : ℕ) → Walked limit strict σ n → admitted σ.document ≡ gives (length σ.document)
  walked_admitted strict σ n (ended q) = step_admits limit _ _ end q
  walked_admitted strict σ n (more e k m y o w) = step_admits limit _ _ (yield e) y

  walked_ends : (f : ℕ) (strict : Bool) (σ : Spot) (n : ℕ) → bytes_left σ < f → Walked limit strict σ n
      → Ends limit σ.document σ.offset
  walked_ends zero strict σ n l w = absurd (omega arith)
  walked_ends (suc f) strict σ n l (ended q) = here (ended_at limit σ.document σ.offset q)
  walked_ends (suc f) strict σ n l (more e k m y o w) =
      let z = step_yields limit σ.document _ e y in
      later e y (walked_ends f strict (spot_behind σ e) m (omega arith) (walked_says limit strict (spot_behind σ e) m w))

  -- a slice that a check passes is whole, and its keys pass
  module _ (strict : Bool) (s : List ℕ) (n : ℕ) (passed : check_under limit strict s ≡ gives n) where
    accepted : (σ : Spot) → Comes limit s σ → (m : ℕ) × (spot_walk limit strict σ ≡ gives m)
    accepted = comes_accepted limit strict s n passed

    reached : (σ : Spot) (x : Reachable limit s σ) → (m : ℕ) × Onward limit strict σ x.element m
    reached σ x = let (m, w) = accepted σ x.comes in (m, accepted_onward limit strict σ x.element m x.yields w)

    passed_whole : Whole limit s
    passed_whole =
        record {
          admits = let (m, w) = accepted _ first in walked_admitted strict _ m (walked_says limit strict (start s outermost) m w);
          ends =
              λ d l c. let (m, w) = accepted _ c in
              walked_ends (suc (length d)) strict _ m (omega arith) (walked_says limit strict (start d l) m w);
          reads =
              λ σ x. let v = (reached σ x).1.opened.visited in
              (v.value, read_step limit σ.document σ.offset x.element x.yields ∙ v.reads);
          shallow = λ σ x. (reached σ x).1.opened.visited.shallow;
        }

    passed_keys : KeysPass strict s
    passed_keys σ x = (reached σ x).1.opened.visited.key

  -- ---- what is whole passes

  -- iteration that comes to the terminator is not refused
  ends_unrefused : (d : List ℕ) (offset m n p : ℕ) → admitted d ≡ gives m → Ends limit d offset
      → step_under limit d (cursor offset false) ≡ refuses n p → ⊥
  ends_unrefused d offset m n p a (here q) x = never (sym x ∙ (step_ends limit d m a offset).1 q)
  ends_unrefused d offset m n p a (later e y r) x = never (sym x ∙ y)

  -- in a whole slice no step is refused at a spot that one comes to, so the walk gets through, by induction on the bytes left
  module _ (s : List ℕ) (whole : Whole limit s) where
    comes_admitted : (σ : Spot) → Comes limit s σ → admitted σ.document ≡ gives (length σ.document)
    comes_admitted σ first = whole.admits
    comes_admitted τ (next {σ} e c y) = step_admits limit σ.document _ (yield e) y
    comes_admitted τ (into {σ} v is_array levels p c x o) =
        let (e, y, q) = read_says limit σ.document σ.offset v x in
        let r = opens_deeper limit σ e v is_array levels p y q o in
        r.lies.admits ∙ ap gives (sym r.sized)

    comes_ends : (σ : Spot) → Comes limit s σ → Ends limit σ.document σ.offset
    comes_ends σ first = whole.ends s outermost first
    comes_ends τ (next {σ} e c y) = ends_next limit σ.document σ.offset e y (comes_ends σ c)
    comes_ends τ (into {σ} v is_array levels p c x o) = whole.ends _ _ (into v is_array levels p c x o)

    -- one count, the same for each check whose keys pass
    abbrev Counts : (Bool → ℕ → Type 0) → Type 0
    Counts P = (n : ℕ) × ((strict : Bool) → KeysPass strict s → P strict n)

    abbrev CountsAt : Spot → Type 0
    CountsAt σ = Counts (λ strict n. spot_walk limit strict σ ≡ gives n)

    module _ (σ : Spot) (c : Comes limit s σ) (ih : (τ : Spot) → Comes limit s τ → bytes_left τ < bytes_left σ → CountsAt τ) where
      inner_counts : (e : Element) (v : Value) → YieldsAt limit σ e → value_of σ.document e ≡ gives v
          → (o : Opening) → opening v ≡ o → Counts (λ strict n. Inner limit strict σ o n)
      inner_counts e v y x closed q = (1, λ strict k. plain)
      inner_counts e v y x (opens is_array levels p) q =
          let r = opens_deeper limit σ e v is_array levels p y x q in
          let (n, w) = ih (within σ is_array levels p) (into v is_array levels p c (read_step limit σ.document σ.offset e y ∙ x) q)
          (omega arith) in
          (1 + n, λ strict k. deep is_array levels p n (w strict k))

      opened_counts : (e : Element) → YieldsAt limit σ e → Counts (λ strict n. OpenedAt limit strict σ e n)
      opened_counts e y =
          let r : Reachable limit s σ = record { comes = c; element = e; yields = y } in
          let (v, x) = whole.reads σ r in
          let q : value_of σ.document e ≡ gives v = sym (read_step limit σ.document σ.offset e y) ∙ x in
          let (n, i) = inner_counts e v y q (opening v) refl in (
            n,
            λ strict k. record {
              what = opening v;
              visited = record { key = k σ r; value = v; reads = q; shallow = whole.shallow σ r; is = refl };
              inner = i strict k;
            },
          )

      spot_counts : (x : Answer Step) → step_under limit σ.document (cursor σ.offset false) ≡ x → CountsAt σ
      spot_counts (gives end) y = (0, λ strict k. walked_gives limit strict σ 0 (ended y))
      spot_counts (refuses n p) y = absurd (ends_unrefused σ.document σ.offset _ n p (comes_admitted σ c) (comes_ends σ c) y)
      spot_counts (gives (yield e)) y =
          let z = step_yields limit σ.document _ e y in
          let (n, o) = opened_counts e y in
          let (m, w) = ih (spot_behind σ e) (next e c y) (omega arith) in
          (n + m, λ strict k. walked_gives limit strict σ (n + m) (more e n m y (o strict k) (w strict k)))

    comes_counts : (f : ℕ) (σ : Spot) → Comes limit s σ → bytes_left σ < f → CountsAt σ
    comes_counts zero σ c l = absurd (omega arith)
    comes_counts (suc f) σ c l =
        spot_counts σ c (λ τ d i. comes_counts f τ d (omega arith)) (step_under limit σ.document (cursor σ.offset false)) refl

    whole_passes : Counts (λ strict n. check_under limit strict s ≡ gives n)
    unfolding check_under
    whole_passes =
        let (n, w) = comes_counts (suc (length s)) (start s outermost) first (omega arith) in
        (n, λ strict k. walk_eq limit strict s outermost ∙ w strict k)

  -- ---- plain and strict

  -- where one check passes, the other does so too if its keys pass, with the same count
  other_passes : (one other : Bool) (s : List ℕ) (n : ℕ) → check_under limit one s ≡ gives n → KeysPass other s
      → check_under limit other s ≡ gives n
  other_passes one other s n x k =
      let (m, w) = whole_passes s (passed_whole one s n x) in
      w other k ∙ sym (w one (passed_keys one s n x)) ∙ x

  -- The plain check passes a slice exactly when it is whole.
  pub check_passes : (s : List ℕ) → ((n : ℕ) × (check_under limit false s ≡ gives n)) ↔ Whole limit s
  check_passes s = ((λ x. passed_whole false s x.0 x.1), λ h. let (n, w) = whole_passes s h in (n, w false (λ σ x. refl)))

  -- The strict check passes exactly where the plain one does and every key of an array is good, with the same count.
  pub strict_passes : (s : List ℕ) (n : ℕ) → (check_under limit true s ≡ gives n) ↔ ((check_under limit false s ≡ gives n) × GoodKeys limit s)
  strict_passes s n = (
    (λ x. (other_passes true false s n x (λ σ y. refl), (good_keys s).0 (passed_keys true s n x))),
    (λ x. other_passes false true s n x.0 ((good_keys s).1 x.1)),
  )
