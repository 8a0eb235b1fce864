-- The count of a passed slice is the number of its reachable values (RULES.md, "The whole check"; demand 3).
use Prim.Native.Nat.{ℕ, zero, suc, ◌+◌, ◌≤◌, ◌<◌}
use mathlib.Core.Path.{◌≡◌, refl, sym, ap, subst, ◌∙◌}
use mathlib.Core.List.Memᴰ
use mathlib.Core.List.{List, [], ◌∷◌, ◌++◌, Memᴰ}
use mathlib.Core.Logic.{◌↔◌, ◌⊎◌, inl, inr, ⊎_elim}
use mathlib.Core.Bool.{Bool, false}
use native.Mathlib.Omega.{arith}
use native.Mathlib.Nat.{le_refl}
use lib.ListN.{length, length-append}
use Rattle.bson.specs.Answer.{gives}
use Rattle.bson.specs.Bytes.{Part}
use Rattle.bson.specs.Step.{cursor, Element, past, end, step_under}
use Rattle.bson.specs.Value.{Value, value_of, read_at_under}
use Rattle.bson.specs.Level.{Opening, closed, opens, opening, outermost}
use Rattle.bson.specs.Reach.{Spot, start, spot_behind, within, YieldsAt, Comes, first, next, into, place_of, Rising, Number}
use Rattle.laws.proofs.AnswerLaws.{gives_injective}
use Rattle.laws.proofs.ReadLaws.{read_step, read_says}
use Rattle.laws.proofs.StepLaws.{step_yields}
use Rattle.laws.proofs.AdvanceLaws.{ended_at}
use Rattle.laws.proofs.CheckLaws.{Visited, walk_eq}
use Rattle.theorems.proofs.Check.Spots.{spot_walk, bytes_left, Inner, plain, deep, Walked, ended, more, walked_says, opens_deeper}
use Rattle.theorems.proofs.Check.Spots.{one_element}
use Rattle.bson.specs.Check.{check_under}
use Rattle.bson.specs.Cstring.{Limit}

-- ---- from one spot to another

module _ (limit : Limit) where
  -- from one spot one comes to another; `Comes` grows at its far end, this at the near one, where a walk begins
  data Leads : Spot → Spot → Type 0 where
    here : {σ : Spot} → Leads σ σ
    on : {σ τ : Spot} (e : Element) → YieldsAt limit σ e → Leads (spot_behind σ e) τ → Leads σ τ
    down : {σ τ : Spot} (v : Value) (is_array : Bool) (levels : ℕ) (p : Part) → read_at_under limit σ.document σ.offset ≡ gives v
        → opening v ≡ opens is_array levels p → Leads (within σ is_array levels p) τ → Leads σ τ

  comes_leads : {s : List ℕ} {σ τ : Spot} → Comes limit s σ → Leads σ τ → Leads (start s outermost) τ
  comes_leads first l = l
  comes_leads (next e c y) l = comes_leads c (on e y l)
  comes_leads (into v is_array levels p c x o) l = comes_leads c (down v is_array levels p x o l)

  leads_comes : {s : List ℕ} {σ τ : Spot} → Comes limit s σ → Leads σ τ → Comes limit s τ
  leads_comes c here = c
  leads_comes c (on e y l) = leads_comes (next e c y) l
  leads_comes c (down v is_array levels p x o l) = leads_comes (into v is_array levels p c x o) l

  -- a value stands at a spot
  abbrev Stands : Spot → Type 0
  Stands σ = (e : Element) × YieldsAt limit σ e

  -- the spots inside what a value opens
  abbrev Inside : Spot → Opening → Spot → Type 0
  Inside σ closed τ = ⊥
  Inside σ (opens is_array levels p) τ = Leads (within σ is_array levels p) τ

  -- where a value stands one stays, goes inside it, or goes behind it
  module _ {σ : Spot} (e : Element) (y : YieldsAt limit σ e) (v : Value) (x : value_of σ.document e ≡ gives v) where
    leads_cases : {τ : Spot} (o : Opening) → opening v ≡ o → Leads σ τ → ((τ ≡ σ) ⊎ Inside σ o τ) ⊎ Leads (spot_behind σ e) τ
    leads_cases o q here = inl (inl refl)
    leads_cases {τ} o q (on f z l) = inr (subst (λ (d : Element). Leads (spot_behind σ d) τ) (one_element _ f e z y) l)
    leads_cases {τ} o q (down w is_array levels p z r l) =
        let i : w ≡ v = gives_injective (sym z ∙ read_step limit σ.document σ.offset e y ∙ x) in
        inl (inr (subst (λ (k : Opening). Inside σ k τ) (sym r ∙ ap opening i ∙ q) l))

    cases_lead : {τ : Spot} (o : Opening) → opening v ≡ o → ((τ ≡ σ) ⊎ Inside σ o τ) ⊎ Leads (spot_behind σ e) τ → Leads σ τ
    cases_lead o q (inl (inl i)) = subst (Leads σ) (sym i) here
    cases_lead closed q (inl (inr l)) = absurd l
    cases_lead (opens is_array levels p) q (inl (inr l)) = down v is_array levels p (read_step limit σ.document σ.offset e y ∙ x) q l
    cases_lead o q (inr l) = on e y l

  -- ---- lists of values by rising place

  -- the values at spots of a kind, n of them, listed by rising place
  record Listed (P : Spot → Type 0) (low high n : ℕ) : Type 0 where
    list : List Spot
    rising : Rising low list high
    sound : (τ : Spot) → Memᴰ τ list → P τ × Stands τ
    whole : (τ : Spot) → P τ → Stands τ → Memᴰ τ list
    size : length list ≡ n

  rising_wider : (a b c d : ℕ) (l : List Spot) → a ≤ b → c ≤ d → Rising b l c → Rising a l d
  rising_wider a b c d [] i j r = omega arith
  rising_wider a b c d (σ ∷ l) i j r = (omega arith, rising_wider (suc (place_of σ)) (suc (place_of σ)) c d l (le_refl _) j r.1)

  rising_append : (a b c : ℕ) (l m : List Spot) → Rising a l b → Rising b m c → Rising a (l ++ m) c
  rising_append a b c [] m r q = rising_wider a b c c m r (le_refl c) q
  rising_append a b c (σ ∷ l) m r q = (r.0, rising_append (suc (place_of σ)) b c l m r.1 q)

  listed_none : {P : Spot → Type 0} (low high : ℕ) → low ≤ high → ((τ : Spot) → P τ → Stands τ → ⊥) → Listed P low high 0
  listed_none low high i h =
      record { list = []; rising = i; sound = λ τ m. absurd (Memᴰ.not-nil m); whole = λ τ l z. absurd (h τ l z); size = refl }

  -- a value in front of a list
  listed_first : {P : Spot → Type 0} (σ : Spot) (high n : ℕ) → Stands σ → Listed P (suc (place_of σ)) high n
      → Listed (λ τ. (τ ≡ σ) ⊎ P τ) (place_of σ) high (1 + n)
  listed_first σ high n z x =
      record {
        list = σ ∷ x.list;
        rising = (le_refl _, x.rising);
        sound = λ τ m. ⊎_elim
            (λ q. (inl q, subst Stands (sym q) z))
            (λ t. (inr (x.sound τ t).0, (x.sound τ t).1))
            (Memᴰ.cases_cons m);
        whole = λ τ l w. ⊎_elim (λ q. Memᴰ.head q) (λ k. Memᴰ.tail (x.whole τ k w)) l;
        size = omega (arith, x.size);
      }

  -- one list behind another
  listed_both : {P Q : Spot → Type 0} (a b c n m : ℕ) → Listed P a b n → Listed Q b c m → Listed (λ τ. P τ ⊎ Q τ) a c (n + m)
  listed_both a b c n m x y =
      record {
        list = x.list ++ y.list;
        rising = rising_append a b c x.list y.list x.rising y.rising;
        sound = λ τ t. ⊎_elim
            (λ u. (inl (x.sound τ u).0, (x.sound τ u).1))
            (λ u. (inr (y.sound τ u).0, (y.sound τ u).1))
            (Memᴰ.append_cases x.list t);
        whole = λ τ l z. ⊎_elim
            (λ k. Memᴰ.append_left y.list (x.whole τ k z))
            (λ k. Memᴰ.append_right x.list (y.whole τ k z))
            l;
        size = omega (arith, length-append x.list y.list, x.size, y.size);
      }

  -- the same spots said in another way, in a wider range
  listed_same : {P Q : Spot → Type 0} (a b c d n : ℕ) → a ≤ b → c ≤ d → ((τ : Spot) → P τ ↔ Q τ) → Listed P b c n → Listed Q a d n
  listed_same a b c d n i j h x =
      record {
        list = x.list;
        rising = rising_wider a b c d x.list i j x.rising;
        sound = λ τ m. ((h τ).0 (x.sound τ m).0, (x.sound τ m).1);
        whole = λ τ l z. x.whole τ ((h τ).1 l) z;
        size = x.size;
      }

  -- ---- the values from a spot on

  abbrev ValuesFrom : Spot → ℕ → Type 0
  ValuesFrom σ n = Listed (Leads σ) (place_of σ) (σ.level.base + length σ.document) n

  -- where the step ends, no value stands, and one comes no further
  module _ (σ : Spot) (q : step_under limit σ.document (cursor σ.offset false) ≡ gives end) where
    end_empty : Stands σ → ⊥
    end_empty (e, y) = let z = step_yields limit σ.document _ e y in omega (arith, ended_at limit σ.document σ.offset q)

    end_last : {τ : Spot} → Leads σ τ → Stands τ → ⊥
    end_last here z = end_empty z
    end_last (on e y l) z = end_empty (e, y)
    end_last (down v is_array levels p x o l) z = let (e, y, r) = read_says limit σ.document σ.offset v x in end_empty (e, y)

    from_end : ValuesFrom σ 0
    from_end = listed_none _ _ (omega (arith, ended_at limit σ.document σ.offset q)) (λ τ l z. end_last l z)

  module _ (strict : Bool) (σ : Spot)
      (ih : (τ : Spot) (n : ℕ) → bytes_left τ < bytes_left σ → spot_walk limit strict τ ≡ gives n → ValuesFrom τ n) where
    -- an accepted value and those inside it
    from_inner : (e : Element) → YieldsAt limit σ e → (o : Opening) → Visited strict σ.document σ.level σ.position e o
        → (n : ℕ) → Inner limit strict σ o n → Listed (λ τ. (τ ≡ σ) ⊎ Inside σ o τ) (place_of σ) (σ.level.base + past e) n
    from_inner e y o r n plain =
        let z = step_yields limit σ.document _ e y in
        listed_first σ _ 0 (e, y) (listed_none _ _ (omega arith) (λ τ l s. l))
    from_inner e y o r n (deep is_array levels p k w) =
        let d = opens_deeper limit σ e r.value is_array levels p y r.reads r.is in
        let z = d.yields in
        let i = d.lies in
        listed_first σ _ k (e, y)
        (listed_same _ _ _ _ k (omega arith) (omega (arith, d.sized)) (λ τ. (λ l. l, λ l. l))
        (ih (within σ is_array levels p) k (omega (arith, d.sized)) w))

    -- and those behind it
    from_walked : (n : ℕ) → Walked limit strict σ n → ValuesFrom σ n
    from_walked n (ended q) = from_end σ q
    from_walked n (more e k m y r w) =
        let d = r.visited in
        let z = step_yields limit σ.document _ e y in
        listed_same _ _ _ _ n (le_refl _) (le_refl _)
        (λ τ. (cases_lead e y d.value d.reads r.what d.is, leads_cases e y d.value d.reads r.what d.is))
        (listed_both _ _ _ k m (from_inner e y r.what d k r.inner) (ih (spot_behind σ e) m (omega arith) w))

  from_accepted : (f : ℕ) (strict : Bool) (σ : Spot) (n : ℕ) → bytes_left σ < f → spot_walk limit strict σ ≡ gives n → ValuesFrom σ n
  from_accepted zero strict σ n i w = absurd (omega arith)
  from_accepted (suc f) strict σ n i w =
      from_walked strict σ (λ τ m j. from_accepted f strict τ m (omega arith)) n (walked_says limit strict σ n w)

  -- ---- the count of a passed slice

  -- The count of a passed slice is the number of its reachable values.
  pub check_counts : (strict : Bool) (s : List ℕ) (n : ℕ) → check_under limit strict s ≡ gives n → Number limit s n
  unfolding check_under
  check_counts strict s n h =
      let x = from_accepted (suc (length s)) strict (start s outermost) n (omega arith) (sym (walk_eq limit strict s outermost) ∙ h) in
      record {
        list = x.list;
        rising = rising_wider 0 _ _ _ x.list (omega arith) (omega arith) x.rising;
        exactly = λ σ. (
          λ m. let (l, z) = x.sound σ m in record { comes = leads_comes first l; element = z.0; yields = z.1 },
          λ r. x.whole σ (comes_leads r.comes here) (r.element, r.yields),
        );
        size = x.size;
      }

  -- ---- there is one such number

  -- what stands in a rising list lies no lower than where it begins
  rising_above : (low high : ℕ) (l : List Spot) (τ : Spot) → Rising low l high → Memᴰ τ l → low ≤ place_of τ
  rising_above low high [] τ r m = absurd (Memᴰ.not-nil m)
  rising_above low high (σ ∷ l) τ r m =
      ⊎_elim
      (λ e. subst (λ (ρ : Spot). low ≤ place_of ρ) (sym e) r.0)
      (λ t. omega (arith, r.0, rising_above (suc (place_of σ)) high l τ r.1 t))
      (Memᴰ.cases_cons m)

  abbrev Subset : List Spot → List Spot → Type 0
  Subset l m = (τ : Spot) → Memᴰ τ l → Memᴰ τ m

  -- what lies above the first is among the rest
  subset_rest : (σ : Spot) (l m : List Spot) (high : ℕ) → Rising (suc (place_of σ)) l high → Subset l (σ ∷ m) → Subset l m
  subset_rest σ l m high r h τ t =
      ⊎_elim
      (λ e. let i : place_of τ ≡ place_of σ = ap place_of e in absurd (omega (arith, rising_above _ high l τ r t)))
      (λ u. u)
      (Memᴰ.cases_cons (h τ t))

  -- a rising list of spots that all stand in another is no longer than it
  rising_shorter : (a b c d : ℕ) (l m : List Spot) → Rising a l b → Rising c m d → Subset l m → length l ≤ length m
  rising_shorter a b c d [] m r q h = omega arith
  rising_shorter a b c d (σ ∷ l) [] r q h = absurd (Memᴰ.not-nil (h σ (Memᴰ.head refl)))
  rising_shorter a b c d (σ ∷ l) (τ ∷ m) r q h =
      ⊎_elim
      (λ e.
      let g = subset_rest τ l m b (subst (λ (ρ : Spot). Rising (suc (place_of ρ)) l b) e r.1) (λ ρ t. h ρ (Memᴰ.tail t)) in
      omega (arith, rising_shorter (suc (place_of σ)) b (suc (place_of τ)) d l m r.1 q.1 g))
      (λ t.
      let g = subset_rest τ (σ ∷ l) m b (rising_above _ d m σ q.1 t, r.1) h in
      omega (arith, rising_shorter a b (suc (place_of τ)) d (σ ∷ l) m r q.1 g))
      (Memᴰ.cases_cons (h σ (Memᴰ.head refl)))

  -- And there is only one such number.
  pub number_unique : (s : List ℕ) (m n : ℕ) → Number limit s m → Number limit s n → m ≡ n
  number_unique s m n x y = omega (arith, x.size, y.size, shorter x y, shorter y x)
    where
      shorter : {i j : ℕ} (z : Number limit s i) (w : Number limit s j) → length z.list ≤ length w.list
      shorter z w = rising_shorter _ _ _ _ z.list w.list z.rising w.rising (λ σ t. (w.exactly σ).1 ((z.exactly σ).0 t))
