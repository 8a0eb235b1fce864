-- Lookup goes from step to step: what each answer of the step at an offset means for the search from there; what is found is had again at
-- its place, and lies in the slice; and a typed getter gives the number of the value found (RULES.md, "Values").
use Prim.Native.Nat.{ℕ, zero, suc, ◌+◌, ◌≤◌}
use mathlib.Core.Path.{◌≡◌, refl, sym, ap, subst, ◌∙◌}
use mathlib.Core.List.{List}
use mathlib.Core.Bool.{Bool, true, false}
use native.Mathlib.Omega.{arith}
use lib.IntN.{ℤ}
use lib.ListN.{length}
use lib.Dec.{leb, eqb}
use borrow.Author.Tests.{eqb-true}
use Rattle.bson.specs.Answer.{Answer, gives, refuses, then, at}
use Rattle.bson.specs.Bytes.{le64, i32, i64, Part, bytes, same}
use Rattle.bson.specs.Cstring.{Limit}
use Rattle.bson.specs.Tags.{ElementType, Boolean, Int32, Double, Int64, DateTime, Timestamp, tags, row_of, type_of}
use Rattle.bson.specs.Framing.{in_front}
use Rattle.bson.specs.Step.{terminator, cursor, Element, past, Step, yield, end, step_under, Iteration, onward, iterate_for, iterate_under}
use Rattle.bson.specs.Value.{Leaf, leaf, boolean, int32, int64, date_time, double, timestamp, as_leaf, bool, timestamp_of, content, value_in}
use Rattle.bson.specs.Value.{Value, value_of, of_tag, element_at_under, read_at_under}
use Rattle.bson.specs.Lookup.{Found, found, first, find_under, get_under, get_with_under, get_at_under, get_with, typed}
use Rattle.laws.proofs.AnswerLaws.{never, gives_injective, unless_gives, then_gives, at_gives}
use Rattle.laws.proofs.ReadLaws.{read_step, element_at_says}
use Rattle.laws.proofs.Common.{split}
use Rattle.laws.proofs.AdvanceLaws.{ended_at, refused_before}
use Rattle.laws.proofs.StepLaws.{step_yields, iterate_eq}
use Rattle.laws.proofs.PartLaws.{BothEnd, parts_inside}

-- the search from an offset on
abbrev pub search_from : Limit → List ℕ → List ℕ → ℕ → Answer Element
search_from limit s key offset = first s key (iterate_under limit s offset)

module _ (limit : Limit) (s key : List ℕ) (offset : ℕ) where
  searched : search_from limit s key offset ≡ first s key (onward (step_under limit s (cursor offset false)) (iterate_under limit s))
  searched = ap (first s key) (iterate_eq limit s offset)

  pub search_ends : step_under limit s (cursor offset false) ≡ gives end → search_from limit s key offset ≡ refuses 16 offset
  search_ends e = searched ∙ rw (e, ended_at _ s offset e)

  pub search_refused : (n p : ℕ) → step_under limit s (cursor offset false) ≡ refuses n p → search_from limit s key offset ≡ refuses n p
  search_refused n p e = searched ∙ rw e

  module _ (e : Element) (y : step_under limit s (cursor offset false) ≡ gives (yield e)) where
    pub search_found : same key (bytes s e.key) ≡ true → search_from limit s key offset ≡ gives e
    search_found k = searched ∙ rw (y, k)

    pub search_onward : same key (bytes s e.key) ≡ false → search_from limit s key offset ≡ search_from limit s key (past e)
    search_onward k = searched ∙ rw (y, k)

-- ---- what is found

-- a typed getter gives the number in the framed bytes of what the typed lookup finds
pub typed_is : {A : Type 0} (number : List ℕ → Answer A) (s key : List ℕ) (tag : ℕ) (f : Found) (v : List ℕ) (x : Answer A)
    → get_with s key tag ≡ gives f → v ≡ bytes s f.element.value → number v ≡ x → at f.element.place x ≡ typed number s key tag
typed_is number s key tag f v x g e q = rw (g, ← e, q)

-- what is found: an element that a step at its place yields, and its value as it reads
pub record FoundAt (limit : Limit) (s : List ℕ) (f : Found) : Type 0 where
  pub steps : step_under limit s (cursor f.element.place false) ≡ gives (yield f.element)
  pub reads : value_of s f.element ≡ gives f.value

-- an element that a step at its place yields
abbrev pub StepsTo : Limit → List ℕ → Element → Type 0
StepsTo limit s e = step_under limit s (cursor e.place false) ≡ gives (yield e)

steps_there : (limit : Limit) (s : List ℕ) (offset : ℕ) (e : Element) → step_under limit s (cursor offset false) ≡ gives (yield e)
    → StepsTo limit s e
steps_there limit s offset e y = rw (← (step_yields limit s (cursor offset false) e y).placed) at y

-- what reading one gives is found there
pub found_at : (limit : Limit) (s : List ℕ) (e : Element) (f : Found) → StepsTo limit s e → found s e ≡ gives f
    → (f.element.place ≡ e.place) × FoundAt limit s f
unfolding found
found_at limit s e f y x =
    let (v, q, g) = then_gives (value_of s e) _ x in
    subst (λ (d : Found). (d.element.place ≡ e.place) × FoundAt limit s d) (gives_injective g)
    (refl, record { steps = y; reads = q })

-- it lies in the slice, and so do the parts of its value
pub found_inside : (limit : Limit) (s : List ℕ) (f : Found) → FoundAt limit s f
    → (past f.element ≤ length s) × BothEnd (length s) f.value
found_inside limit s f x =
    let y = step_yields limit s _ f.element x.steps in
    (y.inside, parts_inside s _ f.element y f.value x.reads)

module _ (limit : Limit) (s key : List ℕ) where
  module _ (e : Element) where
    onward_finds : (offset : ℕ) (x : Answer Step) (i : ℕ → Iteration) → ((next : ℕ) → first s key (i next) ≡ gives e → StepsTo limit s e)
        → step_under limit s (cursor offset false) ≡ x → first s key (onward x i) ≡ gives e → StepsTo limit s e
    onward_finds offset (gives (yield d)) i h y x =
        split (same key (bytes s d.key))
        (λ t. subst (StepsTo limit s) (gives_injective (rw t at x)) (steps_there limit s offset d y))
        (λ t. h (past d) (rw t at x))
    onward_finds offset (gives end) i h y x = never x
    onward_finds offset (refuses n p) i h y x = never x

    finds_for : (n offset : ℕ) → first s key (iterate_for limit n s offset) ≡ gives e → StepsTo limit s e
    unfolding iterate_for
    finds_for zero offset x = never x
    finds_for (suc n) offset x = onward_finds offset (step_under limit s (cursor offset false)) (iterate_for limit n s) (finds_for n) refl x

    pub find_steps : find_under limit s key ≡ gives e → StepsTo limit s e
    unfolding find_under iterate_under
    find_steps x = finds_for (suc (length s)) 4 x

  -- a search is refused in the slice or where it began
  module _ (n p : ℕ) where
    onward_place : (offset : ℕ) (x : Answer Step) (i : ℕ → Iteration) → offset ≤ 4 + length s
        → ((next : ℕ) → next ≤ 4 + length s → first s key (i next) ≡ refuses n p → p ≤ 4 + length s)
        → step_under limit s (cursor offset false) ≡ x → first s key (onward x i) ≡ refuses n p → p ≤ 4 + length s
    onward_place offset (gives (yield d)) i l h y x =
        split (same key (bytes s d.key))
        (λ t. never (sym (rw t at x)))
        (λ t. h (past d) (omega (arith, (step_yields limit s (cursor offset false) d y).inside)) (rw t at x))
    onward_place offset (gives end) i l h y x = let j : terminator s ≡ p = cc in omega arith
    onward_place offset (refuses m q) i l h y x = let j : q ≡ p = cc in omega (arith, refused_before limit s offset m q y)

    place_for : (m offset : ℕ) → offset ≤ 4 + length s → first s key (iterate_for limit m s offset) ≡ refuses n p → p ≤ 4 + length s
    unfolding iterate_for
    place_for zero offset l x = let j : 0 ≡ p = cc in omega arith
    place_for (suc m) offset l x =
        onward_place offset (step_under limit s (cursor offset false)) (iterate_for limit m s) l (place_for m) refl x

    pub find_place : find_under limit s key ≡ refuses n p → p ≤ 4 + length s
    unfolding find_under iterate_under
    find_place x = place_for (suc (length s)) 4 (omega arith) x

  module _ (f : Found) (x : get_under limit s key ≡ gives f) where
    pub get_finds : FoundAt limit s f
    unfolding get_under
    get_finds = let (e, q, h) = then_gives (find_under limit s key) _ x in (found_at limit s e f (find_steps e q) h).1

    -- so a read at its place gives its value
    pub get_read : (step_under limit s (cursor f.element.place false) ≡ gives (yield f.element))
        × (read_at_under limit s f.element.place ≡ gives f.value)
    get_read = (get_finds.steps, read_step limit s f.element.place f.element get_finds.steps ∙ get_finds.reads)

    pub get_inside : (past f.element ≤ length s) × BothEnd (length s) f.value
    get_inside = found_inside limit s f get_finds

-- ---- at a place

-- the value of what is had at a place is what a reading there gives
read_value : (e : Element) (y : Answer Value)
    → then {A = Found} (then y λ v. gives (record { element = e; value = v })) (λ f. gives f.value) ≡ y
read_value e (gives v) = refl
read_value e (refuses n p) = refl

found_value : (s : List ℕ) (x : Answer Element) → then (then x (found s)) (λ f. gives f.value) ≡ then x (value_of s)
unfolding found
found_value s (gives e) = read_value e (value_of s e)
found_value s (refuses n p) = refl

module _ (limit : Limit) (s : List ℕ) where
  pub get_at_value : (place : ℕ) → then (get_at_under limit s place) (λ f. gives f.value) ≡ read_at_under limit s place
  unfolding get_at_under read_at_under
  get_at_value place = found_value s (element_at_under limit s place)

  -- it is found as a lookup finds
  pub get_at_finds : (place : ℕ) (f : Found) → get_at_under limit s place ≡ gives f → (f.element.place ≡ place) × FoundAt limit s f
  unfolding get_at_under
  get_at_finds place f x =
      let (e, q, h) = then_gives (element_at_under limit s place) _ x in
      let y = element_at_says limit s place e q in
      let (i, there) = found_at limit s e f (steps_there limit s place e y) h in
      (i ∙ (step_yields limit s (cursor place false) e y).placed, there)

  -- so what a lookup finds is had at its place
  pub had_there : (f : Found) → FoundAt limit s f → get_at_under limit s f.element.place ≡ gives f
  unfolding get_at_under element_at_under found
  had_there f a = rw (a.steps, a.reads)

-- ---- with a tag

-- what is found of a tag was read, and has the tag
pub of_tag_says : (x : Answer Found) (tag : ℕ) (f : Found) → (then x λ g. of_tag g.element tag g) ≡ gives f
    → (x ≡ gives f) × (f.element.tag ≡ tag)
of_tag_says x tag f h =
    let (g, q, h1) = then_gives x _ h in
    let (t, h2) = unless_gives (eqb g.element.tag tag) 17 _ (at_gives g.element.place _ h1) in
    let i : g ≡ f = gives_injective h2 in
    (q ∙ ap gives i, sym (ap (λ (d : Found). d.element.tag) i) ∙ eqb-true _ _ t)

pub get_with_says : (limit : Limit) (s key : List ℕ) (tag : ℕ) (f : Found) → get_with_under limit s key tag ≡ gives f
    → (get_under limit s key ≡ gives f) × (f.element.tag ≡ tag)
unfolding get_with_under
get_with_says limit s key tag f x = of_tag_says (get_under limit s key) tag f x

pub get_with_finds : (limit : Limit) (s key : List ℕ) (tag : ℕ) (f : Found) → get_with_under limit s key tag ≡ gives f → FoundAt limit s f
get_with_finds limit s key tag f x = get_finds limit s key f (get_with_says limit s key tag f x).0

-- ---- the typed getters of numbers

-- where the typed lookup finds, the typed getter gives the number of the value found
pub typed_reads_law : {A : Type 0} (number : List ℕ → Answer A) (holds : A → Leaf) (type : ElementType) (s key : List ℕ) (tag : ℕ) (f : Found)
    → type_of tag ≡ gives type → ((p : Part) → content s p type ≡ as_leaf holds (number (bytes s p)))
    → get_with s key tag ≡ gives f → (a : A) × (typed number s key tag ≡ gives a) × (f.value ≡ leaf (holds a))
unfolding value_of value_in
typed_reads_law number holds type s key tag f y r g =
    let p = f.element.value in
    let (d, t) = get_with_says _ s key tag f g in
    let x = (get_finds _ s key f d).reads in
    let (u, x1) = unless_gives (leb (p.offset + p.size) (length s)) 9 _ (at_gives f.element.place _ x) in
    let (k, q, x2) = then_gives (type_of f.element.tag) _ x1 in
    let i : k ≡ type = gives_injective (sym q ∙ ap type_of t ∙ y) in
    let h : as_leaf holds (number (bytes s p)) ≡ gives f.value = sym (r p) ∙ ap (content s p) (sym i) ∙ x2 in
    let (a, z, w) = then_gives (number (bytes s p)) _ h in
    (a, sym (typed_is number s key tag f (bytes s p) (gives a) g refl z), sym (gives_injective w))

module _ (s key : List ℕ) (f : Found) where
  pub get_f64_reads : get_with s key 0x01 ≡ gives f → (n : ℕ) × (typed (in_front 8 le64) s key 0x01 ≡ gives n) × (f.value ≡ leaf (double n))
  unfolding row_of tags content
  get_f64_reads = typed_reads_law (in_front 8 le64) double Double s key 0x01 f refl (λ p. refl)

  pub get_bool_reads : get_with s key 0x08 ≡ gives f → (n : Bool) × (typed bool s key 0x08 ≡ gives n) × (f.value ≡ leaf (boolean n))
  unfolding row_of tags content
  get_bool_reads = typed_reads_law bool boolean Boolean s key 0x08 f refl (λ p. refl)

  pub get_datetime_reads : get_with s key 0x09 ≡ gives f
      → (n : ℤ) × (typed (in_front 8 i64) s key 0x09 ≡ gives n) × (f.value ≡ leaf (date_time n))
  unfolding row_of tags content
  get_datetime_reads = typed_reads_law (in_front 8 i64) date_time DateTime s key 0x09 f refl (λ p. refl)

  pub get_i32_reads : get_with s key 0x10 ≡ gives f → (n : ℤ) × (typed (in_front 4 i32) s key 0x10 ≡ gives n) × (f.value ≡ leaf (int32 n))
  unfolding row_of tags content
  get_i32_reads = typed_reads_law (in_front 4 i32) int32 Int32 s key 0x10 f refl (λ p. refl)

  pub get_i64_reads : get_with s key 0x12 ≡ gives f → (n : ℤ) × (typed (in_front 8 i64) s key 0x12 ≡ gives n) × (f.value ≡ leaf (int64 n))
  unfolding row_of tags content
  get_i64_reads = typed_reads_law (in_front 8 i64) int64 Int64 s key 0x12 f refl (λ p. refl)

  pub get_timestamp_reads : get_with s key 0x11 ≡ gives f
      → (t : ℕ × ℕ) × (typed timestamp_of s key 0x11 ≡ gives t) × (f.value ≡ leaf (timestamp t.0 t.1))
  unfolding row_of tags content
  get_timestamp_reads = typed_reads_law timestamp_of (λ t. timestamp t.0 t.1) Timestamp s key 0x11 f refl (λ p. refl)
