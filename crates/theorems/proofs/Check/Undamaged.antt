-- What steps, readings and lookups answer in a passed slice, at every level (RULES.md, "The whole check"; demand 3).
use Prim.Native.Nat.{ℕ, zero, suc, ◌-◌, ◌<◌}
use mathlib.Core.Path.{◌≡◌, refl, sym, ap, subst, ◌∙◌}
use mathlib.Core.List.{List}
use mathlib.Core.Bool.{Bool, true, false}
use mathlib.Core.Logic.{◌↔◌, ◌⊎◌, inl, inr}
use native.Mathlib.Omega.{arith}
use lib.ListN.{length}
use lib.Dec.{eqb}
use borrow.Author.Tests.{eq-eqb, eqb-true, eqb-false}
use Rattle.bson.specs.Answer.{Answer, gives, refuses, then}
use Rattle.bson.specs.Bytes.{bytes, same}
use Rattle.bson.specs.Step.{terminator, cursor, Element, past, Step, yield, end, step_under}
use Rattle.bson.specs.Value.{Value, value_of, of_tag, element_at_under, read_with_under, read_at_under}
use Rattle.bson.specs.Level.{Level}
use Rattle.bson.specs.Lookup.{Found, found, find_under, get_bytes_under, get_under, get_with_under}
use Rattle.bson.specs.Reach.{Spot, start, Comes, Reachable, From, first, next, Among, Absent, First}
use Rattle.laws.proofs.AnswerLaws.{never, gives_injective}
use Rattle.laws.proofs.ReadLaws.{read_step}
use Rattle.laws.proofs.Common.{split}
use Rattle.laws.proofs.BytesLaws.{same_eq}
use Rattle.laws.proofs.StepLaws.{step_yields, step_admits}
use Rattle.laws.proofs.AdvanceLaws.{step_ended, ended_at}
use Rattle.laws.proofs.LookupLaws.{search_from, search_ends, search_found, search_onward, get_finds}
use Rattle.theorems.proofs.Check.Spots.{Walked, ended, more, walked_says, accepted_onward, comes_accepted}
use Rattle.theorems.proofs.Check.FirstOfKey.{among_yields, first_one, Without, without_next}
use Rattle.bson.specs.Cstring.{Limit}
use Rattle.bson.specs.Check.{check_under}

-- ---- what serves the rest

module _ (limit : Limit) where
  -- an accepted walk steps
  walked_answers : (σ : Spot) (m : ℕ) → Walked limit false σ m
      → (x : Step) × (step_under limit σ.document (cursor σ.offset false) ≡ gives x)
  walked_answers σ m (ended y) = (end, y)
  walked_answers σ m (more e k j y o w) = (yield e, y)

  -- a value of another tag is 17, at the tag byte, and refused by nothing else
  other_tag : {A : Type 0} (e : Element) (tag : ℕ) (a : A) (k p : ℕ)
      → (of_tag e tag a ≡ refuses k p) ↔ ((k ≡ 17) × (p ≡ e.place) × (e.tag ≡ tag → ⊥))
  other_tag e tag a k p =
      split (eqb e.tag tag)
      (λ t. (λ q. never (sym (rw t at q)), λ r. absurd (r.2 (eqb-true _ _ t))))
      (λ t. let u : of_tag e tag a ≡ refuses 17 e.place = rw t in
      (λ q. let z = sym u ∙ q in (cc, cc, eqb-false _ _ t), λ r. u ∙ rw (r.0, r.1)))

  -- what a lookup answers where nothing is damaged
  data Says (d key : List ℕ) (x : Answer Found) : Type 0 where
    missing : Absent limit d key → x ≡ refuses 16 (terminator d) → Says d key x
    finds : (e : Element) (v : Value) → First limit d key e → x ≡ gives (record { element = e; value = v }) → Says d key x

  -- as what a search answers, read
  abbrev SaysRead : (d key : List ℕ) → Answer Element → Type 0
  SaysRead d key x = Says d key (then x (found d))

  module _ (s : List ℕ) (n : ℕ) (passed : check_under limit false s ≡ gives n) where
    step_open : (σ : Spot) → Comes limit s σ → (x : Step) × (step_under limit σ.document (cursor σ.offset false) ≡ gives x)
    step_open σ c = let (m, w) = comes_accepted limit false s n passed σ c in walked_answers σ m (walked_says limit false σ m w)

    -- ---- steps and readings

    -- No step from 4 or from where the last one ended is refused, whatever the mark.
    pub step_answers : (σ : Spot) → Comes limit s σ → (mark : Bool)
        → (x : Step) × (step_under limit σ.document (cursor σ.offset mark) ≡ gives x)
    step_answers σ c false = step_open σ c
    step_answers σ c true =
        let (x, y) = step_open σ c in
        (end, step_ended limit σ.document _ (step_admits limit σ.document _ x y) σ.offset)

    -- what a step yields can be read
    value_reads : (σ : Spot) (x : Reachable limit s σ) → (v : Value) × (value_of σ.document x.element ≡ gives v)
    value_reads σ x =
        let (m, w) = comes_accepted limit false s n passed σ x.comes in
        let r = (accepted_onward limit false σ x.element m x.yields w).opened.visited in
        (r.value, r.reads)

    -- No reading of a reachable value is refused.
    pub reading_answers : (σ : Spot) → Reachable limit s σ → (v : Value) × (read_at_under limit σ.document σ.offset ≡ gives v)
    reading_answers σ x = let (v, r) = value_reads σ x in (v, read_step limit σ.document σ.offset x.element x.yields ∙ r)

    -- A reading with a tag is refused by 17 alone, exactly when the tag is another.
    pub reading_other : (σ : Spot) (x : Reachable limit s σ) (tag : ℕ) (k p : ℕ)
        → (read_with_under limit σ.document σ.offset tag ≡ refuses k p) ↔ ((k ≡ 17) × (p ≡ σ.offset) × (x.element.tag ≡ tag → ⊥))
    unfolding read_with_under element_at_under
    reading_other σ x tag k p =
        let (v, r) = value_reads σ x in
        let i = (step_yields limit σ.document _ x.element x.yields).placed in
        let q : read_with_under limit σ.document σ.offset tag ≡ of_tag x.element tag v = rw (x.yields, r) in
        let (says, back) = other_tag x.element tag v k p in
        (λ h. let (a, b, c) = says (sym q ∙ h) in (a, b ∙ i, c), λ h. q ∙ back (h.0, h.1 ∙ sym i, h.2))

    module _ (d : List ℕ) (l : Level) (comes : Comes limit s (start d l)) (key : List ℕ) where
      -- where iterating the document steps, one comes
      comes_from : (offset : ℕ) → From limit d offset
          → (m : ℕ) × Comes limit s (record { document = d; level = l; position = m; offset = offset })
      comes_from offset first = (0, comes)
      comes_from offset (next e q y) = let (m, c) = comes_from _ q in (suc m, next e c y)

      step_from : (offset : ℕ) → From limit d offset → (x : Step) × (step_under limit d (cursor offset false) ≡ gives x)
      step_from offset q = let (m, c) = comes_from offset q in step_open _ c

      -- the search from an offset on, where no element before has the key
      search_says : (m offset : ℕ) → length d - offset < m → From limit d offset → Without limit d key offset
          → (x : Step) → step_under limit d (cursor offset false) ≡ gives x → SaysRead d key (search_from limit d key offset)
      unfolding found
      search_says zero offset i q w x y = absurd (omega arith)
      search_says (suc m) offset i q w end y =
          let o = ended_at limit d offset y in
          missing (λ f b. w f b (let z = among_yields limit d f b in omega arith)) (rw (search_ends limit d key offset y, o))
      search_says (suc m) offset i q w (yield e) y =
          let r = step_yields limit d (cursor offset false) e y in
          let a : Among limit d e = record { offset = offset; from = q; yields = y } in
          split (same key (bytes d e.key))
          (λ t. let (j, c) = comes_from offset q in
          let (v, h) = value_reads _ (record { comes = c; element = e; yields = y }) in
          let f : First limit d key e = record { among = a; keyed = sym (same_eq _ _ t); none_before = λ g b k. w g b (omega arith) } in
          finds e v f (rw (search_found limit d key offset e y t, h)))
          (λ t. let (x, z) = step_from (past e) (next e q y) in
          rw (search_onward limit d key offset e y t)
          (search_says m (past e) (omega arith) (next e q y) (without_next limit d key e a w t) x z))

      lookup_says : Says d key (get_under limit d key)
      unfolding get_under find_under
      lookup_says =
          let (x, y) = step_from 4 first in
          search_says (suc (length d)) 4 (omega arith) first (λ f b i. let z = among_yields limit d f b in absurd (omega arith)) x y

      -- A lookup says absent, at the terminator, exactly when no element yielded from 4 has the key.
      pub lookup_absent : (get_under limit d key ≡ refuses 16 (terminator d)) ↔ Absent limit d key
      lookup_absent =
          elim lookup_says [
            | missing m q ↦ (λ h. m, λ h. q)
            | finds e v f q ↦ (λ h. never (sym h ∙ q), λ h. absurd (h e f.among f.keyed))
          ]

      -- It gives an element exactly when that is the first with the key.
      pub lookup_first : (e : Element)
          → ((v : Value) × (get_under limit d key ≡ gives (record { element = e; value = v }))) ↔ First limit d key e
      lookup_first e =
          elim lookup_says [
            | missing m q ↦ (λ h. never (sym q ∙ h.1), λ h. absurd (m e h.among h.keyed))
            | finds g v f q ↦ (
              λ h. subst (First limit d key) (ap (λ (x : Found). x.element) (gives_injective (sym q ∙ h.1))) f,
              λ h. (v, q ∙ ap (λ (x : Element). gives (record { element = x; value = v })) (first_one limit d key g e f h)),
            )
          ]

      -- What it gives with the element is the element's value as it reads.
      pub lookup_value : (f : Found) → get_under limit d key ≡ gives f → read_at_under limit d f.element.place ≡ gives f.value
      lookup_value f q =
          let a = ((lookup_first f.element).0 (f.value, q)).among in
          let σ : Spot = record { document = d; level = l; position = 0; offset = a.offset } in
          ap (read_at_under limit d) (among_yields limit d _ a).placed ∙ read_step limit σ.document σ.offset _ a.yields
          ∙ (get_finds limit d key f q).reads

      -- And one comes to where it lies.
      pub lookup_comes : (f : Found) → get_under limit d key ≡ gives f
          → (m : ℕ) × Comes limit s (record { document = d; level = l; position = m; offset = f.element.place })
      lookup_comes f q =
          let a = ((lookup_first f.element).0 (f.value, q)).among in
          rw (among_yields limit d _ a).placed (comes_from a.offset a.from)

      -- ---- lookups

      -- It is refused as absent and by nothing else.
      pub lookup_refused : (k p : ℕ) → get_under limit d key ≡ refuses k p → (k ≡ 16) × (p ≡ terminator d)
      lookup_refused k p h = elim lookup_says [ missing m q ↦ (cc, cc) | finds e v f q ↦ never (sym h ∙ q) ]

      -- The framed bytes of the first element are handed back.
      pub lookup_bytes : (e : Element) → First limit d key e → get_bytes_under limit d key ≡ bytes d e.value
      unfolding get_bytes_under
      lookup_bytes e f = rw ((lookup_first e).1 f).1

      -- a typed lookup that finds is refused for the tag alone
      found_other : (e : Element) (v : Value) (tag k p : ℕ) → get_under limit d key ≡ gives (record { element = e; value = v })
          → (get_with_under limit d key tag ≡ refuses k p) ↔ ((k ≡ 17) × (p ≡ e.place) × (e.tag ≡ tag → ⊥))
      unfolding get_with_under
      found_other e v tag k p q = rw q (other_tag e tag (record { element = e; value = v }) k p)

      -- and one that does not, as the plain one is
      absent_with : (tag : ℕ) → get_under limit d key ≡ refuses 16 (terminator d) → get_with_under limit d key tag ≡ refuses 16 (terminator d)
      unfolding get_with_under
      absent_with tag q = rw q

      -- ---- lookups with a tag

      -- A typed lookup says absent as the plain one does.
      pub typed_absent : (tag : ℕ) → (get_with_under limit d key tag ≡ refuses 16 (terminator d)) ↔ Absent limit d key
      typed_absent tag =
          elim lookup_says [
            | missing m q ↦ (λ h. m, λ h. absent_with tag q)
            | finds e v f q ↦ (λ h. absurd (omega (arith, ((found_other e v tag _ _ q).0 h).0)), λ h. absurd (h e f.among f.keyed))
          ]

      -- It says 17, at the first element's tag byte, exactly when that element's tag is another.
      pub typed_other : (tag p : ℕ)
          → (get_with_under limit d key tag ≡ refuses 17 p) ↔ ((e : Element) × First limit d key e × (p ≡ e.place) × (e.tag ≡ tag → ⊥))
      typed_other tag p =
          elim lookup_says [
            | missing m q ↦ (
              λ h. let z = absent_with tag q in let i : ◌≡◌ {A = ℕ} 16 17 = cc in absurd (omega arith),
              λ r. absurd (m r.0 r.1.among r.1.keyed),
            )
            | finds e v f q ↦ (
              λ h. let (i, j, u) = (found_other e v tag 17 p q).0 h in (e, f, j, u),
              λ r. let (w, x) = (lookup_first r.0).1 r.1 in (found_other r.0 w tag 17 p x).1 (refl, r.2, r.3),
            )
          ]

      -- Else it gives that element, with the value that the plain one gives.
      pub typed_first : (e : Element) (tag : ℕ) → First limit d key e → e.tag ≡ tag → get_with_under limit d key tag ≡ get_under limit d key
      unfolding get_with_under
      typed_first e tag f i = let (v, q) = (lookup_first e).1 f in rw (q, eq-eqb e.tag tag i)

      -- It is refused by 16, at the terminator, and by 17 alone.
      pub typed_refused : (tag k p : ℕ) → get_with_under limit d key tag ≡ refuses k p → ((k ≡ 16) × (p ≡ terminator d)) ⊎ (k ≡ 17)
      typed_refused tag k p h =
          elim lookup_says [
            | missing m q ↦ let z =
                absent_with tag q in inl (cc, cc)
            | finds e v f q ↦ inr ((found_other e v tag k p q).0 h).0
          ]
