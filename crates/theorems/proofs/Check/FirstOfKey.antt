-- The elements that iterating a document yields: an offset lies in one at most, so only one comes first with a key; where the iteration
-- comes to the terminator, none reaches past it (RULES.md, "Admission and one step", "Values"; demand 3).
use Prim.Native.Nat.{ℕ, zero, suc, ◌≤◌, ◌<◌}
use mathlib.Core.Path.{◌≡◌, sym, ap, subst, ◌∙◌}
use mathlib.Core.List.{List}
use mathlib.Core.Bool.{false, true≢false}
use native.Mathlib.Omega.{arith}
use Rattle.bson.specs.Answer.{gives}
use Rattle.bson.specs.Bytes.{bytes, same}
use Rattle.bson.specs.Step.{terminator, cursor, Element, past, yield, step_under}
use Rattle.bson.specs.Reach.{Ends, here, later, From, first, next, Among, First}
use Rattle.laws.specs.FramedAt.{FramedAt}
use Rattle.laws.proofs.StepLaws.{step_yields}
use Rattle.theorems.proofs.Check.Spots.{one_element}
use Rattle.laws.proofs.BytesLaws.{same_self}
use Rattle.bson.specs.Cstring.{Limit}

-- ---- elements that cover an offset

module _ (limit : Limit) where
  -- an iteration does not step inside an element that it yields
  outside : (n : ℕ) (d : List ℕ) (a b : ℕ) (e : Element) → b < n → From limit d a → From limit d b
      → step_under limit d (cursor a false) ≡ gives (yield e)
      → a < b → b < past e → ⊥
  outside zero d a b e i p q y l h = omega arith
  outside (suc n) d a b e i p first y l h = let z = step_yields limit d (cursor a false) e y in omega arith
  outside (suc n) d a b e i p (next {offset} g q z) y l h =
      let r = step_yields limit d (cursor offset false) g z in
      let j : a < offset → ⊥ = λ k. outside n d a offset e (omega arith) p q y k (omega arith) in
      let m : offset < a → ⊥ = λ k. outside n d offset a g (omega arith) q p z k l in
      let o : a ≡ offset = omega arith in
      let x : e ≡ g = one_element (step_under limit d (cursor a false)) e g y (rw o z) in
      omega (arith, ap past x)

  pub among_yields : (d : List ℕ) (e : Element) (a : Among limit d e) → FramedAt d (cursor a.offset false) e
  among_yields d e a = step_yields limit d (cursor a.offset false) e a.yields

  -- elements at one place are one
  one_place : (d : List ℕ) (e f : Element) → Among limit d e → Among limit d f → e.place ≡ f.place → e ≡ f
  one_place d e f a b i =
      let o : a.offset ≡ b.offset = sym (among_yields d e a).placed ∙ i ∙ (among_yields d f b).placed in
      one_element (step_under limit d (cursor a.offset false)) e f a.yields (rw o b.yields)

  -- an element among a document's covers an offset
  pub record Covers (d : List ℕ) (i : ℕ) (e : Element) : Type 0 where
    pub among : Among limit d e
    pub begins : e.place ≤ i
    pub ends : i < past e

  none_later : (d : List ℕ) (i : ℕ) (e f : Element) → Covers d i e → Covers d i f → e.place < f.place → ⊥
  none_later d i e f c k l =
      let y = among_yields d e c.among in
      let z = among_yields d f k.among in
      outside (suc i) d _ _ e (omega arith) c.among.from k.among.from c.among.yields (omega arith) (omega arith)

  -- elements that cover one offset are one
  pub one_covers : (d : List ℕ) (i : ℕ) (e f : Element) → Covers d i e → Covers d i f → e ≡ f
  one_covers d i e f c k =
      one_place d e f c.among k.among (omega (arith, none_later d i e f c k, none_later d i f e k c))

  -- so only one comes first
  pub first_one : (d key : List ℕ) (e f : Element) → First limit d key e → First limit d key f → e ≡ f
  first_one d key e f a b =
      let i : e.place < f.place → ⊥ = λ l. b.none_before e a.among l a.keyed in
      let j : f.place < e.place → ⊥ = λ l. a.none_before f b.among l b.keyed in
      one_place d e f a.among b.among (omega arith)

  -- ---- no element of a key before an offset

  -- no element before an offset has the key
  abbrev pub Without : List ℕ → List ℕ → ℕ → Type 0
  Without d key offset = (f : Element) → Among limit d f → f.place < offset → bytes d f.key ≡ key → ⊥

  pub without_next : (d key : List ℕ) (e : Element) (a : Among limit d e) → Without d key a.offset → same key (bytes d e.key) ≡ false
      → Without d key (past e)
  without_next d key e a w t f b l k =
      let y = among_yields d e a in
      let z = among_yields d f b in
      let i : f.place < a.offset → ⊥ = λ h. w f b h k in
      let c : Covers d f.place e = record { among = a; begins = omega arith; ends = l } in
      let o : e ≡ f = one_covers d f.place e f c (record { among = b; begins = omega arith; ends = omega arith }) in
      true≢false (sym (same_self key) ∙ ap (same key) (sym (ap (λ (g : Element). bytes d g.key) o ∙ k)) ∙ t)

  -- ---- iteration that comes to the terminator

  -- iteration that comes to the terminator does so from the next offset too, and so from each at which it steps
  pub ends_next : (d : List ℕ) (offset : ℕ) (e : Element) → step_under limit d (cursor offset false) ≡ gives (yield e) → Ends limit d offset
      → Ends limit d (past e)
  ends_next d offset e y (here q) = let z = step_yields limit d (cursor offset false) e y in absurd (omega arith)
  ends_next d offset e y (later f x r) = subst (λ (g : Element). Ends limit d (past g)) (one_element _ f e x y) r

  ends_from : (d : List ℕ) (offset : ℕ) → Ends limit d 4 → From limit d offset → Ends limit d offset
  ends_from d offset r first = r
  ends_from d offset r (next {offset = before} e p y) = ends_next d before e y (ends_from d before r p)

  pub ends_high : (d : List ℕ) (offset : ℕ) → Ends limit d offset → offset ≤ terminator d
  ends_high d offset (here q) = omega arith
  ends_high d offset (later e y r) = let z = step_yields limit d (cursor offset false) e y in omega arith

  -- so what an element covers lies between the length and the terminator
  pub covers_between : (d : List ℕ) (i : ℕ) (e : Element) → Ends limit d 4 → Covers d i e → (4 ≤ i) × (i < terminator d)
  covers_between d i e r c =
      let a = c.among in
      let y = among_yields d e a in
      let h = ends_high d (past e) (ends_from d (past e) r (next e a.from a.yields)) in
      omega arith
