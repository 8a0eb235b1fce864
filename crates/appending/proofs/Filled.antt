-- An element whose head is put and whose value is then put behind it, as the code meets them (RULES.md, "Writer and joining").
use Prim.Native.Nat.{ℕ, ◌+◌, ◌-◌, ◌≤◌}
use mathlib.Core.Path.{◌≡◌, refl, sym, ap, ◌∙◌}
use mathlib.Core.List.{List, [], ◌∷◌, ◌++◌, append_assoc}
use mathlib.Core.Bool.{Bool}
use native.Mathlib.Omega.{arith}
use lib.ListN.{length, replicate, length-replicate}
use Rattle.std.specs.Prelude.{Result, Ok, Err}
use Rattle.bson.specs.Answer.{Answer, gives, refuses, then}
use Rattle.bson.specs.Grammar.{element_bytes}
use Rattle.bson.specs.Output.{Output, output, put, put_texts, joined}
use Rattle.bson.specs.Writer.{State, used, Kind, key_in, room_for, grown, Desk, desk, room_of, appended, Written, written, leaves}
use Rattle.laws.proofs.AnswerLaws.{then_same}
use Rattle.laws.proofs.GrammarLaws.{length_element}
use Rattle.laws.proofs.OutputLaws.{put_put, texts_fit}
use Rattle.laws.proofs.WriterWords.{there, grown_used}
use Rattle.laws.proofs.WriterLaws.{room_within, innermost_says, desk_sizes, room_says, appended_says}
use Rattle.laws.proofs.WriterRefusals.{appended_refused, accepted_from}
use Rattle.refusal.proofs.Determined.{number_in_injective}
use Rattle.refusal.specs.Said.{number, number_in}
use Rattle.refusal.specs.declared.Refusal.{Refusal}
use Rattle.appending.specs.Element.{appending, headed, heading}

-- ---- the tests in front

then_assoc : {A B C : Type 0} (x : Answer A) (f : A → Answer B) (g : B → Answer C) → then (then x f) g ≡ then x (λ a. then (f a) g)
then_assoc (gives a) f g = refl
then_assoc (refuses n p) f g = refl

module _ (d : Desk) (more tag : ℕ) (key : List ℕ) (good : Bool) (value : List ℕ) where
  abbrev filled : Desk → Answer Desk
  filled e = gives (desk e.state (put e.buffer (used e.state - length value) value))

  module _ (kind : Kind) (er : room_for d.state (room_of d) more key good (length value) ≡ gives kind) where
    new : List ℕ
    new = element_bytes tag (key_in kind key) value

    front : List ℕ
    front = element_bytes tag (key_in kind key) []

    joins : front ++ value ≡ new
    unfolding front new element_bytes
    joins = ap (λ (l : List ℕ). tag ∷ l) (append_assoc (key_in kind key) (0 ∷ []) value)

    lengths : length front + length value ≡ length new
    unfolding front new
    lengths = omega (arith, length_element tag (key_in kind key) value, length_element tag (key_in kind key) [])

    whole : put (put d.buffer (used d.state) front) (used (grown kind d.state (length new)) - length value) value
        ≡ put d.buffer (used d.state) new
    unfolding front new
    whole =
        let f = room_says d.state (room_of d) more key good (length value) kind er in
        let s = desk_sizes d kind (innermost_says d kind f.inner) in
        let u = grown_used d.state kind (length new) (omega (arith, there d.state 1 s.some)) in
        let k = length_element tag (key_in kind key) [] in
        let r = (room_within (length d.buffer)).0 in
        let e : used (grown kind d.state (length new)) - length value ≡ used d.state + length front = omega (arith, lengths) in
        ap (λ (i : ℕ). put (put d.buffer (used d.state) front) i value) e
        ∙ put_put d.buffer (used d.state) front value (omega (arith, f.in_room))
        ∙ ap (put d.buffer (used d.state)) joins

    filled_is : filled (desk (grown kind d.state (length front + length value)) (put d.buffer (used d.state) front))
        ≡ gives (desk (grown kind d.state (length new)) (put d.buffer (used d.state) new))
    filled_is = rw lengths (ap (λ (b : List ℕ). gives (desk (grown kind d.state (length new)) b)) whole)

  -- the value behind the head is the element
  value_behind : appended d more tag key good value ≡ then (headed d more tag key good (length value)) filled
  unfolding appended headed new front
  value_behind =
      let w = d.state in
      let tests = room_for w (room_of d) more key good (length value) in
      sym (then_assoc tests (λ kind.
      let head = element_bytes tag (key_in kind key) [] in
      gives (desk (grown kind w (length head + length value)) (put d.buffer (used w) head))) filled
      ∙ then_same tests _ _ filled_is)

-- ---- the value behind the head

-- no refusal has the number 0
pub numbered : (why : Refusal) → number why ≡ 0 → ⊥
numbered why z = let e : ◌≡◌ {A = Result Unit Refusal} (Err why) (Ok tt) = number_in_injective (Err why) (Ok tt) z in cc

module _ (w : State) (buffer : List ℕ) (more tag : ℕ) (key : List ℕ) (good : Bool) (value : List ℕ) {size : ℕ} (es : size ≡ length value)
    {n : ℕ} {v : State} {b : List ℕ} (e : written n v b ≡ heading w buffer more tag key good size) where
  was : Answer Desk
  was = headed (desk w buffer) more tag key good (length value)

  is : written n v b ≡ leaves (desk w buffer) was
  unfolding was heading
  is = e ∙ ap (heading w buffer more tag key good) es

  element : appended (desk w buffer) more tag key good value ≡ then was (filled (desk w buffer) more tag key good value)
  unfolding was
  element = value_behind (desk w buffer) more tag key good value

  accepted : n ≡ 0 → was ≡ gives (desk v b)
  accepted z =
      accepted_from (desk w buffer) was
      (λ k p q. appended_refused (desk w buffer) more tag key good value k p (element ∙ rw q))
      (sym (ap (λ (x : Written). x.number) is) ∙ z)
      ∙ ap (λ (x : Written). gives x.left) (sym is)

  -- refused by the head
  pub head_refused : (why : Refusal) → n ≡ number why → written (number why) v b ≡ appending w buffer more tag key good value
  unfolding appending
  head_refused why z = by was refl
    where
      by : (a : Answer Desk) → was ≡ a → written (number why) v b ≡ leaves (desk w buffer) (appended (desk w buffer) more tag key good value)
      by (gives x) q =
          absurd (numbered why (sym z ∙ ap (λ (x : Written). x.number) is ∙ ap (λ (a : Answer Desk). (leaves (desk w buffer) a).number) q))
      by (refuses k p) q = ap (λ (m : ℕ). written m v b) (sym z) ∙ is ∙ ap (leaves (desk w buffer)) (q ∙ sym (element ∙ rw q))

  module _ (z : n ≡ 0) where
    given : appended (desk w buffer) more tag key good value ≡ gives (desk v (put b (used v - length value) value))
    given = element ∙ rw (accepted z)

    -- the used bytes end behind the value, in the buffer
    pub value_fits : (size ≤ used v) × (used v ≤ length buffer) × (used v ≤ 2147483647)
    value_fits =
        let a = appended_says (desk w buffer) more tag key good value _ given in
        let s = desk_sizes (desk w buffer) a.kind (innermost_says (desk w buffer) a.kind a.inner) in
        let new = element_bytes tag (key_in a.kind key) value in
        let l : length new ≡ 2 + length (key_in a.kind key) + length value = length_element tag (key_in a.kind key) value in
        let g : v ≡ grown a.kind w (length new) = ap (λ (d : Desk). d.state) a.is in
        let u : used v ≡ used w + length new = ap used g ∙ grown_used w a.kind (length new) (omega (arith, there w 1 s.some)) in
        let r = room_within (length buffer) in
        (omega arith, omega (arith, a.in_room, r.0), omega (arith, a.in_room, r.1))

    pub value_put : length b ≡ length buffer → {at : ℕ} → at ≡ used v - size → (texts : List (List ℕ)) → joined texts ≡ value
        → {left : List ℕ} {end : ℕ} → output left end ≡ put_texts (output b at) texts → {exit : List ℕ} → exit ≡ left
        → written 0 v exit ≡ appending w buffer more tag key good value
    unfolding appending
    value_put lb {at} ea texts ej eo {exit} ex =
        let f = value_fits in
        let l : length (joined texts) ≡ length value = ap length ej in
        let x : exit
        ≡ put b at (joined texts) = ex ∙ ap (λ (o : Output). o.buffer) (eo ∙ texts_fit (output b at) texts (omega (arith, f.0, f.1))) in
        let i : at ≡ used v - length value = omega arith in
        rw (given, x, ej, i)

-- ---- a head alone

-- whatever the value, it has room
pub head_ready : (w : State) (buffer : List ℕ) (more tag : ℕ) (key : List ℕ) (good : Bool) (size : ℕ) {n : ℕ} {v : State} {b : List ℕ}
    → written n v b ≡ heading w buffer more tag key good size → n ≡ 0 → {u : ℕ} → u ≡ used v → size ≤ u
head_ready w buffer more tag key good size e z eu =
    omega (arith, (value_fits w buffer more tag key good (replicate size 0) (sym (length-replicate size 0)) e z).0)

-- a head alone is an element without a value
pub nothing_put : (w : State) (buffer : List ℕ) (more tag : ℕ) (key : List ℕ) (good : Bool) (r : Result Unit Refusal) {v : State} {b : List ℕ}
    → written (number_in r) v b ≡ heading w buffer more tag key good 0 → length b ≡ length buffer
    → written (number_in r) v b ≡ appending w buffer more tag key good []
nothing_put w buffer more tag key good (Ok u) e lb = value_put w buffer more tag key good [] refl e refl lb refl [] refl refl refl
nothing_put w buffer more tag key good (Err why) e lb = head_refused w buffer more tag key good [] refl e why refl
