-- The head of an element that the tests let pass, and what it leaves in the buffer, as the code meets them
-- (RULES.md, "Writer and joining").
use Prim.Native.Nat.{ℕ, ◌+◌, ◌-◌, ◌≤◌, ◌<◌, ◌^◌}
use mathlib.Core.Path.{◌≡◌, refl, sym, ap, ◌∙◌}
use mathlib.Core.List.{List, [], ◌∷◌}
use mathlib.Core.Bool.{Bool, true}
use native.Mathlib.Omega.{arith}
use lib.ListN.{length}
use borrow.Author.Tests.{leb-true, le-leb}
use Rattle.bson.specs.Answer.{Answer, gives, refuses}
use Rattle.bson.specs.Grammar.{element_bytes}
use Rattle.bson.specs.Output.{Output, output, put, put_texts, joined}
use Rattle.bson.specs.Writer.{State, used, depth, Kind, in_document, in_array, key_in, innermost, kind_holds, room_for, grown, desk, room}
use Rattle.bson.specs.Writer.{written}
use Rattle.laws.proofs.GrammarLaws.{length_element}
use Rattle.laws.proofs.OutputLaws.{texts_fit}
use Rattle.laws.proofs.WriterLaws.{room_within, innermost_says, DeskSizes, desk_sizes, room_says}
use Rattle.appending.specs.Element.{headed, heading}

-- ---- the texts of a head

-- the texts of a head are its bytes
abbrev pub texts : ℕ → List ℕ → List (List ℕ)
texts tag key = (tag ∷ []) ∷ key ∷ (0 ∷ []) ∷ []

texts_joined : (tag : ℕ) (key : List ℕ) → joined (texts tag key) ≡ element_bytes tag key []
unfolding element_bytes
texts_joined tag key = refl

still_holds : (kind : Kind) (n : ℕ) → n ≤ 2147483647 → kind_holds n kind ≡ true → kind_holds 2147483647 kind ≡ true
unfolding kind_holds
still_holds in_document n h e = refl
still_holds (in_array count) n h e = le-leb count 2147483647 (omega (arith, leb-true count n e))

-- ---- the head put

module _ (w : State) (buffer : List ℕ) (m : ℕ) (em : m ≡ room (length buffer)) (more tag : ℕ) (key : List ℕ) (good : Bool) (size : ℕ) where
  -- in the room of the buffer
  roomed : {a : Answer Kind} → a ≡ room_for w m more key good size → room_for w (room (length buffer)) more key good size ≡ a
  roomed e = sym (e ∙ ap (λ (k : ℕ). room_for w k more key good size) em)

  pub refused : {n p : ℕ} → refuses n p ≡ room_for w m more key good size → written n w buffer ≡ heading w buffer more tag key good size
  unfolding heading headed
  refused e = rw (roomed e)

  module _ (kind : Kind) (er : gives kind ≡ room_for w m more key good size) where
    passed : room_for w (room (length buffer)) more key good size ≡ gives kind
    passed = roomed er

    inner : innermost w (room (length buffer)) ≡ gives kind
    inner = (room_says w (room (length buffer)) more key good size kind passed).inner

    known : DeskSizes (desk w buffer) kind
    known = desk_sizes (desk w buffer) kind (innermost_says (desk w buffer) kind inner)

    -- what a word more relies on
    pub few : (0 < depth w) × (depth w ≤ 202) × (kind_holds 2147483647 kind ≡ true)
    few = (known.some, known.most, still_holds kind (used w) (omega (arith, known.small)) known.counted)

    front : List ℕ
    front = element_bytes tag (key_in kind key) []

    module _ (at : ℕ) (ea : at ≡ used w) (exit : List ℕ) (end : ℕ)
        (eo : output exit end ≡ put_texts (output buffer at) (texts tag (key_in kind key))) where
      front_fits : used w + (length front + size) + (depth w + more) ≤ room (length buffer)
      unfolding front
      front_fits =
          let r = room_says w (room (length buffer)) more key good size kind passed in
          omega (arith, r.in_room, length_element tag (key_in kind key) [])

      front_put : output exit end ≡ output (put buffer (used w) front) (used w + length front)
      unfolding front
      front_put =
          let f = front_fits in
          let l = (room_within (length buffer)).0 in
          let j = texts_joined tag (key_in kind key) in
          let k : length (joined (texts tag (key_in kind key))) ≡ length front = ap length j in
          eo
          ∙ texts_fit (output buffer at) (texts tag (key_in kind key)) (omega (arith, k, ea))
          ∙ ap (λ (t : List ℕ). output (put buffer at t) (at + length t)) j
          ∙ ap (λ (a : ℕ). output (put buffer a front) (a + length front)) ea

      grown_by : end - at + size ≡ length front + size
      grown_by = let i : end ≡ used w + length front = ap (λ (o : Output). o.used) front_put in omega arith

      -- the used bytes grow, and stay a word
      pub grows : (at ≤ end) × (used w + (end - at + size) < 2 ^ 32)
      grows =
          let i : end ≡ used w + length front = ap (λ (o : Output). o.used) front_put in
          let l = (room_within (length buffer)).1 in
          (omega arith, omega (arith, grown_by, front_fits))

      pub done : (v : State) → v ≡ grown kind w (end - at + size) → written 0 v exit ≡ heading w buffer more tag key good size
      unfolding heading headed front
      done v ev =
          let b : exit ≡ put buffer (used w) front = ap (λ (o : Output). o.buffer) front_put in
          rw (passed, ev, grown_by, b)
