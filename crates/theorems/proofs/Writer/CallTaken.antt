-- While a desk holds open documents, a call that is in order and has room is answered 0 (RULES.md, "Writer and joining").
use Prim.Native.Nat.{ℕ, suc, ◌+◌, ◌≤◌}
use mathlib.Core.Path.{◌≡◌, refl, ap, ◌∙◌}
use mathlib.Core.List.{List, [], ◌∷◌}
use mathlib.Core.Bool.{Bool, true}
use native.Mathlib.Omega.{arith}
use lib.ListN.{length}
use borrow.Author.Tests.{le-leb}
use Rattle.bson.specs.Answer.{gives}
use Rattle.bson.specs.Cstring.{valid_cstr}
use Rattle.bson.specs.Grammar.{bytes32, Item, row, Embedded, document, array, embedded, nest_tag, element_bytes, count}
use Rattle.bson.specs.Writer.{State, fresh, used, depth, mark, kind_of, kind_holds, stand, possible, Desk, desk, room_of, innermost, key_passes}
use Rattle.bson.specs.Writer.{open_top, close, append, open_nest, answer}
use Rattle.laws.proofs.GrammarLaws.{length_bytes32, length_element}
use Rattle.laws.proofs.WriterWords.{fresh_closed}
use Rattle.laws.proofs.WriterLaws.{stand_gives, possible_gives, innermost_gives, Appended, appended_gives, opened_gives, topped_gives}
use Rattle.laws.proofs.WriterLaws.{closed_gives}
use Rattle.laws.proofs.TreeLaws.{count_within}
use Rattle.theorems.specs.ReadBack.{Open, key_for}
use Rattle.theorems.proofs.Writer.DeskHolds.{shown, start_of, kind_for, kind_is, Tied, many, Holds}
use Rattle.theorems.proofs.Writer.OpenBytes.{shown_length, start_nested}
use Rattle.theorems.proofs.Writer.CallHolds.{last_is, key_in_law}

-- no state of open documents is impossible

-- ---- states that stand

kind_holds_law : (most : ℕ) (n : Embedded) (c : ℕ) → c ≤ most → kind_holds most (kind_for n c) ≡ true
unfolding kind_holds
kind_holds_law most document c h = refl
kind_holds_law most array c h = le-leb c most h

module _ (w : State) where
  -- where those around stand, the innermost does
  tied_stands : (begun : ℕ) (o : Open) (around : List Open) (end : ℕ) → Tied w begun (o ∷ around)
      → length (shown (o ∷ around)) + begun ≤ end
      → end ≤ used w → stand w (length around) (start_of (o ∷ around)) ≡ true → stand w (suc (length around)) end ≡ true
  unfolding Tied
  tied_stands begun o around end t h g s =
      let l = shown_length o around in
      let c = kind_holds_law (used w) o.nest (count o.inside + begun) (omega (arith, count_within o.inside)) in
      stand_gives w (length around) end (omega (arith, t.0)) (rw t.1.0 c) (rw t.0 s)

  tied_stand : (begun : ℕ) (o : Open) (around : List Open) (end : ℕ) → Tied w begun (o ∷ around) → length (shown (o ∷ around)) + begun ≤ end
      → end ≤ used w → stand w (suc (length around)) end ≡ true
  unfolding Tied stand start_of
  tied_stand begun o [] end t h g = tied_stands begun o [] end t h g refl
  tied_stand begun o (p ∷ around) end t h g =
      let l = shown_length o (p ∷ around) in
      tied_stands begun o (p ∷ around) end t h g
      (tied_stand 1 p around (start_of (o ∷ p ∷ around)) t.1.1 (omega (arith, start_nested o p around)) (omega arith))

-- ---- an element that is taken

key_passes_law : (n : Embedded) (c : ℕ) (key : List ℕ) → valid_cstr key ≡ true → key_passes (kind_for n c) key ≡ true
unfolding key_passes
key_passes_law document c key v = v
key_passes_law array c key v = refl

-- an opening is taken where its element is
opening_taken : (d : Desk) (n : Embedded) (key : List ℕ) (e : Desk) → Appended d 1 (nest_tag (embedded n)) key true (bytes32 5) e
    → (f : Desk) × (answer (open_nest n key) d ≡ gives f)
unfolding answer
opening_taken d n key e a = (_, opened_gives d n key _ (record { between = e; element = a; is = refl }))

module _ (d : Desk) (o : Open) (around : List Open) (h : Holds d (o ∷ around)) where
  held_innermost : length around ≤ 201 → used d.state + suc (length around) ≤ room_of d
      → innermost d.state (room_of d) ≡ gives (kind_is o 0)
  unfolding Tied
  held_innermost low fits =
      let w = d.state in
      let deep : depth w ≡ suc (length around) = h.deep in
      let s = tied_stand w 0 o around (used w) h.tied (omega (arith, many h)) (omega arith) in
      innermost_gives d (kind_is o 0) (record {
        can = possible_gives w (room_of d) (omega arith) (omega arith) (ap (λ (k : ℕ). stand w k (used w)) deep ∙ s);
        some = omega arith;
        kinded = ap (λ (k : ℕ). kind_of (mark w k)) (last_is d o around h) ∙ h.tied.1.0;
      })

  -- so an element that is in order and has room is taken
  element_taken : (more tag : ℕ) (key : List ℕ) (good : Bool) (value : List ℕ) → key_for o key ≡ key → length around ≤ 200
      → valid_cstr key ≡ true → good ≡ true → used d.state + length (element_bytes tag key value) + (suc (length around) + more) ≤ room_of d
      → (e : Desk) × (Appended d more tag key good value e)
  element_taken more tag key good value k low v g fits =
      let deep : depth d.state ≡ suc (length around) = h.deep in (
        _,
        record {
          kind = kind_is o 0;
          inner = held_innermost (omega arith) (omega arith);
          low = omega arith;
          keyed = key_passes_law o.nest (count o.inside + 0) key v;
          valued = g;
          in_room = rw (key_in_law o.nest (count o.inside) key ∙ k) (omega arith);
          is = refl;
        },
      )

  -- ---- calls that are taken

  pub append_taken : (key : List ℕ) (v : Item) → key_for o key ≡ key → length around ≤ 200 → valid_cstr key ≡ true → (row v).good ≡ true
      → used d.state + length (element_bytes (row v).tag key (row v).value) + suc (length around) ≤ room_of d
      → (e : Desk) × (answer (append key v) d ≡ gives e)
  unfolding answer
  append_taken key v k low valid good fits =
      let (e, a) = element_taken 0 (row v).tag key (row v).good (row v).value k low valid good (omega arith) in
      (e, appended_gives d 0 (row v).tag key (row v).good (row v).value e a)

  pub nest_taken : (n : Embedded) (key : List ℕ) → key_for o key ≡ key → length around ≤ 200 → valid_cstr key ≡ true
      → used d.state + (6 + length key) + (suc (length around) + 1) ≤ room_of d → (e : Desk) × (answer (open_nest n key) d ≡ gives e)
  nest_taken n key k low valid fits =
      let l = length_element (nest_tag (embedded n)) key (bytes32 5) in
      let (e, a) = element_taken 1 (nest_tag (embedded n)) key true (bytes32 5) k low valid refl (omega (arith, length_bytes32 5)) in
      opening_taken d n key e a

  pub close_taken : length around ≤ 201 → used d.state + suc (length around) ≤ room_of d → (e : Desk) × (answer close d ≡ gives e)
  unfolding answer
  close_taken low fits = (_, closed_gives d _ (record { kind = kind_is o 0; inner = held_innermost low fits; is = refl }))

fresh_possible : (room : ℕ) → possible fresh room ≡ true
unfolding possible stand fresh
fresh_possible room = rw (le-leb 0 room (omega arith))

pub top_taken : (buffer : List ℕ) → 5 ≤ room_of (desk fresh buffer) → (e : Desk) × (answer open_top (desk fresh buffer) ≡ gives e)
unfolding answer
top_taken buffer fits =
    let d = desk fresh buffer in
    (_, topped_gives d _ (record { can = fresh_possible (room_of d); nothing = fresh_closed; in_room = fits; is = refl }))
