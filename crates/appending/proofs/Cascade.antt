-- The refusals of an element in their order, 13, 15, 14, as the code meets them (RULES.md, "Writer and joining").
use Prim.Native.Nat.{ℕ, ◌+◌, ◌-◌, ◌≤◌, ◌<◌}
use mathlib.Core.Path.{◌≡◌, sym, ap, ◌∙◌}
use mathlib.Core.List.{List}
use mathlib.Core.Bool.{Bool, true, false, ◌&&◌}
use native.Mathlib.Omega.{arith}
use lib.Dec.{leb, ltb}
use lib.ListN.{length}
use borrow.Author.Tests.{leb-true, leb-false, le-leb, lt-leb, ltb-true}
use Rattle.laws.proofs.AnswerLaws.{unless_gives}
use Rattle.laws.proofs.Common.{split}
use Rattle.laws.proofs.WriterLaws.{possible_says}
use Rattle.bson.specs.Answer.{gives, refuses, unless}
use Rattle.bson.specs.Writer.{State, used, depth, Kind, possible, innermost, next_depth, key_in, key_passes, room_for}

-- the room's test on what is left of it
left_fits : (room u d n m : ℕ) → u + d ≤ room → leb (n + m) (room - (u + d)) ≡ leb (u + n + (d + m)) room
left_fits room u d n m h =
    split (leb (n + m) (room - (u + d)))
    (λ e. let l = leb-true (n + m) (room - (u + d)) e in e ∙ sym (le-leb (u + n + (d + m)) room (omega arith)))
    (λ e. let l = leb-false (n + m) (room - (u + d)) e in e ∙ sym (lt-leb (u + n + (d + m)) room (omega arith)))

-- what the tests rely on
pub left_open : (w : State) (room : ℕ) (kind : Kind) → gives kind ≡ innermost w room → (0 < depth w) × (used w + depth w ≤ room)
unfolding innermost
left_open w room kind e =
    let (p, e1) = unless_gives (possible w room) 18 _ (sym e) in
    let (o, e2) = unless_gives (ltb 0 (depth w)) 18 _ e1 in
    (ltb-true _ _ o, (possible_says w room p).1)

-- refused as the innermost is
pub inner_refused : (w : State) (room more : ℕ) (key : List ℕ) (good : Bool) (size : ℕ) {n p : ℕ} → refuses n p ≡ innermost w room
    → refuses n p ≡ room_for w room more key good size
unfolding room_for
inner_refused w room more key good size e = rw (← e)

module _ (w : State) (room : ℕ) (kind : Kind) (ei : gives kind ≡ innermost w room) (more : ℕ) (key : List ℕ) (good : Bool) (size n : ℕ)
    (en : n ≡ next_depth w) where
  pub too_deep_law : 200 < n → refuses 13 0 ≡ room_for w room more key good size
  unfolding room_for
  too_deep_law h = rw (← ei, lt-leb (next_depth w) 200 (omega arith))

  module _ (low : n ≤ 200) (k : Bool) (ek : k ≡ key_passes kind key) where
    pub not_in_order_law : k && good ≡ false → refuses 15 0 ≡ room_for w room more key good size
    unfolding room_for
    not_in_order_law e = rw (← ei, le-leb (next_depth w) 200 (omega arith), ← ek, e)

    pub room_decides : k && good ≡ true → (u d z : ℕ) → u ≡ used w → d ≡ depth w → z ≡ length (key_in kind key)
        → (f : Bool) → f ≡ leb (2 + z + more + size) (room - (u + d)) → (b : Bool) → f ≡ b
        → unless b 14 (gives kind) ≡ room_for w room more key good size
    unfolding room_for
    room_decides e u d z eu ed ez f ef b eb =
        let g : b ≡ leb (u + (2 + z + size) + (d + more)) room
        = sym eb ∙ ef ∙ ap (λ (m : ℕ). leb m (room - (u + d))) (omega arith)
        ∙ left_fits room u d (2 + z + size) more (omega (arith, left_open w room kind ei)) in
        rw (← ei, le-leb (next_depth w) 200 (omega arith), ← ek, e, ← eu, ← ed, ← ez, ← g)
