-- Opening and closing as the code meets them: refused by the number, or done (RULES.md, "Writer and joining").
use Prim.Native.Nat.{ℕ, ◌+◌, ◌-◌, ◌≤◌, ◌<◌}
use mathlib.Core.Path.{◌≡◌, refl, sym, ap, ◌∙◌}
use mathlib.Core.List.{List, [], ◌∷◌}
use mathlib.Core.Bool.{Bool, true, false}
use native.Mathlib.Omega.{arith}
use lib.ListN.{length, set}
use lib.Seq.{get_or-set_other}
use borrow.Author.Tests.{le-leb, lt-leb, eq-eqb, ne_eqb}
use Rattle.bson.specs.Answer.{Answer, gives, refuses, then}
use Rattle.bson.specs.Grammar.{bytes32, element_bytes, document}
use Rattle.bson.specs.Output.{output, put, put_text}
use Rattle.bson.specs.Writer.{State, used, depth, start, mark_of, Kind, room, possible, innermost, key_in, Desk, desk, appended, pushed}
use Rattle.bson.specs.Writer.{popped, opened_top, closed, open_top, close, answer, Written, written, leaves, performed}
use Rattle.laws.proofs.GrammarLaws.{length_bytes32}
use Rattle.output.proofs.Left.{text_there}
use Rattle.laws.proofs.WriterWords.{grown_depth}
use Rattle.laws.proofs.WriterLaws.{room_within, innermost_says, DeskSizes, desk_sizes, Appended, appended_says}
use Rattle.laws.proofs.WriterRefusals.{appended_refused, accepted_from}
use Rattle.refusal.specs.Said.{number}
use Rattle.refusal.specs.declared.Refusal.{Refusal}
use Rattle.appending.specs.Element.{appending}
use Rattle.appending.proofs.Filled.{numbered}
use Rattle.nesting.specs.Opened.{opened_as, pushed_at}

-- ---- behind the element of an opening

-- behind an element that was appended, or refused
module _ (w : State) (buffer : List ℕ) (tag mark : ℕ) (key : List ℕ) (n : ℕ) (v : State) (exit : List ℕ)
    (e : written n v exit ≡ appending w buffer 1 tag key true (bytes32 5)) where
  was : Answer Desk
  was = appended (desk w buffer) 1 tag key true (bytes32 5)

  is : written n v exit ≡ leaves (desk w buffer) was
  unfolding was appending
  is = e

  accepted : n ≡ 0 → was ≡ gives (desk v exit)
  unfolding was
  accepted z =
      accepted_from (desk w buffer) was (appended_refused (desk w buffer) 1 tag key true (bytes32 5))
      (sym (ap (λ (x : Written). x.number) is) ∙ z)
      ∙ ap (λ (x : Written). gives x.left) (sym is)

  pub opened_done : n ≡ 0 → (x : State) → x ≡ pushed_at v (used v - 4) mark → written 0 x exit ≡ opened_as w buffer tag mark key
  unfolding opened_as was pushed pushed_at
  opened_done z x ex = rw (accepted z, ex)

  pub opened_refused : (why : Refusal) → n ≡ number why → written (number why) v exit ≡ opened_as w buffer tag mark key
  unfolding opened_as was
  opened_refused why z = by was refl
    where
      by : (a : Answer Desk) → was ≡ a
          → written (number why) v exit ≡ leaves (desk w buffer) (then a λ d. gives (desk (pushed d.state mark) d.buffer))
      by (gives d) q =
          absurd (numbered why (sym z ∙ ap (λ (x : Written). x.number) is ∙ ap (λ (a : Answer Desk). (leaves (desk w buffer) a).number) q))
      by (refuses m p) q = ap (λ (k : ℕ). written k v exit) (sym z) ∙ is ∙ ap (leaves (desk w buffer)) q

  pub opened_ready : n ≡ 0 → depth v < 202
  unfolding was
  opened_ready z =
      let a : Appended (desk w buffer) 1 tag key true (bytes32 5) (desk v exit)
      = appended_says (desk w buffer) 1 tag key true (bytes32 5) (desk v exit) (accepted z) in
      let s = desk_sizes (desk w buffer) a.kind (innermost_says (desk w buffer) a.kind a.inner) in
      let new = element_bytes tag (key_in a.kind key) (bytes32 5) in
      let d : depth v ≡ depth w = ap (λ (d : Desk). depth d.state) a.is ∙ grown_depth w a.kind (length new) in
      omega (arith, a.low, s.some)

-- ---- the top

-- the first document starts at 0
four_before : (w : State) → used (set w 0 4) - 4 ≡ 0
four_before [] = refl
four_before (x ∷ w) = refl

-- the top, by the numbers that the code has
module _ (w : State) (buffer : List ℕ) (m : ℕ) (em : m ≡ room (length buffer)) (p : Bool) (ep : p ≡ possible w m) where
  can : p ≡ possible w (room (length buffer))
  can = ep ∙ ap (possible w) em

  pub top_impossible : p ≡ false → written 18 w buffer ≡ performed open_top w buffer
  unfolding performed answer opened_top
  top_impossible t = rw (← can, t)

  module _ (t : p ≡ true) (d : ℕ) (ed : d ≡ depth w) where
    pub top_twice : (d ≡ 0 → ⊥) → written 18 w buffer ≡ performed open_top w buffer
    unfolding performed answer opened_top
    top_twice h = rw (← can, t, ← ed, ne_eqb d 0 h)

    pub top_narrow : d ≡ 0 → m < 5 → written 14 w buffer ≡ performed open_top w buffer
    unfolding performed answer opened_top
    top_narrow z h = rw (← can, t, ← ed, eq-eqb d 0 z, ← em, lt-leb 5 m h)

    pub top_ready : d ≡ 0 → depth (set w 0 4) < 202
    top_ready z = let e = get_or-set_other w 0 1 4 0 (λ (q : 1 ≡ 0). omega arith) in omega arith

    pub top_done : d ≡ 0 → 5 ≤ m → (left : List ℕ) (end : ℕ) → output left end ≡ put_text (output buffer 0) (bytes32 5)
        → (exit : List ℕ) → exit ≡ left
        → (v : State) → v ≡ pushed_at (set w 0 4) 0 (mark_of document) → written 0 v exit ≡ performed open_top w buffer
    unfolding performed answer opened_top pushed pushed_at
    top_done z h left end eo exit ex v ev =
        let l = (room_within (length buffer)).0 in
        let b = text_there buffer 0 (bytes32 5) (omega (arith, length_bytes32 5)) eo ex in
        rw (← can, t, ← ed, eq-eqb d 0 z, ← em, le-leb 5 m h, ev, b, four_before w)

-- ---- closing

-- and the innermost closed
module _ (w : State) (buffer : List ℕ) (m : ℕ) (em : m ≡ room (length buffer)) where
  pub close_refused : {n p : ℕ} → refuses n p ≡ innermost w m → written n w buffer ≡ performed close w buffer
  unfolding performed answer closed
  close_refused e = rw (← em, ← e)

  module _ (kind : Kind) (ei : gives kind ≡ innermost w m) where
    inner : innermost w (room (length buffer)) ≡ gives kind
    inner = sym (ei ∙ ap (innermost w) em)

    known : DeskSizes (desk w buffer) kind
    known = desk_sizes (desk w buffer) kind (innermost_says (desk w buffer) kind inner)

    pub closable : (0 < depth w) × (depth w ≤ 202)
    closable = (known.some, known.most)

    pub ends_within : (start w (depth w - 1) + 4 ≤ used w) × (used w < length buffer) × (used w < 2147483647)
    ends_within = (known.begun, omega (arith, known.some, known.in_buffer), omega (arith, known.some, known.small))

    pub close_done : (u s : ℕ) → u ≡ used w → s ≡ start w (depth w - 1) → (exit : List ℕ)
        → exit ≡ put (put buffer u (0 ∷ [])) s (bytes32 (u + 1 - s)) → (v : State) → v ≡ popped w
        → written 0 v exit ≡ performed close w buffer
    unfolding performed answer closed
    close_done u s eu es exit eb v ev = rw (inner, ev, eb, eu, es)
