-- What an accepted call of the writer says, and when a call is accepted; and that it keeps the bytes behind its output
-- (RULES.md, "Writer and joining").
use Prim.Native.Nat.{ℕ, suc, ◌+◌, ◌-◌, ◌≤◌, ◌<◌}
use mathlib.Core.Path.{◌≡◌, sym, ap, subst, ◌∙◌}
use mathlib.Core.List.{List, [], ◌∷◌}
use mathlib.Core.Bool.{Bool, true, ◌&&◌}
use native.Mathlib.Omega.{arith}
use lib.Dec.{leb, ltb, eqb}
use lib.ListN.{length, set, drop, length-set}
use lib.Seq.{get_or-set_same}
use borrow.Author.Tests.{le-leb, lt-ltb, eq-eqb, leb-true, leb-false, ltb-true, eqb-true}
use Rattle.bson.specs.Answer.{Answer, gives}
use Rattle.bson.specs.Output.{put}
use Rattle.bson.specs.Grammar.{bytes32, row, Embedded, embedded, document, nest_tag, element_bytes}
use Rattle.bson.specs.Writer.{State, used, depth, start, mark, Kind, kind_of, mark_of, passes, kind_holds, stands, stand, room, possible, Desk}
use Rattle.bson.specs.Writer.{desk, popped, room_of, innermost, next_depth, key_in, key_passes, grown, room_for, appended, pushed, opened_in}
use Rattle.bson.specs.Writer.{opened_top, closed, Call, open_top, close, append, open_nest, answer}
use Rattle.laws.proofs.AnswerLaws.{gives_injective, unless_gives, then_gives}
use Rattle.laws.proofs.Common.{split, both_hold}
use Rattle.laws.proofs.GrammarLaws.{length_bytes32, length_element}
use Rattle.laws.proofs.OutputLaws.{length_put, drop_put}
use Rattle.laws.proofs.WriterWords.{grown_words, grown_used, pushed_used, popped_used}

-- ---- room

-- the room is in the buffer, and a length is an i32
pub room_within : (n : ℕ) → (room n ≤ n) × (room n ≤ 2147483647)
unfolding room
room_within n =
    split (leb n 2147483647)
    (λ e. rw e (omega arith, leb-true n 2147483647 e))
    (λ e. rw e (omega (arith, leb-false n 2147483647 e), omega arith))

-- all of a buffer that is no longer than a length can say
pub room_small : (n : ℕ) → n ≤ 2147483647 → room n ≡ n
unfolding room
room_small n h = rw (le-leb n 2147483647 h)

-- what a state that is possible says

-- ---- possible states

stand_says : (w : State) (i end : ℕ) → stand w (suc i) end ≡ true
    → (start w i + 4 ≤ end) × (passes (kind_holds (used w)) (kind_of (mark w i)) ≡ true) × (stand w i (start w i) ≡ true)
unfolding stand stands
stand_says w i end e =
    let (a, b) = both_hold (stands w i end) _ e in
    let (c, d) = both_hold (leb (start w i + 4) end) _ a in
    (leb-true _ _ c, d, b)

pub stand_gives : (w : State) (i end : ℕ) → start w i + 4 ≤ end → passes (kind_holds (used w)) (kind_of (mark w i)) ≡ true
    → stand w i (start w i) ≡ true → stand w (suc i) end ≡ true
unfolding stand stands
stand_gives w i end a c d = rw (le-leb _ _ a, c, d)

pub possible_says : (w : State) (room : ℕ) → possible w room ≡ true
    → (depth w ≤ 202) × (used w + depth w ≤ room) × (stand w (depth w) (used w) ≡ true)
unfolding possible
possible_says w room e =
    let (a, b) = both_hold (leb (depth w) 202) _ e in
    let (c, d) = both_hold (leb (used w + depth w) room) _ b in
    (leb-true _ _ a, leb-true _ _ c, d)

pub possible_gives : (w : State) (room : ℕ) → depth w ≤ 202 → used w + depth w ≤ room → stand w (depth w) (used w) ≡ true
    → possible w room ≡ true
unfolding possible
possible_gives w room a b c = rw (le-leb _ _ a, le-leb _ _ b, c)

-- nothing is used before the top
pub top_used : (w : State) → depth w ≡ 0 → stand w (depth w) (used w) ≡ true → used w ≡ 0
unfolding stand
top_used w z e = let t : stand w 0 (used w) ≡ true = rw z at e in eqb-true (used w) 0 t

-- ---- the innermost document, and the sizes

-- the innermost document of a kind
pub record Innermost (d : Desk) (kind : Kind) : Type 0 where
  pub can : possible d.state (room_of d) ≡ true
  pub some : 0 < depth d.state
  pub kinded : kind_of (mark d.state (depth d.state - 1)) ≡ gives kind

pub innermost_says : (d : Desk) (kind : Kind) → innermost d.state (room_of d) ≡ gives kind → Innermost d kind
unfolding innermost
innermost_says d kind e =
    let (a, e1) = unless_gives (possible d.state (room_of d)) 18 _ e in
    let (b, e2) = unless_gives (ltb 0 (depth d.state)) 18 _ e1 in
    record { can = a; some = ltb-true _ _ b; kinded = e2 }

pub innermost_gives : (d : Desk) (kind : Kind) → Innermost d kind → innermost d.state (room_of d) ≡ gives kind
unfolding innermost
innermost_gives d kind i = rw (i.can, lt-ltb _ _ i.some) i.kinded

-- and what it says of the sizes
pub record DeskSizes (d : Desk) (kind : Kind) : Type 0 where
  pub some : 0 < depth d.state
  pub most : depth d.state ≤ 202
  pub in_room : used d.state + depth d.state ≤ room_of d
  pub in_buffer : used d.state + depth d.state ≤ length d.buffer
  pub small : used d.state + depth d.state ≤ 2147483647
  pub begun : start d.state (depth d.state - 1) + 4 ≤ used d.state
  pub counted : kind_holds (used d.state) kind ≡ true

before_last : (i : ℕ) → 0 < i → i ≡ suc (i - 1)
before_last i h = omega arith

pub desk_sizes : (d : Desk) (kind : Kind) → Innermost d kind → DeskSizes d kind
desk_sizes d kind i =
    let w = d.state in
    let (a, b, c) = possible_says w (room_of d) i.can in
    let (x, y, z) = stand_says w (depth w - 1) (used w)
    (subst (λ (k : ℕ). stand w k (used w) ≡ true) (before_last (depth w) i.some) c) in
    let (r, s) = room_within (length d.buffer) in
    record {
      some = i.some;
      most = a;
      in_room = b;
      in_buffer = omega arith;
      small = omega arith;
      begun = x;
      counted = subst (λ (k : Answer Kind). passes (kind_holds (used w)) k ≡ true) i.kinded y;
    }

-- what the tests in front of an element say
pub record Room (w : State) (space more : ℕ) (key : List ℕ) (good : Bool) (size : ℕ) (kind : Kind) : Type 0 where
  pub inner : innermost w space ≡ gives kind
  pub low : next_depth w ≤ 200
  pub keyed : key_passes kind key ≡ true
  pub valued : good ≡ true
  pub in_room : used w + (2 + length (key_in kind key) + size) + (depth w + more) ≤ space

module _ (w : State) (space more : ℕ) (key : List ℕ) (good : Bool) (size : ℕ) (kind : Kind) where
  pub room_says : room_for w space more key good size ≡ gives kind → Room w space more key good size kind
  unfolding room_for
  room_says h =
      let (k, i, h1) = then_gives (innermost w space) _ h in
      let (a, h2) = unless_gives (leb (next_depth w) 200) 13 _ h1 in
      let (b, h3) = unless_gives (key_passes k key && good) 15 _ h2 in
      let (c, h4) = unless_gives (leb (used w + (2 + length (key_in k key) + size) + (depth w + more)) space) 14 _ h3 in
      let (p, g) = both_hold (key_passes k key) good b in
      subst (Room w space more key good size) (gives_injective h4)
      (record { inner = i; low = leb-true _ _ a; keyed = p; valued = g; in_room = leb-true _ _ c })

  pub room_gives : Room w space more key good size kind → room_for w space more key good size ≡ gives kind
  unfolding room_for
  room_gives r = rw (r.inner, le-leb _ _ r.low, r.keyed, r.valued, le-leb _ _ r.in_room)

-- ---- an element more

abbrev pub taken : Desk → Kind → List ℕ → Desk
taken d kind new = desk (grown kind d.state (length new)) (put d.buffer (used d.state) new)

-- an accepted element
pub record Appended (d : Desk) (more tag : ℕ) (key : List ℕ) (good : Bool) (value : List ℕ) (e : Desk) : Type 0 where
  pub kind : Kind
  pub inner : innermost d.state (room_of d) ≡ gives kind
  pub low : next_depth d.state ≤ 200
  pub keyed : key_passes kind key ≡ true
  pub valued : good ≡ true
  pub in_room : used d.state + length (element_bytes tag (key_in kind key) value) + (depth d.state + more) ≤ room_of d
  pub is : e ≡ taken d kind (element_bytes tag (key_in kind key) value)

module _ (d : Desk) (more tag : ℕ) (key : List ℕ) (good : Bool) (value : List ℕ) (e : Desk) where
  pub appended_says : appended d more tag key good value ≡ gives e → Appended d more tag key good value e
  unfolding appended
  appended_says h =
      let (kind, f, h1) = then_gives (room_for d.state (room_of d) more key good (length value)) _ h in
      let r = room_says d.state (room_of d) more key good (length value) kind f in
      let l = length_element tag (key_in kind key) value in
      record {
        kind = kind;
        inner = r.inner;
        low = r.low;
        keyed = r.keyed;
        valued = r.valued;
        in_room = omega (arith, r.in_room, l);
        is = sym (gives_injective h1);
      }

  pub appended_gives : Appended d more tag key good value e → appended d more tag key good value ≡ gives e
  unfolding appended
  appended_gives a =
      let l = length_element tag (key_in a.kind key) value in
      let r = room_gives d.state (room_of d) more key good (length value) a.kind (record {
        inner = a.inner;
        low = a.low;
        keyed = a.keyed;
        valued = a.valued;
        in_room = omega (arith, a.in_room, l);
      }) in
      rw r (ap gives (sym a.is))

-- ---- a document or an array opened

-- an accepted opening: its element, and one document more
pub record Opened (d : Desk) (n : Embedded) (key : List ℕ) (e : Desk) : Type 0 where
  pub between : Desk
  pub element : Appended d 1 (nest_tag (embedded n)) key true (bytes32 5) between
  pub is : e ≡ desk (pushed between.state (mark_of n)) between.buffer

module _ (d : Desk) (n : Embedded) (key : List ℕ) (e : Desk) where
  pub opened_says : opened_in d n key ≡ gives e → Opened d n key e
  unfolding opened_in
  opened_says h =
      let (b, a, h1) = then_gives (appended d 1 (nest_tag (embedded n)) key true (bytes32 5)) _ h in
      record { between = b; element = appended_says d 1 (nest_tag (embedded n)) key true (bytes32 5) b a; is = sym (gives_injective h1) }

  pub opened_gives : Opened d n key e → opened_in d n key ≡ gives e
  unfolding opened_in
  opened_gives o = rw (appended_gives d 1 (nest_tag (embedded n)) key true (bytes32 5) o.between o.element) (ap gives (sym o.is))

-- ---- the top opened

-- an accepted opening of the top
pub record Topped (d e : Desk) : Type 0 where
  pub can : possible d.state (room_of d) ≡ true
  pub nothing : depth d.state ≡ 0
  pub in_room : 5 ≤ room_of d
  pub is : e ≡ desk (pushed (set d.state 0 4) (mark_of document)) (put d.buffer 0 (bytes32 5))

module _ (d e : Desk) where
  pub topped_says : opened_top d ≡ gives e → Topped d e
  unfolding opened_top
  topped_says h =
      let (a, h1) = unless_gives (possible d.state (room_of d) && eqb (depth d.state) 0) 18 _ h in
      let (b, h2) = unless_gives (leb 5 (room_of d)) 14 _ h1 in
      let (p, z) = both_hold (possible d.state (room_of d)) _ a in
      record { can = p; nothing = eqb-true _ _ z; in_room = leb-true _ _ b; is = sym (gives_injective h2) }

  pub topped_gives : Topped d e → opened_top d ≡ gives e
  unfolding opened_top
  topped_gives t = rw (t.can, eq-eqb _ _ t.nothing, le-leb _ _ t.in_room) (ap gives (sym t.is))

-- ---- the innermost closed

-- the zero, and the true length
abbrev pub sealed : Desk → List ℕ
sealed d =
    let w = d.state in
    let at = start w (depth w - 1) in
    put (put d.buffer (used w) (0 ∷ [])) at (bytes32 (used w + 1 - at))

-- an accepted closing
pub record Closed (d e : Desk) : Type 0 where
  pub kind : Kind
  pub inner : innermost d.state (room_of d) ≡ gives kind
  pub is : e ≡ desk (popped d.state) (sealed d)

module _ (d e : Desk) where
  pub closed_says : closed d ≡ gives e → Closed d e
  unfolding closed
  closed_says h =
      let (kind, i, h1) = then_gives (innermost d.state (room_of d)) _ h in
      record { kind = kind; inner = i; is = sym (gives_injective h1) }

  pub closed_gives : Closed d e → closed d ≡ gives e
  unfolding closed
  closed_gives c = rw c.inner (ap gives (sym c.is))

-- ---- the bytes behind

-- "a call that writes keeps all bytes behind its output"
pub record BytesStay (d e : Desk) : Type 0 where
  pub same : drop (used e.state) e.buffer ≡ drop (used e.state) d.buffer
  pub long : length e.buffer ≡ length d.buffer
  pub more : used d.state ≤ used e.state

appended_words : (d : Desk) (more tag : ℕ) (key : List ℕ) (good : Bool) (value : List ℕ) (e : Desk) → length d.state ≡ 406
    → Appended d more tag key good value e → length e.state ≡ 406
appended_words d more tag key good value e h a =
    ap (λ (x : Desk). length x.state) a.is
    ∙ grown_words d.state h a.kind (length (element_bytes tag (key_in a.kind key) value))

put_behind : (d : Desk) (w : State) (at : ℕ) (text : List ℕ) → at + length text ≤ length d.buffer → at + length text ≤ used w
    → used d.state ≤ used w → BytesStay d (desk w (put d.buffer at text))
put_behind d w at text fits far more =
    record { same = drop_put d.buffer at text fits (used w) far; long = length_put d.buffer at text fits; more = more }

appended_behind : (d : Desk) (more tag : ℕ) (key : List ℕ) (good : Bool) (value : List ℕ) (e : Desk) → length d.state ≡ 406
    → Appended d more tag key good value e → BytesStay d e
appended_behind d more tag key good value e h a =
    let new = element_bytes tag (key_in a.kind key) value in
    let (r, s) = room_within (length d.buffer) in
    let u = grown_used d.state a.kind (length new) (omega arith) in
    subst (BytesStay d) (sym a.is) (put_behind d _ (used d.state) new (omega (arith, a.in_room)) (omega arith) (omega arith))

topped_behind : (d e : Desk) → length d.state ≡ 406 → Topped d e → BytesStay d e
topped_behind d e h t =
    let (r, s) = room_within (length d.buffer) in
    let z = top_used d.state t.nothing (possible_says d.state (room_of d) t.can).2 in
    let l = length_bytes32 5 in
    let w = set d.state 0 4 in
    let u = pushed_used w (length-set d.state 0 4 ∙ h) (mark_of document) in
    let v : used w ≡ 4 = get_or-set_same d.state 0 4 0 (omega arith) in
    subst (BytesStay d) (sym t.is) (put_behind d _ 0 (bytes32 5) (omega (arith, t.in_room)) (omega arith) (omega arith))

-- the zero, and then the length
closed_behind : (d e : Desk) → length d.state ≡ 406 → Closed d e → BytesStay d e
closed_behind d e h c =
    let w = d.state in
    let at = start w (depth w - 1) in
    let s = desk_sizes d c.kind (innermost_says d c.kind c.inner) in
    let l = length_bytes32 (used w + 1 - at) in
    let u = popped_used w h in
    let zero = put_behind d (popped w) (used w) (0 ∷ []) (omega (arith, s.in_buffer, s.some)) (omega arith) (omega arith) in
    let ended = desk w (put d.buffer (used w) (0 ∷ [])) in
    let whole = put_behind ended (popped w) at (bytes32 (used w + 1 - at)) (omega (arith, s.begun, s.in_buffer, zero.long))
    (omega (arith, s.begun))
    (omega arith) in
    subst (BytesStay d) (sym c.is) (record { same = whole.same ∙ zero.same; long = whole.long ∙ zero.long; more = zero.more })

opened_behind : (d : Desk) (n : Embedded) (key : List ℕ) (e : Desk) → length d.state ≡ 406 → Opened d n key e → BytesStay d e
opened_behind d n key e h o =
    let b = appended_behind d 1 (nest_tag (embedded n)) key true (bytes32 5) o.between h o.element in
    let w = o.between.state in
    let g : length w ≡ 406 = appended_words d 1 (nest_tag (embedded n)) key true (bytes32 5) o.between h o.element in
    let u : used (pushed w (mark_of n)) ≡ used w = pushed_used w g (mark_of n) in
    subst (BytesStay d) (sym o.is) (record {
      same = ap (λ (k : ℕ). drop k o.between.buffer) u ∙ b.same ∙ ap (λ (k : ℕ). drop k d.buffer) (sym u);
      long = b.long;
      more = omega (arith, b.more);
    })

pub bytes_behind : (c : Call) (d e : Desk) → length d.state ≡ 406 → answer c d ≡ gives e → BytesStay d e
unfolding answer
bytes_behind open_top d e h q = topped_behind d e h (topped_says d e q)
bytes_behind close d e h q = closed_behind d e h (closed_says d e q)
bytes_behind (append key v) d e h q =
    appended_behind d 0 (row v).tag key (row v).good (row v).value e h
    (appended_says d 0 (row v).tag key (row v).good (row v).value e q)
bytes_behind (open_nest n key) d e h q = opened_behind d n key e h (opened_says d n key e q)
