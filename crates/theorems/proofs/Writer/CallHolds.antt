-- Each accepted call of the writer keeps what its state and its buffer hold, and the bytes of a closed document are its tree's (demand 2;
-- RULES.md, "Writer and joining").
use Prim.Native.Nat.{ℕ, suc, ◌+◌, ◌-◌, ◌≤◌, ◌<◌}
use mathlib.Core.Path.{◌≡◌, refl, sym, ap, subst, ◌∙◌}
use mathlib.Core.List.{List, [], ◌∷◌, ◌++◌, append_assoc, append-nil}
use mathlib.Core.Bool.{Bool, true, cond}
use native.Mathlib.Nat.{add-zero}
use native.Mathlib.Omega.{arith}
use lib.ListN.{length, set, take, length-set}
use lib.Seq.{get_or-set_same, get_or-set_other}
use Rattle.bson.specs.Answer.{gives}
use Rattle.bson.specs.Decimal.{decimal}
use Rattle.bson.specs.Output.{put}
use Rattle.bson.specs.Grammar.{bytes32, Item, row, Embedded, document, array, embedded, nest_tag, is_array, Elements, none, leaf, nest}
use Rattle.bson.specs.Grammar.{element_bytes, document_of, list_bytes, tree_bytes, followed_by, count}
use Rattle.bson.specs.Writer.{State, fresh, used, depth, start_at, start, mark_at, mark, Kind, in_array, kind_of, mark_of, Desk, desk, room_of}
use Rattle.bson.specs.Writer.{innermost, popped, key_in, grown, pushed, close, open_top, append, open_nest, answer}
use Rattle.theorems.specs.ReadBack.{Open, open_of, with, key_for}
use Rattle.laws.proofs.AnswerLaws.{gives_injective}
use Rattle.laws.proofs.GrammarLaws.{length_bytes32, length_document}
use Rattle.laws.proofs.OutputLaws.{length_put, take_put, take_put_in, put_over}
use Rattle.laws.proofs.WriterWords.{once_more, fresh_words, grown_words, grown_used, grown_other, grown_depth, grown_mark, pushed_words}
use Rattle.laws.proofs.WriterWords.{pushed_other, pushed_used, pushed_depth, pushed_start, pushed_mark, popped_words, popped_used}
use Rattle.laws.proofs.WriterWords.{popped_depth, popped_other}
use Rattle.laws.proofs.WriterLaws.{room_within, innermost_says, desk_sizes, taken, Appended, appended_says, opened_says, topped_says}
use Rattle.laws.proofs.WriterLaws.{sealed, closed_says, bytes_behind}
use Rattle.laws.proofs.TreeLaws.{count_followed, leaf_bytes, none_length}
use Rattle.theorems.proofs.Writer.DeskHolds.{shown, start_of, kind_for, kind_is, Tied, HoldsAll, many, Holds}
use Rattle.theorems.proofs.Writer.OpenBytes.{shown_with, start_with, shown_opened, front, shown_front, start_front, front_tree}
use Rattle.theorems.proofs.Writer.OpenBytes.{shown_length, shown_top}

-- the words

-- ---- open documents and the words of the state

-- those of states that agree so far
tied_below : (w v : State) (begun : ℕ) (os : List Open) → ((i : ℕ) → i < length os → start v i ≡ start w i)
    → ((i : ℕ) → i < length os → mark v i ≡ mark w i) → Tied w begun os → Tied v begun os
unfolding Tied
tied_below w v begun [] hs hm t = t
tied_below w v begun (o ∷ around) hs hm t =
    let started = hs (length around) (omega arith) ∙ t.0 in
    let kinded = ap kind_of (hm (length around) (omega arith)) ∙ t.1.0 in
    (started, (kinded, tied_below w v 1 around (λ i h. hs i (omega arith)) (λ i h. hm i (omega arith)) t.1.1))

-- an element begun is an element
tied_with : (w : State) (o : Open) (around : List Open) (t : Elements) → count t ≡ 1 → Tied w 1 (o ∷ around) → Tied w 0 (with o t ∷ around)
unfolding Tied
tied_with w o around t one h =
    let c : count o.inside + 1 ≡ count (followed_by o.inside t) + 0 = omega (arith, count_followed o.inside t) in
    (h.0 ∙ sym (start_with o around t), (h.1.0 ∙ ap (λ (x : ℕ). gives (kind_for o.nest x)) c, h.1.1))

kind_opened : (n : Embedded) → kind_of (mark_of n) ≡ gives (kind_for n 0)
unfolding kind_of
kind_opened document = refl
kind_opened array = refl

-- one document more
tied_pushed : (w : State) (os : List Open) (n : Embedded) (key : List ℕ) → length w ≡ 406 → depth w ≡ length os → depth w ≤ 201
    → used w - 4 ≡ start_of (open_of n key none ∷ os) → Tied w 1 os → Tied (pushed w (mark_of n)) 0 (open_of n key none ∷ os)
unfolding Tied
tied_pushed w os n key words deep low s t =
    let v = pushed w (mark_of n) in
    let started = ap (start v) (sym deep) ∙ pushed_start w words (mark_of n) low ∙ s in
    let kinded = ap (λ (x : ℕ). kind_of (mark v x)) (sym deep) ∙ ap kind_of (pushed_mark w words (mark_of n) low) ∙ kind_opened n in
    let below = tied_below w v 1 os
    (λ i l. pushed_other w words (mark_of n) (start_at i) (λ z. omega arith) (λ z. omega arith) (λ z. omega arith))
    (λ i l. pushed_other w words (mark_of n) (mark_at i) (λ z. omega arith) (λ z. omega arith) (λ z. omega arith))
    t in
    (started, (kinded, below))

-- one document fewer
tied_popped : (w : State) (os : List Open) → length w ≡ 406 → Tied w 1 os → Tied (popped w) 1 os
tied_popped w os words t =
    tied_below w (popped w) 1 os
    (λ i l. popped_other w words (start_at i) (omega arith))
    (λ i l. popped_other w words (mark_at i) (omega arith))
    t

-- ---- the innermost

once_more_law : (n : Embedded) (c : ℕ) → once_more (kind_for n (c + 0)) ≡ kind_for n (c + 1)
once_more_law document c = refl
once_more_law array c = ap in_array (omega arith)

-- the key that the writer makes
pub key_in_law : (n : Embedded) (c : ℕ) (key : List ℕ) → key_in (kind_for n (c + 0)) key ≡ cond (is_array (embedded n)) (decimal c) key
unfolding key_in
key_in_law document c key = refl
key_in_law array c key = ap decimal (add-zero c)

module _ (d : Desk) (o : Open) (around : List Open) (h : Holds d (o ∷ around)) where
  pub last_is : depth d.state - 1 ≡ length around
  last_is = let deep : depth d.state ≡ suc (length around) = h.deep in omega arith

  start_is : start d.state (depth d.state - 1) ≡ start_of (o ∷ around)
  unfolding Tied
  start_is = ap (start d.state) last_is ∙ h.tied.0

  pub kind_is_law : (kind : Kind) → innermost d.state (room_of d) ≡ gives kind → kind ≡ kind_is o 0
  unfolding Tied
  kind_is_law kind i =
      gives_injective (sym (innermost_says d kind i).kinded ∙ ap (λ (k : ℕ). kind_of (mark d.state k)) last_is ∙ h.tied.1.0)

  tied_grown : (kind : Kind) → innermost d.state (room_of d) ≡ gives kind → (n : ℕ) → Tied (grown kind d.state n) 1 (o ∷ around)
  unfolding Tied
  tied_grown kind i n =
      let w = d.state in
      let v = grown kind w n in
      let l = last_is in
      let inner = innermost_says d kind i in
      let s = desk_sizes d kind inner in
      let same : (j : ℕ) → 0 < j → (j ≡ mark_at (depth w - 1) → ⊥) → _ = grown_other w kind n in
      let starts : (j : ℕ) → start v j ≡ start w j = λ j. same (start_at j) (omega arith) (λ e. omega arith) in
      let marks : (j : ℕ) → j < length around → mark v j ≡ mark w j = λ j b. same (mark_at j) (omega arith) (λ e. omega arith) in
      let marked = grown_mark w h.words kind n s.counted (omega (arith, s.small, s.some)) s.some s.most inner.kinded in
      let counted = ap once_more (kind_is_law kind i) ∙ once_more_law o.nest (count o.inside) in
      let kinded = ap (λ (k : ℕ). kind_of (mark v k)) (sym l) ∙ marked ∙ ap gives counted in
      (starts (length around) ∙ h.tied.0, (kinded, tied_below w v 1 around (λ j b. starts j) marks h.tied.1.1))

  key_is : (kind : Kind) → innermost d.state (room_of d) ≡ gives kind → (key : List ℕ) → key_in kind key ≡ key_for o key
  key_is kind i key = ap (λ (x : Kind). key_in x key) (kind_is_law kind i) ∙ key_in_law o.nest (count o.inside) key

  -- ---- an element more

  -- an element begun in the innermost: its bytes are behind the others', and it is counted
  element_begun : (more tag : ℕ) (key : List ℕ) (good : Bool) (value : List ℕ) (e : Desk) → Appended d more tag key good value e
      → HoldsAll e (o ∷ around) 1 (shown (o ∷ around) ++ element_bytes tag (key_for o key) value)
  element_begun more tag key good value e a =
      let w = d.state in
      let new = element_bytes tag (key_in a.kind key) value in
      let (r, s) = room_within (length d.buffer) in
      let u = grown_used w a.kind (length new) (omega (arith, h.words)) in
      let f : used w + length new ≤ length d.buffer = omega (arith, a.in_room) in
      let b : HoldsAll (taken d a.kind new) (o ∷ around) 1 (shown (o ∷ around) ++ new) = record {
        words = grown_words w h.words a.kind (length new);
        deep = grown_depth w a.kind (length new) ∙ h.deep;
        in_buffer = omega (arith, length_put d.buffer (used w) new f);
        bytes = ap (λ (x : ℕ). take x (put d.buffer (used w) new)) u
            ∙ take_put d.buffer (used w) new f
            ∙ ap (λ (x : List ℕ). x ++ new) h.bytes;
        tied = tied_grown a.kind a.inner (length new);
      } in
      rw (a.is, ← key_is a.kind a.inner key) b

-- one that is whole is one of the innermost's
element_counted : (e : Desk) (o : Open) (around : List Open) (t : Elements) → count t ≡ 1
    → HoldsAll e (o ∷ around) 1 (shown (o ∷ around) ++ list_bytes t) → Holds e (with o t ∷ around)
element_counted e o around t one b =
    rw (shown_with o around t) (record {
      words = b.words;
      deep = b.deep;
      in_buffer = b.in_buffer;
      bytes = b.bytes;
      tied = tied_with e.state o around t one b.tied;
    })

-- the calls

-- ---- appending and opening

pub append_holds : (d e : Desk) (o : Open) (around : List Open) (key : List ℕ) (v : Item) → Holds d (o ∷ around)
    → answer (append key v) d ≡ gives e → Holds e (with o (leaf (key_for o key) v none) ∷ around)
unfolding answer
append_holds d e o around key v h q =
    let a = appended_says d 0 (row v).tag key (row v).good (row v).value e q in
    let b = element_begun d o around h 0 (row v).tag key (row v).good (row v).value e a in
    element_counted e o around (leaf (key_for o key) v none) refl (rw (leaf_bytes (key_for o key) v) b)

pub open_holds : (d e : Desk) (o : Open) (around : List Open) (n : Embedded) (key : List ℕ) → Holds d (o ∷ around)
    → answer (open_nest n key) d ≡ gives e → Holds e (open_of n (key_for o key) none ∷ o ∷ around)
unfolding answer
open_holds d e o around n key h q =
    let p = opened_says d n key e q in
    let b = element_begun d o around h 1 (nest_tag (embedded n)) key true (bytes32 5) p.between p.element in
    let w = p.between.state in
    let m = mark_of n in
    let s = sym (shown_opened n (key_for o key) o around) in
    let u = pushed_used w b.words m in
    let deep = b.deep in
    let begins : used w - 4 ≡ start_of (open_of n (key_for o key) none ∷ o ∷ around) =
    omega (arith, many b, ap length s, shown_length (open_of n (key_for o key) none) (o ∷ around), none_length) in
    subst (λ (x : Desk). Holds x (open_of n (key_for o key) none ∷ o ∷ around)) (sym p.is) (record {
      words = pushed_words w b.words m;
      deep = pushed_depth w b.words m ∙ omega arith;
      in_buffer = omega (arith, b.in_buffer);
      bytes = ap (λ (x : ℕ). take x p.between.buffer) u ∙ b.bytes ∙ s;
      tied = tied_pushed w (o ∷ around) n (key_for o key) b.words deep (omega (arith, p.element.low, h.deep)) begins b.tied;
    })

pub top_holds : (buffer : List ℕ) (e : Desk) → answer open_top (desk fresh buffer) ≡ gives e → Holds e (open_of document [] none ∷ [])
unfolding answer shown start_of list_bytes Tied
top_holds buffer e q =
    let t = topped_says (desk fresh buffer) e q in
    let w = set fresh 0 4 in
    let m = mark_of document in
    let words : length w ≡ 406 = length-set fresh 0 4 ∙ fresh_words in
    let deep : depth w ≡ 0 = get_or-set_other fresh 0 1 4 0 (λ z. omega arith) ∙ t.nothing in
    let four : used w ≡ 4 = get_or-set_same fresh 0 4 0 (omega (arith, fresh_words)) in
    let u : used (pushed w m) ≡ 0 + length (bytes32 5) = pushed_used w words m ∙ omega (arith, length_bytes32 5) in
    let (r, s) = room_within (length buffer) in
    let f : 0 + length (bytes32 5) ≤ length buffer = omega (arith, t.in_room, length_bytes32 5) in
    let nil = sym (append-nil (bytes32 5)) in
    subst (λ (x : Desk). Holds x (open_of document [] none ∷ [])) (sym t.is) (record {
      words = pushed_words w words m;
      deep = pushed_depth w words m ∙ ap (λ (x : ℕ). x + 1) deep;
      in_buffer = omega (arith, length_put buffer 0 (bytes32 5) f);
      bytes = ap (λ (x : ℕ). take x (put buffer 0 (bytes32 5))) u ∙ take_put buffer 0 (bytes32 5) f ∙ nil;
      tied = tied_pushed w [] document [] words deep (omega arith) (omega arith) tt;
    })

-- closing: the innermost's bytes are whole, and it is an element begun in the one around it

-- ---- closing

module _ (d : Desk) (o : Open) (around : List Open) (h : Holds d (o ∷ around)) (kind : Kind)
    (i : innermost d.state (room_of d) ≡ gives kind) where
  at_front : start d.state (depth d.state - 1) ≡ length (front o around)
  at_front = start_is d o around h ∙ start_front o around

  true_length : used d.state + 1 - start d.state (depth d.state - 1) ≡ length (list_bytes o.inside) + 5
  true_length = omega (arith, many h, shown_length o around, start_is d o around h)

  zero_fits : used d.state + 1 ≤ length d.buffer
  zero_fits = let s = desk_sizes d kind (innermost_says d kind i) in omega (arith, s.in_buffer, s.some)

  ended : take (used d.state + 1) (put d.buffer (used d.state) (0 ∷ []))
      ≡ front o around ++ (bytes32 5 ++ (list_bytes o.inside ++ (0 ∷ [])))
  ended =
      take_put d.buffer (used d.state) (0 ∷ []) zero_fits
      ∙ ap (λ (x : List ℕ). x ++ (0 ∷ [])) (h.bytes ∙ shown_front o around)
      ∙ simp (append_assoc)

  sealed_bytes : take (used (popped d.state)) (sealed d) ≡ front o around ++ tree_bytes o.inside
  unfolding document_of
  sealed_bytes =
      let w = d.state in
      let at = start w (depth w - 1) in
      let b = put d.buffer (used w) (0 ∷ []) in
      let x = used w + 1 - at in
      let four = length_bytes32 x in
      let rest = list_bytes o.inside ++ (0 ∷ []) in
      let long = length_put d.buffer (used w) (0 ∷ []) zero_fits in
      ap (λ (n : ℕ). take n (sealed d)) (popped_used w h.words)
      ∙ take_put_in b (used w + 1) at (bytes32 x) (omega (arith, true_length)) (omega (arith, zero_fits))
      ∙ ap (λ (s : List ℕ). put s at (bytes32 x)) ended
      ∙ ap (λ (n : ℕ). put (front o around ++ (bytes32 5 ++ rest)) n (bytes32 x)) at_front
      ∙ put_over (front o around) (bytes32 5) rest (bytes32 x) (length_bytes32 5 ∙ sym four)
      ∙ ap (λ (n : ℕ). front o around ++ (bytes32 n ++ rest)) true_length

close_begun : (d e : Desk) (o : Open) (around : List Open) → Holds d (o ∷ around) → answer close d ≡ gives e
    → HoldsAll e around 1 (front o around ++ tree_bytes o.inside)
unfolding answer Tied
close_begun d e o around h q =
    let c = closed_says d e q in
    let w = d.state in
    let long = (bytes_behind close d e h.words q).long in
    let in_buffer : used (popped w) ≤ length (sealed d) =
    omega (arith, popped_used w h.words, zero_fits d o around h c.kind c.inner, ap (λ (x : Desk). length x.buffer) c.is) in
    subst (λ (x : Desk). HoldsAll x around 1 (front o around ++ tree_bytes o.inside)) (sym c.is) (record {
      words = popped_words w h.words;
      deep = popped_depth w h.words ∙ last_is d o around h;
      in_buffer = in_buffer;
      bytes = sealed_bytes d o around h c.kind c.inner;
      tied = tied_popped w around h.words h.tied.1.1;
    })

pub close_holds : (d e : Desk) (o p : Open) (around : List Open) → Holds d (o ∷ p ∷ around) → answer close d ≡ gives e
    → Holds e (with p (nest (embedded o.nest) o.key o.inside none) ∷ around)
close_holds d e o p around h q =
    element_counted e p around (nest (embedded o.nest) o.key o.inside none) refl
    (rw (← front_tree o p around) (close_begun d e o (p ∷ around) h q))

-- ---- the top, closed

pub record Ended (e : Desk) (t : Elements) : Type 0 where
  pub closed : depth e.state ≡ 0
  pub many : used e.state ≡ length (tree_bytes t)
  pub bytes : take (used e.state) e.buffer ≡ tree_bytes t
  pub small : length (tree_bytes t) ≤ 2147483647

pub close_top : (d e : Desk) (o : Open) → Holds d (o ∷ []) → answer close d ≡ gives e → Ended e o.inside
unfolding answer front
close_top d e o h q =
    let c = closed_says d e q in
    let s = desk_sizes d c.kind (innermost_says d c.kind c.inner) in
    let b = close_begun d e o [] h q in
    let l = length_document (list_bytes o.inside) in
    record { closed = b.deep; many = many b; bytes = b.bytes; small = omega (arith, many h, shown_top o, s.small, s.some) }
