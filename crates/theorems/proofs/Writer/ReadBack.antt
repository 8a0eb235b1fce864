-- A session of the writer makes a good tree, and what it closes reads back as that tree (demand 2; RULES.md, "Writer and joining").
use Prim.Native.Nat.{ℕ, ◌+◌, ◌≤◌, ◌<◌}
use mathlib.Core.Path.{◌≡◌, refl, ap, subst, ◌∙◌}
use mathlib.Core.List.{List, [], ◌∷◌}
use mathlib.Core.Bool.{Bool, true, false, cond}
use native.Mathlib.Nat.{zero-add}
use native.Mathlib.Numerals.{add-one}
use native.Mathlib.Omega.{arith}
use lib.ListN.{length, take}
use Rattle.bson.specs.Answer.{Answer, gives, refuses}
use Rattle.bson.specs.Cstring.{valid_cstr}
use Rattle.bson.specs.Decimal.{decimal}
use Rattle.bson.specs.Grammar.{bytes32, Item, row, Embedded, document, array, embedded, nest_tag, is_array, Elements, none, leaf, nest, count}
use Rattle.bson.specs.Grammar.{list_bytes, tree_bytes, Shallow, Fitting, InOrder, Numbered}
use Rattle.bson.specs.Writer.{fresh, used, depth, Kind, Desk, desk, room_of, key_passes, Call, open_top, close, append, open_nest, answer}
use Rattle.theorems.specs.ReadBack.{Open, open_of, Building, unopened, building, built, with, key_for, tree_after, Session, session_after}
use Rattle.theorems.specs.ReadBack.{turn, run, session_start, Typed, ReadsBack, Stands, WriterReadsBack}
use Rattle.laws.proofs.DecimalLaws.{decimal_valid}
use Rattle.laws.proofs.GrammarLaws.{length_document}
use Rattle.laws.proofs.TreeLaws.{ordered_followed, shallow_followed, numbered_followed}
use Rattle.laws.proofs.WriterWords.{fresh_closed}
use Rattle.laws.proofs.WriterLaws.{possible_says, top_used, innermost_says, Appended, appended_says, opened_says, topped_says, closed_says}
use Rattle.theorems.proofs.Writer.DeskHolds.{kind_for, Holds}
use Rattle.theorems.proofs.Grammar.TreeReads.{tree_means}
use Rattle.theorems.proofs.Grammar.TreePasses.{plain_asked, means_passes}
use Rattle.theorems.proofs.Writer.CallHolds.{kind_is_law, top_holds, append_holds, open_holds, close_holds, close_top}

-- ---- open documents that are good

-- the elements of an open document are a good tree of values this deep
record Sound (o : Open) (level : ℕ) : Type 0 where
  ordered : InOrder o.inside
  numbered : Numbered (is_array (embedded o.nest)) 0 o.inside
  shallow : Shallow level o.inside

-- a key that an element may have in an open document, whose values are this deep
record Keyed (key : List ℕ) (o : Open) (level : ℕ) : Type 0 where
  valid : valid_cstr key ≡ true
  numbered : is_array (embedded o.nest) ≡ true → key ≡ decimal (count o.inside)
  low : level ≤ 200

-- the open documents, innermost first: the top is no array, and each other has its key in the one around it
unfoldable Sounds : List Open → Type 0
Sounds [] = Unit
Sounds (o ∷ []) = (is_array (embedded o.nest) ≡ false) × Sound o 0
Sounds (o ∷ p ∷ around) = Keyed o.key p (length around) × (Sound o (length (p ∷ around)) × Sounds (p ∷ around))

sound_with : (o : Open) (level : ℕ) (t : Elements) → Sound o level → InOrder t
    → Numbered (is_array (embedded o.nest)) (count o.inside) t → Shallow level t
    → Sound (with o t) level
sound_with o level t s g n h = record {
  ordered = ordered_followed o.inside t s.ordered g;
  numbered = numbered_followed (is_array (embedded o.nest)) 0 o.inside t s.numbered (rw zero-add n);
  shallow = shallow_followed level o.inside t s.shallow h;
}

sounds_with : (o : Open) (around : List Open) (t : Elements) → Sounds (o ∷ around) → InOrder t
    → Numbered (is_array (embedded o.nest)) (count o.inside) t
    → Shallow (length around) t → Sounds (with o t ∷ around)
unfolding Sounds
sounds_with o [] t s g n h = (s.0, sound_with o 0 t s.1 g n h)
sounds_with o (p ∷ around) t s g n h = (s.0, (sound_with o (length (p ∷ around)) t s.1.0 g n h, s.1.1))

-- the key of an accepted element

-- ---- calls keep them so

key_valid : (n : Embedded) (c : ℕ) (key : List ℕ) → key_passes (kind_for n (c + 0)) key ≡ true
    → valid_cstr (cond (is_array (embedded n)) (decimal c) key) ≡ true
unfolding key_passes
key_valid document c key e = e
key_valid array c key e = decimal_valid c

accepted_key : (d e : Desk) (o : Open) (around : List Open) (more tag : ℕ) (key : List ℕ) (good : Bool) (value : List ℕ)
    → Holds d (o ∷ around)
    → Appended d more tag key good value e → Keyed (key_for o key) o (length around)
accepted_key d e o around more tag key good value h a =
    let k = kind_is_law d o around h a.kind a.inner in
    record {
      valid = key_valid o.nest (count o.inside) key (subst (λ (x : Kind). key_passes x key ≡ true) k a.keyed);
      numbered = λ q. rw q;
      low = omega (arith, a.low, h.deep);
    }

-- what the calls make of the open documents

append_sounds : (d e : Desk) (o : Open) (around : List Open) (key : List ℕ) (v : Item) → Holds d (o ∷ around) → Sounds (o ∷ around)
    → Fitting v
    → answer (append key v) d ≡ gives e → Sounds (with o (leaf (key_for o key) v none) ∷ around)
unfolding answer
append_sounds d e o around key v h s f q =
    let a = appended_says d 0 (row v).tag key (row v).good (row v).value e q in
    let k = accepted_key d e o around 0 (row v).tag key (row v).good (row v).value h a in
    sounds_with o around (leaf (key_for o key) v none) s (k.valid, (a.valued, (f, tt))) (k.numbered, tt) (k.low, tt)

open_sounds : (d e : Desk) (o : Open) (around : List Open) (n : Embedded) (key : List ℕ) → Holds d (o ∷ around) → Sounds (o ∷ around)
    → answer (open_nest n key) d ≡ gives e → Sounds (open_of n (key_for o key) none ∷ o ∷ around)
unfolding answer Sounds
open_sounds d e o around n key h s q =
    let p = opened_says d n key e q in
    let k = accepted_key d p.between o around 1 (nest_tag (embedded n)) key true (bytes32 5) h p.element in
    (k, (record { ordered = tt; numbered = tt; shallow = tt }, s))

close_sounds : (o p : Open) (around : List Open) → Sounds (o ∷ p ∷ around)
    → Sounds (with p (nest (embedded o.nest) o.key o.inside none) ∷ around)
unfolding Sounds
close_sounds o p around s =
    let k = s.0 in
    let i = s.1.0 in
    sounds_with p around (nest (embedded o.nest) o.key o.inside none) s.1.1 (k.valid, (refl, (i.ordered, tt)))
    (k.numbered, (i.numbered, tt))
    (k.low, (rw add-one i.shallow, tt))

-- ---- what must be open

-- what must be open: nothing for the top, with nothing used; something for every other call
abbrev Ready : Call → Desk → Type 0
Ready open_top d = (depth d.state ≡ 0) × (used d.state ≡ 0)
Ready close d = 0 < depth d.state
Ready (append key v) d = 0 < depth d.state
Ready (open_nest n key) d = 0 < depth d.state

ready : (c : Call) (d e : Desk) → answer c d ≡ gives e → Ready c d
unfolding answer
ready open_top d e q =
    let t = topped_says d e q in
    (t.nothing, top_used d.state t.nothing (possible_says d.state (room_of d) t.can).2)
ready close d e q = let c = closed_says d e q in (innermost_says d c.kind c.inner).some
ready (append key v) d e q =
    let a = appended_says d 0 (row v).tag key (row v).good (row v).value e q in (innermost_says d a.kind a.inner).some
ready (open_nest n key) d e q = let a = (opened_says d n key e q).element in (innermost_says d a.kind a.inner).some

-- a closed document has used bytes
built_used : (d : Desk) (t : Elements) → take (used d.state) d.buffer ≡ tree_bytes t → used d.state ≡ 0 → ⊥
built_used d t b z =
    let e : ◌≡◌ {A = List ℕ} [] (tree_bytes t) = rw z at b in
    let l : 0 ≡ length (tree_bytes t) = ap length e in
    omega (arith, length_document (list_bytes t))

typed_first : (c : Call) (cs : List Call) → Typed (c ∷ cs) → Typed (c ∷ []) × Typed cs
typed_first open_top cs t = (tt, t)
typed_first close cs t = (tt, t)
typed_first (append key v) cs t = ((t.0, tt), t.1)
typed_first (open_nest n key) cs t = (tt, t)

-- ---- what a session keeps

-- what a session that began with a buffer keeps
module _ (buffer : List ℕ) where
  abbrev Kept : Desk → Building → Type 0
  Kept d unopened = d ≡ desk fresh buffer
  Kept d (building o around) = Holds d (o ∷ around) × Sounds (o ∷ around)
  Kept d (built t) = ReadsBack d t

  close_reads : (d e : Desk) (o : Open) → Holds d (o ∷ []) → Sounds (o ∷ []) → answer close d ≡ gives e → ReadsBack e o.inside
  unfolding Sounds
  close_reads d e o h s q =
      let c = close_top d e o h q in
      let t = o.inside in
      let means = tree_means t (record { ordered = s.1.ordered; short = c.small }) in
      let numbered = subst (λ (b : Bool). Numbered b 0 t) s.0 s.1.numbered in
      record {
        closed = c.closed;
        bytes = c.bytes;
        means = means;
        numbered = numbered;
        passes = means_passes false (tree_bytes t) t means s.1.shallow (plain_asked false 0 t);
        strict = means_passes true (tree_bytes t) t means s.1.shallow (λ e. numbered);
      }

  top_kept : (d e : Desk) → d ≡ desk fresh buffer → answer open_top d ≡ gives e → Kept e (building (open_of document [] none) [])
  unfolding Sounds
  top_kept d e f q = (
    top_holds buffer e (subst (λ (x : Desk). answer open_top x ≡ gives e) f q),
    (refl, record { ordered = tt; numbered = tt; shallow = tt }),
  )

  begun_closed : (d : Desk) → d ≡ desk fresh buffer → depth d.state ≡ 0
  begun_closed d f = ap (λ (x : Desk). depth x.state) f ∙ fresh_closed

  call_kept : (c : Call) (d e : Desk) (b : Building) → Typed (c ∷ []) → Kept d b → answer c d ≡ gives e → Kept e (tree_after c b)
  call_kept open_top d e unopened t k q = top_kept d e k q
  call_kept open_top d e (building o around) t k q = absurd (omega (arith, k.0.deep, (ready open_top d e q).0))
  call_kept open_top d e (built x) t k q = absurd (built_used d x k.bytes (ready open_top d e q).1)
  call_kept close d e unopened t k q = absurd (omega (arith, begun_closed d k, ready close d e q))
  call_kept close d e (building o []) t k q = close_reads d e o k.0 k.1 q
  call_kept close d e (building o (p ∷ around)) t k q = (close_holds d e o p around k.0 q, close_sounds o p around k.1)
  call_kept close d e (built x) t k q = absurd (omega (arith, k.closed, ready close d e q))
  call_kept (append key v) d e unopened t k q = absurd (omega (arith, begun_closed d k, ready (append key v) d e q))
  call_kept (append key v) d e (building o around) t k q =
      (append_holds d e o around key v k.0 q, append_sounds d e o around key v k.0 k.1 t.0 q)
  call_kept (append key v) d e (built x) t k q = absurd (omega (arith, k.closed, ready (append key v) d e q))
  call_kept (open_nest n key) d e unopened t k q = absurd (omega (arith, begun_closed d k, ready (open_nest n key) d e q))
  call_kept (open_nest n key) d e (building o around) t k q =
      (open_holds d e o around n key k.0 q, open_sounds d e o around n key k.0 k.1 q)
  call_kept (open_nest n key) d e (built x) t k q = absurd (omega (arith, k.closed, ready (open_nest n key) d e q))

  next_kept : (c : Call) (s : Session) (x : Answer Desk) → answer c s.left ≡ x → Typed (c ∷ []) → Kept s.left s.tree
      → Kept (session_after c s x).left (session_after c s x).tree
  next_kept c s (gives e) q t k = call_kept c s.left e s.tree t k q
  next_kept c s (refuses n p) q t k = k

  run_kept : (calls : List Call) (s : Session) → Typed calls → Kept s.left s.tree → Kept (run calls s).left (run calls s).tree
  run_kept [] s t k = k
  run_kept (c ∷ cs) s t k =
      let (first, rest) = typed_first c cs t in
      run_kept cs (turn c s) rest (next_kept c s (answer c s.left) refl first k)

  kept_stands : (d : Desk) (b : Building) → Kept d b → Stands buffer d b
  kept_stands d unopened k = k
  kept_stands d (building o around) k = k.0.deep
  kept_stands d (built t) k = k

-- ---- the theorem

-- "what the writer closes [..] reads back as exactly the elements given"
pub writer_reads_back : WriterReadsBack
writer_reads_back buffer calls typed =
    let s = run calls (session_start buffer) in
    kept_stands buffer s.left s.tree (run_kept buffer calls (session_start buffer) typed refl)
