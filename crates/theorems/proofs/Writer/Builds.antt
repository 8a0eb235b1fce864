-- Every writable tree is built, by calls that are all answered 0 (demand 2; RULES.md, "Writer and joining").
use Prim.Native.Nat.{ℕ, suc, ◌+◌, ◌≤◌}
use mathlib.Core.Path.{◌≡◌, refl, sym, ap, subst, ◌∙◌}
use mathlib.Core.List.{List, [], ◌∷◌, ◌++◌}
use mathlib.Core.Bool.{true}
use native.Mathlib.Numerals.{add-one}
use native.Mathlib.Omega.{arith}
use lib.ListN.{length, length-append}
use lib.Seq.{take_all}
use Rattle.bson.specs.Answer.{gives}
use Rattle.bson.specs.Cstring.{valid_cstr}
use Rattle.bson.specs.Decimal.{decimal}
use Rattle.bson.specs.Grammar.{Item, row, Embedded, document, embedded, scope, is_array, Elements, none, leaf, nest, element_bytes, list_bytes}
use Rattle.bson.specs.Grammar.{tree_bytes, Shallow, InOrder, Numbered, followed_by, count}
use Rattle.bson.specs.Writer.{fresh, used, room, Desk, desk, room_of, Call, open_top, close, append, open_nest, answer}
use Rattle.theorems.specs.ReadBack.{Open, open_of, Building, building, built, with, key_for, tree_after, Session, session_after, turn}
use Rattle.theorems.specs.ReadBack.{run, session_start, Typed, Accepted, Unscoped, Writable, Builds, WriterBuilds}
use Rattle.laws.proofs.Common.{split}
use Rattle.laws.proofs.GrammarLaws.{length_document}
use Rattle.laws.proofs.WriterWords.{fresh_words}
use Rattle.laws.proofs.WriterLaws.{room_small, bytes_behind}
use Rattle.laws.proofs.TreeLaws.{followed_none, followed_assoc, count_followed, none_length, leaf_length, nest_length}
use Rattle.theorems.proofs.Writer.DeskHolds.{shown, many, Holds}
use Rattle.theorems.proofs.Writer.OpenBytes.{shown_with, shown_top, shown_nested}
use Rattle.theorems.proofs.Writer.CallHolds.{top_holds, append_holds, open_holds, close_holds, close_top}
use Rattle.theorems.proofs.Writer.CallTaken.{append_taken, nest_taken, close_taken, top_taken}

-- calls that are all answered 0, and the session that they leave

-- ---- sessions of accepted calls

abbrev session : Desk → Building → Session
session d b = record { left = d; tree = b }

record Leads (s : Session) (calls : List Call) (t : Session) : Type 0 where
  accepted : Accepted calls s
  leaves : run calls s ≡ t

leads_one : (c : Call) (s t : Session) (e : Desk) → answer c s.left ≡ gives e → session e (tree_after c s.tree) ≡ t
    → Leads s (c ∷ []) t
leads_one c s t e x i = record { accepted = ((e, x), tt); leaves = ap (session_after c s) x ∙ i }

leads_both : (calls more : List Call) (s t u : Session) → Leads s calls t → Leads t more u → Leads s (calls ++ more) u
leads_both [] more s t u l m = subst (λ (x : Session). Leads x more u) (sym l.leaves) m
leads_both (c ∷ calls) more s t u l m =
    let r = leads_both calls more (turn c s) t u (record { accepted = l.accepted.1; leaves = l.leaves }) m in
    record { accepted = (l.accepted.0, r.accepted); leaves = r.leaves }

-- ---- the calls of a tree

-- the calls that give the elements of a tree without code with scope
abbrev calls_of : Elements → List Call
calls_of none = []
calls_of (leaf key v rest) = append key v ∷ calls_of rest
calls_of (nest (embedded n) key inner rest) = open_nest n key ∷ ((calls_of inner ++ (close ∷ [])) ++ calls_of rest)
calls_of (nest (scope t) key inner rest) = calls_of rest

typed_both : (calls more : List Call) → Typed calls → Typed more → Typed (calls ++ more)
typed_both [] more t u = u
typed_both (open_top ∷ calls) more t u = typed_both calls more t u
typed_both (close ∷ calls) more t u = typed_both calls more t u
typed_both (append key v ∷ calls) more t u = (t.0, typed_both calls more t.1 u)
typed_both (open_nest n key ∷ calls) more t u = typed_both calls more t u

calls_typed : (t : Elements) → InOrder t → Typed (calls_of t)
calls_typed none g = tt
calls_typed (leaf key v rest) g = (g.1.1.0, calls_typed rest g.1.1.1)
calls_typed (nest (embedded n) key inner rest) g =
    typed_both (calls_of inner ++ (close ∷ [])) (calls_of rest)
    (typed_both (calls_of inner) (close ∷ []) (calls_typed inner g.1.1.0) tt)
    (calls_typed rest g.1.1.1)
calls_typed (nest (scope t) key inner rest) g = calls_typed rest g.1.1.1

-- ---- calls that lead to open documents

-- calls that lead to open documents, and the buffer is as long as it was
record Reaches (s : Session) (calls : List Call) (o : Open) (around : List Open) : Type 0 where
  end : Desk
  leads : Leads s calls (session end (building o around))
  holds : Holds end (o ∷ around)
  kept : length end.buffer ≡ length s.left.buffer

-- there the room is the same, and those documents' bytes are used
reached : {s : Session} {calls : List Call} {o : Open} {around : List Open} (r : Reaches s calls o around)
    → (room_of r.end ≡ room_of s.left) × (used r.end.state ≡ length (shown (o ∷ around)))
reached r = (ap room r.kept, many r.holds)

reaches_both : (calls more : List Call) (s : Session) (o p : Open) (around across : List Open) (r : Reaches s calls o around)
    → Reaches (session r.end (building o around)) more p across → Reaches s (calls ++ more) p across
reaches_both calls more s o p around across r q =
    record {
      end = q.end;
      leads = leads_both calls more s _ _ r.leads q.leads;
      holds = q.holds;
      kept = q.kept ∙ r.kept;
    }

reaches_one : (c : Call) (s : Session) (e : Desk) (o : Open) (around : List Open) → length s.left.state ≡ 406
    → answer c s.left ≡ gives e
    → tree_after c s.tree ≡ building o around → Holds e (o ∷ around) → Reaches s (c ∷ []) o around
reaches_one c s e o around w x i h =
    record { end = e; leads = leads_one c s _ e x (ap (session e) i); holds = h; kept = (bytes_behind c s.left e w x).long }

module _ (d : Desk) (o : Open) (around : List Open) (h : Holds d (o ∷ around)) where
  leaf_given : (key : List ℕ) (v : Item) → key_for o key ≡ key → length around ≤ 200 → valid_cstr key ≡ true → (row v).good ≡ true
      → used d.state + length (element_bytes (row v).tag key (row v).value) + suc (length around) ≤ room_of d
      → Reaches (session d (building o around)) (append key v ∷ []) (with o (leaf key v none)) around
  leaf_given key v k deep valid good fits =
      let (e, x) = append_taken d o around h key v k deep valid good fits in
      subst (λ (k : List ℕ). Reaches (session d (building o around)) (append key v ∷ []) (with o (leaf k v none)) around) k
      (reaches_one (append key v) _ e _ around h.words x refl (append_holds d e o around key v h x))

  nest_opened : (n : Embedded) (key : List ℕ) → key_for o key ≡ key → length around ≤ 200 → valid_cstr key ≡ true
      → used d.state + (6 + length key) + (suc (length around) + 1) ≤ room_of d
      → Reaches (session d (building o around)) (open_nest n key ∷ []) (open_of n key none) (o ∷ around)
  nest_opened n key k deep valid fits =
      let (e, x) = nest_taken d o around h n key k deep valid fits in
      subst (λ (k : List ℕ). Reaches (session d (building o around)) (open_nest n key ∷ []) (open_of n k none) (o ∷ around)) k
      (reaches_one (open_nest n key) _ e _ (o ∷ around) h.words x refl (open_holds d e o around n key h x))

nest_closed : (d : Desk) (o p : Open) (around : List Open) → Holds d (o ∷ p ∷ around) → length around ≤ 200
    → used d.state + suc (suc (length around)) ≤ room_of d
    → Reaches (session d (building o (p ∷ around))) (close ∷ []) (with p (nest (embedded o.nest) o.key o.inside none)) around
nest_closed d o p around h deep fits =
    let (e, x) = close_taken d o (p ∷ around) h (omega arith) fits in
    reaches_one close _ e _ around h.words x refl (close_holds d e o p around h x)

-- ---- the elements of a tree, taken

-- a key that is numbered where it must be is the one that the writer makes
made_key : (o : Open) (key : List ℕ) → (is_array (embedded o.nest) ≡ true → key ≡ decimal (count o.inside)) → key_for o key ≡ key
made_key o key h = split (is_array (embedded o.nest)) (λ t. rw t (sym (h t))) (λ t. rw t)

-- a tree's elements are taken behind those that are there
abbrev Grows : Elements → Type 0
Grows t =
    (d : Desk) (o : Open) (around : List Open) → Holds d (o ∷ around) → InOrder t → Unscoped t → Numbered (is_array (embedded o.nest))
    (count o.inside) t
    → Shallow (length around) t → used d.state + length (list_bytes t) + suc (length around) ≤ room_of d
    → Reaches (session d (building o around)) (calls_of t) (with o t) around

nest_given : (n : Embedded) (key : List ℕ) (inner : Elements) (d : Desk) (o : Open) (around : List Open) → Grows inner
    → Holds d (o ∷ around)
    → key_for o key ≡ key → length around ≤ 200 → valid_cstr key ≡ true → InOrder inner → Unscoped inner
    → Numbered (is_array (embedded n)) 0 inner → Shallow (length around + 1) inner
    → used d.state + (7 + length key + length (list_bytes inner)) + suc (length around) ≤ room_of d
    → Reaches (session d (building o around)) (open_nest n key ∷ (calls_of inner ++ (close ∷ [])))
    (with o (nest (embedded n) key inner none)) around
nest_given n key inner d o around grow h k deep valid good plain numbered shallow fits =
    let m = many h in
    let begun = shown_nested (open_of n key none) o around in
    let ended = shown_nested (open_of n key inner) o around in
    let r = nest_opened d o around h n key k deep valid (omega arith) in
    let (i, u) = reached r in
    let q = grow r.end (open_of n key none) (o ∷ around) r.holds good plain numbered (rw add-one at shallow)
    (omega (arith, none_length)) in
    let (j, v) = reached q in
    let c = nest_closed q.end (open_of n key inner) o around q.holds deep (omega arith) in
    reaches_both (open_nest n key ∷ []) (calls_of inner ++ (close ∷ [])) _ _ _ _ _ r (reaches_both (calls_of inner) (close ∷ []) _ _ _ _ _ q c)

-- and the rest behind one element
rest_given : (u t : Elements) (s : Session) (calls : List Call) (o : Open) (around : List Open) → Grows t
    → Reaches s calls (with o u) around
    → count u ≡ 1 → InOrder t → Unscoped t → Numbered (is_array (embedded o.nest)) (suc (count o.inside)) t → Shallow (length around) t
    → length (shown (o ∷ around)) + length (list_bytes u) + length (list_bytes t) + suc (length around) ≤ room_of s.left
    → Reaches s (calls ++ calls_of t) (with o (followed_by u t)) around
rest_given u t s calls o around grow r one good plain numbered shallow fits =
    let c : suc (count o.inside) ≡ count (with o u).inside = omega (arith, count_followed o.inside u) in
    let m = subst (λ (c : ℕ). Numbered (is_array (embedded o.nest)) c t) c numbered in
    let l = ap length (shown_with o around u) ∙ length-append (shown (o ∷ around)) (list_bytes u) in
    let (i, v) = reached r in
    let q = grow r.end (with o u) around r.holds good plain m shallow (omega arith) in
    rw (← followed_assoc o.inside u t) (reaches_both calls (calls_of t) s _ _ around around r q)

grows : (t : Elements) → Grows t
grows none d o around h good plain numbered shallow fits =
    rw (followed_none o.inside) (record { end = d; leads = record { accepted = tt; leaves = refl }; holds = h; kept = refl })
grows (leaf key v rest) d o around h good plain numbered shallow fits =
    let k = made_key o key numbered.0 in
    let l = leaf_length key v rest in
    let m = many h in
    rest_given (leaf key v none) rest _ (append key v ∷ []) o around (grows rest)
    (leaf_given d o around h key v k shallow.0 good.0 good.1.0 (omega arith))
    refl good.1.1.1 plain numbered.1 shallow.1 (omega (arith, leaf_length key v none, none_length))
grows (nest (scope t) key inner rest) d o around h good plain numbered shallow fits = absurd plain
grows (nest (embedded n) key inner rest) d o around h good plain numbered shallow fits =
    let k = made_key o key numbered.0 in
    let l = nest_length n key inner rest in
    let m = many h in
    rest_given (nest (embedded n) key inner none) rest _ (open_nest n key ∷ (calls_of inner ++ (close ∷ []))) o around (grows rest)
    (nest_given n key inner d o around (grows inner) h k shallow.0 good.0 good.1.1.0 plain.0 numbered.1.0 shallow.1.0
    (omega arith))
    refl good.1.1.1 plain.1 numbered.1.1 shallow.1.1 (omega (arith, nest_length n key inner none, none_length))

-- the top opened, and closed again

-- ---- the whole tree

top_opened : (buffer : List ℕ) → 5 ≤ room_of (desk fresh buffer) → Reaches (session_start buffer) (open_top ∷ []) (open_of document [] none) []
top_opened buffer fits =
    let (e, x) = top_taken buffer fits in
    reaches_one open_top (session_start buffer) e (open_of document [] none) [] fresh_words x refl (top_holds buffer e x)

module _ (t : Elements) (buffer : List ℕ) (calls : List Call) (r : Reaches (session_start buffer) calls (open_of document [] t) []) where
  top_closed : (e : Desk) → answer close r.end ≡ gives e → Leads (session_start buffer) (calls ++ (close ∷ [])) (session e (built t))
  top_closed e x = leads_both calls (close ∷ []) (session_start buffer) _ _ r.leads (leads_one close _ _ e x refl)

  whole_buffer : length buffer ≡ length (tree_bytes t) → (e : Desk) → answer close r.end ≡ gives e → e.buffer ≡ tree_bytes t
  whole_buffer size e x =
      let z = close_top r.end e (open_of document [] t) r.holds x in
      let k = (bytes_behind close r.end e r.holds.words x).long in
      sym (take_all (used e.state) e.buffer (omega (arith, z.many, r.kept))) ∙ z.bytes

  tree_built : length buffer ≡ length (tree_bytes t) → Typed calls → (e : Desk) → answer close r.end ≡ gives e → Builds t buffer
  tree_built size typed e x =
      let a = top_closed e x in
      record {
        calls = calls ++ (close ∷ []);
        typed = typed_both calls (close ∷ []) typed tt;
        accepted = a.accepted;
        finished = ap (λ (s : Session). s.tree) a.leaves;
        whole = ap (λ (s : Session). s.left.buffer) a.leaves ∙ whole_buffer size e x;
      }

tree_given : (t : Elements) → Writable t → (buffer : List ℕ) → room_of (desk fresh buffer) ≡ length (tree_bytes t)
    → Reaches (session_start buffer) (open_top ∷ calls_of t) (open_of document [] t) []
tree_given t w buffer size =
    let l = length_document (list_bytes t) in
    let r = top_opened buffer (omega arith) in
    let (i, u) = reached r in
    let top = shown_top (open_of document [] none) in
    reaches_both (open_top ∷ []) (calls_of t) (session_start buffer) _ _ _ _ r
    (grows t r.end (open_of document [] none) [] r.holds w.good.ordered w.unscoped w.numbered w.shallow
    (omega (arith, none_length)))

-- every writable tree is built, in a buffer of just its size
pub writer_builds : WriterBuilds
writer_builds t w buffer size =
    let s : room_of (desk fresh buffer) ≡ length (tree_bytes t) = room_small (length buffer) (omega (arith, w.good.short)) ∙ size in
    let l = length_document (list_bytes t) in
    let r = tree_given t w buffer s in
    let (i, u) = reached r in
    let top = shown_top (open_of document [] t) in
    let (e, x) = close_taken r.end (open_of document [] t) [] r.holds (omega arith) (omega arith) in
    tree_built t buffer (open_top ∷ calls_of t) r size (calls_typed t w.good.ordered) e x
