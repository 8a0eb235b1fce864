-- A document that means a tree is the bytes of this tree, which is a good one: the way back from TreeReads (BSON 1.1, "Specification";
-- RULES.md, "Admission and one step" and "Values").
use Prim.Native.Nat.{ℕ, suc, ◌+◌, ◌≤◌}
use mathlib.Core.Path.{◌≡◌, sym, ap, subst, ◌∙◌}
use mathlib.Core.List.{List, [], ◌∷◌, ◌++◌, append_assoc}
use mathlib.Core.Bool.{true, false}
use native.Mathlib.Numerals.{add-one}
use native.Mathlib.Omega.{arith}
use lib.ListN.{length, drop, take-append-drop, drop_of_length-le}
use lib.Seq.{drop-cons, drop-drop}
use Rattle.bson.specs.Answer.{gives}
use Rattle.bson.specs.Bytes.{AreBytes, Part, bytes}
use Rattle.bson.specs.Cstring.{valid_cstr, unlimited}
use Rattle.bson.specs.Step.{terminator, admitted, Cursor, cursor, Element, past, yield, end}
use Rattle.bson.specs.Grammar.{nest_bytes, Elements, element_bytes, list_bytes, tree_bytes, InOrder, Good}
use Rattle.bson.specs.Meaning.{Holding, Yields, MeansFrom, ends, yields, opens, Means}
use Rattle.laws.proofs.ReadLaws.{read_step}
use Rattle.laws.proofs.CstringLaws.{cstring_splits}
use Rattle.laws.specs.FramedAt.{FramedAt}
use Rattle.laws.proofs.StepLaws.{admitted_says, step_admits, step_yields, key_valid}
use Rattle.laws.proofs.GrammarBack.{bytes_are, document_back}
use Rattle.theorems.proofs.Grammar.ItemBytes.{CodesOf, element_codes}

-- ---- the bytes of one element

-- the bytes from an offset on are those of a part that begins there, and the rest
part_front : (s : List ℕ) (p : Part) → drop p.offset s ≡ bytes s p ++ drop (p.offset + p.size) s
unfolding bytes
part_front s p =
    sym (take-append-drop p.size (drop p.offset s)) ∙ ap (λ (l : List ℕ). bytes s p ++ l) (drop-drop p.size p.offset s)

-- an element that a step yields is its tag, its key, a zero and its value, and the next begins behind them
element_bytes_law : (s : List ℕ) (c : Cursor) (e : Element) → FramedAt s c e
    → drop c.offset s ≡ element_bytes e.tag (bytes s e.key) (bytes s e.value) ++ drop (past e) s
unfolding element_bytes bytes
element_bytes_law s c e y =
    let o = c.offset in
    let k = e.key.size in
    let tag : drop o s ≡ e.tag ∷ drop (o + 1) s = rw (add-one, y.tagged) (drop-cons s o 0 (omega arith)) in
    let start : e.value.offset ≡ o + 1 + (k + 1) = omega arith in
    let key : drop (o + 1) s ≡ bytes s e.key ++ (0 ∷ drop e.value.offset s) =
    rw (start, y.key_at_law, ← drop-drop (k + 1) (o + 1) s) (cstring_splits (drop (o + 1) s) k y.key_is) in
    let value = part_front s e.value in
    tag ∙ ap (λ (l : List ℕ). e.tag ∷ l)
    (key ∙ ap (λ (l : List ℕ). bytes s e.key ++ (0 ∷ l)) value
    ∙ sym (append_assoc (bytes s e.key) (0 ∷ bytes s e.value) (drop (past e) s)))

-- what is yielded has the bytes of what it holds
pub yields_codes : {s : List ℕ} {offset : ℕ} {key : List ℕ} {tag : ℕ} {h : Holding} {e : Element} → AreBytes s → Yields s offset key tag h e
    → CodesOf s e.tag e.value h
yields_codes {s} {offset} {e = e} a y =
    let v = sym (read_step unlimited s offset e y.steps) ∙ y.reads in
    subst (CodesOf s e.tag e.value) y.holds (element_codes s a offset e y.value y.steps v)

-- ---- the bytes of a tree

-- what has a meaning is admitted
means_admitted : {s : List ℕ} {offset : ℕ} {t : Elements} → MeansFrom s offset t → admitted s ≡ gives (length s)
means_admitted (ends a x) = step_admits unlimited _ _ end x
means_admitted (yields e y m) = step_admits unlimited _ _ (yield e) y.steps
means_admitted (opens p e y i m) = step_admits unlimited _ _ (yield e) y.steps

-- one element more in front of those that are the bytes of a tree
module _ {s : List ℕ} {offset : ℕ} {key : List ℕ} {tag : ℕ} {h : Holding} {e : Element} (y : Yields s offset key tag h e) where
  key_in_order : valid_cstr key ≡ true
  key_in_order = rw (← y.keyed) (key_valid s _ e (step_yields unlimited s (cursor offset false) e y.steps))

  in_front_law : (value list : List ℕ) → bytes s e.value ≡ value → drop (past e) s ≡ list ++ (0 ∷ [])
      → drop offset s ≡ element_bytes tag key value ++ list ++ (0 ∷ [])
  in_front_law value list v b =
      element_bytes_law s (cursor offset false) e (step_yields unlimited s (cursor offset false) e y.steps)
      ∙ rw (y.tagged, y.keyed, v, b) (sym (append_assoc (element_bytes tag key value) list (0 ∷ [])))

last_byte : (s : List ℕ) (offset : ℕ) → offset ≡ terminator s → admitted s ≡ gives (length s) → drop offset s ≡ 0 ∷ []
last_byte s offset e a =
    let k = admitted_says s (length s) a in
    let l : length s ≤ suc (terminator s) = omega arith in
    rw (e, drop-cons s (terminator s) 0 (omega arith), k.2, drop_of_length-le s l)

meant_from : (s : List ℕ) (offset : ℕ) (t : Elements) → AreBytes s → MeansFrom s offset t
    → InOrder t × (drop offset s ≡ list_bytes t ++ (0 ∷ []))
unfolding list_bytes
meant_from s offset t a (ends q x) = (tt, last_byte s offset q (step_admits unlimited _ _ end x))
meant_from s offset t a (yields {rest = rest} e y m) =
    let c = yields_codes a y in
    let (o, b) = meant_from s (past e) rest a m in
    ((key_in_order y, (c.good, (c.fitting, o))), in_front_law y _ (list_bytes rest) c.value b)
meant_from s offset t a (opens {n = n} {inner = inner} {rest = rest} p e y i m) =
    let c = yields_codes a y in
    let (o, b) = meant_from s (past e) rest a m in
    let (oi, bi) = meant_from (bytes s p) 4 inner (bytes_are s p a) i in
    let d = document_back (bytes s p) _ (bytes_are s p a) (means_admitted i) (list_bytes inner) bi in
    ((key_in_order y, (c.good, (oi, o))), in_front_law y _ (list_bytes rest) (c.value ∙ ap (nest_bytes n) (sym d)) b)

pub meant_bytes : (s : List ℕ) (t : Elements) → AreBytes s → Means s t → Good t × (tree_bytes t ≡ s)
meant_bytes s t a m =
    let (o, b) = meant_from s 4 t a m in
    let d = document_back s (length s) a (means_admitted m) (list_bytes t) b in
    let l : length (tree_bytes t) ≤ 2147483647 = rw d (omega (arith, admitted_says s (length s) (means_admitted m))) in
    (record { ordered = o; short = l }, d)
