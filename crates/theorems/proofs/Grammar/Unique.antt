-- A document means one tree at most, so that what is read back is exactly one list of elements, and good trees with the same bytes are the
-- same (demand 2; BSON 1.1, "Specification"; RULES.md, "Writer and joining").
use Prim.Native.Nat.{ℕ}
use mathlib.Core.Path.{◌≡◌, refl, sym, ap, subst, ◌∙◌}
use mathlib.Core.List.{List}
use native.Mathlib.Omega.{arith}
use Rattle.bson.specs.Bytes.{Part, bytes}
use Rattle.bson.specs.Step.{Element, past}
use Rattle.bson.specs.Grammar.{Item, Nest, Elements, tree_bytes, Good}
use Rattle.bson.specs.Meaning.{Holding, single, nested, holding, Yields, MeansFrom, ends, yields, opens, Means}
use Rattle.laws.proofs.AnswerLaws.{gives_injective}
use Rattle.theorems.proofs.Grammar.TreeReads.{tree_means}
use Rattle.theorems.proofs.Check.Spots.{one_element, end_no_element}

single_not_nested : {item : Item} {n : Nest} {p : Part} → single item ≡ nested n p → ⊥
single_not_nested e = let z : ◌≡◌ {A = ℕ} 0 1 = cc in omega arith

-- at one offset one element is yielded, with one key, and its value holds one thing
yields_once : {s : List ℕ} {offset : ℕ} {key key' : List ℕ} {tag tag' : ℕ} {h h' : Holding} {e e' : Element}
    → Yields s offset key tag h e → Yields s offset key' tag' h' e' → (e ≡ e') × (key ≡ key') × (h ≡ h')
yields_once {s} {e = e} {e' = e'} y z =
    let same : e ≡ e' = one_element _ e e' y.steps z.steps in (
      same,
      sym y.keyed ∙ ap (λ (d : Element). bytes s d.key) same ∙ z.keyed,
      sym y.holds ∙ ap (holding s) (gives_injective (sym y.reads ∙ z.reads)) ∙ z.holds,
    )

from_unique : (s : List ℕ) (offset : ℕ) (t u : Elements) → MeansFrom s offset t → MeansFrom s offset u → t ≡ u
from_unique s offset t u (ends a x) (ends b y) = refl
from_unique s offset t u (ends a x) (yields e y m) = absurd (end_no_element _ e x y.steps)
from_unique s offset t u (ends a x) (opens p e y i m) = absurd (end_no_element _ e x y.steps)
from_unique s offset t u (yields e y m) (ends a x) = absurd (end_no_element _ e x y.steps)
from_unique s offset t u (opens p e y i m) (ends a x) = absurd (end_no_element _ e x y.steps)
from_unique s offset t u (yields e y m) (opens p e' y' i m') = absurd (single_not_nested (yields_once y y').2)
from_unique s offset t u (opens p e y i m) (yields e' y' m') = absurd (single_not_nested (sym (yields_once y y').2))
from_unique s offset t u (yields {rest = rest} e y m) (yields {rest = rest'} e' y' m') =
    let (same_element, same_key, same_holding) = yields_once y y' in
    let m'' = subst (λ (d : Element). MeansFrom s (past d) rest') (sym same_element) m' in
    let same_rest = from_unique s (past e) rest rest' m m'' in
    cc
from_unique s offset t u (opens {inner = a} {rest = rest} p e y i m) (opens {inner = a'} {rest = rest'} p' e' y' i' m') =
    let (same_element, same_key, same_holding) = yields_once y y' in
    let same_part : p ≡ p' = cc in
    let i'' = subst (λ (d : Part). MeansFrom (bytes s d) 4 a') (sym same_part) i' in
    let m'' = subst (λ (d : Element). MeansFrom s (past d) rest') (sym same_element) m' in
    let same_inner = from_unique (bytes s p) 4 a a' i i'' in
    let same_rest = from_unique s (past e) rest rest' m m'' in
    cc

pub means_unique : (s : List ℕ) (t u : Elements) → Means s t → Means s u → t ≡ u
means_unique s t u m k = from_unique s 4 t u m k

pub tree_injective : (t u : Elements) → Good t → Good u → tree_bytes t ≡ tree_bytes u → t ≡ u
tree_injective t u g h same = means_unique (tree_bytes t) t u (tree_means t g) (rw same (tree_means u h))
