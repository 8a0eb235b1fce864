-- The bytes of a good tree mean that tree: iterating, reading and opening them yields just its elements (RULES.md, "Writer and joining":
-- what the writer closes "reads back").
use Prim.Native.Nat.{ℕ, ◌+◌, ◌-◌, ◌≤◌, ◌<◌}
use mathlib.Core.Path.{◌≡◌, sym, ap, subst, ◌∙◌}
use mathlib.Core.List.{List, [], ◌∷◌, ◌++◌, append_assoc}
use native.Mathlib.Omega.{arith}
use lib.ListN.{length, drop, length-append, length-drop}
use lib.Seq.{drop_at}
use Rattle.bson.specs.Answer.{gives}
use Rattle.bson.specs.Step.{terminator, admitted}
use Rattle.bson.specs.Grammar.{bytes32, row, nest_tag, nest_bytes, Elements, none, leaf, nest, element_bytes, document_of, list_bytes, tree_bytes}
use Rattle.bson.specs.Grammar.{InOrder, Good}
use Rattle.bson.specs.Meaning.{single, MeansFrom, ends, yields, opens, Means}
use Rattle.laws.proofs.AdvanceLaws.{step_ends}
use Rattle.laws.proofs.GrammarLaws.{length_bytes32, length_document, document_admitted}
use Rattle.theorems.proofs.Grammar.ItemReads.{item_reads}
use Rattle.theorems.proofs.Grammar.NestReads.{nest_longer, nest_reads}
use Rattle.theorems.proofs.Grammar.ElementReads.{element_here, element_fits, value_here, next_here, yields_here}
use Rattle.bson.specs.Cstring.{unlimited}

-- a document's elements begin behind its length
inner_here : (list : List ℕ) → drop 4 (document_of list) ≡ list ++ (0 ∷ [])
unfolding document_of
inner_here list = drop_at (bytes32 (length list + 5)) (list ++ (0 ∷ [])) 4 (length_bytes32 _)

-- the elements left from an offset on, up to the terminator
means_from : (t : Elements) (s : List ℕ) (offset : ℕ) → InOrder t → admitted s ≡ gives (length s) → length s < 2147483648 → 4 ≤ offset
    → drop offset s ≡ list_bytes t ++ (0 ∷ []) → MeansFrom s offset t
unfolding list_bytes
means_from none s offset g a small low here =
    let l : length s - offset ≡ 1 = sym (length-drop offset s) ∙ ap length here in
    let e : offset ≡ terminator s = omega arith in
    ends e ((step_ends unlimited s (length s) a offset).1 e)
means_from (leaf key v rest) s offset g a small low here =
    let tag = (row v).tag in
    let value = (row v).value in
    let back = list_bytes rest ++ (0 ∷ []) in
    let start = here ∙ append_assoc (element_bytes tag key value) (list_bytes rest) (0 ∷ []) in
    let f = element_fits s offset tag key value back start in
    let m = length-append (list_bytes rest) (0 ∷ []) in
    let r = item_reads v g.1.1.0 g.1.0 s (offset + 1 + length key + 1) back (omega arith)
    (value_here s offset tag key value back start) (omega arith) in
    let y = yields_here s offset tag key value back start g.0 r.sized a low (omega arith) r.found (single v) r.reads
    r.holds in
    yields (element_here offset tag key value) y
    (means_from rest s _ g.1.1.1 a small (omega arith) (next_here s offset tag key value back start))
means_from (nest n key inner rest) s offset g a small low here =
    let tag = nest_tag n in
    let list = list_bytes inner in
    let value = nest_bytes n (document_of list) in
    let back = list_bytes rest ++ (0 ∷ []) in
    let start = here ∙ append_assoc (element_bytes tag key value) (list_bytes rest) (0 ∷ []) in
    let f = element_fits s offset tag key value back start in
    let m = length-append (list_bytes rest) (0 ∷ []) in
    let w = nest_reads n list g.1.0 s (offset + 1 + length key + 1) back (omega arith)
    (value_here s offset tag key value back start) (omega arith) in
    let r = w.reads in
    let y = yields_here s offset tag key value back start g.0 r.sized a low (omega arith) r.found _ r.reads r.holds in
    let short : length list + 5 < 2147483648 = omega (arith, length_document list, nest_longer n (document_of list)) in
    let i = means_from inner (document_of list) 4 g.1.1.0 (document_admitted list short) (omega (arith, length_document list))
    (omega arith)
    (inner_here list) in
    opens w.inner (element_here offset tag key value) y (subst (λ (d : List ℕ). MeansFrom d 4 inner) (sym w.whole) i)
    (means_from rest s _ g.1.1.1 a small (omega arith) (next_here s offset tag key value back start))

pub tree_means : (t : Elements) → Good t → Means (tree_bytes t) t
tree_means t g =
    let l = length_document (list_bytes t) in
    let h = g.short in
    let short : length (list_bytes t) + 5 < 2147483648 = omega arith in
    means_from t (tree_bytes t) 4 g.ordered (document_admitted (list_bytes t) short) (omega arith) (omega arith) (inner_here (list_bytes t))
