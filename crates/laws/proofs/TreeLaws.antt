-- Trees: elements behind others, and the bytes of elements (BSON 1.1, `e_list`).
use Prim.Native.Nat.{ℕ, suc, ◌+◌, ◌≤◌}
use mathlib.Core.Path.{◌≡◌, refl, sym, ap, subst, ◌∙◌}
use mathlib.Core.List.{List, ◌++◌, append_assoc, append-nil}
use mathlib.Core.Bool.{Bool}
use native.Mathlib.Nat.{add-zero}
use native.Mathlib.Omega.{arith}
use lib.ListN.{length, length-append}
use Rattle.bson.specs.Grammar.{Item, row, Embedded, embedded, nest_tag, nest_bytes, Elements, none, leaf, nest, followed_by, count, element_bytes}
use Rattle.bson.specs.Grammar.{list_bytes, tree_bytes, Shallow, InOrder, Numbered}
use Rattle.laws.proofs.GrammarLaws.{length_document, length_element}

-- elements behind others

-- ---- elements behind elements

pub followed_none : (t : Elements) → followed_by t none ≡ t
followed_none none = refl
followed_none (leaf key v rest) = ap (leaf key v) (followed_none rest)
followed_none (nest n key inner rest) = ap (nest n key inner) (followed_none rest)

pub followed_assoc : (a b c : Elements) → followed_by (followed_by a b) c ≡ followed_by a (followed_by b c)
followed_assoc none b c = refl
followed_assoc (leaf key v rest) b c = ap (leaf key v) (followed_assoc rest b c)
followed_assoc (nest n key inner rest) b c = ap (nest n key inner) (followed_assoc rest b c)

pub count_followed : (t more : Elements) → count (followed_by t more) ≡ count t + count more
count_followed none more = omega arith
count_followed (leaf key v rest) more = omega (arith, count_followed rest more)
count_followed (nest n key inner rest) more = omega (arith, count_followed rest more)

pub list_followed : (t more : Elements) → list_bytes (followed_by t more) ≡ list_bytes t ++ list_bytes more
unfolding list_bytes
list_followed none more = refl
list_followed (leaf key v rest) more =
    let e = element_bytes (row v).tag key (row v).value in
    ap (λ (l : List ℕ). e ++ l) (list_followed rest more) ∙ sym (append_assoc e (list_bytes rest) (list_bytes more))
list_followed (nest n key inner rest) more =
    let e = element_bytes (nest_tag n) key (nest_bytes n (tree_bytes inner)) in
    ap (λ (l : List ℕ). e ++ l) (list_followed rest more) ∙ sym (append_assoc e (list_bytes rest) (list_bytes more))

-- the bytes of elements

-- ---- bytes and their length

pub leaf_bytes : (key : List ℕ) (v : Item) → list_bytes (leaf key v none) ≡ element_bytes (row v).tag key (row v).value
unfolding list_bytes
leaf_bytes key v = append-nil (element_bytes (row v).tag key (row v).value)

pub nest_bytes_law : (n : Embedded) (key : List ℕ) (inner : Elements)
    → list_bytes (nest (embedded n) key inner none) ≡ element_bytes (nest_tag (embedded n)) key (tree_bytes inner)
unfolding list_bytes
nest_bytes_law n key inner = append-nil (element_bytes (nest_tag (embedded n)) key (tree_bytes inner))

pub none_length : length (list_bytes none) ≡ 0
unfolding list_bytes
none_length = refl

pub leaf_length : (key : List ℕ) (v : Item) (rest : Elements)
    → length (list_bytes (leaf key v rest)) ≡ length (element_bytes (row v).tag key (row v).value) + length (list_bytes rest)
unfolding list_bytes
leaf_length key v rest = length-append (element_bytes (row v).tag key (row v).value) (list_bytes rest)

pub nest_length : (n : Embedded) (key : List ℕ) (inner rest : Elements)
    → length (list_bytes (nest (embedded n) key inner rest)) ≡ 7 + length key + length (list_bytes inner) + length (list_bytes rest)
unfolding list_bytes
nest_length n key inner rest =
    let e = element_bytes (nest_tag (embedded n)) key (tree_bytes inner) in
    omega (
      arith,
      length-append e (list_bytes rest),
      length_element (nest_tag (embedded n)) key (tree_bytes inner),
      length_document (list_bytes inner),
    )

pub count_within : (t : Elements) → count t ≤ length (list_bytes t)
unfolding list_bytes
count_within none = omega arith
count_within (leaf key v rest) =
    omega (arith, leaf_length key v rest, length_element (row v).tag key (row v).value, count_within rest)
count_within (nest n key inner rest) =
    let value = nest_bytes n (tree_bytes inner) in
    let e = element_bytes (nest_tag n) key value in
    omega (arith, length-append e (list_bytes rest), length_element (nest_tag n) key value, count_within rest)

-- what holds of two lists of elements holds of the one behind the other

-- ---- what makes a tree good

pub ordered_followed : (t more : Elements) → InOrder t → InOrder more → InOrder (followed_by t more)
ordered_followed none more g h = h
ordered_followed (leaf key v rest) more g h = (g.0, (g.1.0, (g.1.1.0, ordered_followed rest more g.1.1.1 h)))
ordered_followed (nest n key inner rest) more g h = (g.0, (g.1.0, (g.1.1.0, ordered_followed rest more g.1.1.1 h)))

pub shallow_followed : (level : ℕ) (t more : Elements) → Shallow level t → Shallow level more → Shallow level (followed_by t more)
shallow_followed level none more g h = h
shallow_followed level (leaf key v rest) more g h = (g.0, shallow_followed level rest more g.1 h)
shallow_followed level (nest n key inner rest) more g h = (g.0, (g.1.0, shallow_followed level rest more g.1.1 h))

pub numbered_followed : (in_array : Bool) (i : ℕ) (t more : Elements) → Numbered in_array i t → Numbered in_array (i + count t) more
    → Numbered in_array i (followed_by t more)
numbered_followed in_array i none more g h = rw add-zero at h
numbered_followed in_array i (leaf key v rest) more g h =
    (g.0, numbered_followed in_array (suc i) rest more g.1 (subst (λ (k : ℕ). Numbered in_array k more) (omega arith) h))
numbered_followed in_array i (nest n key inner rest) more g h =
    (g.0, (g.1.0, numbered_followed in_array (suc i) rest more g.1.1 (subst (λ (k : ℕ). Numbered in_array k more) (omega arith) h)))
