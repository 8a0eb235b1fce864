-- The bytes of open documents, and how many they are, when an element is put behind the innermost's, when one is opened in it and when it
-- is closed (RULES.md, "Writer and joining").
use Prim.Native.Nat.{ℕ, ◌+◌}
use mathlib.Core.Path.{◌≡◌, refl, sym, ap, ◌∙◌}
use mathlib.Core.List.{List, [], ◌∷◌, ◌++◌, append_assoc, append-nil}
use native.Mathlib.Omega.{arith}
use lib.ListN.{length, length-append}
use Rattle.bson.specs.Grammar.{bytes32, Embedded, embedded, nest_tag, Elements, none, nest, element_bytes, list_bytes, tree_bytes}
use Rattle.theorems.specs.ReadBack.{Open, open_of, with}
use Rattle.laws.proofs.GrammarLaws.{length_bytes32, length_element}
use Rattle.laws.proofs.TreeLaws.{list_followed, nest_bytes_law}
use Rattle.theorems.proofs.Writer.DeskHolds.{shown, start_of}

-- ---- the bytes of open documents

pub shown_with : (o : Open) (around : List Open) (t : Elements) → shown (with o t ∷ around) ≡ shown (o ∷ around) ++ list_bytes t
unfolding shown
shown_with o [] t = rw (list_followed o.inside t) (simp (append_assoc))
shown_with o (p ∷ around) t = rw (list_followed o.inside t) (simp (append_assoc))

pub start_with : (o : Open) (around : List Open) (t : Elements) → start_of (with o t ∷ around) ≡ start_of (o ∷ around)
unfolding start_of
start_with o [] t = refl
start_with o (p ∷ around) t = refl

pub shown_opened : (n : Embedded) (key : List ℕ) (o : Open) (around : List Open)
    → shown (open_of n key none ∷ o ∷ around) ≡ shown (o ∷ around) ++ element_bytes (nest_tag (embedded n)) key (bytes32 5)
unfolding shown list_bytes
shown_opened n key o around =
    ap (λ (l : List ℕ). shown (o ∷ around) ++ l) (append-nil (element_bytes (nest_tag (embedded n)) key (bytes32 5)))

element_front : (tag : ℕ) (key value : List ℕ) → element_bytes tag key value ≡ element_bytes tag key [] ++ value
unfolding element_bytes
element_front tag key value = ap (λ (l : List ℕ). tag ∷ l) (sym (append_assoc key (0 ∷ []) value))

-- ---- in front of the innermost's length

-- those in front of the innermost's length
unfoldable pub front : Open → List Open → List ℕ
front o [] = []
front o (p ∷ around) = shown (p ∷ around) ++ element_bytes (nest_tag (embedded o.nest)) o.key []

pub shown_front : (o : Open) (around : List Open) → shown (o ∷ around) ≡ front o around ++ (bytes32 5 ++ list_bytes o.inside)
unfolding shown front
shown_front o [] = refl
shown_front o (p ∷ around) = rw (element_front (nest_tag (embedded o.nest)) o.key (bytes32 5)) (simp (append_assoc))

pub start_front : (o : Open) (around : List Open) → start_of (o ∷ around) ≡ length (front o around)
unfolding start_of front
start_front o [] = refl
start_front o (p ∷ around) = sym (length-append (shown (p ∷ around)) (element_bytes (nest_tag (embedded o.nest)) o.key []))

pub front_tree : (o p : Open) (around : List Open)
    → front o (p ∷ around) ++ tree_bytes o.inside ≡ shown (p ∷ around) ++ list_bytes (nest (embedded o.nest) o.key o.inside none)
unfolding front
front_tree o p around =
    rw (nest_bytes_law o.nest o.key o.inside, element_front (nest_tag (embedded o.nest)) o.key (tree_bytes o.inside))
    (simp (append_assoc))

-- ---- how many bytes they are

-- how many they are: the innermost's start, its length and its elements
pub shown_length : (o : Open) (around : List Open) → length (shown (o ∷ around)) ≡ start_of (o ∷ around) + 4 + length (list_bytes o.inside)
shown_length o around =
    let list = list_bytes o.inside in
    ap length (shown_front o around)
    ∙ omega (
      arith,
      length-append (front o around) (bytes32 5 ++ list),
      length-append (bytes32 5) list,
      length_bytes32 5,
      start_front o around,
    )

pub start_nested : (o p : Open) (around : List Open) → start_of (o ∷ p ∷ around) ≡ length (shown (p ∷ around)) + (2 + length o.key)
unfolding start_of
start_nested o p around = omega (arith, length_element (nest_tag (embedded o.nest)) o.key [])

pub shown_top : (o : Open) → length (shown (o ∷ [])) ≡ 4 + length (list_bytes o.inside)
unfolding start_of
shown_top o = omega (arith, shown_length o [])

pub shown_nested : (o p : Open) (around : List Open)
    → length (shown (o ∷ p ∷ around)) ≡ length (shown (p ∷ around)) + (6 + length o.key + length (list_bytes o.inside))
shown_nested o p around = omega (arith, shown_length o (p ∷ around), start_nested o p around)
