-- One frame, one meaning holds (BSON 1.1, "Specification"; RULES.md, "The whole check").
use Prim.Native.Nat.{ℕ}
use mathlib.Core.Path.{◌≡◌, refl, sym, ◌∙◌}
use mathlib.Core.List.{List}
use mathlib.Core.Bool.{Bool, true, false}
use Rattle.bson.specs.Answer.{gives}
use Rattle.bson.specs.Bytes.{AreBytes}
use Rattle.bson.specs.Level.{Level}
use Rattle.bson.specs.Check.{check}
use Rattle.bson.specs.Grammar.{Elements, tree_bytes}
use Rattle.bson.specs.Meaning.{Means}
use Rattle.bson.specs.Reach.{Spot, start, Comes, first, next, into}
use Rattle.laws.proofs.GrammarBack.{bytes_are}
use Rattle.theorems.specs.OneMeaning.{Frame, OneTree, OneMeaning}
use Rattle.theorems.proofs.Check.Spots.{comes_accepted}
use Rattle.theorems.proofs.Grammar.EveryByte.{every_byte}
use Rattle.theorems.proofs.Check.Whole.{check_passes}
use Rattle.theorems.proofs.Grammar.TreeReads.{tree_means}
use Rattle.theorems.proofs.Grammar.Unique.{tree_injective}
use Rattle.theorems.proofs.Grammar.TreePasses.{KeysAsked, plain_asked, means_passes}
use Rattle.theorems.proofs.Grammar.ReadTree.{meant_bytes}
use Rattle.theorems.proofs.Grammar.PassedTree.{accepted_tree, passed_tree}
use Rattle.theorems.proofs.Grammar.FirstChild.{lookup_child}
use Rattle.bson.specs.Cstring.{unlimited}

-- each check accepts exactly the bytes of the good trees, none deeper than 200, whose keys are as it asks
module _ (strict : Bool) (s : List ℕ) (n : ℕ) where
  passed_frame : AreBytes s → check strict s ≡ gives n → (t : Elements) × Frame s n t × KeysAsked strict false 0 t
  passed_frame are x =
      let r = passed_tree strict s n are x in
      let (good, bytes) = meant_bytes s r.tree are r.means in
      (r.tree, record { good = good; shallow = r.shallow; bytes = bytes; counts = r.counted }, r.asked)

  frame_passes : (t : Elements) → Frame s n t → KeysAsked strict false 0 t → check strict s ≡ gives n
  frame_passes t f k =
      rw (← f.bytes, ← f.counts) (means_passes strict (tree_bytes t) t (tree_means t f.good) f.shallow k)

same_tree : (s s' : List ℕ) (t : Elements) → AreBytes s → AreBytes s' → Means s t → Means s' t → s ≡ s'
same_tree s s' t a b m k = sym (meant_bytes s t a m).1 ∙ (meant_bytes s' t b k).1

-- what one comes to is a part of the slice
comes_are : (s : List ℕ) → AreBytes s → (σ : Spot) → Comes unlimited s σ → AreBytes σ.document
comes_are s are σ first = are
comes_are s are τ (next {σ} e c y) = comes_are s are σ c
comes_are s are τ (into {σ} v is_array levels p c x o) = bytes_are σ.document p (comes_are s are σ c)

passed_throughout : (s : List ℕ) (n : ℕ) → AreBytes s → check false s ≡ gives n → (d : List ℕ) (l : Level) → Comes unlimited s (start d l)
    → OneTree d
passed_throughout s n are x d l c =
    let (m, w) = comes_accepted unlimited false s n x (start d l) c in
    let small = comes_are s are (start d l) c in
    let r = accepted_tree false (start d l) m small w in
    let (good, bytes) = meant_bytes d r.tree small r.means in
    record {
      tree = r.tree;
      good = good;
      bytes = bytes;
      means = r.means;
      every_byte = every_byte d (((check_passes unlimited s).0 (n, x)).ends d l c);
      lookup = lookup_child d r.tree small r.means;
    }

pub one_meaning : OneMeaning
one_meaning =
    record {
      plain = λ s n are. (
        (λ x. let (t, f, k) = passed_frame false s n are x in (t, f)),
        (λ x. frame_passes false s n x.0 x.1 (plain_asked false 0 x.0)),
      );
      strict = λ s n are. (
        (λ x. let (t, f, k) = passed_frame true s n are x in (t, f, k refl)),
        (λ x. frame_passes true s n x.0 x.1 (λ q. x.2)),
      );
      injective = tree_injective;
      reads = tree_means;
      meant = meant_bytes;
      same = same_tree;
      throughout = passed_throughout;
    }
