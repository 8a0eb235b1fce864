-- What a check accepts means a tree, with as many values, none deeper than 200, and the keys of arrays as the check asks: the way back from
-- TreePasses (RULES.md, "The whole check").
use Prim.Native.Nat.{ℕ, zero, suc, ◌+◌, ◌<◌}
use mathlib.Core.Path.{◌≡◌, refl, sym, ap, subst, ◌∙◌}
use mathlib.Core.List.{List}
use mathlib.Core.Bool.{Bool, true}
use native.Mathlib.Omega.{arith}
use Rattle.bson.specs.Answer.{gives}
use Rattle.bson.specs.Bytes.{AreBytes, Part, bytes}
use Rattle.bson.specs.Step.{Element}
use Rattle.bson.specs.Level.{Opening, Level, outermost}
use Rattle.bson.specs.ArrayKey.{good_array_key}
use Rattle.bson.specs.Check.{key_passes, check, check_under}
use Rattle.bson.specs.Grammar.{Nest, levels, is_array, Elements, none, leaf, nest, size, Shallow}
use Rattle.bson.specs.Meaning.{Holding, single, nested, holding, Yields, MeansFrom, ends, yields, opens}
use Rattle.bson.specs.Reach.{Spot, start, spot_behind, within, YieldsAt}
use Rattle.bson.specs.Decimal.{decimal}
use Rattle.laws.proofs.BytesLaws.{same_eq}
use Rattle.laws.proofs.ReadLaws.{read_step}
use Rattle.laws.proofs.StepLaws.{step_yields}
use Rattle.laws.proofs.AdvanceLaws.{ended_at}
use Rattle.laws.proofs.CheckLaws.{Visited, walk_eq}
use Rattle.laws.proofs.GrammarBack.{bytes_are}
use Rattle.theorems.proofs.Check.Spots.{spot_walk, bytes_left, Inner, plain, deep, Walked, ended, more, walked_says, opens_deeper}
use Rattle.theorems.proofs.Grammar.ItemBytes.{CodesOf, element_codes}
use Rattle.theorems.proofs.Grammar.TreePasses.{KeysAsked, opening_of, holding_opens}
use Rattle.bson.specs.Cstring.{unlimited}

-- ---- a tree from a spot on

-- from a spot on, the document means a tree of n values that a check accepts
pub record Tree (strict : Bool) (σ : Spot) (n : ℕ) : Type 0 where
  pub tree : Elements
  pub means : MeansFrom σ.document σ.offset tree
  pub shallow : Shallow σ.level.depth tree
  pub asked : KeysAsked strict σ.level.is_array σ.position tree
  pub counted : size tree ≡ n

key_numbered : (strict : Bool) (l : Level) (position : ℕ) (key : List ℕ) → key_passes strict l position key ≡ true
    → strict ≡ true → l.is_array ≡ true → key ≡ decimal position
unfolding good_array_key
key_numbered strict l position key h s a = same_eq key (decimal position) (rw (s, a) at h)

-- ---- a value in front of a tree

-- an accepted value in front of a tree
module _ (strict : Bool) (σ : Spot) (are : AreBytes σ.document) (e : Element) (y : YieldsAt unlimited σ e) (what : Opening)
    (v : Visited strict σ.document σ.level σ.position e what) (m : ℕ) (rest : Tree strict (spot_behind σ e) m) where
  abbrev keyed_by : List ℕ
  keyed_by = bytes σ.document e.key

  coded : (h : Holding) → holding σ.document v.value ≡ h → CodesOf σ.document e.tag e.value h
  coded h q =
      subst (CodesOf σ.document e.tag e.value) q (element_codes σ.document are σ.offset e v.value y v.reads)

  yielded : (h : Holding) (tag : ℕ) → holding σ.document v.value ≡ h → e.tag ≡ tag
      → Yields σ.document σ.offset keyed_by tag h e
  yielded h tag q t =
      record {
        steps = y;
        keyed = refl;
        tagged = t;
        value = v.value;
        reads = read_step unlimited σ.document σ.offset e y
            ∙ v.reads;
        holds = q;
      }

  in_front_law : (h : Holding) → holding σ.document v.value ≡ h
      → ((n : Nest) (p : Part) (j : ℕ) → h ≡ nested n p → spot_walk unlimited strict (within σ (is_array n) (levels n) p) ≡ gives j
      → Tree strict (within σ (is_array n) (levels n) p) j)
      → (k : ℕ) → Inner unlimited strict σ (opening_of h) k → Tree strict σ (k + m)
  in_front_law (single item) q inner k plain =
      record {
        tree = leaf keyed_by item rest.tree;
        means = yields e (yielded (single item) _ q (coded (single item) q).tagged) rest.means;
        shallow = (v.shallow, rest.shallow);
        asked = λ s. (key_numbered strict σ.level σ.position keyed_by v.key s, rest.asked s);
        counted = ap (λ (x : ℕ). 1 + x) rest.counted;
      }
  in_front_law (nested n p) q inner k (deep is_array' levels' p' j w) =
      let i = inner n p j refl w in
      record {
        tree = nest n keyed_by i.tree rest.tree;
        means = opens p e (yielded (nested n p) _ q (coded (nested n p) q).tagged) i.means rest.means;
        shallow = (v.shallow, (i.shallow, rest.shallow));
        asked = λ s. (key_numbered strict σ.level σ.position keyed_by v.key s, (i.asked s, rest.asked s));
        counted = omega (arith, i.counted, rest.counted);
      }

-- ---- a passed slice

tree_walked : (f : ℕ) (strict : Bool) (σ : Spot) (n : ℕ) → AreBytes σ.document → bytes_left σ < f → Walked unlimited strict σ n
    → Tree strict σ n
tree_walked zero strict σ n are l w = absurd (omega arith)
tree_walked (suc f) strict σ n are l (ended q) =
    record { tree = none; means = ends (ended_at unlimited σ.document σ.offset q) q; shallow = tt; asked = λ s. tt; counted = refl }
tree_walked (suc f) strict σ n are l (more e k m y o w) =
    let z = step_yields unlimited σ.document _ e y in
    let v = o.visited in
    let opened = holding_opens σ.document v.value in
    let rest = tree_walked f strict (spot_behind σ e) m are (omega arith) (walked_says unlimited strict (spot_behind σ e) m w) in
    let inner = subst (λ (x : Opening). Inner unlimited strict σ x k) (sym v.is ∙ opened) o.inner in
    in_front_law strict σ are e y o.what v m rest (holding σ.document v.value) refl
    (λ i p j q x. let r = opens_deeper unlimited σ e v.value (is_array i) (levels i) p y v.reads (opened ∙ ap opening_of q) in
    tree_walked f strict _ j (bytes_are σ.document p are) (omega arith)
    (walked_says unlimited strict (within σ (is_array i) (levels i) p) j x))
    k inner

-- from any spot that is accepted
pub accepted_tree : (strict : Bool) (σ : Spot) (n : ℕ) → AreBytes σ.document → spot_walk unlimited strict σ ≡ gives n → Tree strict σ n
accepted_tree strict σ n are w = tree_walked (suc (bytes_left σ)) strict σ n are (omega arith) (walked_says unlimited strict σ n w)

pub passed_tree : (strict : Bool) (s : List ℕ) (n : ℕ) → AreBytes s → check strict s ≡ gives n → Tree strict (start s outermost) n
unfolding check_under
passed_tree strict s n are x = accepted_tree strict (start s outermost) n are (sym (walk_eq unlimited strict s outermost) ∙ x)
