-- A lookup in a document that means a tree answers the first child of the key (RULES.md, "Values").
use Prim.Native.Nat.{ℕ}
use mathlib.Core.Path.{◌≡◌, refl, sym, ap, ◌∙◌}
use mathlib.Core.List.{List}
use mathlib.Core.Bool.{cond}
use mathlib.Core.Option.{Option, none, some}
use Rattle.bson.specs.Answer.{Answer, gives, refuses, then}
use Rattle.bson.specs.Bytes.{AreBytes, bytes, same}
use Rattle.bson.specs.Step.{terminator, Element, past, iterate}
use Rattle.bson.specs.Value.{Value}
use Rattle.bson.specs.Lookup.{Found, found, first, find_under, get, get_bytes_under, get_under}
use Rattle.bson.specs.Grammar.{nest_bytes, Elements}
use Rattle.bson.specs.Meaning.{Holding, holding, Yields, MeansFrom, ends, yields, opens, Means}
use Rattle.laws.proofs.Common.{split}
use Rattle.laws.proofs.ReadLaws.{read_step}
use Rattle.laws.proofs.StepLaws.{iterate_eq}
use Rattle.laws.proofs.GrammarBack.{bytes_are}
use Rattle.theorems.specs.FirstChild.{Child, item, inner, child_of, child_tag, child_bytes, Is, LooksUp}
use Rattle.theorems.proofs.Grammar.ReadTree.{yields_codes, meant_bytes}
use Rattle.bson.specs.Cstring.{unlimited}

-- an answer is a child, or that there is none
record Shows (d : List ℕ) (c : Child) (x : Answer Found) : Type 0 where
  shown : Found
  answers : x ≡ gives shown
  tagged : shown.element.tag ≡ child_tag c
  framed : bytes d shown.element.value ≡ child_bytes c
  value : Is d shown.value c

abbrev Answered : List ℕ → Option Child → Answer Found → Type 0
Answered d (some c) x = Shows d c x
Answered d none x = x ≡ refuses 16 (terminator d)

module _ (d : List ℕ) (key : List ℕ) where
  -- a child in front is answered where it has the key, else what comes behind it
  in_front_law : {offset : ℕ} {k : List ℕ} {tag : ℕ} {h : Holding} {e : Element} → Yields d offset k tag h e → (c : Child) → tag ≡ child_tag c
      → bytes d e.value ≡ child_bytes c → ((v : Value) → holding d v ≡ h → Is d v c)
      → (o : Option Child) → Answered d o (then (first d key (iterate d (past e))) (found d))
      → Answered d (cond (same key k) (some c) o) (then (first d key (iterate d offset)) (found d))
  unfolding found
  in_front_law {offset} {k} {e = e} y c t b v o rest =
      let reads = sym (read_step unlimited d offset e y.steps) ∙ y.reads in
      rw (iterate_eq unlimited d offset, y.steps, y.keyed)
      (split (same key k)
      (λ q. rw q (record {
        shown = record { element = e; value = y.value };
        answers = rw reads;
        tagged = y.tagged ∙ t;
        framed = b;
        value = v y.value y.holds;
      }))
      (λ q. rw q rest))

  looks_from : (offset : ℕ) (t : Elements) → AreBytes d → MeansFrom d offset t
      → Answered d (child_of key t) (then (first d key (iterate d offset)) (found d))
  looks_from offset t a (ends q x) = rw (iterate_eq unlimited d offset, x)
  looks_from offset t a (yields {item = i} {rest = rest} e y m) =
      in_front_law y (item i) refl (yields_codes a y).value (λ v q. q) _ (looks_from (past e) rest a m)
  looks_from offset t a (opens {n = n} {inner = u} {rest = rest} p e y i m) =
      let b = (meant_bytes (bytes d p) u (bytes_are d p a) i).1 in
      in_front_law y (inner n u) refl ((yields_codes a y).value ∙ ap (nest_bytes n) (sym b)) (λ v q. (p, q, i)) _ (looks_from (past e) rest a m)

  looks_by : (o : Option Child) → Answered d o (get d key) → LooksUp d key o
  unfolding get_bytes_under
  looks_by (some c) s =
      record { found = s.shown; answers = s.answers; tagged = s.tagged; framed = rw s.answers s.framed; value = s.value }
  looks_by none s = s

pub lookup_child : (d : List ℕ) (t : Elements) → AreBytes d → Means d t → (key : List ℕ) → LooksUp d key (child_of key t)
unfolding get_under find_under
lookup_child d t a m key = looks_by d key (child_of key t) (looks_from d key 4 t a m)
