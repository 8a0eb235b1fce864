-- A document that means a tree none of whose values lies deeper than 200 passes the plain whole check, with the number of the tree's
-- values, and the strict one where the keys of arrays are those of their positions (RULES.md, "The whole check").
use Prim.Native.Nat.{ℕ, suc, ◌+◌, ◌≤◌}
use mathlib.Core.Path.{◌≡◌, refl, sym, ap, ◌∙◌}
use mathlib.Core.List.{List}
use mathlib.Core.Bool.{Bool, true, false, true≢false}
use Rattle.bson.specs.Answer.{gives}
use Rattle.bson.specs.Bytes.{bytes}
use Rattle.bson.specs.Step.{Element, past}
use Rattle.bson.specs.Value.{Value, leaf, document, array, code_with_scope}
use Rattle.bson.specs.Level.{Opening, closed, opens, opening, Level, outermost, deeper}
use Rattle.bson.specs.ArrayKey.{good_array_key}
use Rattle.bson.specs.Check.{key_passes, check, check_under}
use Rattle.bson.specs.Grammar.{levels, is_array, Elements, size, Shallow, Numbered}
use Rattle.bson.specs.Meaning.{Holding, single, nested, holding, Yields, MeansFrom, ends, yields, opens as holds, Means}
use Rattle.bson.specs.Reach.{Spot, spot_behind}
use Rattle.bson.specs.Decimal.{decimal}
use Rattle.laws.proofs.BytesLaws.{same_self}
use Rattle.laws.proofs.Common.{split}
use Rattle.laws.proofs.ReadLaws.{read_step}
use Rattle.laws.proofs.CheckLaws.{walk_from, walk_eq, walk_ends}
use Rattle.theorems.proofs.Check.Spots.{spot_walk, Inner, plain, deep, more, walked_gives}
use Rattle.bson.specs.Cstring.{unlimited}

-- ---- what a check asks of keys

-- what a check asks of the keys in arrays: the plain one nothing
abbrev pub KeysAsked : Bool → Bool → ℕ → Elements → Type 0
KeysAsked strict in_array position t = strict ≡ true → Numbered in_array position t

pub plain_asked : (in_array : Bool) (position : ℕ) (t : Elements) → KeysAsked false in_array position t
plain_asked in_array position t e = absurd (true≢false (sym e))

-- a key in its place is good
numbered_good : (position : ℕ) (key : List ℕ) → key ≡ decimal position → good_array_key position key ≡ true
unfolding good_array_key
numbered_good position key e = rw e (same_self (decimal position))

key_asked : (strict : Bool) (l : Level) (position : ℕ) (key : List ℕ)
    → (strict ≡ true → l.is_array ≡ true → key ≡ decimal position) → key_passes strict l position key ≡ true
key_asked strict l position key h =
    split strict (λ s. split l.is_array (λ a. rw (s, a) (numbered_good position key (h s a))) (λ a. rw (s, a))) (λ s. rw s)

-- ---- what a value opens

-- what a value opens, by what it holds
abbrev pub opening_of : Holding → Opening
opening_of (single item) = closed
opening_of (nested n p) = opens (is_array n) (levels n) p

pub holding_opens : (s : List ℕ) (v : Value) → opening v ≡ opening_of (holding s v)
unfolding opening
holding_opens s (leaf v) = refl
holding_opens s (document p) = refl
holding_opens s (array p) = refl
holding_opens s (code_with_scope c p) = refl

-- ---- the walk through a tree

abbrev spot : List ℕ → Level → ℕ → ℕ → Spot
spot s l position offset = record { document = s; level = l; position = position; offset = offset }

-- where a step yields a value that is not too deep, under a key that passes, the walk counts it with those inside, and goes on
yields_passes : (strict : Bool) (σ : Spot) {key : List ℕ} {tag : ℕ} {h : Holding} (e : Element) (n m : ℕ)
    → Yields σ.document σ.offset key tag h e → σ.level.depth ≤ 200
    → (strict ≡ true → σ.level.is_array ≡ true → key ≡ decimal σ.position)
    → Inner unlimited strict σ (opening_of h) n → spot_walk unlimited strict (spot_behind σ e) ≡ gives m
    → spot_walk unlimited strict σ ≡ gives (n + m)
yields_passes strict σ {h = h} e n m y low key i w =
    let reads = sym (read_step unlimited σ.document σ.offset e y.steps) ∙ y.reads in
    let is = holding_opens σ.document y.value ∙ ap opening_of y.holds in
    let passes : key_passes strict σ.level σ.position (bytes σ.document e.key) ≡ true =
    rw y.keyed (key_asked strict σ.level σ.position _ key) in
    walked_gives unlimited strict σ (n + m)
    (more e n m y.steps
    (record { what = opening_of h; visited = record { key = passes; value = y.value; reads = reads; shallow = low; is = is }; inner = i })
    w)

-- at any level, from any element on
from_passes : (strict : Bool) (s : List ℕ) (offset : ℕ) (t : Elements) → MeansFrom s offset t → (l : Level) (position : ℕ)
    → Shallow l.depth t
    → KeysAsked strict l.is_array position t → walk_from unlimited strict s l position offset ≡ gives (size t)
from_passes strict s offset t (ends at e) l position h k = walk_ends unlimited strict s l position offset e
from_passes strict s offset t (yields {rest = rest} e y m) l position h k =
    yields_passes strict (spot s l position offset) e 1 (size rest) y h.0 (λ q. (k q).0) plain
    (from_passes strict s (past e) rest m l (suc position) h.1 (λ q. (k q).1))
from_passes strict s offset t (holds {n = n} {inner = inner} {rest = rest} p e y i m) l position h k =
    let inside = from_passes strict (bytes s p) 4 inner i (deeper l (is_array n) (levels n) p) 0 h.1.0 (λ q. (k q).1.0) in
    yields_passes strict (spot s l position offset) e (1 + size inner) (size rest) y h.0 (λ q. (k q).0)
    (deep (is_array n) (levels n) p (size inner) inside)
    (from_passes strict s (past e) rest m l (suc position) h.1.1 (λ q. (k q).1.1))

pub means_passes : (strict : Bool) (s : List ℕ) (t : Elements) → Means s t → Shallow 0 t → KeysAsked strict false 0 t
    → check strict s ≡ gives (size t)
unfolding check_under
means_passes strict s t m h k = walk_eq unlimited strict s outermost ∙ from_passes strict s 4 t m outermost 0 h k
