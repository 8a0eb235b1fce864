-- What a limit on keys, patterns and options changes: where reading a zero-ended text answers the same under two limits, or 22 under the
-- first, so does every call (RULES.md, request 2).
use Prim.Native.Nat.{ℕ, zero, suc, ◌+◌, ◌≤◌}
use mathlib.Core.Path.{◌≡◌, refl}
use mathlib.Core.List.{List, [], ◌∷◌}
use mathlib.Core.Bool.{Bool, true, false, cond, ◌&&◌}
use native.Mathlib.Omega.{arith}
use lib.Dec.{leb, ltb, eqb}
use lib.ListN.{length, get_or, take, drop, length-drop}
use Rattle.bson.specs.Answer.{Answer, gives, refuses, then, unless, at}
use Rattle.bson.specs.Bytes.{Part, bytes, same}
use Rattle.bson.specs.Cstring.{Limit, most, first_zero, cstring_under, cstring}
use Rattle.bson.specs.Tags.{Sized, fixed, as_string, as_pointer, as_document, as_binary, as_regex, as_scope, sized_of}
use Rattle.bson.specs.Framing.{pattern_options_under, regex_size_under, framed_under, value_size_under}
use Rattle.bson.specs.Step.{terminator, admitted, Cursor, cursor, Element, past, element_under, Step, yield, end, step_under, Iteration}
use Rattle.bson.specs.Step.{ended, broken, more, onward, iterate_for, iterate_under}
use Rattle.bson.specs.Value.{element_at_under, read_at_under, read_with_under}
use Rattle.bson.specs.Lookup.{Found, first, find_under, get_under, get_with_under}
use Rattle.bson.specs.Path.{keys_of, moved, entered, look_along, get_path_under, get_path_with_under}
use Rattle.bson.specs.Level.{Opening, closed, opens, Level, outermost}
use Rattle.bson.specs.Check.{Walk, visit, inside, opened, along, walk_for, walk_under, check_under}
use Rattle.laws.proofs.Common.{split}
use Rattle.laws.proofs.CstringLaws.{cut_short, cstring_seen, cstring_unseen, cstring_beyond}

-- ---- an answer turned into 22

-- the first answer is the second or, where P allows it, 22
pub data Turns (P : Type 0) {A : Type 0} : Answer A → Answer A → Type 0 where
  stays : {x : Answer A} → Turns P x x
  turns : {p : ℕ} {y : Answer A} → P → Turns P (refuses 22 p) y

module _ {P : Type 0} {A : Type 0} where
  then_stays : {B : Type 0} (x : Answer A) {f g : A → Answer B} → ((a : A) → Turns P (f a) (g a)) → Turns P (then x f) (then x g)
  then_stays (gives a) h = h a
  then_stays (refuses n p) h = stays

  then_turns : {B : Type 0} {x y : Answer A} {f g : A → Answer B} → Turns P x y → ((a : A) → Turns P (f a) (g a))
      → Turns P (then x f) (then y g)
  then_turns (stays {x = x}) h = then_stays x h
  then_turns (turns p) h = turns p

  unless_turns : (b : Bool) (n : ℕ) {x y : Answer A} → Turns P x y → Turns P (unless b n x) (unless b n y)
  unless_turns true n h = h
  unless_turns false n h = stays

  cond_turns : (b : Bool) (x : Answer A) {y z : Answer A} → Turns P y z → Turns P (cond b x y) (cond b x z)
  cond_turns true x h = stays
  cond_turns false x h = h

  at_turns : (p : ℕ) {x y : Answer A} → Turns P x y → Turns P (at p x) (at p y)
  at_turns p stays = stays
  at_turns p (turns h) = turns h

moved_turns : {P : Type 0} (by : ℕ) {x y : Answer Found} → Turns P x y → Turns P (moved by x) (moved by y)
moved_turns by stays = stays
moved_turns by (turns h) = turns h

-- ---- an iteration broken off by 22

-- the first iteration is the second or, where P allows it, breaks off by 22 after elements of it
data Breaks (P : Type 0) : Iteration → Iteration → Type 0 where
  goes_on : {i : Iteration} → Breaks P i i
  further : {i j : Iteration} (e : Element) → Breaks P i j → Breaks P (more e i) (more e j)
  breaks : {p : ℕ} {j : Iteration} → P → Breaks P (broken 22 p) j

onward_stays : {P : Type 0} (x : Answer Step) {f g : ℕ → Iteration} → ((o : ℕ) → Breaks P (f o) (g o)) → Breaks P (onward x f) (onward x g)
onward_stays (gives (yield e)) h = further e (h (past e))
onward_stays (gives end) h = goes_on
onward_stays (refuses n p) h = goes_on

onward_turns : {P : Type 0} {x y : Answer Step} {f g : ℕ → Iteration} → Turns P x y → ((o : ℕ) → Breaks P (f o) (g o))
    → Breaks P (onward x f) (onward y g)
onward_turns (stays {x = x}) h = onward_stays x h
onward_turns (turns p) h = breaks p

first_turns : {P : Type 0} (s key : List ℕ) {i j : Iteration} → Breaks P i j → Turns P (first s key i) (first s key j)
first_turns s key goes_on = stays
first_turns s key (further e h) = cond_turns (same key (bytes s e.key)) (gives e) (first_turns s key h)
first_turns s key (breaks p) = turns p

-- ---- walks of two limits

-- a part has no more bytes than the slice
part_shorter : (s : List ℕ) (p : Part) → length (bytes s p) ≤ length s
unfolding bytes
part_shorter s p = omega (arith, cut_short p.size (drop p.offset s), length-drop p.offset s)

-- walks of two limits that answer alike on all slices up to a length
module _ {P : Type 0} (bound : ℕ) (w x : Walk) (h : (v : List ℕ) (k : Level) → length v ≤ bound → Turns P (w v k) (x v k))
    (strict : Bool) where
  inside_turns : (s : List ℕ) (l : Level) → length s ≤ bound → (o : Opening) → Turns P (inside w s l o) (inside x s l o)
  inside_turns s l i closed = stays
  inside_turns s l i (opens is_array levels p) = h _ _ (omega (arith, part_shorter s p))

  opened_turns : (s : List ℕ) (l : Level) (position : ℕ) (e : Element) → length s ≤ bound
      → Turns P (opened strict w s l position e) (opened strict x s l position e)
  unfolding opened
  opened_turns s l position e i = then_stays (visit strict s l position e) (λ o. then_turns (inside_turns s l i o) (λ n. stays))

  along_turns : (s : List ℕ) (l : Level) → length s ≤ bound → (position : ℕ) {i j : Iteration} → Breaks P i j
      → Turns P (along strict w s l position i) (along strict x s l position j)
  along_turns s l k position (goes_on {i = ended}) = stays
  along_turns s l k position (goes_on {i = broken n p}) = stays
  along_turns s l k position (goes_on {i = more e rest}) =
      then_turns (opened_turns s l position e k) (λ n. then_turns (along_turns s l k (suc position) (goes_on {i = rest})) (λ m. stays))
  along_turns s l k position (further e b) =
      then_turns (opened_turns s l position e k) (λ n. then_turns (along_turns s l k (suc position) b) (λ m. stays))
  along_turns s l k position (breaks p) = turns p

-- ---- two limits, from framing to the check

-- two limits under which zero-ended texts are answered alike, of all slices up to a length
module _ (P : Type 0) (a b : Limit) (bound : ℕ)
    (text : (v : List ℕ) → length v ≤ bound → Turns P (cstring_under a v) (cstring_under b v)) where
  rest_turns : (s : List ℕ) (n : ℕ) → length s ≤ bound → Turns P (cstring_under a (drop n s)) (cstring_under b (drop n s))
  rest_turns s n i = text (drop n s) (omega (arith, length-drop n s))

  pattern_turns : (v : List ℕ) → length v ≤ bound → Turns P (pattern_options_under a v) (pattern_options_under b v)
  unfolding pattern_options_under
  pattern_turns v i = then_turns (text v i) (λ p. then_turns (rest_turns v (p + 1) i) (λ o. stays))

  framed_turns : (z : Sized) (v : List ℕ) → length v ≤ bound → Turns P (framed_under a z v) (framed_under b z v)
  unfolding framed_under regex_size_under
  framed_turns (fixed n) v i = stays
  framed_turns as_string v i = stays
  framed_turns as_pointer v i = stays
  framed_turns as_document v i = stays
  framed_turns as_binary v i = stays
  framed_turns as_regex v i = then_turns (pattern_turns v i) (λ r. stays)
  framed_turns as_scope v i = stays

  size_turns : (tag : ℕ) (s : List ℕ) (n : ℕ) → length s ≤ bound
      → Turns P (value_size_under a tag (drop n s)) (value_size_under b tag (drop n s))
  unfolding value_size_under
  size_turns tag s n i = then_stays (sized_of tag) (λ z. framed_turns z (drop n s) (omega (arith, length-drop n s)))

  element_turns : (s : List ℕ) (p : ℕ) → length s ≤ bound → Turns P (element_under a s p) (element_under b s p)
  unfolding element_under
  element_turns s p i =
      then_turns (rest_turns s (p + 1) i) (λ k. then_turns (size_turns (get_or s p 0) s (p + 1 + k + 1) i) (λ n. stays))

  pub step_turns : (s : List ℕ) (c : Cursor) → length s ≤ bound → Turns P (step_under a s c) (step_under b s c)
  unfolding step_under
  step_turns s c i =
      then_stays (admitted s) λ n.
      cond_turns c.ended (gives end)
      (at_turns c.offset
      (unless_turns (leb 4 c.offset && leb c.offset (terminator s)) 4
      (cond_turns (eqb c.offset (terminator s)) (gives end)
      (then_turns (element_turns s c.offset i) (λ e. stays)))))

  element_at_turns : (s : List ℕ) (place : ℕ) → length s ≤ bound → Turns P (element_at_under a s place) (element_at_under b s place)
  unfolding element_at_under
  element_at_turns s place i = then_turns (step_turns s (cursor place false) i) (λ x. stays)

  pub read_turns : (s : List ℕ) (place : ℕ) → length s ≤ bound → Turns P (read_at_under a s place) (read_at_under b s place)
  unfolding read_at_under
  read_turns s place i = then_turns (element_at_turns s place i) (λ e. stays)

  pub read_with_turns : (s : List ℕ) (place tag : ℕ) → length s ≤ bound
      → Turns P (read_with_under a s place tag) (read_with_under b s place tag)
  unfolding read_with_under
  read_with_turns s place tag i = then_turns (element_at_turns s place i) (λ e. stays)

  iterate_breaks : (n : ℕ) (s : List ℕ) (offset : ℕ) → length s ≤ bound → Breaks P (iterate_for a n s offset) (iterate_for b n s offset)
  unfolding iterate_for
  iterate_breaks zero s offset i = goes_on
  iterate_breaks (suc n) s offset i = onward_turns (step_turns s (cursor offset false) i) (λ o. iterate_breaks n s o i)

  iterated : (s : List ℕ) → length s ≤ bound → Breaks P (iterate_under a s 4) (iterate_under b s 4)
  unfolding iterate_under
  iterated s i = iterate_breaks (suc (length s)) s 4 i

  pub get_turns : (s key : List ℕ) → length s ≤ bound → Turns P (get_under a s key) (get_under b s key)
  unfolding get_under find_under
  get_turns s key i = then_turns (first_turns s key (iterated s i)) (λ e. stays)

  pub get_with_turns : (s key : List ℕ) (tag : ℕ) → length s ≤ bound → Turns P (get_with_under a s key tag) (get_with_under b s key tag)
  unfolding get_with_under
  get_with_turns s key tag i = then_turns (get_turns s key i) (λ f. stays)

  look_along_turns : (s key : List ℕ) (keys : List (List ℕ)) → length s ≤ bound
      → Turns P (look_along a s key keys) (look_along b s key keys)
  look_along_turns s key [] i = get_turns s key i
  look_along_turns s key (next ∷ keys) i =
      then_turns (get_turns s key i) λ f.
      then_stays (at f.element.place (entered f.value)) λ p.
      moved_turns p.offset (look_along_turns (bytes s p) next keys (omega (arith, part_shorter s p)))

  pub path_turns : (s path : List ℕ) → length s ≤ bound → Turns P (get_path_under a s path) (get_path_under b s path)
  unfolding get_path_under
  path_turns s path i =
      let (key, keys) = keys_of path in
      unless_turns (leb (length keys) 200) 21 (look_along_turns s key keys i)

  pub path_with_turns : (s path : List ℕ) (tag : ℕ) → length s ≤ bound
      → Turns P (get_path_with_under a s path tag) (get_path_with_under b s path tag)
  unfolding get_path_with_under
  path_with_turns s path tag i = then_turns (path_turns s path i) (λ f. stays)

  walk_turns : (n : ℕ) (strict : Bool) (s : List ℕ) (l : Level) → length s ≤ bound
      → Turns P (walk_for a n strict s l) (walk_for b n strict s l)
  unfolding walk_for
  walk_turns zero strict s l i = stays
  walk_turns (suc n) strict s l i =
      along_turns bound (walk_for a n strict) (walk_for b n strict) (walk_turns n strict) strict s l i 0 (iterated s i)

  pub check_turns : (strict : Bool) (s : List ℕ) → length s ≤ bound → Turns P (check_under a strict s) (check_under b strict s)
  unfolding check_under walk_under
  check_turns strict s i = walk_turns (suc (length s)) strict s outermost i

-- ---- a limit beside none

-- a limit beside none: a text is answered as it was, or 22
pub text_turns : (m : ℕ) (v : List ℕ) → Turns Unit (cstring_under (most m) v) (cstring v)
text_turns m v =
    split (ltb (first_zero (take (m + 1) v)) (length (take (m + 1) v)))
    (λ t. rw (cstring_seen m v t) stays)
    (λ t. rw (cstring_unseen m v t) (turns tt))

-- ---- limits that the slice is not longer than

-- where nothing allows 22, nothing turns
alike : {A : Type 0} {x y : Answer A} → Turns ⊥ x y → x ≡ y
alike stays = refl
alike (turns h) = absurd h

-- limits that the slice is not longer than answer as one
module _ (m n : ℕ) (s : List ℕ) (i : length s ≤ m) (j : length s ≤ n) where
  texts_beyond : (v : List ℕ) → length v ≤ length s → Turns ⊥ (cstring_under (most m) v) (cstring_under (most n) v)
  texts_beyond v k = rw (cstring_beyond m n v (omega arith) (omega arith)) stays

  pub step_beyond : (c : Cursor) → step_under (most m) s c ≡ step_under (most n) s c
  step_beyond c = alike (step_turns ⊥ _ _ (length s) texts_beyond s c (omega arith))

  pub read_beyond : (place : ℕ) → read_at_under (most m) s place ≡ read_at_under (most n) s place
  read_beyond place = alike (read_turns ⊥ _ _ (length s) texts_beyond s place (omega arith))

  pub get_beyond : (key : List ℕ) → get_under (most m) s key ≡ get_under (most n) s key
  get_beyond key = alike (get_turns ⊥ _ _ (length s) texts_beyond s key (omega arith))

  pub get_with_beyond : (key : List ℕ) (tag : ℕ) → get_with_under (most m) s key tag ≡ get_with_under (most n) s key tag
  get_with_beyond key tag = alike (get_with_turns ⊥ _ _ (length s) texts_beyond s key tag (omega arith))

  pub path_beyond : (path : List ℕ) → get_path_under (most m) s path ≡ get_path_under (most n) s path
  path_beyond path = alike (path_turns ⊥ _ _ (length s) texts_beyond s path (omega arith))

  pub path_with_beyond : (path : List ℕ) (tag : ℕ) → get_path_with_under (most m) s path tag ≡ get_path_with_under (most n) s path tag
  path_with_beyond path tag = alike (path_with_turns ⊥ _ _ (length s) texts_beyond s path tag (omega arith))

  pub check_beyond : (strict : Bool) → check_under (most m) strict s ≡ check_under (most n) strict s
  check_beyond strict = alike (check_turns ⊥ _ _ (length s) texts_beyond strict s (omega arith))
