-- Every reading call, and joining, refuses by numbers that RULES.md, "Numbers returned", gives it, so never by 0: the fuel of the
-- iteration and of the walk does not run out.
use Prim.Native.Nat.{ℕ, zero, suc, ◌+◌, ◌-◌, ◌<◌}
use mathlib.Core.Path.{◌≡◌, refl, sym, ap, ◌∙◌}
use mathlib.Core.List.{List, [], ◌∷◌}
use mathlib.Core.Bool.{Bool, true, false, true≢false, ◌&&◌}
use mathlib.Core.Logic.{◌⊎◌, inl, inr}
use native.Mathlib.Omega.{arith}
use lib.Dec.{leb, ltb, eqb}
use lib.ListN.{length, get_or, take, drop}
use Rattle.bson.specs.Answer.{Answer, gives, refuses, unless}
use Rattle.bson.specs.Bytes.{le32, le64, i32, i64, natural, declares, Part, part, bytes, trim, same}
use Rattle.bson.specs.Utf8.{utf8}
use Rattle.bson.specs.Cstring.{first_zero, Limit, unlimited, most, zero_text, seen, missing, cstring_under}
use Rattle.bson.specs.Tags
use Rattle.bson.specs.Framing.{length_field, fits, in_front, zero_ended, string_size, pointer_size, document_size, binary_size, scope_size}
use Rattle.bson.specs.Framing.{pattern_options_under, regex_size_under, framed_under, value_size_under, pattern_options, regex_size}
use Rattle.bson.specs.Step.{terminator, admitted, Cursor, cursor, Element, past, element_under, Step, yield, end, step_under, yielded}
use Rattle.bson.specs.Step.{Iteration, ended, broken, more, onward, iterate_for, iterate_under}
use Rattle.bson.specs.Value.{bool, timestamp_of, text, declares_data, binary_value, scope_value, content, value_in, value_of, of_tag}
use Rattle.bson.specs.Value.{Value, leaf, document, array, code_with_scope, element_at_under, read_at_under, read_with_under}
use Rattle.bson.specs.Lookup.{Found, found, first, find_under, get_under, get_with_under, is_empty, get_at_under}
use Rattle.bson.specs.Path.{keys_of, moved, entered, look_along, get_path_under, get_path_with_under}
use Rattle.bson.specs.Level.{Opening, closed, opens, Level, outermost}
use Rattle.bson.specs.Check.{Walk, key_passes, visit, inside, opened, along, walk_for, walk_under, check_under, check}
use Rattle.bson.specs.Join.{Outcome, wrote, refused, Joined, passing, size_of_both, both_put, join}
use Rattle.bson.specs.Writer.{room}
use Rattle.laws.proofs.AnswerLaws.{one_of, RefusesIn, given, by, then_in, unless_in, cond_in, at_in, refused_in, all_in, one_all_in}
use Rattle.laws.proofs.AnswerLaws.{weaken, then_gives}
use Rattle.laws.specs.FramedAt.{FramedAt}
use Rattle.laws.proofs.StepLaws.{step_yields, Each, iterate_each}
use Rattle.laws.proofs.CheckLaws.{visit_says}
use Rattle.laws.proofs.OpenLaws.{value_opens, opens_shorter}
use Rattle.laws.proofs.ReadLaws.{element_at_says}
use Rattle.laws.proofs.LookupLaws.{find_steps}
use Rattle.laws.proofs.GrammarBack.{regex_alone}
use Rattle.laws.proofs.TagLaws.{sized_by}
use Tags.{ElementType, Boolean, Int32, Double, Int64, DateTime, Timestamp, ObjectId, Decimal128, Null, Undefined, MinKey, MaxKey, String}
use Tags.{JavaScriptCode, Symbol, DbPointer, EmbeddedDocument, Array, Binary, RegularExpression, JavaScriptCodeWithScope, Sized, fixed}
use Tags.{as_string, as_pointer, as_document, as_binary, as_regex, as_scope, Row, tags, find, row_of, type_of}

-- ---- admission

-- "admission tests 1, 2, 3"
abbrev pub admissions : List ℕ
admissions = 1 ∷ 2 ∷ 3 ∷ []

pub admitted_in : (s : List ℕ) → RefusesIn admissions (admitted s)
unfolding admitted
admitted_in s =
    unless_in (leb 5 (length s)) 1 refl
    (unless_in (declares s (length s)) 2 refl
    (unless_in (eqb (get_or s (terminator s) 0) 0) 3 refl given))

pub empty_in : (s : List ℕ) → RefusesIn admissions (is_empty s)
unfolding is_empty
empty_in s = then_in (admitted_in s) (λ n q. given)

-- ---- framing by length fields, and the tag

-- by length fields
abbrev lengths : List ℕ
lengths = 8 ∷ 9 ∷ 10 ∷ []

field_in : (present least : ℕ) (v : List ℕ) → RefusesIn lengths (length_field present least v)
unfolding length_field
field_in present least v =
    unless_in (leb present (length v)) 8 refl (unless_in (leb least (le32 v)) 8 refl (unless_in (natural (le32 v)) 8 refl given))

fits_in : (size : ℕ) (v : List ℕ) → RefusesIn lengths (fits size v)
unfolding fits
fits_in size v = unless_in (leb size (length v)) 9 refl given

ended_in : (size : ℕ) (v : List ℕ) → RefusesIn lengths (zero_ended size v)
unfolding zero_ended
ended_in size v = then_in (fits_in size v) (λ n q. unless_in (eqb (get_or v (n - 1) 0) 0) 10 refl given)

string_in : (v : List ℕ) → RefusesIn lengths (string_size v)
unfolding string_size
string_in v = then_in (field_in 4 1 v) (λ n q. ended_in (4 + n) v)

find_in : (rs : List Row) (tag : ℕ) → RefusesIn (7 ∷ []) (find rs tag)
find_in [] tag = by refl
find_in (r ∷ rs) tag = cond_in (eqb r.tag tag) given (find_in rs tag)

row_in : (tag : ℕ) → RefusesIn (7 ∷ []) (row_of tag)
unfolding row_of
row_in tag = find_in tags tag

-- ---- what a value holds

-- what a value holds, of any type but a regex
abbrev contents : List ℕ
contents = 1 ∷ 2 ∷ 3 ∷ 6 ∷ 7 ∷ 8 ∷ 9 ∷ 10 ∷ 11 ∷ 12 ∷ []

front_in : {A : Type 0} (size : ℕ) (number : List ℕ → A) (v : List ℕ) → RefusesIn contents (in_front size number v)
front_in size number v = then_in (weaken refl (fits_in size v)) (λ n q. given)

text_in_law : (s : List ℕ) (p : Part) → RefusesIn contents (text s p)
unfolding text
text_in_law s p = unless_in (utf8 (bytes s p)) 6 refl given

bool_in : (v : List ℕ) → RefusesIn contents (bool v)
unfolding bool
bool_in v = then_in (front_in 1 (λ w. get_or w 0 0) v) (λ b q. unless_in (leb b 1) 11 refl given)

timestamp_in : (v : List ℕ) → RefusesIn contents (timestamp_of v)
unfolding timestamp_of
timestamp_in v = then_in (front_in 4 le32 v) (λ i q. then_in (front_in 4 le32 (drop 4 v)) (λ n r. given))

binary_in : (v : List ℕ) (p : Part) → RefusesIn contents (binary_value v p)
unfolding binary_value
binary_in v p =
    cond_in (eqb (get_or v 4 0) 2) (unless_in (declares_data v) 12 refl given) given

scope_in : (v : List ℕ) (p : Part) → RefusesIn contents (scope_value v p)
unfolding scope_value
scope_in v p =
    unless_in (leb 14 (length v)) 12 refl
    (then_in (weaken refl (string_in (drop 4 v))) λ n q.
    unless_in (utf8 (bytes v (part 8 (n - 5)))) 6 refl
    (unless_in (ltb (4 + n) (length v)) 12 refl
    (then_in (weaken refl (admitted_in (drop (4 + n) v))) (λ k r. given))))

-- a value, where the texts of a regex are refused by none but these numbers
module _ (ms : List ℕ) (w : all_in contents ms ≡ true) (s : List ℕ) where
  content_in : (p : Part) (t : ElementType) → (t ≡ RegularExpression → RefusesIn ms (pattern_options (bytes s p)))
      → RefusesIn ms (content s p t)
  unfolding content
  content_in p Boolean x = weaken w (then_in (bool_in (bytes s p)) (λ a q. given))
  content_in p Int32 x = weaken w (then_in (front_in 4 i32 (bytes s p)) (λ a q. given))
  content_in p Double x = weaken w (then_in (front_in 8 le64 (bytes s p)) (λ a q. given))
  content_in p Int64 x = weaken w (then_in (front_in 8 i64 (bytes s p)) (λ a q. given))
  content_in p DateTime x = weaken w (then_in (front_in 8 i64 (bytes s p)) (λ a q. given))
  content_in p Timestamp x = weaken w (then_in (timestamp_in (bytes s p)) (λ a q. given))
  content_in p ObjectId x = given
  content_in p Decimal128 x = given
  content_in p Null x = given
  content_in p Undefined x = given
  content_in p MinKey x = given
  content_in p MaxKey x = given
  content_in p String x = weaken w (then_in (text_in_law s (trim 4 1 p)) (λ a q. given))
  content_in p JavaScriptCode x = weaken w (then_in (text_in_law s (trim 4 1 p)) (λ a q. given))
  content_in p Symbol x = weaken w (then_in (text_in_law s (trim 4 1 p)) (λ a q. given))
  content_in p DbPointer x = weaken w (then_in (text_in_law s (trim 4 13 p)) (λ a q. given))
  content_in p EmbeddedDocument x = given
  content_in p Array x = given
  content_in p Binary x = weaken w (binary_in (bytes s p) p)
  content_in p RegularExpression x = then_in (x refl) (λ a q. given)
  content_in p JavaScriptCodeWithScope x = weaken w (scope_in (bytes s p) p)

  value_by : (e : Element) → (type_of e.tag ≡ gives RegularExpression → RefusesIn ms (pattern_options (bytes s e.value)))
      → RefusesIn ms (value_of s e)
  unfolding value_of value_in
  value_by e x =
      let row : RefusesIn contents (type_of e.tag) = then_in (weaken refl (row_in e.tag)) (λ r q. given) in
      at_in e.place
      (unless_in (leb (past e) (length s)) 9 (one_all_in contents ms 9 w refl)
      (then_in (weaken w row) (λ t q. content_in e.value t (λ j. x (q ∙ ap gives j)))))

-- a value that a step yielded: its pattern and options have been asked
pub yielded_in : (s : List ℕ) (c : Cursor) (e : Element) → FramedAt s c e → RefusesIn contents (value_of s e)
unfolding bytes framed_under regex_size_under
yielded_in s c e y =
    value_by contents refl s e λ q.
    let v = drop e.value.offset s in
    let f : regex_size v ≡ gives e.value.size = sym (sized_by e.tag RegularExpression v q) ∙ y.value_is_law in
    let (r, u, h) = then_gives (pattern_options v) _ f in
    rw (regex_alone v e.value.size f, u) given

-- ---- the lists of numbers, under a limit and under none

module _ (limit : Limit) where
  -- "key, [..] 6; tag, 7; framing": one list for all their tests, though a single test has fewer; "22 in the
  -- place of 5 whenever a limit is set"
  abbrev pub framings : List ℕ
  framings = 6 ∷ 7 ∷ 8 ∷ 9 ∷ 10 ∷ missing limit ∷ []

  -- "admission; [..] 4; [..] key, [..] 6; tag, 7; framing"
  abbrev pub steps : List ℕ
  steps = 1 ∷ 2 ∷ 3 ∷ 4 ∷ framings

  -- a value, of any element: 4 alone is the step's
  abbrev pub values : List ℕ
  values = 11 ∷ 12 ∷ 1 ∷ 2 ∷ 3 ∷ framings

  -- a step and a value, and 16 where there is none
  abbrev pub reads : List ℕ
  reads = 11 ∷ 12 ∷ 16 ∷ steps

  -- "then 17"
  abbrev pub typed_reads : List ℕ
  typed_reads = 17 ∷ reads

  -- a path, with a tag or without: 17 too where a value on the way can't be entered, and 21 where it has too many keys
  abbrev pub paths : List ℕ
  paths = 21 ∷ typed_reads

  -- "numbers 1 to 13 mean damage", and under a limit 22
  abbrev pub damage : List ℕ
  damage = 11 ∷ 12 ∷ 13 ∷ steps

-- each list within the next, with and without a limit
framings_steps : (limit : Limit) → all_in (framings limit) (steps limit) ≡ true
framings_steps unlimited = refl
framings_steps (most m) = refl

steps_reads : (limit : Limit) → all_in (steps limit) (reads limit) ≡ true
steps_reads unlimited = refl
steps_reads (most m) = refl

steps_damage : (limit : Limit) → all_in (steps limit) (damage limit) ≡ true
steps_damage unlimited = refl
steps_damage (most m) = refl

reads_typed : (limit : Limit) → all_in (reads limit) (typed_reads limit) ≡ true
reads_typed unlimited = refl
reads_typed (most m) = refl

reads_paths : (limit : Limit) → all_in (reads limit) (paths limit) ≡ true
reads_paths unlimited = refl
reads_paths (most m) = refl

missing_in : (limit : Limit) → one_of (framings limit) (missing limit) ≡ true
missing_in unlimited = refl
missing_in (most m) = refl

-- ---- the tag asked for, and values on a path's way

pub of_tag_in : {A : Type 0} {ms : List ℕ} (e : Element) (tag : ℕ) (a : A) → one_of ms 17 ≡ true → RefusesIn ms (of_tag e tag a)
of_tag_in e tag a h = at_in e.place (unless_in (eqb e.tag tag) 17 h given)

pub entered_in : {ms : List ℕ} (v : Value) → one_of ms 17 ≡ true → RefusesIn ms (entered v)
entered_in (leaf v) h = by h
entered_in (document p) h = given
entered_in (array p) h = given
entered_in (code_with_scope c p) h = by h

pub moved_in : {ms : List ℕ} (p : ℕ) {x : Answer Found} → RefusesIn ms x → RefusesIn ms (moved p x)
moved_in p given = given
moved_in p (by e) = by e

-- ---- steps and readings

module _ (limit : Limit) where
  cstring_in : (v : List ℕ) → RefusesIn (framings limit) (cstring_under limit v)
  unfolding zero_text cstring_under
  cstring_in v =
      let w = seen limit v in
      unless_in (ltb (first_zero w) (length w)) (missing limit) (missing_in limit) (unless_in (utf8 (take (first_zero w) w)) 6 refl given)

  pattern_in : (v : List ℕ) → RefusesIn (framings limit) (pattern_options_under limit v)
  unfolding pattern_options_under
  pattern_in v = then_in (cstring_in v) (λ p q. then_in (cstring_in (drop (p + 1) v)) (λ o r. given))

  framed_in : (z : Sized) (v : List ℕ) → RefusesIn (framings limit) (framed_under limit z v)
  unfolding framed_under pointer_size document_size binary_size regex_size_under scope_size
  framed_in (fixed n) v = weaken refl (fits_in n v)
  framed_in as_string v = weaken refl (string_in v)
  framed_in as_pointer v = weaken refl (then_in (string_in v) (λ n q. fits_in (n + 12) v))
  framed_in as_document v = weaken refl (then_in (field_in 5 5 v) (λ n q. ended_in n v))
  framed_in as_binary v = weaken refl (then_in (field_in 4 0 v) (λ n q. fits_in (5 + n) v))
  framed_in as_regex v = then_in (pattern_in v) (λ r q. given)
  framed_in as_scope v = weaken refl (then_in (field_in 4 0 v) (λ n q. fits_in n v))

  size_in : (tag : ℕ) (v : List ℕ) → RefusesIn (framings limit) (value_size_under limit tag v)
  unfolding value_size_under
  size_in tag v = then_in (then_in (weaken refl (row_in tag)) (λ r q. given)) (λ z q. framed_in z v)

  pub element_in : (s : List ℕ) (p : ℕ) → RefusesIn (framings limit) (element_under limit s p)
  unfolding element_under
  element_in s p =
      then_in (cstring_in (drop (p + 1) s)) λ k q.
      then_in (size_in (get_or s p 0) (drop (p + 1 + k + 1) s)) (λ n r. given)

  pub step_in : (s : List ℕ) (c : Cursor) → RefusesIn (steps limit) (step_under limit s c)
  unfolding step_under
  step_in s c =
      then_in (weaken refl (admitted_in s)) λ n q.
      cond_in c.ended given
      (at_in c.offset
      (unless_in (leb 4 c.offset && leb c.offset (terminator s)) 4 refl
      (cond_in (eqb c.offset (terminator s)) given
      (then_in (weaken (framings_steps limit) (element_in s c.offset)) (λ e r. given)))))

  stepped_in : (place : ℕ) (x : Step) → RefusesIn (reads limit) (yielded place x)
  stepped_in place (yield e) = given
  stepped_in place end = by refl

  at_place_in : (s : List ℕ) (place : ℕ) → RefusesIn (reads limit) (element_at_under limit s place)
  unfolding element_at_under
  at_place_in s place = then_in (weaken (steps_reads limit) (step_in s (cursor place false))) (λ x q. stepped_in place x)

  value_at_in : (s : List ℕ) (place : ℕ) (e : Element) → element_at_under limit s place ≡ gives e → RefusesIn contents (value_of s e)
  value_at_in s place e q = yielded_in s _ e (step_yields limit s _ e (element_at_says limit s place e q))

  pub read_in : (s : List ℕ) (place : ℕ) → RefusesIn (reads limit) (read_at_under limit s place)
  unfolding read_at_under
  read_in s place = then_in (at_place_in s place) (λ e q. weaken refl (value_at_in s place e q))

  pub read_with_in : (s : List ℕ) (place tag : ℕ) → RefusesIn (typed_reads limit) (read_with_under limit s place tag)
  unfolding read_with_under
  read_with_in s place tag =
      then_in (weaken (reads_typed limit) (at_place_in s place)) λ e q.
      then_in (weaken refl (value_at_in s place e q)) (λ v r. of_tag_in e tag v refl)

  pub get_at_in : (s : List ℕ) (place : ℕ) → RefusesIn (reads limit) (get_at_under limit s place)
  unfolding get_at_under found
  get_at_in s place = then_in (at_place_in s place) λ e q. then_in (weaken refl (value_at_in s place e q)) (λ v r. given)

  -- ---- iteration and lookup

  -- an iteration that is broken by no number but a step's
  abbrev BreaksIn : Iteration → Type 0
  BreaksIn ended = Unit
  BreaksIn (broken n p) = one_of (steps limit) n ≡ true
  BreaksIn (more e rest) = BreaksIn rest

  onward_in : (x : Answer Step) (f : ℕ → Iteration) → RefusesIn (steps limit) x
      → ((e : Element) → x ≡ gives (yield e) → BreaksIn (f (past e)))
      → BreaksIn (onward x f)
  onward_in (gives (yield e)) f h g = g e refl
  onward_in (gives end) f h g = tt
  onward_in (refuses n p) f h g = refused_in h refl

  -- its fuel does not run out
  breaks_for : (n : ℕ) (s : List ℕ) (offset : ℕ) → 0 < n → length s < n + offset → BreaksIn (iterate_for limit n s offset)
  unfolding iterate_for
  breaks_for zero s offset i h = absurd (omega arith)
  breaks_for (suc n) s offset i h =
      onward_in (step_under limit s (cursor offset false)) (iterate_for limit n s) (step_in s (cursor offset false))
      (λ e x. let y = step_yields limit s (cursor offset false) e x in breaks_for n s (past e) (omega arith) (omega arith))

  iterate_in : (s : List ℕ) (offset : ℕ) → BreaksIn (iterate_under limit s offset)
  unfolding iterate_under
  iterate_in s offset = breaks_for (suc (length s)) s offset (omega arith) (omega arith)

  first_in : (s key : List ℕ) (i : Iteration) → BreaksIn i → RefusesIn (reads limit) (first s key i)
  first_in s key ended h = by refl
  first_in s key (broken n p) h = by (one_all_in (steps limit) (reads limit) n (steps_reads limit) h)
  first_in s key (more e rest) h = cond_in (same key (bytes s e.key)) given (first_in s key rest h)

  find_key_in : (s key : List ℕ) → RefusesIn (reads limit) (find_under limit s key)
  unfolding find_under
  find_key_in s key = first_in s key (iterate_under limit s 4) (iterate_in s 4)

  found_in : (s : List ℕ) (c : Cursor) (e : Element) → FramedAt s c e → RefusesIn contents (found s e)
  unfolding found
  found_in s c e y = then_in (yielded_in s c e y) (λ v q. given)

  pub get_in : (s key : List ℕ) → RefusesIn (reads limit) (get_under limit s key)
  unfolding get_under
  get_in s key =
      then_in (find_key_in s key) (λ e q. weaken refl (found_in s _ e (step_yields limit s _ e (find_steps limit s key e q))))

  pub get_with_in : (s key : List ℕ) (tag : ℕ) → RefusesIn (typed_reads limit) (get_with_under limit s key tag)
  unfolding get_with_under
  get_with_in s key tag = then_in (weaken (reads_typed limit) (get_in s key)) (λ f q. of_tag_in f.element tag f refl)

  -- ---- lookup by a path

  look_along_in : (s key : List ℕ) (keys : List (List ℕ)) → RefusesIn (paths limit) (look_along limit s key keys)
  look_along_in s key [] = weaken (reads_paths limit) (get_in s key)
  look_along_in s key (next ∷ keys) =
      then_in (weaken (reads_paths limit) (get_in s key)) λ f q.
      then_in (at_in f.element.place (entered_in f.value refl)) λ p r.
      moved_in p.offset (look_along_in (bytes s p) next keys)

  pub path_in : (s path : List ℕ) → RefusesIn (paths limit) (get_path_under limit s path)
  unfolding get_path_under
  path_in s path = let (key, keys) = keys_of path in unless_in (leb (length keys) 200) 21 refl (look_along_in s key keys)

  pub path_with_in : (s path : List ℕ) (tag : ℕ) → RefusesIn (paths limit) (get_path_with_under limit s path tag)
  unfolding get_path_with_under
  path_with_in s path tag = then_in (path_in s path) (λ f q. of_tag_in f.element tag f refl)

-- ---- a value of any element

-- a value of any element, one that no step gave too
pub value_in_law : (s : List ℕ) (e : Element) → RefusesIn (values unlimited) (value_of s e)
value_in_law s e = value_by (values unlimited) refl s e (λ q. weaken refl (pattern_in unlimited (bytes s e.value)))

-- ---- the whole check

-- "the strict check also asks" by 19
abbrev pub checks : Limit → Bool → List ℕ
checks limit false = damage limit
checks limit true = 19 ∷ damage limit

damage_within : (limit : Limit) (strict : Bool) → all_in (damage limit) (checks limit strict) ≡ true
damage_within unlimited false = refl
damage_within unlimited true = refl
damage_within (most m) false = refl
damage_within (most m) true = refl

-- in a plain check every key passes
key_in_law : {A : Type 0} (limit : Limit) (strict : Bool) (l : Level) (position : ℕ) (key : List ℕ) {x : Answer A}
    → RefusesIn (checks limit strict) x
    → RefusesIn (checks limit strict) (unless (key_passes strict l position key) 19 x)
key_in_law limit false l position key h = h
key_in_law limit true l position key h = unless_in (key_passes true l position key) 19 refl h

module _ (limit : Limit) (strict : Bool) where
  damaged : (n : ℕ) → one_of (damage limit) n ≡ true → one_of (checks limit strict) n ≡ true
  damaged n = one_all_in (damage limit) (checks limit strict) n (damage_within limit strict)

  visit_in : (s : List ℕ) (l : Level) (position : ℕ) (c : Cursor) (e : Element) → FramedAt s c e
      → RefusesIn (checks limit strict) (visit strict s l position e)
  unfolding visit
  visit_in s l position c e y =
      let v : RefusesIn (damage limit) (value_of s e) = weaken refl (yielded_in s c e y) in
      at_in (l.base + e.place)
      (key_in_law limit strict l position (bytes s e.key)
      (then_in (weaken (damage_within limit strict) v) (λ v q. unless_in (leb l.depth 200) 13 (damaged 13 refl) given)))

  module _ (s : List ℕ) (w : Walk) (h : (v : List ℕ) (k : Level) → length v < length s → RefusesIn (checks limit strict) (w v k)) where
    inside_in : (l : Level) (position : ℕ) (c : Cursor) (e : Element) → FramedAt s c e → (o : Opening)
        → visit strict s l position e ≡ gives o
        → RefusesIn (checks limit strict) (inside w s l o)
    inside_in l position c e y closed q = given
    inside_in l position c e y (opens is_array levels p) q =
        let r = visit_says strict s l position e (opens is_array levels p) q in
        let o = value_opens s c e y r.value r.reads is_array levels p r.is in
        h _ _ (omega (arith, opens_shorter s c e y p o))

    opened_in_law : (l : Level) (position : ℕ) (c : Cursor) (e : Element) → FramedAt s c e
        → RefusesIn (checks limit strict) (opened strict w s l position e)
    unfolding opened
    opened_in_law l position c e y = then_in (visit_in s l position c e y) (λ o q. then_in (inside_in l position c e y o q) (λ n r. given))

    along_in : (l : Level) (position offset : ℕ) (i : Iteration) → Each s offset i → BreaksIn limit i
        → RefusesIn (checks limit strict) (along strict w s l position i)
    along_in l position offset ended g b = given
    along_in l position offset (broken n p) g b = by (damaged n (one_all_in (steps limit) (damage limit) n (steps_damage limit) b))
    along_in l position offset (more e rest) g b =
        then_in (opened_in_law l position (cursor offset false) e g.0) λ n q.
        then_in (along_in l (suc position) (past e) rest g.1 b) (λ m r. given)

  -- its fuel does not run out
  walk_for_law : (f : ℕ) (s : List ℕ) (l : Level) → length s < f → RefusesIn (checks limit strict) (walk_for limit f strict s l)
  unfolding walk_for
  walk_for_law zero s l i = absurd (omega arith)
  walk_for_law (suc f) s l i =
      along_in s (walk_for limit f strict) (λ v k j. walk_for_law f v k (omega arith)) l 0 4 (iterate_under limit s 4) (iterate_each limit s 4)
      (iterate_in limit s 4)

  pub check_in : (s : List ℕ) → RefusesIn (checks limit strict) (check_under limit strict s)
  unfolding check_under walk_under
  check_in s = walk_for_law (suc (length s)) s outermost (omega arith)

-- ---- joining

-- joining: damage of the first or the second document, or 14 of neither, at 0
abbrev pub JoinsIn : Outcome → Type 0
JoinsIn (wrote n) = Unit
JoinsIn (refused n p which) = ((one_of (damage unlimited) n ≡ true) × (one_of (1 ∷ 2 ∷ []) which ≡ true)) ⊎ ((n ≡ 14) × (p ≡ 0) × (which ≡ 0))

passing_in : {A : Type 0} (which : ℕ) (x : Answer A) (buffer : List ℕ) (f : A → Joined) → one_of (1 ∷ 2 ∷ []) which ≡ true
    → RefusesIn (damage unlimited) x
    → ((a : A) → JoinsIn (f a).outcome) → JoinsIn (passing which x buffer f).outcome
passing_in which (gives a) buffer f w h g = g a
passing_in which (refuses n p) buffer f w h g = inl (refused_in h refl, w)

room_in : (b : Bool) (size : ℕ) (buffer : List ℕ) (f : ℕ → Joined) → JoinsIn (f size).outcome
    → JoinsIn (passing 0 (unless b 14 (gives size)) buffer f).outcome
room_in true size buffer f g = g
room_in false size buffer f g = inr (refl, refl, refl)

pub join_in : (first second buffer : List ℕ) → JoinsIn (join first second buffer).outcome
unfolding join both_put size_of_both
join_in first second buffer =
    let size = length first + length second - 5 in
    passing_in 1 (check false first) buffer _ refl (check_in unlimited false first) λ a.
    passing_in 2 (check false second) buffer _ refl (check_in unlimited false second) λ b.
    room_in (leb size (room (length buffer))) size buffer _ tt

-- ---- no refusal by 0

-- a refusal by no 0, so that 0 can tell that there is none
abbrev pub NoZero : {A : Type 0} → Answer A → Type 0
NoZero (gives a) = Unit
NoZero (refuses n p) = 0 < n

-- a list without 0
pub one_above : (ms : List ℕ) (n : ℕ) → one_of ms 0 ≡ false → one_of ms n ≡ true → 0 < n
one_above ms zero z h = absurd (true≢false (sym h ∙ z))
one_above ms (suc n) z h = omega arith

pub no_zero : {A : Type 0} {ms : List ℕ} {x : Answer A} → one_of ms 0 ≡ false → RefusesIn ms x → NoZero x
no_zero z given = tt
no_zero {ms = ms} z (by {n = n} h) = one_above ms n z h

-- the same of the numbers under a limit, or none
pub no_zero_under : {A : Type 0} (ms : Limit → List ℕ) (limit : Limit) {x : Answer A} → one_of (ms unlimited) 0 ≡ false
    → ((m : ℕ) → one_of (ms (most m)) 0 ≡ false)
    → RefusesIn (ms limit) x → NoZero x
no_zero_under ms unlimited u v = no_zero u
no_zero_under ms (most m) u v = no_zero (v m)
