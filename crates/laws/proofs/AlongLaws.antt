-- What a path finds is found in the slice given, at its place there (RULES.md, request 1).
use Prim.Native.Nat.{ℕ, ◌+◌, ◌≤◌}
use mathlib.Core.Path.{◌≡◌, refl, ap, subst, ◌∙◌}
use mathlib.Core.List.{List, [], ◌∷◌}
use mathlib.Core.Bool.{false}
use lib.Dec.{leb}
use borrow.Author.Tests.{le-leb}
use lib.ListN.{length}
use Rattle.bson.specs.Answer.{Answer, gives, refuses, then, at}
use Rattle.bson.specs.Bytes.{le64, i32, i64, Part, part, bytes, trim}
use Rattle.bson.specs.Cstring.{Limit}
use Rattle.bson.specs.Step.{admitted, cursor}
use Rattle.bson.specs.Tags
use Rattle.bson.specs.Framing.{in_front, pattern_options}
use Rattle.bson.specs.Value.{Leaf, Value, leaf, document, array, code_with_scope, as_leaf, bool, timestamp_of, text, content, value_in, parts_of}
use Rattle.bson.specs.Lookup.{Found, found, get_under}
use Rattle.bson.specs.Path.{keys_of, moved_element, moved_value, moved, entered, look_along, get_path_under, get_path_with_under}
use Rattle.laws.proofs.AnswerLaws.{never, gives_injective, unless_gives, then_gives, at_gives}
use Rattle.laws.proofs.BytesLaws.{bytes_length}
use Rattle.laws.proofs.StepLaws.{step_yields, step_admits}
use Rattle.laws.proofs.OpenLaws.{leaf_case, as_leaf_case, binary_case, scope_says}
use Rattle.laws.proofs.TagLaws.{tag_for, type_tag}
use Rattle.laws.proofs.PartLaws.{PartEnds, BothEnd}
use Rattle.laws.proofs.LookupLaws.{FoundAt, found_at, get_finds, get_inside}
use Rattle.laws.proofs.MovedLaws.{found_moved, step_moved}
use Rattle.laws.proofs.PathLaws.{path_with_says}
use Tags.{ElementType, Boolean, Int32, Double, Int64, DateTime, Timestamp, ObjectId, Decimal128, Null, Undefined, MinKey, MaxKey, String}
use Tags.{JavaScriptCode, Symbol, DbPointer, EmbeddedDocument, Array, Binary, RegularExpression, JavaScriptCodeWithScope, tags, row_of}
use Tags.{type_of}

-- ---- what is entered

-- it is one of the parts of the value
pub entered_ends : (n : ℕ) (v : Value) (p : Part) → BothEnd n v → entered v ≡ gives p → PartEnds n p
unfolding parts_of
entered_ends n (document q) p b e = subst (PartEnds n) (gives_injective e) b.0
entered_ends n (array q) p b e = subst (PartEnds n) (gives_injective e) b.0
entered_ends n (leaf v) p b e = never e
entered_ends n (code_with_scope c q) p b e = never e

-- documents and arrays, which framing has told, are entered as they lie
module _ (s : List ℕ) (p : Part) (h : PartEnds (length s) p) where
  pub document_entered : then (value_in s 0x03 p) entered ≡ gives p
  unfolding value_in row_of tags content
  document_entered = rw (le-leb _ _ h)

  pub array_entered : then (value_in s 0x04 p) entered ≡ gives p
  unfolding value_in row_of tags content
  array_entered = rw (le-leb _ _ h)

-- and nothing else is
abbrev Stops : Value → Type 0
Stops v = entered v ≡ refuses 17 0

module _ (s : List ℕ) (p : Part) (v : Value) where
  number_stops : {A : Type 0} (f : A → Leaf) (a : Answer A) → as_leaf f a ≡ gives v → Stops v
  number_stops f a e = as_leaf_case Stops (λ x. refl) v f a e

  known_stops : {x : Leaf} → gives (leaf x) ≡ gives v → Stops v
  known_stops e = leaf_case Stops (λ x. refl) v e

  content_stops : (t : ElementType) → (tag_for t ≡ 0x03 → ⊥) → (tag_for t ≡ 0x04 → ⊥) → content s p t ≡ gives v → Stops v
  unfolding content
  content_stops Boolean d a e = number_stops _ (bool (bytes s p)) e
  content_stops Int32 d a e = number_stops _ (in_front 4 i32 (bytes s p)) e
  content_stops Double d a e = number_stops _ (in_front 8 le64 (bytes s p)) e
  content_stops Int64 d a e = number_stops _ (in_front 8 i64 (bytes s p)) e
  content_stops DateTime d a e = number_stops _ (in_front 8 i64 (bytes s p)) e
  content_stops Timestamp d a e = number_stops _ (timestamp_of (bytes s p)) e
  content_stops ObjectId d a e = known_stops e
  content_stops Decimal128 d a e = known_stops e
  content_stops Null d a e = known_stops e
  content_stops Undefined d a e = known_stops e
  content_stops MinKey d a e = known_stops e
  content_stops MaxKey d a e = known_stops e
  content_stops String d a e = number_stops _ (text s (trim 4 1 p)) e
  content_stops JavaScriptCode d a e = number_stops _ (text s (trim 4 1 p)) e
  content_stops Symbol d a e = number_stops _ (text s (trim 4 1 p)) e
  content_stops DbPointer d a e = number_stops _ (text s (trim 4 13 p)) e
  content_stops EmbeddedDocument d a e = absurd (d refl)
  content_stops Array d a e = absurd (a refl)
  content_stops Binary d a e = binary_case Stops (λ x. refl) v (bytes s p) p e
  content_stops RegularExpression d a e = let (r, q, g) = then_gives (pattern_options (bytes s p)) _ e in known_stops g
  content_stops JavaScriptCodeWithScope d a e = subst Stops (scope_says (bytes s p) p v e).is refl

  pub other_stops : (tag : ℕ) → (tag ≡ 0x03 → ⊥) → (tag ≡ 0x04 → ⊥) → value_in s tag p ≡ gives v → Stops v
  unfolding value_in
  other_stops tag d a x =
      let (u, x1) = unless_gives (leb (p.offset + p.size) (length s)) 9 _ x in
      let (t, q, h) = then_gives (type_of tag) _ x1 in
      let i = type_tag tag t q in
      content_stops t (λ e. d (i ∙ e)) (λ e. a (i ∙ e)) h

-- a part that ends in a slice lies there, with as many bytes as it has
module _ (w : List ℕ) (p : Part) (h : PartEnds (length w) p) where
  pub part_held : bytes w (part p.offset (length (bytes w p))) ≡ bytes w p
  part_held = rw (bytes_length w p h)

  pub part_fits : p.offset + length (bytes w p) ≤ length w
  part_fits = rw (bytes_length w p h) h

-- ---- what is found inside

abbrev moved_found : ℕ → Found → Found
moved_found by f = record { element = moved_element by f.element; value = moved_value by f.value }

moved_gives : (by : ℕ) (a : Answer Found) (f : Found) → moved by a ≡ gives f → (d : Found) × (a ≡ gives d) × (moved_found by d ≡ f)
moved_gives by (gives d) f e = (d, refl, gives_injective e)
moved_gives by (refuses n p) f e = never e

module _ (limit : Limit) where
  -- what is found in a part is found in the slice
  moved_finds : (w : List ℕ) (p : Part) (f : Found) → admitted w ≡ gives (length w) → PartEnds (length w) p → FoundAt limit (bytes w p) f
      → FoundAt limit w (moved_found p.offset f)
  unfolding found
  moved_finds w p f a h x =
      let e = f.element in
      let s = bytes w p in
      let held = part_held w p h in
      let fits = part_fits w p h in
      let steps = step_moved w s p.offset held fits limit (cursor e.place false) e x.steps a in
      let y = step_yields limit s (cursor e.place false) e x.steps in
      let reads : found s e ≡ gives f = rw x.reads in
      let same = found_moved w s p.offset held fits (cursor e.place false) e y in
      (found_at limit w (moved_element p.offset e) _ steps (same ∙ ap (moved p.offset) reads)).1

  along_finds : (s key : List ℕ) (keys : List (List ℕ)) (f : Found) → look_along limit s key keys ≡ gives f → FoundAt limit s f
  along_finds s key [] f x = get_finds limit s key f x
  along_finds s key (next ∷ keys) f x =
      let (g, q, h) = then_gives (get_under limit s key) _ x in
      let (p, r, m) = then_gives (at g.element.place (entered g.value)) _ h in
      let (d, y, i) = moved_gives p.offset (look_along limit (bytes s p) next keys) f m in
      let ends = entered_ends (length s) g.value p (get_inside limit s key g q).1 (at_gives g.element.place _ r) in
      let a = step_admits limit s _ _ (get_finds limit s key g q).steps in
      subst (FoundAt limit s) i (moved_finds s p d a ends (along_finds (bytes s p) next keys d y))

  pub path_finds : (s path : List ℕ) (f : Found) → get_path_under limit s path ≡ gives f → FoundAt limit s f
  unfolding get_path_under
  path_finds s path f x =
      let k = keys_of path in
      along_finds s k.0 k.1 f (unless_gives (leb (length k.1) 200) 21 _ x).1

  pub path_with_finds : (s path : List ℕ) (tag : ℕ) (f : Found) → get_path_with_under limit s path tag ≡ gives f → FoundAt limit s f
  path_with_finds s path tag f x = path_finds s path f (path_with_says limit s path tag f x).0
