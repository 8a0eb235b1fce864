-- What the front of a slice frames, the slice frames: no answer that is given depends on the bytes behind it (RULES.md, "Admission and one
-- step").
use Prim.Native.Nat.{ℕ, ◌+◌, ◌-◌, ◌≤◌, ◌<◌}
use mathlib.Core.Path.{◌≡◌, sym, ap, ◌∙◌}
use mathlib.Core.List.{List, ◌∷◌, ◌++◌, append_assoc}
use native.Mathlib.Omega.{arith}
use lib.ListN.{length, get_or, take, drop, take-append-drop}
use lib.Seq.{length-take-le, get_or-take}
use Rattle.bson.specs.Answer.{gives}
use Rattle.bson.specs.Bytes.{Part}
use Rattle.bson.specs.Cstring.{Limit, unlimited, most, cstring_under, cstring}
use Rattle.bson.specs.Tags.{Sized, fixed, as_string, as_pointer, as_document, as_binary, as_regex, as_scope, sized_of}
use Rattle.bson.specs.Framing.{length_field, fits, zero_ended, string_size, pointer_size, document_size, binary_size, scope_size}
use Rattle.bson.specs.Framing.{pattern_options, regex_size, pattern_options_under, regex_size_under, framed_under, value_size_under}
use Rattle.laws.proofs.AnswerLaws.{then_gives, then_from}
use Rattle.laws.proofs.CstringLaws.{cut_short, cstring_below, cstring_valid, cstring_splits, cstring_under_law, cstring_most}
use Rattle.laws.proofs.CstringLaws.{cstring_kept}
use Rattle.laws.proofs.FramingLaws.{length_field_is, fits_is, zero_ended_is, pattern_options_under_law, pattern_options_most}
use Rattle.laws.proofs.FramingLaws.{pattern_options_kept}
use Rattle.laws.proofs.GrammarBack.{regex_back}
use Rattle.laws.proofs.GrammarLaws.{cstring_of, pattern_options_of, length_field_of, fits_of, zero_ended_of}
use Rattle.laws.proofs.OpenLaws.{le32_take}

module _ (n : ℕ) (v : List ℕ) where
  -- ---- zero-ended texts

  cstring_front : (k : ℕ) → cstring (take n v) ≡ gives k → cstring v ≡ gives k
  cstring_front k e =
      let f = take n v in
      let key = take k f in
      let behind = drop (k + 1) f in
      let l : length key ≡ k = length-take-le k f (omega (arith, cstring_below f k e)) in
      let all : v ≡ key ++ (0 ∷ behind ++ drop n v) =
      sym (take-append-drop n v) ∙ ap (λ (x : List ℕ). x ++ drop n v) (cstring_splits f k e) ∙ append_assoc key (0 ∷ behind) (drop n v) in
      ap cstring all ∙ cstring_of key (behind ++ drop n v) (cstring_valid f k e) ∙ ap gives l

  pub cstring_under_front : (limit : Limit) (k : ℕ) → cstring_under limit (take n v) ≡ gives k → cstring_under limit v ≡ gives k
  cstring_under_front unlimited k e = cstring_front k e
  cstring_under_front (most m) k e =
      cstring_kept m v k (cstring_front k (cstring_under_law (most m) (take n v) k e)) (cstring_most m (take n v) k e)

  regex_front : (k : ℕ) → regex_size (take n v) ≡ gives k → pattern_options v ≡ pattern_options (take n v)
  regex_front k e =
      let r = regex_back (take n v) k e in
      let p = r.pattern in
      let o = r.options in
      let front : take n v ≡ p ++ (0 ∷ (o ++ (0 ∷ r.behind))) = r.is ∙ simp append_assoc in
      let all : v ≡ p ++ (0 ∷ (o ++ (0 ∷ (r.behind ++ drop n v)))) =
      sym (take-append-drop n v) ∙ ap (λ (x : List ℕ). x ++ drop n v) front ∙ simp append_assoc in
      ap pattern_options all ∙ pattern_options_of p o _ r.pattern_valid r.options_valid
      ∙ sym (ap pattern_options front ∙ pattern_options_of p o _ r.pattern_valid r.options_valid)

  pattern_options_front : (limit : Limit) (r : Part × Part) (k : ℕ) → regex_size_under limit (take n v) ≡ gives k
      → pattern_options_under limit (take n v) ≡ gives r → pattern_options_under limit v ≡ gives r
  unfolding regex_size_under
  pattern_options_front unlimited r k e q = regex_front k e ∙ q
  pattern_options_front (most m) r k e q =
      let u = pattern_options_under_law (most m) (take n v) r q in
      let (i, j) = pattern_options_most m (take n v) r q in
      let (d, x, h) = then_gives (pattern_options_under (most m) (take n v)) _ e in
      let f = then_from (pattern_options (take n v)) _ (pattern_options_under_law (most m) (take n v) d x) ∙ h in
      pattern_options_kept m v r (regex_front k f ∙ u) i j

  -- ---- lengths and sizes

  field_front : (present least k : ℕ) → 4 ≤ present → length_field present least (take n v) ≡ gives k → length_field present least v ≡ gives k
  field_front present least k l e =
      let (i, j, h, size) = length_field_is present least (take n v) k e in
      let c = cut_short n v in
      length_field_of v present least k (sym (le32_take n v (omega arith)) ∙ size) (omega arith) j h

  fits_front : (size k : ℕ) → fits size (take n v) ≡ gives k → fits size v ≡ gives k
  fits_front size k e =
      let (i, j) = fits_is size (take n v) k e in
      fits_of v size (omega (arith, cut_short n v)) ∙ ap gives (sym i)

  ended_front : (size k : ℕ) → 0 < size → zero_ended size (take n v) ≡ gives k → zero_ended size v ≡ gives k
  ended_front size k l e =
      let (i, j, z) = zero_ended_is size (take n v) k e in
      let c = cut_short n v in
      let d : get_or v (k - 1) 0 ≡ 0 = sym (get_or-take n v (k - 1) 0 (omega arith)) ∙ z in
      zero_ended_of v size (omega arith) (rw i at d) ∙ ap gives (sym i)

  string_front : (k : ℕ) → string_size (take n v) ≡ gives k → string_size v ≡ gives k
  unfolding string_size
  string_front k e =
      let (m, q, h) = then_gives (length_field 4 1 (take n v)) _ e in
      rw (field_front 4 1 m (omega arith) q) (ended_front (4 + m) k (omega arith) h)

  -- ---- any type

  framed_front : (limit : Limit) (z : Sized) (k : ℕ) → framed_under limit z (take n v) ≡ gives k → framed_under limit z v ≡ gives k
  unfolding framed_under pointer_size document_size binary_size scope_size regex_size_under
  framed_front limit (fixed m) k e = fits_front m k e
  framed_front limit as_string k e = string_front k e
  framed_front limit as_pointer k e =
      let (m, q, h) = then_gives (string_size (take n v)) _ e in
      rw (string_front m q) (fits_front (m + 12) k h)
  framed_front limit as_document k e =
      let (m, q, h) = then_gives (length_field 5 5 (take n v)) _ e in
      rw (field_front 5 5 m (omega arith) q) (ended_front m k (omega (arith, length_field_is 5 5 (take n v) m q)) h)
  framed_front limit as_binary k e =
      let (m, q, h) = then_gives (length_field 4 0 (take n v)) _ e in
      rw (field_front 4 0 m (omega arith) q) (fits_front (5 + m) k h)
  framed_front limit as_regex k e =
      let (r, q, h) = then_gives (pattern_options_under limit (take n v)) _ e in
      rw (pattern_options_front limit r k e q) h
  framed_front limit as_scope k e =
      let (m, q, h) = then_gives (length_field 4 0 (take n v)) _ e in
      rw (field_front 4 0 m (omega arith) q) (fits_front m k h)

  pub value_size_front : (limit : Limit) (tag k : ℕ) → value_size_under limit tag (take n v) ≡ gives k → value_size_under limit tag v ≡ gives k
  unfolding value_size_under
  value_size_front limit tag k e =
      let (z, q, h) = then_gives (sized_of tag) _ e in
      rw q (framed_front limit z k h)
