-- The bytes of an element, wherever they lie in an admitted slice, are what the step there yields (BSON 1.1, `element`; RULES.md,
-- "Admission and one step").
use Prim.Native.Nat.{ℕ, ◌+◌, ◌-◌, ◌≤◌}
use mathlib.Core.Path.{◌≡◌, refl, sym, ap, ◌∙◌}
use mathlib.Core.List.{List, [], ◌∷◌, ◌++◌, append_assoc}
use mathlib.Core.Bool.{true, false}
use native.Mathlib.Nat.{add-zero}
use native.Mathlib.Omega.{arith}
use lib.ListN.{length, get_or, drop, length-append, length-drop}
use lib.Seq.{get_or-drop}
use borrow.Author.Tests.{le-leb, ne_eqb}
use Rattle.bson.specs.Answer.{gives}
use Rattle.bson.specs.Bytes.{part}
use Rattle.bson.specs.Cstring.{valid_cstr, unlimited}
use Rattle.bson.specs.Framing.{value_size}
use Rattle.bson.specs.Step.{terminator, admitted, cursor, Element, past, element, yield, step, element_under}
use Rattle.bson.specs.Value.{Value, value_in, value_of, element_at_under, read_at_under}
use Rattle.bson.specs.Grammar.{element_bytes}
use Rattle.bson.specs.Meaning.{Holding, holding, Yields}
use Rattle.laws.proofs.AdvanceLaws.{step_inside}
use Rattle.laws.proofs.GrammarLaws.{length_element, cstring_of}
use Rattle.theorems.proofs.Grammar.ItemReads.{bytes_here, drop_behind}

-- ---- an element at an offset

-- the element of this tag, key and value at an offset
abbrev pub element_here : ℕ → ℕ → List ℕ → List ℕ → Element
element_here offset tag key value =
    record { place = offset; tag = tag; key = part (offset + 1) (length key); value = part (offset + 1 + length key + 1) (length value) }

module _ (s : List ℕ) (offset tag : ℕ) (key value back : List ℕ) (here : drop offset s ≡ element_bytes tag key value ++ back) where
  here_parts : drop offset s ≡ tag ∷ (key ++ (0 ∷ (value ++ back)))
  unfolding element_bytes
  here_parts = here ∙ ap (λ (l : List ℕ). tag ∷ l) (append_assoc key (0 ∷ value) back)

  -- ---- what a step answers there

  -- where it ends in the slice
  pub element_fits : offset + 2 + length key + length value + length back ≡ length s
  element_fits =
      let l : length s - offset ≡ length (element_bytes tag key value) + length back =
      sym (length-drop offset s) ∙ ap length here ∙ length-append (element_bytes tag key value) back in
      omega (arith, length_element tag key value)

  tag_here : get_or s offset 0 ≡ tag
  tag_here =
      ap (λ (i : ℕ). get_or s i 0) (sym (add-zero offset)) ∙ sym (get_or-drop offset s 0 0) ∙ ap (λ (l : List ℕ). get_or l 0 0) here_parts

  key_here : drop (offset + 1) s ≡ key ++ (0 ∷ (value ++ back))
  key_here = drop_behind s offset (tag ∷ []) _ here_parts (offset + 1) refl

  pub value_here : drop (offset + 1 + length key + 1) s ≡ value ++ back
  value_here =
      let zero = drop_behind s (offset + 1) key _ key_here (offset + 1 + length key) refl in
      drop_behind s (offset + 1 + length key) (0 ∷ []) _ zero (offset + 1 + length key + 1) refl

  -- the next step begins behind it
  pub next_here : drop (past (element_here offset tag key value)) s ≡ back
  next_here = drop_behind s (offset + 1 + length key + 1) value back value_here _ refl

  module _ (valid : valid_cstr key ≡ true) (sized : value_size tag (value ++ back) ≡ gives (length value)) where
    element_here_law : element s offset ≡ gives (element_here offset tag key value)
    unfolding element_under
    element_here_law = rw (key_here, cstring_of key (value ++ back) valid, tag_here, value_here, sized)

    module _ (admits : admitted s ≡ gives (length s)) (low : 4 ≤ offset) (more : 1 ≤ length back) where
      step_here : step s (cursor offset false) ≡ gives (yield (element_here offset tag key value))
      step_here =
          let f = element_fits in
          let l : offset ≤ terminator s = omega arith in
          let n : offset ≡ terminator s → ⊥ = λ e. omega arith in
          step_inside unlimited s (length s) admits offset (rw (le-leb _ _ low, le-leb _ _ l)) (ne_eqb _ _ n) ∙ rw element_here_law

      pub yields_here : (v : Value) (h : Holding) → value_in s tag (part (offset + 1 + length key + 1) (length value)) ≡ gives v
          → holding s v ≡ h
          → Yields s offset key tag h (element_here offset tag key value)
      unfolding read_at_under element_at_under value_of
      yields_here v h e k =
          record {
            steps = step_here;
            keyed = bytes_here s (offset + 1) key _ key_here (length key) refl;
            tagged = refl;
            value = v;
            reads = rw (step_here, e);
            holds = k;
          }
