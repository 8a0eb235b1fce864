-- Proof that a value is the same by whichever call C has it (RULES.md, "Values" and request 1).
use Prim.Native.Nat.{ℕ}
use mathlib.Core.Path.{◌≡◌, refl, sym, ap, ◌∙◌}
use mathlib.Core.List.{List}
use mathlib.Core.Bool.{false, true≢false}
use native.Mathlib.Omega.{arith}
use borrow.Author.Tests.{ne_eqb}
use Rattle.bson.specs.Answer.{Answer, gives, refuses}
use Rattle.bson.specs.Cstring.{Limit}
use Rattle.bson.specs.Lookup as lookup
use Rattle.bson.specs.Lookup.{Found, get_under, get_with_under, get_at_under}
use Rattle.bson.specs.Path.{get_path_under, get_path_with_under}
use Rattle.bson.specs.Step.{Cursor, cursor, Element, Step, yield, end, step_under, after}
use Rattle.bson.specs.Value.{Value, value_of, element_at_under}
use Rattle.laws.proofs.AlongLaws.{path_finds, path_with_finds}
use Rattle.laws.proofs.LookupLaws.{FoundAt, get_finds, get_with_finds, had_there}
use Rattle.laws.proofs.ReadLaws.{value_refused}
use Rattle.laws.proofs.ReadRefusals.{NoZero, no_zero, value_in_law}
use Rattle.laws.proofs.StepLaws.{step_yields}
use Rattle.c_answers.specs.Numbers.{found, stepped, yielded, step_read}
use Rattle.c_answers.specs.declared.ElementNumbers.{ElementNumbers}
use Rattle.c_answers.specs.declared.ValueNumbers.{ValueNumbers}
use Rattle.c_answers.proofs.ValueTells.{get_looks, get_with_looks, path_looks, path_with_looks}
use Rattle.fringewell.specs.Left.{steps_under, reads_under}
use Rattle.promises.specs.OneValue.{as_step, as_read, read_there, AsThere, OneValue}

module _ (limit : Limit) (s : List ℕ) where
  -- ---- lookups and paths

  -- of an answer that finds at its place
  found_there : (a : Answer Found) → NoZero a → ((f : Found) → a ≡ gives f → FoundAt limit s f) → AsThere limit s a
  found_there (gives f) h k n q z = rw q (sym (ap found (had_there limit s f (k f refl))))
  found_there (refuses number place) h k n q z = let same = ap (λ (m : ValueNumbers). m.number) q in absurd (omega arith)

  -- ---- steps that read

  yielded_step : (e : Element) (a : Answer Value) (d : Cursor) → d.ended ≡ false → ((n p : ℕ) → a ≡ refuses n p → p ≡ e.place)
      → as_step (yielded e a d) ≡ stepped (gives (yield e)) d
  yielded_step e (gives v) d z h = rw z
  yielded_step e (refuses n p) d z h = rw (z, h n p refl)

  steps_by : (c : Cursor) (x : Answer Step) → as_step (step_read s x (after c x)) ≡ stepped x (after c x)
  steps_by c (gives (yield e)) = yielded_step e (value_of s e) (after c (gives (yield e))) refl (value_refused s e)
  steps_by c (gives end) = refl
  steps_by c (refuses number place) = refl

  next_step : (c : Cursor) (n : ElementNumbers) → n ≡ reads_under limit s c → as_step n ≡ steps_under limit s c
  next_step c n q = rw q (steps_by c (step_under limit s c))

  -- where a step yields an element, that is the one at its place
  element_there : (c : Cursor) (e : Element) → step_under limit s c ≡ gives (yield e) → get_at_under limit s e.place ≡ lookup.found s e
  unfolding get_at_under element_at_under
  element_there c e x =
      let y = step_yields limit s c e x in
      let i : cursor e.place false ≡ c = ap (λ (p : ℕ). cursor p false) y.placed ∙ ap (cursor c.offset) (sym y.going) in
      rw (ap (step_under limit s) i ∙ x)

  value_there : (e : Element) (a : Answer Value) (d : Cursor) → value_of s e ≡ a → NoZero a
      → found (lookup.found s e) ≡ as_read (yielded e a d).value
  unfolding lookup.found
  value_there e (gives v) d q h = rw q
  value_there e (refuses n p) d q h = rw (q, ne_eqb n 0 (λ z. omega arith))

  place_there : (e : Element) (a : Answer Value) (d : Cursor) → ((n p : ℕ) → a ≡ refuses n p → p ≡ e.place)
      → (yielded e a d).value.place ≡ e.place
  place_there e (gives v) d h = refl
  place_there e (refuses n p) d h = h n p refl

  reads_by : (c : Cursor) (x : Answer Step) → step_under limit s c ≡ x → (step_read s x (after c x)).ended ≡ false
      → read_there limit s (step_read s x (after c x)).value.place ≡ as_read (step_read s x (after c x)).value
  reads_by c (gives (yield e)) x z =
      let d = after c (gives (yield e)) in
      ap (read_there limit s) (place_there e (value_of s e) d (value_refused s e))
      ∙ ap found (element_there c e x)
      ∙ value_there e (value_of s e) d refl (no_zero refl (value_in_law s e))
  reads_by c (gives end) x z = absurd (true≢false z)
  reads_by c (refuses number place) x z = absurd (true≢false z)

  next_reads : (c : Cursor) (n : ElementNumbers) → n ≡ reads_under limit s c → n.ended ≡ false
      → read_there limit s n.value.place ≡ as_read n.value
  next_reads c n q = rw q (reads_by c (step_under limit s c) refl)

  pub one_value : OneValue limit s
  one_value =
      record {
        lookup = λ key. found_there (get_under limit s key) (get_looks limit s key).numbered (get_finds limit s key);
        typed = λ key tag.
            found_there (get_with_under limit s key tag) (get_with_looks limit s key tag).numbered (get_with_finds limit s key tag);
        path = λ path. found_there (get_path_under limit s path) (path_looks limit s path).numbered (path_finds limit s path);
        typed_path = λ path tag.
            found_there (get_path_with_under limit s path tag) (path_with_looks limit s path tag).numbered (path_with_finds limit s path tag);
        step = next_step;
        reads = next_reads;
      }
