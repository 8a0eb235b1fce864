-- The element lines go from step to step: what each answer of the step at an offset means for the lines from there (RULES.md, "Bytes to
-- try").
use Prim.Native.Nat.{ℕ, ◌≤◌, ◌<◌}
use mathlib.Core.Path.{◌≡◌, refl, ap, sym, ◌∙◌}
use mathlib.Core.List.{List, [], ◌∷◌}
use mathlib.Core.Bool.{false}
use native.Mathlib.Omega.{arith}
use lib.ListN.{length}
use borrow.Author.Tests.{le-leb, lt-leb}
use Rattle.bson.specs.Answer.{Answer, gives, refuses}
use Rattle.bson.specs.Output.{Output, output, put_text, put_texts}
use Rattle.bson.specs.Step.{cursor, Element, past, yield, end, step, Iteration, onward, iterate}
use Rattle.bson.specs.Check.{check}
use Rattle.bson.specs.Report.{header, element_line, verdict_line, element_lines, report_lines}
use Rattle.laws.proofs.StepLaws.{iterate_eq}
use Rattle.laws.proofs.OutputLaws.{texts_append, texts_within}

-- the lines from an offset on
abbrev pub lines_from : Output → List ℕ → ℕ → Output
lines_from o s offset = put_texts o (element_lines (iterate s offset))

module _ (o : Output) (s : List ℕ) (offset : ℕ) where
  stepped : lines_from o s offset ≡ put_texts o (element_lines (onward (step s (cursor offset false)) (iterate s)))
  stepped = ap (λ (i : Iteration). put_texts o (element_lines i)) (iterate_eq _ s offset)

  pub lines_end : step s (cursor offset false) ≡ gives end → lines_from o s offset ≡ o
  lines_end e = stepped ∙ rw e

  pub lines_refused : (n p : ℕ) → step s (cursor offset false) ≡ refuses n p → lines_from o s offset ≡ o
  lines_refused n p e = stepped ∙ rw e

  pub lines_onward : (e : Element) → step s (cursor offset false) ≡ gives (yield e)
      → lines_from o s offset ≡ lines_from (put_text o (element_line e)) s (past e)
  lines_onward e y = stepped ∙ rw y

-- the report as the code puts it: header, element lines, verdict; or header and 20
module _ (s : List ℕ) (o q : Output) where
  pub report_put : (p : Output) (v : Answer ℕ) → length s ≤ 65535 → p ≡ lines_from (put_text o header) s 4 → v ≡ check false s
      → q ≡ put_text p (verdict_line v) → q ≡ put_texts o (report_lines s)
  unfolding report_lines
  report_put p v h e c f =
      rw (le-leb (length s) 65535 h, ← c)
      (f ∙ ap (λ (x : Output). put_text x (verdict_line v)) e
      ∙ sym (texts_append (put_text o header) (element_lines (iterate s 4)) (verdict_line v ∷ [])))

  pub report_long : 65535 < length s → q ≡ put_text (put_text o header) (verdict_line (refuses 20 0)) → q ≡ put_texts o (report_lines s)
  unfolding report_lines
  report_long h f = rw (lt-leb (length s) 65535 h) f

-- it ends within the buffer
pub report_within : (buffer s exit : List ℕ) (r : ℕ) → output exit r ≡ put_texts (output buffer 0) (report_lines s) → r ≤ length exit
report_within buffer s exit r e =
    let w = texts_within (length buffer) (output buffer 0) (report_lines s) (omega arith, refl) in
    let u : r ≤ length buffer = (rw (← ap (λ (o : Output). o.used) e) at w).0 in
    let b : length exit ≡ length buffer = (rw (← ap (λ (o : Output). o.buffer) e) at w).1 in
    omega arith
