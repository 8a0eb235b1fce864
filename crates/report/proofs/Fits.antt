-- 524,288 bytes hold every report: what the check program writes is the definition's report, whole (RULES.md, "Bytes to try").
use Prim.Native.Nat.{ℕ, ◌+◌, ◌-◌, ◌*◌, ◌^◌, ◌≤◌, ◌<◌}
use mathlib.Core.Path.{◌≡◌, refl, ap, ◌∙◌}
use mathlib.Core.List.{List, [], ◌∷◌, ◌++◌}
use mathlib.Core.Bool.{false}
use native.Mathlib.Nat.{zero-add}
use native.Mathlib.Omega.{arith}
use lib.Dec.{leb}
use lib.ListN.{length, take, drop, length-append}
use lib.Seq.{take_at}
use borrow.Author.Tests.{leb-true}
use Rattle.bson.specs.Answer.{gives, refuses}
use Rattle.bson.specs.Output.{Output, output, put, put_texts, joined}
use Rattle.bson.specs.Step.{Cursor, Element, past, Iteration, ended, broken, more, iterate}
use Rattle.bson.specs.Check.{check}
use Rattle.bson.specs.Report.{header, element_line, verdict_line, element_lines, report_lines, report}
use Rattle.laws.proofs.Common.{split}
use Rattle.laws.specs.FramedAt.{FramedAt}
use Rattle.laws.proofs.StepLaws.{Each, iterate_each}
use Rattle.laws.proofs.OutputLaws.{texts_fit}
use Rattle.laws.proofs.DecimalLaws.{width_within, width_small}
use Rattle.refusal.specs.Said.{number}
use Rattle.refusal.specs.declared.Refusal.{Refusal}
use Rattle.refusal.specs.declared.Refusal.TheVariants as is
use Rattle.report.proofs.Lines.{accepted_size, refused_size, element_size}

-- the line of a verdict whose numbers the machine holds
pub accepted_short : (count : ℕ) → count < 2 ^ 64 → length (verdict_line (gives count)) ≤ 50
accepted_short count h = omega (arith, accepted_size count _ refl, width_small count h)

pub refused_short : (number place : ℕ) → number < 2 ^ 64 → place < 2 ^ 64 → length (verdict_line (refuses number place)) ≤ 50
refused_short number place h g = omega (arith, refused_size number place _ _ refl refl, width_small number h, width_small place g)

-- the numbers of refusals are small
pub number_small : (why : Refusal) → number why < 256
number_small is.TooShort = omega arith
number_small is.LengthDiffers = omega arith
number_small is.NoTerminator = omega arith
number_small is.StepOutside = omega arith
number_small is.NoZero = omega arith
number_small is.NotUtf8 = omega arith
number_small is.UnknownTag = omega arith
number_small is.BadLength = omega arith
number_small is.PastTheSlice = omega arith
number_small is.NotEnded = omega arith
number_small is.BadBoolean = omega arith
number_small is.BadShape = omega arith
number_small is.TooDeep = omega arith
number_small is.NoRoom = omega arith
number_small is.BadText = omega arith
number_small is.Absent = omega arith
number_small is.OtherType = omega arith
number_small is.OutOfTurn = omega arith
number_small is.BadArrayKey = omega arith
number_small is.InputTooLong = omega arith
number_small is.PathTooLong = omega arith
number_small is.TooLong = omega arith

-- place and size have five digits at the most
element_short : (s : List ℕ) (c : Cursor) (e : Element) → FramedAt s c e → length s ≤ 65535 → length (element_line e) ≤ 15
element_short s c e y h =
    let p : e.place < 10 ^ 5 = omega arith in
    let n : e.value.size < 10 ^ 5 = omega arith in
    omega (arith, element_size e _ _ refl refl, width_within 4 e.place p, width_within 4 e.value.size n)

-- an element has two bytes or more, and its line 15 or fewer
lines_short : (s : List ℕ) (offset : ℕ) (i : Iteration) → Each s offset i → length s ≤ 65535
    → 2 * length (joined (element_lines i)) ≤ 15 * (length s - offset)
lines_short s offset ended g h = omega arith
lines_short s offset (broken n p) g h = omega arith
lines_short s offset (more e rest) g h =
    let y = g.0 in
    omega (arith, lines_short s (past e) rest g.1 h, element_short s _ e y h, length-append (element_line e) (joined (element_lines rest)))

-- the verdict behind the element lines
length_behind : (lines : List (List ℕ)) (line : List ℕ) → length (joined (lines ++ (line ∷ []))) ≡ length (joined lines) + length line
length_behind [] line = omega (arith, length-append line [])
length_behind (l ∷ ls) line =
    let a = length-append l (joined (ls ++ (line ∷ []))) in
    let b = length-append l (joined ls) in
    omega (arith, length_behind ls line)

-- the verdict is one that the check program has, so its line is short where the slice is not too long
module _ (s : List ℕ) (short : length s ≤ 65535 → length (verdict_line (check false s)) ≤ 50) where
  report_short : length (joined (report_lines s)) ≤ 524288
  unfolding report_lines header
  report_short =
      split (leb (length s) 65535)
      (λ t. let l = leb-true (length s) 65535 t in
      let n = lines_short s 4 (iterate s 4) (iterate_each _ s 4) l in
      rw t (omega (arith, length_behind (element_lines (iterate s 4)) (verdict_line (check false s)), short l)))
      (λ t. rw t (omega (arith, length-append (verdict_line (refuses 20 0)) [], refused_short 20 0 (omega arith) (omega arith))))

  -- what `put_report` leaves in such a buffer, by its promise
  pub report_printed : (buffer exit : List ℕ) (r : ℕ) → output exit r ≡ put_texts (output buffer 0) (report_lines s)
      → 524288 ≤ length buffer → take r exit ≡ report s
  unfolding put report
  report_printed buffer exit r e room =
      let t = joined (report_lines s) in
      let f = e ∙ texts_fit (output buffer 0) (report_lines s) (omega (arith, report_short))
      ∙ ap (output (put buffer 0 t)) (zero-add (length t)) in
      rw (ap (λ (o : Output). o.used) f, ap (λ (o : Output). o.buffer) f) (take_at t (drop (0 + length t) buffer) (length t) refl)
