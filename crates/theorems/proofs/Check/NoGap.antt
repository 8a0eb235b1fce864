-- The elements that steps yield lie one behind the other, their lengths add up, their bytes are the slice's from offset 4 on, and 4 is met
-- exactly where they reach past the terminator (RULES.md, request 13).
use Prim.Native.Nat.{ℕ, zero, suc, ◌+◌, ◌≤◌, ◌<◌}
use mathlib.Core.Path.{◌≡◌, refl, sym, subst, ◌∙◌}
use mathlib.Core.List.{List}
use mathlib.Core.Bool.{true, false, true≢false}
use mathlib.Core.Logic.{◌↔◌}
use native.Mathlib.Omega.{arith}
use lib.ListN.{length, drop}
use lib.Dec.{leb, eqb}
use borrow.Author.Tests.{le-leb, lt-leb, leb-false, eqb-true}
use Rattle.bson.specs.Answer.{Answer, gives, refuses, at}
use Rattle.bson.specs.Bytes.{le32, part, bytes}
use Rattle.bson.specs.Cstring.{Limit, unlimited, most}
use Rattle.bson.specs.Tags.{row_of, tags, JavaScriptCodeWithScope}
use Rattle.bson.specs.Framing.{framed_under}
use Rattle.bson.specs.Step.{terminator, admitted, Cursor, cursor, Element, past, span, spans, Step, yield, end, yielding_under, step_under}
use Rattle.bson.specs.Step.{Iteration, ended, broken, more, onward, iterate_under, elements}
use Rattle.laws.proofs.AdvanceLaws.{step_outside, step_inside, step_ends, ended_at, refused_place}
use Rattle.laws.proofs.AnswerLaws.{never, one_of, given, then_in, at_in, refused_in}
use Rattle.laws.proofs.BytesLaws.{bytes_join}
use Rattle.laws.proofs.Common.{split}
use Rattle.laws.proofs.FramingLaws.{scope_is}
use Rattle.laws.proofs.ReadRefusals.{framings, element_in}
use Rattle.laws.proofs.StepLaws.{admitted_says, step_yields, iterate_eq}
use Rattle.laws.proofs.TagLaws.{sized_by}
use Rattle.theorems.specs.EveryYield.{Lies, Accounted, extent, AddUp, Overrun}

-- ---- one step

module _ (limit : Limit) (s : List ℕ) (c : Cursor) (e : Element) (q : step_under limit s c ≡ gives (yield e)) where
  pub step_lies : Lies s c.offset e
  step_lies =
      let y = step_yields limit s c e q in
      record {
        tag = y.placed;
        key = y.key_at_law;
        value = y.value_at;
        ends = omega
            (arith, y.value_at, y.key_at_law);
        least = omega arith;
        inside = y.inside;
      }

  pub scope_size_law : e.tag ≡ 0x0F → e.value.size ≡ le32 (drop e.value.offset s)
  unfolding row_of tags framed_under
  scope_size_law t =
      let v = drop e.value.offset s in
      let f = sized_by e.tag JavaScriptCodeWithScope v (rw t refl) in
      (scope_is v e.value.size (sym f ∙ (step_yields limit s c e q).value_is_law)).0

-- ---- one element behind the other

-- framing refuses by no 4
no_four : (limit : Limit) → one_of (framings limit) 4 ≡ false
no_four unlimited = refl
no_four (most m) = refl

module _ (limit : Limit) (s : List ℕ) (m : ℕ) (a : admitted s ≡ gives m) where
  by_step : (from : ℕ) → ((next : ℕ) → from < next → next ≤ length s → Accounted limit s next (iterate_under limit s next))
      → (x : Answer Step) → step_under limit s (cursor from false) ≡ x → Accounted limit s from (onward x (iterate_under limit s))
  by_step from h (gives end) q = (q, ended_at limit s from q)
  by_step from h (refuses n p) q = (q, refused_place limit s m a from n p q)
  by_step from h (gives (yield e)) q =
      let l = step_lies limit s (cursor from false) e q in
      let r = h (past e) (omega (arith, l.ends, l.least)) l.inside in
      (q, l, subst (λ (k : ℕ). Accounted limit s k (iterate_under limit s (past e))) l.ends r)

  -- the bytes left fall
  accounted_from : (f from : ℕ) → length s < f + from → from ≤ length s → Accounted limit s from (iterate_under limit s from)
  accounted_from zero from i j = absurd (omega arith)
  accounted_from (suc f) from i j =
      subst (Accounted limit s from) (sym (iterate_eq limit s from))
      (by_step from (λ next k l. accounted_from f next (omega arith) l) (step_under limit s (cursor from false)) refl)

  pub accounted : Accounted limit s 4 (iterate_under limit s 4)
  accounted = accounted_from (suc (length s)) 4 (omega arith) (omega (arith, admitted_says s m a))

  pub adds_from : (from total : ℕ) (i : Iteration) → from + extent (elements i) ≡ 4 + total → Accounted limit s from i → AddUp s total i
  adds_from from total ended e (q, t) = omega (arith, admitted_says s m a)
  adds_from from total (broken n p) e (q, t) = omega arith
  adds_from from total (more d rest) e (q, l, r) = adds_from (from + (span d).size) total rest (omega arith) r

  pub told_from : (from : ℕ) (i : Iteration) → Accounted limit s from i → spans s (elements i) ≡ bytes s (part from (extent (elements i)))
  unfolding bytes
  told_from from ended x = refl
  told_from from (broken n p) x = refl
  told_from from (more e rest) (q, l, r) =
      let n = (span e).size in
      rw (told_from (from + n) rest r, l.tag) (bytes_join s from n (extent (elements rest)))

  -- ---- refused by 4

  framed_four : (offset n p : ℕ) → at offset (yielding_under limit s offset) ≡ refuses n p → n ≡ 4 → ⊥
  framed_four offset n p q e =
      let h = refused_in (at_in offset (then_in (element_in limit s offset) (λ d r. given))) q in
      true≢false (sym (rw e at h) ∙ no_four limit)

  -- of the steps that begin at 4 or behind, those past the terminator are refused by 4, and no other
  step_overruns : (offset n p : ℕ) → 4 ≤ offset → step_under limit s (cursor offset false) ≡ refuses n p → (n ≡ 4) ↔ (terminator s < offset)
  step_overruns offset n p l q = (there, back)
    where
      low : leb 4 offset ≡ true
      low = le-leb 4 offset l

      back : terminator s < offset → n ≡ 4
      back h =
          let x : step_under limit s (cursor offset false)
          ≡ refuses 4 offset = step_outside limit s m a offset (rw (low, lt-leb offset (terminator s) h)) in
          cc

      there : n ≡ 4 → terminator s < offset
      there e =
          split (leb offset (terminator s))
          (λ t. split (eqb offset (terminator s))
          (λ u. never (sym q ∙ (step_ends limit s m a offset).1 (eqb-true offset (terminator s) u)))
          (λ u. absurd (framed_four offset n p (sym (step_inside limit s m a offset (rw (low, t)) u) ∙ q) e)))
          (λ t. leb-false offset (terminator s) t)

  pub overruns : (from : ℕ) (i : Iteration) → 4 ≤ from → Accounted limit s from i → Overrun s from i
  overruns from ended k (q, t) = ((λ x. absurd x), λ x. omega arith)
  overruns from (broken n p) k (q, t) =
      let (there, back) = step_overruns from n p k q in
      ((λ x. omega (arith, there x)), λ x. back (omega arith))
  overruns from (more e rest) k (q, l, r) =
      let (there, back) = overruns (from + (span e).size) rest (omega arith) r in
      ((λ x. omega (arith, there x)), λ x. back (omega arith))
