-- `whole::walk_document` and `whole::open_value`, which call each other, meet their contracts: the depth left plus the bytes left fall
-- (RULES.md, "Where each language form belongs").
use mathlib.Core.Path.{◌≡◌, refl, sym, ap, ◌∙◌}
use mathlib.Core.Bool.{false}
use native.Mathlib.Omega.{arith}
use borrow.Author.Rules.{rules}
use lib.ListN.{length}
use Rattle.bson.specs.Answer.{gives, refuses}
use Rattle.bson.specs.ArrayKey.{good_array_key}
use Rattle.bson.specs.Level.{opens}
use Rattle.bson.specs.Bytes.{bytes}
use Rattle.bson.specs.Step.{cursor, past, yield, step_under}
use Rattle.bson.specs.Check.{visit, opened, walk_under}
use Rattle.cstr.specs.Said.{limit_of}
use Rattle.iter.specs.Said as step
use Rattle.iter.specs.Said.{said_element}
use Rattle.part.specs.Said.{said_part}
use Rattle.laws.proofs.AnswerLaws.{answered}
use Rattle.laws.proofs.Common.{rest_part}
use Rattle.laws.proofs.BytesLaws.{slice_part}
use Rattle.laws.proofs.StepLaws.{step_yields}
use Rattle.laws.proofs.AdvanceLaws.{refused_before, next_lands}
use Rattle.laws.proofs.CheckLaws.{opened_count}
use Rattle.visit.specs.Said.{said_level}
use Rattle.refusal.specs.Said.{number, placed}
use Rattle.whole.proofs.Walk.{yields_placed, opened_refused, opened_closed, opened_inside, opened_keyed}
use Rattle.whole.proofs.Walk.{opened_bad_key, Asked, asked_passes, not_asked, Enters, enters}
use Rattle.whole.proofs.Walk.{visited_is, visited_refused, left_first, left_ends, left_refused, left_value_refused}
use Rattle.whole.proofs.Walk.{left_onward}
use Prim.Native.Nat.{suc, ◌+◌, ◌<◌}
use Rattle.whole.proofs.+open_value_walk_document.Goals as goal
use Rattle.whole.proofs.+open_value_walk_document.Goals.{walk_document-then-keyed+then-key_passes, walk_document-else-keyed}

pub open_value-overflow_add-base : goal.open_value-overflow_add-base
open_value-overflow_add-base t c =
    let v : visit false c.args.s.now (said_level c.args.level) 0 (said_element c.args.element)
    ≡ gives (opens c.in-Some.opened.array c.in-Some.opened.levels (said_part c.in-Some.opened.inner))
    = visited_is _ _ _ (rw c.in-Some.is at c.in-Ok.ensures) in
    let r : Enters c.args.s.now (said_level c.args.level) (cursor c.args.element.place false) c.in-Some.opened.levels (said_part c.in-Some.opened.inner)
    = enters _ _ _ _ c.requires.1 _ _ _ v in
    omega arith

pub open_value-overflow_add-depth : goal.open_value-overflow_add-depth
open_value-overflow_add-depth t c =
    let v : visit false c.args.s.now (said_level c.args.level) 0 (said_element c.args.element)
    ≡ gives (opens c.in-Some.opened.array c.in-Some.opened.levels (said_part c.in-Some.opened.inner))
    = visited_is _ _ _ (rw c.in-Some.is at c.in-Ok.ensures) in
    let r : Enters c.args.s.now (said_level c.args.level) (cursor c.args.element.place false) c.in-Some.opened.levels (said_part c.in-Some.opened.inner)
    = enters _ _ _ _ c.requires.1 _ _ _ v in
    omega arith

pub open_value-overflow_add-end : goal.open_value-overflow_add-end
open_value-overflow_add-end t c =
    let v : visit false c.args.s.now (said_level c.args.level) 0 (said_element c.args.element)
    ≡ gives (opens c.in-Some.opened.array c.in-Some.opened.levels (said_part c.in-Some.opened.inner))
    = visited_is _ _ _ (rw c.in-Some.is at c.in-Ok.ensures) in
    let r : Enters c.args.s.now (said_level c.args.level) (cursor c.args.element.place false) c.in-Some.opened.levels (said_part c.in-Some.opened.inner)
    = enters _ _ _ _ c.requires.1 _ _ _ v in
    omega arith

pub open_value-slice_bounds-walk_document-end : goal.open_value-slice_bounds-walk_document-end
open_value-slice_bounds-walk_document-end t c =
    let v : visit false c.args.s.now (said_level c.args.level) 0 (said_element c.args.element)
    ≡ gives (opens c.in-Some.opened.array c.in-Some.opened.levels (said_part c.in-Some.opened.inner))
    = visited_is _ _ _ (rw c.in-Some.is at c.in-Ok.ensures) in
    let r : Enters c.args.s.now (said_level c.args.level) (cursor c.args.element.place false) c.in-Some.opened.levels (said_part c.in-Some.opened.inner)
    = enters _ _ _ _ c.requires.1 _ _ _ v in
    omega arith

pub open_value-walk_document-requires : goal.open_value-walk_document-requires
open_value-walk_document-requires t c =
    let v : visit false c.args.s.now (said_level c.args.level) 0 (said_element c.args.element)
    ≡ gives (opens c.in-Some.opened.array c.in-Some.opened.levels (said_part c.in-Some.opened.inner))
    = visited_is _ _ _ (rw c.in-Some.is at c.in-Ok.ensures) in
    let r : Enters c.args.s.now (said_level c.args.level) (cursor c.args.element.place false) c.in-Some.opened.levels (said_part c.in-Some.opened.inner)
    = enters _ _ _ _ c.requires.1 _ _ _ v in
    (omega arith, omega arith)

pub open_value-overflow_add-all : goal.open_value-overflow_add-all
open_value-overflow_add-all t c =
    let v : visit false c.args.s.now (said_level c.args.level) 0 (said_element c.args.element)
    ≡ gives (opens c.in-Some.opened.array c.in-Some.opened.levels (said_part c.in-Some.opened.inner))
    = visited_is _ _ _ (rw c.in-Some.is at c.in-Ok.ensures) in
    let w = sym c.in_ok-values-in-Some.ensures in
    let o = opened_count _ _ _ _ _ 0 _ _ c.requires.1 _ (sym (opened_inside _ _ _ _ _ _ _ v _ (slice_part _ _) _ (sym w))) in
    omega arith

pub open_value-returns-in-Err : goal.open_value-returns-in-Err
open_value-returns-in-Err t c =
    let v = visited_refused _ _ _ c.in-Err.ensures in
    rw c.refused.ensures (opened_refused _ _ _ _ _ _ v)

pub open_value-returns-in-None : goal.open_value-returns-in-None
open_value-returns-in-None t c = opened_closed _ _ _ _ (visited_is _ _ _ (rw c.in-None.is at c.in-Ok.ensures))

pub open_value-returns-in_err-values-in-Some : goal.open_value-returns-in_err-values-in-Some
open_value-returns-in_err-values-in-Some t c =
    let v : visit false c.args.s.now (said_level c.args.level) 0 (said_element c.args.element)
    ≡ gives (opens c.in-Some.opened.array c.in-Some.opened.levels (said_part c.in-Some.opened.inner))
    = visited_is _ _ _ (rw c.in-Some.is at c.in-Ok.ensures) in
    let w = sym c.in_err-values-in-Some.ensures in
    let h : refuses (number c.in_err-values-in-Some.field-0.0.why) c.in_err-values-in-Some.field-0.0.place
    ≡ opened false (walk_under (limit_of c.args.limit) c.args.strict) c.args.s.now (said_level c.args.level) 0 (said_element c.args.element)
    = opened_inside _ _ _ _ _ _ _ v _ (slice_part _ _) _ (sym w) in
    search rules

pub open_value-returns-in_ok-values-in-Some : goal.open_value-returns-in_ok-values-in-Some
open_value-returns-in_ok-values-in-Some t c =
    let v : visit false c.args.s.now (said_level c.args.level) 0 (said_element c.args.element)
    ≡ gives (opens c.in-Some.opened.array c.in-Some.opened.levels (said_part c.in-Some.opened.inner))
    = visited_is _ _ _ (rw c.in-Some.is at c.in-Ok.ensures) in
    let w = sym c.in_ok-values-in-Some.ensures in
    opened_inside _ _ _ _ _ _ _ v _ (slice_part _ _) _ (sym w)

pub walk_document-loop-inside-init : goal.walk_document-loop-inside-init
walk_document-loop-inside-init t c =
    (rest_part _ 0, 0, omega arith, omega arith, left_first _ _ _ _, λ k. refl, omega arith)

pub walk_document-returns-in-Ok-None : goal.walk_document-returns-in-Ok-None
walk_document-returns-in-Ok-None t c =
    let x = sym (rw (c.in-Ok-None.is, rw c.in-Ok-None.is at c.in-Ok-None.field-0-is) at c.next-step.ensures.0) in
    left_ends _ _ _ _ _ _ _ c.loop-inside.invariant.4 (rw c.loop-inside.invariant.0 at x)

pub walk_document-refused-requires : goal.walk_document-refused-requires
walk_document-refused-requires t c =
    let x = sym (rw c.in-Err.is at c.next-step.ensures.0) in
    omega (arith, refused_before _ _ _ _ _ (rw c.loop-inside.invariant.0 at x))

pub walk_document-returns-in-Err : goal.walk_document-returns-in-Err
walk_document-returns-in-Err t c =
    let x = sym (rw c.in-Err.is at c.next-step.ensures.0) in
    rw c.refused.ensures (left_refused _ _ _ _ _ _ _ c.loop-inside.invariant.4 _ _ (rw c.loop-inside.invariant.0 at x))

pub walk_document-key_passes-requires : goal.walk_document-key_passes-requires
walk_document-key_passes-requires t c =
    let x = sym (rw (c.in-Ok-Some.is, rw c.in-Ok-Some.is at c.in-Ok-Some.field-0-is) at c.next-step.ensures.0) in
    let y : step_under (limit_of c.args.limit) c.args.s.now (cursor c.loop-inside.offset false) ≡ gives (yield (said_element c.in-Ok-Some.element))
    = rw c.loop-inside.invariant.0 at x in
    let l = ap length c.loop-inside.invariant.0 in
    let g = step_yields _ _ _ _ y in
    omega arith

pub walk_document-refused-requires-else-key_passes : goal.walk_document-refused-requires-else-key_passes
walk_document-refused-requires-else-key_passes t c =
    let x = sym (rw (c.in-Ok-Some.is, rw c.in-Ok-Some.is at c.in-Ok-Some.field-0-is) at c.next-step.ensures.0) in
    let y : step_under (limit_of c.args.limit) c.args.s.now (cursor c.loop-inside.offset false) ≡ gives (yield (said_element c.in-Ok-Some.element))
    = rw c.loop-inside.invariant.0 at x in
    let g = step_yields _ _ _ _ y in
    omega arith

pub walk_document-returns-else-key_passes : goal.walk_document-returns-else-key_passes
walk_document-returns-else-key_passes t c =
    let x = sym (rw (c.in-Ok-Some.is, rw c.in-Ok-Some.is at c.in-Ok-Some.field-0-is) at c.next-step.ensures.0) in
    let y : step_under (limit_of c.args.limit) c.args.s.now (cursor c.loop-inside.offset false) ≡ gives (yield (said_element c.in-Ok-Some.element))
    = rw c.loop-inside.invariant.0 at x in
    let told = c.key_passes.ensures in
    let k : c.key_passes.result ≡ good_array_key c.loop-inside.position (bytes c.args.s.now (said_part c.in-Ok-Some.element.key))
    = rw c.loop-inside.invariant.0 at told in
    let a = c.if-keyed.true in
    let o = opened_bad_key _ _ _ _ _ _ _ a (c.loop-inside.invariant.5 a) (sym k ∙ c.if-key_passes.false) in
    rw c.refused-else-key_passes.ensures (left_value_refused _ _ _ _ _ _ _ c.loop-inside.invariant.4 _ y _ _ o)

pub walk_document-open_value-requires : goal.walk_document-open_value-requires
walk_document-open_value-requires t c =
    let y = yields_placed _ _ _ _ (sym (rw (c.in-Ok-Some.is, rw c.in-Ok-Some.is at c.in-Ok-Some.field-0-is) at c.next-step.ensures.0)) in
    let l = ap length c.loop-inside.invariant.0 in
    (omega arith, (omega arith, y))

pub walk_document-returns-in_err-values-in-Ok-Some : goal.walk_document-returns-in_err-values-in-Ok-Some
walk_document-returns-in_err-values-in-Ok-Some t c =
    let x = sym (rw (c.in-Ok-Some.is, rw c.in-Ok-Some.is at c.in-Ok-Some.field-0-is) at c.next-step.ensures.0) in
    let y : step_under (limit_of c.args.limit) c.args.s.now (cursor c.loop-inside.offset false) ≡ gives (yield (said_element c.in-Ok-Some.element))
    = rw c.loop-inside.invariant.0 at x in
    let asked : Asked c.args.strict (said_level c.args.level) (bytes c.args.s.now (said_part c.in-Ok-Some.element.key)) c.loop-inside.invariant.1
    c.loop-inside.position c.if-keyed.position = elim c.if-keyed.branch [
      | walk_document-then-keyed+then-key_passes w ↦
          let told = w.key_passes.ensures in
          let k : w.key_passes.result ≡ good_array_key c.loop-inside.position (bytes c.args.s.now (said_part c.in-Ok-Some.element.key))
          = rw c.loop-inside.invariant.0 at told in
          asked_passes _ _ _ _ _ _ w.if-keyed.true (c.loop-inside.invariant.5 w.if-keyed.true) (sym k ∙ w.if-key_passes.true) w.position-is
      | walk_document-else-keyed w ↦ not_asked _ _ _ _ _ _ w.if-keyed.false w.position-is
    ] in
    let told = c.open_value.ensures in
    let o : placed c.open_value.result ≡ opened c.args.strict (walk_under (limit_of c.args.limit) c.args.strict) c.args.s.now (said_level c.args.level) c.loop-inside.invariant.1
    (said_element c.in-Ok-Some.element) = (rw c.loop-inside.invariant.0 at told) ∙ sym (opened_keyed _ _ _ _ _ _ asked.passes) in
    let h : refuses (number c.in_err-values-in-Ok-Some.field-0.0.why) c.in_err-values-in-Ok-Some.field-0.0.place
    ≡ walk_under (limit_of c.args.limit) c.args.strict c.args.s.now (said_level c.args.level)
    = left_value_refused _ _ _ _ _ _ _ c.loop-inside.invariant.4 _ y _ _ (sym (answered placed o c.in_err-values-in-Ok-Some.was)) in
    search rules

pub walk_document-overflow_add-count : goal.walk_document-overflow_add-count
walk_document-overflow_add-count t c =
    let x = sym (rw (c.in-Ok-Some.is, rw c.in-Ok-Some.is at c.in-Ok-Some.field-0-is) at c.next-step.ensures.0) in
    let y : step_under (limit_of c.args.limit) c.args.s.now (cursor c.loop-inside.offset false) ≡ gives (yield (said_element c.in-Ok-Some.element))
    = rw c.loop-inside.invariant.0 at x in
    let asked : Asked c.args.strict (said_level c.args.level) (bytes c.args.s.now (said_part c.in-Ok-Some.element.key)) c.loop-inside.invariant.1
    c.loop-inside.position c.if-keyed.position = elim c.if-keyed.branch [
      | walk_document-then-keyed+then-key_passes w ↦
          let told = w.key_passes.ensures in
          let k : w.key_passes.result ≡ good_array_key c.loop-inside.position (bytes c.args.s.now (said_part c.in-Ok-Some.element.key))
          = rw c.loop-inside.invariant.0 at told in
          asked_passes _ _ _ _ _ _ w.if-keyed.true (c.loop-inside.invariant.5 w.if-keyed.true) (sym k ∙ w.if-key_passes.true) w.position-is
      | walk_document-else-keyed w ↦ not_asked _ _ _ _ _ _ w.if-keyed.false w.position-is
    ] in
    let told = c.open_value.ensures in
    let o : placed c.open_value.result ≡ opened c.args.strict (walk_under (limit_of c.args.limit) c.args.strict) c.args.s.now (said_level c.args.level) c.loop-inside.invariant.1
    (said_element c.in-Ok-Some.element) = (rw c.loop-inside.invariant.0 at told) ∙ sym (opened_keyed _ _ _ _ _ _ asked.passes) in
    let b : gives c.in_ok-values-in-Ok-Some.values ≡ opened c.args.strict (walk_under (limit_of c.args.limit) c.args.strict) c.args.s.now (said_level c.args.level) c.loop-inside.invariant.1
    (said_element c.in-Ok-Some.element) = sym (answered placed o c.in_ok-values-in-Ok-Some.was) in
    let n : c.next-step.result.next.offset ≡ past (said_element c.in-Ok-Some.element)
    = next_lands _ _ _ x (sym c.next-step.ensures.1) in
    let g = step_yields _ _ _ _ y in
    let few : c.loop-inside.offset + c.in_ok-values-in-Ok-Some.values < past (said_element c.in-Ok-Some.element)
    = (let q = opened_count _ _ _ _ _ _ _ _ g _ (sym b) in omega arith) in
    omega arith

pub walk_document-loop-inside-smaller : goal.walk_document-loop-inside-smaller
walk_document-loop-inside-smaller t c =
    let x = sym (rw (c.in-Ok-Some.is, rw c.in-Ok-Some.is at c.in-Ok-Some.field-0-is) at c.next-step.ensures.0) in
    let y : step_under (limit_of c.args.limit) c.args.s.now (cursor c.loop-inside.offset false) ≡ gives (yield (said_element c.in-Ok-Some.element))
    = rw c.loop-inside.invariant.0 at x in
    let asked : Asked c.args.strict (said_level c.args.level) (bytes c.args.s.now (said_part c.in-Ok-Some.element.key)) c.loop-inside.invariant.1
    c.loop-inside.position c.if-keyed.position = elim c.if-keyed.branch [
      | walk_document-then-keyed+then-key_passes w ↦
          let told = w.key_passes.ensures in
          let k : w.key_passes.result ≡ good_array_key c.loop-inside.position (bytes c.args.s.now (said_part c.in-Ok-Some.element.key))
          = rw c.loop-inside.invariant.0 at told in
          asked_passes _ _ _ _ _ _ w.if-keyed.true (c.loop-inside.invariant.5 w.if-keyed.true) (sym k ∙ w.if-key_passes.true) w.position-is
      | walk_document-else-keyed w ↦ not_asked _ _ _ _ _ _ w.if-keyed.false w.position-is
    ] in
    let told = c.open_value.ensures in
    let o : placed c.open_value.result ≡ opened c.args.strict (walk_under (limit_of c.args.limit) c.args.strict) c.args.s.now (said_level c.args.level) c.loop-inside.invariant.1
    (said_element c.in-Ok-Some.element) = (rw c.loop-inside.invariant.0 at told) ∙ sym (opened_keyed _ _ _ _ _ _ asked.passes) in
    let b : gives c.in_ok-values-in-Ok-Some.values ≡ opened c.args.strict (walk_under (limit_of c.args.limit) c.args.strict) c.args.s.now (said_level c.args.level) c.loop-inside.invariant.1
    (said_element c.in-Ok-Some.element) = sym (answered placed o c.in_ok-values-in-Ok-Some.was) in
    let n : c.next-step.result.next.offset ≡ past (said_element c.in-Ok-Some.element)
    = next_lands _ _ _ x (sym c.next-step.ensures.1) in
    let g = step_yields _ _ _ _ y in
    let few : c.loop-inside.offset + c.in_ok-values-in-Ok-Some.values < past (said_element c.in-Ok-Some.element)
    = (let q = opened_count _ _ _ _ _ _ _ _ g _ (sym b) in omega arith) in
    omega arith

pub walk_document-loop-inside-preserved : goal.walk_document-loop-inside-preserved
walk_document-loop-inside-preserved t c =
    let x = sym (rw (c.in-Ok-Some.is, rw c.in-Ok-Some.is at c.in-Ok-Some.field-0-is) at c.next-step.ensures.0) in
    let y : step_under (limit_of c.args.limit) c.args.s.now (cursor c.loop-inside.offset false) ≡ gives (yield (said_element c.in-Ok-Some.element))
    = rw c.loop-inside.invariant.0 at x in
    let asked : Asked c.args.strict (said_level c.args.level) (bytes c.args.s.now (said_part c.in-Ok-Some.element.key)) c.loop-inside.invariant.1
    c.loop-inside.position c.if-keyed.position = elim c.if-keyed.branch [
      | walk_document-then-keyed+then-key_passes w ↦
          let told = w.key_passes.ensures in
          let k : w.key_passes.result ≡ good_array_key c.loop-inside.position (bytes c.args.s.now (said_part c.in-Ok-Some.element.key))
          = rw c.loop-inside.invariant.0 at told in
          asked_passes _ _ _ _ _ _ w.if-keyed.true (c.loop-inside.invariant.5 w.if-keyed.true) (sym k ∙ w.if-key_passes.true) w.position-is
      | walk_document-else-keyed w ↦ not_asked _ _ _ _ _ _ w.if-keyed.false w.position-is
    ] in
    let told = c.open_value.ensures in
    let o : placed c.open_value.result ≡ opened c.args.strict (walk_under (limit_of c.args.limit) c.args.strict) c.args.s.now (said_level c.args.level) c.loop-inside.invariant.1
    (said_element c.in-Ok-Some.element) = (rw c.loop-inside.invariant.0 at told) ∙ sym (opened_keyed _ _ _ _ _ _ asked.passes) in
    let b : gives c.in_ok-values-in-Ok-Some.values ≡ opened c.args.strict (walk_under (limit_of c.args.limit) c.args.strict) c.args.s.now (said_level c.args.level) c.loop-inside.invariant.1
    (said_element c.in-Ok-Some.element) = sym (answered placed o c.in_ok-values-in-Ok-Some.was) in
    let n : c.next-step.result.next.offset ≡ past (said_element c.in-Ok-Some.element)
    = next_lands _ _ _ x (sym c.next-step.ensures.1) in
    let g = step_yields _ _ _ _ y in
    let few : c.loop-inside.offset + c.in_ok-values-in-Ok-Some.values < past (said_element c.in-Ok-Some.element)
    = (let q = opened_count _ _ _ _ _ _ _ _ g _ (sym b) in omega arith) in
    let left = left_onward _ _ _ _ _ _ _ c.loop-inside.invariant.4 _ y _ b in
    (c.loop-inside.invariant.0, suc c.loop-inside.invariant.1, omega arith, omega arith, rw n left, asked.counts, omega arith)
