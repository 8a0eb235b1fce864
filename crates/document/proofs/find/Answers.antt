-- `document::find` meets its contract: the search from each offset is the whole search.
use mathlib.Core.Path.{◌≡◌, refl, sym, ap, ◌∙◌}
use lib.ListN.{length}
use native.Mathlib.Omega.{arith}
use borrow.Author.Rules.{rules}
use Rattle.std.specs.Prelude.{Option, None, Some}
use Rattle.bson.specs.Answer.{refuses}
use Rattle.bson.specs.Lookup.{find_under}
use Rattle.laws.proofs.Common.{rest_part}
use Rattle.laws.proofs.StepLaws.{step_yields}
use Rattle.cstr.specs.Said.{limit_of}
use Rattle.refusal.specs.Said.{number}
use Rattle.iter.specs.declared.Sizes.{Sizes}
use Rattle.iter.proofs.Sized.{made_yields}
use Rattle.document.proofs.Search.{ends, refused, matched, onward}
use Rattle.document.proofs.find.Goals as goal

pub loop-sizes-init : goal.loop-sizes-init
unfolding find_under
loop-sizes-init c = record { all = rest_part _ 0; searched = refl }

-- what is not some is none
no_sizes : (o : Option Sizes) → ((x : Sizes) → o ≡ Some x → ⊥) → o ≡ None
no_sizes None n = refl
no_sizes (Some x) n = absurd (n x refl)

pub returns : goal.returns
returns c =
    rw c.at.ensures
    (ends c.loop-sizes.invariant (sym (rw (no_sizes _ c.in_default.not-Some) at c.in_ok-sizes.ensures)))

pub returns-in_err-sizes : goal.returns-in_err-sizes
returns-in_err-sizes c =
    let h : refuses (number c.in_err-sizes.field-0.0.why) c.in_err-sizes.field-0.0.place
    ≡ find_under (limit_of c.args.limit) c.args.s.now c.args.key.now
    = refused c.loop-sizes.invariant (sym c.in_err-sizes.ensures) in
    search rules

pub slice_bounds-equal-end : goal.slice_bounds-equal-end
slice_bounds-equal-end c =
    let y = sym (rw c.in-Some.is at c.in_ok-sizes.ensures) in
    let e = made_yields _ _ (omega arith) (rw c.loop-sizes.invariant.all at y) c.element_of-element.ensures in
    let f = step_yields _ _ _ _ e in
    omega (arith, f.value_at, f.inside, ap length c.loop-sizes.invariant.all)

pub overflow_add-zero : goal.overflow_add-zero
overflow_add-zero c =
    let y = sym (rw c.in-Some.is at c.in_ok-sizes.ensures) in
    let e = made_yields _ _ (omega arith) (rw c.loop-sizes.invariant.all at y) c.element_of-element.ensures in
    let f = step_yields _ _ _ _ e in
    omega (arith, f.value_at, f.inside)

pub returns-then-equal : goal.returns-then-equal
returns-then-equal c =
    let y = sym (rw c.in-Some.is at c.in_ok-sizes.ensures) in
    let e = made_yields _ _ (omega arith) (rw c.loop-sizes.invariant.all at y) c.element_of-element.ensures in
    matched c.loop-sizes.invariant e (sym c.equal.ensures ∙ c.if-equal.true)

pub overflow_add-place : goal.overflow_add-place
overflow_add-place c =
    let y = sym (rw c.in-Some.is at c.in_ok-sizes.ensures) in
    let e = made_yields _ _ (omega arith) (rw c.loop-sizes.invariant.all at y) c.element_of-element.ensures in
    omega (arith, (step_yields _ _ _ _ e).inside)

pub loop-sizes-smaller : goal.loop-sizes-smaller
loop-sizes-smaller c =
    let y = sym (rw c.in-Some.is at c.in_ok-sizes.ensures) in
    let e = made_yields _ _ (omega arith) (rw c.loop-sizes.invariant.all at y) c.element_of-element.ensures in
    let f = step_yields _ _ _ _ e in
    omega (arith, f.wide, f.inside)

pub loop-sizes-preserved : goal.loop-sizes-preserved
loop-sizes-preserved c =
    let y = sym (rw c.in-Some.is at c.in_ok-sizes.ensures) in
    let e = made_yields _ _ (omega arith) (rw c.loop-sizes.invariant.all at y) c.element_of-element.ensures in
    onward c.loop-sizes.invariant e (sym c.equal.ensures ∙ c.if-equal.false)
