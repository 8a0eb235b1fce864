-- `path::along`, which calls itself, meets its contract: one key is used up at each level, and the path gets shorter by it and its zero.
use Prim.Native.Nat.{◌+◌, ◌-◌}
use mathlib.Core.Path.{◌≡◌, ap, ◌∙◌}
use native.Mathlib.Omega.{arith}
use lib.ListN.{length, take, drop, length-drop}
use borrow.Author.Rules.{rules}
use Rattle.laws.proofs.Common.{rest_part}
use Rattle.laws.proofs.BytesLaws.{bytes_length, slice_part}
use Rattle.part.specs.Said.{said_part}
use Rattle.path.proofs.Levels.{ends, refused_inside, refused, framed, last, more, fewer, stopped, onward}
use Rattle.path.proofs.+along.Goals as goal

pub slice_bounds-key-end : goal.slice_bounds-key-end
slice_bounds-key-end t c = let below = ends c.args.path.now c.first_zero-zero.ensures in search rules

pub overflow_add-base : goal.overflow_add-base
overflow_add-base t c =
    let inside = refused_inside _ _ _ c.requires.1 c.first_zero-zero.ensures c.find.ensures c.in-Err.r c.in-Err.is in omega (arith, inside, c.requires.0)

pub returns-in-Err : goal.returns-in-Err
returns-in-Err t c =
    refused _ _ _ c.requires.1 c.first_zero-zero.ensures c.find.ensures c.in-Err.r c.in-Err.is c.at.result (rw c.at.ensures) (rw c.at.ensures)

pub overflow_add-place : goal.overflow_add-place
overflow_add-place t c = let y = framed _ _ _ c.requires.1 c.first_zero-zero.ensures c.find.ensures c.in-Ok.element c.in-Ok.is in omega (arith, y.high, c.requires.0)

pub returns-then-zero-path : goal.returns-then-zero-path
returns-then-zero-path t c = last _ _ _ c.requires.1 c.first_zero-zero.ensures c.find.ensures c.in-Ok.element c.in-Ok.is c.if-zero-path.true c.requires.0 _ c.element_of.ensures

pub returns-then-element : goal.returns-then-element
returns-then-element t c =
    stopped _ _ _ c.requires.1 c.first_zero-zero.ensures c.find.ensures c.in-Ok.element c.in-Ok.is c.if-zero-path.false c.at-then-element.result
    (search rules) c.stopped.ensures (rw c.at-then-element.ensures) (rw c.at-then-element.ensures)

pub overflow_add-inside : goal.overflow_add-inside
overflow_add-inside t c = let y = framed _ _ _ c.requires.1 c.first_zero-zero.ensures c.find.ensures c.in-Ok.element c.in-Ok.is in omega (arith, y.inside)

pub slice_bounds-inside-end : goal.slice_bounds-inside-end
slice_bounds-inside-end t c = let y = framed _ _ _ c.requires.1 c.first_zero-zero.ensures c.find.ensures c.in-Ok.element c.in-Ok.is in omega (arith, y.inside)

pub overflow_add-rest : goal.overflow_add-rest
overflow_add-rest t c = omega (arith, more _ _ _ c.requires.1 c.first_zero-zero.ensures c.find.ensures c.in-Ok.element c.in-Ok.is c.if-zero-path.false)

pub slice_bounds-rest-count : goal.slice_bounds-rest-count
slice_bounds-rest-count t c = omega (arith, more _ _ _ c.requires.1 c.first_zero-zero.ensures c.find.ensures c.in-Ok.element c.in-Ok.is c.if-zero-path.false)

pub slice_bounds-rest-start : goal.slice_bounds-rest-start
slice_bounds-rest-start t c = let below = more _ _ _ c.requires.1 c.first_zero-zero.ensures c.find.ensures c.in-Ok.element c.in-Ok.is c.if-zero-path.false in search rules

pub overflow_add-base-in-Ok : goal.overflow_add-base-in-Ok
overflow_add-base-in-Ok t c = let y = framed _ _ _ c.requires.1 c.first_zero-zero.ensures c.find.ensures c.in-Ok.element c.in-Ok.is in omega (arith, y.inside, c.requires.0)

pub along-requires : goal.along-requires
along-requires t c =
    let y = framed _ _ _ c.requires.1 c.first_zero-zero.ensures c.find.ensures c.in-Ok.element c.in-Ok.is in
    let p = said_part c.in-Ok.element.value in
    let inner : length (take (p.offset + p.size - p.offset) (drop p.offset c.args.s.now)) ≡ p.size =
    ap length (slice_part c.args.s.now p) ∙ bytes_length c.args.s.now p y.inside in
    let behind = rest_part c.args.path.now (c.first_zero-zero.result + 1) in
    let below = more _ _ _ c.requires.1 c.first_zero-zero.ensures c.find.ensures c.in-Ok.element c.in-Ok.is c.if-zero-path.false in (
      omega (arith, ap length behind, length-drop (c.first_zero-zero.result + 1) c.args.path.now, below),
      (omega (arith, inner, y.inside, c.requires.0), fewer _ _ _ c.requires.1 c.first_zero-zero.ensures c.find.ensures c.in-Ok.element c.in-Ok.is c.if-zero-path.false behind),
    )

pub returns-else-element : goal.returns-else-element
returns-else-element t c =
    onward _ _ _ c.requires.1 c.first_zero-zero.ensures c.find.ensures c.in-Ok.element c.in-Ok.is c.if-zero-path.false (search rules)
    (slice_part _ _) (rest_part c.args.path.now (c.first_zero-zero.result + 1)) c.along.ensures
