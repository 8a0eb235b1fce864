-- `utf8::window::by_window` meets its contract: the bytes before j are judged, and the last three say what is left.
use mathlib.Core.Path.{◌≡◌}
use native.Mathlib.Omega.{arith}
use Rattle.utf8.proofs.WindowLaws.{went_start, went_turn, went_end}
use Rattle.utf8.proofs.window.by_window.Goals as goal

pub loop-j-init : goal.loop-j-init
loop-j-init c =
    let a = c.byte_or_zero-a.ensures in
    let b = c.byte_or_zero-b.ensures in
    let d = c.byte_or_zero-c.ensures in (
      omega arith,
      went_start (λ i. (c.type_inv.s i).fits) a b d c.is_stray.ensures c.is_stray-2.ensures c.is_stray-3.ensures,
    )

pub loop-j-preserved : goal.loop-j-preserved
loop-j-preserved c =
    went_turn (λ i. (c.type_inv.s i).fits) c.loop-j.invariant c.is_stray-any.ensures

pub returns : goal.returns
returns c =
    let x = c.byte_or_zero-x.ensures in
    let y = c.byte_or_zero-y.ensures in
    let z = c.byte_or_zero-z.ensures in
    let e : c.loop-j.j ≡ c.max-end.result = omega (arith, c.max-end.ensures) in
    went_end (rw e at c.loop-j.invariant) (omega (arith, c.max-end.ensures)) x y z c.is_stray-4.ensures
