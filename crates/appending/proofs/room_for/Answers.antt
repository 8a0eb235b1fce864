-- `appending::room_for` meets its contract: each way out by the test that led there.
use mathlib.Core.Bool.{true, false}
use native.Mathlib.Omega.{arith}
use Rattle.appending.proofs.Cascade.{left_open, inner_refused, too_deep_law, not_in_order_law, room_decides}
use Rattle.appending.proofs.Exits.{exit}
use Rattle.appending.proofs.room_for.Goals as goal

pub returns-in_err-kind : goal.returns-in_err-kind
returns-in_err-kind c = rw (exit _ _ c.from_residual.ensures.1) (inner_refused _ _ _ _ _ _ c.in_err-kind.ensures)

pub next_depth-requires : goal.next_depth-requires
next_depth-requires c = (left_open _ _ _ c.in_ok-kind.ensures).0

pub returns-then-next_depth-gt-MAX_DEPTH : goal.returns-then-next_depth-gt-MAX_DEPTH
returns-then-next_depth-gt-MAX_DEPTH c =
    too_deep_law _ _ _ c.in_ok-kind.ensures _ _ _ _ _ c.next_depth.ensures c.if-next_depth-gt-MAX_DEPTH.true

pub returns-then-not-key_passes-good : goal.returns-then-not-key_passes-good
returns-then-not-key_passes-good c =
    not_in_order_law _ _ _ c.in_ok-kind.ensures _ _ _ _ _ c.next_depth.ensures c.if-next_depth-gt-MAX_DEPTH.false _
    c.key_passes.ensures c.if-not-key_passes-good.true

pub overflow_sub-left : goal.overflow_sub-left
overflow_sub-left c = omega (arith, (left_open _ _ _ c.in_ok-kind.ensures).1)

pub returns-then-not-fits : goal.returns-then-not-fits
returns-then-not-fits c =
    room_decides _ _ _ c.in_ok-kind.ensures _ _ _ _ _ c.next_depth.ensures c.if-next_depth-gt-MAX_DEPTH.false _
    c.key_passes.ensures c.if-not-key_passes-good.false _ _ _ c.used.ensures.0 c.depth.ensures.0 c.key_size.ensures.0 _
    c.fits.ensures false c.if-not-fits.true

pub returns : goal.returns
returns c =
    room_decides _ _ _ c.in_ok-kind.ensures _ _ _ _ _ c.next_depth.ensures c.if-next_depth-gt-MAX_DEPTH.false _
    c.key_passes.ensures c.if-not-key_passes-good.false _ _ _ c.used.ensures.0 c.depth.ensures.0 c.key_size.ensures.0 _
    c.fits.ensures true c.if-not-fits.false
