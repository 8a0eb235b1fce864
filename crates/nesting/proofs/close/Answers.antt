-- `nesting::close` meets its contract: refused as the innermost is, or ended.
use native.Mathlib.Omega.{arith}
use Rattle.appending.proofs.Exits.{exit}
use Rattle.nesting.proofs.Turns.{close_refused, closable, ends_within, close_done}
use Rattle.nesting.proofs.close.Goals as goal

pub returns-in_err-innermost : goal.returns-in_err-innermost
returns-in_err-innermost c =
    rw (exit _ _ c.from_residual.ensures.1) (close_refused _ _ _ c.room_of-room.ensures c.in_err-innermost.ensures)

pub start_of-start-requires : goal.start_of-start-requires
start_of-start-requires c = closable _ c.args.out.now _ c.room_of-room.ensures _ c.in_ok-innermost.ensures

pub seal-requires : goal.seal-requires
seal-requires c =
    let e = ends_within _ c.args.out.now _ c.room_of-room.ensures _ c.in_ok-innermost.ensures in (
      omega (arith, c.start_of-start.ensures, c.used-used.ensures.0, e.0),
      omega (arith, c.used-used.ensures.0, e.1),
    )

pub pop-requires : goal.pop-requires
pop-requires c =
    let o = c.args.out.now in
    let e = c.in_ok-innermost.ensures in
    ((closable _ o _ c.room_of-room.ensures _ e).0, (ends_within _ o _ c.room_of-room.ensures _ e).2)

pub returns : goal.returns
returns c =
    close_done _ _ _ c.room_of-room.ensures _ c.in_ok-innermost.ensures _ _ c.used-used.ensures.0 c.start_of-start.ensures _
    c.seal.ensures _ c.pop.ensures
