-- `appending::head` meets its contract: refused as the tests say, or the head as it is put.
use native.Mathlib.Omega.{arith}
use Rattle.std.proofs.Common.{rules}
use Rattle.appending.proofs.Element.{few, grows, refused, done}
use Rattle.appending.proofs.Exits.{exit}
use Rattle.appending.proofs.head.Goals as goal

pub returns-in_err-kind : goal.returns-in_err-kind
returns-in_err-kind c =
    rw (exit _ _ c.from_residual.ensures.1) (refused _ _ _ c.room_of-room.ensures _ _ _ _ _ c.in_err-kind.ensures)

pub overflow_sub-output : goal.overflow_sub-output
overflow_sub-output c =
    (grows _ _ _ c.room_of-room.ensures _ _ _ _ _ _ c.in_ok-kind.ensures _ c.used-used.ensures.0 _ _ c.put_head.ensures.0).0

pub overflow_add-output : goal.overflow_add-output
overflow_add-output c =
    let g = (grows _ _ _ c.room_of-room.ensures _ _ _ _ _ _ c.in_ok-kind.ensures _ c.used-used.ensures.0 _ _
    c.put_head.ensures.0).1 in
    omega (arith, g)

pub grow-requires-clause-size_bound : goal.grow-requires-clause-size_bound
grow-requires-clause-size_bound c =
    let g = (grows _ _ _ c.room_of-room.ensures _ _ _ _ _ _ c.in_ok-kind.ensures _ c.used-used.ensures.0 _ _
    c.put_head.ensures.0).1 in
    let k = few _ c.args.out.now _ c.room_of-room.ensures _ c.args.tag _ _ _ _ c.in_ok-kind.ensures in
    (g, k.0, k.1)

pub grow-requires-clause-kind_value : goal.grow-requires-clause-kind_value
grow-requires-clause-kind_value c =
    (few _ c.args.out.now _ c.room_of-room.ensures _ c.args.tag _ _ _ _ c.in_ok-kind.ensures).2

pub returns : goal.returns
returns c =
    done _ _ _ c.room_of-room.ensures _ _ _ _ _ _ c.in_ok-kind.ensures _ c.used-used.ensures.0 _ _ (search (rules, c.put_head.ensures)) _
    c.grow.ensures
