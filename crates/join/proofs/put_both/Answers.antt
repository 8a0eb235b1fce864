-- `join::put_both` meets its contract: the room tested, then four texts one after the other.
use Rattle.std.proofs.Common.{rules}
use Rattle.join.proofs.Bodies.{no_room_law, has_room}
use Rattle.join.proofs.put_both.Goals as goal

pub returns-then-room_of-size : goal.returns-then-room_of-size
returns-then-room_of-size c =
    rw c.at.ensures (no_room_law c.args.first.now c.args.second.now c.args.out.now _ c.room_of.ensures c.if-room_of-size.true)

pub returns : goal.returns
returns c =
    has_room c.args.first.now c.args.second.now c.args.out.now _ c.room_of.ensures c.requires.0 c.requires.1
    c.if-room_of-size.false c.put_bytes32.ensures.0 c.put_text.ensures.0 c.put_text-2.ensures.0 c.put_text-3.ensures.0 (search rules)
