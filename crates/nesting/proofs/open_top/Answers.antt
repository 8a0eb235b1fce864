-- `nesting::open_top` meets its contract: each way out by the test that led there.
use Rattle.std.proofs.Common.{rules}
use Rattle.bson.specs.Grammar.{bytes32}
use Rattle.nesting.proofs.Turns.{top_impossible, top_twice, top_narrow, top_done}
use Rattle.nesting.proofs.open_top.Goals as goal
use Rattle.nesting.proofs.open_top.Goals.{then-not-possible-via-then-not-possible, then-not-possible-via-else-not-possible+then-depth-ne0}

pub returns-then-not-possible : goal.returns-then-not-possible
returns-then-not-possible c =
    elim c.then-not-possible.branch [
      | then-not-possible-via-then-not-possible w ↦
          top_impossible _ _ _ c.room_of-room.ensures _ c.possible.ensures w.if-not-possible.true
      | then-not-possible-via-else-not-possible+then-depth-ne0 w ↦
          top_twice _ _ _ c.room_of-room.ensures _ c.possible.ensures w.if-not-possible.false _ w.depth.ensures.0 w.if-depth-ne0.true
    ]

pub returns-then-room-lt5 : goal.returns-then-room-lt5
returns-then-room-lt5 c =
    top_narrow _ _ _ c.room_of-room.ensures _ c.possible.ensures c.if-not-possible.false _ c.depth.ensures.0
    c.if-depth-ne0.false c.if-room-lt5.true

pub returns : goal.returns
unfolding bytes32
returns c =
    top_done _ _ _ c.room_of-room.ensures _ c.possible.ensures c.if-not-possible.false _ c.depth.ensures.0
    c.if-depth-ne0.false c.if-room-lt5.false _ _ c.put_text.ensures.0 _ (search rules) _ c.push.ensures
