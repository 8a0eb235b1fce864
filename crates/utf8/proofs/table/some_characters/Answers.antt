-- `utf8::table::some_characters` meets its contract: whole characters before `valid`, and the state stands for the bytes from there to i.
use mathlib.Core.Path.{◌≡◌, refl}
use native.Mathlib.Omega.{arith}
use lib.ListN.{length}
use Rattle.bson.specs.Utf8.{rows}
use Rattle.utf8.proofs.ChunkTable.{judging_start, judge, judged_bad, judged_whole, judged_more, judging_end}
use Rattle.utf8.specs.declared.table.TheConstants.{CLASSES, MOVES}
use Rattle.utf8.proofs.TableLaws.{Right}
use Rattle.utf8.proofs.table.some_characters.Goals as goal
use Rattle.utf8.proofs.table.some_characters.Goals.{then-left-eq0, else-left-eq0}

right : Right CLASSES MOVES
unfolding rows
right = record { computed = refl }

pub loop-i-init : goal.loop-i-init
loop-i-init c = judging_start

pub returns-then-left-eq-NO_CHARACTER : goal.returns-then-left-eq-NO_CHARACTER
returns-then-left-eq-NO_CHARACTER c =
    let j = judge right c.loop-i.invariant (omega arith) (c.type_inv.v _).fits c.after-left.ensures in
    rw c.broken.ensures (judged_bad j c.if-left-eq-NO_CHARACTER.true)

pub loop-i-preserved : goal.loop-i-preserved
loop-i-preserved c =
    let j = judge right c.loop-i.invariant (omega arith) (c.type_inv.v _).fits c.after-left.ensures in
    elim c.if-left-eq0.branch [
      | then-left-eq0 w ↦ rw w.valid-is (judged_whole j w.if-left-eq0.true)
      | else-left-eq0 w ↦ rw w.valid-is (judged_more j c.if-left-eq-NO_CHARACTER.false w.if-left-eq0.false)
    ]

pub returns : goal.returns
returns c =
    let e : length c.args.v.now ≡ c.loop-i.i = omega arith in
    rw e (judging_end c.loop-i.invariant (omega arith))
