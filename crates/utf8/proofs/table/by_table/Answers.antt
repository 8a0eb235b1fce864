-- `utf8::table::by_table` meets its contract: at every turn the bytes from b on decide, with what is left in the state.
use mathlib.Core.Path.{refl}
use native.Mathlib.Omega.{arith}
use Rattle.bson.specs.Utf8.{rows}
use Rattle.utf8.specs.declared.table.TheConstants.{CLASSES, MOVES}
use Rattle.utf8.proofs.TableLaws.{Right, going_start, going_on, going_end}
use Rattle.utf8.proofs.table.by_table.Goals as goal

right : Right CLASSES MOVES
unfolding rows
right = record { computed = refl }

pub loop-b-init : goal.loop-b-init
loop-b-init c = going_start

pub loop-b-preserved : goal.loop-b-preserved
loop-b-preserved c = going_on right c.loop-b.invariant (omega arith) (c.type_inv.s _).fits c.after-state.ensures

pub returns : goal.returns
returns c = going_end c.loop-b.invariant (omega arith)
