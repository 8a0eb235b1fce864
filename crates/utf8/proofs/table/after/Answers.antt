-- `utf8::table::after` meets its contract: every class has its moves.
use mathlib.Core.Path.{refl}
use Rattle.bson.specs.Utf8.{rows}
use Rattle.utf8.specs.declared.table.TheConstants.{CLASSES, MOVES}
use Rattle.utf8.proofs.TableLaws.{Right, class_few}
use Rattle.utf8.proofs.table.after.Goals as goal

right : Right CLASSES MOVES
unfolding rows
right = record { computed = refl }

pub bounds-class : goal.bounds-class
bounds-class c = class_few _ right c.ranges.b.fits
