-- `whole::walk_document` and `whole::open_value`, which call each other: the depth left plus the bytes left fall (RULES.md, "Where each
-- language form belongs").
use Prim.Native.Nat.{ℕ, ◌+◌, ◌-◌, ◌≤◌}
use mathlib.Core.Path.{◌≡◌}
use mathlib.Core.Bool.{true, ◌&&◌}
use lib.ListN.{length}
use Rattle.cstr.specs.Said.{limit_of}
use Rattle.visit.specs.Said.{said_level}
use Rattle.whole.proofs.Walk.{LeftFrom}
use Rattle.whole.proofs.+open_value_walk_document.Given as goal

abbrev pub decreases-open_value : goal.decreases-open_value
decreases-open_value l = (202 - l.level.depth) + (length l.s.now - l.element.place)

abbrev pub decreases-walk_document : goal.decreases-walk_document
decreases-walk_document l = (202 - l.level.depth) + length l.s.now

-- the loop goes over `whole`, which is all of the slice; where keys are asked for, `position` says how many have passed
abbrev pub invariant-walk_document-loop-inside : goal.invariant-walk_document-loop-inside
invariant-walk_document-loop-inside l =
    (l.whole ≡ l.s) × (passed : ℕ) × (l.count + 4 ≤ l.offset) × (l.offset ≤ length l.s + 4)
    × LeftFrom (limit_of l.limit) l.strict l.s (said_level l.level) l.offset l.count passed
    × (l.strict && l.level.array ≡ true → l.position ≡ passed) × (l.position + 4 ≤ l.offset)

abbrev pub decreases-walk_document-loop-inside : goal.decreases-walk_document-loop-inside
decreases-walk_document-loop-inside l = length l.s + 4 - l.offset
