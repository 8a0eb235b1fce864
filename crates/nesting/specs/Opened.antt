-- An element opened whose tag and mark are given, and a state with one document more, as the inner functions answer (RULES.md, "Writer
-- and joining").
use Rattle.std.specs.Prelude.{ℕ, ◌+◌, List, true, set}
use Rattle.bson.specs.Answer.{gives, then}
use Rattle.bson.specs.Grammar.{bytes32}
use Rattle.bson.specs.Writer.{State, depth, start_at, mark_at, desk, appended, pushed, Written, leaves}

unfoldable pub opened_as : State → List ℕ → ℕ → ℕ → List ℕ → Written
opened_as w buffer tag mark key =
    leaves (desk w buffer)
    (then (appended (desk w buffer) 1 tag key true (bytes32 5)) λ e.
    gives (desk (pushed e.state mark) e.buffer))

unfoldable pub pushed_at : State → ℕ → ℕ → State
pushed_at w start mark = set (set (set w (start_at (depth w)) start) (mark_at (depth w)) mark) 1 (depth w + 1)
