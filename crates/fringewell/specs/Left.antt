-- What the calls answer in numbers where they leave more than an answer: a cursor, a lent buffer, a lent state (RULES.md, "Admission and
-- one step" and "Writer and joining").
use Rattle.std.specs.Prelude.{ℕ, List}
use Rattle.bson.specs.Join.{join}
use Rattle.bson.specs.Cstring.{Limit, unlimited}
use Rattle.bson.specs.Lossy.{read_lossy_under}
use Rattle.bson.specs.Step.{Cursor, step_under, after}
use Rattle.bson.specs.Writer.{State, Desk, desk, Call, performed}
use Rattle.c_answers.specs.Numbers.{joined, stepped, step_read, shown, written_by}
use Rattle.c_answers.specs.declared.ElementNumbers.{ElementNumbers}
use Rattle.c_answers.specs.declared.JoinedNumbers.{JoinedNumbers}
use Rattle.c_answers.specs.declared.ShownNumbers.{ShownNumbers}
use Rattle.c_answers.specs.declared.StepNumbers.{StepNumbers}
use Rattle.c_answers.specs.declared.WrittenNumbers.{WrittenNumbers}

-- a step, and the cursor behind it
abbrev pub steps_under : Limit → List ℕ → Cursor → StepNumbers
steps_under limit s c = stepped (step_under limit s c) (after c (step_under limit s c))

abbrev pub steps : List ℕ → Cursor → StepNumbers
steps s c = steps_under unlimited s c

-- a step, the reading of what it yields, and the cursor behind it
abbrev pub reads_under : Limit → List ℕ → Cursor → ElementNumbers
reads_under limit s c = step_read s (step_under limit s c) (after c (step_under limit s c))

abbrev pub reads : List ℕ → Cursor → ElementNumbers
reads s c = reads_under unlimited s c

-- an answer, and the buffer that is left
abbrev pub left : {A : Type 0} → A → List ℕ → A × List ℕ
left answer buffer = (answer, buffer)

-- the text at a place, as it is shown
abbrev pub shows_under : Limit → List ℕ → ℕ → List ℕ → ShownNumbers × List ℕ
shows_under limit s place buffer = left (shown (read_lossy_under limit s place buffer).answer) (read_lossy_under limit s place buffer).left

abbrev pub shows : List ℕ → ℕ → List ℕ → ShownNumbers × List ℕ
shows s place buffer = shows_under unlimited s place buffer

abbrev pub joins : List ℕ → List ℕ → List ℕ → JoinedNumbers × List ℕ
joins first second buffer = left (joined (join first second buffer).outcome) (join first second buffer).left

-- an answer, and the state and the buffer that are left
abbrev pub leaves : WrittenNumbers → State → List ℕ → WrittenNumbers × Desk
leaves answer state buffer = (answer, desk state buffer)

unfoldable pub performs : Call → State → List ℕ → WrittenNumbers × Desk
performs call state buffer =
    let w = performed call state buffer in
    (written_by w.number w.left.state, w.left)
