-- An element appended, and its head put before its value, as the inner functions answer (RULES.md, "Writer and joining").
use Rattle.std.specs.Prelude.{ℕ, ◌+◌, List, [], Bool, cond, leb, length, map}
use Rattle.std.specs.Borrow.{Bor}
use Rattle.bson.specs.Answer.{Answer, gives, then}
use Rattle.bson.specs.Grammar.{element_bytes}
use Rattle.bson.specs.Output.{put}
use Rattle.bson.specs.Writer.{State, used, key_in, room_for, grown, Desk, desk, room_of, appended, Written, leaves}

unfoldable pub appending : State → List ℕ → ℕ → ℕ → List ℕ → Bool → List ℕ → Written
appending w buffer more tag key good value = leaves (desk w buffer) (appended (desk w buffer) more tag key good value)

-- an element with a value of so many bytes, of which only the head, its tag, its key and a zero, is put yet
unfoldable pub headed : Desk → ℕ → ℕ → List ℕ → Bool → ℕ → Answer Desk
headed d more tag key good size =
    then (room_for d.state (room_of d) more key good size) λ kind.
    let w = d.state in
    let head = element_bytes tag (key_in kind key) [] in
    gives (desk (grown kind w (length head + size)) (put d.buffer (used w) head))

unfoldable pub heading : State → List ℕ → ℕ → ℕ → List ℕ → Bool → ℕ → Written
heading w buffer more tag key good size = leaves (desk w buffer) (headed (desk w buffer) more tag key good size)

-- what some texts hold that are lent
abbrev pub texts_of : List (Bor (List ℕ)) → List (List ℕ)
texts_of ts = map (λ t. t.now) ts

-- a size, or one more than any room
unfoldable pub bounded : ℕ → ℕ
bounded n = cond (leb n 2147483647) n 2147483648
