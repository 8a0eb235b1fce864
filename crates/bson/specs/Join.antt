-- Joining: one document of the bodies of two (RULES.md, "Writer and joining").
use Rattle.std.specs.Prelude.{ℕ, ◌+◌, ◌-◌, List, ◌++◌, false, leb, length, take, drop}
use Rattle.bson.specs.Answer.{Answer, gives, refuses, unless}
use Rattle.bson.specs.Check.{check}
use Rattle.bson.specs.Grammar.{document_of}
use Rattle.bson.specs.Output.{put}
use Rattle.bson.specs.Writer.{room}

-- what lies between a document's length and its terminator
unfoldable pub body : List ℕ → List ℕ
body s = take (length s - 5) (drop 4 s)

-- "one document of both bodies, first before second"
unfoldable pub both : List ℕ → List ℕ → List ℕ
both first second = document_of (body first ++ body second)

-- the length of what was written, or "number, place, which one": 1 the first, 2 the second, 0 where neither is meant
pub data Outcome : Type 0 where
  wrote : (length : ℕ) → Outcome
  refused : (number place which : ℕ) → Outcome

-- what a call answers, and the buffer that it leaves
pub record Joined : Type 0 where
  pub outcome : Outcome
  pub left : List ℕ

abbrev pub joined : Outcome → List ℕ → Joined
joined outcome left = record { outcome = outcome; left = left }

-- the tests in their order, of the first, the second or neither; a refusal leaves the buffer as it was
abbrev pub passing : {A : Type 0} → ℕ → Answer A → List ℕ → (A → Joined) → Joined
passing which (gives a) buffer f = f a
passing which (refuses number place) buffer f = joined (refused number place which) buffer

-- 14 "exactly when the sum of both lengths less 5 exceeds the room"
unfoldable pub size_of_both : List ℕ → List ℕ → ℕ → Answer ℕ
size_of_both first second space =
    let size = length first + length second - 5 in
    unless (leb size space) 14 (gives size)

-- "its length is the sum less 5, and bytes behind it stay"
unfoldable pub both_put : List ℕ → List ℕ → List ℕ → Joined
both_put first second buffer =
    passing 0 (size_of_both first second (room (length buffer))) buffer λ size.
    joined (wrote size) (put buffer 0 (both first second))

-- "it whole-checks the first, then the second (number, place, which one), then 14 alone"
unfoldable pub join : List ℕ → List ℕ → List ℕ → Joined
join first second buffer =
    passing 1 (check false first) buffer λ _.
    passing 2 (check false second) buffer λ _.
    both_put first second buffer
