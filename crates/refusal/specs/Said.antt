-- What refusals and results of the code say on paper: the number and the place (RULES.md, "Numbers returned").
use Rattle.std.specs.Prelude.{ℕ, Result, Ok, Err}
use Rattle.bson.specs.Answer.{Answer, gives, refuses}
use Rattle.refusal.specs.declared.Refusal.{Refusal}
use Rattle.refusal.specs.declared.Refusal.TheVariants as is
use Rattle.refusal.specs.declared.Refused.{Refused}

abbrev pub number : Refusal → ℕ
number is.TooShort = 1
number is.LengthDiffers = 2
number is.NoTerminator = 3
number is.StepOutside = 4
number is.NoZero = 5
number is.NotUtf8 = 6
number is.UnknownTag = 7
number is.BadLength = 8
number is.PastTheSlice = 9
number is.NotEnded = 10
number is.BadBoolean = 11
number is.BadShape = 12
number is.TooDeep = 13
number is.NoRoom = 14
number is.BadText = 15
number is.Absent = 16
number is.OtherType = 17
number is.OutOfTurn = 18
number is.BadArrayKey = 19
number is.InputTooLong = 20
number is.PathTooLong = 21
number is.TooLong = 22

-- a result whose refusal has no place of its own, its value as it is, or by what it says
abbrev pub said : {A : Type 0} → Result A Refusal → Answer A
said (Ok a) = gives a
said (Err why) = refuses (number why) 0

abbrev pub said_by : {A B : Type 0} → (A → B) → Result A Refusal → Answer B
said_by f (Ok a) = gives (f a)
said_by f (Err why) = refuses (number why) 0

-- the same of one whose refusal has its place
abbrev pub placed : {A : Type 0} → Result A Refused → Answer A
placed (Ok a) = gives a
placed (Err r) = refuses (number r.why) r.place

abbrev pub placed_by : {A B : Type 0} → (A → B) → Result A Refused → Answer B
placed_by f (Ok a) = gives (f a)
placed_by f (Err r) = refuses (number r.why) r.place

-- the number of a writer's call: 0 where it is not refused
abbrev pub number_in : Result Unit Refusal → ℕ
number_in (Ok done) = 0
number_in (Err why) = number why
