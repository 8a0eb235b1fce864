-- What a join's answer says on paper (RULES.md, "Writer and joining").
use Rattle.std.specs.Prelude.{ℕ, Result, Ok, Err}
use Rattle.bson.specs.Join.{Outcome, wrote, refused}
use Rattle.refusal.specs.Said.{number}
use Rattle.join.specs.declared.NotJoined.{NotJoined}
use Rattle.join.specs.declared.Which.{Which}
use Rattle.join.specs.declared.Which.TheVariants.{Neither, First, Second}

abbrev pub said_which : Which → ℕ
said_which Neither = 0
said_which First = 1
said_which Second = 2

abbrev pub said : Result ℕ NotJoined → Outcome
said (Ok size) = wrote size
said (Err n) = refused (number n.refused.why) n.refused.place (said_which n.which)
