-- What a timestamp says on paper: its two numbers (RULES.md, module 1).
use Rattle.std.specs.Prelude.{ℕ}
use Rattle.num.specs.declared.Timestamp.{Timestamp}

abbrev pub said_timestamp : Timestamp → ℕ × ℕ
said_timestamp t = (t.increment, t.seconds)
