-- Which limit an option says (RULES.md, request 2).
use Rattle.std.specs.Prelude.{ℕ, Option, None, Some}
use Rattle.bson.specs.Cstring.{Limit, unlimited, most}

abbrev pub limit_of : Option ℕ → Limit
limit_of None = unlimited
limit_of (Some n) = most n
