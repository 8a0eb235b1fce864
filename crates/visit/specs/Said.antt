-- What levels, openings and a visit's answer say on paper (RULES.md, "The whole check").
use Rattle.std.specs.Prelude.{ℕ, Option, None, Some, Result}
use Rattle.bson.specs.Answer.{Answer, at}
use Rattle.bson.specs.Level as paper
use Rattle.part.specs.Said.{said_part}
use Rattle.refusal.specs.Said.{said_by}
use Rattle.refusal.specs.declared.Refusal.{Refusal}
use Rattle.visit.specs.declared.Level.{Level}
use Rattle.visit.specs.declared.Opened.{Opened}

abbrev pub said_level : Level → paper.Level
said_level l = record { is_array = l.array; base = l.base; depth = l.depth }

abbrev pub said_opening : Option Opened → paper.Opening
said_opening None = paper.closed
said_opening (Some o) = paper.opens o.array o.levels (said_part o.inner)

-- a visit's refusal stands at the element's place
unfoldable pub said_visited : ℕ → Result (Option Opened) Refusal → Answer paper.Opening
said_visited place r = at place (said_by said_opening r)
