-- What a text that is shown says on paper (RULES.md, request 4).
use Rattle.bson.specs.Lossy as paper
use Rattle.iter.specs.Said.{said_element}
use Rattle.part.specs.Said.{said_part}
use Rattle.lossy.specs.declared.Shown.{Shown}

abbrev pub said_shown : Shown → paper.Shown
said_shown s = record { element = said_element s.element; size = s.size; second = said_part s.second }
