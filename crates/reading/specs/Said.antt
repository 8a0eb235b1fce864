-- What the parts of a value and which of them say on paper (RULES.md, "Values").
use Rattle.bson.specs.Bytes as bytes
use Rattle.bson.specs.Value as paper
use Rattle.part.specs.Said.{said_part}
use Rattle.reading.specs.declared.TwoParts.{TwoParts}
use Rattle.reading.specs.declared.Which.{Which}
use Rattle.reading.specs.declared.Which.TheVariants.{First, Second}

abbrev pub said_parts : TwoParts → bytes.Part × bytes.Part
said_parts p = (said_part p.0, said_part p.1)

abbrev pub said_which : Which → paper.Which
said_which First = paper.first
said_which Second = paper.second
