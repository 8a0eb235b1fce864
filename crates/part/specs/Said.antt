-- What parts of the code say on paper: the same offset and size (RULES.md, "What must change shape").
use Rattle.bson.specs.Bytes as paper
use Rattle.part.specs.declared.Part.{Part}

abbrev pub said_part : Part → paper.Part
said_part p = paper.part p.offset p.size
