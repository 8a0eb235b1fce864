-- What a pattern and options say on paper: the two parts (RULES.md, "Admission and one step").
use Rattle.std.specs.Prelude.{◌+◌}
use Rattle.bson.specs.Bytes.{Part, part}
use Rattle.raw.specs.declared.PatternOptions.{PatternOptions}

abbrev pub said_pattern_options : PatternOptions → Part × Part
said_pattern_options r = (part 0 r.pattern, part (r.pattern + 1) r.options)
