-- What the kinds say on paper, and their marks (RULES.md, "Writer and joining").
use Rattle.std.specs.Prelude.{ℕ}
use Rattle.bson.specs.Grammar.{document}
use Rattle.bson.specs.Writer as paper
use Rattle.writer_state.specs.declared.Kind.{Kind}
use Rattle.writer_state.specs.declared.Kind.TheVariants.{Document, Array}

abbrev pub said_kind : Kind → paper.Kind
said_kind Document = paper.in_document
said_kind (Array count) = paper.in_array count

-- the mark that `kind_of` reads as this kind
abbrev pub mark_told : paper.Kind → ℕ
mark_told paper.in_document = paper.mark_of document
mark_told (paper.in_array count) = count
