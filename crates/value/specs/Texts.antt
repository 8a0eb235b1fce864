-- What a text's place says on paper (RULES.md, request 4).
use Rattle.bson.specs.Lossy as paper
use Rattle.part.specs.Said.{said_part}
use Rattle.value.specs.declared.texts.Text.{Text}

abbrev pub said_text : Text → paper.Text
said_text t = paper.text_and (said_part t.text) (said_part t.second)
