-- What an element found and its value say on paper (RULES.md, "Values").
use Rattle.bson.specs.Lookup as paper
use Rattle.iter.specs.Said.{said_element}
use Rattle.value.specs.Said.{said_value}
use Rattle.document.specs.declared.Found.{Found}

abbrev pub said_found : Found → paper.Found
said_found f = record { element = said_element f.element; value = said_value f.value }
