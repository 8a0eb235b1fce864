-- What each case of `Kind` says on paper: how a value is sized (RULES.md, "Admission and one step").
use Rattle.bson.specs.Tags.{Sized, fixed, as_string, as_pointer, as_document, as_binary, as_regex, as_scope}
use Rattle.tags.specs.declared.Kind.{Kind}
use Rattle.tags.specs.declared.Kind.TheVariants.{Fixed, String, Pointer, Document, Binary, Regex, Scope}

abbrev pub said_kind : Kind → Sized
said_kind (Fixed n) = fixed n
said_kind String = as_string
said_kind Pointer = as_pointer
said_kind Document = as_document
said_kind Binary = as_binary
said_kind Regex = as_regex
said_kind Scope = as_scope
