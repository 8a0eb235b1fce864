-- `appending::key_passes` meets its contract: a key by its kind.
use Rattle.bson.specs.Writer.{key_passes}
use Rattle.appending.proofs.key_passes.Goals as goal

pub returns-in-Document : goal.returns-in-Document
unfolding key_passes
returns-in-Document c = rw c.in-Document.is c.is_valid_cstr.ensures

pub returns-in-Array : goal.returns-in-Array
unfolding key_passes
returns-in-Array c = rw c.in-Array.is
