-- `appending::put_key` meets its contract: a key by its kind.
use Rattle.bson.specs.Writer.{key_in}
use Rattle.appending.proofs.put_key.Goals as goal

pub returns-in-Document : goal.returns-in-Document
unfolding key_in
returns-in-Document c = rw c.in-Document.is c.put_text.ensures

pub returns-in-Array : goal.returns-in-Array
unfolding key_in
returns-in-Array c = rw c.in-Array.is c.put_decimal.ensures
