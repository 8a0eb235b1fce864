-- `appending::key_size` meets its contract: a key by its kind.
use mathlib.Core.Path.{refl, sym, ◌∙◌}
use native.Mathlib.Omega.{arith}
use Rattle.bson.specs.Writer.{key_in}
use Rattle.laws.proofs.DecimalLaws.{length_decimal}
use Rattle.appending.proofs.key_size.Goals as goal

pub returns-in-Document : goal.returns-in-Document
unfolding key_in
returns-in-Document c = (rw c.in-Document.is refl, omega arith)

pub returns-in-Array : goal.returns-in-Array
unfolding key_in
returns-in-Array c = (rw c.in-Array.is (c.width_of.ensures.0 ∙ sym (length_decimal _)), omega arith)
