-- `writer_state::room_of` meets its contract: the smaller is by one test.
use mathlib.Core.Path.{◌∙◌}
use Rattle.writer_state.proofs.Tests.{smaller}
use Rattle.writer_state.proofs.room_of.Goals as goal

pub returns : goal.returns
returns c = c.min.ensures ∙ smaller _
