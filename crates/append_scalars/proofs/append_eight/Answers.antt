-- `append_scalars::append_eight` meets its contract: the bytes of both halves.
use Rattle.bson.specs.Grammar.{bytes64}
use Rattle.append_scalars.proofs.append_eight.Goals as goal

pub returns : goal.returns
unfolding bytes64
returns c = c.append_words.ensures
