-- `whole::key_passes` meets its contract: the bytes of the key are asked.
use mathlib.Core.Path.{ap, ◌∙◌}
use Rattle.bson.specs.ArrayKey.{good_array_key}
use Rattle.laws.proofs.BytesLaws.{slice_part}
use Rattle.whole.proofs.key_passes.Goals as goal

pub returns : goal.returns
returns c = c.is_good.ensures ∙ ap (good_array_key _) (slice_part _ _)
