-- `lossy::put` meets its contract: a chunk put leaves the rest to be put behind it.
use mathlib.Core.Path.{◌∙◌}
use native.Mathlib.Omega.{arith}
use Rattle.std.proofs.lemmas.Grind.{common_steps}
use Rattle.lossy.proofs.ShownLaws.{chunk_put}
use Rattle.lossy.proofs.put.Goals as goal

pub loop-rest-preserved : goal.loop-rest-preserved
loop-rest-preserved c =
    let i = c.loop-rest.invariant in (
      grind (arith, common_steps),
      chunk_put i.1 c.next_chunk-chunk.ensures c.put_text.ensures.0 c.put_mark.ensures.0,
      c.put_mark.ensures.1 ∙ c.put_text.ensures.1 ∙ i.2,
    )
