-- `utf8::chunks::next_chunk` meets its contract: the bytes before `valid` are whole characters.
use native.Mathlib.Omega.{arith}
use Rattle.utf8.proofs.ChunkLaws.{front_behind, behind_rest, front_breaks, front_goes_on, front_ends}
use Rattle.utf8.proofs.chunks.next_chunk.Goals as goal

pub returns-then-chunk-gt0 : goal.returns-then-chunk-gt0
returns-then-chunk-gt0 c =
    let f = c.loop-valid.invariant in
    let b = c.behind_ascii-rest.ensures in
    front_breaks (front_behind f b) _ _ (rw (behind_rest f b) c.some_characters-chunk.ensures) c.if-chunk-gt0.true

pub loop-valid-preserved : goal.loop-valid-preserved
loop-valid-preserved c =
    let f = c.loop-valid.invariant in
    let b = c.behind_ascii-rest.ensures in
    front_goes_on (front_behind f b) c.some_characters-chunk.result.valid c.some_characters-chunk.result.invalid (rw (behind_rest f b) c.some_characters-chunk.ensures) (omega arith)

pub returns : goal.returns
returns c = front_ends c.loop-valid.invariant (omega arith)
