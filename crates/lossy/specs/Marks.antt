-- What is shown for a chunk: its characters, and a mark for its bad part (RULES.md, request 4).
use Rattle.std.specs.Prelude.{ℕ, zero, suc, ◌+◌, List, [], length}
use Rattle.bson.specs.Lossy.{replacement}
use Rattle.utf8.specs.declared.chunks.Chunk.{Chunk}

-- for a bad part of so many bytes, none where there is none
abbrev pub mark : ℕ → List ℕ
mark zero = []
mark (suc n) = replacement

-- how many bytes are shown for a chunk
abbrev pub size_shown : Chunk → ℕ
size_shown c = c.valid + length (mark c.invalid)
