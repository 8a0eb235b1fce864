-- Chunks: whole characters in front of a text, and the maximal bad part behind them (RULES.md, request 4).
use Rattle.std.specs.Prelude.{ℕ, ◌+◌, ◌≤◌, ◌<◌, ◌≡◌, List, [], ◌∷◌, cond, eqb, length, drop}
use Rattle.bson.specs.Lossy.{Piece, pieces}
use Rattle.utf8.specs.declared.chunks.Chunk.{Chunk}

abbrev pub chunk : ℕ → ℕ → Chunk
chunk valid invalid = record { valid = valid; invalid = invalid }

-- with so many bytes of whole characters more in front
abbrev pub behind : ℕ → Chunk → Chunk
behind n c = chunk (n + c.valid) c.invalid

-- the characters in front, and the first bad part
abbrev pub first_chunk : List Piece → Chunk
first_chunk [] = chunk 0 0
first_chunk (p ∷ ps) = cond p.good (behind p.size (first_chunk ps)) (chunk 0 p.size)

unfoldable pub chunk_of : List ℕ → Chunk
chunk_of v = first_chunk (pieces v)

-- a bad part that a byte ends: the bytes before it, or where there are none the byte itself
abbrev pub at_least_one : ℕ → ℕ
at_least_one n = cond (eqb n 0) 1 n

-- so many bytes of whole characters begin a text
pub record Front (v : List ℕ) (n : ℕ) : Type 0 where
  pub inside : n ≤ length v
  pub is : chunk_of v ≡ behind n (chunk_of (drop n v))

-- they do, or a bad part behind them ends its first chunk; one goes on in any case
pub record Begins (v : List ℕ) (valid invalid : ℕ) : Type 0 where
  pub inside : valid + invalid ≤ length v
  pub onward : 0 < length v → 0 < valid + invalid
  pub bad : 0 < invalid → chunk_of v ≡ chunk valid invalid
  pub good : invalid ≡ 0 → chunk_of v ≡ behind valid (chunk_of (drop valid v))
