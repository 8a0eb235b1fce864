-- A lent buffer, and how many of its bytes are used; a text that does not fit is not written (RULES.md,
-- "What every answer is bound to").
use Rattle.std.specs.Prelude.{ℕ, ◌+◌, List, [], ◌∷◌, ◌++◌, cond, length, take, drop, leb}

pub record Output : Type 0 where
  pub buffer : List ℕ
  pub used : ℕ

abbrev pub output : List ℕ → ℕ → Output
output buffer used = record { buffer = buffer; used = used }

-- the buffer with the bytes from an offset on replaced by a text; "a call that writes keeps all bytes behind its output"
unfoldable pub put : List ℕ → ℕ → List ℕ → List ℕ
put buffer at text = take at buffer ++ (text ++ drop (at + length text) buffer)

-- a text behind the used bytes, all of it or nothing
unfoldable pub put_text : Output → List ℕ → Output
put_text o text =
    cond (leb (o.used + length text) (length o.buffer))
    (output (put o.buffer o.used text) (o.used + length text))
    o

-- texts one after the other
abbrev pub put_texts : Output → List (List ℕ) → Output
put_texts o [] = o
put_texts o (text ∷ texts) = put_texts (put_text o text) texts

-- and as one text
abbrev pub joined : List (List ℕ) → List ℕ
joined [] = []
joined (text ∷ texts) = text ++ joined texts
