-- Ascii: bytes below 128, each a character by itself (RULES.md, module 1).
use Rattle.std.specs.Prelude.{ℕ, ◌≡◌, List, [], ◌∷◌, ◌++◌, Bool, true, ◌&&◌, ltb}

-- whether no byte is above 127
abbrev pub ascii_of : List ℕ → Bool
ascii_of [] = true
ascii_of (b ∷ s) = ltb b 128 && ascii_of s

-- what is in front of the rest is ASCII
pub record Behind (v rest : List ℕ) : Type 0 where
  pub front : List ℕ
  pub is : v ≡ front ++ rest
  pub all : ascii_of front ≡ true
