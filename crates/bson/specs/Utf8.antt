-- UTF-8 as the rows of RFC 3629, section 4: a character is the bytes of one row, each in its range (RULES.md, module 1).
use Rattle.std.specs.Prelude.{ℕ, List, [], ◌∷◌, Bool, true, false, cond, ◌&&◌, leb}

infix 20 ◌to◌
-- a range of bytes, both ends in it
pub data Range : Type 0 where
  ◌to◌ : ℕ → ℕ → Range

abbrev pub in_range : Range → ℕ → Bool
in_range (a to z) b = leb a b && leb b z

abbrev pub tail : Range
tail = 0x80 to 0xBF

-- "no overlong form, no surrogate, nothing above U+10FFFF"
unfoldable pub rows : List (List Range)
rows =
    ((0x00 to 0x7F) ∷ [])
    ∷ ((0xC2 to 0xDF) ∷ tail ∷ [])
    ∷ ((0xE0 to 0xE0) ∷ (0xA0 to 0xBF) ∷ tail ∷ [])
    ∷ ((0xE1 to 0xEC) ∷ tail ∷ tail ∷ [])
    ∷ ((0xED to 0xED) ∷ (0x80 to 0x9F) ∷ tail ∷ [])
    ∷ ((0xEE to 0xEF) ∷ tail ∷ tail ∷ [])
    ∷ ((0xF0 to 0xF0) ∷ (0x90 to 0xBF) ∷ tail ∷ tail ∷ [])
    ∷ ((0xF1 to 0xF3) ∷ tail ∷ tail ∷ tail ∷ [])
    ∷ ((0xF4 to 0xF4) ∷ (0x80 to 0x8F) ∷ tail ∷ tail ∷ [])
    ∷ []

-- what may still come: the ranges left of the row begun, or nothing, since no row fits
pub data Left : Type 0 where
  bad : Left
  ranges : List Range → Left

-- the row that a first byte begins
abbrev pub begin : List (List Range) → ℕ → Left
begin [] b = bad
begin ([] ∷ more) b = begin more b
begin ((r ∷ rs) ∷ more) b = cond (in_range r b) (ranges rs) (begin more b)

abbrev pub next : Left → ℕ → Left
next bad b = bad
next (ranges []) b = begin rows b
next (ranges (r ∷ rs)) b = cond (in_range r b) (ranges rs) bad

abbrev pub read : Left → List ℕ → Left
read l [] = l
read l (b ∷ s) = read (next l b) s

-- no row is left open
abbrev pub whole : Left → Bool
whole bad = false
whole (ranges []) = true
whole (ranges (r ∷ rs)) = false

unfoldable pub utf8 : List ℕ → Bool
utf8 s = whole (read (ranges []) s)
