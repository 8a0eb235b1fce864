-- Bytes and numbers: little-endian, signed by two's complement (RULES.md, module 1; BSON 1.1, "Basic Types").
use Rattle.std.specs.Prelude.{ℕ, suc, ◌+◌, ◌*◌, ◌-◌, ◌<◌, List, [], ◌∷◌, Bool, true, false, cond, ◌&&◌, get_or, take, drop, eqb, ltb, ℤ, pos, negsuc}

-- a slice holds bytes; behind its end `get_or` gives the 0 asked for
abbrev pub AreBytes : List ℕ → Type 0
AreBytes s = (i : ℕ) → get_or s i 0 < 256

-- the unsigned number of the four bytes in front, least first
unfoldable pub le32 : List ℕ → ℕ
le32 v = get_or v 0 0 + 256 * get_or v 1 0 + 65536 * get_or v 2 0 + 16777216 * get_or v 3 0

-- and of the eight bytes in front; a double is these 64 bits
unfoldable pub le64 : List ℕ → ℕ
le64 v = le32 v + 4294967296 * le32 (drop 4 v)

-- two's complement: the upper half of the numbers is those from -1 down (`negsuc n` is -1 - n)
unfoldable pub signed : ℕ → ℕ → ℤ
signed half n = cond (ltb n half) (pos n) (negsuc (half + half - suc n))

unfoldable pub i32 : List ℕ → ℤ
i32 v = signed 0x8000_0000 (le32 v)

unfoldable pub i64 : List ℕ → ℤ
i64 v = signed 0x8000_0000_0000_0000 (le64 v)

-- an i32 is not negative where its bits are below 2³¹
abbrev pub natural : ℕ → Bool
natural bits = ltb bits 0x8000_0000

-- the i32 in front is so many: not negative, and equal
abbrev pub declares : List ℕ → ℕ → Bool
declares v n = natural (le32 v) && eqb (le32 v) n

-- a part of a slice: where it begins and how many bytes it has
pub record Part : Type 0 where
  pub offset : ℕ
  pub size : ℕ

abbrev pub part : ℕ → ℕ → Part
part offset size = record { offset = offset; size = size }

unfoldable pub bytes : List ℕ → Part → List ℕ
bytes s p = take p.size (drop p.offset s)

-- a part without its first `front` and its last `back` bytes
abbrev pub trim : ℕ → ℕ → Part → Part
trim front back p = part (p.offset + front) (p.size - (front + back))

-- "equal bytes"
abbrev pub same : List ℕ → List ℕ → Bool
same [] [] = true
same [] (b ∷ t) = false
same (a ∷ s) [] = false
same (a ∷ s) (b ∷ t) = eqb a b && same s t
