-- What the inner functions of the scan say: how far a text is plain, neither zero nor above 127 (RULES.md, modules 1 and 2).
use Rattle.std.specs.Prelude.{ℕ, ◌+◌, ◌<◌, ◌≤◌, ◌≡◌, List, Bool, ◌||◌, eqb, ltb, drop}
use Rattle.bson.specs.Cstring.{before}

-- a zero byte, or one that is not ASCII
abbrev pub stops_at : ℕ → Bool
stops_at b = eqb b 0 || ltb 127 b

-- how many bytes stand before the first that stops
abbrev pub plain : List ℕ → ℕ
plain v = before stops_at v

-- of k bytes at an offset, n stand before the first that stops
pub record PlainOf (k : ℕ) (v : List ℕ) (offset n : ℕ) : Type 0 where
  pub most : n ≤ k
  pub stopped : n < k → plain (drop offset v) ≡ n
  pub passed : k ≤ n → plain (drop offset v) ≡ k + plain (drop (offset + k) v)
