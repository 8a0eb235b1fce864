-- A number in decimal (RULES.md, "Writer and joining": keys "0, 1, 2 on in decimal"; "Bytes to try": the check program's lines).
use Rattle.std.specs.Prelude.{ℕ, zero, suc, ◌+◌, ◌/◌, ◌%◌, List, [], ◌∷◌, ◌++◌, cond, ltb}

-- the last k digits of n, in ASCII
unfoldable pub digits : ℕ → ℕ → List ℕ
digits zero n = []
digits (suc k) n = digits k (n / 10) ++ ((48 + n % 10) ∷ [])

-- each digit takes a tenth, so as many turns as the number, and one, are enough (`width_eq`)
unfoldable pub width_for : ℕ → ℕ → ℕ
width_for zero n = 0
width_for (suc k) n = cond (ltb n 10) 1 (1 + width_for k (n / 10))

-- how many digits n has
unfoldable pub width : ℕ → ℕ
width n = width_for (suc n) n

-- n, without leading zeros
unfoldable pub decimal : ℕ → List ℕ
decimal n = digits (width n) n
