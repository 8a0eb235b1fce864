-- The runs of a number are its bytes (BSON 1.1, "Basic Types").
use Prim.Native.Nat.{ℕ}
use mathlib.Core.Path.{◌≡◌, refl}
use mathlib.Core.List.{List, [], ◌∷◌, ◌++◌, append-nil}
use lib.ListN.{length, get_or}
use Rattle.bson.specs.Grammar.{bytes32}

-- a word, and another
pub word : (n : ℕ) → bytes32 n ++ [] ≡ bytes32 n
word n = append-nil (bytes32 n)

pub words : (m n : ℕ) (p q : List ℕ) → p ≡ bytes32 m → q ≡ bytes32 n
    → get_or p 0 0 ∷ get_or p 1 0 ∷ get_or p 2 0 ∷ get_or p 3 0 ∷ get_or q 0 0 ∷ get_or q 1 0 ∷ get_or q 2 0 ∷ get_or q 3 0 ∷ [] ≡ bytes32 m ++ bytes32 n
unfolding bytes32
words m n p q e f = rw (e, f)

pub eight : (m n : ℕ) → 8 ≡ length (bytes32 m ++ bytes32 n)
unfolding bytes32
eight m n = refl
