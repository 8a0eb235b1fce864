-- What a call answers: a value, or the number and the place of a refusal; 1 to 13 mean damage, and under a
-- limit 22 (RULES.md, "Numbers returned"; request 2).
use Rattle.std.specs.Prelude.{ℕ, Bool, true, false}

pub data Answer (A : Type 0) : Type 0 where
  gives : A → Answer A
  refuses : (number place : ℕ) → Answer A

-- tests in their order: go on with what the first gives; a refusal stays
abbrev pub then : {A B : Type 0} → Answer A → (A → Answer B) → Answer B
then (gives a) f = f a
then (refuses n p) f = refuses n p

-- where the test fails, this number, at 0: the place "for 1 to 3 of the given slice" and "where none of these is meant"
abbrev pub unless : {A : Type 0} → Bool → ℕ → Answer A → Answer A
unless true n a = a
unless false n a = refuses n 0

-- the place of what is refused inside: "the tag byte of the element framed or read", and "for 4 the offset where the step would begin"
abbrev pub at : {A : Type 0} → ℕ → Answer A → Answer A
at p (gives a) = gives a
at p (refuses n q) = refuses n p
