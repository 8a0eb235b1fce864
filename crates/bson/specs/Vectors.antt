-- The rows marked P of RULES.md, "Bytes to try", as a single list under a single claim.
use Rattle.std.specs.Prelude.{ℕ, ◌+◌, List, [], ◌∷◌, true, false, pos}
use Rattle.bson.specs.Answer.{Answer, gives, refuses, then}
use Rattle.bson.specs.Bytes.{part}
use Rattle.bson.specs.Step.{Element, Iteration, ended, broken, more, iterate}
use Rattle.bson.specs.Value.{Value, leaf, boolean, int32, string, null, read_at}
use Rattle.bson.specs.Lookup.{get}
use Rattle.bson.specs.Check.{check}

-- what a row says of its bytes
pub record Vector : Type 0 where
  pub slice : List ℕ
  pub iteration : Iteration
  pub readings : List (Answer Value)
  pub lookups : List (List ℕ × Answer Value)
  pub verdict : Answer ℕ

-- an element by its place, its tag and the sizes of key and value
abbrev pub elem : ℕ → ℕ → ℕ → ℕ → Element
elem place tag k n = record { place = place; tag = tag; key = part (place + 1) k; value = part (place + 1 + k + 1) n }

-- what reading each yielded element answers
abbrev pub read_each : List ℕ → Iteration → List (Answer Value)
read_each s ended = []
read_each s (broken n p) = []
read_each s (more e rest) = read_at s e.place ∷ read_each s rest

abbrev pub look_each : List ℕ → List (List ℕ × Answer Value) → List (List ℕ × Answer Value)
look_each s [] = []
look_each s (l ∷ ls) = (l.0, then (get s l.0) λ f. gives f.value) ∷ look_each s ls

abbrev pub vector : List ℕ → Iteration → List (Answer Value) → List (List ℕ × Answer Value) → Answer ℕ → Vector
vector s i r l a = record { slice = s; iteration = i; readings = r; lookups = l; verdict = a }

-- what the definition says of each row's bytes and keys
abbrev pub says : List Vector → List Vector
says [] = []
says (x ∷ xs) =
    let s = x.slice in
    vector s (iterate s 4) (read_each s (iterate s 4)) (look_each s x.lookups) (check false s) ∷ says xs

unfoldable pub vectors : List Vector
vectors =
    -- P1 to P4: the empty document; 1, 2 and 3 at 0
    vector (0x05 ∷ 0 ∷ 0 ∷ 0 ∷ 0 ∷ []) ended [] [] (gives 0)
    ∷ vector (0x05 ∷ 0 ∷ 0 ∷ 0 ∷ []) (broken 1 0) [] [] (refuses 1 0)
    ∷ vector (0x06 ∷ 0 ∷ 0 ∷ 0 ∷ 0 ∷ []) (broken 2 0) [] [] (refuses 2 0)
    ∷ vector (0x05 ∷ 0 ∷ 0 ∷ 0 ∷ 0x01 ∷ []) (broken 3 0) [] [] (refuses 3 0)
    -- P5: int32 7 is yielded, then 4 at 10
    ∷ vector (0x0A ∷ 0 ∷ 0 ∷ 0 ∷ 0x10 ∷ 0 ∷ 0x07 ∷ 0 ∷ 0 ∷ 0 ∷ [])
    (more (elem 4 0x10 0 4) (broken 4 10)) (gives (leaf (int32 (pos 7))) ∷ []) [] (refuses 4 10)
    -- P6: iteration ends cleanly; reading: 12 at 4
    ∷ vector (0x0A ∷ 0 ∷ 0 ∷ 0 ∷ 0x0F ∷ 0 ∷ 0x03 ∷ 0 ∷ 0 ∷ 0 ∷ [])
    (more (elem 4 0x0F 0 3) ended) (refuses 12 4 ∷ []) [] (refuses 12 4)
    -- P7: empty text
    ∷ vector (0x0C ∷ 0 ∷ 0 ∷ 0 ∷ 0x02 ∷ 0 ∷ 0x01 ∷ 0 ∷ 0 ∷ 0 ∷ 0 ∷ 0 ∷ [])
    (more (elem 4 0x02 0 5) ended) (gives (leaf (string (part 10 0))) ∷ []) [] (gives 1)
    -- P8: 8 at 4
    ∷ vector (0x0B ∷ 0 ∷ 0 ∷ 0 ∷ 0x02 ∷ 0 ∷ 0 ∷ 0 ∷ 0 ∷ 0 ∷ 0 ∷ []) (broken 8 4) [] [] (refuses 8 4)
    -- P9: 6 at 4, before 7
    ∷ vector (0x08 ∷ 0 ∷ 0 ∷ 0 ∷ 0x14 ∷ 0xFF ∷ 0 ∷ 0 ∷ []) (broken 6 4) [] [] (refuses 6 4)
    -- P10: 5 at 4
    ∷ vector (0x07 ∷ 0 ∷ 0 ∷ 0 ∷ 0x0B ∷ 0 ∷ 0 ∷ []) (broken 5 4) [] [] (refuses 5 4)
    -- P11: null is yielded, then 4 at 6
    ∷ vector (0x06 ∷ 0 ∷ 0 ∷ 0 ∷ 0x0A ∷ 0 ∷ [])
    (more (elem 4 0x0A 0 0) (broken 4 6)) (gives (leaf null) ∷ []) [] (refuses 4 6)
    -- P12: key `a` is false, though a second element of that key is true
    ∷ vector (0x0D ∷ 0 ∷ 0 ∷ 0 ∷ 0x08 ∷ 0x61 ∷ 0 ∷ 0 ∷ 0x08 ∷ 0x61 ∷ 0 ∷ 0x01 ∷ 0 ∷ [])
    (more (elem 4 0x08 1 1) (more (elem 8 0x08 1 1) ended))
    (gives (leaf (boolean false)) ∷ gives (leaf (boolean true)) ∷ [])
    ((0x61 ∷ [], gives (leaf (boolean false))) ∷ []) (gives 2)
    ∷ []
