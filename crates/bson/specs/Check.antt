-- The whole check, plain and strict (RULES.md, "The whole check").
use Rattle.std.specs.Prelude.{ℕ, zero, suc, ◌+◌, List, Bool, not, ◌&&◌, ◌||◌, length, leb}
use Rattle.bson.specs.Answer.{Answer, gives, refuses, then, at, unless}
use Rattle.bson.specs.Bytes.{bytes}
use Rattle.bson.specs.Step.{Element, Iteration, ended, broken, more, iterate_under}
use Rattle.bson.specs.Cstring.{Limit, unlimited}
use Rattle.bson.specs.Value.{value_of}
use Rattle.bson.specs.ArrayKey.{good_array_key}
use Rattle.bson.specs.Level.{Opening, closed, opens, opening, Level, outermost, deeper}

-- how many values a document holds that lies at a level, those inside them included, or the first refusal
abbrev pub Walk : Type 0
Walk = List ℕ → Level → Answer ℕ

-- the strict check asks "that each key of an array is exactly the decimal form of its position"
abbrev pub key_passes : Bool → Level → ℕ → List ℕ → Bool
key_passes strict l position key = not (strict && l.is_array) || good_array_key position key

-- "between step and read" the key (19), then "read the value, depth (13)"
unfoldable pub visit : Bool → List ℕ → Level → ℕ → Element → Answer Opening
visit strict s l position e =
    at (l.base + e.place)
    (unless (key_passes strict l position (bytes s e.key)) 19
    (then (value_of s e) λ v.
    unless (leb l.depth 200) 13
    (gives (opening v))))

-- "then go inside"
abbrev pub inside : Walk → List ℕ → Level → Opening → Answer ℕ
inside walk s l closed = gives 0
inside walk s l (opens is_array levels p) = walk (bytes s p) (deeper l is_array levels p)

-- "an opened value walks its document": the value itself, and those inside it
unfoldable pub opened : Bool → Walk → List ℕ → Level → ℕ → Element → Answer ℕ
opened strict walk s l position e =
    then (visit strict s l position e) λ o.
    then (inside walk s l o) λ n.
    gives (1 + n)

-- "a document walk opens values", "for each element in order"; "the first refusal in this order is returned"
abbrev pub along : Bool → Walk → List ℕ → Level → ℕ → Iteration → Answer ℕ
along strict walk s l position ended = gives 0
along strict walk s l position (broken n p) = refuses n (l.base + p)
along strict walk s l position (more e rest) =
    then (opened strict walk s l position e) λ n.
    then (along strict walk s l (suc position) rest) λ m.
    gives (n + m)

-- a document within another is shorter than it, so as many levels as the slice has bytes, and one, are enough (`walk_eq`)
unfoldable pub walk_for : Limit → ℕ → Bool → Walk
walk_for limit zero strict s l = refuses 0 0
walk_for limit (suc n) strict s l = along strict (walk_for limit n strict) s l 0 (iterate_under limit s 4)

unfoldable pub walk_under : Limit → Bool → Walk
walk_under limit strict s l = walk_for limit (suc (length s)) strict s l

unfoldable pub check_under : Limit → Bool → List ℕ → Answer ℕ
check_under limit strict s = walk_under limit strict s outermost

-- without a limit
abbrev pub walk : Bool → Walk
walk strict s l = walk_under unlimited strict s l

abbrev pub check : Bool → List ℕ → Answer ℕ
check strict s = check_under unlimited strict s
