-- The keys of a path: what stands before its first zero byte, and the keys of what stands behind it (RULES.md, request 1).
use Prim.Native.Nat.{ℕ, suc, ◌+◌, ◌≤◌, ◌<◌}
use mathlib.Core.Path.{◌≡◌, refl}
use mathlib.Core.List.{List, [], ◌∷◌, ◌++◌}
use native.Mathlib.Nat.{not-suc-le-zero, le_of_suc-le-suc}
use native.Mathlib.Numerals.{add-one}
use native.Mathlib.Omega.{arith}
use lib.ListN.{length, take, drop}
use borrow.Author.Tests.{le-leb, lt-leb}
use Rattle.bson.specs.Answer.{gives, refuses}
use Rattle.bson.specs.Cstring.{is_zero, first_zero, Limit}
use Rattle.bson.specs.Lookup.{Found}
use Rattle.bson.specs.Path.{keys_of, look_along, get_path_under, get_path_with_under}
use Rattle.laws.proofs.Common.{split}
use Rattle.laws.proofs.LookupLaws.{of_tag_says}

-- ---- the keys of a path

-- a path without a zero byte is one key
pub keys_last : (path : List ℕ) → first_zero path ≡ length path → keys_of path ≡ (path, [])
keys_last [] e = refl
keys_last (b ∷ path) e =
    split (is_zero b)
    (λ t. let z : 0 ≡ suc (length path) = rw t at e in absurd (omega arith))
    (λ t. let z : suc (first_zero path) ≡ suc (length path) = rw t at e in rw (t, keys_last path (omega arith)))

-- else its first key ends at its first zero, and its other keys are those of what stands behind that
pub keys_more : (path : List ℕ) → first_zero path < length path
    → keys_of path
    ≡ (take (first_zero path) path, (keys_of (drop (first_zero path + 1) path)).0 ∷ (keys_of (drop (first_zero path + 1) path)).1)
keys_more [] h = absurd (not-suc-le-zero h)
keys_more (b ∷ path) h =
    split (is_zero b)
    (λ t. rw t)
    (λ t. let k : suc (first_zero path) < suc (length path) = rw t at h in
    rw (t, add-one, keys_more path (le_of_suc-le-suc k), add-one))

-- a key without a zero byte, a zero, and a path: that key, and the path's keys
pub keys_behind : (key rest : List ℕ) → first_zero key ≡ length key → keys_of (key ++ (0 ∷ rest)) ≡ (key, (keys_of rest).0 ∷ (keys_of rest).1)
keys_behind [] rest e = refl
keys_behind (b ∷ key) rest e =
    split (is_zero b)
    (λ t. let z : 0 ≡ suc (length key) = rw t at e in absurd (omega arith))
    (λ t. let z : suc (first_zero key) ≡ suc (length key) = rw t at e in rw (t, keys_behind key rest (omega arith)))

-- ---- how many keys there may be

module _ (limit : Limit) (s path : List ℕ) where
  -- so many are looked up one after the other
  pub path_short : length (keys_of path).1 ≤ 200 → get_path_under limit s path ≡ look_along limit s (keys_of path).0 (keys_of path).1
  unfolding get_path_under
  path_short i = rw (le-leb _ _ i)

  pub path_long : 200 < length (keys_of path).1 → get_path_under limit s path ≡ refuses 21 0
  unfolding get_path_under
  path_long i = rw (lt-leb _ _ i)

-- ---- with a tag

-- what a typed path finds, the plain one finds, and it has the tag
pub path_with_says : (limit : Limit) (s path : List ℕ) (tag : ℕ) (f : Found) → get_path_with_under limit s path tag ≡ gives f
    → (get_path_under limit s path ≡ gives f) × (f.element.tag ≡ tag)
unfolding get_path_with_under
path_with_says limit s path tag f x = of_tag_says (get_path_under limit s path) tag f x
