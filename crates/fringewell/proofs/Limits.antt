-- What a call answers under the option that is passed for a limit is what it answers under the limit, whatever its number (RULES.md,
-- request 2).
use Prim.Native.Nat.{ℕ}
use mathlib.Core.Path.{◌≡◌}
use mathlib.Core.List.{List}
use mathlib.Core.Bool.{Bool}
use Rattle.std.specs.Prelude.{Option, Some}
use Rattle.bson.specs.Cstring.{Limit, most}
use Rattle.bson.specs.Step.{Cursor}
use Rattle.bson.specs.Lookup.{get_under, get_with_under, get_at_under}
use Rattle.bson.specs.Lossy.{read_lossy_under}
use Rattle.bson.specs.Path.{get_path_under, get_path_with_under}
use Rattle.bson.specs.Check.{check_under}
use Rattle.cstr.specs.Said.{limit_of}
use Rattle.fringewell.specs.Left.{steps_under, reads_under}

module _ (m : Option ℕ) (n : ℕ) (is : m ≡ Some n) (s : List ℕ) where
  passed : {A : Type 0} (f : Limit → A) → f (limit_of m) ≡ f (most n)
  passed f = rw is

  pub check_passed : (strict : Bool) → check_under (limit_of m) strict s ≡ check_under (most n) strict s
  check_passed strict = passed (λ (l : Limit). check_under l strict s)

  pub lookup_passed : (key : List ℕ) → get_under (limit_of m) s key ≡ get_under (most n) s key
  lookup_passed key = passed (λ (l : Limit). get_under l s key)

  pub lookup_typed_passed : (key : List ℕ) (tag : ℕ) → get_with_under (limit_of m) s key tag ≡ get_with_under (most n) s key tag
  lookup_typed_passed key tag = passed (λ (l : Limit). get_with_under l s key tag)

  pub path_passed : (path : List ℕ) → get_path_under (limit_of m) s path ≡ get_path_under (most n) s path
  path_passed path = passed (λ (l : Limit). get_path_under l s path)

  pub path_typed_passed : (path : List ℕ) (tag : ℕ) → get_path_with_under (limit_of m) s path tag ≡ get_path_with_under (most n) s path tag
  path_typed_passed path tag = passed (λ (l : Limit). get_path_with_under l s path tag)

  pub step_passed : (c : Cursor) → steps_under (limit_of m) s c ≡ steps_under (most n) s c
  step_passed c = passed (λ (l : Limit). steps_under l s c)

  pub next_passed : (c : Cursor) → reads_under (limit_of m) s c ≡ reads_under (most n) s c
  next_passed c = passed (λ (l : Limit). reads_under l s c)

  pub read_passed : (place : ℕ) → get_at_under (limit_of m) s place ≡ get_at_under (most n) s place
  read_passed place = passed (λ (l : Limit). get_at_under l s place)

  pub shown_passed : (place : ℕ) (buffer : List ℕ) → read_lossy_under (limit_of m) s place buffer ≡ read_lossy_under (most n) s place buffer
  shown_passed place buffer = passed (λ (l : Limit). read_lossy_under l s place buffer)
