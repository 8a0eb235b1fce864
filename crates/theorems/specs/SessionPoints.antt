-- What a session makes of its calls, by calls that show it: the tree, and that its bytes are those left (RULES.md, "Writer and joining").
use Rattle.std.specs.Prelude.{ℕ, ◌≡◌, List, [], ◌∷◌, true, take}
use Rattle.bson.specs.Answer.{gives}
use Rattle.bson.specs.Check.{check}
use Rattle.bson.specs.Value.{null}
use Rattle.bson.specs.Grammar.{document, array, embedded, Elements, none, leaf, nest, tree_bytes}
use Rattle.bson.specs.Writer.{used, Desk, Call, open_top, close, append, open_nest}
use Rattle.bson.specs.WriterPoints.{blank, zero_key}
use Rattle.theorems.specs.ReadBack.{open_of, Building, unopened, building, built, key_for, Session, run, session_start, ReadsBack}

-- "begun fresh", in a buffer that has room for all
abbrev pub session_of : List Call → Session
session_of calls = run calls (session_start (blank 30))

abbrev pub made : List Call → Building
made calls = (session_of calls).tree

abbrev pub used_bytes : Desk → List ℕ
used_bytes d = take (used d.state) d.buffer

-- a null under a key
abbrev pub null_at : List ℕ → Elements → Elements
null_at key rest = leaf key null rest

-- an array `x` of a null and an empty document; in an array "a given key is not looked at"
abbrev pub nested_calls : List Call
nested_calls = open_top ∷ open_nest array (0x78 ∷ []) ∷ append zero_key null ∷ open_nest document zero_key ∷ close ∷ close ∷ close ∷ []

abbrev pub nested_tree : Elements
nested_tree = nest (embedded array) (0x78 ∷ []) (null_at (0x30 ∷ []) (nest (embedded document) (0x31 ∷ []) none none)) none

pub record SessionPoints : Type 0 where
  -- the keys of an array are 0 and 1, whatever is given
  pub first_key : key_for (open_of array [] none) zero_key ≡ 0x30 ∷ []
  pub second_key : key_for (open_of array [] (null_at (0x30 ∷ []) none)) zero_key ≡ 0x31 ∷ []
  -- what is open has its elements so far; what is closed has them all
  pub so_far : made (open_top ∷ append (0x61 ∷ []) null ∷ []) ≡ building (open_of document [] (null_at (0x61 ∷ []) none)) []
  pub at_last : made (open_top ∷ append (0x61 ∷ []) null ∷ close ∷ []) ≡ built (null_at (0x61 ∷ []) none)
  pub nested : made nested_calls ≡ built nested_tree
  pub nested_bytes : used_bytes (session_of nested_calls).left ≡ tree_bytes nested_tree
  -- and reading back says that it passes the strict check, with three values
  pub nested_strict : (d : Desk) → ReadsBack d nested_tree → check true (tree_bytes nested_tree) ≡ gives 3
  -- refused calls leave the tree: before the top is opened, for a zero in a key, and when it is closed
  pub too_early : made (append [] null ∷ close ∷ []) ≡ unopened
  pub zero_in_key : made (open_top ∷ append zero_key null ∷ close ∷ []) ≡ built none
  pub too_late : made (open_top ∷ close ∷ append [] null ∷ []) ≡ built none
