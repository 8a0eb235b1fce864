-- The search for a key, begun at an offset: what a step there says of the whole search (RULES.md, "Values").
use Prim.Native.Nat.{ℕ, ◌+◌, ◌-◌}
use mathlib.Core.Path.{◌≡◌, sym, ◌∙◌}
use mathlib.Core.List.{List}
use mathlib.Core.Bool.{true, false}
use lib.ListN.{take, drop}
use Rattle.bson.specs.Answer.{gives, refuses}
use Rattle.bson.specs.Cstring.{Limit}
use Rattle.bson.specs.Bytes.{Part, same}
use Rattle.bson.specs.Step.{Element, past, cursor, yield, end, step_under}
use Rattle.bson.specs.Lookup.{find_under}
use Rattle.laws.proofs.BytesLaws.{slice_part}
use Rattle.laws.proofs.LookupLaws.{search_from, search_ends, search_refused, search_found, search_onward}

-- the bytes from a key's start up to its zero
abbrev pub up_to_zero : List ℕ → Part → List ℕ
up_to_zero s key = take (key.offset + key.size - key.offset) (drop key.offset s)

-- the loop goes over `whole`, which is all of the slice
pub record Searching (limit : Limit) (s key whole : List ℕ) (offset : ℕ) : Type 0 where
  pub all : whole ≡ s
  pub searched : search_from limit s key offset ≡ find_under limit s key

module _ {limit : Limit} {s key whole : List ℕ} {offset : ℕ} (i : Searching limit s key whole offset) where
  pub ends : step_under limit whole (cursor offset false) ≡ gives end → refuses 16 offset ≡ find_under limit s key
  ends e = sym (search_ends _ s key offset (rw i.all at e)) ∙ i.searched

  pub refused : {n p : ℕ} → step_under limit whole (cursor offset false) ≡ refuses n p → refuses n p ≡ find_under limit s key
  refused e = sym (search_refused _ s key offset _ _ (rw i.all at e)) ∙ i.searched

  module _ {e : Element} (y : step_under limit s (cursor offset false) ≡ gives (yield e)) where
    pub matched : same key (up_to_zero whole e.key) ≡ true → gives e ≡ find_under limit s key
    matched k = sym (search_found _ s key offset _ y (rw (i.all, slice_part s e.key) at k)) ∙ i.searched

    pub onward : same key (up_to_zero whole e.key) ≡ false → Searching limit s key whole (past e)
    onward k =
        let on = search_onward _ s key offset _ y (rw (i.all, slice_part s e.key) at k) in
        record { all = i.all; searched = sym on ∙ i.searched }
