-- What a lossy reading answers, said by the strict one: the same text where that gives one, the same refusals but for 6, and 17 for every
-- other type; what is written is UTF-8, and three times the bytes of the value are room enough (RULES.md, request 4).
use Rattle.std.specs.Prelude.{ℕ, ◌*◌, ◌≤◌, ◌<◌, ◌≡◌, List, Bool, true, false, cond, ◌||◌, leb, eqb, length, take, drop}
use Rattle.bson.specs.Answer.{gives, refuses}
use Rattle.bson.specs.Bytes.{Part, bytes}
use Rattle.bson.specs.Cstring.{Limit}
use Rattle.bson.specs.Utf8.{utf8}
use Rattle.bson.specs.Output.{put}
use Rattle.bson.specs.Step.{Element}
use Rattle.bson.specs.Value.{parts_of, element_at_under, read_at_under}
use Rattle.bson.specs.Lookup.{Found, get_at_under}
use Rattle.bson.specs.Lossy.{lossy, Leaves, leaves, Shown, read_lossy_under}

-- of a text
pub record LossyText : Type 0 where
  -- "good text comes through unchanged", also in front of damage
  pub good : (v : List ℕ) → utf8 v ≡ true → lossy v ≡ v
  -- "what is written is UTF-8"
  pub utf8 : (v : List ℕ) → utf8 (lossy v) ≡ true
  -- "it has at most three times the bytes"
  pub size : (v : List ℕ) → length (lossy v) ≤ 3 * length v

-- "string, code, symbol, DBPointer namespace and code with scope"
abbrev pub has_text : ℕ → Bool
has_text tag = eqb tag 0x02 || (eqb tag 0x0D || (eqb tag 0x0E || (eqb tag 0x0C || eqb tag 0x0F)))

-- a text in front of the buffer, where it fits, and what is told of it
abbrev pub written : Element → List ℕ → Part → List ℕ → Leaves Shown
written e text second buffer =
    cond (leb (length text) (length buffer))
    (leaves (gives (record { element = e; size = length text; second = second })) (put buffer 0 text))
    (leaves (refuses 14 0) buffer)

-- and of a reading at a place
pub record LossyReads (limit : Limit) (s : List ℕ) (place : ℕ) (buffer : List ℕ) : Type 0 where
  -- "where the strict reading gives a text the lossy one gives the same"
  pub strict : (f : Found) → get_at_under limit s place ≡ gives f → has_text f.element.tag ≡ true
      → read_lossy_under limit s place buffer ≡ written f.element (bytes s (parts_of f.value).0) (parts_of f.value).1 buffer
  -- "refusals: those of framing and inner shape as before, without 6"
  pub step : (k p : ℕ) → element_at_under limit s place ≡ refuses k p → read_lossy_under limit s place buffer ≡ leaves (refuses k p) buffer
  pub shape : (e : Element) (k p : ℕ) → element_at_under limit s place ≡ gives e → has_text e.tag ≡ true
      → read_at_under limit s place ≡ refuses k p → (k ≡ 6 → ⊥) → read_lossy_under limit s place buffer ≡ leaves (refuses k p) buffer
  -- a text whose own bytes are all that is refused is shown, where it fits
  pub damaged : (e : Element) (k p : ℕ) → element_at_under limit s place ≡ gives e → has_text e.tag ≡ true → (e.tag ≡ 0x0F → ⊥)
      → (read_lossy_under limit s place buffer).answer ≡ refuses k p → k ≡ 14
  -- "17 for any other type once framed, its value unread"
  pub other : (e : Element) → element_at_under limit s place ≡ gives e → has_text e.tag ≡ false
      → read_lossy_under limit s place buffer ≡ leaves (refuses 17 place) buffer
  -- a refusal leaves the buffer as it was; 14 has no place, and three times the bytes of the value are room enough
  pub refused : (k p : ℕ) → (read_lossy_under limit s place buffer).answer ≡ refuses k p → (read_lossy_under limit s place buffer).left ≡ buffer
  pub room : (e : Element) (p : ℕ) → element_at_under limit s place ≡ gives e → (read_lossy_under limit s place buffer).answer ≡ refuses 14 p
      → (p ≡ 0) × (length buffer < 3 * e.value.size)
  -- what is written is UTF-8, and the bytes behind it stay
  pub wrote : (w : Shown) → (read_lossy_under limit s place buffer).answer ≡ gives w
      → (utf8 (take w.size (read_lossy_under limit s place buffer).left) ≡ true)
      × (drop w.size (read_lossy_under limit s place buffer).left ≡ drop w.size buffer)
