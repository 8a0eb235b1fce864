-- The definition's rows as the code has them, and that asking them sizes each tag as the definition does: one test over all 256 tags
-- (RULES.md, "Admission and one step").
use Prim.Native.Nat.{ℕ, zero, suc, ◌+◌, ◌<◌, ◌≤◌}
use mathlib.Core.Path.{◌≡◌, refl, ap, subst, sym}
use mathlib.Core.List.{List, [], ◌∷◌, map}
use mathlib.Core.Bool.{cond}
use mathlib.Core.Logic.{⊎_elim}
use native.Mathlib.Nat.{le_of_suc-le-suc, not-suc-le-zero, eq-or-lt_of_le}
use native.Mathlib.Numerals.{add-one}
use borrow.Author.Tests.{eq-eqb, ne_eqb, lt-ltb, le-ltb}
use lib.Dec.{eqb, ltb}
use lib.ListN.{length, get_or, take, drop, drop_of_length-le}
use lib.Seq.{drop-cons}
use Rattle.bson.specs.Answer.{Answer, gives, refuses}
use Rattle.bson.specs.Tags.{Sized, fixed, as_string, as_pointer, as_document, as_binary, as_regex, as_scope, tags, row_of, sized_of}
use Rattle.std.specs.Prelude.{Result, Ok, Err}
use Rattle.refusal.specs.Said.{said_by}
use Rattle.refusal.specs.declared.Refusal.{Refusal}
use Rattle.refusal.specs.declared.Refusal.TheVariants.{UnknownTag}
use Rattle.tags.specs.Said.{said_kind}
use Rattle.tags.specs.declared.Row.{Row}
use Rattle.tags.specs.declared.Kind.{Kind}
use Rattle.tags.specs.declared.Kind.TheVariants.{Fixed, String, Pointer, Document, Binary, Regex, Scope}

-- ---- the constant of the code

-- how a value is sized, in the words of the code
abbrev pub as_kind : Sized → Kind
as_kind (fixed n) = Fixed n
as_kind as_string = String
as_kind as_pointer = Pointer
as_kind as_document = Document
as_kind as_binary = Binary
as_kind as_regex = Regex
as_kind as_scope = Scope

-- the definition's rows, in its order
unfoldable pub table : List Row
table = map (λ r. record { tag = r.tag; kind = as_kind r.sized }) tags

-- ---- the rule of the table

-- the kind of the first of the rows that has the tag
abbrev found : List Row → ℕ → Result Kind Refusal
found [] tag = Err UnknownTag
found (r ∷ rs) tag = cond (eqb r.tag tag) (Ok r.kind) (found rs tag)

abbrev said : Result Kind Refusal → Answer Sized
said = said_by said_kind

-- the rows that are asked for a tag: above 13 those of min key and max key alone
abbrev asked : ℕ → List Row
asked tag = cond (ltb 19 tag) (take 2 (drop 10 table)) table

-- what is answered to every number below n, the last first
abbrev answers : (ℕ → Answer Sized) → ℕ → List (Answer Sized)
answers f zero = []
answers f (suc n) = f n ∷ answers f n

alike_at : (f g : ℕ → Answer Sized) (n : ℕ) → answers f n ≡ answers g n → (k : ℕ) → k < n → f k ≡ g k
alike_at f g zero e k h = absurd (not-suc-le-zero h)
alike_at f g (suc n) e k h =
    ⊎_elim (λ p. subst (λ (m : ℕ). f m ≡ g m) (sym p) (ap (λ (l : List (Answer Sized)). get_or l 0 (f n)) e))
    (λ l. alike_at f g n (ap (λ (l : List (Answer Sized)). drop 1 l) e) k l)
    (eq-or-lt_of_le (le_of_suc-le-suc h))

-- of every tag, what the rows that are asked answer is the definition's answer
pub of_tag_law : (tag : ℕ) → tag < 256 → said (found (asked tag) tag) ≡ sized_of tag
unfolding table tags row_of
of_tag_law = alike_at (λ tag. said (found (asked tag) tag)) sized_of 256 refl

-- ---- above 13

module _ (tag : ℕ) (small : tag < 256) (high : 19 < tag) where
  of_two : said (found (take 2 (drop 10 table)) tag) ≡ sized_of tag
  of_two = rw (lt-ltb 19 tag high) at (of_tag_law tag small)

  pub is_min_key : 0xFF ≡ tag → gives (fixed 0) ≡ sized_of tag
  unfolding table tags
  is_min_key e = rw (eq-eqb 0xFF tag e) at of_two

  pub is_max_key : (0xFF ≡ tag → ⊥) → 0x7F ≡ tag → gives (fixed 0) ≡ sized_of tag
  unfolding table tags
  is_max_key n e = rw (ne_eqb 0xFF tag n, eq-eqb 0x7F tag e) at of_two

  pub is_neither : (0xFF ≡ tag → ⊥) → (0x7F ≡ tag → ⊥) → refuses 7 0 ≡ sized_of tag
  unfolding table tags
  is_neither n m = rw (ne_eqb 0xFF tag n, ne_eqb 0x7F tag m) at of_two

-- ---- up to 13, row by row

-- the rows from i on answer for the table
pub record Searched (rows : List Row) (tag i : ℕ) : Type 0 where
  pub same : said (found (drop i rows) tag) ≡ sized_of tag

pub first_row : {rows : List Row} {tag : ℕ} → rows ≡ table → tag < 256 → tag ≤ 19 → Searched rows tag 0
first_row {tag = tag} e small low = record { same = rw (e, ← of_tag_law tag small, le-ltb 19 tag low) }

module _ {rows : List Row} {tag i : ℕ} (s : Searched rows tag i) (d : Row) (h : i < length rows) where
  asks_row : said (cond (eqb (get_or rows i d).tag tag) (Ok (get_or rows i d).kind) (found (drop (suc i) rows) tag)) ≡ sized_of tag
  asks_row = rw (drop-cons rows i d h) at s.same

  pub this_row : (get_or rows i d).tag ≡ tag → gives (said_kind (get_or rows i d).kind) ≡ sized_of tag
  this_row e = rw (eq-eqb _ tag e) at asks_row

  pub next_row : ((get_or rows i d).tag ≡ tag → ⊥) → Searched rows tag (i + 1)
  next_row n = rw add-one (record { same = rw (ne_eqb _ tag n) at asks_row })

pub no_row : {rows : List Row} {tag i : ℕ} → Searched rows tag i → length rows ≤ i → refuses 7 0 ≡ sized_of tag
no_row {rows} s h = rw (drop_of_length-le rows h) at s.same
