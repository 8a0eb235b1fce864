-- The words of a writer's state: of a fresh one, after an element more, after an opening and after a closing (RULES.md, "Writer and
-- joining").
use Prim.Native.Nat.{ℕ, zero, suc, ◌+◌, ◌-◌, ◌≤◌, ◌<◌}
use mathlib.Core.Path.{◌≡◌, refl, ap, ◌∙◌}
use mathlib.Core.Bool.{true}
use mathlib.Core.List.{[], ◌∷◌}
use native.Mathlib.Omega.{arith}
use lib.ListN.{length, get_or, set, length-replicate, length-set}
use lib.Seq.{get_or-set_same, get_or-set_other}
use borrow.Author.Tests.{lt-ltb, leb-true}
use Rattle.bson.specs.Answer.{gives}
use Rattle.bson.specs.Writer.{State, fresh, used, depth, start_at, start, mark_at, mark, Kind, in_document, in_array, kind_of, kind_holds, grown}
use Rattle.bson.specs.Writer.{pushed, popped}

-- ---- words and kinds

-- one element more, in an array of so many
abbrev pub once_more : Kind → Kind
once_more in_document = in_document
once_more (in_array count) = in_array (count + 1)

pub fresh_words : length fresh ≡ 406
unfolding fresh
fresh_words = length-replicate {A = ℕ} 406 0

pub fresh_closed : depth fresh ≡ 0
unfolding fresh
fresh_closed = refl

kind_array : (n : ℕ) → n ≤ 2147483647 → kind_of n ≡ gives (in_array n)
unfolding kind_of
kind_array n h = rw (lt-ltb n 0x8000_0000 (omega arith))

-- a word that is not 0 is there
pub there : (w : State) (i : ℕ) → 0 < get_or w i 0 → i < length w
there [] i h = absurd (omega arith)
there (x ∷ w) zero h = omega arith
there (x ∷ w) (suc i) h = omega (arith, there w i h)

-- ---- an element more

module _ (w : State) where
  -- all but the used bytes and the innermost's mark stay
  pub grown_used : (kind : Kind) (n : ℕ) → 0 < length w → used (grown kind w n) ≡ used w + n
  unfolding grown
  grown_used in_document n h = get_or-set_same w 0 (used w + n) 0 h
  grown_used (in_array count) n h =
      get_or-set_other (set w 0 (used w + n)) (mark_at (depth w - 1)) 0 (count + 1) 0 (λ e. omega arith) ∙ get_or-set_same w 0 (used w + n) 0 h

  pub grown_other : (kind : Kind) (n i : ℕ) → 0 < i → (i ≡ mark_at (depth w - 1) → ⊥) → get_or (grown kind w n) i 0 ≡ get_or w i 0
  unfolding grown
  grown_other in_document n i p m = get_or-set_other w 0 i (used w + n) 0 (λ e. omega arith)
  grown_other (in_array count) n i p m =
      get_or-set_other (set w 0 (used w + n)) (mark_at (depth w - 1)) i (count + 1) 0 m
      ∙ get_or-set_other w 0 i (used w + n) 0 (λ e. omega arith)

  pub grown_depth : (kind : Kind) (n : ℕ) → depth (grown kind w n) ≡ depth w
  grown_depth kind n = grown_other kind n 1 (omega arith) (λ e. omega arith)

module _ (w : State) (h : length w ≡ 406) where
  stored : (i x : ℕ) → i < 406 → get_or (set w i x) i 0 ≡ x
  stored i x l = get_or-set_same w i x 0 (omega arith)

  pub grown_words : (kind : Kind) (n : ℕ) → length (grown kind w n) ≡ 406
  unfolding grown
  grown_words in_document n = length-set w 0 _ ∙ h
  grown_words (in_array count) n = length-set (set w 0 (used w + n)) _ _ ∙ length-set w 0 _ ∙ h

  -- the innermost's kind; its count stays a number below 2³¹, since it is none above the used bytes
  pub grown_mark : (kind : Kind) (n : ℕ) → kind_holds (used w) kind ≡ true → used w < 2147483647 → 0 < depth w → depth w ≤ 202
      → kind_of (mark w (depth w - 1)) ≡ gives kind → kind_of (mark (grown kind w n) (depth w - 1)) ≡ gives (once_more kind)
  unfolding grown kind_holds
  grown_mark in_document n c small some most k =
      ap kind_of (get_or-set_other w 0 (mark_at (depth w - 1)) (used w + n) 0 (λ e. omega arith)) ∙ k
  grown_mark (in_array count) n c small some most k =
      ap kind_of (get_or-set_same (set w 0 (used w + n)) (mark_at (depth w - 1)) (count + 1) 0 (simp (length-set) (omega arith)))
      ∙ kind_array (count + 1) (omega (arith, leb-true count (used w) c))

  -- ---- a document more

  -- two more words, and the depth
  pub pushed_words : (m : ℕ) → length (pushed w m) ≡ 406
  unfolding pushed
  pushed_words m = simp (length-set) h

  pub pushed_other : (m i : ℕ) → (i ≡ 1 → ⊥) → (i ≡ start_at (depth w) → ⊥) → (i ≡ mark_at (depth w) → ⊥) → get_or (pushed w m) i 0 ≡ get_or w i 0
  unfolding pushed
  pushed_other m i a b c =
      get_or-set_other (set (set w (start_at (depth w)) (used w - 4)) (mark_at (depth w)) m) 1 i (depth w + 1) 0 a
      ∙ get_or-set_other (set w (start_at (depth w)) (used w - 4)) (mark_at (depth w)) i m 0 c
      ∙ get_or-set_other w (start_at (depth w)) i (used w - 4) 0 b

  pub pushed_used : (m : ℕ) → used (pushed w m) ≡ used w
  pushed_used m = pushed_other m 0 (λ e. omega arith) (λ e. omega arith) (λ e. omega arith)

  pub pushed_depth : (m : ℕ) → depth (pushed w m) ≡ depth w + 1
  unfolding pushed
  pushed_depth m = get_or-set_same (set (set w (start_at (depth w)) (used w - 4)) (mark_at (depth w)) m) 1 _ 0 (simp (length-set) (omega arith))

  pub pushed_start : (m : ℕ) → depth w ≤ 201 → start (pushed w m) (depth w) ≡ used w - 4
  unfolding pushed
  pushed_start m low =
      get_or-set_other (set (set w (start_at (depth w)) (used w - 4)) (mark_at (depth w)) m) 1 (start_at (depth w)) (depth w + 1) 0
      (λ e. omega arith)
      ∙ get_or-set_other (set w (start_at (depth w)) (used w - 4)) (mark_at (depth w)) (start_at (depth w)) m 0 (λ e. omega arith)
      ∙ stored (start_at (depth w)) (used w - 4) (omega arith)

  pub pushed_mark : (m : ℕ) → depth w ≤ 201 → mark (pushed w m) (depth w) ≡ m
  unfolding pushed
  pushed_mark m low =
      get_or-set_other (set (set w (start_at (depth w)) (used w - 4)) (mark_at (depth w)) m) 1 (mark_at (depth w)) (depth w + 1) 0
      (λ e. omega arith)
      ∙ get_or-set_same (set w (start_at (depth w)) (used w - 4)) (mark_at (depth w)) m 0 (simp (length-set) (omega arith))

  -- ---- a document fewer

  pub popped_words : length (popped w) ≡ 406
  popped_words = simp (length-set) h

  pub popped_used : used (popped w) ≡ used w + 1
  popped_used = get_or-set_other (set w 0 (used w + 1)) 1 0 (depth w - 1) 0 (λ e. omega arith) ∙ stored 0 _ (omega arith)

  pub popped_depth : depth (popped w) ≡ depth w - 1
  popped_depth = get_or-set_same (set w 0 (used w + 1)) 1 _ 0 (simp (length-set) (omega arith))

  pub popped_other : (i : ℕ) → 1 < i → get_or (popped w) i 0 ≡ get_or w i 0
  popped_other i p =
      get_or-set_other (set w 0 (used w + 1)) 1 i (depth w - 1) 0 (λ e. omega arith)
      ∙ get_or-set_other w 0 i (used w + 1) 0 (λ e. omega arith)
