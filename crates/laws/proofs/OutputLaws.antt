-- What follows from the definition of a lent buffer: one run after the other is one run, and the bytes behind stay (RULES.md, "What
-- every answer is bound to").
use Prim.Native.Nat.{ℕ, ◌+◌, ◌-◌, ◌≤◌, ◌<◌}
use mathlib.Core.Path.{◌≡◌, refl, sym, ap, subst, ◌∙◌}
use mathlib.Core.Bool.{true, false}
use mathlib.Core.List.{List, [], ◌∷◌, ◌++◌, append_assoc}
use native.Mathlib.Nat.{add_assoc, add-zero}
use native.Mathlib.Numerals.{add-one}
use native.Mathlib.Omega.{arith}
use lib.Dec.{leb}
use lib.ListN.{length, take, drop, set, length-append, length-take, length-drop, take-append-drop}
use lib.Seq.{take_at, drop_at, set_split, drop-drop, length-take-le, take-append-le, take-append_seam, drop-append-le, drop-append-add}
use lib.Seq.{take-length, paste}
use borrow.Author.Tests.{le-leb, leb-true}
use Rattle.laws.proofs.Common.{split}
use Rattle.bson.specs.Output.{Output, output, put, put_text, put_texts, joined}

-- ---- a run of bytes put

pub length_put : (buffer : List ℕ) (at : ℕ) (s : List ℕ) → at + length s ≤ length buffer → length (put buffer at s) ≡ length buffer
unfolding put
length_put buffer at s h = simp (length-append, length-take, length-drop) (omega arith)

pub put_nil : (buffer : List ℕ) (at : ℕ) → put buffer at [] ≡ buffer
unfolding put
put_nil buffer at = rw (add-zero) (take-append-drop at buffer)

-- what a loop that copies leaves
pub put_paste : (buffer : List ℕ) (at : ℕ) (s : List ℕ) → paste buffer at s (length s) ≡ put buffer at s
unfolding put
put_paste buffer at s = simp (take-length, append_assoc)

-- what stands in front of a run, up to its end, and behind it

further : (m n : ℕ) (a b : List ℕ) → m ≤ n → drop m a ≡ drop m b → drop n a ≡ drop n b
further m n a b h e =
    let k : m + (n - m) ≡ n = omega arith in
    ap (λ (i : ℕ). drop i a) (sym k) ∙ sym (drop-drop (n - m) m a) ∙ ap (drop (n - m)) e ∙ drop-drop (n - m) m b
    ∙ ap (λ (i : ℕ). drop i b) k

module _ (buffer : List ℕ) (at : ℕ) (s : List ℕ) (fits : at + length s ≤ length buffer) where
  front_length : length (take at buffer ++ s) ≡ at + length s
  front_length = simp (length-append, length-take) (omega arith)

  front_put : put buffer at s ≡ (take at buffer ++ s) ++ drop (at + length s) buffer
  unfolding put
  front_put = sym (append_assoc (take at buffer) s (drop (at + length s) buffer))

  pub take_put : take (at + length s) (put buffer at s) ≡ take at buffer ++ s
  take_put = ap (take (at + length s)) front_put ∙ take_at (take at buffer ++ s) (drop (at + length s) buffer) (at + length s) front_length

  -- "a call that writes keeps all bytes behind its output"
  pub drop_put : (n : ℕ) → at + length s ≤ n → drop n (put buffer at s) ≡ drop n buffer
  drop_put n h =
      further (at + length s) n (put buffer at s) buffer h
      (ap (drop (at + length s)) front_put ∙ drop_at (take at buffer ++ s) (drop (at + length s) buffer) (at + length s) front_length)

-- ---- two runs

-- one run after the other is one run
pub put_put : (buffer : List ℕ) (at : ℕ) (s t : List ℕ) → at + (length s + length t) ≤ length buffer
    → put (put buffer at s) (at + length s) t ≡ put buffer at (s ++ t)
unfolding put
put_put buffer at s t fits =
    let before = take_put buffer at s (omega arith) in
    let after = drop_put buffer at s (omega arith) (at + length s + length t) (omega arith) in
    rw (before, after) (simp (length-append, append_assoc, add_assoc))

pub put_byte : (buffer : List ℕ) (at d : ℕ) → at < length buffer → set buffer at d ≡ put buffer at (d ∷ [])
unfolding put
put_byte buffer at d h = rw add-one (set_split buffer at d h)

-- the byte in front of a run, stored before it
pub put_lead : (buffer : List ℕ) (at d : ℕ) (s : List ℕ) → at + (1 + length s) ≤ length buffer
    → put (set buffer at d) (at + 1) s ≡ put buffer at (d ∷ s)
put_lead buffer at d s h =
    ap (λ (b : List ℕ). put b (at + 1) s) (put_byte buffer at d (omega arith)) ∙ put_put buffer at (d ∷ []) s h

-- in the first of two lists
put_front : (a b : List ℕ) (at : ℕ) (s : List ℕ) → at + length s ≤ length a → put (a ++ b) at s ≡ put a at s ++ b
unfolding put
put_front a b at s h = rw (take-append-le at a b (omega arith), drop-append-le (at + length s) a b h) (simp (append_assoc))

-- a run inside the bytes in front
pub take_put_in : (buffer : List ℕ) (n at : ℕ) (s : List ℕ) → at + length s ≤ n → n ≤ length buffer
    → take n (put buffer at s) ≡ put (take n buffer) at s
take_put_in buffer n at s h g =
    let l : length (take n buffer) ≡ n = length-take-le n buffer g in
    ap (λ (b : List ℕ). take n (put b at s)) (sym (take-append-drop n buffer))
    ∙ ap (take n) (put_front (take n buffer) (drop n buffer) at s (omega arith))
    ∙ take_at (put (take n buffer) at s) (drop n buffer) n (length_put (take n buffer) at s (omega arith) ∙ l)

-- a run over another as long
pub put_over : (a b c s : List ℕ) → length b ≡ length s → put (a ++ (b ++ c)) (length a) s ≡ a ++ (s ++ c)
unfolding put
put_over a b c s h =
    let d : drop (length a + length s) (a ++ (b ++ c)) ≡ c = drop-append-add a (b ++ c) (length s) ∙ drop_at b c (length s) h in
    rw (d, take-append_seam)

-- a text that fits, and one that does not

-- ---- texts that fit

module _ (buffer : List ℕ) (used : ℕ) (text : List ℕ) where
  pub text_fits : used + length text ≤ length buffer
      → put_text (output buffer used) text ≡ output (put buffer used text) (used + length text)
  unfolding put_text
  text_fits h = simp (le-leb _ _ h)

  -- as the code meets them: by the text's size, the test and what was written
  module _ (size : ℕ) (s : size ≡ length text) where
    pub text_put : (exit : List ℕ) → leb (used + size) (length buffer) ≡ true → exit ≡ put buffer used text
        → output exit (used + size) ≡ put_text (output buffer used) text
    text_put exit t e = rw (s, e) (sym (text_fits (leb-true _ _ (rw s at t))))

    pub text_left : leb (used + size) (length buffer) ≡ false → output buffer used ≡ put_text (output buffer used) text
    unfolding put_text
    text_left t = rw (← s, t)

pub nothing_put : (o : Output) → put_text o [] ≡ o
unfolding put_text
nothing_put o =
    split (leb (o.used + 0) (length o.buffer))
    (λ t. rw t (ap (λ (b : List ℕ). output b (o.used + 0)) (put_nil o.buffer o.used) ∙ ap (output o.buffer) (add-zero o.used)))
    (λ t. rw t)

-- texts that fit together are one text
pub texts_fit : (o : Output) (texts : List (List ℕ)) → o.used + length (joined texts) ≤ length o.buffer
    → put_texts o texts ≡ output (put o.buffer o.used (joined texts)) (o.used + length (joined texts))
texts_fit o [] h = ap (λ (b : List ℕ). output b o.used) (sym (put_nil o.buffer o.used)) ∙ ap (output _) (sym (add-zero o.used))
texts_fit o (t ∷ ts) h =
    let n : length (t ++ joined ts) ≡ length t + length (joined ts) = length-append t (joined ts) in
    let f : o.used + length t ≤ length o.buffer = omega arith in
    let k = length_put o.buffer o.used t f in
    ap (λ (x : Output). put_texts x ts) (text_fits o.buffer o.used t f)
    ∙ texts_fit (output (put o.buffer o.used t) (o.used + length t)) ts (omega arith)
    ∙ ap (λ (b : List ℕ). output b (o.used + length t + length (joined ts))) (put_put o.buffer o.used t (joined ts) (omega arith))
    ∙ ap (output (put o.buffer o.used (t ++ joined ts))) (omega arith)

pub texts_append : (o : Output) (texts more : List (List ℕ)) → put_texts o (texts ++ more) ≡ put_texts (put_texts o texts) more
texts_append o [] more = refl
texts_append o (t ∷ ts) more = texts_append (put_text o t) ts more

-- ---- the end of the buffer, and the bytes behind

-- what is put never passes the end of the buffer, whose length stays
abbrev Within : ℕ → Output → Type 0
Within n o = (o.used ≤ n) × (length o.buffer ≡ n)

text_within : (n : ℕ) (o : Output) (text : List ℕ) → Within n o → Within n (put_text o text)
text_within n o text h =
    split (leb (o.used + length text) (length o.buffer))
    (λ t. let f = leb-true _ _ t in
    subst (Within n) (sym (text_fits o.buffer o.used text f)) (omega arith, length_put o.buffer o.used text f ∙ h.1))
    (λ t. subst (Within n) (text_left o.buffer o.used text _ refl t) h)

pub texts_within : (n : ℕ) (o : Output) (texts : List (List ℕ)) → (o.used ≤ n) × (length o.buffer ≡ n)
    → ((put_texts o texts).used ≤ n) × (length (put_texts o texts).buffer ≡ n)
texts_within n o [] h = h
texts_within n o (t ∷ ts) h = texts_within n (put_text o t) ts (text_within n o t h)

-- the bytes behind a text, and that the used bytes never become fewer
text_behind : (o : Output) (text : List ℕ)
    → (drop (put_text o text).used (put_text o text).buffer ≡ drop (put_text o text).used o.buffer) × (o.used ≤ (put_text o text).used)
text_behind o text =
    split (leb (o.used + length text) (length o.buffer))
    (λ t. let f = leb-true (o.used + length text) (length o.buffer) t in
    rw (text_fits o.buffer o.used text f)
    (drop_put o.buffer o.used text f (o.used + length text) (omega arith), omega arith))
    (λ t. rw (← text_left o.buffer o.used text _ refl t) (refl, omega arith))

pub texts_behind : (o : Output) (texts : List (List ℕ))
    → (drop (put_texts o texts).used (put_texts o texts).buffer ≡ drop (put_texts o texts).used o.buffer)
    × (o.used ≤ (put_texts o texts).used)
texts_behind o [] = (refl, omega arith)
texts_behind o (t ∷ ts) =
    let x = text_behind o t in
    let y = texts_behind (put_text o t) ts in
    (y.0 ∙ further (put_text o t).used (put_texts (put_text o t) ts).used (put_text o t).buffer o.buffer y.1 x.0, omega arith)

-- ---- behind what a call left

-- a text behind what a call left
pub then_put : {o p q : Output} (text : List ℕ) → p ≡ o → q ≡ put_text p text → q ≡ put_text o text
then_put text e f = f ∙ ap (λ (o : Output). put_text o text) e

-- pieces of a line that fits, put one after the other, are the line put
pub line_put : (buffer : List ℕ) (at : ℕ) (pieces : List (List ℕ)) (size : ℕ) (o : Output) → size ≡ length (joined pieces)
    → leb (at + size) (length buffer) ≡ true → o ≡ put_texts (output buffer at) pieces → o ≡ put_text (output buffer at) (joined pieces)
line_put buffer at pieces size o s t e =
    let h = leb-true (at + length (joined pieces)) (length buffer) (rw s at t) in
    e ∙ texts_fit (output buffer at) pieces h ∙ sym (text_fits buffer at (joined pieces) h)
