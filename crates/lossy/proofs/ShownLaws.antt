-- A text that is shown, chunk by chunk: its size against a room, and what is put into the buffer (RULES.md, request 4).
use Prim.Native.Nat.{ℕ, zero, suc, ◌+◌, ◌-◌, ◌/◌, ◌<◌, ◌≤◌}
use mathlib.Core.Path.{◌≡◌, refl, sym, ap, ◌∙◌}
use mathlib.Core.List.{List, [], ◌∷◌, ◌++◌, append_assoc, append-nil}
use mathlib.Core.Bool.{true, false}
use native.Mathlib.Nat.{not-suc-le-zero, div-add-mod'}
use native.Mathlib.Omega.{arith}
use lib.Dec.{leb}
use lib.ListN.{length, take, drop, length-append, length-drop}
use lib.Seq.{take-add, drop-drop, length-take-le}
use borrow.Author.Tests.{le-leb, lt-leb, leb-true, leb-false}
use Rattle.bson.specs.Answer.{Answer, gives, refuses, unless}
use Rattle.bson.specs.Utf8.{rows, begin}
use Rattle.bson.specs.Lossy.{piece, piece_of, pieces_for, pieces, replacement, lossy}
use Rattle.bson.specs.Output.{Output, output, put_text}
use Rattle.laws.proofs.AnswerLaws.{never, unless_gives, gives_injective}
use Rattle.laws.proofs.Common.{split, rest_part}
use Rattle.laws.proofs.LossyLaws.{piece_some, piece_within, lossy_nil, lossy_cons, lossy_size}
use Rattle.laws.proofs.OutputLaws.{length_put, nothing_put, text_fits, texts_fit}
use Rattle.utf8.specs.Chunks.{behind, chunk_of}
use Rattle.utf8.specs.declared.chunks.Chunk.{Chunk}
use Rattle.utf8.proofs.ChunkLaws.{piece_bad, piece_good}
use Rattle.lossy.specs.Marks.{mark, size_shown}

-- ---- the first chunk

-- what is shown of a text: the characters of its first chunk, the mark for its bad part, and what is shown of the rest
pub record Splits (v : List ℕ) (c : Chunk) : Type 0 where
  pub inside : c.valid + c.invalid ≤ length v
  pub onward : 0 < length v → 0 < c.valid + c.invalid
  pub shows : lossy v ≡ take c.valid v ++ (mark c.invalid ++ lossy (drop (c.valid + c.invalid) v))

mark_some : (n : ℕ) → 0 < n → mark n ≡ replacement
mark_some zero h = absurd (omega arith)
mark_some (suc n) h = refl

pub mark_none : (n : ℕ) → n ≡ 0 → mark n ≡ []
mark_none n e = rw e

splits_nil : Splits [] (chunk_of [])
unfolding chunk_of lossy pieces pieces_for
splits_nil = record { inside = omega arith; onward = λ h. absurd (omega arith); shows = refl }

-- a character more in front
splits_behind : (n : ℕ) (v : List ℕ) (c : Chunk) → 0 < n → n ≤ length v → lossy v ≡ take n v ++ lossy (drop n v) → Splits (drop n v) c
    → Splits v (behind n c)
splits_behind n v c h k e s =
    let l = length-drop n v in
    let z : n + c.valid + c.invalid ≡ n + (c.valid + c.invalid) = omega arith in
    record {
      inside = omega (arith, s.inside);
      onward = λ _. omega arith;
      shows =
          e ∙ ap (λ (w : List ℕ). take n v ++ w) s.shows
          ∙ sym (append_assoc (take n v) (take c.valid (drop n v)) (mark c.invalid ++ lossy (drop (c.valid + c.invalid) (drop n v))))
          ∙ rw (take-add n c.valid v, drop-drop (c.valid + c.invalid) n v, z);
    }

splits_for : (n : ℕ) (v : List ℕ) → length v ≤ n → Splits v (chunk_of v)
splits_for zero [] h = splits_nil
splits_for zero (b ∷ v) h = absurd (not-suc-le-zero h)
splits_for (suc n) [] h = splits_nil
splits_for (suc n) (b ∷ v) h =
    let p = piece_of b v in
    let w = b ∷ v in
    let some = piece_some (begin rows b) v in
    let within = piece_within (begin rows b) v in
    let l = length-drop p.size w in
    split p.good
    (λ t. let e : p ≡ piece p.size true = ap (piece p.size) t in
    rw (piece_good p.size w (omega arith) e)
    (splits_behind p.size w (chunk_of (drop p.size w)) some within (rw t at (lossy_cons b v))
    (splits_for n (drop p.size w) (omega arith))))
    (λ t. let e : p ≡ piece p.size false = ap (piece p.size) t in
    let z : 0 + p.size ≡ p.size = omega arith in
    rw (piece_bad p.size w (omega arith) e)
    (record { inside = omega arith; onward = λ _. omega arith; shows = rw (mark_some p.size some, z) (rw t at (lossy_cons b v)) }))

splits : (v : List ℕ) → Splits v (chunk_of v)
splits v = splits_for (length v) v (omega arith)

shown_length : {v : List ℕ} {c : Chunk} → Splits v c → length (lossy v) ≡ size_shown c + length (lossy (drop (c.valid + c.invalid) v))
shown_length {v} {c} s =
    let l = length-take-le c.valid v (omega (arith, s.inside)) in
    ap length s.shows ∙ simp length-append (omega arith)

-- it lies in the text, and one goes on behind it; the first part shows `grind` the call to match
pub chunk_in : (v : List ℕ) → 0 < length v → (chunk_of v ≡ chunk_of v) × ((chunk_of v).valid + (chunk_of v).invalid ≤ length v)
    × (0 < (chunk_of v).valid + (chunk_of v).invalid)
chunk_in v h = (refl, (splits v).inside, (splits v).onward h)

-- what is left behind it, as the code meets it
abbrev pub left_behind : List ℕ → Chunk → List ℕ
left_behind v c = take (length v - (c.valid + c.invalid)) (drop (c.valid + c.invalid) v)

-- ---- whether it fits

-- three times its bytes are enough
pub large_room : (text : List ℕ) (room : ℕ) → length text ≤ room / 3 → true ≡ leb (length (lossy text)) room
large_room text room h = sym (le-leb (length (lossy text)) room (omega (arith, lossy_size text, div-add-mod' room 3)))

-- no text is left
pub nothing_fits : (v : List ℕ) (left : ℕ) → length v ≡ 0 → leb (length (lossy v)) left ≡ true
nothing_fits [] left e = rw lossy_nil (le-leb 0 left (omega arith))
nothing_fits (b ∷ v) left e = absurd (omega arith)

rest_fits : (whole front rest left : ℕ) → whole ≡ front + rest → front ≤ left → leb rest (left - front) ≡ leb whole left
rest_fits whole front rest left e h =
    split (leb whole left)
    (λ t. rw t (le-leb rest (left - front) (omega (arith, leb-true whole left t))))
    (λ t. rw t (lt-leb rest (left - front) (omega (arith, leb-false whole left t))))

-- what is left of the room behind a chunk
abbrev pub behind_chunk : Chunk → ℕ → Answer ℕ
behind_chunk c left = unless (leb (size_shown c) left) 14 (gives (left - size_shown c))

-- a chunk with no room for it ends the measure, and behind one that has room it goes on
pub chunk_too_long : (v : List ℕ) {c : Chunk} (left : ℕ) {number : ℕ} → c ≡ chunk_of v → refuses number 0 ≡ behind_chunk c left
    → leb (length (lossy v)) left ≡ false
chunk_too_long v {c} left e r =
    let n : length (lossy v) ≡ size_shown c + length (lossy (drop (c.valid + c.invalid) v)) = shown_length (rw e (splits v)) in
    split (leb (size_shown c) left)
    (λ t. never (rw t at r))
    (λ t. lt-leb (length (lossy v)) left (omega (arith, leb-false (size_shown c) left t)))

pub chunk_fits : (v : List ℕ) {c : Chunk} (left : ℕ) {n : ℕ} → c ≡ chunk_of v → gives n ≡ behind_chunk c left
    → leb (length (lossy (left_behind v c))) n ≡ leb (length (lossy v)) left
chunk_fits v {c} left {n} e r =
    let (t, g) = unless_gives (leb (size_shown c) left) 14 (gives (left - size_shown c)) (sym r) in
    let q : left - size_shown c ≡ n = gives_injective g in
    let size : length (lossy v) ≡ size_shown c + length (lossy (drop (c.valid + c.invalid) v)) = shown_length (rw e (splits v)) in
    rw (rest_part v (c.valid + c.invalid), ← q) (rest_fits _ (size_shown c) _ left size (leb-true (size_shown c) left t))

-- ---- what is put

-- no text is left
pub nothing_left : (v buffer : List ℕ) (at : ℕ) → length v ≡ 0 → put_text (output buffer at) (lossy v) ≡ output buffer at
nothing_left [] buffer at e = rw lossy_nil (nothing_put (output buffer at))
nothing_left (b ∷ v) buffer at e = absurd (omega arith)

put_append : (o : Output) (x y : List ℕ) → o.used + (length x + length y) ≤ length o.buffer → put_text (put_text o x) y ≡ put_text o (x ++ y)
put_append o x y h =
    let n : length (x ++ (y ++ [])) ≡ length x + length y = simp (length-append, append-nil) in
    texts_fit o (x ∷ y ∷ []) (omega arith)
    ∙ sym (text_fits o.buffer o.used (x ++ (y ++ [])) (omega arith))
    ∙ ap (λ (w : List ℕ). put_text o (x ++ w)) (append-nil y)

-- what is left fits, and put behind what is put it is the whole text put
pub record Putting (o : Output) (v : List ℕ) (all : Output) : Type 0 where
  pub fits : o.used + length (lossy v) ≤ length o.buffer
  pub same : put_text o (lossy v) ≡ all

-- a chunk put leaves what is behind it to be put
pub chunk_put : {o p q all : Output} {v : List ℕ} {c : Chunk} → Putting o v all → c ≡ chunk_of v
    → p ≡ put_text o (take c.valid v) → q ≡ put_text p (mark c.invalid) → Putting q (left_behind v c) all
chunk_put {o} {p} {q} {all} {v} {c} i e a b =
    let s : Splits v c = rw e (splits v) in
    let x = take c.valid v in
    let m = mark c.invalid in
    let w = lossy (drop (c.valid + c.invalid) v) in
    let l : length x ≡ c.valid = length-take-le c.valid v (omega (arith, s.inside)) in
    let size = shown_length s in
    let y : length (x ++ m) ≡ length x + length m = length-append x m in
    let front : q ≡ put_text o (x ++ m) = b ∙ ap (λ (o : Output). put_text o m) a ∙ put_append o x m (omega (arith, i.fits)) in
    let is = front ∙ text_fits o.buffer o.used (x ++ m) (omega (arith, i.fits)) in
    let used : q.used ≡ o.used + length (x ++ m) = ap (λ (o : Output). o.used) is in
    let long : length q.buffer ≡ length o.buffer =
    ap (λ (o : Output). length o.buffer) is ∙ length_put o.buffer o.used (x ++ m) (omega (arith, i.fits)) in
    rw (rest_part v (c.valid + c.invalid))
    (record {
      fits = omega (arith, i.fits);
      same =
          ap (λ (o : Output). put_text o w) front
          ∙ put_append o (x ++ m) w (omega (arith, i.fits))
          ∙ ap (put_text o) (append_assoc x m w ∙ sym s.shows)
          ∙ i.same;
    })
