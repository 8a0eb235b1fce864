-- ChunkLaws: the first chunk of a text, behind UTF-8 and byte by byte (RULES.md, request 4).
use Prim.Native.Nat.{ℕ, suc, ◌+◌, ◌-◌, ◌<◌, ◌≤◌}
use mathlib.Core.Path.{◌≡◌, refl, ap, sym, ◌∙◌}
use mathlib.Core.List.{List, [], ◌∷◌, ◌++◌}
use mathlib.Core.Bool.{Bool, true, false, cond}
use native.Mathlib.Nat.{add_assoc}
use native.Mathlib.Omega.{arith}
use borrow.Author.Tests.{ne_eqb, eqb-true, eqb-false, ltb-true, ltb-false}
use lib.Dec.{eqb, ltb}
use lib.ListN.{length, get_or, take, drop, length-append, length-drop, drop_of_length-le}
use lib.Seq.{drop-cons, drop-drop, drop-append_seam}
use Rattle.bson.specs.Utf8.{Range, in_range, rows, Left, bad, ranges, begin, next, utf8}
use Rattle.bson.specs.Lossy.{Piece, piece, longer, follow, piece_of, pieces_for, pieces}
use Rattle.laws.proofs.Common.{split, rest_part}
use Rattle.laws.proofs.LossyLaws.{pieces_cons, Characters, none, more, utf8_before}
use Rattle.utf8.specs.Ascii.{Behind}
use Rattle.utf8.specs.Chunks.{chunk, behind, first_chunk, chunk_of, at_least_one, Front, Begins}
use Rattle.utf8.specs.declared.chunks.Chunk.{Chunk}
use Rattle.utf8.proofs.TextLaws.{ascii_utf8}

-- ---- behind UTF-8

behind_none : (c : Chunk) → behind 0 c ≡ c
behind_none c = let z : 0 + c.valid ≡ c.valid = omega arith in ap (λ (k : ℕ). chunk k c.invalid) z

pub behind_behind : (n m : ℕ) (c : Chunk) → behind n (behind m c) ≡ behind (n + m) c
behind_behind n m c = ap (λ (k : ℕ). chunk k c.invalid) (sym (add_assoc n m c.valid))

characters_chunk : {ps : List Piece} {n : ℕ} → Characters ps n → (qs : List Piece) → first_chunk (ps ++ qs) ≡ behind n (first_chunk qs)
characters_chunk none qs = sym (behind_none (first_chunk qs))
characters_chunk (more n {ps} {m} c) qs = ap (behind n) (characters_chunk c qs) ∙ behind_behind n m (first_chunk qs)

chunk_before : (a b : List ℕ) → utf8 a ≡ true → chunk_of (a ++ b) ≡ behind (length a) (chunk_of b)
unfolding chunk_of
chunk_before a b e =
    let p = utf8_before a b e in
    rw (p.is, ← p.all) (characters_chunk p.characters (pieces b))

-- ---- whole characters in front

pub front_none : (v : List ℕ) → Front v 0
front_none v = record { inside = omega arith; is = sym (behind_none (chunk_of v)) }

module _ {v : List ℕ} {i : ℕ} (f : Front v i) where
  pub front_more : (n : ℕ) → n ≤ length (drop i v) → chunk_of (drop i v) ≡ behind n (chunk_of (drop n (drop i v))) → Front v (i + n)
  front_more n h e =
      let l = length-drop i v in
      record {
        inside = omega (arith, f.inside);
        is = f.is ∙ ap (behind i) e ∙ behind_behind i n (chunk_of (drop n (drop i v))) ∙ rw (drop-drop n i v);
      }

  pub front_bad : (n m : ℕ) → chunk_of (drop i v) ≡ chunk n m → chunk_of v ≡ chunk (i + n) m
  front_bad n m e = f.is ∙ ap (behind i) e

-- the same as the code meets it: the slice is the rest of the text
module _ {v : List ℕ} {i : ℕ} (f : Front v i) where
  abbrev rest : List ℕ
  rest = take (length v - i) (drop i v)

  pub front_within : (n m : ℕ) → Begins rest n m → i + (n + m) ≤ length v
  front_within n m b =
      let c = rw (rest_part v i) at b in
      omega (arith, c.inside, f.inside, length-drop i v)

  pub front_goes_on : (n m : ℕ) → Begins rest n m → m ≡ 0 → Front v (i + n)
  front_goes_on n m b e =
      let c = rw (rest_part v i) at b in
      front_more f n (omega (arith, c.inside)) (c.good e)

  pub front_further : (k n m : ℕ) → Begins rest n m → m ≡ 0 → k ≤ i → k < length v → k < i + n
  front_further k n m b e low high =
      let c = rw (rest_part v i) at b in
      let l = length-drop i v in
      split (ltb k i)
      (λ t. omega (arith, ltb-true k i t))
      (λ t. let h = ltb-false k i t in omega (arith, c.onward (omega arith)))

  pub front_breaks : (n m : ℕ) → Begins rest n m → 0 < m → chunk (i + n) m ≡ chunk_of v
  front_breaks n m b h = let c = rw (rest_part v i) at b in sym (front_bad f n m (c.bad h))

  pub front_ends : length v ≤ i → chunk i 0 ≡ chunk_of v
  unfolding chunk_of pieces pieces_for
  front_ends h =
      let z : i + 0 ≡ i = omega arith in
      sym (f.is ∙ ap (λ (w : List ℕ). behind i (chunk_of w)) (drop_of_length-le v h) ∙ ap (λ (n : ℕ). chunk n 0) z)

-- ASCII behind the characters
module _ {v : List ℕ} {i : ℕ} (f : Front v i) {r : List ℕ} (b : Behind (rest f) r) where
  abbrev there : ℕ
  there = length v - length r

  behind_there : there ≡ i + length b.front
  behind_there = omega (arith, ap length (rw (rest_part v i) at b.is), length-append b.front r, length-drop i v, f.inside)

  pub behind_rest : take (length v - there) (drop there v) ≡ r
  behind_rest =
      let d : drop i v ≡ b.front ++ r = rw (rest_part v i) at b.is in
      rest_part v there ∙ rw (behind_there, ← drop-drop (length b.front) i v, d) (drop-append_seam b.front r)

  pub front_behind : Front v there
  front_behind =
      let d : drop i v ≡ b.front ++ r = rw (rest_part v i) at b.is in
      let e = chunk_before b.front r (ascii_utf8 b.front (rw b.all tt)) in
      rw behind_there (front_more f (length b.front) (rw d (omega (arith, length-append b.front r))) (rw (d, drop-append_seam b.front r) e))

-- ---- the piece in front

abbrev pub piece_in : List ℕ → Piece
piece_in [] = piece 0 true
piece_in (b ∷ v) = piece_of b v

pub piece_bad : (n : ℕ) (v : List ℕ) → 0 < length v → piece_in v ≡ piece n false → chunk_of v ≡ chunk 0 n
unfolding chunk_of
piece_bad n [] h e = absurd (omega arith)
piece_bad n (b ∷ v) h e = rw (pieces_cons b v, e)

pub piece_good : (n : ℕ) (v : List ℕ) → 0 < length v → piece_in v ≡ piece n true → chunk_of v ≡ behind n (chunk_of (drop n v))
unfolding chunk_of
piece_good n [] h e = absurd (omega arith)
piece_good n (b ∷ v) h e = rw (pieces_cons b v, e)

-- ---- byte by byte

abbrev grown : ℕ → Piece → Piece
grown n p = piece (n + p.size) p.good

-- the first n bytes of a text, a part of a piece or none, and what they leave of a row
abbrev pub Begun : List ℕ → ℕ → Left → Type 0
Begun v n bad = ⊥
Begun v n (ranges []) = n ≡ 0
Begun v n (ranges (r ∷ rs)) = (0 < n) × (piece_in v ≡ grown n (follow (r ∷ rs) (drop n v)))

-- a byte more: it ends a bad part, or a character, or neither
abbrev pub Onward : List ℕ → ℕ → Left → Type 0
Onward v n bad = piece_in v ≡ piece (at_least_one n) false
Onward v n (ranges []) = piece_in v ≡ piece (suc n) true
Onward v n (ranges (r ∷ rs)) = piece_in v ≡ grown (suc n) (follow (r ∷ rs) (drop (suc n) v))

pub at_least_one_law : (n : ℕ) → (0 < at_least_one n) × (at_least_one n ≤ suc n)
at_least_one_law n =
    split (eqb n 0)
    (λ t. rw t (omega arith, omega (arith, eqb-true n 0 t)))
    (λ t. rw t (omega (arith, eqb-false n 0 t), omega arith))

resized : (good : Bool) (m n : ℕ) → m ≡ n → piece m good ≡ piece n good
resized good m n e = ap (λ (k : ℕ). piece k good) e

first_onward : (b : ℕ) (v : List ℕ) (l : Left) → begin rows b ≡ l → Onward (b ∷ v) 0 l
first_onward b v bad q = rw q
first_onward b v (ranges []) q = rw q
first_onward b v (ranges (r ∷ rs)) q = rw q (resized (follow (r ∷ rs) v).good _ _ (omega arith))

module _ (n : ℕ) (v : List ℕ) where
  row_onward : (rs : List Range) → piece_in v ≡ grown n (longer (follow rs (drop (suc n) v))) → Onward v n (ranges rs)
  row_onward [] e = e ∙ resized true (n + 1) (suc n) (omega arith)
  row_onward (r ∷ rs) e = e ∙ resized (follow (r ∷ rs) (drop (suc n) v)).good _ _ (omega arith)

  next_onward : (r : Range) (rs : List Range) (b : ℕ) → 0 < n → piece_in v ≡ grown n (follow (r ∷ rs) (b ∷ drop (suc n) v))
      → Onward v n (cond (in_range r b) (ranges rs) bad)
  next_onward r rs b h e =
      split (in_range r b)
      (λ t. rw t (row_onward rs (rw t at e)))
      (λ t. rw t ((rw t at e) ∙ resized false (n + 0) (at_least_one n) (rw (ne_eqb n 0 (λ z. omega arith)) (omega arith))))

pub begun_onward : (n : ℕ) (v : List ℕ) (l : Left) → Begun v n l → n < length v → Onward v n (next l (get_or v n 0))
begun_onward n v bad g h = absurd g
begun_onward n [] (ranges []) g h = absurd (omega arith)
begun_onward n (b ∷ v) (ranges []) g h = rw g (first_onward b v (begin rows b) refl)
begun_onward n v (ranges (r ∷ rs)) g h =
    next_onward n v r rs (get_or v n 0) g.0 (g.1 ∙ ap (λ (t : List ℕ). grown n (follow (r ∷ rs) t)) (drop-cons v n 0 h))
