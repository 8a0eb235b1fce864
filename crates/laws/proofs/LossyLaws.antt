-- What follows from the definition of a text that is shown with its damage: UTF-8 comes through unchanged, what is shown is UTF-8, and it
-- has at most three times the bytes (RULES.md, request 4).
use Prim.Native.Nat.{ℕ, zero, suc, ◌+◌, ◌*◌, ◌<◌, ◌≤◌}
use mathlib.Core.Path.{◌≡◌, refl, sym, ap, ◌∙◌}
use mathlib.Core.List.{List, [], ◌∷◌, ◌++◌, append_assoc, append-nil}
use mathlib.Core.Bool.{true, false, cond}
use native.Mathlib.Omega.{arith}
use native.Mathlib.Nat.{not-suc-le-zero}
use lib.ListN.{length, take, drop, length-append, length-take, length-drop}
use lib.Seq.{take-add, drop-drop, drop-append-le, take-append_seam, drop-append_seam}
use Rattle.bson.specs.Utf8.{Range, in_range, rows, Left, bad, ranges, begin, next, read, whole, utf8}
use Rattle.bson.specs.Lossy.{Piece, piece, follow, piece_by, piece_of, pieces_for, pieces, replacement, shown, lossy}
use Rattle.laws.proofs.Common.{split}

-- ---- pieces

pub piece_some : (l : Left) (v : List ℕ) → 0 < (piece_by l v).size
piece_some bad v = omega arith
piece_some (ranges rs) v = omega arith

follow_within : (rs : List Range) (v : List ℕ) → (follow rs v).size ≤ length v
follow_within [] v = omega arith
follow_within (r ∷ rs) [] = omega arith
follow_within (r ∷ rs) (b ∷ v) =
    let h = follow_within rs v in
    split (in_range r b) (λ t. rw t (omega arith)) (λ t. rw t (omega arith))

pub piece_within : (l : Left) (v : List ℕ) → (piece_by l v).size ≤ suc (length v)
piece_within bad v = omega arith
piece_within (ranges rs) v = omega (arith, follow_within rs v)

-- as many turns as bytes are enough
pieces_eq : (n m : ℕ) (v : List ℕ) → length v ≤ n → length v ≤ m → pieces_for n v ≡ pieces_for m v
unfolding pieces_for
pieces_eq zero zero v h k = refl
pieces_eq zero (suc m) [] h k = refl
pieces_eq zero (suc m) (b ∷ v) h k = absurd (not-suc-le-zero h)
pieces_eq (suc n) zero [] h k = refl
pieces_eq (suc n) zero (b ∷ v) h k = absurd (not-suc-le-zero k)
pieces_eq (suc n) (suc m) [] h k = refl
pieces_eq (suc n) (suc m) (b ∷ v) h k =
    let p = piece_of b v in
    let some = piece_some (begin rows b) v in
    let rest = length-drop p.size (b ∷ v) in
    ap (λ (ps : List Piece). p ∷ ps) (pieces_eq n m (drop p.size (b ∷ v)) (omega arith) (omega arith))

pub pieces_cons : (b : ℕ) (v : List ℕ) → pieces (b ∷ v) ≡ piece_of b v ∷ pieces (drop (piece_of b v).size (b ∷ v))
unfolding pieces pieces_for
pieces_cons b v =
    let p = piece_of b v in
    let some = piece_some (begin rows b) v in
    let rest = length-drop p.size (b ∷ v) in
    ap (λ (ps : List Piece). p ∷ ps) (pieces_eq (length v) (length (drop p.size (b ∷ v))) (drop p.size (b ∷ v)) (omega arith) (omega arith))

-- ---- UTF-8 in front of a text

-- pieces that are all characters, of so many bytes
pub data Characters : List Piece → ℕ → Type 0 where
  none : Characters [] 0
  more : (n : ℕ) {ps : List Piece} {m : ℕ} → Characters ps m → Characters (piece n true ∷ ps) (n + m)

read_bad : (v : List ℕ) → read bad v ≡ bad
read_bad [] = refl
read_bad (b ∷ v) = read_bad v

not_whole : {P : Type 0} (v : List ℕ) → whole (read bad v) ≡ true → P
not_whole v e = let z : false ≡ true = ap whole (sym (read_bad v)) ∙ e in let o : ◌≡◌ {A = ℕ} 0 1 = cc in absurd (omega arith)

-- where a row begun ends within u, its bytes there are followed, whatever comes behind u
record Ends (rs : List Range) (u w : List ℕ) : Type 0 where
  k : ℕ
  is : follow rs (u ++ w) ≡ piece k true
  within : k ≤ length u
  rest : whole (read (ranges []) (drop k u)) ≡ true

row_ends : (rs : List Range) (u w : List ℕ) → whole (read (ranges rs) u) ≡ true → Ends rs u w
row_ends [] u w e = record { k = 0; is = refl; within = omega arith; rest = e }
row_ends (r ∷ rs) [] w e = let z : false ≡ true = e in let o : ◌≡◌ {A = ℕ} 0 1 = cc in absurd (omega arith)
row_ends (r ∷ rs) (b ∷ u) w e =
    split (in_range r b)
    (λ t. let i = row_ends rs u w (rw t at e) in
    record { k = suc i.k; is = rw (t, i.is); within = omega (arith, i.within); rest = i.rest })
    (λ t. not_whole u (rw t at e))

-- a text that is UTF-8 falls apart into characters, whatever comes behind it
pub record Before (a b : List ℕ) : Type 0 where
  pub ps : List Piece
  pub n : ℕ
  pub characters : Characters ps n
  pub all : n ≡ length a
  pub is : pieces (a ++ b) ≡ ps ++ pieces b

one_before : (x : ℕ) (u w : List ℕ) (l : Left) → begin rows x ≡ l → whole (read l u) ≡ true
    → ((k : ℕ) → k ≤ length u → whole (read (ranges []) (drop k u)) ≡ true → Before (drop k u) w) → Before (x ∷ u) w
one_before x u w bad q e before = not_whole u e
one_before x u w (ranges rs) q e before =
    let i = row_ends rs u w e in
    let b = before i.k i.within i.rest in
    let p : piece_of x (u ++ w) ≡ piece (suc i.k) true = rw (q, i.is) in
    let d : drop i.k (u ++ w) ≡ drop i.k u ++ w = drop-append-le i.k u w i.within in
    record {
      ps = piece (suc i.k) true ∷ b.ps;
      n = suc i.k + b.n;
      characters = more (suc i.k) b.characters;
      all = omega (arith, b.all, length-drop i.k u, i.within);
      is = pieces_cons x (u ++ w) ∙ rw (p, d, b.is);
    }

before_for : (m : ℕ) (a b : List ℕ) → length a ≤ m → whole (read (ranges []) a) ≡ true → Before a b
before_for zero [] b h e = record { ps = []; n = 0; characters = none; all = refl; is = refl }
before_for zero (x ∷ u) b h e = absurd (not-suc-le-zero h)
before_for (suc m) [] b h e = record { ps = []; n = 0; characters = none; all = refl; is = refl }
before_for (suc m) (x ∷ u) b h e =
    one_before x u b (begin rows x) refl e
    (λ k l f. before_for m (drop k u) b (omega (arith, length-drop k u)) f)

pub utf8_before : (a b : List ℕ) → utf8 a ≡ true → Before a b
unfolding utf8
utf8_before a b e = before_for (length a) a b (omega arith) e

characters_shown : {ps : List Piece} {n : ℕ} → Characters ps n → (qs : List Piece) (v : List ℕ)
    → shown (ps ++ qs) v ≡ take n v ++ shown qs (drop n v)
characters_shown none qs v = refl
characters_shown (more n {ps} {m} c) qs v =
    ap (λ (l : List ℕ). take n v ++ l) (characters_shown c qs (drop n v))
    ∙ sym (append_assoc (take n v) (take m (drop n v)) (shown qs (drop m (drop n v))))
    ∙ rw (take-add n m v, drop-drop m n v)

-- UTF-8 in front of a text comes through unchanged
pub lossy_before : (a b : List ℕ) → utf8 a ≡ true → lossy (a ++ b) ≡ a ++ lossy b
unfolding lossy
lossy_before a b e =
    let p = utf8_before a b e in
    rw (p.is, characters_shown p.characters (pieces b) (a ++ b), p.all, take-append_seam a b, drop-append_seam a b)

pub lossy_nil : lossy [] ≡ []
unfolding lossy pieces pieces_for
lossy_nil = refl

-- "good text comes through unchanged"
pub lossy_same : (v : List ℕ) → utf8 v ≡ true → lossy v ≡ v
lossy_same v e = ap lossy (sym (append-nil v)) ∙ lossy_before v [] e ∙ ap (λ (l : List ℕ). v ++ l) lossy_nil ∙ append-nil v

-- ---- what is shown

read_append : (l : Left) (v w : List ℕ) → read l (v ++ w) ≡ read (read l v) w
read_append l [] w = refl
read_append l (b ∷ v) w = read_append (next l b) v w

pub whole_is : (l : Left) → whole l ≡ true → l ≡ ranges []
whole_is bad e = let o : ◌≡◌ {A = ℕ} 0 1 = cc in absurd (omega arith)
whole_is (ranges []) e = refl
whole_is (ranges (r ∷ rs)) e = let o : ◌≡◌ {A = ℕ} 0 1 = cc in absurd (omega arith)

utf8_append : (v w : List ℕ) → utf8 v ≡ true → utf8 w ≡ true → utf8 (v ++ w) ≡ true
unfolding utf8
utf8_append v w e f = rw (read_append (ranges []) v w, whole_is (read (ranges []) v) e) f

-- the bytes of a character, followed
follow_reads : (rs : List Range) (v : List ℕ) → (follow rs v).good ≡ true → read (ranges rs) (take (follow rs v).size v) ≡ ranges []
follow_reads [] v e = refl
follow_reads (r ∷ rs) [] e = let o : ◌≡◌ {A = ℕ} 0 1 = cc in absurd (omega arith)
follow_reads (r ∷ rs) (b ∷ v) e =
    split (in_range r b)
    (λ t. rw t (rw (t, read) (follow_reads rs v (rw t at e))))
    (λ t. let z : false ≡ true = rw t at e in let o : ◌≡◌ {A = ℕ} 0 1 = cc in absurd (omega arith))

-- a piece as it is shown
abbrev shown_as : Piece → List ℕ → List ℕ
shown_as p v = cond p.good (take p.size v) replacement

nil_utf8 : utf8 [] ≡ true
unfolding utf8
nil_utf8 = refl

replacement_utf8 : utf8 replacement ≡ true
unfolding utf8 rows
replacement_utf8 = refl

piece_utf8 : (b : ℕ) (v : List ℕ) (l : Left) → begin rows b ≡ l → utf8 (shown_as (piece_by l v) (b ∷ v)) ≡ true
unfolding utf8
piece_utf8 b v bad q = replacement_utf8
piece_utf8 b v (ranges rs) q =
    split (follow rs v).good
    (λ t. rw t (ap (λ (l : Left). whole (read l (take (follow rs v).size v))) q ∙ ap whole (follow_reads rs v t)))
    (λ t. rw t replacement_utf8)

pub lossy_cons : (b : ℕ) (v : List ℕ)
    → lossy (b ∷ v) ≡ shown_as (piece_of b v) (b ∷ v) ++ lossy (drop (piece_of b v).size (b ∷ v))
unfolding lossy
lossy_cons b v = rw (pieces_cons b v)

utf8_for : (n : ℕ) (v : List ℕ) → length v ≤ n → utf8 (lossy v) ≡ true
utf8_for zero [] h = ap utf8 lossy_nil ∙ nil_utf8
utf8_for zero (b ∷ v) h = absurd (not-suc-le-zero h)
utf8_for (suc n) [] h = ap utf8 lossy_nil ∙ nil_utf8
utf8_for (suc n) (b ∷ v) h =
    let p = piece_of b v in
    let rest = drop p.size (b ∷ v) in
    let some = piece_some (begin rows b) v in
    let less = length-drop p.size (b ∷ v) in
    ap utf8 (lossy_cons b v)
    ∙ utf8_append (shown_as p (b ∷ v)) (lossy rest) (piece_utf8 b v (begin rows b) refl) (utf8_for n rest (omega arith))

-- "what is written is UTF-8"
pub lossy_utf8 : (v : List ℕ) → utf8 (lossy v) ≡ true
lossy_utf8 v = utf8_for (length v) v (omega arith)

-- a piece is shown in at most three times its bytes
piece_size : (p : Piece) (v : List ℕ) → 0 < p.size → length (shown_as p v) ≤ 3 * p.size
piece_size p v h =
    split p.good (λ t. rw t (simp length-take (omega arith))) (λ t. rw t (omega arith))

size_for : (n : ℕ) (v : List ℕ) → length v ≤ n → length (lossy v) ≤ 3 * length v
size_for zero [] h = rw lossy_nil (omega arith)
size_for zero (b ∷ v) h = absurd (not-suc-le-zero h)
size_for (suc n) [] h = rw lossy_nil (omega arith)
size_for (suc n) (b ∷ v) h =
    let p = piece_of b v in
    let rest = drop p.size (b ∷ v) in
    let some = piece_some (begin rows b) v in
    let within = piece_within (begin rows b) v in
    let less = length-drop p.size (b ∷ v) in
    let here = piece_size p (b ∷ v) some in
    let there = size_for n rest (omega arith) in
    rw (lossy_cons b v) (simp length-append (omega arith))

-- "it has at most three times the bytes"
pub lossy_size : (v : List ℕ) → length (lossy v) ≤ 3 * length v
lossy_size v = size_for (length v) v (omega arith)
