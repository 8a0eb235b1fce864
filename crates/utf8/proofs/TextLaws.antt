-- TextLaws: a text from an offset on, past a block of ASCII, to its end.
use Prim.Native.Nat.{ℕ, zero, suc, ◌+◌, ◌-◌, ◌<◌}
use mathlib.Core.Path.{◌≡◌, refl, ap, sym, ◌∙◌}
use mathlib.Core.List.{List, [], ◌∷◌, ◌++◌, append-nil}
use mathlib.Core.Bool.{true}
use native.Mathlib.Omega.{arith}
use lib.Dec.{T, ltb, ltb→lt}
use lib.ListN.{length, drop, length-append}
use lib.Seq.{drop-drop, drop-append_seam}
use Rattle.bson.specs.Utf8.{utf8, Left, ranges, read, whole}
use Rattle.laws.proofs.Common.{both_left, both_right}
use Rattle.laws.proofs.Utf8Laws.{next_ascii}
use Rattle.utf8.specs.Ascii.{ascii_of, Behind}

-- a block of ASCII
ascii_read : (v w : List ℕ) → T (ascii_of v) → read (ranges []) (v ++ w) ≡ read (ranges []) w
ascii_read [] w t = refl
ascii_read (b ∷ v) w t =
    let h = ltb→lt b 128 (both_left (ltb b 128) (ascii_of v) t) in
    ap (λ (l : Left). read l (v ++ w)) (next_ascii b h) ∙ ascii_read v w (both_right (ltb b 128) (ascii_of v) t)

pub behind_same : {s rest : List ℕ} → Behind s rest → utf8 rest ≡ utf8 s
unfolding utf8
behind_same {s} {rest} b = rw b.is (ap whole (sym (ascii_read b.front rest (rw b.all tt))))

-- the last eight bytes are ASCII too, and so the rest, which is shorter
ascii_drop : (n : ℕ) (v : List ℕ) → T (ascii_of v) → T (ascii_of (drop n v))
ascii_drop zero v t = t
ascii_drop (suc n) [] t = tt
ascii_drop (suc n) (b ∷ v) t = ascii_drop n v (both_right (ltb b 128) (ascii_of v) t)

pub ascii_utf8 : (v : List ℕ) → T (ascii_of v) → utf8 v ≡ true
unfolding utf8
ascii_utf8 v t = ap whole (rw (append-nil v) at (ascii_read v [] t))

pub behind_ends : {s rest : List ℕ} → Behind s rest → length rest < 8 → ascii_of (drop (length s - 8) s) ≡ true → true ≡ utf8 s
behind_ends {s} {rest} b h e =
    let i = length b.front in
    let k = length s - 8 in
    let l : length s ≡ i + length rest = ap length b.is ∙ length-append b.front rest in
    let z : k + (i - k) ≡ i = omega arith in
    let d : drop i s ≡ rest = rw b.is (drop-append_seam b.front rest) in
    let t = rw (drop-drop (i - k) k s, z, d) at (ascii_drop (i - k) (drop k s) (rw e tt)) in
    sym (ascii_utf8 rest t) ∙ behind_same b
