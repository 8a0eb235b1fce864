-- AsciiLaws: bytes below 128, and one test of an `or` for all of them.
use Prim.Native.Nat.{ℕ, suc, ◌+◌, ◌<◌, ◌≤◌}
use mathlib.Core.Path.{◌≡◌, refl, sym, ap, ◌∙◌}
use mathlib.Core.List.{List, [], ◌∷◌, ◌++◌, append_assoc}
use mathlib.Core.Bool.{Bool, true, ◌&&◌, and_assoc}
use native.Mathlib.Omega.{arith}
use native.Mathlib.Numerals.{add-one}
use lib.Bits.{bit_or, or_lt, or_add_and, and_le_l, and_le_r}
use lib.Dec.{ltb}
use lib.ListN.{length, get_or, drop}
use lib.Seq.{drop-cons}
use borrow.Author.Tests.{lt-ltb, le-ltb, ltb-true, ltb-false}
use Rattle.laws.proofs.Common.{split}
use Rattle.utf8.specs.Ascii.{ascii_of, Behind}

-- an `or` is below 128 where both are
or_small : (a b : ℕ) → ltb (bit_or a b) 128 ≡ ltb a 128 && ltb b 128
or_small a b =
    split (ltb a 128)
    (λ p. split (ltb b 128)
    (λ q. rw (p, q, lt-ltb _ _ (or_lt 7 a b (ltb-true a 128 p) (ltb-true b 128 q))))
    (λ q. rw (p, q, le-ltb (bit_or a b) 128 (omega (arith, or_add_and a b, and_le_l a b, ltb-false b 128 q)))))
    (λ p. rw (p, le-ltb (bit_or a b) 128 (omega (arith, or_add_and a b, and_le_r a b, ltb-false a 128 p))))

-- `all` stands for the bytes before j
pub record Seen (v : List ℕ) (all j : ℕ) : Type 0 where
  pub inside : j ≤ length v
  pub same : ltb all 128 && ascii_of (drop j v) ≡ ascii_of v

pub seen_more : {v : List ℕ} {all j : ℕ} → Seen v all j → j < length v → Seen v (bit_or all (get_or v j 0)) (j + 1)
seen_more {v} {all} {j} b h =
    let e = and_assoc (ltb all 128) (ltb (get_or v j 0) 128) (ascii_of (drop (suc j) v)) in
    record { inside = omega arith; same = rw (or_small, add-one) (e ∙ rw (drop-cons v j 0) at b.same) }

-- ---- blocks of ASCII

ascii_both : (a b : List ℕ) → ascii_of (a ++ b) ≡ ascii_of a && ascii_of b
ascii_both [] b = refl
ascii_both (x ∷ a) b = ap (λ (t : Bool). ltb x 128 && t) (ascii_both a b) ∙ sym (and_assoc (ltb x 128) (ascii_of a) (ascii_of b))

pub behind_none : (v : List ℕ) → Behind v v
behind_none v = record { front = []; is = refl; all = refl }

pub behind_more : {v rest behind : List ℕ} (block : List ℕ) → Behind v rest → rest ≡ block ++ behind → ascii_of block ≡ true → Behind v behind
behind_more block p e t =
    record { front = p.front ++ block; is = p.is ∙ rw (e, append_assoc) refl; all = rw (ascii_both p.front block, p.all, t) refl }
