-- What a few stores leave, and a text put in two runs (RULES.md, "What every answer is bound to").
use Prim.Native.Nat.{ℕ, suc, ◌+◌, ◌≤◌, ◌<◌}
use mathlib.Core.Path.{◌≡◌, refl, sym, ap, ◌∙◌}
use mathlib.Core.List.{List, [], ◌∷◌, ◌++◌, append_assoc}
use native.Mathlib.Numerals.{add-one}
use native.Mathlib.Omega.{arith}
use lib.ListN.{length, get_or, set, take, drop, take-append-drop, length-drop, drop_of_length-le}
use lib.Seq.{sets, sets-eq, take-add, drop-cons, drop-drop, length-take-le}
use Rattle.bson.specs.Output.{put}
use Rattle.laws.proofs.OutputLaws.{put_put, put_nil}

-- ---- a few stores

stored : (values buffer : List ℕ) (at : ℕ) → at + length values ≤ length buffer → sets buffer at values ≡ put buffer at values
unfolding put
stored values buffer at h = sets-eq values buffer at h ∙ append_assoc (take at buffer) values (drop (at + length values) buffer)

module _ (text : List ℕ) where
  abbrev byte : ℕ → ℕ
  byte k = get_or text k 0

  next_byte : (n j k : ℕ) → k ≡ j + 1 → j < length text → take (suc n) (drop j text) ≡ byte j ∷ take n (drop k text)
  next_byte n j k e h = rw (e, add-one, drop-cons text j 0 h)

  next_two : (n j k : ℕ) → k ≡ j + 2 → j + 2 ≤ length text → take (suc (suc n)) (drop j text) ≡ byte j ∷ byte (j + 1) ∷ take n (drop k text)
  next_two n j k e h =
      next_byte (suc n) j (j + 1) refl (omega arith)
      ∙ ap (λ (l : List ℕ). byte j ∷ l) (next_byte n (j + 1) k (omega arith) (omega arith))

  module _ (buffer : List ℕ) (at from : ℕ) where
    pub one_stored : from < length text → length text ≤ from + 1 → at < length buffer
        → set buffer at (byte from) ≡ put buffer at (drop from text)
    one_stored h g f =
        let e : drop from text ≡ byte from ∷ [] = drop-cons text from 0 h
        ∙ ap (λ (l : List ℕ). byte from ∷ l) (drop_of_length-le text {i = suc from} (omega arith)) in
        rw e (stored (byte from ∷ []) buffer at (omega arith))

    pub none_stored : length text ≤ from → buffer ≡ put buffer at (drop from text)
    none_stored h = rw (drop_of_length-le text h) (sym (put_nil buffer at))

    pub two_stored : at + 2 ≤ length buffer → from + 2 ≤ length text
        → set (set buffer at (byte from)) (at + 1) (byte (from + 1)) ≡ put buffer at (take 2 (drop from text))
    two_stored h g =
        let a : at + 1 ≡ suc at = omega arith in
        rw (a, next_two 0 from (from + 2) refl g) (stored (byte from ∷ byte (from + 1) ∷ []) buffer at (omega arith))

    pub four_stored : at + 4 ≤ length buffer → from + 4 ≤ length text
        → set (set (set (set buffer at (byte from)) (at + 1) (byte (from + 1))) (at + 2) (byte (from + 2))) (at + 3) (byte (from + 3))
        ≡ put buffer at (take 4 (drop from text))
    four_stored h g =
        let a : at + 1 ≡ suc at = omega arith in
        let b : at + 2 ≡ suc (suc at) = omega arith in
        let c : at + 3 ≡ suc (suc (suc at)) = omega arith in
        let d : from + 2 + 1 ≡ from + 3 = omega arith in
        rw (a, b, c, next_two 2 from (from + 2) refl (omega arith), next_two 0 (from + 2) (from + 4) (omega arith) (omega arith), d)
        (stored (byte from ∷ byte (from + 1) ∷ byte (from + 2) ∷ byte (from + 3) ∷ []) buffer at (omega arith))

-- ---- a text in two runs

-- the first n bytes, and then others
module _ (buffer : List ℕ) (at : ℕ) (text : List ℕ) (n : ℕ) (few : n ≤ length text) (fits : at + length text ≤ length buffer) where
  then_next : (next : List ℕ) → at + (n + length next) ≤ length buffer
      → put (put buffer at (take n text)) (at + n) next ≡ put buffer at (take n text ++ next)
  then_next next h =
      let l : length (take n text) ≡ n = length-take-le n text few in
      ap (λ (k : ℕ). put (put buffer at (take n text)) (at + k) next) (sym l) ∙ put_put buffer at (take n text) next (omega arith)

  pub then_rest : put (put buffer at (take n text)) (at + n) (drop n text) ≡ put buffer at text
  then_rest = then_next (drop n text) (omega (arith, length-drop n text)) ∙ ap (put buffer at) (take-append-drop n text)

  pub then_more : (m : ℕ) → n + m ≤ length text
      → put (put buffer at (take n text)) (at + n) (take m (drop n text)) ≡ put buffer at (take (n + m) text)
  then_more m h =
      let l : length (take m (drop n text)) ≡ m = length-take-le m (drop n text) (omega (arith, length-drop n text)) in
      then_next (take m (drop n text)) (omega arith) ∙ ap (put buffer at) (sym (take-add n m text))

-- two bytes of what is left, and the last
pub then_last : (buffer : List ℕ) (at : ℕ) (text : List ℕ) (from : ℕ) → from + 2 ≤ length text → at + length text ≤ length buffer
    → (two : List ℕ) → two ≡ put buffer (at + from) (take 2 (drop from text)) → (exit : List ℕ)
    → exit ≡ put two (at + (from + 2)) (drop (from + 2) text)
    → exit ≡ put buffer (at + from) (drop from text)
then_last buffer at text from h f two et exit ee =
    let e : at + (from + 2) ≡ at + from + 2 = omega arith in
    let d : drop (from + 2) text ≡ drop 2 (drop from text) = sym (drop-drop 2 from text) in
    ee ∙ rw (et, e, d)
    (then_rest buffer (at + from) (drop from text) 2 (omega (arith, length-drop from text)) (omega (arith, length-drop from text)))
