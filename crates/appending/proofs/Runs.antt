-- An element whose value is put in some runs, whose sizes together may pass every room (RULES.md, "Writer and joining").
use Prim.Native.Nat.{ℕ, ◌+◌, ◌-◌, ◌≤◌, ◌<◌, min}
use mathlib.Core.Path.{◌≡◌, refl, sym, ap, ◌∙◌}
use mathlib.Core.List.{List}
use mathlib.Core.Bool.{Bool, false}
use native.Mathlib.Omega.{arith}
use lib.Dec.{leb}
use lib.ListN.{length, drop, get_or, length-append}
use native.Mathlib.Numerals.{add-one}
use Rattle.std.proofs.Math.Seq.{drop-cons}
use Rattle.std.proofs.lemmas.List.{drop_all}
use Rattle.std.specs.Borrow.{Bor}
use borrow.Author.Tests.{leb-true, leb-false, le-leb, lt-leb}
use Rattle.bson.specs.Output.{output, put_texts, joined}
use Rattle.bson.specs.Writer.{State, used, depth, key_in, innermost, room_for, desk, room, written, leaves}
use Rattle.laws.proofs.AnswerLaws.{then_same}
use Rattle.laws.proofs.Common.{split}
use Rattle.laws.proofs.WriterLaws.{room_within, room_says}
use Rattle.refusal.specs.Said.{number}
use Rattle.refusal.specs.declared.Refusal.{Refusal}
use Rattle.appending.specs.Element.{appending, headed, heading, texts_of, bounded}
use Rattle.appending.proofs.Filled.{head_refused, value_fits, value_put}

-- ---- sizes within every room, and over it

bounded_is : (n : ℕ) → n ≤ 2147483647 → n ≡ bounded n
unfolding bounded
bounded_is n h = rw (le-leb n 2147483647 h)

over : (n : ℕ) → 2147483647 < n → 2147483648 ≡ bounded n
unfolding bounded
over n h = rw (lt-leb n 2147483647 h)

-- ---- the sizes of runs added up

abbrev pub size_of : List (Bor (List ℕ)) → ℕ
size_of runs = length (joined (texts_of runs))

turn : (runs : List (Bor (List ℕ))) (i : ℕ) (d : Bor (List ℕ)) → i < length runs
    → size_of (drop i runs) ≡ length (get_or runs i d).now + size_of (drop (i + 1) runs)
turn runs i d h = ap size_of (drop-cons runs i d h) ∙ simp (add-one, length-append)

-- up to the largest number, what is added and what is left
pub run_added : (runs : List (Bor (List ℕ))) (i size new n : ℕ) (d : Bor (List ℕ)) → i < length runs
    → new ≡ min (size + length (get_or runs i d).now) 18446744073709551615
    → min (size + size_of (drop i runs)) 18446744073709551615 ≡ n → min (new + size_of (drop (i + 1) runs)) 18446744073709551615 ≡ n
run_added runs i size new n d h e f = omega (arith, turn runs i d h)

pub runs_added : (runs : List (Bor (List ℕ))) (i size least : ℕ) → length runs ≤ i
    → min (size + size_of (drop i runs)) 18446744073709551615 ≡ min (size_of runs) 18446744073709551615 → least ≡ min size 2147483648
    → least ≡ bounded (size_of runs)
runs_added runs i size least h e f =
    let z : size_of (drop i runs) ≡ 0 = ap size_of (drop_all i runs h) in
    split (leb (size_of runs) 2147483647)
    (λ t. let k = leb-true (size_of runs) 2147483647 t in let m : least ≡ size_of runs = omega arith in m ∙ bounded_is (size_of runs) k)
    (λ t. let k = leb-false (size_of runs) 2147483647 t in let m : least ≡ 2147483648 = omega arith in m ∙ over (size_of runs) k)

no_room_law : (u k n d m : ℕ) → m ≤ 2147483647 → 2147483647 < n → leb (u + (2 + k + n) + d) m ≡ false
no_room_law u k n d m h g = lt-leb (u + (2 + k + n) + d) m (omega arith)

-- ---- an element by its size, and by one that no room has

module _ (w : State) (buffer : List ℕ) (more tag : ℕ) (key : List ℕ) (good : Bool) where
  space : ℕ
  space = room (length buffer)

  -- sizes that no room has are refused alike
  refused_alike : (m n : ℕ) → 2147483647 < m → 2147483647 < n → room_for w space more key good m ≡ room_for w space more key good n
  unfolding room_for space
  refused_alike m n hm hn = then_same (innermost w space) _ _ λ kind ei.
      let r = (room_within (length buffer)).1 in
      let k = length (key_in kind key) in
      let a = no_room_law (used w) k m (depth w + more) space r hm in
      let b = no_room_law (used w) k n (depth w + more) space r hn in
      rw (a, b)

  -- so such a size is refused as its bound is
  bounded_heading : (size : ℕ) → heading w buffer more tag key good (bounded size) ≡ heading w buffer more tag key good size
  unfolding heading headed space
  bounded_heading size =
      split (leb size 2147483647) (λ t. rw (← bounded_is size (leb-true _ _ t)))
      (λ t. let h = leb-false size 2147483647 t in
      rw (← over size h, refused_alike 2147483648 size (omega arith) h)
      (ap (leaves (desk w buffer)) (then_same (room_for w space more key good size) _ _ λ kind e.
      let f = room_says w space more key good size kind e in
      absurd (omega (arith, f.in_room, (room_within (length buffer)).1)))))

  -- the value in its runs, and its size as `total` gives it
  module _ (texts : List (List ℕ)) {size : ℕ} (es : size ≡ bounded (length (joined texts))) {n : ℕ} {v : State} {b : List ℕ}
      (e : written n v b ≡ heading w buffer more tag key good size) where
    is : written n v b ≡ heading w buffer more tag key good (length (joined texts))
    is = e ∙ ap (heading w buffer more tag key good) es ∙ bounded_heading (length (joined texts))

    pub runs_refused : (why : Refusal) → n ≡ number why → written (number why) v b ≡ appending w buffer more tag key good (joined texts)
    runs_refused = head_refused w buffer more tag key good (joined texts) refl is

    module _ (z : n ≡ 0) where
      size_is : size ≡ length (joined texts)
      size_is =
          let f = value_fits w buffer more tag key good (joined texts) refl is z in
          es ∙ sym (bounded_is (length (joined texts)) (omega arith))

      pub runs_fit : size ≤ used v
      runs_fit = (value_fits w buffer more tag key good (joined texts) size_is e z).0

      pub runs_put : length b ≡ length buffer → {at : ℕ} → at ≡ used v - size → {left : List ℕ} {end : ℕ}
          → output left end ≡ put_texts (output b at) texts → {exit : List ℕ} → exit ≡ left → written 0 v exit ≡ appending w buffer more tag key good (joined texts)
      runs_put lb ea eo ex = value_put w buffer more tag key good (joined texts) size_is e z lb ea texts refl eo ex
