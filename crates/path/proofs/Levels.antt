-- One level of a path, as the code goes along it: what the lookup of the first key, and going into what it finds, mean for the whole path
-- (RULES.md, request 1).
use Prim.Native.Nat.{ℕ, ◌+◌, ◌%◌, ◌^◌, ◌≤◌, ◌<◌}
use mathlib.Core.Path.{◌≡◌, refl, sym, ap, ◌∙◌}
use mathlib.Core.List.{List, [], ◌∷◌}
use mathlib.Core.Bool.{true, false, ◌||◌, true≢false}
use native.Mathlib.Omega.{arith}
use lib.ListN.{length, take, drop, length-drop}
use lib.Seq.{take_all, take-length}
use lib.Dec.{eqb}
use borrow.Author.Tests.{le-leb, eqb-true, eqb-false}
use Rattle.std.specs.Prelude.{◌≢◌, Result, Ok, Err}
use Rattle.bson.specs.Answer.{Answer, gives, refuses, then, at}
use Rattle.bson.specs.Bytes.{Part, part, bytes}
use Rattle.bson.specs.Cstring.{Limit, is_zero, first_zero}
use Rattle.bson.specs.Step as paper
use Rattle.bson.specs.Step.{cursor}
use Rattle.bson.specs.Value.{Value, value_in, value_of}
use Rattle.bson.specs.Lookup.{Found, found, find_under, get_under}
use Rattle.bson.specs.Path.{keys_of, entered, moved_element, moved, look_along, get_path_under}
use Rattle.laws.proofs.AnswerLaws.{then_same, answered}
use Rattle.laws.proofs.Common.{split}
use Rattle.laws.proofs.CstringLaws.{before_most, cut_short}
use Rattle.laws.proofs.BytesLaws.{bytes_length}
use Rattle.laws.proofs.LookupLaws.{find_steps, find_place}
use Rattle.laws.proofs.PartLaws.{PartEnds}
use Rattle.laws.proofs.PathLaws.{keys_last, keys_more, path_short}
use Rattle.laws.proofs.AlongLaws.{document_entered, array_entered, other_stops}
use Rattle.laws.proofs.MovedLaws.{bytes_moved, moved_stays, moved_again, found_moved}
use Rattle.laws.proofs.StepLaws.{step_yields}
use Rattle.laws.specs.FramedAt.{FramedAt}
use Rattle.part.specs.Said.{said_part}
use Rattle.refusal.specs.Said.{number, placed_by}
use Rattle.refusal.specs.declared.Refused.{Refused}
use Rattle.iter.specs.Said.{said_element, sized_wrapping}
use Rattle.iter.specs.declared.Element.{Element}
use Rattle.path.specs.Said.{stops, reads, Reaches}

-- ---- a value on the way

-- what is inside it, or the refusal
abbrev Enters : List ℕ → paper.Element → Answer Part
Enters s e = at e.place (then (value_in s e.tag e.value) entered)

read_enters : (e : paper.Element) (a : Answer Value) (onward : Part → Answer Found)
    → then (then {B = Found} (at e.place a) (λ v. gives (record { element = e; value = v })))
    (λ f. then (at f.element.place (entered f.value)) onward)
    ≡ then (at e.place (then a entered)) onward
read_enters e (gives v) onward = refl
read_enters e (refuses n p) onward = refl

-- a document or an array, by its tag, is entered as it lies
enters_nest : (s : List ℕ) (e : paper.Element) → PartEnds (length s) e.value → (eqb e.tag 0x03 || eqb e.tag 0x04) ≡ true → Enters s e ≡ gives e.value
enters_nest s e inside h =
    split (eqb e.tag 0x03)
    (λ t. rw (eqb-true e.tag 0x03 t, document_entered s e.value inside))
    (λ t. rw (eqb-true e.tag 0x04 (rw t at h), array_entered s e.value inside))

-- and a value of another tag stops the path
enters_other : (s : List ℕ) (e : paper.Element) (n : ℕ) → (eqb e.tag 0x03 || eqb e.tag 0x04) ≡ false
    → stops (value_in s e.tag e.value) ≡ refuses n 0 → Enters s e ≡ refuses n e.place
enters_other s e n h x =
    split (eqb e.tag 0x03)
    (λ t. absurd (true≢false (rw t at h)))
    (λ t. let d = eqb-false e.tag 0x03 t in
    let a = eqb-false e.tag 0x04 (rw t at h) in
    ap (at e.place)
    (then_same (value_in s e.tag e.value) entered _ (λ v q. other_stops s e.value v e.tag d a q) ∙ x))

-- a key that is not found ends the path
refused_along : (limit : Limit) (s key : List ℕ) (keys : List (List ℕ)) (n p : ℕ) → find_under limit s key ≡ refuses n p
    → look_along limit s key keys ≡ refuses n p
unfolding get_under
refused_along limit s key [] n p x = rw x
refused_along limit s key (next ∷ keys) n p x = rw x

-- ---- the path at one level

module _ (limit : Limit) (s path : List ℕ) (few : length (keys_of path).1 ≤ 200) where
  first_key : (keys_of path).0 ≡ take (first_zero path) path
  first_key =
      split (eqb (first_zero path) (length path))
      (λ t. let i = eqb-true (first_zero path) (length path) t in
      rw (keys_last path i) (sym (take_all (first_zero path) path (omega arith))))
      (λ t. let i = eqb-false (first_zero path) (length path) t in
      let below = before_most is_zero path in
      rw (keys_more path (omega arith)))

  -- a key that is absent, or damage before it
  level_refused : (n p : ℕ) → find_under limit s (take (first_zero path) path) ≡ refuses n p → get_path_under limit s path ≡ refuses n p
  level_refused n p x =
      path_short limit s path few ∙ refused_along limit s (keys_of path).0 (keys_of path).1 n p (ap (find_under limit s) first_key ∙ x)

  module _ (e : paper.Element) (x : find_under limit s (take (first_zero path) path) ≡ gives e) where
    -- the last key
    level_last : first_zero path ≡ length path → get_path_under limit s path ≡ found s e
    unfolding get_under
    level_last l =
        let k = keys_last path l in
        let q : find_under limit s path ≡ gives e = rw (take_all (first_zero path) path (omega arith)) at x in
        path_short limit s path few ∙ rw (k, q)

    module _ (more : first_zero path < length path) where
      abbrev remaining : List ℕ
      remaining = drop (first_zero path + 1) path

      -- those behind are fewer
      level_fewer : length (keys_of remaining).1 ≤ 200
      level_fewer =
          let k = ap (λ (x : List ℕ × List (List ℕ)). length x.1) (keys_more path more) in
          omega arith

      -- one on the way: the value is read, then entered, and the rest of the path looked up inside
      on_the_way : get_path_under limit s path ≡ then (Enters s e) λ p. moved p.offset (get_path_under limit (bytes s p) remaining)
      unfolding get_under found value_of get_path_under
      on_the_way =
          let k = keys_more path more in
          path_short limit s path few ∙ rw (le-leb _ _ level_fewer, k, x) (read_enters e (value_in s e.tag e.value) _)

-- ---- what a level answers

-- what lies in a slice ends there
held_fits : (w s : List ℕ) (by : ℕ) → bytes w (part by (length s)) ≡ s → 0 < length s → by + length s ≤ length w
unfolding bytes
held_fits w s by held l = omega (arith, ap length held, cut_short (length s) (drop by w), length-drop by w)

-- the slice itself, from its own start
pub reached : {s : List ℕ} {r : Result Element Refused} {a : Answer Found} → Reaches s 0 r a → reads s r ≡ a
unfolding bytes
reached {s} h = h.answers s (take-length s) ∙ moved_stays _

-- an element made anew, so much further on, is the one moved
made_moved : (s : List ℕ) (e : paper.Element) (base : ℕ) → FramedAt s (cursor e.place false) e → base + length s < 2 ^ 63
    → sized_wrapping (base + e.place) e.tag e.key.size e.value.size ≡ moved_element base e
made_moved s e base y small =
    let key : (base + e.place + 1) % 2 ^ 64 ≡ base + e.key.offset = omega arith in
    let value : (base + e.place + 1 + e.key.size + 1) % 2 ^ 64 ≡ base + e.value.offset = omega arith in
    rw (key, value)

refused_at : {s : List ℕ} {base n p : ℕ} {a : Answer Found} (w : Refused) → number w.why ≡ n → w.place ≡ base + p → a ≡ refuses n p
    → Reaches s base (Err w) a
refused_at w m l q = record { answers = λ whole held. rw (m, l, q) }

pub ends : (path : List ℕ) {size : ℕ} → size ≡ first_zero path → size ≤ length path
ends path z = omega (arith, before_most is_zero path)

module _ (limit : Limit) (s path : List ℕ) (few : length (keys_of path).1 ≤ 200) where
  module _ {size : ℕ} (z : size ≡ first_zero path) where
    -- what the lookup of the first key there answered
    module _ {r : Result Element Refused} (f : placed_by said_element r ≡ find_under limit s (take size path)) where
      module _ (w : Refused) (q : r ≡ Err w) where
        miss : find_under limit s (take size path) ≡ refuses (number w.why) w.place
        miss = answered (placed_by said_element) f q

        pub refused_inside : w.place ≤ 4 + length s
        refused_inside = find_place _ _ _ _ _ miss

        pub refused : {base : ℕ} (v : Refused) → v.why ≡ w.why → v.place ≡ base + w.place → Reaches s base (Err v) (get_path_under limit s path)
        refused v m l = refused_at v (ap number m) l (level_refused limit s path few _ w.place (rw z at miss))

      module _ (e : Element) (q : r ≡ Ok e) where
        hit : find_under limit s (take (first_zero path) path) ≡ gives (said_element e)
        hit = rw z at (answered (placed_by said_element) f q)

        pub framed : FramedAt s (cursor e.place false) (said_element e)
        framed = step_yields _ _ _ _ (find_steps _ _ _ _ hit)

        pub last : size ≡ length path → {base : ℕ} → base + length s < 2 ^ 63 → (d : Element)
            → said_element d ≡ sized_wrapping (base + e.place) e.tag e.key.size e.value.size → Reaches s base (Ok d) (get_path_under limit s path)
        last l {base} small d i =
            record {
              answers = λ whole held.
                  let y = framed in
                  ap (found whole) (i ∙ made_moved s (said_element e) base y small)
                  ∙ found_moved whole s base held (held_fits whole s base held (omega (arith, y.inside, y.wide))) _ (said_element e) y
                  ∙ ap (moved base) (sym (level_last limit s path few (said_element e) hit (sym z ∙ l)));
            }

        module _ (l : size ≢ length path) where
          pub more : size < length path
          more = omega (arith, ends path z)

          pub fewer : {behind : List ℕ} → behind ≡ drop (size + 1) path → length (keys_of behind).1 ≤ 200
          fewer b = rw (b, z) (level_fewer limit s path few (said_element e) hit (rw z at more))

          there : get_path_under limit s path
              ≡ then (Enters s (said_element e)) λ p. moved p.offset (get_path_under limit (bytes s p) (drop (size + 1) path))
          there = rw z (on_the_way limit s path few (said_element e) hit (rw z at more))

          pub stopped : {n base : ℕ} (w : Refused) → (eqb e.tag 0x03 || eqb e.tag 0x04) ≡ false
              → stops (value_in s e.tag (said_part e.value)) ≡ refuses n 0 → number w.why ≡ n → w.place ≡ base + e.place
              → Reaches s base (Err w) (get_path_under limit s path)
          stopped {n} w h x m l = refused_at w m l (there ∙ rw (enters_other s (said_element e) n h x))

          pub onward : (eqb e.tag 0x03 || eqb e.tag 0x04) ≡ true → {base : ℕ} {inner behind : List ℕ} {x : Result Element Refused}
              → inner ≡ bytes s (said_part e.value) → behind ≡ drop (size + 1) path
              → Reaches inner (base + e.value.offset) x (get_path_under limit inner behind) → Reaches s base x (get_path_under limit s path)
          onward h {base} {inner} {behind} a b g =
              let y = framed in
              let p = said_part e.value in
              let wide = bytes_length s p y.inside in
              let on : get_path_under limit s path ≡ moved p.offset (get_path_under limit (bytes s p) (drop (size + 1) path)) =
              there ∙ rw (enters_nest s (said_element e) y.inside h) in
              let below = rw (a, b) at g in
              record {
                answers = λ whole held.
                    let fits = held_fits whole s base held (omega (arith, y.inside, y.wide)) in
                    below.answers whole (rw wide (bytes_moved whole s base held fits p y.inside))
                    ∙ sym (moved_again base p.offset _) ∙ ap (moved base) (sym on);
              }
