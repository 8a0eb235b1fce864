-- Every byte of a document whose iteration comes to its terminator has one role (BSON 1.1, `document` and `element`; RULES.md,
-- "Admission and one step").
use Prim.Native.Nat.{ℕ, ◌+◌, ◌≤◌, ◌<◌}
use mathlib.Core.Path.{◌≡◌, refl, ap, ◌∙◌}
use mathlib.Core.List.{List}
use mathlib.Core.Bool.{cond}
use native.Mathlib.Omega.{arith}
use lib.ListN.{length}
use lib.Dec.{ltb}
use borrow.Author.Tests.{ltb-true, ltb-false, lt-ltb, le-ltb}
use Rattle.bson.specs.Step.{terminator, Element, past}
use Rattle.bson.specs.Reach.{Ends, here, later, From, first, next, Among}
use Rattle.laws.proofs.Common.{split}
use Rattle.theorems.specs.EveryByte.{Role, of_length, of_terminator, of_tag, of_key, of_zero, of_value, Has, OneRole}
use Rattle.theorems.proofs.Check.FirstOfKey.{among_yields, Covers, one_covers, ends_high, covers_between}
use Rattle.bson.specs.Cstring.{unlimited}

-- ---- roles and zones

-- the role of an offset that an element covers: its tag, its key, its zero and its value lie one behind the other
abbrev role_in : Element → ℕ → Role
role_in e i =
    cond (ltb i e.key.offset) (of_tag e)
    (cond (ltb i (e.key.offset + e.key.size)) (of_key e)
    (cond (ltb i e.value.offset) (of_zero e)
    (of_value e)))

-- where an offset lies: in the length, in an element, or at the terminator
data Zone (d : List ℕ) (i : ℕ) : Type 0 where
  front : i < 4 → Zone d i
  inner : (e : Element) → Covers unlimited d i e → Zone d i
  back : i ≡ terminator d → Zone d i

-- ---- each zone has a role, and each role a zone

module _ (d : List ℕ) (i : ℕ) where
  -- its role there, which it has
  abbrev role_of : Zone d i → Role
  role_of (front l) = of_length
  role_of (inner e c) = role_in e i
  role_of (back q) = of_terminator

  inner_has : (e : Element) → Covers unlimited d i e → Has d i (role_in e i)
  inner_has e c =
      let y = among_yields unlimited d e c.among in
      split (ltb i e.key.offset) (λ t. rw t (c.among, omega (arith, ltb-true)))
      (λ f. split (ltb i (e.key.offset + e.key.size)) (λ t. rw (f, t) (c.among, omega (arith, ltb-true, ltb-false)))
      (λ g. split (ltb i e.value.offset) (λ t. rw (f, g, t) (c.among, omega (arith, ltb-true, ltb-false)))
      (λ h. rw (f, g, h) (c.among, omega (arith, ltb-false)))))

  zone_has : (z : Zone d i) → Has d i (role_of z)
  zone_has (front l) = l
  zone_has (inner e c) = inner_has e c
  zone_has (back q) = q

  -- and each role that it has is that of a zone
  abbrev Zoned : Role → Type 0
  Zoned r = (z : Zone d i) × (r ≡ role_of z)

  covered : (e : Element) (r : Role) → Among unlimited d e → (e.place ≤ i) × (i < past e) → r ≡ role_in e i → Zoned r
  covered e r a (l, h) q = (inner e (record { among = a; begins = l; ends = h }), q)

  -- behind the key are the zero and the value
  behind_key : (e : Element) → e.key.offset + e.key.size ≤ i → role_in e i ≡ cond (ltb i e.value.offset) (of_zero e) (of_value e)
  behind_key e l = rw (le-ltb i e.key.offset (omega arith), le-ltb i (e.key.offset + e.key.size) l)

  role_zoned : (r : Role) → Has d i r → Zoned r
  role_zoned of_length l = (front l, refl)
  role_zoned of_terminator q = (back q, refl)
  role_zoned (of_tag e) (a, q) =
      let y = among_yields unlimited d e a in
      covered e _ a (omega arith) (rw (lt-ltb i e.key.offset (omega arith)))
  role_zoned (of_key e) (a, (l, h)) =
      let y = among_yields unlimited d e a in
      covered e _ a (omega arith) (rw (le-ltb i e.key.offset l, lt-ltb i (e.key.offset + e.key.size) h))
  role_zoned (of_zero e) (a, q) =
      let y = among_yields unlimited d e a in
      covered e _ a (omega arith) (rw (behind_key e (omega arith), lt-ltb i e.value.offset (omega arith)))
  role_zoned (of_value e) (a, (l, h)) =
      let y = among_yields unlimited d e a in
      covered e _ a (omega arith) (rw (behind_key e (omega arith), le-ltb i e.value.offset l))

  -- ---- each offset is in one zone

  -- where iteration comes to the terminator, each offset from one at which it steps is covered, or is the terminator
  zone_from : (offset : ℕ) → Ends unlimited d offset → From unlimited d offset → offset ≤ i → i < length d → Zone d i
  zone_from offset (here q) p l h = back (omega arith)
  zone_from offset (later e y r) p l h =
      let a : Among unlimited d e = record { offset = offset; from = p; yields = y } in
      let b : e.place ≤ i = omega (arith, (among_yields unlimited d e a).placed) in
      split (ltb i (past e)) (λ t. inner e (record { among = a; begins = b; ends = ltb-true i (past e) t }))
      (λ f. zone_from (past e) r (next e p y) (ltb-false i (past e) f) h)

  zone : Ends unlimited d 4 → i < length d → Zone d i
  zone r h = split (ltb i 4) (λ t. front (ltb-true i 4 t)) (λ f. zone_from 4 r first (ltb-false i 4 f) h)

  -- zones do not meet, so their roles are one
  zones_agree : Ends unlimited d 4 → (y z : Zone d i) → role_of y ≡ role_of z
  zones_agree r (front l) (front m) = refl
  zones_agree r (front l) (inner e c) = absurd (omega (arith, covers_between unlimited d i e r c))
  zones_agree r (front l) (back q) = absurd (omega (arith, ends_high unlimited d 4 r))
  zones_agree r (inner e c) (front l) = absurd (omega (arith, covers_between unlimited d i e r c))
  zones_agree r (inner e c) (inner f k) = ap (λ (g : Element). role_in g i) (one_covers unlimited d i e f c k)
  zones_agree r (inner e c) (back q) = absurd (omega (arith, covers_between unlimited d i e r c))
  zones_agree r (back q) (front l) = absurd (omega (arith, ends_high unlimited d 4 r))
  zones_agree r (back q) (inner e c) = absurd (omega (arith, covers_between unlimited d i e r c))
  zones_agree r (back q) (back t) = refl

pub every_byte : (d : List ℕ) → Ends unlimited d 4 → (i : ℕ) → i < length d → OneRole d i
every_byte d r i l =
    let z = zone d i r l in
    record {
      role = role_of d i z;
      has = zone_has d i z;
      only = λ s h. let (y, q) = role_zoned d i s h in q ∙ zones_agree d i r y z;
    }
