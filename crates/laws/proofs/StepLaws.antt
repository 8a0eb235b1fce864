-- What admission and a step that yields say, and that iteration goes on from step to step (RULES.md, "Admission and one step").
use Prim.Native.Nat.{ℕ, zero, suc, ◌+◌, ◌-◌, ◌≤◌, ◌<◌}
use mathlib.Core.Path.{◌≡◌, refl, sym, ap, ◌∙◌}
use mathlib.Core.List.{List}
use mathlib.Core.Bool.{Bool, true, false, cond, ◌&&◌, true≢false}
use native.Mathlib.Omega.{arith}
use lib.ListN.{length, get_or, take, drop, length-drop}
use lib.Seq.{get_or-drop}
use lib.Dec.{leb, eqb}
use borrow.Author.Tests.{leb-true, ltb-true, le-leb, lt-ltb, eq-eqb, ne_eqb, eqb-true, eqb-false}
use Rattle.bson.specs.Answer.{Answer, gives, refuses}
use Rattle.bson.specs.Bytes.{le32, natural, declares, bytes, same}
use Rattle.bson.specs.Utf8.{utf8}
use Rattle.bson.specs.Cstring.{Limit, is_zero, first_zero, cstring, valid_cstr, cstring_under, zero_text}
use Rattle.bson.specs.Framing.{value_size, value_size_under}
use Rattle.bson.specs.Step.{terminator, admitted, Cursor, cursor, Element, past, Step, yield, end, step, Iteration, ended, broken, more}
use Rattle.bson.specs.Step.{onward, iterate_for, element_under, iterate_under, step_under}
use Rattle.laws.specs.FramedAt.{FramedAt}
use Rattle.laws.proofs.AnswerLaws.{never, gives_injective, unless_gives, then_gives, at_gives}
use Rattle.laws.proofs.FramingLaws.{value_size_fits, value_size_under_law}
use Rattle.laws.proofs.BytesLaws.{same_eq}
use Rattle.laws.proofs.Common.{split, both_hold}
use Rattle.laws.proofs.CstringLaws.{before_least, cstring_below, cstring_valid, cstring_under_law}

-- ---- admission

pub admitted_says : (s : List ℕ) (n : ℕ) → admitted s ≡ gives n
    → (5 ≤ length s) × (n ≡ length s) × (get_or s (terminator s) 0 ≡ 0) × (le32 s ≡ length s) × (length s < 2147483648)
unfolding admitted
admitted_says s n e =
    let (t, e1) = unless_gives (leb 5 (length s)) 1 _ e in
    let (u, e2) = unless_gives (declares s (length s)) 2 _ e1 in
    let (w, e3) = unless_gives (eqb (get_or s (terminator s) 0) 0) 3 _ e2 in
    let (k, l) = both_hold (natural (le32 s)) (eqb (le32 s) (length s)) u in
    let i = eqb-true (le32 s) (length s) l in
    (leb-true 5 (length s) t, sym (gives_injective e3), eqb-true _ _ w, i, omega (arith, ltb-true (le32 s) 2147483648 k))

-- a step that is not refused is one in an admitted document
pub step_admits : (limit : Limit) (s : List ℕ) (c : Cursor) (x : Step) → step_under limit s c ≡ gives x → admitted s ≡ gives (length s)
unfolding step_under
step_admits limit s c x q = let (n, a, h) = then_gives (admitted s) _ q in a ∙ ap gives (admitted_says s n a).1

-- a test that answers end did not hold
not_end : (b : Bool) (x : Answer Step) (e : Element) → cond b (gives end) x ≡ gives (yield e) → (b ≡ false) × (x ≡ gives (yield e))
not_end true x e h = let z : ◌≡◌ {A = ℕ} 0 1 = cc in absurd (omega arith)
not_end false x e h = (refl, h)

-- a key and a value that are framed end inside the slice
framed_inside : (s : List ℕ) (p k tag n : ℕ) → cstring (drop (p + 1) s) ≡ gives k → value_size tag (drop (p + 1 + k + 1) s) ≡ gives n
    → p + 1 + k + 1 + n ≤ length s
framed_inside s p k tag n key value =
    omega (arith, cstring_below _ k key, length-drop (p + 1) s, value_size_fits tag _ n value, length-drop (p + 1 + k + 1) s)

pub element_inside : (limit : Limit) (s : List ℕ) (p : ℕ) (e : Element) → element_under limit s p ≡ gives e → past e ≤ length s
unfolding element_under
element_inside limit s p e x =
    let (k, key, x1) = then_gives (cstring_under _ (drop (p + 1) s)) _ x in
    let (n, value, x2) = then_gives (value_size_under _ (get_or s p 0) (drop (p + 1 + k + 1) s)) _ x1 in
    rw (← gives_injective x2) (framed_inside s p k _ n (cstring_under_law _ _ k key) (value_size_under_law _ _ _ n value))

module _ (limit : Limit) (s : List ℕ) (c : Cursor) (e : Element) where
  element_yields : admitted s ≡ gives (length s) → c.ended ≡ false → 4 ≤ c.offset → c.offset < terminator s
      → element_under limit s c.offset ≡ gives e → FramedAt s c e
  unfolding element_under
  element_yields a g l h x =
      let p = c.offset in
      let (k, key', x1) = then_gives (cstring_under _ (drop (p + 1) s)) _ x in
      let (n, value', x2) = then_gives (value_size_under _ (get_or s p 0) (drop (p + 1 + k + 1) s)) _ x1 in
      let key = cstring_under_law _ (drop (p + 1) s) k key' in
      let value = value_size_under_law _ (get_or s p 0) (drop (p + 1 + k + 1) s) n value' in
      rw (← gives_injective x2)
      (record {
        admits = a;
        going = g;
        low = l;
        high = h;
        placed = refl;
        tagged = refl;
        key_at_law = refl;
        value_at = refl;
        wide = omega arith;
        inside = framed_inside s p k _ n key value;
        key_is = key;
        value_is_law = value;
      })

  step_tests : step_under limit s c ≡ gives (yield e)
      → (c.ended ≡ false) × (4 ≤ c.offset) × (c.offset < terminator s) × (element_under limit s c.offset ≡ gives e)
  unfolding step_under
  step_tests x =
      let (n, a, x1) = then_gives (admitted s) _ x in
      let (g, x2) = not_end c.ended _ e x1 in
      let (t, x3) = unless_gives (leb 4 c.offset && leb c.offset (terminator s)) 4 _ (at_gives c.offset _ x2) in
      let (f, x4) = not_end (eqb c.offset (terminator s)) _ e x3 in
      let (d, x5, y) = then_gives (element_under _ s c.offset) _ x4 in
      let i : d ≡ e = cc (gives_injective y) in
      let (low, high) = both_hold (leb 4 c.offset) (leb c.offset (terminator s)) t in
      let h : c.offset < terminator s = omega (arith, leb-true c.offset (terminator s) high, eqb-false c.offset (terminator s) f) in
      (g, leb-true 4 c.offset low, h, x5 ∙ ap gives i)

  pub step_yields : step_under limit s c ≡ gives (yield e) → FramedAt s c e
  step_yields x =
      let (g, l, h, y) = step_tests x in
      element_yields (step_admits limit s c (yield e) x) g l h y

  -- the limit let its key and its value through
  pub step_frames : step_under limit s c ≡ gives (yield e)
      → (cstring_under limit (drop e.key.offset s) ≡ gives e.key.size)
      × (value_size_under limit e.tag (drop e.value.offset s) ≡ gives e.value.size)
  unfolding element_under
  step_frames x =
      let p = c.offset in
      let (k, key, x1) = then_gives (cstring_under _ (drop (p + 1) s)) _ (step_tests x).3 in
      let (n, value, x2) = then_gives (value_size_under _ (get_or s p 0) (drop (p + 1 + k + 1) s)) _ x1 in
      rw (← gives_injective x2) (key, value)

-- and a step at its place yields it
module _ (s : List ℕ) (c : Cursor) (e : Element) where
  pub yields_step : FramedAt s c e → step s (cursor e.place false) ≡ gives (yield e)
  unfolding step_under element_under
  yields_step y =
      let low = le-leb 4 c.offset y.low in
      let high = le-leb c.offset (terminator s) (omega arith) in
      let going = ne_eqb c.offset (terminator s) (λ i. omega arith) in
      let value : value_size (get_or s c.offset 0) (drop (c.offset + 1 + e.key.size + 1) s) ≡ gives e.value.size =
      rw (← y.tagged, ← y.key_at_law, ← y.value_at) y.value_is_law in
      rw (y.placed, y.admits, low, high, going, y.key_is, value, ← y.tagged, ← y.key_at_law, ← y.value_at, ← y.placed)

-- ---- its key

-- the key of a yielded element is a valid one, so another matches nothing
pub key_valid : (s : List ℕ) (c : Cursor) (e : Element) → FramedAt s c e → valid_cstr (bytes s e.key) ≡ true
unfolding bytes
key_valid s c e y = rw y.key_at_law (cstring_valid (drop (c.offset + 1) s) e.key.size y.key_is)

pub other_key_unmatched : (s : List ℕ) (c : Cursor) (e : Element) → FramedAt s c e
    → (key : List ℕ) → valid_cstr key ≡ false → same key (bytes s e.key) ≡ false
other_key_unmatched s c e y key h =
    split (same key (bytes s e.key))
    (λ t. absurd (true≢false (sym (key_valid s c e y) ∙ sym (ap valid_cstr (same_eq key (bytes s e.key) t)) ∙ h)))
    (λ t. t)

-- an admitted document ends in a zero, so a key before the terminator is refused by 6 alone
pub key_refused : (s : List ℕ) (m offset n p : ℕ) → admitted s ≡ gives m → offset < terminator s
    → cstring (drop (offset + 1) s) ≡ refuses n p → n ≡ 6
unfolding zero_text cstring_under
key_refused s m offset n p a h e =
    let v = drop (offset + 1) s in
    let i = terminator s - (offset + 1) in
    let k : offset + 1 + i ≡ terminator s = omega arith in
    let z : get_or v i 0 ≡ 0 = get_or-drop (offset + 1) s i 0 ∙ ap (λ (j : ℕ). get_or s j 0) k ∙ (admitted_says s m a).2 in
    let f = before_least is_zero v i (omega (arith, length-drop (offset + 1) s)) (eq-eqb _ _ z) in
    let l : first_zero v < length v = omega (arith, length-drop (offset + 1) s) in
    split (utf8 (take (first_zero v) v))
    (λ t. never (sym (rw (lt-ltb _ _ l, t) at e)))
    (λ t. let q : refuses 6 0 ≡ refuses n p = rw (lt-ltb _ _ l, t) at e in cc)

-- ---- iteration, from step to step

onward_same : (x : Answer Step) (f g : ℕ → Iteration) → ((e : Element) → x ≡ gives (yield e) → f (past e) ≡ g (past e))
    → onward x f ≡ onward x g
onward_same (gives (yield e)) f g h = ap (more e) (h e refl)
onward_same (gives end) f g h = refl
onward_same (refuses n p) f g h = refl

-- as many steps as bytes are left, and one, are enough, so more change nothing
enough : (limit : Limit) (s : List ℕ) (n m offset : ℕ) → offset ≤ length s → length s < n + offset → length s < m + offset
    → iterate_for limit n s offset ≡ iterate_for limit m s offset
unfolding iterate_for
enough limit s zero m offset i h k = absurd (omega arith)
enough limit s (suc n) zero offset i h k = absurd (omega arith)
enough limit s (suc n) (suc m) offset i h k =
    onward_same (step_under limit s (cursor offset false)) (iterate_for limit n s) (iterate_for limit m s)
    (λ e x. let y = step_yields _ s (cursor offset false) e x in enough limit s n m (past e) y.inside (omega arith) (omega arith))

pub iterate_eq : (limit : Limit) (s : List ℕ) (offset : ℕ)
    → iterate_under limit s offset ≡ onward (step_under limit s (cursor offset false)) (iterate_under limit s)
unfolding iterate_under iterate_for
iterate_eq limit s offset =
    onward_same (step_under limit s (cursor offset false)) (iterate_for limit (length s) s) (iterate_under limit s)
    (λ e x. let y = step_yields _ s (cursor offset false) e x in
    enough limit s (length s) (suc (length s)) (past e) y.inside (omega arith) (omega arith))

-- each element of the iteration is what the step behind the one before it yields
abbrev pub Each : List ℕ → ℕ → Iteration → Type 0
Each s offset ended = record {}
Each s offset (broken n p) = record {}
Each s offset (more e rest) = FramedAt s (cursor offset false) e × Each s (past e) rest

module _ (limit : Limit) where
  each_onward : (s : List ℕ) (offset : ℕ) (f : ℕ → Iteration) → ((next : ℕ) → Each s next (f next))
      → (x : Answer Step) → step_under limit s (cursor offset false) ≡ x → Each s offset (onward x f)
  each_onward s offset f h (gives (yield e)) q = (step_yields _ s (cursor offset false) e q, h (past e))
  each_onward s offset f h (gives end) q = record {}
  each_onward s offset f h (refuses n p) q = record {}

  each_for : (n : ℕ) (s : List ℕ) (offset : ℕ) → Each s offset (iterate_for limit n s offset)
  unfolding iterate_for
  each_for zero s offset = record {}
  each_for (suc n) s offset = each_onward s offset (iterate_for limit n s) (each_for n s) (step_under limit s (cursor offset false)) refl

  pub iterate_each : (s : List ℕ) (offset : ℕ) → Each s offset (iterate_under limit s offset)
  unfolding iterate_under
  iterate_each s offset = each_for (suc (length s)) s offset
