-- How both bodies come into the buffer, as the code meets it: the test for room, and four texts one after the other
-- (RULES.md, "Writer and joining").
use Prim.Native.Nat.{ℕ, ◌+◌, ◌-◌, ◌≤◌, ◌<◌}
use mathlib.Core.Path.{◌≡◌, refl, ap, ◌∙◌}
use mathlib.Core.List.{List, [], ◌∷◌}
use native.Mathlib.Omega.{arith}
use lib.ListN.{length, take, drop}
use borrow.Author.Tests.{le-leb, lt-leb}
use Rattle.bson.specs.Grammar.{bytes32}
use Rattle.bson.specs.Output.{Output, output, put_text}
use Rattle.bson.specs.Writer as writer
use Rattle.bson.specs.Join.{body, wrote, refused, joined, size_of_both, both_put}
use Rattle.laws.proofs.OutputLaws.{then_put}
use Rattle.laws.proofs.WriterLaws.{room_within}
use Rattle.laws.proofs.JoinLaws.{bodies_put}

body_part : (s : List ℕ) → take (length s - 1 - 4) (drop 4 s) ≡ body s
unfolding body
body_part s = let e : length s - 1 - 4 ≡ length s - 5 = omega arith in rw e

module _ (first second buffer : List ℕ) (room : ℕ) (er : room ≡ writer.room (length buffer)) where
  abbrev size : ℕ
  size = length first + length second - 5

  pub no_room_law : room < size → joined (refused 14 0 0) buffer ≡ both_put first second buffer
  unfolding both_put size_of_both
  no_room_law h = rw (lt-leb size (writer.room (length buffer)) (rw er at h))

  pub has_room : 5 ≤ length first → 5 ≤ length second → size ≤ room
      → {o₁ o₂ o₃ o₄ : Output}
      → o₁ ≡ put_text (output buffer 0) (bytes32 size)
      → o₂ ≡ put_text o₁ (take (length first - 1 - 4) (drop 4 first))
      → o₃ ≡ put_text o₂ (take (length second - 1 - 4) (drop 4 second))
      → o₄ ≡ put_text o₃ (0 ∷ [])
      → {exit : List ℕ} → exit ≡ o₄.buffer
      → joined (wrote size) exit ≡ both_put first second buffer
  unfolding both_put size_of_both
  has_room p q h {o₁} {o₂} {o₃} {o₄} e₁ e₂ e₃ e₄ ex =
      let f₂ = then_put (body first) e₁ (e₂ ∙ ap (put_text o₁) (body_part first)) in
      let f₃ = then_put (body second) f₂ (e₃ ∙ ap (put_text o₂) (body_part second)) in
      let f₄ = then_put (0 ∷ []) f₃ e₄ in
      let low = (room_within (length buffer)).0 in
      rw (le-leb size (writer.room (length buffer)) (rw er at h))
      (ap (joined (wrote size)) (ex ∙ bodies_put first second p q buffer size o₄ refl (omega arith) f₄))
