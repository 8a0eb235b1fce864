-- What follows for one turn of the writer from what the definition performs: the session behind it; a refused one changes nothing; the
-- bytes behind the output stay (demand 2; RULES.md, "Writer and joining").
use Prim.Native.Nat.{ℕ, zero, suc}
use mathlib.Core.Path.{◌≡◌, refl, sym, ap, subst, ◌∙◌}
use mathlib.Core.Bool.{true, true≢false}
use mathlib.Core.List.{List, [], ◌∷◌}
use lib.ListN.{length, drop}
use Rattle.bson.specs.Answer.{Answer, gives, refuses}
use Rattle.bson.specs.Writer as writer
use Rattle.bson.specs.Writer.{used, Desk, Call, answer, leaves, performed}
use Rattle.laws.proofs.AnswerLaws.{one_of}
use Rattle.laws.proofs.WriterRefusals.{refused_number, unchanged}
use Rattle.laws.proofs.WriterLaws.{bytes_behind}
use Rattle.theorems.specs.ReadBack as read_back
use Rattle.theorems.specs.ReadBack.{Building, Session, session_after}
use Rattle.promises.specs.Turn.{after_turn}

-- what is left, with the tree that its number makes
abbrev ended : Call → Building → writer.Written → Session
ended c tree x = record { left = x.left; tree = after_turn x.number c tree }

next_ends : (c : Call) (s : Session) (x : Answer Desk) → ((n p : ℕ) → x ≡ refuses n p → one_of (13 ∷ 14 ∷ 15 ∷ 18 ∷ []) n ≡ true)
    → session_after c s x ≡ ended c s.tree (leaves s.left x)
next_ends c s (gives d) r = refl
next_ends c s (refuses zero p) r = absurd (true≢false (sym (r zero p refl)))
next_ends c s (refuses (suc n) p) r = refl

-- behind the used bytes a buffer's are left
abbrev Kept : List ℕ → Desk → Type 0
Kept buffer d = drop (used d.state) d.buffer ≡ drop (used d.state) buffer

leaves_kept : (c : Call) (d : Desk) (x : Answer Desk) → length d.state ≡ 406 → answer c d ≡ x → Kept d.buffer (leaves d x).left
leaves_kept c d (gives e) h q = (bytes_behind c d e h q).same
leaves_kept c d (refuses n p) h q = refl

module _ (c : Call) (d : Desk) (w : writer.Written) (p : w ≡ performed c d.state d.buffer) where
  pub turn_ends_by : (tree : Building)
      → read_back.turn c (record { left = d; tree = tree }) ≡ record { left = w.left; tree = after_turn w.number c tree }
  unfolding performed
  turn_ends_by tree = next_ends c (record { left = d; tree = tree }) (answer c d) (refused_number c d) ∙ ap (ended c tree) (sym p)

  pub unchanged_by : (w.number ≡ 0 → ⊥) → w.left ≡ d
  unchanged_by h =
      ap (λ (x : writer.Written). x.left) p ∙ unchanged c d.state d.buffer (λ z. h (ap (λ (x : writer.Written). x.number) p ∙ z))

  pub behind_by : length d.state ≡ 406 → drop (used w.left.state) w.left.buffer ≡ drop (used w.left.state) d.buffer
  unfolding performed
  behind_by h = subst (λ (x : writer.Written). Kept d.buffer x.left) (sym p) (leaves_kept c d (answer c d) h refl)
