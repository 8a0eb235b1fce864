-- What a limit does, proved: how a text is read under it, and that it turns an answer into 22 and into nothing else.
use Prim.Native.Nat.{ℕ, ◌≤◌}
use mathlib.Core.Path.{◌≡◌, refl, sym, ◌∙◌}
use mathlib.Core.List.{List}
use mathlib.Core.Bool.{Bool}
use mathlib.Core.Logic.{inl, inr}
use native.Mathlib.Omega.{arith}
use lib.ListN.{length, drop}
use Rattle.bson.specs.Answer.{Answer, gives}
use Rattle.bson.specs.Bytes.{bytes}
use Rattle.bson.specs.Cstring.{most, cstring_under, cstring}
use Rattle.bson.specs.Framing.{pattern_options_under, pattern_options, regex_size_under, framed_under, value_size_under}
use Rattle.bson.specs.Tags.{row_of, tags}
use Rattle.bson.specs.Step.{Cursor, Element, yield, step_under}
use Rattle.bson.specs.Check.{check_under, check}
use Rattle.laws.proofs.AnswerLaws.{never, then_gives, then_from}
use Rattle.laws.proofs.CstringLaws.{cstring_most, cstring_kept, cstring_first}
use Rattle.laws.proofs.FramingLaws.{pattern_options_under_law, pattern_options_most, pattern_options_kept}
use Rattle.laws.proofs.GrammarBack.{regex_alone}
use Rattle.laws.proofs.StepLaws.{step_frames}
use Rattle.laws.proofs.LimitLaws.{Turns, stays, turns, text_turns, step_turns, read_turns, read_with_turns, get_turns, get_with_turns}
use Rattle.laws.proofs.LimitLaws.{path_turns, path_with_turns, check_turns}
use Rattle.theorems.specs.OrLong.{OrLong, Limited}

or_long : {A : Type 0} {x y : Answer A} → Turns Unit x y → OrLong x y
or_long stays = inl refl
or_long (turns {p = p} h) = inr (p, refl)

kept_count : {x y : Answer ℕ} (n : ℕ) → Turns Unit x y → x ≡ gives n → y ≡ gives n
kept_count n stays e = e
kept_count n (turns h) e = never e

module _ (m : ℕ) where
  texts : (bound : ℕ) (v : List ℕ) → length v ≤ bound → Turns Unit (cstring_under (most m) v) (cstring v)
  texts bound v i = text_turns m v

  checked : (strict : Bool) (s : List ℕ) → Turns Unit (check_under (most m) strict s) (check strict s)
  checked strict s = check_turns Unit _ _ (length s) (texts (length s)) strict s (omega arith)

  -- a regex's own bytes answer as they do with what is behind them, where the step asked
  regex_asked : (s : List ℕ) (c : Cursor) (e : Element) → step_under (most m) s c ≡ gives (yield e) → e.tag ≡ 0x0B
      → pattern_options_under (most m) (bytes s e.value) ≡ pattern_options (bytes s e.value)
  unfolding value_size_under framed_under regex_size_under row_of tags bytes
  regex_asked s c e x t =
      let v = drop e.value.offset s in
      let f : regex_size_under (most m) v ≡ gives e.value.size = rw t at (step_frames (most m) s c e x).1 in
      let (r, q, h) = then_gives (pattern_options_under (most m) v) _ f in
      let u = pattern_options_under_law (most m) v r q in
      let (j, k) = pattern_options_most m v r q in
      let alone = regex_alone v e.value.size (then_from (pattern_options v) _ u ∙ h) ∙ u in
      pattern_options_kept m _ r alone j k ∙ sym alone

  pub limited : Limited m
  limited =
      record {
        at_most = cstring_most m;
        kept = cstring_kept m;
        first = cstring_first m;
        steps = λ s c. or_long (step_turns Unit _ _ (length s) (texts (length s)) s c (omega arith));
        readings = λ s place. or_long (read_turns Unit _ _ (length s) (texts (length s)) s place (omega arith));
        typed_readings = λ s place tag. or_long (read_with_turns Unit _ _ (length s) (texts (length s)) s place tag (omega arith));
        lookups = λ s key. or_long (get_turns Unit _ _ (length s) (texts (length s)) s key (omega arith));
        typed_lookups = λ s key tag. or_long (get_with_turns Unit _ _ (length s) (texts (length s)) s key tag (omega arith));
        paths = λ s path. or_long (path_turns Unit _ _ (length s) (texts (length s)) s path (omega arith));
        typed_paths = λ s path tag. or_long (path_with_turns Unit _ _ (length s) (texts (length s)) s path tag (omega arith));
        checks = λ strict s. or_long (checked strict s);
        passes = λ strict s n e. kept_count n (checked strict s) e;
        keys = λ s c e x. cstring_most m _ _ (step_frames (most m) s c e x).0;
        regexes = regex_asked;
      }
