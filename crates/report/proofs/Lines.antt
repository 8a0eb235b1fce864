-- The lines of an element and of a verdict, as the code makes them piece by piece (RULES.md, "Bytes to try").
use Prim.Native.Nat.{ℕ, ◌+◌, ◌/◌, ◌%◌}
use mathlib.Core.Path.{◌≡◌}
use mathlib.Core.List.{List, [], ◌∷◌}
use mathlib.Core.Bool.{true}
use native.Mathlib.Omega.{arith}
use lib.Dec.{leb}
use lib.ListN.{length, length-append}
use Rattle.bson.specs.Decimal.{width, decimal}
use Rattle.bson.specs.Output.{Output, output, put_text, put_texts}
use Rattle.bson.specs.Step.{Element}
use Rattle.bson.specs.Report.{sp, nl, hex_digit, hex_byte, element_line, verdict_line}
use Rattle.bson.specs.Answer.{gives, refuses}
use Rattle.laws.proofs.OutputLaws.{line_put}
use Rattle.laws.proofs.DecimalLaws.{length_decimal}

pub element_size : (e : Element) (v w : ℕ) → v ≡ width e.place → w ≡ width e.value.size → v + w + 5 ≡ length (element_line e)
unfolding element_line hex_byte
element_size e v w p q = simp (length-append, length_decimal) (omega arith)

-- the pieces of the line, in the order of the calls that put them
abbrev element_pieces : ℕ → ℕ → ℕ → ℕ → List (List ℕ)
element_pieces place g h size = decimal place ∷ (sp ∷ g ∷ h ∷ sp ∷ []) ∷ decimal size ∷ (nl ∷ []) ∷ []

pub accepted_size : (count w : ℕ) → w ≡ width count → w + 10 ≡ length (verdict_line (gives count))
unfolding verdict_line
accepted_size count w p = simp (length-append, length_decimal) (omega arith)

pub refused_size : (number place v w : ℕ) → v ≡ width number → w ≡ width place → v + w + 10 ≡ length (verdict_line (refuses number place))
unfolding verdict_line
refused_size number place v w p q = simp (length-append, length_decimal) (omega arith)

-- the pieces of each line, in the order of the calls that put them
abbrev accepted_pieces : ℕ → List (List ℕ)
accepted_pieces count = (0x61 ∷ 0x63 ∷ 0x63 ∷ 0x65 ∷ 0x70 ∷ 0x74 ∷ 0x65 ∷ 0x64 ∷ sp ∷ []) ∷ decimal count ∷ (nl ∷ []) ∷ []

abbrev refused_pieces : ℕ → ℕ → List (List ℕ)
refused_pieces number place =
    (0x72 ∷ 0x65 ∷ 0x66 ∷ 0x75 ∷ 0x73 ∷ 0x65 ∷ 0x64 ∷ sp ∷ []) ∷ decimal number ∷ (sp ∷ []) ∷ decimal place ∷ (nl ∷ []) ∷ []

-- pieces that were put where the line fits are the line put
module _ (buffer : List ℕ) (at : ℕ) {o : Output} where
  pub element_put : (e : Element) {v w g h : ℕ} → v ≡ width e.place → w ≡ width e.value.size
      → g ≡ hex_digit (e.tag / 16) → h ≡ hex_digit (e.tag % 16) → leb (at + (v + w + 5)) (length buffer) ≡ true
      → o ≡ put_texts (output buffer at) (element_pieces e.place g h e.value.size) → o ≡ put_text (output buffer at) (element_line e)
  unfolding element_line hex_byte
  element_put e {v} {w} p q i j t c =
      line_put buffer at (element_pieces e.place (hex_digit (e.tag / 16)) (hex_digit (e.tag % 16)) e.value.size) (v + w + 5) o
      (element_size e v w p q) t (rw (i, j) at c)

  pub accepted_put : (count : ℕ) {w : ℕ} → w ≡ width count → leb (at + (w + 10)) (length buffer) ≡ true
      → o ≡ put_texts (output buffer at) (accepted_pieces count) → o ≡ put_text (output buffer at) (verdict_line (gives count))
  unfolding verdict_line
  accepted_put count {w} p t c = line_put buffer at (accepted_pieces count) (w + 10) o (accepted_size count w p) t c

  pub refused_put : (number place : ℕ) {v w : ℕ} → v ≡ width number → w ≡ width place → leb (at + (v + w + 10)) (length buffer) ≡ true
      → o ≡ put_texts (output buffer at) (refused_pieces number place) → o ≡ put_text (output buffer at) (verdict_line (refuses number place))
  unfolding verdict_line
  refused_put number place {v} {w} p q t c =
      line_put buffer at (refused_pieces number place) (v + w + 10) o (refused_size number place v w p q) t c
