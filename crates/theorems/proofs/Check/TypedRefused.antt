-- The typed getters of numbers are refused only as the typed lookup is (RULES.md, "Values"; demand 3).
use Prim.Native.Nat.{ℕ}
use mathlib.Core.Path.{◌≡◌, refl, sym, ◌∙◌}
use mathlib.Core.List.{List}
use Rattle.bson.specs.Answer.{Answer, gives, refuses}
use Rattle.bson.specs.Bytes.{le64, i32, i64}
use Rattle.bson.specs.Framing.{in_front}
use Rattle.bson.specs.Value.{Leaf, leaf, boolean, int32, int64, date_time, double, timestamp, bool, timestamp_of}
use Rattle.bson.specs.Lookup.{Found, get_with, typed}
use Rattle.laws.proofs.AnswerLaws.{never}
use Rattle.laws.proofs.LookupLaws.{get_f64_reads, get_bool_reads, get_datetime_reads, get_i32_reads, get_i64_reads, get_timestamp_reads}

-- a getter that gives wherever the typed lookup finds is refused only as that is
module _ {A : Type 0} (number : List ℕ → Answer A) (holds : A → Leaf) (s key : List ℕ) (tag k p : ℕ)
    (reads : (f : Found) → get_with s key tag ≡ gives f → (a : A) × (typed number s key tag ≡ gives a) × (f.value ≡ leaf (holds a)))
    (refused : typed number s key tag ≡ refuses k p) where
  number_by : (x : Answer Found) → get_with s key tag ≡ x → get_with s key tag ≡ refuses k p
  number_by (gives f) q = never (sym refused ∙ (reads f q).1)
  number_by (refuses j o) q = let z : refuses j o ≡ refuses k p = rw q at refused in cc

  number_refused : get_with s key tag ≡ refuses k p
  number_refused = number_by (get_with s key tag) refl

-- A typed getter of numbers is refused only as the typed lookup is, in any slice.
module _ (s key : List ℕ) (k p : ℕ) where
  pub f64_refused : typed (in_front 8 le64) s key 0x01 ≡ refuses k p → get_with s key 0x01 ≡ refuses k p
  f64_refused = number_refused (in_front 8 le64) double s key 0x01 k p (get_f64_reads s key)

  pub bool_refused : typed bool s key 0x08 ≡ refuses k p → get_with s key 0x08 ≡ refuses k p
  bool_refused = number_refused bool boolean s key 0x08 k p (get_bool_reads s key)

  pub datetime_refused : typed (in_front 8 i64) s key 0x09 ≡ refuses k p → get_with s key 0x09 ≡ refuses k p
  datetime_refused = number_refused (in_front 8 i64) date_time s key 0x09 k p (get_datetime_reads s key)

  pub i32_refused : typed (in_front 4 i32) s key 0x10 ≡ refuses k p → get_with s key 0x10 ≡ refuses k p
  i32_refused = number_refused (in_front 4 i32) int32 s key 0x10 k p (get_i32_reads s key)

  pub timestamp_refused : typed timestamp_of s key 0x11 ≡ refuses k p → get_with s key 0x11 ≡ refuses k p
  timestamp_refused = number_refused timestamp_of (λ t. timestamp t.0 t.1) s key 0x11 k p (get_timestamp_reads s key)

  pub i64_refused : typed (in_front 8 i64) s key 0x12 ≡ refuses k p → get_with s key 0x12 ≡ refuses k p
  i64_refused = number_refused (in_front 8 i64) int64 s key 0x12 k p (get_i64_reads s key)
