-- `c_answers::bits_of` meets its contract: case by case.
use Prim.Native.Nat.{ℕ}
use mathlib.Core.Path.{◌≡◌, refl}
use mir.Syntax.{w32, w64}
use lib.IntN.{ℤ}
use mathlib.Core.Bool.{Bool}
use Rattle.part.specs.declared.Part.{Part}
use borrow.Author.Rules.{rules}
use Rattle.encode.proofs.Basic.{passed}
use Rattle.value.specs.Said.{said_value}
use Rattle.value.specs.declared.Value.{Value}
use Rattle.value.specs.declared.Value.TheVariants.{Double, String, Document, Array, Binary, Undefined, ObjectId, Boolean, DateTime, Null}
use Rattle.value.specs.declared.Value.TheVariants.{RegularExpression, DbPointer, JavaScriptCode, Symbol, JavaScriptCodeWithScope, Int32}
use Rattle.value.specs.declared.Value.TheVariants.{Timestamp, Int64, Decimal128, MinKey, MaxKey}
use Rattle.c_answers.specs.Numbers.{bits_of, signed_bits}
use Rattle.c_answers.proofs.bits_of.Goals as goal

-- the values that are no number and have none
record Numberless (v : Value) : Type 0 where
  no_double : (bits : ℕ) → v ≡ Double bits → ⊥
  no_subtype : (n : ℕ) (p : Part) → v ≡ Binary n p → ⊥
  no_boolean : (b : Bool) → v ≡ Boolean b → ⊥
  no_date : (n : ℤ) → v ≡ DateTime n → ⊥
  no_int32 : (n : ℤ) → v ≡ Int32 n → ⊥
  no_timestamp : (n m : ℕ) → v ≡ Timestamp n m → ⊥
  no_int64 : (n : ℤ) → v ≡ Int64 n → ⊥

others_zero : (v : Value) → Numberless v → 0 ≡ bits_of (said_value v)
unfolding bits_of
others_zero (Double b) k = absurd (k.no_double b refl)
others_zero (String p) k = refl
others_zero (Document p) k = refl
others_zero (Array p) k = refl
others_zero (Binary n p) k = absurd (k.no_subtype n p refl)
others_zero Undefined k = refl
others_zero (ObjectId p) k = refl
others_zero (Boolean b) k = absurd (k.no_boolean b refl)
others_zero (DateTime n) k = absurd (k.no_date n refl)
others_zero Null k = refl
others_zero (RegularExpression p q) k = refl
others_zero (DbPointer p q) k = refl
others_zero (JavaScriptCode p) k = refl
others_zero (Symbol p) k = refl
others_zero (JavaScriptCodeWithScope p q) k = refl
others_zero (Int32 n) k = absurd (k.no_int32 n refl)
others_zero (Timestamp n m) k = absurd (k.no_timestamp n m refl)
others_zero (Int64 n) k = absurd (k.no_int64 n refl)
others_zero (Decimal128 p) k = refl
others_zero MinKey k = refl
others_zero MaxKey k = refl

pub returns-in-Double : goal.returns-in-Double
unfolding bits_of
returns-in-Double c = rw c.in-Double.is

pub returns-in-Binary : goal.returns-in-Binary
unfolding bits_of
returns-in-Binary c = rw c.in-Binary.is

pub returns-in-Boolean : goal.returns-in-Boolean
unfolding bits_of
returns-in-Boolean c = rw c.in-Boolean.is c.of_bool.ensures

pub returns-in-DateTime : goal.returns-in-DateTime
unfolding bits_of
returns-in-DateTime c =
    rw c.in-DateTime.is
    (passed w64 c.in-DateTime.n (search rules) signed_bits c.bits64.ensures)

pub returns-in-Int32 : goal.returns-in-Int32
unfolding bits_of
returns-in-Int32 c =
    rw c.in-Int32.is
    (passed w32 c.in-Int32.n (search rules) signed_bits c.of_int32.ensures)

pub returns-in-Timestamp : goal.returns-in-Timestamp
unfolding bits_of
returns-in-Timestamp c = rw c.in-Timestamp.is c.of_halves.ensures

pub returns-in-Int64 : goal.returns-in-Int64
unfolding bits_of
returns-in-Int64 c =
    rw c.in-Int64.is
    (passed w64 c.in-Int64.n (search rules) signed_bits c.bits64-in-Int64.ensures)

pub returns-in_default : goal.returns-in_default
returns-in_default c =
    let d = c.in_default in
    others_zero c.args.value
    (record {
      no_double = d.not-Double;
      no_subtype = d.not-Binary;
      no_boolean = d.not-Boolean;
      no_date = d.not-DateTime;
      no_int32 = d.not-Int32;
      no_timestamp = d.not-Timestamp;
      no_int64 = d.not-Int64;
    })
