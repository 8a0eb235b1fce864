-- Determined: a refusal is known by its number, and a result by what it says; and the promise of each call allows one answer (RULES.md, "What
-- every answer is bound to").
use mathlib.Core.Path.{◌∙◌}
use contract.Lifetimes.{Lfts}
use borrow.Fn.Kinds.{Dens}
use Rattle.std.proofs.Common.{ℕ, List, [], ◌∷◌, ◌≡◌, refl, ap, sym, get_or, ◌-◌, cond, eqb}
use Rattle.std.specs.Prelude.{Result, Ok, Err}
use Rattle.bson.specs.Answer.{Answer, gives, refuses, at}
use Rattle.laws.proofs.AnswerLaws.{never}
use Rattle.laws.proofs.Determined.{Determined, injective_by}
use Rattle.refusal.specs.declared.Refusal.{Refusal}
use Rattle.refusal.specs.declared.Refusal.TheVariants as is
use Rattle.refusal.specs.declared.Refused.{Refused}
use Rattle.refusal.proofs.Refusal.number.Reads as number_reads
use Rattle.refusal.proofs.Refusal.number.Kinds as number_kinds
use Rattle.refusal.proofs.Refusal.at.Reads as at_reads
use Rattle.refusal.proofs.Refusal.at.Kinds as at_kinds
use Rattle.refusal.specs.Said.{number, said, said_by, placed, placed_by, number_in}

-- by their numbers, from 1 on
abbrev refusals : List Refusal
refusals =
    is.TooShort ∷ is.LengthDiffers ∷ is.NoTerminator ∷ is.StepOutside ∷ is.NoZero ∷ is.NotUtf8 ∷
    is.UnknownTag ∷ is.BadLength ∷ is.PastTheSlice ∷ is.NotEnded ∷ is.BadBoolean ∷ is.BadShape ∷
    is.TooDeep ∷ is.NoRoom ∷ is.BadText ∷ is.Absent ∷ is.OtherType ∷ is.OutOfTurn ∷ is.BadArrayKey ∷
    is.InputTooLong ∷ is.PathTooLong ∷ is.TooLong ∷ []

abbrev numbered : ℕ → Refusal
numbered n = get_or refusals (n - 1) is.TooLong

again : (r : Refusal) → numbered (number r) ≡ r
again is.TooShort = refl
again is.LengthDiffers = refl
again is.NoTerminator = refl
again is.StepOutside = refl
again is.NoZero = refl
again is.NotUtf8 = refl
again is.UnknownTag = refl
again is.BadLength = refl
again is.PastTheSlice = refl
again is.NotEnded = refl
again is.BadBoolean = refl
again is.BadShape = refl
again is.TooDeep = refl
again is.NoRoom = refl
again is.BadText = refl
again is.Absent = refl
again is.OtherType = refl
again is.OutOfTurn = refl
again is.BadArrayKey = refl
again is.InputTooLong = refl
again is.PathTooLong = refl
again is.TooLong = refl

pub number_injective : (a b : Refusal) → number a ≡ number b → a ≡ b
number_injective = injective_by number numbered again

-- ---- results, by what their values say

abbrev unsaid : {A B : Type 0} → (B → A) → Answer B → Result A Refusal
unsaid un (gives b) = Ok (un b)
unsaid un (refuses n p) = Err (numbered n)

again_by : {A B : Type 0} (f : A → B) (un : B → A) → ((a : A) → un (f a) ≡ a) → (r : Result A Refusal) → unsaid un (said_by f r) ≡ r
again_by f un back (Ok a) = ap Ok (back a)
again_by f un back (Err why) = ap Err (again why)

pub said_by_injective : {A B : Type 0} (f : A → B) (un : B → A) → ((a : A) → un (f a) ≡ a)
    → (r s : Result A Refusal) → said_by f r ≡ said_by f s → r ≡ s
said_by_injective f un back = injective_by (said_by f) (unsaid un) (again_by f un back)

again_as_is : {A : Type 0} (r : Result A Refusal) → unsaid (λ (a : A). a) (said r) ≡ r
again_as_is (Ok a) = refl
again_as_is (Err why) = ap Err (again why)

pub said_injective : {A : Type 0} (r s : Result A Refusal) → said r ≡ said s → r ≡ s
said_injective = injective_by said (unsaid (λ a. a)) again_as_is

-- a place given to what is refused tells no two apart
pub without_place : {A B : Type 0} (f : A → B) (place : ℕ) (r s : Result A Refusal)
    → at place (said_by f r) ≡ at place (said_by f s) → said_by f r ≡ said_by f s
without_place f place (Ok a) (Ok b) e = e
without_place f place (Ok a) (Err why) e = never (sym e)
without_place f place (Err why) (Ok b) e = never e
without_place f place (Err why) (Err wy) e = ap (at 0) e

-- ---- the same of those whose refusals have their places

abbrev unplaced : {A B : Type 0} → (B → A) → Answer B → Result A Refused
unplaced un (gives b) = Ok (un b)
unplaced un (refuses n p) = Err (record { why = numbered n; place = p })

again_placed : {A B : Type 0} (f : A → B) (un : B → A) → ((a : A) → un (f a) ≡ a) → (r : Result A Refused) → unplaced un (placed_by f r) ≡ r
again_placed f un back (Ok a) = ap Ok (back a)
again_placed f un back (Err r) = ap (λ (why : Refusal). Err (record { why = why; place = r.place })) (again r.why)

pub placed_by_injective : {A B : Type 0} (f : A → B) (un : B → A) → ((a : A) → un (f a) ≡ a)
    → (r s : Result A Refused) → placed_by f r ≡ placed_by f s → r ≡ s
placed_by_injective f un back = injective_by (placed_by f) (unplaced un) (again_placed f un back)

again_placed_as_is : {A : Type 0} (r : Result A Refused) → unplaced (λ (a : A). a) (placed r) ≡ r
again_placed_as_is (Ok a) = refl
again_placed_as_is (Err r) = ap (λ (why : Refusal). Err (record { why = why; place = r.place })) (again r.why)

pub placed_injective : {A : Type 0} (r s : Result A Refused) → placed r ≡ placed s → r ≡ s
placed_injective = injective_by placed (unplaced (λ a. a)) again_placed_as_is

-- ---- the number of a writer's call

abbrev done_or : ℕ → Result Unit Refusal
done_or n = cond (eqb n 0) (Ok tt) (Err (numbered n))

again_done : (r : Result Unit Refusal) → done_or (number_in r) ≡ r
again_done (Ok done) = refl
again_done (Err is.TooShort) = refl
again_done (Err is.LengthDiffers) = refl
again_done (Err is.NoTerminator) = refl
again_done (Err is.StepOutside) = refl
again_done (Err is.NoZero) = refl
again_done (Err is.NotUtf8) = refl
again_done (Err is.UnknownTag) = refl
again_done (Err is.BadLength) = refl
again_done (Err is.PastTheSlice) = refl
again_done (Err is.NotEnded) = refl
again_done (Err is.BadBoolean) = refl
again_done (Err is.BadShape) = refl
again_done (Err is.TooDeep) = refl
again_done (Err is.NoRoom) = refl
again_done (Err is.BadText) = refl
again_done (Err is.Absent) = refl
again_done (Err is.OtherType) = refl
again_done (Err is.OutOfTurn) = refl
again_done (Err is.BadArrayKey) = refl
again_done (Err is.InputTooLong) = refl
again_done (Err is.PathTooLong) = refl
again_done (Err is.TooLong) = refl

pub number_in_injective : (r s : Result Unit Refusal) → number_in r ≡ number_in s → r ≡ s
number_in_injective = injective_by number_in done_or again_done

-- ---- the calls

pub number_determined : (κs : Lfts 0) (a : Dens κs number_kinds.ps) → Determined (number_reads.Post κs a)
number_determined κs a r₁ r₂ s₁ s₂ p q = p ∙ sym q

pub at_determined : (κs : Lfts 0) (a : Dens κs at_kinds.ps) → Determined (at_reads.Post κs a)
at_determined κs a r₁ r₂ s₁ s₂ p q = p ∙ sym q
