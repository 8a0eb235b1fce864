-- Determined: the promise of each call allows one answer (RULES.md, "What every answer is bound to").
use mathlib.Core.Path.{◌≡◌, refl, sym, ◌∙◌}
use contract.Lifetimes.{Lfts}
use borrow.Fn.Kinds.{Dens}
use Rattle.bson.specs.Lossy as lossy
use Rattle.bson.specs.Value as paper
use Rattle.bson.specs.Value.{leaf, boolean, int32, int64, date_time, double, timestamp, object_id, decimal128, string, code, symbol, null}
use Rattle.bson.specs.Value.{undefined, min_key, max_key, db_pointer, binary, regex, document, array, code_with_scope}
use Rattle.laws.proofs.Determined.{Determined}
use Rattle.part.proofs.Determined.{unsaid_part}
use Rattle.refusal.proofs.Determined.{said_by_injective}
use Rattle.value.specs.Said.{said_value}
use Rattle.value.specs.declared.Value.{Value}
use Rattle.value.specs.declared.Value.TheVariants as is
use Rattle.value.specs.Texts.{said_text}
use Rattle.value.specs.declared.texts.Text.{Text}
use Rattle.value.proofs.parse.Reads as parse_reads
use Rattle.value.proofs.parse.Kinds as parse_kinds
use Rattle.value.proofs.texts.text_of.Reads as text_of_reads
use Rattle.value.proofs.texts.text_of.Kinds as text_of_kinds

abbrev pub unsaid_value : paper.Value → Value
unsaid_value (leaf (double bits)) = is.Double bits
unsaid_value (leaf (string p)) = is.String (unsaid_part p)
unsaid_value (document p) = is.Document (unsaid_part p)
unsaid_value (array p) = is.Array (unsaid_part p)
unsaid_value (leaf (binary subtype p)) = is.Binary subtype (unsaid_part p)
unsaid_value (leaf undefined) = is.Undefined
unsaid_value (leaf (object_id p)) = is.ObjectId (unsaid_part p)
unsaid_value (leaf (boolean b)) = is.Boolean b
unsaid_value (leaf (date_time n)) = is.DateTime n
unsaid_value (leaf null) = is.Null
unsaid_value (leaf (regex p o)) = is.RegularExpression (unsaid_part p) (unsaid_part o)
unsaid_value (leaf (db_pointer p i)) = is.DbPointer (unsaid_part p) (unsaid_part i)
unsaid_value (leaf (code p)) = is.JavaScriptCode (unsaid_part p)
unsaid_value (leaf (symbol p)) = is.Symbol (unsaid_part p)
unsaid_value (code_with_scope c p) = is.JavaScriptCodeWithScope (unsaid_part p) (unsaid_part c)
unsaid_value (leaf (int32 n)) = is.Int32 n
unsaid_value (leaf (timestamp i n)) = is.Timestamp i n
unsaid_value (leaf (int64 n)) = is.Int64 n
unsaid_value (leaf (decimal128 p)) = is.Decimal128 (unsaid_part p)
unsaid_value (leaf min_key) = is.MinKey
unsaid_value (leaf max_key) = is.MaxKey

pub value_again : (v : Value) → unsaid_value (said_value v) ≡ v
value_again (is.Double bits) = refl
value_again (is.String p) = refl
value_again (is.Document p) = refl
value_again (is.Array p) = refl
value_again (is.Binary subtype p) = refl
value_again is.Undefined = refl
value_again (is.ObjectId p) = refl
value_again (is.Boolean b) = refl
value_again (is.DateTime n) = refl
value_again is.Null = refl
value_again (is.RegularExpression p o) = refl
value_again (is.DbPointer p i) = refl
value_again (is.JavaScriptCode p) = refl
value_again (is.Symbol p) = refl
value_again (is.JavaScriptCodeWithScope p c) = refl
value_again (is.Int32 n) = refl
value_again (is.Timestamp i n) = refl
value_again (is.Int64 n) = refl
value_again (is.Decimal128 p) = refl
value_again is.MinKey = refl
value_again is.MaxKey = refl

pub parse_determined : (κs : Lfts 1) (a : Dens κs parse_kinds.ps) → Determined (parse_reads.Post κs a)
parse_determined κs a r₁ r₂ s₁ s₂ p q = said_by_injective said_value unsaid_value value_again r₁ r₂ (p ∙ sym q)

abbrev unsaid_text : lossy.Text → Text
unsaid_text t = record { text = unsaid_part t.text; second = unsaid_part t.second }

pub text_of_determined : (κs : Lfts 1) (a : Dens κs text_of_kinds.ps) → Determined (text_of_reads.Post κs a)
text_of_determined κs a r₁ r₂ s₁ s₂ p q = said_by_injective said_text unsaid_text (λ t. refl) r₁ r₂ (p ∙ sym q)
