-- The bytes of a document, an array or a code with scope, wherever they lie in a slice, are framed and read as
-- that (BSON 1.1, `document` and
-- `code_w_s`; RULES.md, "Values").
use Prim.Native.Nat.{ℕ, ◌+◌, ◌-◌, ◌≤◌, ◌<◌}
use mathlib.Core.Path.{◌≡◌, refl, sym, ap, ◌∙◌}
use mathlib.Core.List.{List, [], ◌++◌, append_assoc, append-nil}
use mathlib.Core.Bool.{true}
use native.Mathlib.Omega.{arith}
use lib.ListN.{length, drop, length-append}
use borrow.Author.Tests.{le-leb, lt-ltb}
use Rattle.bson.specs.Answer.{gives}
use Rattle.bson.specs.Bytes.{Part, part, bytes, trim}
use Rattle.bson.specs.Utf8.{utf8}
use Rattle.bson.specs.Tags.{ElementType, EmbeddedDocument, Array, JavaScriptCodeWithScope, as_document, tags, row_of, type_of}
use Rattle.bson.specs.Framing.{scope_size, framed_under}
use Rattle.bson.specs.Value as value
use Rattle.bson.specs.Value.{Value, code_with_scope, scope_value, content}
use Rattle.bson.specs.Grammar.{bytes32, string_bytes, scope_bytes, document_of, Embedded, document, array, Nest, embedded, scope, nest_tag}
use Rattle.bson.specs.Grammar.{nest_good, nest_bytes}
use Rattle.bson.specs.Meaning.{nested, holding}
use Rattle.laws.proofs.TagLaws.{size_for}
use Rattle.laws.proofs.GrammarLaws.{length_bytes32, length_string, length_document, string_of, document_of_law, document_admitted, scope_of}
use Rattle.theorems.proofs.Grammar.ItemReads.{bytes_here, drop_behind, Reads, here_bytes, typed_value, text_here}

-- ---- bytes that are read as a nest

-- bytes at an offset, with others behind, are read as a nest with this document
pub record ReadsNest (s : List ℕ) (offset : ℕ) (n : Nest) (list back : List ℕ) : Type 0 where
  pub inner : Part
  pub whole : bytes s inner ≡ document_of list
  pub reads : Reads s offset (nest_tag n) (nest_bytes n (document_of list)) back (nested n inner)

-- it is no shorter than its document
pub nest_longer : (n : Nest) (d : List ℕ) → length d ≤ length (nest_bytes n d)
unfolding scope_bytes
nest_longer (embedded n) d = omega arith
nest_longer (scope t) d = simp length-append (omega arith)

-- ---- a code with scope

-- a code with scope: the code lies behind the length, the scope behind the code
module _ (t list : List ℕ) where
  abbrev scoped : List ℕ
  scoped = scope_bytes t (document_of list)

  abbrev code_size : ℕ
  code_size = length (string_bytes t)

  length_scoped : length scoped ≡ 4 + code_size + (length list + 5)
  unfolding scope_bytes
  length_scoped = simp (length-append, length_bytes32, length_document) (omega arith)

  code_here : (s : List ℕ) (offset : ℕ) (back : List ℕ) → drop offset s ≡ scoped ++ back
      → drop (offset + 4) s ≡ string_bytes t ++ (document_of list ++ back)
  unfolding scope_bytes
  code_here s offset back here =
      let w = string_bytes t ++ document_of list in
      let n = bytes32 (4 + length w) in
      drop_behind s offset n (w ++ back) (here ∙ append_assoc n w back) (offset + 4) (omega (arith, length_bytes32 (4 + length w)))
      ∙ append_assoc (string_bytes t) (document_of list) back

  scope_here : (s : List ℕ) (offset start : ℕ) (back : List ℕ) → start ≡ offset + (4 + code_size) → drop offset s ≡ scoped ++ back
      → drop start s ≡ document_of list ++ back
  scope_here s offset start back e here = drop_behind s (offset + 4) (string_bytes t) _ (code_here s offset back here) start (omega arith)

  scope_sized : (back : List ℕ) → length scoped < 2147483648 → scope_size (scoped ++ back) ≡ gives (length scoped)
  unfolding scope_bytes
  scope_sized back small =
      let w = string_bytes t ++ document_of list in
      scope_of (4 + length w) w back refl (omega (arith, length-append (bytes32 (4 + length w)) w, length_bytes32 (4 + length w)))

  scope_value_law : utf8 t ≡ true → length list + 5 < 2147483648 → length t + 1 < 2147483648 → (p : Part)
      → scope_value scoped p ≡ gives (code_with_scope (part (p.offset + 8) (code_size - 5)) (trim (4 + code_size) 0 p))
  unfolding scope_value
  scope_value_law u short small p =
      let alone : scoped ≡ scoped ++ [] = sym (append-nil scoped) in
      let l = length_scoped in
      let k = length_string t in
      let text : bytes scoped (part 8 (code_size - 5))
      ≡ t = text_here scoped 4 t (document_of list ++ []) (code_here scoped 0 [] alone) (code_size - 5) (omega arith) in
      let rest : drop (4 + code_size) scoped ≡ document_of list = scope_here scoped 0 (4 + code_size) [] (omega arith) alone
      ∙ append-nil (document_of list) in
      let a : 14 ≤ length scoped = omega arith in
      let b : 4 + code_size < length scoped = omega arith in
      rw (
        le-leb 14 (length scoped) a,
        code_here scoped 0 [] alone,
        string_of t (document_of list ++ []) small,
        text,
        u,
        lt-ltb (4 + code_size) (length scoped) b,
        rest,
        document_admitted list short,
      )

-- ---- documents, arrays and scopes

-- a document or an array, handed back whole
embedded_reads : (n : Embedded) (type : ElementType) (list s : List ℕ) (offset : ℕ) (back : List ℕ)
    → type_of (nest_tag (embedded n)) ≡ gives type
    → size_for type ≡ as_document → ((p : Part) → (x : Value) × (content s p type ≡ gives x) × (holding s x ≡ nested (embedded n) p))
    → length list + 5 < 2147483648 → drop offset s ≡ document_of list ++ back → offset + length (document_of list) ≤ length s
    → ReadsNest s offset (embedded n) list back
unfolding framed_under
embedded_reads n type list s offset back tagged z c small here inside =
    let d = document_of list in
    let p = part offset (length d) in
    let (x, r, h) = c p in
    record {
      inner = p;
      whole = here_bytes s offset d back here inside;
      reads =
          typed_value s offset d back here inside (nest_tag (embedded n)) (nested (embedded n) p) type tagged
          (rw z (document_of_law list back small)) x r h;
    }

scope_reads : (t list s : List ℕ) (offset : ℕ) (back : List ℕ) → utf8 t ≡ true → length (scope_bytes t (document_of list)) < 2147483648
    → drop offset s ≡ scope_bytes t (document_of list) ++ back → offset + length (scope_bytes t (document_of list)) ≤ length s
    → ReadsNest s offset (scope t) list back
unfolding framed_under content row_of tags
scope_reads t list s offset back u small here inside =
    let v = scope_bytes t (document_of list) in
    let n = length (string_bytes t) in
    let l = length_scoped t list in
    let k = length_string t in
    let c = part (offset + 8) (n - 5) in
    let p = trim (4 + n) 0 (part offset (length v)) in
    let e : offset + 8 ≡ offset + 4 + 4 = omega arith in
    let text : bytes s c ≡ t = rw e (text_here s (offset + 4) t _ (code_here t list s offset back here) (n - 5) (omega arith)) in
    let reads : content s (part offset (length v)) JavaScriptCodeWithScope ≡ gives (code_with_scope c p) =
    rw (here_bytes s offset v back here inside) (scope_value_law t list u (omega arith) (omega arith) (part offset (length v))) in
    record {
      inner = p;
      whole = bytes_here s _ (document_of list) back (scope_here t list s offset _ back refl here) _ (omega (arith, length_document list));
      reads = typed_value s offset v back here inside 0x0F (nested (scope t) p) JavaScriptCodeWithScope refl (scope_sized t list back small)
          (code_with_scope c p) reads (ap (λ (x : List ℕ). nested (scope x) p) text);
    }

pub nest_reads : (n : Nest) (list : List ℕ) → nest_good n ≡ true → (s : List ℕ) (offset : ℕ) (back : List ℕ)
    → length (nest_bytes n (document_of list)) < 2147483648 → drop offset s ≡ nest_bytes n (document_of list) ++ back
    → offset + length (nest_bytes n (document_of list)) ≤ length s → ReadsNest s offset n list back
unfolding content row_of tags
nest_reads (embedded document) list g s offset back small =
    embedded_reads document EmbeddedDocument list s offset back refl refl (λ p. (value.document p, refl, refl))
    (omega (arith, length_document list))
nest_reads (embedded array) list g s offset back small =
    embedded_reads array Array list s offset back refl refl (λ p. (value.array p, refl, refl)) (omega (arith, length_document list))
nest_reads (scope t) list g s offset back small = scope_reads t list s offset back g small
