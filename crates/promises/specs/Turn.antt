-- Turns of the writer, each a call of a public function with an answer that its promise allows, and what is closed by them (demand 2;
-- RULES.md, "Writer and joining").
use Rattle.std.specs.Prelude.{ℕ, zero, suc, Bool, List, [], ◌∷◌, ℤ, Result}
use contract.Lifetimes.{Lfts}
use Rattle.std.specs.Borrow.{Bor, MutBor}
use Rattle.bson.specs.Grammar.{document, array, Elements}
use Rattle.bson.specs.Value.{boolean, int32, int64, date_time, double, timestamp, object_id, decimal128, string, code, symbol, null}
use Rattle.bson.specs.Value.{undefined, min_key, max_key, db_pointer, binary, regex}
use Rattle.bson.specs.Writer.{desk, Call, open_top, close, append, open_nest}
use Rattle.theorems.specs.ReadBack.{Building, unopened, built, tree_after, Session, Typed, ReadsBack, Stands}
use Rattle.refusal.specs.Said.{number_in}
use Rattle.refusal.specs.declared.Refusal.{Refusal}
use Rattle.doc_writer.specs.declared.DocWriter.{DocWriter}
use Rattle.doc_writer.proofs.DocWriter.new.Reads as new_reads
use Rattle.doc_writer.proofs.DocWriter.open.Reads as open_reads
use Rattle.doc_writer.proofs.DocWriter.open_document.Reads as open_document_reads
use Rattle.doc_writer.proofs.DocWriter.open_array.Reads as open_array_reads
use Rattle.doc_writer.proofs.DocWriter.close.Reads as close_reads
use Rattle.doc_writer.proofs.DocWriter.append_double.Reads as append_double_reads
use Rattle.doc_writer.proofs.DocWriter.append_bool.Reads as append_bool_reads
use Rattle.doc_writer.proofs.DocWriter.append_datetime.Reads as append_datetime_reads
use Rattle.doc_writer.proofs.DocWriter.append_int32.Reads as append_int32_reads
use Rattle.doc_writer.proofs.DocWriter.append_timestamp.Reads as append_timestamp_reads
use Rattle.doc_writer.proofs.DocWriter.append_int64.Reads as append_int64_reads
use Rattle.doc_writer.proofs.DocWriter.append_undefined.Reads as append_undefined_reads
use Rattle.doc_writer.proofs.DocWriter.append_null.Reads as append_null_reads
use Rattle.doc_writer.proofs.DocWriter.append_min_key.Reads as append_min_key_reads
use Rattle.doc_writer.proofs.DocWriter.append_max_key.Reads as append_max_key_reads
use Rattle.doc_writer.proofs.DocWriter.append_string.Reads as append_string_reads
use Rattle.doc_writer.proofs.DocWriter.append_code.Reads as append_code_reads
use Rattle.doc_writer.proofs.DocWriter.append_symbol.Reads as append_symbol_reads
use Rattle.doc_writer.proofs.DocWriter.append_binary.Reads as append_binary_reads
use Rattle.doc_writer.proofs.DocWriter.append_regex.Reads as append_regex_reads
use Rattle.doc_writer.proofs.DocWriter.append_dbpointer.Reads as append_dbpointer_reads
use Rattle.doc_writer.proofs.DocWriter.append_object_id.Reads as append_object_id_reads
use Rattle.doc_writer.proofs.DocWriter.append_decimal128.Reads as append_decimal128_reads

-- ---- turns

-- what is lent to be read: a key or a text
abbrev pub Lent : Type 0
Lent = Bor (List ℕ)

-- and what is lent to be written: a buffer
abbrev pub Room : Type 0
Room = MutBor (List ℕ)

-- or a state
abbrev pub Pen : Type 0
Pen = MutBor DocWriter

-- "begun fresh": a state that `new` may answer
pub data Fresh (w : DocWriter) : Type 0 where
  news : (κs : Lfts 0) (s : _) → new_reads.Post κs tt w s → Fresh w

-- lent a state and a buffer, a call may answer this and leave this state and these bytes: a case for each function, of its promise alone
pub data Turn (w : Pen) (out : Room) (r : Result Unit Refusal) : Call → DocWriter → List ℕ → Type 0 where
  opens_top : (κs : Lfts 2) (s : _) → open_reads.Post κs (w, (out, tt)) r s → Turn w out r open_top s.0.now s.1.0.now
  opens_document : (κs : Lfts 3) (key : Lent) (s : _) → open_document_reads.Post κs (w, (out, (key, tt))) r s
      → Turn w out r (open_nest document key.now) s.0.now s.1.0.now
  opens_array : (κs : Lfts 3) (key : Lent) (s : _) → open_array_reads.Post κs (w, (out, (key, tt))) r s
      → Turn w out r (open_nest array key.now) s.0.now s.1.0.now
  closes : (κs : Lfts 2) (s : _) → close_reads.Post κs (w, (out, tt)) r s → Turn w out r close s.0.now s.1.0.now
  appends_double : (κs : Lfts 3) (key : Lent) (bits : ℕ) (s : _) → append_double_reads.Post κs (w, (out, (key, (bits, tt)))) r s
      → Turn w out r (append key.now (double bits)) s.0.now s.1.0.now
  appends_bool : (κs : Lfts 3) (key : Lent) (b : Bool) (s : _) → append_bool_reads.Post κs (w, (out, (key, (b, tt)))) r s
      → Turn w out r (append key.now (boolean b)) s.0.now s.1.0.now
  appends_datetime : (κs : Lfts 3) (key : Lent) (n : ℤ) (s : _) → append_datetime_reads.Post κs (w, (out, (key, (n, tt)))) r s
      → Turn w out r (append key.now (date_time n)) s.0.now s.1.0.now
  appends_int32 : (κs : Lfts 3) (key : Lent) (n : ℤ) (s : _) → append_int32_reads.Post κs (w, (out, (key, (n, tt)))) r s
      → Turn w out r (append key.now (int32 n)) s.0.now s.1.0.now
  appends_timestamp : (κs : Lfts 3) (key : Lent) (increment seconds : ℕ) (s : _)
      → append_timestamp_reads.Post κs (w, (out, (key, (increment, (seconds, tt))))) r s
      → Turn w out r (append key.now (timestamp increment seconds)) s.0.now s.1.0.now
  appends_int64 : (κs : Lfts 3) (key : Lent) (n : ℤ) (s : _) → append_int64_reads.Post κs (w, (out, (key, (n, tt)))) r s
      → Turn w out r (append key.now (int64 n)) s.0.now s.1.0.now
  appends_undefined : (κs : Lfts 3) (key : Lent) (s : _) → append_undefined_reads.Post κs (w, (out, (key, tt))) r s
      → Turn w out r (append key.now undefined) s.0.now s.1.0.now
  appends_null : (κs : Lfts 3) (key : Lent) (s : _) → append_null_reads.Post κs (w, (out, (key, tt))) r s
      → Turn w out r (append key.now null) s.0.now s.1.0.now
  appends_min_key : (κs : Lfts 3) (key : Lent) (s : _) → append_min_key_reads.Post κs (w, (out, (key, tt))) r s
      → Turn w out r (append key.now min_key) s.0.now s.1.0.now
  appends_max_key : (κs : Lfts 3) (key : Lent) (s : _) → append_max_key_reads.Post κs (w, (out, (key, tt))) r s
      → Turn w out r (append key.now max_key) s.0.now s.1.0.now
  appends_string : (κs : Lfts 4) (key text : Lent) (s : _) → append_string_reads.Post κs (w, (out, (key, (text, tt)))) r s
      → Turn w out r (append key.now (string text.now)) s.0.now s.1.0.now
  appends_code : (κs : Lfts 4) (key text : Lent) (s : _) → append_code_reads.Post κs (w, (out, (key, (text, tt)))) r s
      → Turn w out r (append key.now (code text.now)) s.0.now s.1.0.now
  appends_symbol : (κs : Lfts 4) (key text : Lent) (s : _) → append_symbol_reads.Post κs (w, (out, (key, (text, tt)))) r s
      → Turn w out r (append key.now (symbol text.now)) s.0.now s.1.0.now
  appends_binary : (κs : Lfts 4) (key : Lent) (subtype : ℕ) (contents : Lent) (s : _)
      → append_binary_reads.Post κs (w, (out, (key, (subtype, (contents, tt))))) r s
      → Turn w out r (append key.now (binary subtype contents.now)) s.0.now s.1.0.now
  appends_regex : (κs : Lfts 5) (key pattern options : Lent) (s : _)
      → append_regex_reads.Post κs (w, (out, (key, (pattern, (options, tt))))) r s
      → Turn w out r (append key.now (regex pattern.now options.now)) s.0.now s.1.0.now
  appends_dbpointer : (κs : Lfts 5) (key namespace id : Lent) (s : _)
      → append_dbpointer_reads.Post κs (w, (out, (key, (namespace, (id, tt))))) r s
      → Turn w out r (append key.now (db_pointer namespace.now id.now)) s.0.now s.1.0.now
  appends_object_id : (κs : Lfts 4) (key id : Lent) (s : _) → append_object_id_reads.Post κs (w, (out, (key, (id, tt)))) r s
      → Turn w out r (append key.now (object_id id.now)) s.0.now s.1.0.now
  appends_decimal128 : (κs : Lfts 4) (key bits : Lent) (s : _) → append_decimal128_reads.Post κs (w, (out, (key, (bits, tt)))) r s
      → Turn w out r (append key.now (decimal128 bits.now)) s.0.now s.1.0.now

-- ---- sessions

-- the state and the buffer that a call is given, and the tree of the elements given so far
abbrev pub session : DocWriter → List ℕ → Building → Session
session w buffer tree = record { left = desk w.words buffer; tree = tree }

-- a call answered 0 is an accepted one; any other gives no element
abbrev pub after_turn : ℕ → Call → Building → Building
after_turn zero c tree = tree_after c tree
after_turn (suc number) c tree = tree

-- "each call given the buffer and the state that the one before left"
pub data Trace (end : Session) : List Call → Session → Type 0 where
  done : Trace end [] end
  turn : (w : Pen) (out : Room) (r : Result Unit Refusal) (c : Call) (v : DocWriter) (left : List ℕ) (tree : Building) (cs : List Call)
      → Turn w out r c v left → Trace end cs (session v left (after_turn (number_in r) c tree))
      → Trace end (c ∷ cs) (session w.now out.now tree)

-- ---- the statements

-- "what the writer closes, begun fresh and each call given the buffer and the state that the one before left, reads
-- back as exactly the elements given"
abbrev pub WriterTraceReadsBack : Type 0
WriterTraceReadsBack = (w : DocWriter) (buffer : List ℕ) (calls : List Call) (end : Session) → Fresh w → Typed calls
    → Trace end calls (session w buffer unopened) → Stands buffer end.left end.tree

-- the same where the top is closed
abbrev pub ClosedReadsBack : Type 0
ClosedReadsBack = (w v : DocWriter) (buffer left : List ℕ) (calls : List Call) (t : Elements) → Fresh w → Typed calls
    → Trace (session v left (built t)) calls (session w buffer unopened) → ReadsBack (desk v.words left) t
