-- Turns of the writer through C, each a call of an exported function with an answer that its promise allows, and what is closed by them
-- (demand 2; RULES.md, "Writer and joining" and module 8).
use Rattle.std.specs.Prelude.{ℕ, Bool, List, [], ◌∷◌, ℤ}
use contract.Lifetimes.{Lfts}
use Rattle.bson.specs.Grammar.{document, array, Elements}
use Rattle.bson.specs.Value.{boolean, int32, int64, date_time, double, timestamp, object_id, decimal128, string, code, symbol, null}
use Rattle.bson.specs.Value.{undefined, min_key, max_key, db_pointer, binary, regex}
use Rattle.bson.specs.Writer.{Desk, desk, Call, open_top, close, append, open_nest}
use Rattle.theorems.specs.ReadBack.{Building, unopened, built, Session, Typed, ReadsBack, Stands}
use Rattle.c_answers.specs.declared.WrittenNumbers.{WrittenNumbers}
use Rattle.fringewell.specs.declared.State.{State}
use Rattle.fringewell.proofs.fringewell_state_new.Reads as new_reads
use Rattle.fringewell.proofs.fringewell_state_open.Reads as open_reads
use Rattle.fringewell.proofs.fringewell_state_open_document.Reads as open_document_reads
use Rattle.fringewell.proofs.fringewell_state_open_array.Reads as open_array_reads
use Rattle.fringewell.proofs.fringewell_state_close.Reads as close_reads
use Rattle.fringewell.proofs.fringewell_state_append_double.Reads as append_double_reads
use Rattle.fringewell.proofs.fringewell_state_append_bool.Reads as append_bool_reads
use Rattle.fringewell.proofs.fringewell_state_append_int32.Reads as append_int32_reads
use Rattle.fringewell.proofs.fringewell_state_append_int64.Reads as append_int64_reads
use Rattle.fringewell.proofs.fringewell_state_append_datetime.Reads as append_datetime_reads
use Rattle.fringewell.proofs.fringewell_state_append_timestamp.Reads as append_timestamp_reads
use Rattle.fringewell.proofs.fringewell_state_append_null.Reads as append_null_reads
use Rattle.fringewell.proofs.fringewell_state_append_undefined.Reads as append_undefined_reads
use Rattle.fringewell.proofs.fringewell_state_append_min_key.Reads as append_min_key_reads
use Rattle.fringewell.proofs.fringewell_state_append_max_key.Reads as append_max_key_reads
use Rattle.fringewell.proofs.fringewell_state_append_string.Reads as append_string_reads
use Rattle.fringewell.proofs.fringewell_state_append_code.Reads as append_code_reads
use Rattle.fringewell.proofs.fringewell_state_append_symbol.Reads as append_symbol_reads
use Rattle.fringewell.proofs.fringewell_state_append_binary.Reads as append_binary_reads
use Rattle.fringewell.proofs.fringewell_state_append_regex.Reads as append_regex_reads
use Rattle.fringewell.proofs.fringewell_state_append_dbpointer.Reads as append_dbpointer_reads
use Rattle.fringewell.proofs.fringewell_state_append_object_id.Reads as append_object_id_reads
use Rattle.fringewell.proofs.fringewell_state_append_decimal128.Reads as append_decimal128_reads
use Rattle.promises.specs.Turn.{Lent, Room, after_turn}

-- ---- turns

-- "begun fresh": a state that `fringewell_state_new` may answer
pub data CFresh (w : State) : Type 0 where
  news : (κs : Lfts 0) (s : _) → new_reads.Post κs tt w s → CFresh w

-- what is left in a lent state and a lent buffer
abbrev pub left_by : Room → Room → Desk
left_by words out = desk words.now out.now

-- lent a state and a buffer, a call may answer these numbers and leave this: a case for each function, of its promise alone
pub data CTurn (words out : Room) (r : WrittenNumbers) : Call → Desk → Type 0 where
  opens_top : (κs : Lfts 2) (s : _) → open_reads.Post κs (words, (out, tt)) r s → CTurn words out r open_top (left_by s.0 s.1.0)
  opens_document : (κs : Lfts 3) (key : Lent) (s : _) → open_document_reads.Post κs (words, (out, (key, tt))) r s
      → CTurn words out r (open_nest document key.now) (left_by s.0 s.1.0)
  opens_array : (κs : Lfts 3) (key : Lent) (s : _) → open_array_reads.Post κs (words, (out, (key, tt))) r s
      → CTurn words out r (open_nest array key.now) (left_by s.0 s.1.0)
  closes : (κs : Lfts 2) (s : _) → close_reads.Post κs (words, (out, tt)) r s → CTurn words out r close (left_by s.0 s.1.0)
  appends_double : (κs : Lfts 3) (key : Lent) (bits : ℕ) (s : _) → append_double_reads.Post κs (words, (out, (key, (bits, tt)))) r s
      → CTurn words out r (append key.now (double bits)) (left_by s.0 s.1.0)
  appends_bool : (κs : Lfts 3) (key : Lent) (b : Bool) (s : _) → append_bool_reads.Post κs (words, (out, (key, (b, tt)))) r s
      → CTurn words out r (append key.now (boolean b)) (left_by s.0 s.1.0)
  appends_int32 : (κs : Lfts 3) (key : Lent) (n : ℤ) (s : _) → append_int32_reads.Post κs (words, (out, (key, (n, tt)))) r s
      → CTurn words out r (append key.now (int32 n)) (left_by s.0 s.1.0)
  appends_int64 : (κs : Lfts 3) (key : Lent) (n : ℤ) (s : _) → append_int64_reads.Post κs (words, (out, (key, (n, tt)))) r s
      → CTurn words out r (append key.now (int64 n)) (left_by s.0 s.1.0)
  appends_datetime : (κs : Lfts 3) (key : Lent) (n : ℤ) (s : _) → append_datetime_reads.Post κs (words, (out, (key, (n, tt)))) r s
      → CTurn words out r (append key.now (date_time n)) (left_by s.0 s.1.0)
  appends_timestamp : (κs : Lfts 3) (key : Lent) (increment seconds : ℕ) (s : _)
      → append_timestamp_reads.Post κs (words, (out, (key, (increment, (seconds, tt))))) r s
      → CTurn words out r (append key.now (timestamp increment seconds)) (left_by s.0 s.1.0)
  appends_null : (κs : Lfts 3) (key : Lent) (s : _) → append_null_reads.Post κs (words, (out, (key, tt))) r s
      → CTurn words out r (append key.now null) (left_by s.0 s.1.0)
  appends_undefined : (κs : Lfts 3) (key : Lent) (s : _) → append_undefined_reads.Post κs (words, (out, (key, tt))) r s
      → CTurn words out r (append key.now undefined) (left_by s.0 s.1.0)
  appends_min_key : (κs : Lfts 3) (key : Lent) (s : _) → append_min_key_reads.Post κs (words, (out, (key, tt))) r s
      → CTurn words out r (append key.now min_key) (left_by s.0 s.1.0)
  appends_max_key : (κs : Lfts 3) (key : Lent) (s : _) → append_max_key_reads.Post κs (words, (out, (key, tt))) r s
      → CTurn words out r (append key.now max_key) (left_by s.0 s.1.0)
  appends_string : (κs : Lfts 4) (key text : Lent) (s : _) → append_string_reads.Post κs (words, (out, (key, (text, tt)))) r s
      → CTurn words out r (append key.now (string text.now)) (left_by s.0 s.1.0)
  appends_code : (κs : Lfts 4) (key text : Lent) (s : _) → append_code_reads.Post κs (words, (out, (key, (text, tt)))) r s
      → CTurn words out r (append key.now (code text.now)) (left_by s.0 s.1.0)
  appends_symbol : (κs : Lfts 4) (key text : Lent) (s : _) → append_symbol_reads.Post κs (words, (out, (key, (text, tt)))) r s
      → CTurn words out r (append key.now (symbol text.now)) (left_by s.0 s.1.0)
  appends_binary : (κs : Lfts 4) (key : Lent) (subtype : ℕ) (contents : Lent) (s : _)
      → append_binary_reads.Post κs (words, (out, (key, (subtype, (contents, tt))))) r s
      → CTurn words out r (append key.now (binary subtype contents.now)) (left_by s.0 s.1.0)
  appends_regex : (κs : Lfts 5) (key pattern options : Lent) (s : _)
      → append_regex_reads.Post κs (words, (out, (key, (pattern, (options, tt))))) r s
      → CTurn words out r (append key.now (regex pattern.now options.now)) (left_by s.0 s.1.0)
  appends_dbpointer : (κs : Lfts 5) (key namespace id : Lent) (s : _)
      → append_dbpointer_reads.Post κs (words, (out, (key, (namespace, (id, tt))))) r s
      → CTurn words out r (append key.now (db_pointer namespace.now id.now)) (left_by s.0 s.1.0)
  appends_object_id : (κs : Lfts 4) (key id : Lent) (s : _) → append_object_id_reads.Post κs (words, (out, (key, (id, tt)))) r s
      → CTurn words out r (append key.now (object_id id.now)) (left_by s.0 s.1.0)
  appends_decimal128 : (κs : Lfts 4) (key bits : Lent) (s : _) → append_decimal128_reads.Post κs (words, (out, (key, (bits, tt)))) r s
      → CTurn words out r (append key.now (decimal128 bits.now)) (left_by s.0 s.1.0)

-- ---- sessions

-- "each call given the buffer and the state that the one before left"
pub data CTrace (end : Session) : List Call → Session → Type 0 where
  done : CTrace end [] end
  turn : (words out : Room) (r : WrittenNumbers) (c : Call) (left : Desk) (tree : Building) (cs : List Call) → CTurn words out r c left
      → CTrace end cs (record { left = left; tree = after_turn r.number c tree })
      → CTrace end (c ∷ cs) (record { left = left_by words out; tree = tree })

-- a state as it was answered, and a buffer, before any call
abbrev pub begun : State → List ℕ → Session
begun w buffer = record { left = desk w.words buffer; tree = unopened }

-- ---- the statements

-- "what the writer closes, begun fresh and each call given the buffer and the state that the one before left, reads
-- back as exactly the elements given"
abbrev pub CTraceReadsBack : Type 0
CTraceReadsBack = (w : State) (buffer : List ℕ) (calls : List Call) (end : Session) → CFresh w → Typed calls
    → CTrace end calls (begun w buffer) → Stands buffer end.left end.tree

-- the same where the top is closed
abbrev pub CClosedReadsBack : Type 0
CClosedReadsBack = (w : State) (buffer : List ℕ) (left : Desk) (calls : List Call) (t : Elements) → CFresh w → Typed calls
    → CTrace (record { left = left; tree = built t }) calls (begun w buffer) → ReadsBack left t
