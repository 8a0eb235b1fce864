-- A trace of turns is a run of the definition, so what it closes reads back; a refused turn changes nothing, and every turn keeps the bytes
-- behind its output (demand 2; RULES.md, "Writer and joining").
use Prim.Native.Nat.{ℕ}
use mathlib.Core.Path.{◌≡◌, refl, ap, subst, ◌∙◌}
use mathlib.Core.List.{List}
use lib.ListN.{length, drop}
use Rattle.std.specs.Prelude.{Result}
use Rattle.bson.specs.Writer.{used, Desk, desk, Call, written, performed}
use Rattle.theorems.specs.ReadBack as read_back
use Rattle.theorems.specs.ReadBack.{Building, unopened, built, Session, run, session_start, Stands}
use Rattle.theorems.proofs.Writer.ReadBack.{writer_reads_back}
use Rattle.refusal.specs.Said.{number_in}
use Rattle.refusal.specs.declared.Refusal.{Refusal}
use Rattle.doc_writer.specs.declared.DocWriter.{DocWriter}
use Rattle.promises.specs.Turn as turns
use Rattle.promises.specs.Turn.{Room, Pen, Turn, session, after_turn, Trace, done, turn, WriterTraceReadsBack, ClosedReadsBack}
use Rattle.promises.proofs.OneTurn.{turn_ends_by, unchanged_by, behind_by}

-- ---- one promise

-- each promise says that what is left is what the definition performs
pub turn_performs : {w : Pen} {out : Room} {r : Result Unit Refusal} {c : Call} {v : DocWriter} {left : List ℕ} → Turn w out r c v left
    → written (number_in r) v.words left ≡ performed c w.now.words out.now
turn_performs (turns.opens_top κs s promise) = promise
turn_performs (turns.opens_document κs key s promise) = promise
turn_performs (turns.opens_array κs key s promise) = promise
turn_performs (turns.closes κs s promise) = promise
turn_performs (turns.appends_double κs key bits s promise) = promise
turn_performs (turns.appends_bool κs key b s promise) = promise
turn_performs (turns.appends_datetime κs key n s promise) = promise
turn_performs (turns.appends_int32 κs key n s promise) = promise
turn_performs (turns.appends_timestamp κs key increment seconds s promise) = promise
turn_performs (turns.appends_int64 κs key n s promise) = promise
turn_performs (turns.appends_undefined κs key s promise) = promise
turn_performs (turns.appends_null κs key s promise) = promise
turn_performs (turns.appends_min_key κs key s promise) = promise
turn_performs (turns.appends_max_key κs key s promise) = promise
turn_performs (turns.appends_string κs key text s promise) = promise
turn_performs (turns.appends_code κs key text s promise) = promise
turn_performs (turns.appends_symbol κs key text s promise) = promise
turn_performs (turns.appends_binary κs key subtype contents s promise) = promise
turn_performs (turns.appends_regex κs key pattern options s promise) = promise
turn_performs (turns.appends_dbpointer κs key namespace id s promise) = promise
turn_performs (turns.appends_object_id κs key id s promise) = promise
turn_performs (turns.appends_decimal128 κs key bits s promise) = promise

-- ---- one turn

module _ {w : Pen} {out : Room} {r : Result Unit Refusal} {c : Call} {v : DocWriter} {left : List ℕ} (t : Turn w out r c v left) where
  turn_ends : (tree : Building) → read_back.turn c (session w.now out.now tree) ≡ session v left (after_turn (number_in r) c tree)
  turn_ends = turn_ends_by c (desk w.now.words out.now) (written (number_in r) v.words left) (turn_performs t)

  -- "a refused call changes no byte of a lent buffer and no writer state"
  pub turn_unchanged : (number_in r ≡ 0 → ⊥) → (v ≡ w.now) × (left ≡ out.now)
  turn_unchanged h =
      let e = unchanged_by c (desk w.now.words out.now) (written (number_in r) v.words left) (turn_performs t) h in
      (ap (λ (d : Desk). record { words = d.state }) e, ap (λ (d : Desk). d.buffer) e)

  -- "a call that writes keeps all bytes behind its output"
  pub turn_behind : length w.now.words ≡ 406 → drop (used v.words) left ≡ drop (used v.words) out.now
  turn_behind = behind_by c (desk w.now.words out.now) (written (number_in r) v.words left) (turn_performs t)

-- ---- a trace

-- a trace is a run of the definition
pub trace_runs : {end : Session} {calls : List Call} {s : Session} → Trace end calls s → run calls s ≡ end
trace_runs done = refl
trace_runs (turn w out r c v left tree cs t more) = ap (run cs) (turn_ends t tree) ∙ trace_runs more

pub writer_trace_reads_back : WriterTraceReadsBack
writer_trace_reads_back w buffer calls end (turns.news κs s promise) typed trace =
    let begun : run calls (session_start buffer) ≡ run calls (session w buffer unopened) = rw promise in
    subst (λ (x : Session). Stands buffer x.left x.tree) (begun ∙ trace_runs trace) (writer_reads_back buffer calls typed)

pub closed_reads_back : ClosedReadsBack
closed_reads_back w v buffer left calls t fresh typed trace =
    writer_trace_reads_back w buffer calls (session v left (built t)) fresh typed trace
