-- A trace of turns through C is a run of the definition, so what it closes reads back; a refused turn changes nothing, and every turn keeps
-- the bytes behind its output (demand 2; RULES.md, "Writer and joining" and module 8).
use mathlib.Core.Path.{◌≡◌, refl, ap, subst, ◌∙◌}
use mathlib.Core.List.{List}
use lib.ListN.{length, drop}
use Rattle.bson.specs.Writer.{used, Desk, Call, written, performed}
use Rattle.theorems.specs.ReadBack as read_back
use Rattle.theorems.specs.ReadBack.{Building, built, Session, run, session_start, Stands}
use Rattle.theorems.proofs.Writer.ReadBack.{writer_reads_back}
use Rattle.c_answers.specs.declared.WrittenNumbers.{WrittenNumbers}
use Rattle.promises.specs.Turn.{Room, after_turn}
use Rattle.promises.specs.CTurn as turns
use Rattle.promises.specs.CTurn.{left_by, CTurn, CTrace, done, turn, begun, CTraceReadsBack, CClosedReadsBack}
use Rattle.promises.proofs.NoWeaker.{performs_says}
use Rattle.promises.proofs.OneTurn.{turn_ends_by, unchanged_by, behind_by}

-- ---- one promise

-- each promise says that what is left is what the definition performs
pub c_turn_performs : {words out : Room} {r : WrittenNumbers} {c : Call} {left : Desk} → CTurn words out r c left
    → written r.number left.state left.buffer ≡ performed c words.now out.now
c_turn_performs (turns.opens_top κs s promise) = performs_says _ _ _ _ _ _ promise
c_turn_performs (turns.opens_document κs key s promise) = performs_says _ _ _ _ _ _ promise
c_turn_performs (turns.opens_array κs key s promise) = performs_says _ _ _ _ _ _ promise
c_turn_performs (turns.closes κs s promise) = performs_says _ _ _ _ _ _ promise
c_turn_performs (turns.appends_double κs key bits s promise) = performs_says _ _ _ _ _ _ promise
c_turn_performs (turns.appends_bool κs key b s promise) = performs_says _ _ _ _ _ _ promise
c_turn_performs (turns.appends_int32 κs key n s promise) = performs_says _ _ _ _ _ _ promise
c_turn_performs (turns.appends_int64 κs key n s promise) = performs_says _ _ _ _ _ _ promise
c_turn_performs (turns.appends_datetime κs key n s promise) = performs_says _ _ _ _ _ _ promise
c_turn_performs (turns.appends_timestamp κs key increment seconds s promise) = performs_says _ _ _ _ _ _ promise
c_turn_performs (turns.appends_null κs key s promise) = performs_says _ _ _ _ _ _ promise
c_turn_performs (turns.appends_undefined κs key s promise) = performs_says _ _ _ _ _ _ promise
c_turn_performs (turns.appends_min_key κs key s promise) = performs_says _ _ _ _ _ _ promise
c_turn_performs (turns.appends_max_key κs key s promise) = performs_says _ _ _ _ _ _ promise
c_turn_performs (turns.appends_string κs key text s promise) = performs_says _ _ _ _ _ _ promise
c_turn_performs (turns.appends_code κs key text s promise) = performs_says _ _ _ _ _ _ promise
c_turn_performs (turns.appends_symbol κs key text s promise) = performs_says _ _ _ _ _ _ promise
c_turn_performs (turns.appends_binary κs key subtype contents s promise) = performs_says _ _ _ _ _ _ promise
c_turn_performs (turns.appends_regex κs key pattern options s promise) = performs_says _ _ _ _ _ _ promise
c_turn_performs (turns.appends_dbpointer κs key namespace id s promise) = performs_says _ _ _ _ _ _ promise
c_turn_performs (turns.appends_object_id κs key id s promise) = performs_says _ _ _ _ _ _ promise
c_turn_performs (turns.appends_decimal128 κs key bits s promise) = performs_says _ _ _ _ _ _ promise

-- ---- one turn

module _ {words out : Room} {r : WrittenNumbers} {c : Call} {left : Desk} (t : CTurn words out r c left) where
  c_turn_ends : (tree : Building)
      → read_back.turn c (record { left = left_by words out; tree = tree })
      ≡ record { left = left; tree = after_turn r.number c tree }
  c_turn_ends = turn_ends_by c (left_by words out) (written r.number left.state left.buffer) (c_turn_performs t)

  -- "a refused call changes no byte of a lent buffer and no writer state"
  pub c_turn_unchanged : (r.number ≡ 0 → ⊥) → left ≡ left_by words out
  c_turn_unchanged = unchanged_by c (left_by words out) (written r.number left.state left.buffer) (c_turn_performs t)

  -- "a call that writes keeps all bytes behind its output"
  pub c_turn_behind : length words.now ≡ 406 → drop (used left.state) left.buffer ≡ drop (used left.state) out.now
  c_turn_behind = behind_by c (left_by words out) (written r.number left.state left.buffer) (c_turn_performs t)

-- ---- a trace

pub c_trace_runs : {end : Session} {calls : List Call} {s : Session} → CTrace end calls s → run calls s ≡ end
c_trace_runs done = refl
c_trace_runs (turn words out r c left tree cs t more) = ap (run cs) (c_turn_ends t tree) ∙ c_trace_runs more

pub c_trace_reads_back : CTraceReadsBack
c_trace_reads_back w buffer calls end (turns.news κs s promise) typed trace =
    let first : run calls (session_start buffer) ≡ run calls (begun w buffer) = rw promise in
    subst (λ (x : Session). Stands buffer x.left x.tree) (first ∙ c_trace_runs trace) (writer_reads_back buffer calls typed)

pub c_closed_reads_back : CClosedReadsBack
c_closed_reads_back w buffer left calls t fresh typed trace =
    c_trace_reads_back w buffer calls (record { left = left; tree = built t }) fresh typed trace
