-- What of a run is written: all records, all with the number of blockers, or those of the view at a priority. No part of the
-- standards.
use Rattle.std.specs.Prelude.{ℕ, ◌≡◌, ◌-◌, Bool, true, false, List, map, Option, None}
use Rattle.std.specs.List.{flat_map}
use Rattle.osek_base.specs.declared.arrivals.Arrival.{Arrival}
use Rattle.osek_base.specs.declared.trace_event.TraceEvent.{TraceEvent}
use Rattle.osek_base.specs.System.{System}
use Rattle.osek_base.specs.Tick.{Step}
use Rattle.osek_base.specs.Trace.{Run}
use Rattle.osek_base.specs.View.{view_records, view_lines}
use Rattle.osek_base.specs.BlockingText.{blockers_at}
use Rattle.law_blockers.specs.Steps.{record_at}
use Rattle.kernel.specs.Progress.{Progress}
use Rattle.tracer.specs.declared.shown.Shown.{Shown}
use Rattle.trace_lines.specs.Lines.{ended, numbered_line, tick_text}

-- the text of the view of a run: each line with its LF
abbrev pub view_text : System → ℕ → Run → List ℕ
view_text S p r = flat_map ended (view_lines S p r)

-- the records of a tick that are written
abbrev pub records_shown : System → Shown → List TraceEvent → List TraceEvent
records_shown S Shown.All told = told
records_shown S Shown.Blocking told = told
records_shown S (Shown.View p) told = view_records S p told

-- the number that is written behind a tick's instruction
abbrev pub numbers_shown : Shown → System → ℕ → List Arrival → ℕ → Option ℕ
numbers_shown Shown.All S mode arrivals t = None
numbers_shown Shown.Blocking S mode arrivals t = blockers_at S mode arrivals t
numbers_shown (Shown.View p) S mode arrivals t = None

-- that behind the instruction of the last tick, by a kernel that counts blockers or not
abbrev pub number_by : Bool → Progress → Option ℕ
number_by true k = blockers_at k.system k.mode k.arrivals (k.ticks - 1)
number_by false k = None

-- whether numbers of blockers are written, and whether a view is
abbrev pub is_blocking : Shown → Bool
is_blocking Shown.All = false
is_blocking Shown.Blocking = true
is_blocking (Shown.View p) = false

abbrev pub is_view : Shown → Bool
is_view Shown.All = false
is_view Shown.Blocking = false
is_view (Shown.View p) = true

-- what types say of it is so: blockers are counted where their numbers are written and nowhere else, and views are where they are
pub record MayShow (are_counted are_views : Bool) (shown : Shown) : Type 0 where
  pub blockers : are_counted ≡ is_blocking shown
  pub views : are_views ≡ is_view shown

-- what is written of tick t of a run
abbrev pub tick_text_shown : System → Shown → System → ℕ → List Arrival → ℕ → List ℕ
tick_text_shown V shown S mode arrivals t =
    tick_text V.names t (numbers_shown shown S mode arrivals t) (records_shown V shown (record_at S mode arrivals t))

-- the lines of a step, where each tick has its number
abbrev pub lines_shown : System → Shown → (ℕ → Option ℕ) → Step → List (List ℕ)
lines_shown S shown numbers step =
    map (numbered_line S.names step.number (numbers step.number)) (records_shown S shown step.events)

-- the text of a run so shown
abbrev pub text_shown : System → Shown → (ℕ → Option ℕ) → Run → List ℕ
text_shown S shown numbers r = flat_map ended (flat_map (lines_shown S shown numbers) r.steps)
