-- What marks stand on the rows of a picture: what comes to tasks and routines in the ticks that
-- are drawn.
use Rattle.std.specs.Prelude.{ℕ, ◌≡◌, ◌<◌, Bool, true, false, if◌then◌else◌, nat_lt, ◌==◌, List, [], ◌∷◌, ◌++◌, Option, Some, None, map, length, slice_index_or}
use Rattle.std.specs.List.{flat_map}
use Rattle.osek_base.specs.declared.ids.Owner.{Owner}
use Rattle.osek_base.specs.declared.instr.Instr.{Instr}
use Rattle.osek_base.specs.declared.instr.Service.{Service}
use Rattle.osek_base.specs.declared.status.Status.{Status}
use Rattle.osek_base.specs.declared.task.Action.{Action}
use Rattle.osek_base.specs.declared.trace_event.Outcome.{Outcome}
use Rattle.osek_base.specs.declared.trace_event.TraceEvent.{TraceEvent}
use Rattle.osek_base.specs.Lists.{below, same_owner}
use Rattle.osek_base.specs.System.{System, alarm}
use Rattle.osek_base.specs.Upper.{action_task}
use Rattle.seen_ticks.specs.declared.alarm_seen.AlarmSeen.{AlarmSeen}
use Rattle.seen_ticks.specs.declared.observation.Observation.{Observation}
use Rattle.seen_ticks.specs.Seen.{alarm_seen, routine_seen, task_seen}
use Rattle.view_timelines.specs.declared.mark.Mark.{Mark}
use Rattle.view_timelines.specs.declared.mark.Placed.{Placed}
use Rattle.view_timelines.specs.declared.mark.Sign.{Sign}
use Rattle.view_timelines.specs.Rows.{Picture, drawn, nothing_kept}

-- ---- what comes to a task or a routine

-- a sign of a number, where that isn't 0
abbrev pub sign_of : (ℕ → Sign) → ℕ → List Sign
sign_of sign n = if nat_lt 0 n then sign n ∷ [] else []

-- jobs of task k are made
abbrev pub task_came : Observation → ℕ → List Sign
task_came o k = sign_of Sign.Activated (task_seen o k).made

-- interrupts arrive for routine k, and some of them are lost
abbrev pub routine_came : Observation → ℕ → List Sign
routine_came o k = sign_of Sign.Arrived (routine_seen o k).arrived ++ sign_of Sign.Lost (routine_seen o k).lost

-- ---- what alarms do

-- signs on the row of that number alone
abbrev pub on_row : ℕ → List Sign → ℕ → List Sign
on_row number signs k = if number == k then signs else []

-- the events that an action sets
abbrev pub events_set : Action → List Sign
events_set (Action.ActivateTask t) = []
events_set (Action.SetEvent t mask) = Sign.EventsSet mask ∷ []

-- alarm a expires, and its action is refused or done
abbrev pub expiry : ℕ → Action → Bool → List Sign
expiry a action true = Sign.ExpiryRefused a ∷ []
expiry a action false = Sign.Expired a ∷ events_set action

-- what alarm a leaves on the row of task k
abbrev pub alarm_signs : System → ℕ → AlarmSeen → ℕ → List Sign
alarm_signs S a seen k =
    if seen.has_expired then on_row (action_task (alarm S a).action) (expiry a (alarm S a).action seen.is_refused) k else []

abbrev pub alarms_signs : System → Observation → ℕ → List Sign
alarms_signs S o k = flat_map (λ a. alarm_signs S a (alarm_seen o a) k) (below (length S.alarms))

-- ---- what services do

-- an instruction that is done sets events of a task
abbrev pub setting : Instr → Option Placed
setting (Instr.Service (Service.SetEvent (Some t) mask)) = Some (record { owner = Owner.Task t; sign = Sign.EventsSet mask })
setting _ = None

-- a service is refused on the row of who asks for it
abbrev pub answering : Owner → Instr → Status → Option Placed
answering who what Status.Ok = setting what
answering who what refused = Some (record { owner = who; sign = Sign.Refused refused })

-- what a record leaves, and on whose row
abbrev pub telling : TraceEvent → Option Placed
telling (TraceEvent.Executed who place what (Outcome.Answer status results)) = answering who what status
telling _ = None

-- on the row of somebody
abbrev pub placed_on : Owner → Option Placed → List Sign
placed_on who None = []
placed_on who (Some placed) = if same_owner placed.owner who then placed.sign ∷ [] else []

abbrev pub records_signs : List TraceEvent → Owner → List Sign
records_signs records who = flat_map (λ e. placed_on who (telling e)) records

-- ---- all of a tick, and of ticks

-- what stands on a row of a tick in which this is seen, and which has these records
abbrev pub tick_signs : System → Observation → List TraceEvent → Owner → List Sign
tick_signs S o records (Owner.Task k) = task_came o k ++ alarms_signs S o k ++ records_signs records (Owner.Task k)
tick_signs S o records (Owner.Routine k) = routine_came o k ++ records_signs records (Owner.Routine k)

abbrev pub of_tick : ℕ → Sign → Mark
of_tick tick sign = record { tick = tick; sign = sign }

abbrev pub marks_of : ℕ → List Sign → List Mark
marks_of tick signs = map (of_tick tick) signs

-- the records of a tick, by its number
abbrev pub Records : Type 0
Records = ℕ → List TraceEvent

abbrev pub tick_marks : System → Records → Owner → Observation → List Mark
tick_marks S told who o = marks_of o.tick (tick_signs S o (told o.tick) who)

-- the marks on a row are those of each tick that is drawn, one after another
abbrev pub row_marks : System → Records → ℕ → ℕ → List Observation → Owner → List Mark
row_marks S told from to seen who = flat_map (tick_marks S told who) (drawn from to seen)

-- a picture has the marks of these ticks on the row of each task and routine
pub record AreMarks (S : System) (told : Records) (seen : List Observation) (picture : Picture) : Type 0 where
  pub tasks : (k : ℕ) → k < length picture.tasks
      → (slice_index_or picture.tasks k nothing_kept).marks ≡ row_marks S told picture.from picture.to seen (Owner.Task k)
  pub routines : (k : ℕ) → k < length picture.routines
      → (slice_index_or picture.routines k nothing_kept).marks ≡ row_marks S told picture.from picture.to seen (Owner.Routine k)

-- records leave nothing on any row
abbrev pub LeaveNothing : List TraceEvent → Type 0
LeaveNothing records = (who : Owner) → records_signs records who ≡ []
