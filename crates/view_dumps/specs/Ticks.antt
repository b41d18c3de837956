-- Value change dumps: the text of a tick, from what each variable was last written with and what is seen in the tick.
use Rattle.std.specs.Prelude.{ℕ, suc, ◌==◌, nat_eq, nat_lt, Bool, true, false, not, if◌then◌else◌, Option, Some, None, List, [], ◌∷◌, ◌++◌, codes, length, replicate}
use Rattle.seen_ticks.specs.declared.alarm_seen.AlarmSeen.{AlarmSeen}
use Rattle.seen_ticks.specs.declared.observation.Observation.{Observation}
use Rattle.seen_ticks.specs.declared.routine_seen.RoutineSeen.{RoutineSeen}
use Rattle.seen_ticks.specs.declared.task_seen.TaskSeen.{TaskSeen}
use Rattle.osek_base.specs.declared.ids.Owner.{Owner}
use Rattle.osek_base.specs.declared.ids.ResId.{ResId}
use Rattle.osek_base.specs.declared.status.TaskState.{TaskState}
use Rattle.osek_base.specs.System.{System}
use Rattle.osek_base.specs.Service.{state_number}
use Rattle.view_dumps.specs.Changes.{shown, written}
use Rattle.view_dumps.specs.Lines.{event_line, executor_name, holder_name, number_line, string_line, time_line, vector_line, wire_line}
use Rattle.view_dumps.specs.declared.last_values.LastValues.{LastValues}
use Rattle.view_dumps.specs.declared.routine_values.RoutineValues.{RoutineValues}
use Rattle.view_dumps.specs.declared.task_values.TaskValues.{TaskValues}
use Rattle.view_dumps.specs.declared.variable.Variable.{Variable}

-- ---- which values are equal

abbrev pub same_state : TaskState → TaskState → Bool
same_state a b = state_number a == state_number b

abbrev pub same_flag : Bool → Bool → Bool
same_flag true b = b
same_flag false b = not b

abbrev pub same_owner : Owner → Owner → Bool
same_owner (Owner.Task t) (Owner.Task u) = t == u
same_owner (Owner.Routine i) (Owner.Routine j) = i == j
same_owner (Owner.Task t) (Owner.Routine j) = false
same_owner (Owner.Routine i) (Owner.Task u) = false

abbrev pub same_option : {V : Type 0} → (V → V → Bool) → Option V → Option V → Bool
same_option same None None = true
same_option same (Some a) (Some b) = same a b
same_option same None (Some b) = false
same_option same (Some a) None = false

-- ---- one variable

-- the line of a value that is to be written, if there is one
abbrev pub line_of : {V : Type 0} → (V → List ℕ) → Option V → List ℕ
line_of line None = []
line_of line (Some v) = line v

-- ---- the variables of one thing, and what they are written with behind the tick

abbrev pub state_text : ℕ → Option TaskState → TaskState → List ℕ
state_text t last state =
    line_of (λ now. number_line (Variable.State t) (state_number now)) (written same_state last state)

abbrev pub priority_text : ℕ → Option (Option ℕ) → Option ℕ → List ℕ
priority_text t last priority = line_of (vector_line (Variable.Priority t)) (written (same_option nat_eq) last priority)

abbrev pub jobs_text : ℕ → Option ℕ → ℕ → List ℕ
jobs_text t last jobs = line_of (number_line (Variable.Jobs t)) (written nat_eq last jobs)

abbrev pub task_text : ℕ → TaskValues → TaskSeen → List ℕ
task_text t last seen = state_text t last.state seen.state ++ priority_text t last.priority seen.priority ++ jobs_text t last.jobs seen.jobs

abbrev pub task_after : TaskValues → TaskSeen → TaskValues
task_after last seen =
    record {
      state = shown last.state (written same_state last.state seen.state);
      priority = shown last.priority (written (same_option nat_eq) last.priority seen.priority);
      jobs = shown last.jobs (written nat_eq last.jobs seen.jobs);
    }

abbrev pub routine_text : ℕ → RoutineValues → RoutineSeen → List ℕ
routine_text i last seen =
    line_of (wire_line (Variable.Pending i)) (written same_flag last.pending seen.is_pending)
    ++ line_of (wire_line (Variable.Active i)) (written same_flag last.active seen.executes)

abbrev pub routine_after : RoutineValues → RoutineSeen → RoutineValues
routine_after last seen =
    record {
      pending = shown last.pending (written same_flag last.pending seen.is_pending);
      active = shown last.active (written same_flag last.active seen.executes);
    }

-- the resource of that number: RES_SCHEDULER stands behind those that are declared
abbrev pub resource_at : System → ℕ → ResId
resource_at S r = if nat_lt r (length S.resources) then ResId.Declared r else ResId.Scheduler

abbrev pub holder_text : System → ℕ → Option (Option ℕ) → Option ℕ → List ℕ
holder_text S r last holder =
    line_of (λ who. string_line (Variable.Holder (resource_at S r)) (holder_name S.names who)) (written (same_option nat_eq) last holder)

abbrev pub holder_after : Option (Option ℕ) → Option ℕ → Option (Option ℕ)
holder_after last holder = shown last (written (same_option nat_eq) last holder)

-- an interrupt of a routine is lost
abbrev pub loses : RoutineSeen → Bool
loses seen = nat_lt 0 seen.lost

abbrev pub loss_text : ℕ → RoutineSeen → List ℕ
loss_text i seen = if loses seen then event_line (Variable.Lost i) else []

abbrev pub expiry_text : ℕ → AlarmSeen → List ℕ
expiry_text a seen = if seen.has_expired then event_line (Variable.Expiry a) else []

-- ---- things by number, from n on

-- the text of each, from what it was last written with and what is seen of it
abbrev pub changes_from : {V T : Type 0} → (ℕ → V → T → List ℕ) → ℕ → List V → List T → List ℕ
changes_from text n last [] = []
changes_from text n [] (x ∷ seen) = []
changes_from text n (v ∷ last) (x ∷ seen) = text n v x ++ changes_from text (suc n) last seen

-- what they are written with behind the tick; those of which nothing is seen stay
abbrev pub values_after : {V T : Type 0} → (V → T → V) → List V → List T → List V
values_after after last [] = last
values_after after [] (x ∷ seen) = []
values_after after (v ∷ last) (x ∷ seen) = after v x ∷ values_after after last seen

-- the text of each, from what is seen of it alone
abbrev pub events_from : {T : Type 0} → (ℕ → T → List ℕ) → ℕ → List T → List ℕ
events_from text n [] = []
events_from text n (x ∷ seen) = text n x ++ events_from text (suc n) seen

-- ---- a tick

-- before the first tick nothing was written
abbrev pub no_task_values : TaskValues
no_task_values = record { state = None; priority = None; jobs = None }

abbrev pub no_routine_values : RoutineValues
no_routine_values = record { pending = None; active = None }

abbrev pub nothing_written : LastValues
nothing_written =
    record {
      executor = None;
      tasks = replicate 64 no_task_values;
      routines = replicate 16 no_routine_values;
      holders = replicate 33 None;
    }

-- what all variables are written with behind the tick
abbrev pub after_tick : LastValues → Observation → LastValues
after_tick last seen =
    record {
      executor = shown last.executor (written (same_option same_owner) last.executor seen.executor);
      tasks = values_after task_after last.tasks seen.tasks.items;
      routines = values_after routine_after last.routines seen.routines.items;
      holders = values_after holder_after last.holders seen.holders.items;
    }

abbrev pub executor_text : System → Option (Option Owner) → Option Owner → List ℕ
executor_text S last executor =
    line_of (λ who. string_line Variable.Executor (executor_name S.names who)) (written (same_option same_owner) last executor)

-- the values that are written, in the order of the declarations
abbrev pub values_text : System → LastValues → Observation → List ℕ
values_text S last seen =
    executor_text S last.executor seen.executor
    ++ changes_from task_text 0 last.tasks seen.tasks.items
    ++ changes_from routine_text 0 last.routines seen.routines.items
    ++ changes_from (holder_text S) 0 last.holders seen.holders.items

-- the events that fire
abbrev pub events_text : Observation → List ℕ
events_text seen = events_from loss_text 0 seen.routines.items ++ events_from expiry_text 0 seen.alarms.items

-- with the time before it, where something is written
abbrev pub timed : ℕ → List ℕ → List ℕ
timed t [] = []
timed t (c ∷ text) = time_line t ++ c ∷ text

-- the first tick that is written has all values, between marks
abbrev pub tick_text : System → Bool → ℕ → LastValues → Observation → List ℕ
tick_text S true t last seen = timed t (values_text S last seen ++ events_text seen)
tick_text S false t last seen =
    time_line t ++ codes "$dumpvars\n" ++ values_text S last seen ++ codes "$end\n" ++ events_text seen
