-- What is seen of a tick of a run.
use Rattle.std.specs.Prelude.{ℕ, ◌≡◌, ◌+◌, ◌-◌, Bool, true, false, not, ◌&&◌, ◌==◌, nat_lt, if◌then◌else◌, List, [], ◌∷◌, ◌++◌, map, Option, Some, None, length, slice_index_or}
use Rattle.std.specs.List.{filter, list_any}
use Rattle.std.specs.Option.{option_map}
use Rattle.seen_ticks.specs.declared.alarm_seen.AlarmSeen.{AlarmSeen}
use Rattle.seen_ticks.specs.declared.failures.Failure.{Failure}
use Rattle.seen_ticks.specs.declared.observation.Observation.{Observation}
use Rattle.seen_ticks.specs.declared.routine_seen.RoutineSeen.{RoutineSeen}
use Rattle.seen_ticks.specs.declared.task_seen.TaskSeen.{TaskSeen}
use Rattle.osek_base.specs.declared.arrivals.Arrival.{Arrival}
use Rattle.osek_base.specs.declared.executed.Executed.{Executed}
use Rattle.osek_base.specs.declared.ids.Owner.{Owner}
use Rattle.osek_base.specs.declared.ids.ResId.{ResId}
use Rattle.osek_base.specs.declared.instr.Instr.{Instr}
use Rattle.osek_base.specs.declared.instr.Service.{Service}
use Rattle.osek_base.specs.declared.status.Status.{Status}
use Rattle.osek_base.specs.declared.status.TaskState.{TaskState}
use Rattle.osek_base.specs.declared.task.Action.{Action}
use Rattle.osek_base.specs.declared.trace_event.Outcome.{Outcome}
use Rattle.osek_base.specs.declared.trace_event.TraceEvent.{TraceEvent}
use Rattle.osek_base.specs.BlockingText.{blockers_at}
use Rattle.osek_base.specs.Lists.{below, same_owner}
use Rattle.osek_base.specs.Service.{task_state}
use Rattle.osek_base.specs.State.{State, jobs_of}
use Rattle.osek_base.specs.System.{System, alarm, instruction_at}
use Rattle.osek_base.specs.Tick.{status_number}
use Rattle.osek_base.specs.Trace.{arriving, run}
use Rattle.law_blockers.specs.Steps.{record_at, step_at}
use Rattle.law_kept.specs.Seen.{routine_of}
use Rattle.seen_ticks.specs.Shown.{holder}
use Rattle.seen_ticks.specs.Told.{due_in, refused_in, task_at}

abbrev pub one_if : Bool → ℕ
one_if true = 1
one_if false = 0

-- whether there is a number, and it is that one
abbrev pub is_number : ℕ → Option ℕ → Bool
is_number n None = false
is_number n (Some m) = m == n

-- how often a number stands in a list
abbrev pub times : ℕ → List ℕ → ℕ
times n numbers = length (filter (λ m. m == n) numbers)

-- ---- the tick's instruction

-- what a tick executed, as its records tell it
abbrev pub executed_in : List TraceEvent → Option Executed
executed_in [] = None
executed_in (TraceEvent.Executed who place what outcome ∷ rest) = Some (record { owner = who; place = place; outcome = outcome })
executed_in (_ ∷ rest) = executed_in rest

abbrev pub owner_of : Executed → Owner
owner_of e = e.owner

abbrev pub is_by : Owner → Option Executed → Bool
is_by who None = false
is_by who (Some e) = same_owner who e.owner

-- the instruction that was executed
abbrev pub instruction : System → Executed → Instr
instruction S e = instruction_at S e.owner e.place

-- the answer, where it has a status
abbrev pub status_of : Outcome → Option Status
status_of (Outcome.Answer status found) = Some status
status_of _ = None

abbrev pub answered : Option Executed → Option Status
answered None = None
answered (Some e) = status_of e.outcome

-- the instruction, where its answer has a status other than E_OK
abbrev pub failure_by : Executed → Option Status → Option Failure
failure_by e None = None
failure_by e (Some status) =
    if nat_lt 0 (status_number status) then Some (record { owner = e.owner; place = e.place; status = status }) else None

abbrev pub failure_of : Option Executed → Option Failure
failure_of None = None
failure_of (Some e) = failure_by e (status_of e.outcome)

-- whether an instruction ends the job that executes it
abbrev pub is_end : Instr → Bool
is_end (Instr.Service Service.TerminateTask) = true
is_end (Instr.Service (Service.ChainTask t)) = true
is_end _ = false

-- the task that an instruction activates
abbrev pub activates : Instr → Option ℕ
activates (Instr.Service (Service.ActivateTask t)) = t
activates (Instr.Service (Service.ChainTask t)) = t
activates _ = None

abbrev pub is_accepted : Outcome → Bool
is_accepted (Outcome.Answer Status.Ok found) = true
is_accepted _ = false

-- whether an instruction gets or releases a resource
abbrev pub moves : Instr → Bool
moves (Instr.Service (Service.GetResource r)) = true
moves (Instr.Service (Service.ReleaseResource r)) = true
moves _ = false

-- whether the answer is E_OS_LIMIT
abbrev pub is_limit : Outcome → Bool
is_limit (Outcome.Answer Status.Limit found) = true
is_limit _ = false

abbrev pub task_of : Owner → Option ℕ
task_of (Owner.Task t) = Some t
task_of (Owner.Routine i) = None

-- the task of which a job ends
abbrev pub ending : System → Option Executed → Option ℕ
ending S None = None
ending S (Some e) = if is_accepted e.outcome && is_end (instruction S e) then task_of e.owner else None

-- the task of which an activation is refused
abbrev pub refusing : System → Option Executed → Option ℕ
refusing S None = None
refusing S (Some e) = if is_limit e.outcome then activates (instruction S e) else None

-- whether a resource is got or released
abbrev pub moved : System → Option Executed → Bool
moved S None = false
moved S (Some e) = is_accepted e.outcome && moves (instruction S e)

-- ---- what a tick is seen by

-- whether it is the first; the states before it, in which its instruction is executed, and after it; what it executed; the
-- alarms that are due, and those of them whose action is refused; the routines of the interrupts that arrive
pub record Ticked : Type 0 where
  pub first : Bool
  pub before : State
  pub at : State
  pub after : State
  pub executed : Option Executed
  pub due : List ℕ
  pub refused : List ℕ
  pub arrived : List ℕ

-- tick t of a run
abbrev pub tick_at : System → ℕ → List Arrival → ℕ → Ticked
tick_at S mode arrivals t =
    record {
      first = t == 0;
      before = (run S mode arrivals t).state;
      at = (step_at S mode arrivals t).executing;
      after = (step_at S mode arrivals t).after;
      executed = executed_in (record_at S mode arrivals t);
      due = due_in S mode arrivals t;
      refused = refused_in S mode arrivals t;
      arrived = arriving arrivals t;
    }

-- ---- tasks

-- RUNNING is the task that executes. One that a routine interrupts is ready
abbrev pub state_seen : Bool → TaskState → TaskState
state_seen true state = TaskState.Running
state_seen false TaskState.Running = TaskState.Ready
state_seen false state = state

abbrev pub is_waiting : TaskState → Bool
is_waiting TaskState.Waiting = true
is_waiting _ = false

-- how many jobs a task has before a tick; before the first one none, so that boot's are made in it
abbrev pub jobs_before : Bool → State → ℕ → ℕ
jobs_before first before t = if first then 0 else length (jobs_of t before.jobs)

-- whether an action is to activate a task
abbrev pub is_activation : ℕ → Action → Bool
is_activation t (Action.ActivateTask u) = u == t
is_activation t (Action.SetEvent u m) = false

-- how many of some alarms are to activate a task
abbrev pub activations_by : System → ℕ → List ℕ → ℕ
activations_by S t alarms = length (filter (λ a. is_activation t (alarm S a).action) alarms)

abbrev pub task_seen : System → Ticked → ℕ → TaskSeen
task_seen S k t =
    record {
      state = state_seen (is_by (Owner.Task t) k.executed) (task_at S k.at t).state;
      priority = (task_at S k.at t).priority;
      jobs = (task_at S k.at t).jobs;
      made = length (jobs_of t k.after.jobs) + one_if (is_number t (ending S k.executed)) - jobs_before k.first k.before t;
      refused = one_if (is_number t (refusing S k.executed)) + activations_by S t k.refused;
      ended = is_number t (ending S k.executed);
      waits = is_by (Owner.Task t) k.executed && is_waiting (task_state k.after t);
    }

-- ---- routines, resources, alarms

abbrev pub active_routine : State → Option ℕ
active_routine s = option_map routine_of s.active

abbrev pub is_pending : State → ℕ → Bool
is_pending s i = slice_index_or s.pending i false

-- of the interrupts that arrive, all but the first are lost, and that one too where one was pending
abbrev pub lost_of : Bool → ℕ → ℕ
lost_of true n = n
lost_of false n = n - 1

abbrev pub routine_seen : Ticked → ℕ → RoutineSeen
routine_seen k i =
    record {
      executes = is_by (Owner.Routine i) k.executed;
      is_pending = is_pending k.at i;
      is_started = is_by (Owner.Routine i) k.executed && not (is_number i (active_routine k.before));
      arrived = times i k.arrived;
      lost = lost_of (is_pending k.before i) (times i k.arrived);
    }

abbrev pub scheduler_seen : System → State → List (Option ℕ)
scheduler_seen S s = if S.use_res_scheduler then holder S s ResId.Scheduler ∷ [] else []

-- who holds each declared resource, and behind them RES_SCHEDULER, where the system has it
abbrev pub holders_seen : System → State → List (Option ℕ)
holders_seen S s = map (λ r. holder S s (ResId.Declared r)) (below (length S.resources)) ++ scheduler_seen S s

abbrev pub is_among : List ℕ → ℕ → Bool
is_among numbers n = list_any (λ m. m == n) numbers

abbrev pub alarm_seen : Ticked → ℕ → AlarmSeen
alarm_seen k a = record { has_expired = is_among k.due a; is_refused = is_among k.refused a }

-- ---- a tick

pub record IsSeen (S : System) (k : Ticked) (o : Observation) : Type 0 where
  pub executor : o.executor ≡ option_map owner_of k.executed
  pub answered : o.answered ≡ answered k.executed
  pub failure : o.failure ≡ failure_of k.executed
  pub tasks : o.tasks.items ≡ map (task_seen S k) (below (length S.tasks))
  pub routines : o.routines.items ≡ map (routine_seen k) (below (length S.routines))
  pub holders : o.holders.items ≡ holders_seen S k.at
  pub alarms : o.alarms.items ≡ map (alarm_seen k) (below (length S.alarms))

-- what is seen of tick t of a run, with the number of blockers where these are counted
pub record IsObserved (counted : Bool) (S : System) (mode : ℕ) (arrivals : List Arrival) (t : ℕ) (o : Observation) : Type 0 where
  pub number : o.tick ≡ t
  pub seen : IsSeen S (tick_at S mode arrivals t) o
  pub blockers : counted ≡ true → o.blockers ≡ blockers_at S mode arrivals t
  pub uncounted : counted ≡ false → o.blockers ≡ None
