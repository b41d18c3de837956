-- OSEK/VDX OS: interrupt processing; alarms; error handling, ErrorHook. One tick, in six phases.
use Rattle.std.specs.Prelude.{ℕ, ◌+◌, Bool, true, false, if◌then◌else◌, List, [], ◌∷◌, ◌++◌, Option, Some, None, slice_index_or, slice_set, length}
use Rattle.std.specs.Option.{option_map}
use Rattle.osek_base.specs.Types.{Owner, Status, PlainInstr, Service, ServiceCall, Control, Instr, Results, Outcome, Source, TraceEvent, Action}
use Rattle.osek_base.specs.Lists.{below, foremost}
use Rattle.osek_base.specs.System.{System, routine, alarm, instruction_at}
use Rattle.osek_base.specs.Instruction.{Context, Done, value, next, with_value, plain}
use Rattle.osek_base.specs.State.{Job, JobId, Active, State, fresh_context, may_dispatch, job_of, with_job, words_after}
use Rattle.osek_base.specs.Reschedule.{Recorded, hooked, reschedule}
use Rattle.osek_base.specs.Alarm.{due_alarms, alarms_advanced}
use Rattle.osek_base.specs.Service.{Caller, JobCalls, RoutineCalls, NobodyCalls, Reply, unasked_service, service, controlled}

-- one thing after another
abbrev pub and_then : Recorded → (State → Recorded) → Recorded
and_then r f = let after = f r.state in record { events = r.events ++ after.events; state = after.state }

abbrev pub silent : State → Recorded
silent s = record { events = []; state = s }

-- ---- 1. counters advance, and due alarms act

-- the service that an alarm's action calls
abbrev pub action_call : Action → ServiceCall
action_call (Action.ActivateTask t) = Service.ActivateTask (Some t)
action_call (Action.SetEvent t m) = Service.SetEvent (Some t) m

-- an error record, where the status is none of E_OK
abbrev pub error_record : System → Source → Instr → Status → List TraceEvent
error_record S who what Status.Ok = []
error_record S who what status = hooked S.hooks.error (TraceEvent.Error who what status)

abbrev pub alarm_reply : System → ℕ → Reply → Recorded
alarm_reply S a r =
    record {
      events = error_record S (Source.Alarm a) (Instr.Service (action_call (alarm S a).action)) r.status;
      state = r.state;
    }

-- one alarm acts
abbrev pub alarm_acts : System → ℕ → State → Recorded
alarm_acts S a s = alarm_reply S a (unasked_service S NobodyCalls s (action_call (alarm S a).action))

-- alarms act in turn
abbrev pub alarms_act : System → List ℕ → State → Recorded
alarms_act S [] s = silent s
alarms_act S (a ∷ rest) s = and_then (alarm_acts S a s) (alarms_act S rest)

unfoldable pub alarm_phase : System → State → Recorded
alarm_phase S s = alarms_act S (due_alarms S s) (record s { alarms = alarms_advanced S s })

-- ---- 2. arrivals set pending flags

abbrev pub flagged : List ℕ → List Bool → List Bool
flagged [] flags = flags
flagged (i ∷ rest) flags = flagged rest (slice_set flags i true)

abbrev pub arrival_phase : List ℕ → State → State
arrival_phase arrived s = record s { pending = flagged arrived s.pending }

-- ---- 4. a pending routine starts

abbrev pub is_pending : State → ℕ → Bool
is_pending s i = slice_index_or s.pending i false

-- among the pending routines, the first declared with the greatest priority
abbrev pub routine_choice : System → State → Option ℕ
routine_choice S s = foremost (is_pending s) (λ i. (routine S i).priority) (below (length S.routines))

abbrev pub routine_started : Option ℕ → State → State
routine_started None s = s
routine_started (Some i) s =
    record s { active = Some (record { routine = i; context = fresh_context }); pending = slice_set s.pending i false }

-- the start of a routine changes the active routine and the flags, and nothing else of the state
abbrev pub with_start_of : State → State → State
with_start_of s e = record s { active = e.active; pending = e.pending }

unfoldable pub start_phase : System → State → State
start_phase S s = with_start_of s (if may_dispatch s then routine_started (routine_choice S s) s else s)

-- ---- 5. one instruction is executed

-- the active routine, else the running job, else nobody
abbrev pub job_caller : Option Job → Caller
job_caller None = NobodyCalls
job_caller (Some j) = JobCalls j

abbrev pub running_caller : Option JobId → List Job → Caller
running_caller None jobs = NobodyCalls
running_caller (Some r) jobs = job_caller (job_of r jobs)

abbrev pub caller_of : Option Active → Option JobId → List Job → Caller
caller_of (Some a) running jobs = RoutineCalls a
caller_of None running jobs = running_caller running jobs

abbrev pub executor : State → Caller
executor s = caller_of s.active s.running s.jobs

-- a service with the values of its registers
abbrev pub at_values : Context → ServiceCall → ServiceCall
at_values x (Service.SetRelAlarm a increment cycle) = Service.SetRelAlarm a (value x increment) (value x cycle)
at_values x (Service.SetAbsAlarm a start cycle) = Service.SetAbsAlarm a (value x start) (value x cycle)
at_values x (Service.LoadShared r i) = Service.LoadShared r (value x i)
at_values x (Service.StoreShared r i v) = Service.StoreShared r (value x i) (value x v)
at_values x call = call

abbrev pub moved : Context → Active → Active
moved x a = record a { context = x }

abbrev pub job_moved : Context → Job → Job
job_moved x j = record j { context = x }

abbrev pub jobs_moved : Caller → Context → List Job → List Job
jobs_moved (JobCalls j) x jobs = with_job j.id (job_moved x) jobs
jobs_moved (RoutineCalls a) x jobs = jobs
jobs_moved NobodyCalls x jobs = jobs

abbrev pub active_moved : Caller → Context → Option Active → Option Active
active_moved (RoutineCalls a) x active = option_map (moved x) active
active_moved (JobCalls j) x active = active
active_moved NobodyCalls x active = active

-- the caller gets other registers and another place, where it is still there
abbrev pub with_context : Caller → Context → State → State
with_context c x s = record s { jobs = jobs_moved c x s.jobs; active = active_moved c x s.active }

abbrev pub status_number : Status → ℕ
status_number Status.Ok = 0
status_number Status.Access = 1
status_number Status.CallLevel = 2
status_number Status.Id = 3
status_number Status.Limit = 4
status_number Status.NoFunc = 5
status_number Status.Resource = 6
status_number Status.State = 7
status_number Status.Value = 8
status_number Status.SysDisabled = 32

-- results go to r1, r2 and r3
abbrev pub with_results : Results → Context → Context
with_results Results.Nothing x = x
with_results (Results.One a) x = with_value x 1 a
with_results (Results.Three a b c) x = with_value (with_value (with_value x 1 a) 2 b) 3 c

-- the status goes to r0, the results behind it, and the next instruction follows
abbrev pub answered : Status → Results → Context → Context
answered status found x = next (with_results found (with_value x 0 (status_number status)))

abbrev pub shutdown_record : System → Control ℕ → List TraceEvent
shutdown_record S (Control.ShutdownOs n) = hooked S.hooks.shutdown (TraceEvent.Shutdown n)
shutdown_record S _ = []

abbrev pub plain_done : Owner → Caller → Context → PlainInstr → State → Done → Recorded
plain_done who c x p s done =
    record {
      events = TraceEvent.Executed who x.place (Instr.Plain p) (Outcome.Plain done.effect) ∷ [];
      state = with_context c done.context (record s { words = words_after s.words who done.effect });
    }

abbrev pub service_done : System → Owner → Caller → Context → ServiceCall → Reply → Recorded
service_done S who c x call r =
    record {
      events =
          TraceEvent.Executed who x.place (Instr.Service call) (Outcome.Answer r.status r.results)
          ∷ error_record S (Source.Owner who) (Instr.Service call) r.status;
      state = with_context c (answered r.status r.results x) r.state;
    }

-- one instruction of an owner
abbrev pub executed : System → Owner → Caller → Context → Instr → State → Recorded
executed S who c x (Instr.Plain p) s = plain_done who c x p s (plain p x (s.words who))
executed S who c x (Instr.Service call) s = service_done S who c x call (service S c s (at_values x call))
executed S who c x (Instr.Control control) s =
    record {
      events = TraceEvent.Executed who x.place (Instr.Control control) Outcome.Control ∷ shutdown_record S control;
      state = with_context c (next x) (controlled control s);
    }

-- one instruction of the caller, or idle
abbrev pub caller_executes : System → Caller → State → Recorded
caller_executes S (JobCalls j) s =
    executed S (Owner.Task j.id.task) (JobCalls j) j.context (instruction_at S (Owner.Task j.id.task) j.context.place) s
caller_executes S (RoutineCalls a) s =
    executed S (Owner.Routine a.routine) (RoutineCalls a) a.context (instruction_at S (Owner.Routine a.routine) a.context.place) s
caller_executes S NobodyCalls s = record { events = TraceEvent.Idle ∷ []; state = s }

unfoldable pub execute_phase : System → State → Recorded
execute_phase S s = caller_executes S (executor s) s

-- ---- the tick

-- a tick: its number, what it records, the state in which its instruction is executed, and the state after it
pub record Step : Type 0 where
  pub number : ℕ
  pub events : List TraceEvent
  pub executing : State
  pub after : State

-- phases 1 to 4
abbrev pub before_execution : System → List ℕ → State → Recorded
before_execution S arrived s =
    let dispatched = and_then (alarm_phase S s) (λ a. reschedule S (arrival_phase arrived a)) in
    record { events = dispatched.events; state = start_phase S dispatched.state }

-- phase 6, left out after ShutdownOS
abbrev pub last_phase : System → State → Recorded
last_phase S s = if s.over then silent s else reschedule S s

-- phases 5 and 6
abbrev pub from_execution : System → State → Recorded
from_execution S s = and_then (execute_phase S s) (last_phase S)

unfoldable pub tick : System → List ℕ → State → Step
tick S arrived s =
    let acted = alarm_phase S s in
    let flagged = arrival_phase arrived acted.state in
    let dispatched = reschedule S flagged in
    let ready = start_phase S dispatched.state in
    let executed = execute_phase S ready in
    let last = last_phase S executed.state in
    record {
      number = s.tick;
      events = (acted.events ++ dispatched.events) ++ (executed.events ++ last.events);
      executing = ready;
      after = record last.state { tick = last.state.tick + 1 };
    }
