-- OSEK/VDX OS: specification of operating system services. What each service refuses, answers and changes.
use Rattle.std.specs.Prelude.{ℕ, ◌+◌, ◌-◌, Bool, true, false, not, ◌&&◌, ◌||◌, ◌==◌, nat_lt, if◌then◌else◌, List, [], ◌∷◌, ◌++◌, Option, Some, None, is_some, slice_index, slice_set, bit_and, bit_or, bit_xor}
use Rattle.std.specs.List.{list_any}
use Rattle.osek_base.specs.Types.{ResId, Service, ServiceCall, Control, Status, Results, TaskState}
use Rattle.osek_base.specs.Lists.{is_empty, last_of, without_last, same_resource}
use Rattle.osek_base.specs.System.{System, lists_resource, is_extended, counter_of}
use Rattle.osek_base.specs.Ceiling.{ceiling}
use Rattle.osek_base.specs.State.{Job, JobId, Active, Expiry, State, interrupts_off, same_id, jobs_of, with_job, waits, shared_word, with_shared}
use Rattle.osek_base.specs.Priority.{static_priority, dynamic_priority}
use Rattle.osek_base.specs.Activation.{is_full, activated, released, ended}
use Rattle.osek_base.specs.Alarm.{count, expiry, next_count, is_bad_cycle, with_alarm}

-- who calls: the running job, the active routine, or neither, as for an alarm
pub data Caller : Type 0 where
  JobCalls : Job → Caller
  RoutineCalls : Active → Caller
  NobodyCalls : Caller

-- what a service answers, and the state after it
pub record Reply : Type 0 where
  pub status : Status
  pub results : Results
  pub state : State

-- ---- tests

abbrev pub by_routine : Caller → Bool
by_routine (JobCalls j) = false
by_routine (RoutineCalls a) = true
by_routine NobodyCalls = false

-- whether the caller holds a resource, the internal one aside
abbrev pub holds_any : Caller → Bool
holds_any (JobCalls j) = not (is_empty j.held)
holds_any _ = false

-- whether the caller is a job of the task
abbrev pub is_own_task : Caller → ℕ → Bool
is_own_task (JobCalls j) t = j.id.task == t
is_own_task _ t = false

-- whether the caller is a job of a basic task
abbrev pub is_basic_caller : System → Caller → Bool
is_basic_caller S (JobCalls j) = not (is_extended S j.id.task)
is_basic_caller S _ = false

-- whether a task lists the resource. Each may take RES_SCHEDULER
abbrev pub may_take : System → ℕ → ResId → Bool
may_take S t (ResId.Declared r) = lists_resource S t r
may_take S t ResId.Scheduler = true

abbrev pub caller_may_take : System → Caller → ResId → Bool
caller_may_take S (JobCalls j) r = may_take S j.id.task r
caller_may_take S _ r = false

abbrev pub holds : Job → ResId → Bool
holds j r = list_any (same_resource r) j.held

-- whether a resource's ceiling is below the caller's static priority
abbrev pub is_above_ceiling : System → Caller → ResId → Bool
is_above_ceiling S (JobCalls j) r = nat_lt (ceiling S r) (static_priority S j)
is_above_ceiling S _ r = false

abbrev pub is_resource : Option ResId → ResId → Bool
is_resource None r = false
is_resource (Some q) r = same_resource q r

-- whether a resource is the last that the caller got and still holds
abbrev pub got_last : Caller → ResId → Bool
got_last (JobCalls j) r = is_resource (last_of j.held) r
got_last _ r = false

-- whether the caller is a job that holds the resource
abbrev pub caller_holds : Caller → ResId → Bool
caller_holds (JobCalls j) r = holds j r
caller_holds _ r = false

-- whether a task has no job
abbrev pub is_suspended : State → ℕ → Bool
is_suspended s t = is_empty (jobs_of t s.jobs)

-- whether an alarm is in use
abbrev pub in_use : State → ℕ → Bool
in_use s a = is_some (expiry s a)

-- ---- refusals, in the order in which they are tried

abbrev pub refusals : System → Caller → State → ServiceCall → List (Bool × Status)
refusals S c s (Service.ActivateTask None) = (true, Status.Id) ∷ []
refusals S c s (Service.ActivateTask (Some t)) = (is_full S s t, Status.Limit) ∷ []
refusals S c s Service.TerminateTask = (by_routine c, Status.CallLevel) ∷ (holds_any c, Status.Resource) ∷ []
refusals S c s (Service.ChainTask None) = (by_routine c, Status.CallLevel) ∷ (true, Status.Id) ∷ []
refusals S c s (Service.ChainTask (Some t)) =
    (by_routine c, Status.CallLevel) ∷ (holds_any c, Status.Resource)
    ∷ (not (is_own_task c t) && is_full S s t, Status.Limit) ∷ []
refusals S c s Service.Schedule = (by_routine c, Status.CallLevel) ∷ (holds_any c, Status.Resource) ∷ []
refusals S c s Service.GetTaskId = []
refusals S c s (Service.GetTaskState None) = (true, Status.Id) ∷ []
refusals S c s (Service.GetTaskState (Some t)) = []
refusals S c s (Service.GetResource None) = (true, Status.Id) ∷ []
refusals S c s (Service.GetResource (Some r)) =
    (by_routine c, Status.Access) ∷ (not (caller_may_take S c r), Status.Access)
    ∷ (list_any (λ j. holds j r) s.jobs, Status.Access) ∷ []
refusals S c s (Service.ReleaseResource None) = (true, Status.Id) ∷ []
refusals S c s (Service.ReleaseResource (Some r)) =
    (by_routine c, Status.Access) ∷ (is_above_ceiling S c r, Status.Access) ∷ (not (got_last c r), Status.NoFunc) ∷ []
refusals S c s (Service.LoadShared None i) = (true, Status.Id) ∷ []
refusals S c s (Service.LoadShared (Some r) i) =
    (by_routine c, Status.Access) ∷ (same_resource ResId.Scheduler r, Status.Access) ∷ (not (caller_holds c r), Status.Access) ∷ []
refusals S c s (Service.StoreShared None i v) = (true, Status.Id) ∷ []
refusals S c s (Service.StoreShared (Some r) i v) =
    (by_routine c, Status.Access) ∷ (same_resource ResId.Scheduler r, Status.Access) ∷ (not (caller_holds c r), Status.Access) ∷ []
refusals S c s (Service.SetEvent None m) = (true, Status.Id) ∷ []
refusals S c s (Service.SetEvent (Some t) m) =
    (not (is_extended S t), Status.Access) ∷ (is_suspended s t, Status.State) ∷ []
refusals S c s (Service.ClearEvent m) = (by_routine c, Status.CallLevel) ∷ (is_basic_caller S c, Status.Access) ∷ []
refusals S c s (Service.GetEvent None) = (true, Status.Id) ∷ []
refusals S c s (Service.GetEvent (Some t)) =
    (not (is_extended S t), Status.Access) ∷ (is_suspended s t, Status.State) ∷ []
refusals S c s (Service.WaitEvent m) =
    (by_routine c, Status.CallLevel) ∷ (is_basic_caller S c, Status.Access) ∷ (holds_any c, Status.Resource) ∷ []
refusals S c s (Service.SetRelAlarm None increment cycle) = (true, Status.Id) ∷ []
refusals S c s (Service.SetRelAlarm (Some a) increment cycle) =
    (in_use s a, Status.State)
    ∷ (increment == 0 || nat_lt (counter_of S a).max_allowed_value increment || is_bad_cycle (counter_of S a) cycle, Status.Value)
    ∷ []
refusals S c s (Service.SetAbsAlarm None start cycle) = (true, Status.Id) ∷ []
refusals S c s (Service.SetAbsAlarm (Some a) start cycle) =
    (in_use s a, Status.State)
    ∷ (nat_lt (counter_of S a).max_allowed_value start || is_bad_cycle (counter_of S a) cycle, Status.Value)
    ∷ []
refusals S c s (Service.CancelAlarm None) = (true, Status.Id) ∷ []
refusals S c s (Service.CancelAlarm (Some a)) = (not (in_use s a), Status.NoFunc) ∷ []
refusals S c s (Service.GetAlarm None) = (true, Status.Id) ∷ []
refusals S c s (Service.GetAlarm (Some a)) = (not (in_use s a), Status.NoFunc) ∷ []
refusals S c s (Service.GetAlarmBase None) = (true, Status.Id) ∷ []
refusals S c s (Service.GetAlarmBase (Some a)) = []

-- the first that applies
abbrev pub first_refusal : List (Bool × Status) → Option Status
first_refusal [] = None
first_refusal (r ∷ rs) = if r.0 then Some r.1 else first_refusal rs

-- ---- results at status 0

abbrev pub invalid_task : ℕ
invalid_task = 4294967295

-- the running task's number
abbrev pub running_task : Option JobId → ℕ
running_task None = invalid_task
running_task (Some r) = r.task

abbrev pub state_number : TaskState → ℕ
state_number TaskState.Running = 0
state_number TaskState.Waiting = 1
state_number TaskState.Ready = 2
state_number TaskState.Suspended = 3

-- the state of a task
abbrev pub task_state : State → ℕ → TaskState
task_state s t =
    if running_task s.running == t then TaskState.Running
    else (if list_any waits (jobs_of t s.jobs) then TaskState.Waiting
    else (if is_suspended s t then TaskState.Suspended else TaskState.Ready))

-- how long an alarm still runs
abbrev pub remaining : ℕ → Option Expiry → ℕ
remaining n None = 0
remaining n (Some e) = e.count - n

-- the word of a resource's window, of which RES_SCHEDULER has none
abbrev pub word_of : List (List ℕ) → ResId → ℕ → ℕ
word_of shared (ResId.Declared r) i = shared_word shared r i
word_of shared ResId.Scheduler i = 0

abbrev pub results : System → State → ServiceCall → Results
results S s Service.GetTaskId = Results.One (running_task s.running)
results S s (Service.GetTaskState (Some t)) = Results.One (state_number (task_state s t))
results S s (Service.LoadShared (Some r) i) = Results.One (word_of s.shared r i)
results S s (Service.GetEvent (Some t)) = Results.One (slice_index s.masks t)
results S s (Service.GetAlarm (Some a)) = Results.One (remaining (count S s a) (expiry s a))
results S s (Service.GetAlarmBase (Some a)) =
    Results.Three (counter_of S a).max_allowed_value (counter_of S a).ticks_per_base (counter_of S a).min_cycle
results S s _ = Results.Nothing

-- ---- the state at status 0

-- the caller's job is changed
abbrev pub with_caller : Caller → (Job → Job) → State → State
with_caller (JobCalls j) change s = record s { jobs = with_job j.id change s.jobs }
with_caller _ change s = s

-- the caller's job ends
abbrev pub caller_ended : Caller → State → State
caller_ended (JobCalls j) s = ended j.id s
caller_ended _ s = s

-- whether a job other than the caller's is ready above the caller's static priority
abbrev pub is_outranked : System → Caller → List Job → Bool
is_outranked S (JobCalls j) jobs =
    list_any (λ k. not (same_id k.id j.id) && not (waits k) && nat_lt (static_priority S j) (dynamic_priority S k)) jobs
is_outranked S _ jobs = false

-- a job's internal resource is given up; it gets a resource; it releases the last; it waits
abbrev pub given_up : Job → Job
given_up j = record j { taken = false }

abbrev pub gets : ResId → Job → Job
gets r j = record j { held = j.held ++ r ∷ [] }

abbrev pub releases : Job → Job
releases j = record j { held = without_last j.held }

abbrev pub waiting_for : ℕ → Job → Job
waiting_for m j = record j { waits_for = Some m; taken = false }

-- whether one of two masks' events is in both
abbrev pub meets : ℕ → ℕ → Bool
meets m n = not (bit_and m n == 0)

abbrev pub is_met : ℕ → Option ℕ → Bool
is_met set None = false
is_met set (Some m) = meets m set

-- a job that waits for one of the set events is released
abbrev pub released_by : ℕ → List Job → State → State
released_by set [] s = s
released_by set (j ∷ js) s = if is_met set j.waits_for then released j.id s else s

-- a task's events gain a mask
abbrev pub with_events : ℕ → ℕ → State → State
with_events t m s = record s { masks = slice_set s.masks t m }

abbrev pub event_set : ℕ → ℕ → State → State
event_set t m s =
    let set = bit_or (slice_index s.masks t) m in
    released_by set (jobs_of t s.jobs) (with_events t set s)

-- the caller's events lose a mask
abbrev pub events_cleared : Caller → ℕ → State → State
events_cleared (JobCalls j) m s =
    let set = slice_index s.masks j.id.task in
    with_events j.id.task (bit_xor set (bit_and set m)) s
events_cleared _ m s = s

-- where none of the events is set, the caller waits
abbrev pub event_awaited : Caller → ℕ → State → State
event_awaited (JobCalls j) m s =
    if meets m (slice_index s.masks j.id.task) then s
    else record s { jobs = with_job j.id (waiting_for m) s.jobs }
event_awaited _ m s = s

-- the windows of resources, of which one gets a word
abbrev pub word_stored : ResId → ℕ → ℕ → List (List ℕ) → List (List ℕ)
word_stored (ResId.Declared r) i v shared = with_shared shared r i v
word_stored ResId.Scheduler i v shared = shared

abbrev pub effect : System → Caller → State → ServiceCall → State
effect S c s (Service.ActivateTask (Some t)) = activated S t s
effect S c s Service.TerminateTask = caller_ended c s
effect S c s (Service.ChainTask (Some t)) = activated S t (caller_ended c s)
effect S c s Service.Schedule = if is_outranked S c s.jobs then with_caller c given_up s else s
effect S c s (Service.GetResource (Some r)) = with_caller c (gets r) s
effect S c s (Service.ReleaseResource (Some r)) = with_caller c releases s
effect S c s (Service.StoreShared (Some r) i v) = record s { shared = word_stored r i v s.shared }
effect S c s (Service.SetEvent (Some t) m) = event_set t m s
effect S c s (Service.ClearEvent m) = events_cleared c m s
effect S c s (Service.WaitEvent m) = event_awaited c m s
effect S c s (Service.SetRelAlarm (Some a) increment cycle) =
    with_alarm s a (Some (record { count = count S s a + increment; cycle = cycle }))
effect S c s (Service.SetAbsAlarm (Some a) start cycle) =
    with_alarm s a (Some (record { count = next_count (counter_of S a) (count S s a) start; cycle = cycle }))
effect S c s (Service.CancelAlarm (Some a)) = with_alarm s a None
effect S c s _ = s

-- ---- the service

-- a service changes jobs, masks, alarms and shared words, and nothing else of the state
abbrev pub with_objects_of : State → State → State
with_objects_of s e = record s { jobs = e.jobs; made = e.made; masks = e.masks; alarms = e.alarms; shared = e.shared }

abbrev pub answer : Option Status → Status
answer None = Status.Ok
answer (Some refusal) = refusal

abbrev pub results_told : System → State → ServiceCall → Option Status → Results
results_told S s call None = results S s call
results_told S s call (Some refusal) = Results.Nothing

abbrev pub changed : System → Caller → State → ServiceCall → Option Status → State
changed S c s call None = effect S c s call
changed S c s call (Some refusal) = s

-- a refusal changes nothing; else the results and the state are the service's
abbrev pub reply_to : System → Caller → State → ServiceCall → Option Status → Reply
reply_to S c s call refusal =
    record {
      status = answer refusal;
      results = results_told S s call refusal;
      state = with_objects_of s (changed S c s call refusal);
    }

-- a service called by an alarm, or at boot: interrupts being off is no refusal
unfoldable pub unasked_service : System → Caller → State → ServiceCall → Reply
unasked_service S c s call = reply_to S c s call (first_refusal (refusals S c s call))

-- a service called by a job or a routine: interrupts being off is the first refusal
unfoldable pub service : System → Caller → State → ServiceCall → Reply
service S c s call =
    reply_to S c s call (first_refusal ((interrupts_off s, Status.SysDisabled) ∷ refusals S c s call))

-- the state after a service without a status
abbrev pub controlled : Control ℕ → State → State
controlled Control.DisableAllInterrupts s = record s { disabled = true }
controlled Control.EnableAllInterrupts s = record s { disabled = false }
controlled Control.SuspendAllInterrupts s = record s { suspended_all = s.suspended_all + 1 }
controlled Control.ResumeAllInterrupts s = record s { suspended_all = s.suspended_all - 1 }
controlled Control.SuspendOsInterrupts s = record s { suspended_os = s.suspended_os + 1 }
controlled Control.ResumeOsInterrupts s = record s { suspended_os = s.suspended_os - 1 }
controlled (Control.ShutdownOs n) s = record s { over = true }
controlled Control.ReturnFromInterrupt s =
    record s { active = None; disabled = false; suspended_all = 0; suspended_os = 0 }
