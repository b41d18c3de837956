-- OSEK/VDX OS: resource management, priority inversion and deadlock. Which jobs block a job that became ready.
use Rattle.std.specs.Prelude.{ℕ, zero, suc, Bool, false, not, ◌&&◌, ◌||◌, nat_lt, if◌then◌else◌, List, [], ◌∷◌, drop, Option, Some, None, is_some, slice_get, take_while}
use Rattle.std.specs.List.{filter, filter_map}
use Rattle.osek_base.specs.System.{System}
use Rattle.osek_base.specs.State.{Job, JobId, State, still, waits, job_of, same_id}
use Rattle.osek_base.specs.Priority.{static_priority}
use Rattle.osek_base.specs.Service.{Caller, JobCalls, RoutineCalls, NobodyCalls}
use Rattle.osek_base.specs.Tick.{Step, executor}

-- ---- becoming ready

abbrev pub is_waiting_job : Option Job → Bool
is_waiting_job None = false
is_waiting_job (Some j) = waits j

-- whether the job of that id waits
abbrev pub waits_in : State → JobId → Bool
waits_in s n = is_waiting_job (job_of n s.jobs)

-- whether there is a job of that id
abbrev pub is_in_state : State → JobId → Bool
is_in_state s n = is_some (job_of n s.jobs)

abbrev pub is_job : Option JobId → JobId → Bool
is_job None n = false
is_job (Some r) n = same_id r n

-- whether it is the running job
abbrev pub runs_in : State → JobId → Bool
runs_in s n = is_job s.running n

-- between two states a job became ready: it was made, or released, or taken out of running though it neither ended nor waits
abbrev pub becomes_ready : State → State → JobId → Bool
becomes_ready old new n =
    is_in_state new n && not (waits_in new n)
    && (not (is_in_state old n) || waits_in old n || (runs_in old n && not (runs_in new n)))

abbrev pub becomes_ready_in : State → Option Step → JobId → Bool
becomes_ready_in old None n = false
becomes_ready_in old (Some step) n = becomes_ready old step.executing n

abbrev pub becomes_ready_after : Option Step → JobId → Bool
becomes_ready_after None n = false
becomes_ready_after (Some step) n = becomes_ready step.executing step.after n

abbrev pub state_after : State → Option Step → State
state_after booted None = booted
state_after booted (Some step) = step.after

-- whether a job becomes ready before the instruction of tick u and not before the instruction of the tick before
abbrev pub is_ready_from : System → State → List Step → ℕ → JobId → Bool
is_ready_from S booted steps zero n =
    becomes_ready (still S) booted n || becomes_ready_in booted (slice_get steps 0) n
is_ready_from S booted steps (suc u) n =
    becomes_ready_after (slice_get steps u) n
    || becomes_ready_in (state_after booted (slice_get steps u)) (slice_get steps (suc u)) n

-- ---- blockers

abbrev pub calling_job : Caller → Option Job
calling_job (JobCalls j) = Some j
calling_job (RoutineCalls a) = None
calling_job NobodyCalls = None

-- the job that executes an instruction, if a job does
abbrev pub executing_job : Step → Option Job
executing_job step = calling_job (executor step.executing)

abbrev pub is_number : JobId → Option Job → Bool
is_number n None = false
is_number n (Some j) = same_id j.id n

-- whether the job of that id executes
abbrev pub executes : JobId → Step → Bool
executes n step = is_number n (executing_job step)

abbrev pub number_below : System → Option Job → Option Job → Option JobId
number_below S None other = None
number_below S (Some k) None = None
number_below S (Some k) (Some j) = if nat_lt (static_priority S k) (static_priority S j) then Some k.id else None

-- the id of the executing job, where its static priority is below that of the job
abbrev pub lower_executor : System → JobId → Step → Option JobId
lower_executor S n step = number_below S (executing_job step) (job_of n step.executing.jobs)

-- each id once
abbrev pub distinct : List JobId → List JobId
distinct [] = []
distinct (n ∷ ns) = n ∷ filter (λ m. not (same_id m n)) (distinct ns)

-- the jobs of lower static priority that execute an instruction from tick u on and before the job's next instruction
abbrev pub blockers : System → List Step → ℕ → JobId → List JobId
blockers S steps u n =
    distinct (filter_map (lower_executor S n) (take_while (λ step. not (executes n step)) (drop u steps)))
