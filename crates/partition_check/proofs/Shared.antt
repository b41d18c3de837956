-- What the proof of isolation is made of: the upper core beside its system, states in two layers, and equal lines.
use Rattle.std.proofs.Common.{◌∙◌, ap, sym}
use Rattle.std.specs.Prelude.{ℕ, ◌≡◌, ◌<◌, ◌≤◌, Bool, true, false, nat_lt, List, map, Option, Some, None, length, slice_get}
use Rattle.std.specs.List.{AllByRecursion}
use Rattle.osek_base.specs.declared.limits.TheConstants.{MAX_TASKS}
use Rattle.osek_base.specs.declared.ids.ResId.{ResId}
use Rattle.osek_base.specs.declared.ids.Owner.{Owner}
use Rattle.osek_base.specs.Types.{ServiceCall}
use Rattle.osek_base.specs.declared.instr.Instr.{Instr}
use Rattle.osek_base.specs.declared.trace_event.TraceEvent.{TraceEvent}
use Rattle.osek_base.specs.Lists.{same_resource}
use Rattle.osek_base.specs.Names.{name_at}
use Rattle.osek_base.specs.System.{System, task, alarm, counter_of, lists_resource, program}
use Rattle.osek_base.specs.Ceiling.{ceiling, internal_ceiling}
use Rattle.osek_base.specs.State.{Job, JobId, State, interrupts_off}
use Rattle.osek_base.specs.Service.{Caller, JobCalls, RoutineCalls, NobodyCalls, Reply}
use Rattle.osek_base.specs.Text.{line}
use Rattle.osek_base.specs.Upper.{Object, TheTask, TheResource, TheAlarm, is_upper_task, is_upper_alarm, service_names}
use Rattle.osek_base.specs.Separable.{names_scheduler, names_upper, names_lower, asks_task_id}
use Rattle.osek_base.specs.Agree.{rank, is_upper_declared, renumbered, renumbered_resource, upper_task, upper_resources, upper_alarms, upper_core}
use Rattle.osek_base.specs.View.{view_records, upper_standard}
use Rattle.partition_check.proofs.UpperState.{up, up_job, is_upper_id, is_upper_job, upper_count}

-- ---- resources as seen from above

-- an upper resource, or RES_SCHEDULER
abbrev pub is_visible : System → ℕ → ResId → Bool
is_visible S p (ResId.Declared r) = is_upper_declared S p r
is_visible S p ResId.Scheduler = true

-- ---- the upper core beside its system

-- what the upper core has of its system, at the new numbers
pub record IsCounterpart (S : System) (p : ℕ) : Type 0 where
  -- the upper tasks are those of the first numbers
  pub within : upper_count S p ≤ length S.tasks
  pub few : upper_count S p ≤ MAX_TASKS
  pub split : (t : ℕ) → t < length S.tasks → is_upper_task S p t ≡ nat_lt t (upper_count S p)
  pub task_count : length (upper_core S p).tasks ≡ upper_count S p
  pub tasks : (t : ℕ) → t < upper_count S p → task (upper_core S p) t ≡ upper_task S p t
  pub task_names : (t : ℕ) → t < upper_count S p → name_at (upper_core S p).names.tasks t ≡ name_at S.names.tasks t
  -- an upper task has its priorities
  pub internal : (t : ℕ) → t < upper_count S p → internal_ceiling (upper_core S p) t ≡ internal_ceiling S t
  pub ceilings : (r : ResId) → 0 < upper_count S p → is_visible S p r ≡ true
      → ceiling (upper_core S p) (renumbered_resource S p r) ≡ ceiling S r
  -- resources are told apart and listed as before
  pub same : (q r : ResId) → is_visible S p q ≡ true → is_visible S p r ≡ true
      → same_resource (renumbered_resource S p q) (renumbered_resource S p r) ≡ same_resource q r
  pub lists : (t r : ℕ) → t < upper_count S p → is_upper_declared S p r ≡ true
      → lists_resource (upper_core S p) t (rank (is_upper_declared S p) r) ≡ lists_resource S t r
  pub resource_names : (r : ℕ) → r < length S.resources → is_upper_declared S p r ≡ true
      → name_at (upper_core S p).names.resources (rank (is_upper_declared S p) r) ≡ name_at S.names.resources r
  -- upper resources stand at their new numbers, and those that a job may get are the same
  pub resource_count : length (upper_core S p).resources ≡ length (upper_resources S p)
  pub resource_at : (r : ℕ) → r < length S.resources → is_upper_declared S p r ≡ true
      → slice_get (upper_resources S p) (rank (is_upper_declared S p) r) ≡ Some r
  pub standard : upper_standard (upper_core S p) p ≡ map (rank (is_upper_declared S p)) (upper_standard S p)
  -- routines have their programs
  pub routine_programs : (i : ℕ) → program (upper_core S p) (Owner.Routine i) ≡ map (renumbered S p) (program S (Owner.Routine i))
  -- upper alarms act as before, each by a counter like its own
  pub alarm_count : length (upper_core S p).alarms ≡ length (upper_alarms S p)
  pub alarm_at : (a : ℕ) → a < length S.alarms → is_upper_alarm S p a ≡ true
      → slice_get (upper_alarms S p) (rank (is_upper_alarm S p) a) ≡ Some a
  pub actions : (a : ℕ) → a < length S.alarms → is_upper_alarm S p a ≡ true
      → (alarm (upper_core S p) (rank (is_upper_alarm S p) a)).action ≡ (alarm S a).action
  pub counters : (a : ℕ) → a < length S.alarms → is_upper_alarm S p a ≡ true
      → counter_of (upper_core S p) (rank (is_upper_alarm S p) a) ≡ counter_of S a
  pub alarm_names : (a : ℕ) → a < length S.alarms → is_upper_alarm S p a ≡ true
      → name_at (upper_core S p).names.alarms (rank (is_upper_alarm S p) a) ≡ name_at S.names.alarms a

-- the static facts of lower tasks: what they list and take is below p
pub record IsLow (S : System) (p : ℕ) : Type 0 where
  pub listed : (t r : ℕ) → t < length S.tasks → is_upper_task S p t ≡ false → lists_resource S t r ≡ true → is_upper_declared S p r ≡ false
  pub internal : (t c : ℕ) → t < length S.tasks → is_upper_task S p t ≡ false → internal_ceiling S t ≡ Some c → c < p

-- ---- states

-- a job is of a task of the system, and holds what is visible from above exactly where it is upper
pub record IsLayeredJob (S : System) (p : ℕ) (j : Job) : Type 0 where
  pub task : j.id.task < length S.tasks
  pub held : AllByRecursion (λ r. is_visible S p r ≡ is_upper_job S p j) j.held

-- a state in two layers: what is kept from tick to tick, phase to phase
pub record IsLayered (S : System) (p : ℕ) (s : State) : Type 0 where
  pub made : length s.made ≡ length S.tasks
  pub masks : length s.masks ≡ length S.tasks
  pub alarms : length s.alarms ≡ length S.alarms
  pub shared : length s.shared ≡ length S.resources
  pub jobs : AllByRecursion (IsLayeredJob S p) s.jobs
  pub running : (id : JobId) → s.running ≡ Some id → id.task < length S.tasks
  -- while a lower job runs, interrupts are on or a routine is active
  pub quiet : (id : JobId) → s.running ≡ Some id → is_upper_id S p id ≡ false → s.active ≡ None → interrupts_off s ≡ false

-- what the layers see of a state besides its jobs stands in another
abbrev pub HasSameLists : State → State → Type 0
HasSameLists s e =
    (e.made ≡ s.made) × (e.masks ≡ s.masks) × (e.alarms ≡ s.alarms) × (e.shared ≡ s.shared) × (e.running ≡ s.running)

-- so it is in the same layers by its jobs, and by what is quiet
pub as_layered : (S : System) (p : ℕ) (s e : State) → HasSameLists s e → AllByRecursion (IsLayeredJob S p) e.jobs
    → ((id : JobId) → s.running ≡ Some id → is_upper_id S p id ≡ false → e.active ≡ None → interrupts_off e ≡ false)
    → IsLayered S p s → IsLayered S p e
as_layered S p s e same jobs quiet layered = record {
  made = ap length same.0 ∙ layered.made;
  masks = ap length same.1 ∙ layered.masks;
  alarms = ap length same.2 ∙ layered.alarms;
  shared = ap length same.3 ∙ layered.shared;
  jobs = jobs;
  running = λ id h. layered.running id (sym same.4 ∙ h);
  quiet = λ id h. quiet id (sym same.4 ∙ h);
}

-- ---- callers and calls

abbrev pub up_caller : System → ℕ → Caller → Caller
up_caller S p (JobCalls j) = JobCalls (up_job S p j)
up_caller S p (RoutineCalls a) = RoutineCalls a
up_caller S p NobodyCalls = NobodyCalls

-- an upper job that runs, a routine, or an alarm
abbrev pub IsUpperCaller : System → ℕ → State → Caller → Type 0
IsUpperCaller S p s (JobCalls j) = IsLayeredJob S p j × (is_upper_job S p j ≡ true) × (s.running ≡ Some j.id)
IsUpperCaller S p s (RoutineCalls a) = Unit {0}
IsUpperCaller S p s NobodyCalls = Unit {0}

-- a lower job
abbrev pub IsLowerCaller : System → ℕ → Caller → Type 0
IsLowerCaller S p (JobCalls j) = IsLayeredJob S p j × (is_upper_job S p j ≡ false)
IsLowerCaller S p (RoutineCalls a) = ⊥
IsLowerCaller S p NobodyCalls = ⊥

-- what an instruction names exists
abbrev pub IsKnownResource : System → ResId → Type 0
IsKnownResource S (ResId.Declared r) = r < length S.resources
IsKnownResource S ResId.Scheduler = Unit {0}

abbrev pub IsKnownObject : System → Option Object → Type 0
IsKnownObject S None = Unit {0}
IsKnownObject S (Some (TheTask t)) = t < length S.tasks
IsKnownObject S (Some (TheResource r)) = IsKnownResource S r
IsKnownObject S (Some (TheAlarm a)) = a < length S.alarms

-- a call by the upper part: it names nothing lower, and a routine doesn't ask which task runs
pub record IsUpperCall (S : System) (p : ℕ) (c : Caller) (call : ServiceCall) : Type 0 where
  pub known : IsKnownObject S (service_names call)
  pub names : names_lower S p (Instr.Service call) ≡ false
  pub by_routine : (a : _) → c ≡ RoutineCalls a → asks_task_id (Instr.Service call) ≡ false

-- a call by the lower part: it names nothing upper
pub record IsLowerCall (S : System) (p : ℕ) (call : ServiceCall) : Type 0 where
  pub known : IsKnownObject S (service_names call)
  pub names : names_upper S p (Instr.Service call) ≡ false
  pub no_scheduler : names_scheduler (Instr.Service call) ≡ false

-- one answer in both systems, and the state after it
pub record IsSameReply (S : System) (p : ℕ) (mine theirs : Reply) : Type 0 where
  pub status : theirs.status ≡ mine.status
  pub results : theirs.results ≡ mine.results
  pub state : theirs.state ≡ up S p mine.state

-- ---- records

-- the records that the upper core makes show the lines that the system's show
abbrev pub SameLines : System → ℕ → List TraceEvent → List TraceEvent → Type 0
SameLines S p mine theirs =
    (n : ℕ) → map (line S.names n) (view_records S p mine) ≡ map (line (upper_core S p).names n) (view_records (upper_core S p) p theirs)
