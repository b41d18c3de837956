-- What the kernel does to the stamps of all tasks' jobs in a tick, over what is kept of a state.
use Rattle.std.specs.Prelude.{ℕ, Bool, false, not, ◌&&◌, ◌==◌, nat_lt, if◌then◌else◌, List, [], ◌∷◌, ◌++◌, Option, Some, None, is_some, length, slice_index_or, slice_set, ◌≡◌}
use Rattle.std.specs.Option.{option_map}
use Rattle.osek_base.specs.declared.task.Action.{Action}
use Rattle.osek_base.specs.declared.ids.Owner.{Owner}
use Rattle.osek_base.specs.declared.instr.Instr.{Instr}
use Rattle.osek_base.specs.declared.instr.Service.{Service}
use Rattle.osek_base.specs.System.{System, alarm, instruction_at}
use Rattle.osek_base.specs.State.{State}
use Rattle.osek_base.specs.Alarm.{due_alarms, alarms_advanced}
use Rattle.law_kept.specs.Kept.{Kept}
use Rattle.law_kept.specs.Moves.{contender, rescheduled}
use Rattle.law_kept.specs.KeptService.{KeptCaller, ByTask, ByRoutine, ByNobody, bare, caller_in}
use Rattle.law_kept.specs.KeptTick.{alarm_acts_in, alarm_phase_in, arrival_phase_in, execute_phase_in}
use Rattle.kernel_stamps.specs.Stamps.{stamp_oldest, spent_oldest, without_oldest}
use Rattle.law_blockers.specs.Stamps.{Stamps, listed}

-- of each task by number the stamps of its jobs, oldest first
abbrev pub StampLists : Type 0
StampLists = List (List (Option ℕ))

abbrev pub stamps_at : StampLists → ℕ → List (Option ℕ)
stamps_at xs t = slice_index_or xs t []

-- the stamps of one task are changed
abbrev pub changed_list : ℕ → (List (Option ℕ) → List (Option ℕ)) → StampLists → StampLists
changed_list t f xs = slice_set xs t (f (stamps_at xs t))

-- ---- a task is looked at before and after something

abbrev pub task_waits : Kept → ℕ → Bool
task_waits o t = is_some (o.slots t).waits_for

-- a task that now has so many jobs got one more, or its job was released, or neither
abbrev pub restamped : ℕ → ℕ → Bool → Bool → List (Option ℕ) → List (Option ℕ)
restamped u count waited waits list =
    if nat_lt (length list) count then list ++ Some u ∷ [] else (if waited && not waits then stamp_oldest u list else list)

abbrev pub restamped_at : ℕ → ℕ → Kept → Kept → StampLists → StampLists
restamped_at u t old new xs = changed_list t (restamped u (new.slots t).count (task_waits old t) (task_waits new t)) xs

abbrev pub restamped_if : ℕ → Option ℕ → Kept → Kept → StampLists → StampLists
restamped_if u None old new xs = xs
restamped_if u (Some t) old new xs = restamped_at u t old new xs

-- ---- reschedule

abbrev pub is_task : ℕ → Option ℕ → Bool
is_task t None = false
is_task t (Some v) = v == t

abbrev pub preempted_by : ℕ → Option ℕ → Option ℕ → StampLists → StampLists
preempted_by u None now xs = xs
preempted_by u (Some t) now xs = if is_task t now then xs else changed_list t (stamp_oldest u) xs

-- the running job, where it neither ended nor waits, is ready again if it runs no more
abbrev pub preempted : ℕ → Kept → Kept → StampLists → StampLists
preempted u old new xs = preempted_by u (contender old) new.running xs

-- ---- phases 1 to 4 of a tick

-- the task on which an alarm acts
abbrev pub acting_task : Action → ℕ
acting_task (Action.ActivateTask t) = t
acting_task (Action.SetEvent t m) = t

abbrev pub alarm_restamped : System → ℕ → ℕ → Kept → StampLists → StampLists
alarm_restamped S u a o xs = restamped_at u (acting_task (alarm S a).action) o (alarm_acts_in S a o).state xs

abbrev pub alarms_restamped : System → ℕ → List ℕ → Kept → StampLists → StampLists
alarms_restamped S u [] o xs = xs
alarms_restamped S u (a ∷ rest) o xs = alarms_restamped S u rest (alarm_acts_in S a o).state (alarm_restamped S u a o xs)

abbrev pub alarm_phase_restamped : System → ℕ → Kept → StampLists → StampLists
alarm_phase_restamped S u o xs = alarms_restamped S u (due_alarms S (bare o)) (record o { alarms = alarms_advanced S (bare o) }) xs

abbrev pub reschedule_restamped : System → ℕ → Kept → StampLists → StampLists
reschedule_restamped S u o xs = preempted u o (rescheduled S o).state xs

abbrev pub before_restamped : System → ℕ → List ℕ → Kept → StampLists → StampLists
before_restamped S u arrived o xs =
    reschedule_restamped S u (arrival_phase_in arrived (alarm_phase_in S o).state) (alarm_phase_restamped S u o xs)

-- ---- phases 5 and 6

-- the oldest job of the task that executes has no stamp any more
abbrev pub spent_of : KeptCaller → StampLists → StampLists
spent_of (ByTask t) xs = changed_list t spent_oldest xs
spent_of ByRoutine xs = xs
spent_of ByNobody xs = xs

-- the instruction that is executed
abbrev pub instr_in : System → KeptCaller → Kept → Option Instr
instr_in S (ByTask t) o = Some (instruction_at S (Owner.Task t) (o.slots t).context.place)
instr_in S ByRoutine o = option_map (λ a. instruction_at S (Owner.Routine a.routine) a.context.place) o.active
instr_in S ByNobody o = None

-- the task on which it acts
abbrev pub named_by : Instr → Option ℕ
named_by (Instr.Service (Service.ActivateTask t)) = t
named_by (Instr.Service (Service.ChainTask t)) = t
named_by (Instr.Service (Service.SetEvent t m)) = t
named_by _ = None

abbrev pub named_in : Option Instr → Option ℕ
named_in None = None
named_in (Some i) = named_by i

abbrev pub ended_of : Option ℕ → Bool → StampLists → StampLists
ended_of None gone xs = xs
ended_of (Some t) gone xs = if gone then changed_list t without_oldest xs else xs

-- the job of the running task ended
abbrev pub ended_if : Kept → Kept → StampLists → StampLists
ended_if old new xs = ended_of old.running (not old.gone && new.gone) xs

abbrev pub execute_restamped : System → ℕ → Kept → StampLists → StampLists
execute_restamped S u o xs =
    let new = (execute_phase_in S o).state in
    restamped_if u (named_in (instr_in S (caller_in o) o)) o new (ended_if o new (spent_of (caller_in o) xs))

abbrev pub last_restamped : System → ℕ → Kept → StampLists → StampLists
last_restamped S u o xs = if o.over then xs else reschedule_restamped S u o xs

-- from the state in which the instruction of a tick is executed
abbrev pub after_restamped : System → ℕ → Kept → StampLists → StampLists
after_restamped S u o xs = last_restamped S u (execute_phase_in S o).state (execute_restamped S u o xs)

-- ---- what the lists are

-- those of a state's jobs
pub record AreListed (S : System) (xs : StampLists) (p : Stamps) (s : State) : Type 0 where
  pub count : length xs ≡ length S.tasks
  pub lists : (t : ℕ) → stamps_at xs t ≡ listed p t s.jobs
