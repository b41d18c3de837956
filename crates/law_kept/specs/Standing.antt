-- OSEK/VDX OS: task management. What holds of each state of a run, between the phases of a tick too, and what each step
-- of a kernel over queues keeps of it.
use Rattle.std.specs.Prelude.{ℕ, zero, suc, [], ◌≡◌, ◌<◌, ◌≤◌, ◌+◌, Bool, false, true, not, ◌&&◌, List, Option, Some, None, is_some, IfSome, length, slice_set}
use Rattle.std.specs.Option.{option_map}
use Rattle.std.specs.List.{AllByRecursion}
use Rattle.osek_base.specs.declared.ids.Owner.{Owner}
use Rattle.osek_base.specs.declared.arrivals.Arrival.{Arrival}
use Rattle.osek_base.specs.declared.instr.Service.{Service}
use Rattle.osek_base.specs.Types.{ServiceCall}
use Rattle.osek_base.specs.declared.instr.Control.{Control}
use Rattle.osek_base.specs.System.{System, activation_of}
use Rattle.osek_base.specs.Ceiling.{top_priority}
use Rattle.osek_base.specs.Proper.{IsProper}
use Rattle.osek_base.specs.Instruction.{Context}
use Rattle.osek_base.specs.State.{State, JobId, Active, still, interrupts_off, with_job}
use Rattle.osek_base.specs.Alarm.{alarms_advanced}
use Rattle.osek_base.specs.Reschedule.{reschedule}
use Rattle.osek_base.specs.Service.{NobodyCalls, service, unasked_service, controlled}
use Rattle.osek_base.specs.Tick.{executor, job_moved, moved, start_phase, before_execution}
use Rattle.osek_base.specs.Trace.{starting_alarms, run}
use Rattle.law_runs.proofs.Known.{ActivatesKnown}
use Rattle.law_runs.proofs.Single.{IsSingle}
use Rattle.law_runs.proofs.Ranked.{AreRanked}
use Rattle.law_runs.proofs.Formed.{HasActive, HasForm, IsPlaced}
use Rattle.ready_queues.specs.Queues.{total}
use Rattle.law_kept.specs.Kept.{Kept, Slot, kept}
use Rattle.ready_queues.specs.QueueMoves.{highest}
use Rattle.law_kept.specs.Moves.{contender, dynamic_in, may_dispatch_in, rescheduled, kept_recorded}
use Rattle.law_kept.specs.KeptService.{ByNobody, bare, caller_in, is_above, is_full_in, kept_reply, moved_in, service_in, unasked_in}
use Rattle.law_kept.specs.KeptTick.{before_execution_in, controlled_in, start_phase_in, still_in}

-- what holds of each state of a run, between the phases of a tick too
pub record IsStanding (S : System) (s : State) : Type 0 where
  pub proper : IsProper S
  pub single : IsSingle S s
  pub ranked : AreRanked S s.running s.jobs
  pub form : HasForm S s

-- ---- where a service may be called

-- whether the running task's job waits, unless it has ended
abbrev pub waits_in : Option ℕ → Bool → (ℕ → Slot) → Bool
waits_in None gone slots = false
waits_in (Some t) gone slots = not gone && is_some (slots t).waits_for

abbrev pub runner_waits : Kept → Bool
runner_waits o = waits_in o.running o.gone o.slots

-- whether a ready task is above the running task's dynamic priority
abbrev pub is_overtaken_by : System → Option ℕ → Kept → Bool
is_overtaken_by S None o = false
is_overtaken_by S (Some t) o = is_above (dynamic_in S t (o.slots t)) (highest (suc (top_priority S)) o.queues)

abbrev pub is_overtaken : System → Kept → Bool
is_overtaken S o = is_overtaken_by S (contender o) o

-- where interrupts are on, the running job doesn't wait, and where no routine is active it is the one that is to run
pub record MayServe (S : System) (o : Kept) : Type 0 where
  pub ready : interrupts_off (bare o) ≡ false → runner_waits o ≡ false
  pub chosen : may_dispatch_in o ≡ true → is_overtaken S o ≡ false

-- ---- what a kernel may rely on

-- a number for each task below n, added up
abbrev pub sum_to : ℕ → (ℕ → ℕ) → ℕ
sum_to zero f = 0
sum_to (suc n) f = sum_to n f + f n

-- how many jobs there may be at once
abbrev pub room_for : System → ℕ
room_for S = sum_to (length S.tasks) (activation_of S)

-- a running task that hasn't ended has a job, at a place of its program
pub record IsRunnerPlaced (S : System) (o : Kept) (t : ℕ) : Type 0 where
  pub some : 0 < (o.slots t).count
  pub placed : IsPlaced S (Owner.Task t) (o.slots t).context

-- the tasks in queues and the running one exist, no task has too many jobs, and the queues have room for a job that
-- stands in none of them: a new one, the running one, one that waits
pub record Fits (S : System) (o : Kept) : Type 0 where
  pub running : IfSome o.running (λ t. t < length S.tasks)
  pub known : (l : ℕ) → AllByRecursion (λ t. t < length S.tasks) (o.queues l)
  -- no task is ready above the highest priority
  pub high : (l : ℕ) → top_priority S < l → o.queues l ≡ []
  pub counted : (t : ℕ) → (o.slots t).count ≤ activation_of S t
  pub runner : o.gone ≡ false → IfSome o.running (IsRunnerPlaced S o)
  pub active : HasActive S o.active
  pub added : (t : ℕ) → t < length S.tasks → is_full_in S o t ≡ false → total o.queues < room_for S
  pub beside : o.gone ≡ false → is_some o.running ≡ true → total o.queues < room_for S
  pub woken : (t : ℕ) → is_some (o.slots t).waits_for ≡ true → total o.queues < room_for S

-- ---- the laws: what each step keeps

abbrev pub FitsWhereStanding : Type 0
FitsWhereStanding = (S : System) (s : State) → IsStanding S s → Fits S (kept S s)

abbrev pub StillStands : Type 0
StillStands = (S : System) → IsProper S → IsStanding S (still S) × (kept S (still S) ≡ still_in S)

abbrev pub StartedStands : Type 0
StartedStands =
    (S : System) (s : State) (mode : ℕ) → IsStanding S s → IsStanding S (record s { alarms = starting_alarms S mode })

-- ActivateTask and SetEvent by an alarm or at boot
abbrev pub ActivateStands : Type 0
ActivateStands =
    (S : System) (s : State) (t : ℕ) → IsStanding S s → t < length S.tasks
    → IsStanding S (unasked_service S NobodyCalls s (Service.ActivateTask (Some t))).state
    × (kept_reply S (unasked_service S NobodyCalls s (Service.ActivateTask (Some t)))
    ≡ unasked_in S ByNobody (kept S s) (Service.ActivateTask (Some t)))

abbrev pub SetEventStands : Type 0
SetEventStands =
    (S : System) (s : State) (t m : ℕ) → IsStanding S s → t < length S.tasks → runner_waits (kept S s) ≡ false
    → IsStanding S (unasked_service S NobodyCalls s (Service.SetEvent (Some t) m)).state
    × (kept_reply S (unasked_service S NobodyCalls s (Service.SetEvent (Some t) m))
    ≡ unasked_in S ByNobody (kept S s) (Service.SetEvent (Some t) m))

-- a service of whoever executes
abbrev pub ServiceStands : Type 0
ServiceStands =
    (S : System) (s : State) (call : ServiceCall) → IsStanding S s → MayServe S (kept S s) → ActivatesKnown S call
    → IsStanding S (service S (executor s) s call).state
    × (kept_reply S (service S (executor s) s call) ≡ service_in S (caller_in (kept S s)) (kept S s) call)

abbrev pub ControlStands : Type 0
ControlStands =
    (S : System) (s : State) (control : Control ℕ) → IsStanding S s
    → IsStanding S (controlled control s) × (kept S (controlled control s) ≡ controlled_in control (kept S s))

abbrev pub RescheduleStands : Type 0
RescheduleStands =
    (S : System) (s : State) → IsStanding S s
    → IsStanding S (reschedule S s).state × (kept_recorded S (reschedule S s) ≡ rescheduled S (kept S s))

abbrev pub AdvanceStands : Type 0
AdvanceStands =
    (S : System) (s : State) → IsStanding S s
    → IsStanding S (record s { tick = s.tick + 1; alarms = alarms_advanced S (record s { tick = s.tick + 1 }) })

abbrev pub FlagStands : Type 0
FlagStands =
    (S : System) (s : State) (i : ℕ) → IsStanding S s → IsStanding S (record s { pending = slice_set s.pending i true })

abbrev pub StartStands : Type 0
StartStands =
    (S : System) (s : State) → IsStanding S s
    → IsStanding S (start_phase S s) × (kept S (start_phase S s) ≡ start_phase_in S (kept S s))

-- the running job, or the active routine, gets other registers and another place
abbrev pub JobMoveStands : Type 0
JobMoveStands =
    (S : System) (s : State) (n : JobId) (x : Context) → IsStanding S s → s.running ≡ Some n
    → IsPlaced S (Owner.Task n.task) x
    → IsStanding S (record s { jobs = with_job n (job_moved x) s.jobs })
    × (kept S (record s { jobs = with_job n (job_moved x) s.jobs }) ≡ moved_in n.task x (kept S s))

abbrev pub RoutineMoveStands : Type 0
RoutineMoveStands =
    (S : System) (s : State) (x : Context) → IsStanding S s
    → ((a : Active) → s.active ≡ Some a → IsPlaced S (Owner.Routine a.routine) x)
    → IsStanding S (record s { active = option_map (moved x) s.active })

-- ---- the laws: runs

-- the running job doesn't wait between ticks, nor after an alarm's action where it didn't before
abbrev pub ReadyBetweenTicks : Type 0
ReadyBetweenTicks =
    (S : System) (mode : ℕ) (arrivals : List Arrival) (n : ℕ) → IsProper S
    → runner_waits (kept S (run S mode arrivals n).state) ≡ false

abbrev pub ActionKeepsReady : Type 0
ActionKeepsReady =
    (S : System) (o : Kept) (t m : ℕ) → runner_waits o ≡ false
    → (runner_waits (unasked_in S ByNobody o (Service.ActivateTask (Some t))).state ≡ false)
    × (runner_waits (unasked_in S ByNobody o (Service.SetEvent (Some t) m)).state ≡ false)

-- phases 1 to 4 of a tick
abbrev pub BeforeAlike : Type 0
BeforeAlike =
    (S : System) (mode : ℕ) (arrivals : List Arrival) (n : ℕ) (arrived : List ℕ) → IsProper S
    → kept_recorded S (before_execution S arrived (run S mode arrivals n).state)
    ≡ before_execution_in S arrived (kept S (run S mode arrivals n).state)

-- a service may be called where the instruction of a tick is executed, and nesting counts are no greater than the tick
abbrev pub ServesInRuns : Type 0
ServesInRuns =
    (S : System) (mode : ℕ) (arrivals : List Arrival) (n : ℕ) (arrived : List ℕ) → IsProper S
    → MayServe S (kept S (before_execution S arrived (run S mode arrivals n).state).state)

abbrev pub FewNested : Type 0
FewNested =
    (S : System) (mode : ℕ) (arrivals : List Arrival) (n : ℕ) (arrived : List ℕ) → IsProper S
    → ((before_execution S arrived (run S mode arrivals n).state).state.suspended_all ≤ n)
    × ((before_execution S arrived (run S mode arrivals n).state).state.suspended_os ≤ n)
