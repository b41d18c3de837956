-- OSEK/VDX OS: specification of operating system services, over what the code keeps.
use Rattle.std.specs.Prelude.{ℕ, suc, Bool, true, false, not, ◌&&◌, ◌==◌, nat_le, nat_lt, if◌then◌else◌, List, [], ◌∷◌, ◌++◌, slice_index, slice_set, bit_and, bit_or, bit_xor, Option, Some, None, is_some, length}
use Rattle.std.specs.List.{list_any}
use Rattle.osek_base.specs.declared.ids.ResId.{ResId}
use Rattle.osek_base.specs.declared.instr.Service.{Service}
use Rattle.osek_base.specs.Types.{ServiceCall}
use Rattle.osek_base.specs.declared.status.Status.{Status}
use Rattle.osek_base.specs.declared.status.TaskState.{TaskState}
use Rattle.osek_base.specs.declared.trace_event.Results.{Results}
use Rattle.osek_base.specs.Lists.{is_empty, last_of, without_last, same_resource, below}
use Rattle.osek_base.specs.System.{System, priority_of, activation_of, is_extended}
use Rattle.osek_base.specs.Ceiling.{ceiling, top_priority}
use Rattle.osek_base.specs.Instruction.{Context}
use Rattle.osek_base.specs.State.{State, interrupts_off}
use Rattle.osek_base.specs.Service.{Caller, JobCalls, RoutineCalls, NobodyCalls, Reply, may_take, is_resource, refusals, first_refusal, results, invalid_task, state_number, is_met, meets, effect, answer, word_stored}
use Rattle.law_kept.specs.Kept.{Kept, Slot, kept}
use Rattle.ready_queues.specs.QueueMoves.{highest}
use Rattle.law_kept.specs.Moves.{slot_changed, ended_in, activated_in, released_in}

-- who calls: the running task, the active routine, or neither
pub data KeptCaller : Type 0 where
  ByTask : ℕ → KeptCaller
  ByRoutine : KeptCaller
  ByNobody : KeptCaller

abbrev pub kept_caller : Caller → KeptCaller
kept_caller (JobCalls j) = ByTask j.id.task
kept_caller (RoutineCalls a) = ByRoutine
kept_caller NobodyCalls = ByNobody

-- a state with no jobs, for what doesn't depend on jobs
abbrev pub bare : Kept → State
bare o =
    record {
      jobs = [];
      made = [];
      running = None;
      active = o.active;
      pending = o.pending;
      disabled = o.disabled;
      suspended_all = o.suspended_all;
      suspended_os = o.suspended_os;
      alarms = o.alarms;
      words = o.words;
      masks = o.masks;
      shared = o.shared;
      tick = o.tick;
      over = o.over;
    }

abbrev pub by_routine_in : KeptCaller → Bool
by_routine_in ByRoutine = true
by_routine_in (ByTask t) = false
by_routine_in ByNobody = false

abbrev pub holds_any_in : Kept → KeptCaller → Bool
holds_any_in o (ByTask t) = not (is_empty (o.slots t).held)
holds_any_in o _ = false

abbrev pub is_own_in : KeptCaller → ℕ → Bool
is_own_in (ByTask u) t = u == t
is_own_in _ t = false

abbrev pub is_basic_in : System → KeptCaller → Bool
is_basic_in S (ByTask t) = not (is_extended S t)
is_basic_in S _ = false

abbrev pub may_take_in : System → KeptCaller → ResId → Bool
may_take_in S (ByTask t) r = may_take S t r
may_take_in S _ r = false

abbrev pub is_above_ceiling_in : System → KeptCaller → ResId → Bool
is_above_ceiling_in S (ByTask t) r = nat_lt (ceiling S r) (priority_of S t)
is_above_ceiling_in S _ r = false

abbrev pub got_last_in : Kept → KeptCaller → ResId → Bool
got_last_in o (ByTask t) r = is_resource (last_of (o.slots t).held) r
got_last_in o _ r = false

-- whether a task's slot holds a resource
abbrev pub holds_in : ResId → Slot → Bool
holds_in r a = list_any (same_resource r) a.held

abbrev pub caller_holds_in : Kept → KeptCaller → ResId → Bool
caller_holds_in o (ByTask t) r = holds_in r (o.slots t)
caller_holds_in o _ r = false

abbrev pub is_full_in : System → Kept → ℕ → Bool
is_full_in S o t = nat_le (activation_of S t) (o.slots t).count

abbrev pub is_suspended_in : Kept → ℕ → Bool
is_suspended_in o t = (o.slots t).count == 0

abbrev pub is_held_in : System → Kept → ResId → Bool
is_held_in S o r = list_any (λ t. holds_in r (o.slots t)) (below (length S.tasks))

-- whether a level is above a priority
abbrev pub is_above : ℕ → Option ℕ → Bool
is_above p None = false
is_above p (Some l) = nat_lt p l

abbrev pub is_outranked_in : System → Kept → KeptCaller → Bool
is_outranked_in S o (ByTask t) = is_above (priority_of S t) (highest (suc (top_priority S)) o.queues)
is_outranked_in S o _ = false

abbrev pub running_number : Option ℕ → ℕ
running_number None = invalid_task
running_number (Some t) = t

abbrev pub task_state_in : Kept → ℕ → TaskState
task_state_in o t =
    if running_number o.running == t then TaskState.Running
    else (if is_some (o.slots t).waits_for then TaskState.Waiting
    else (if is_suspended_in o t then TaskState.Suspended else TaskState.Ready))

abbrev pub refusals_in : System → KeptCaller → Kept → ServiceCall → List (Bool × Status)
refusals_in S d o (Service.ActivateTask (Some t)) = (is_full_in S o t, Status.Limit) ∷ []
refusals_in S d o Service.TerminateTask = (by_routine_in d, Status.CallLevel) ∷ (holds_any_in o d, Status.Resource) ∷ []
refusals_in S d o (Service.ChainTask None) = (by_routine_in d, Status.CallLevel) ∷ (true, Status.Id) ∷ []
refusals_in S d o (Service.ChainTask (Some t)) =
    (by_routine_in d, Status.CallLevel) ∷ (holds_any_in o d, Status.Resource)
    ∷ (not (is_own_in d t) && is_full_in S o t, Status.Limit) ∷ []
refusals_in S d o Service.Schedule = (by_routine_in d, Status.CallLevel) ∷ (holds_any_in o d, Status.Resource) ∷ []
refusals_in S d o (Service.GetResource (Some r)) =
    (by_routine_in d, Status.Access) ∷ (not (may_take_in S d r), Status.Access) ∷ (is_held_in S o r, Status.Access) ∷ []
refusals_in S d o (Service.ReleaseResource (Some r)) =
    (by_routine_in d, Status.Access) ∷ (is_above_ceiling_in S d r, Status.Access)
    ∷ (not (got_last_in o d r), Status.NoFunc) ∷ []
refusals_in S d o (Service.LoadShared (Some r) i) =
    (by_routine_in d, Status.Access) ∷ (same_resource ResId.Scheduler r, Status.Access)
    ∷ (not (caller_holds_in o d r), Status.Access) ∷ []
refusals_in S d o (Service.StoreShared (Some r) i v) =
    (by_routine_in d, Status.Access) ∷ (same_resource ResId.Scheduler r, Status.Access)
    ∷ (not (caller_holds_in o d r), Status.Access) ∷ []
refusals_in S d o (Service.SetEvent (Some t) m) =
    (not (is_extended S t), Status.Access) ∷ (is_suspended_in o t, Status.State) ∷ []
refusals_in S d o (Service.ClearEvent m) = (by_routine_in d, Status.CallLevel) ∷ (is_basic_in S d, Status.Access) ∷ []
refusals_in S d o (Service.GetEvent (Some t)) =
    (not (is_extended S t), Status.Access) ∷ (is_suspended_in o t, Status.State) ∷ []
refusals_in S d o (Service.WaitEvent m) =
    (by_routine_in d, Status.CallLevel) ∷ (is_basic_in S d, Status.Access) ∷ (holds_any_in o d, Status.Resource) ∷ []
refusals_in S d o call = refusals S NobodyCalls (bare o) call

abbrev pub results_in : System → Kept → ServiceCall → Results
results_in S o Service.GetTaskId = Results.One (running_number o.running)
results_in S o (Service.GetTaskState (Some t)) = Results.One (state_number (task_state_in o t))
results_in S o call = results S (bare o) call

-- ---- what a service leaves

abbrev pub with_caller_in : KeptCaller → (Slot → Slot) → Kept → Kept
with_caller_in (ByTask t) g o = slot_changed t g o
with_caller_in _ g o = o

abbrev pub caller_ended_in : KeptCaller → Kept → Kept
caller_ended_in (ByTask t) o = ended_in t o
caller_ended_in _ o = o

abbrev pub slot_given_up : Slot → Slot
slot_given_up a = record a { taken = false }

abbrev pub slot_gets : ResId → Slot → Slot
slot_gets r a = record a { held = a.held ++ r ∷ [] }

abbrev pub slot_releases : Slot → Slot
slot_releases a = record a { held = without_last a.held }

abbrev pub slot_waiting : ℕ → Slot → Slot
slot_waiting m a = record a { waits_for = Some m; taken = false }

abbrev pub with_mask : ℕ → ℕ → Kept → Kept
with_mask t m o = record o { masks = slice_set o.masks t m }

abbrev pub event_set_in : System → ℕ → ℕ → Kept → Kept
event_set_in S t m o =
    let set = bit_or (slice_index o.masks t) m in
    if is_met set (o.slots t).waits_for then released_in S t (with_mask t set o) else with_mask t set o

abbrev pub events_cleared_in : KeptCaller → ℕ → Kept → Kept
events_cleared_in (ByTask t) m o =
    let set = slice_index o.masks t in
    with_mask t (bit_xor set (bit_and set m)) o
events_cleared_in _ m o = o

abbrev pub event_awaited_in : KeptCaller → ℕ → Kept → Kept
event_awaited_in (ByTask t) m o = if meets m (slice_index o.masks t) then o else slot_changed t (slot_waiting m) o
event_awaited_in _ m o = o

abbrev pub effect_in : System → KeptCaller → Kept → ServiceCall → Kept
effect_in S d o (Service.ActivateTask (Some t)) = activated_in S t o
effect_in S d o Service.TerminateTask = caller_ended_in d o
effect_in S d o (Service.ChainTask (Some t)) = activated_in S t (caller_ended_in d o)
effect_in S d o Service.Schedule = if is_outranked_in S o d then with_caller_in d slot_given_up o else o
effect_in S d o (Service.GetResource (Some r)) = with_caller_in d (slot_gets r) o
effect_in S d o (Service.ReleaseResource (Some r)) = with_caller_in d slot_releases o
effect_in S d o (Service.StoreShared (Some r) i v) = record o { shared = word_stored r i v o.shared }
effect_in S d o (Service.SetEvent (Some t) m) = event_set_in S t m o
effect_in S d o (Service.ClearEvent m) = events_cleared_in d m o
effect_in S d o (Service.WaitEvent m) = event_awaited_in d m o
effect_in S d o call = record o { alarms = (effect S NobodyCalls (bare o) call).alarms }

pub record KeptReply : Type 0 where
  pub status : Status
  pub results : Results
  pub state : Kept

abbrev pub changed_in : System → KeptCaller → Kept → ServiceCall → Option Status → Kept
changed_in S d o call None = effect_in S d o call
changed_in S d o call (Some refusal) = o

abbrev pub results_told_in : System → Kept → ServiceCall → Option Status → Results
results_told_in S o call None = results_in S o call
results_told_in S o call (Some refusal) = Results.Nothing

abbrev pub reply_in : System → KeptCaller → Kept → ServiceCall → Option Status → KeptReply
reply_in S d o call refusal =
    record {
      status = answer refusal;
      results = results_told_in S o call refusal;
      state = changed_in S d o call refusal;
    }

unfoldable pub unasked_in : System → KeptCaller → Kept → ServiceCall → KeptReply
unasked_in S d o call = reply_in S d o call (first_refusal (refusals_in S d o call))

unfoldable pub service_in : System → KeptCaller → Kept → ServiceCall → KeptReply
service_in S d o call =
    reply_in S d o call (first_refusal ((interrupts_off (bare o), Status.SysDisabled) ∷ refusals_in S d o call))

abbrev pub kept_reply : System → Reply → KeptReply
kept_reply S r = record { status = r.status; results = r.results; state = kept S r.state }

-- the active routine, else the running task, else nobody
abbrev pub caller_by : Bool → Option ℕ → Bool → KeptCaller
caller_by true running gone = ByRoutine
caller_by false None gone = ByNobody
caller_by false (Some t) gone = if gone then ByNobody else ByTask t

abbrev pub caller_in : Kept → KeptCaller
caller_in o = caller_by (is_some o.active) o.running o.gone

-- the running job goes on, unless it has ended
abbrev pub slot_moved : Context → Slot → Slot
slot_moved x a = record a { context = x }

abbrev pub moved_in : ℕ → Context → Kept → Kept
moved_in t x o = if o.gone then o else slot_changed t (slot_moved x) o
