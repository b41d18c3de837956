-- OSEK/VDX OS: specification of operating system services. What one may answer and change at a
-- node.
use Rattle.std.specs.Prelude.{ℕ, ◌+◌, Bool, true, false, not, ◌&&◌, ◌||◌, ◌==◌, nat_le, nat_lt, if◌then◌else◌, List, [], ◌∷◌, ◌++◌, Option, Some, None, slice_set, bit_and, bit_or, bit_xor}
use Rattle.std.specs.List.{flat_map}
use Rattle.osek_base.specs.declared.ids.Owner.{Owner}
use Rattle.osek_base.specs.declared.ids.ResId.{ResId}
use Rattle.osek_base.specs.declared.instr.Service.{Service}
use Rattle.osek_base.specs.declared.status.Status.{Status}
use Rattle.osek_base.specs.declared.status.TaskState.{TaskState}
use Rattle.osek_base.specs.Activation.{new_job}
use Rattle.osek_base.specs.Alarm.{is_bad_cycle}
use Rattle.osek_base.specs.Lists.{same_resource, without_last}
use Rattle.osek_base.specs.Service.{Caller, JobCalls, RoutineCalls, by_routine, caller_holds, caller_may_take, got_last, holds_any, is_above_ceiling, is_basic_caller, is_own_task, state_number}
use Rattle.osek_base.specs.State.{fresh_context}
use Rattle.osek_base.specs.System.{System, activation_of, counter_of, is_extended}
use Rattle.osek_base.specs.Tick.{status_number}
use Rattle.osek_base.specs.Types.{ServiceCall}
use Rattle.law_costs.specs.Left.{is_off}
use Rattle.law_nodes.specs.Nodes.{Node}
use Rattle.law_nodes.specs.Shown.{shown_to}
use Rattle.law_nodes.specs.Values.{known, of_known}

-- ---- at a node

-- the next instruction follows
abbrev pub next_node : Node → Node
next_node n = record n { place = n.place + 1 }

-- a register gets a value, or one that isn't known
abbrev pub with_known : Node → ℕ → Option ℕ → Node
with_known n r o = record n { registers = slice_set n.registers r o }

-- a caller of whom is told who it is and what it holds
abbrev pub caller_by : Owner → List ResId → Caller
caller_by (Owner.Task t) held =
    JobCalls (record (new_job (record { task = t; serial = 0 })) { held = held })
caller_by (Owner.Routine i) held = RoutineCalls (record { routine = i; context = fresh_context })

abbrev pub caller_at : Node → Caller
caller_at n = caller_by n.owner n.held

-- ---- refusals

-- a test, as far as a node decides it. It applies at least where b is true, and at most there
abbrev pub at_least : Bool → Option Bool
at_least b = if b then Some true else None

abbrev pub at_most : Bool → Option Bool
at_most b = if b then None else Some false

-- increments, starts and cycles that are refused
abbrev pub is_bad_increment : System → ℕ → ℕ → ℕ → Bool
is_bad_increment S a increment cycle =
    increment == 0 || nat_lt (counter_of S a).max_allowed_value increment
    || is_bad_cycle (counter_of S a) cycle

abbrev pub is_bad_start : System → ℕ → ℕ → ℕ → Bool
is_bad_start S a start cycle =
    nat_lt (counter_of S a).max_allowed_value start || is_bad_cycle (counter_of S a) cycle

-- those of a caller with registers of which that is known, in the order in which they are tried.
-- What one tells counts where none before it applies: there nobody but the caller may hold the
-- resource that it asks for
abbrev pub refusals_of : System → Caller → List (Option ℕ) → ServiceCall
    → List (Option Bool × Status)
refusals_of S c x (Service.ActivateTask None) = (Some true, Status.Id) ∷ []
refusals_of S c x (Service.ActivateTask (Some t)) =
    (at_least (is_own_task c t && nat_le (activation_of S t) 1), Status.Limit) ∷ []
refusals_of S c x Service.TerminateTask =
    (Some (by_routine c), Status.CallLevel) ∷ (Some (holds_any c), Status.Resource) ∷ []
refusals_of S c x (Service.ChainTask None) =
    (Some (by_routine c), Status.CallLevel) ∷ (Some true, Status.Id) ∷ []
refusals_of S c x (Service.ChainTask (Some t)) =
    (Some (by_routine c), Status.CallLevel) ∷ (Some (holds_any c), Status.Resource)
    ∷ (at_most (not (is_own_task c t)), Status.Limit) ∷ []
refusals_of S c x Service.Schedule =
    (Some (by_routine c), Status.CallLevel) ∷ (Some (holds_any c), Status.Resource) ∷ []
refusals_of S c x Service.GetTaskId = []
refusals_of S c x (Service.GetTaskState None) = (Some true, Status.Id) ∷ []
refusals_of S c x (Service.GetTaskState (Some t)) = []
refusals_of S c x (Service.GetResource None) = (Some true, Status.Id) ∷ []
refusals_of S c x (Service.GetResource (Some r)) =
    (Some (by_routine c), Status.Access) ∷ (Some (not (caller_may_take S c r)), Status.Access)
    ∷ (Some (caller_holds c r), Status.Access) ∷ []
refusals_of S c x (Service.ReleaseResource None) = (Some true, Status.Id) ∷ []
refusals_of S c x (Service.ReleaseResource (Some r)) =
    (Some (by_routine c), Status.Access) ∷ (Some (is_above_ceiling S c r), Status.Access)
    ∷ (Some (not (got_last c r)), Status.NoFunc) ∷ []
refusals_of S c x (Service.LoadShared None i) = (Some true, Status.Id) ∷ []
refusals_of S c x (Service.LoadShared (Some r) i) =
    (Some (by_routine c), Status.Access) ∷ (Some (same_resource ResId.Scheduler r), Status.Access)
    ∷ (Some (not (caller_holds c r)), Status.Access) ∷ []
refusals_of S c x (Service.StoreShared None i v) = (Some true, Status.Id) ∷ []
refusals_of S c x (Service.StoreShared (Some r) i v) =
    (Some (by_routine c), Status.Access) ∷ (Some (same_resource ResId.Scheduler r), Status.Access)
    ∷ (Some (not (caller_holds c r)), Status.Access) ∷ []
refusals_of S c x (Service.SetEvent None m) = (Some true, Status.Id) ∷ []
refusals_of S c x (Service.SetEvent (Some t) m) =
    (Some (not (is_extended S t)), Status.Access)
    ∷ (at_most (not (is_own_task c t)), Status.State) ∷ []
refusals_of S c x (Service.ClearEvent m) =
    (Some (by_routine c), Status.CallLevel) ∷ (Some (is_basic_caller S c), Status.Access) ∷ []
refusals_of S c x (Service.GetEvent None) = (Some true, Status.Id) ∷ []
refusals_of S c x (Service.GetEvent (Some t)) =
    (Some (not (is_extended S t)), Status.Access)
    ∷ (at_most (not (is_own_task c t)), Status.State) ∷ []
refusals_of S c x (Service.WaitEvent m) =
    (Some (by_routine c), Status.CallLevel) ∷ (Some (is_basic_caller S c), Status.Access)
    ∷ (Some (holds_any c), Status.Resource) ∷ []
refusals_of S c x (Service.SetRelAlarm None increment cycle) = (Some true, Status.Id) ∷ []
refusals_of S c x (Service.SetRelAlarm (Some a) increment cycle) =
    (None, Status.State)
    ∷ (of_known (is_bad_increment S a) (known x increment) (known x cycle), Status.Value) ∷ []
refusals_of S c x (Service.SetAbsAlarm None start cycle) = (Some true, Status.Id) ∷ []
refusals_of S c x (Service.SetAbsAlarm (Some a) start cycle) =
    (None, Status.State)
    ∷ (of_known (is_bad_start S a) (known x start) (known x cycle), Status.Value) ∷ []
refusals_of S c x (Service.CancelAlarm None) = (Some true, Status.Id) ∷ []
refusals_of S c x (Service.CancelAlarm (Some a)) = (None, Status.NoFunc) ∷ []
refusals_of S c x (Service.GetAlarm None) = (Some true, Status.Id) ∷ []
refusals_of S c x (Service.GetAlarm (Some a)) = (None, Status.NoFunc) ∷ []
refusals_of S c x (Service.GetAlarmBase None) = (Some true, Status.Id) ∷ []
refusals_of S c x (Service.GetAlarmBase (Some a)) = []

-- what may be the first that applies; None where none does
abbrev pub first_refusals : List (Option Bool × Status) → List (Option Status)
first_refusals [] = None ∷ []
first_refusals (r ∷ rs) = tried r.0 r.1 (first_refusals rs)
  where
    tried : Option Bool → Status → List (Option Status) → List (Option Status)
    tried None e rest = Some e ∷ rest
    tried (Some b) e rest = if b then Some e ∷ [] else rest

-- interrupts being off is the first refusal
abbrev pub answers : System → Node → ServiceCall → List (Option Status)
answers S n call =
    first_refusals
    ((Some (is_off n.switch), Status.SysDisabled) ∷ refusals_of S (caller_at n) n.registers call)

-- ---- results

-- what is known of results, which go to r1, r2 and r3
pub data Found : Type 0 where
  Nothing : Found
  One : Option ℕ → Found
  Three : Option ℕ → Option ℕ → Option ℕ → Found

-- the running task, which isn't known of a routine
abbrev pub running_by : Owner → Option ℕ
running_by (Owner.Task t) = Some t
running_by (Owner.Routine i) = None

abbrev pub results_of : System → Owner → Caller → ServiceCall → Found
results_of S who c Service.GetTaskId = One (running_by who)
results_of S who c (Service.GetTaskState (Some t)) =
    One (if is_own_task c t then Some (state_number TaskState.Running) else None)
results_of S who c (Service.LoadShared (Some r) i) = One None
results_of S who c (Service.GetEvent (Some t)) = One None
results_of S who c (Service.GetAlarm (Some a)) = One None
results_of S who c (Service.GetAlarmBase (Some a)) =
    Three (Some (counter_of S a).max_allowed_value) (Some (counter_of S a).ticks_per_base)
    (Some (counter_of S a).min_cycle)
results_of S who c _ = Nothing

abbrev pub with_found : Found → List (Option ℕ) → List (Option ℕ)
with_found Nothing registers = registers
with_found (One u) registers = slice_set registers 1 u
with_found (Three u v w) registers = slice_set (slice_set (slice_set registers 1 u) 2 v) 3 w

-- ---- behind a service

-- the status is in r0, the results behind it, and the next instruction follows
abbrev pub answered_node : Status → Found → Node → Node
answered_node status found n =
    record n {
      place = n.place + 1;
      registers = with_found found (slice_set n.registers 0 (Some (status_number status)));
    }

-- events that a job sets for its own task pay for nothing: they are used
abbrev pub set_by : Owner → ℕ → ℕ → ℕ → ℕ
set_by (Owner.Task u) t m used = if u == t then bit_or used m else used
set_by (Owner.Routine i) t m used = used

-- what a job becomes by a service that isn't refused, once that is answered: no node where it ends,
-- and where it may wait, two. Where it goes on, what it would wait for is used then. Where it gets
-- the events of its own task, one for each set of them that it may find
abbrev pub job_granted : System → ServiceCall → Node → List Node
job_granted S Service.TerminateTask n = []
job_granted S (Service.ChainTask (Some t)) n = []
job_granted S (Service.GetResource (Some r)) n = record n { held = n.held ++ r ∷ [] } ∷ []
job_granted S (Service.ReleaseResource (Some r)) n = record n { held = without_last n.held } ∷ []
job_granted S (Service.SetEvent (Some t) m) n =
    record n { used = set_by n.owner t m n.used } ∷ []
job_granted S (Service.ClearEvent m) n =
    record n { used = bit_xor n.used (bit_and n.used m) } ∷ []
job_granted S (Service.WaitEvent m) n =
    record n { used = bit_or n.used m } ∷ record n { waits_for = Some m } ∷ []
job_granted S (Service.GetEvent (Some t)) n = shown_to n.owner S t n
job_granted S _ n = n ∷ []

-- a routine goes on
abbrev pub granted_by : System → Owner → ServiceCall → Node → List Node
granted_by S (Owner.Task t) call n = job_granted S call n
granted_by S (Owner.Routine i) call n = n ∷ []

-- where a refusal is the first that applies, and where none is
abbrev pub replied : System → Node → ServiceCall → Option Status → List Node
replied S n call None =
    granted_by S n.owner call
    (answered_node Status.Ok (results_of S n.owner (caller_at n) call) n)
replied S n call (Some refusal) = answered_node refusal Nothing n ∷ []

-- by each answer that there may be
abbrev pub served : System → Node → ServiceCall → List Node
served S n call = flat_map (replied S n call) (answers S n call)
