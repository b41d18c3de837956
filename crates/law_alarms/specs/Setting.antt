-- OSEK/VDX OS: alarms, counters and alarm management. Who sets an alarm, and how soon it expires.
use Rattle.std.specs.Prelude.{ℕ, ◌≡◌, ◌<◌, ◌≤◌, ◌⊎◌, Bool, false, not, ◌&&◌, ◌==◌, List, Option, Some, None, IfSome}
use Rattle.std.specs.List.{list_all}
use Rattle.osek_base.specs.declared.arrivals.Arrival.{Arrival}
use Rattle.osek_base.specs.declared.ids.Owner.{Owner}
use Rattle.osek_base.specs.declared.instr.Instr.{Instr}
use Rattle.osek_base.specs.declared.instr.Service.{Service}
use Rattle.osek_base.specs.declared.status.Status.{Status}
use Rattle.osek_base.specs.Instruction.{Context}
use Rattle.osek_base.specs.Service.{Caller, JobCalls, RoutineCalls, NobodyCalls, service}
use Rattle.osek_base.specs.State.{State}
use Rattle.osek_base.specs.System.{System, Task, Routine, alarm_start_in, counter_of, instruction_at}
use Rattle.osek_base.specs.Tick.{at_values, executor, tick}
use Rattle.osek_base.specs.Trace.{arriving, run}
use Rattle.osek_base.specs.Types.{ServiceCall}

-- ---- what programs call

-- the service that an instruction calls, with the values of its registers
abbrev pub call_in : Context → Instr → Option ServiceCall
call_in x (Instr.Service call) = Some (at_values x call)
call_in x _ = None

abbrev pub call_by : System → Caller → Option ServiceCall
call_by S (JobCalls j) = call_in j.context (instruction_at S (Owner.Task j.id.task) j.context.place)
call_by S (RoutineCalls r) =
    call_in r.context (instruction_at S (Owner.Routine r.routine) r.context.place)
call_by S NobodyCalls = None

-- what the next instruction calls, where it isn't refused
pub record IsServed (S : System) (s : State) (call : ServiceCall) : Type 0 where
  pub called : call_by S (executor s) ≡ Some call
  pub accepted : (service S (executor s) s call).status ≡ Status.Ok

-- the state in which the instruction of tick n is executed
abbrev pub executing_in : System → ℕ → List Arrival → ℕ → State
executing_in S mode arrivals n =
    (tick S (arriving arrivals n) (run S mode arrivals n).state).executing

-- ---- how soon

-- a cycle of at least so many counts, or none
abbrev pub IsSlow : ℕ → ℕ → Type 0
IsSlow least cycle = (cycle ≡ 0) ⊎ (least ≤ cycle)

-- where a service sets the alarm, it is to expire in at least so many counts, and again in no
-- fewer. SetAbsAlarm may set it to the next count
abbrev pub IsNoSooner : ℕ → ℕ → ServiceCall → Type 0
IsNoSooner a least (Service.SetRelAlarm (Some b) increment cycle) =
    b ≡ a → (least ≤ increment) × IsSlow least cycle
IsNoSooner a least (Service.SetAbsAlarm (Some b) start cycle) =
    b ≡ a → (least ≤ 1) × IsSlow least cycle
IsNoSooner a least call = Unit {0}

-- so does each service that is called in a tick before n and isn't refused; and boot, where it
-- starts the alarm, sets such a cycle
pub record AreNoSooner (S : System) (mode : ℕ) (arrivals : List Arrival) (a least n : ℕ)
    : Type 0 where
  pub boot : IfSome (alarm_start_in S mode a) (λ start. IsSlow least start.1)
  pub calls : (t : ℕ) (call : ServiceCall) → t < n → (run S mode arrivals t).state.over ≡ false
      → IsServed S (executing_in S mode arrivals t) call → IsNoSooner a least call

-- ---- an alarm that programs leave to boot

abbrev pub sets_alarm : ℕ → Instr → Bool
sets_alarm a (Instr.Service (Service.SetRelAlarm (Some b) increment cycle)) = b == a
sets_alarm a (Instr.Service (Service.SetAbsAlarm (Some b) start cycle)) = b == a
sets_alarm a _ = false

abbrev pub leaves_alarm : ℕ → List Instr → Bool
leaves_alarm a program = list_all (λ i. not (sets_alarm a i)) program

-- whether no program has an instruction that sets the alarm. It may be cancelled
abbrev pub is_never_set : System → ℕ → Bool
is_never_set S a =
    list_all (λ (t : Task). leaves_alarm a t.program) S.tasks
    && list_all (λ (r : Routine). leaves_alarm a r.program) S.routines

-- ---- the law

-- what isn't refused sets an increment of 1 at least, and a cycle of MINCYCLE at least, or none
abbrev pub HasTimes : System → ServiceCall → Type 0
HasTimes S (Service.SetRelAlarm (Some b) increment cycle) =
    (1 ≤ increment) × IsSlow (counter_of S b).min_cycle cycle
HasTimes S (Service.SetAbsAlarm (Some b) start cycle) = IsSlow (counter_of S b).min_cycle cycle
HasTimes S call = Unit {0}

abbrev pub ServedHaveTimes : Type 0
ServedHaveTimes =
    (S : System) (s : State) (call : ServiceCall) → IsServed S s call → HasTimes S call
