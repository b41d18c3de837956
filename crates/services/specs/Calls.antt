-- OSEK/VDX OS: specification of operating system services. What a service is asked and answers, and who executes.
use Rattle.std.specs.Prelude.{ℕ, ◌≡◌, ◌<◌, Option, Some, None, false, true, is_some, length}
use Rattle.osek_base.specs.declared.ids.Owner.{Owner}
use Rattle.osek_base.specs.declared.ids.ResId.{ResId}
use Rattle.osek_base.specs.declared.instr.Service.{Service}
use Rattle.osek_base.specs.Types.{ServiceCall}
use Rattle.osek_base.specs.Tick.{at_values}
use Rattle.machine.specs.declared.packed_instr.PackedInstr.{PackedInstr}
use Rattle.machine.specs.Packed.{instr_of, is_control, is_plain, service_of}
use Rattle.osek_base.specs.System.{System}
use Rattle.osek_base.specs.Instruction.{Context}
use Rattle.osek_base.specs.State.{Active, fresh_context}
use Rattle.law_kept.specs.Kept.{Kept}
use Rattle.law_kept.specs.KeptService.{KeptCaller, ByTask, ByRoutine, KeptReply, caller_in, service_in, unasked_in}
use Rattle.services.specs.Objects.{Objects, kept_in}

-- an operand names a task or an alarm of the system, or is INVALID
abbrev pub IsTaskOperand : System → Option ℕ → Type 0
IsTaskOperand S None = Unit {0}
IsTaskOperand S (Some t) = t < length S.tasks

abbrev pub IsAlarmOperand : System → Option ℕ → Type 0
IsAlarmOperand S None = Unit {0}
IsAlarmOperand S (Some a) = a < length S.alarms

-- a resource whose words are asked for is declared, or refused
abbrev pub IsSharedOperand : System → Option ResId → Type 0
IsSharedOperand S (Some (ResId.Declared r)) = r < length S.resources
IsSharedOperand S _ = Unit {0}

-- the operands of a service exist
abbrev pub IsKnown : System → ServiceCall → Type 0
IsKnown S (Service.ActivateTask t) = IsTaskOperand S t
IsKnown S (Service.ChainTask t) = IsTaskOperand S t
IsKnown S (Service.GetTaskState t) = IsTaskOperand S t
IsKnown S (Service.SetEvent t m) = IsTaskOperand S t
IsKnown S (Service.GetEvent t) = IsTaskOperand S t
IsKnown S (Service.LoadShared r i) = IsSharedOperand S r
IsKnown S (Service.StoreShared r i v) = IsSharedOperand S r
IsKnown S (Service.SetRelAlarm a x y) = IsAlarmOperand S a
IsKnown S (Service.SetAbsAlarm a x y) = IsAlarmOperand S a
IsKnown S (Service.CancelAlarm a) = IsAlarmOperand S a
IsKnown S (Service.GetAlarm a) = IsAlarmOperand S a
IsKnown S (Service.GetAlarmBase a) = IsAlarmOperand S a
IsKnown S _ = Unit {0}

-- the service is one on alarms
abbrev pub IsOnAlarm : ServiceCall → Type 0
IsOnAlarm (Service.SetRelAlarm a x y) = Unit {0}
IsOnAlarm (Service.SetAbsAlarm a x y) = Unit {0}
IsOnAlarm (Service.CancelAlarm a) = Unit {0}
IsOnAlarm (Service.GetAlarm a) = Unit {0}
IsOnAlarm (Service.GetAlarmBase a) = Unit {0}
IsOnAlarm _ = ⊥

-- what a service answers whoever executes, and what is kept after it
abbrev pub served_in : System → Kept → ServiceCall → KeptReply
served_in S o call = service_in S (caller_in o) o call

-- what a service answers the caller, interrupts being off aside, and what is kept after it
abbrev pub unasked : Objects → ServiceCall → KeptReply
unasked o call = unasked_in o.system (caller_in (kept_in o)) (kept_in o) call

-- ---- who executes

-- the task that calls, if no routine does
abbrev pub calling_task : KeptCaller → Option ℕ
calling_task (ByTask t) = Some t
calling_task _ = None

abbrev pub caller_as : Owner → KeptCaller
caller_as (Owner.Task t) = ByTask t
caller_as (Owner.Routine i) = ByRoutine

-- the task or routine executes, with these registers and this place
abbrev pub Executes : Kept → Owner → Context → Type 0
Executes o (Owner.Task t) x = (caller_in o ≡ ByTask t) × ((o.slots t).context ≡ x)
Executes o (Owner.Routine i) x = o.active ≡ Some (record { routine = i; context = x })

-- the registers and the place of the active routine, and of a task's oldest job
abbrev pub active_context : Option Active → Context
active_context None = fresh_context
active_context (Some a) = a.context

abbrev pub context_in : Kept → Owner → Context
context_in o (Owner.Task t) = (o.slots t).context
context_in o (Owner.Routine i) = active_context o.active

-- the task or routine executes
abbrev pub IsExecuting : Kept → Owner → Type 0
IsExecuting o who = Executes o who (context_in o who)

-- who executes has not ended
abbrev pub IsThere : Objects → Owner → Type 0
IsThere o (Owner.Task t) = (o.running ≡ Some t) × (o.gone ≡ false)
IsThere o (Owner.Routine i) = is_some o.active ≡ true

-- an active routine is that one
abbrev pub IsRoutineOrNone : Option Active → ℕ → Type 0
IsRoutineOrNone None i = Unit {0}
IsRoutineOrNone (Some a) i = a.routine ≡ i

-- who executed runs still, unless its job or it has ended
abbrev pub MayGoOn : Objects → Owner → Type 0
MayGoOn o (Owner.Task t) = o.running ≡ Some t
MayGoOn o (Owner.Routine i) = IsRoutineOrNone o.active i

-- the running task stays, and so does the active routine, unless it ends; unless a job ends, all have the registers and
-- places that they had
abbrev pub IsSameActive : Option Active → Option Active → Type 0
IsSameActive a None = Unit {0}
IsSameActive a (Some b) = a ≡ Some b

pub record IsSameCaller (o n : Objects) : Type 0 where
  pub running : n.running ≡ o.running
  pub active : IsSameActive o.active n.active
  pub contexts : (t : ℕ) → n.gone ≡ false → context_in (kept_in n) (Owner.Task t) ≡ context_in (kept_in o) (Owner.Task t)

-- ---- a service of a program

-- the instruction is a service with a status
pub record IsService (packed : PackedInstr) : Type 0 where
  pub plain : is_plain (instr_of packed) ≡ false
  pub control : is_control (instr_of packed) ≡ false

-- it asks with the values of the registers of who executes
abbrev pub call_of : PackedInstr → Owner → Objects → ServiceCall
call_of packed owner o = at_values (context_in (kept_in o) owner) (service_of (instr_of packed))
