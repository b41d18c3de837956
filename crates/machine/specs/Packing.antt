-- The modelled processor. Instructions as words of 64 bits.
use Rattle.std.specs.Prelude.{ℕ, ◌+◌, ◌*◌, ◌/◌, ◌%◌, ◌^◌, ◌==◌, ◌&&◌, nat_lt, nat_le, if◌then◌else◌, Option, Some, None}
use Rattle.osek_base.specs.declared.limits.TheConstants.{REGISTERS, MAX_TASKS, MAX_RESOURCES, MAX_ALARMS, MAX_INSTRUCTIONS}
use Rattle.osek_base.specs.declared.ids.ResId.{ResId}
use Rattle.osek_base.specs.declared.instr.Operation.{Operation}
use Rattle.osek_base.specs.declared.instr.Comparison.{Comparison}
use Rattle.osek_base.specs.declared.instr.Plain.{Plain}
use Rattle.osek_base.specs.declared.instr.Service.{Service}
use Rattle.osek_base.specs.Types.{ServiceCall, PlainInstr}
use Rattle.osek_base.specs.declared.instr.Control.{Control}
use Rattle.osek_base.specs.declared.instr.Instr.{Instr}
use Rattle.machine.specs.declared.fields.Fields.{Fields}

-- the operation, three operands and a number, mask or place
abbrev pub fields : ℕ → ℕ → ℕ → ℕ → ℕ → Fields
fields o a b c n = record { operation = o; first = a; second = b; third = c; number = n }

-- the operation in bits 0 to 7, the operands in bits 8 to 15, 16 to 23 and 24 to 31, the number in bits 32 to 63
abbrev pub word_of : Fields → ℕ
word_of f = f.operation + f.first * 2 ^ 8 + f.second * 2 ^ 16 + f.third * 2 ^ 24 + f.number * 2 ^ 32

abbrev pub fields_in : ℕ → Fields
fields_in w = fields (w % 2 ^ 8) (w / 2 ^ 8 % 2 ^ 8) (w / 2 ^ 16 % 2 ^ 8) (w / 2 ^ 24 % 2 ^ 8) (w / 2 ^ 32)

-- an object by its number; INVALID is 255
abbrev pub number_of : Option ℕ → ℕ
number_of None = 255
number_of (Some n) = n

-- a resource by its number; INVALID is 255, RES_SCHEDULER 254
abbrev pub resource_number : Option ResId → ℕ
resource_number None = 255
resource_number (Some ResId.Scheduler) = 254
resource_number (Some (ResId.Declared r)) = r

abbrev pub operation_number : Operation → ℕ
operation_number Operation.Add = 3
operation_number Operation.Sub = 4
operation_number Operation.Mul = 5
operation_number Operation.And = 6
operation_number Operation.Or = 7
operation_number Operation.Xor = 8

abbrev pub comparison_number : Comparison → ℕ
comparison_number Comparison.Equal = 12
comparison_number Comparison.NotEqual = 13
comparison_number Comparison.Less = 14

abbrev pub plain_fields : PlainInstr → Fields
plain_fields Plain.Nop = fields 0 0 0 0 0
plain_fields (Plain.Li d n) = fields 1 d 0 0 n
plain_fields (Plain.Mov d a) = fields 2 d a 0 0
plain_fields (Plain.Compute operation d a b) = fields (operation_number operation) d a b 0
plain_fields (Plain.Ld d a) = fields 9 d a 0 0
plain_fields (Plain.St a b) = fields 10 a b 0 0
plain_fields (Plain.Jmp to) = fields 11 0 0 0 to
plain_fields (Plain.JumpIf test a b to) = fields (comparison_number test) a b 0 to

abbrev pub service_fields : ServiceCall → Fields
service_fields (Service.ActivateTask t) = fields 15 (number_of t) 0 0 0
service_fields Service.TerminateTask = fields 16 0 0 0 0
service_fields (Service.ChainTask t) = fields 17 (number_of t) 0 0 0
service_fields Service.Schedule = fields 18 0 0 0 0
service_fields Service.GetTaskId = fields 19 0 0 0 0
service_fields (Service.GetTaskState t) = fields 20 (number_of t) 0 0 0
service_fields (Service.GetResource r) = fields 21 (resource_number r) 0 0 0
service_fields (Service.ReleaseResource r) = fields 22 (resource_number r) 0 0 0
service_fields (Service.SetEvent t m) = fields 23 (number_of t) 0 0 m
service_fields (Service.ClearEvent m) = fields 24 0 0 0 m
service_fields (Service.GetEvent t) = fields 25 (number_of t) 0 0 0
service_fields (Service.WaitEvent m) = fields 26 0 0 0 m
service_fields (Service.SetRelAlarm a x y) = fields 27 (number_of a) x y 0
service_fields (Service.SetAbsAlarm a x y) = fields 28 (number_of a) x y 0
service_fields (Service.CancelAlarm a) = fields 29 (number_of a) 0 0 0
service_fields (Service.GetAlarm a) = fields 30 (number_of a) 0 0 0
service_fields (Service.GetAlarmBase a) = fields 31 (number_of a) 0 0 0
service_fields (Service.LoadShared r x) = fields 40 (resource_number r) x 0 0
service_fields (Service.StoreShared r x y) = fields 41 (resource_number r) x y 0

abbrev pub control_fields : Control ℕ → Fields
control_fields Control.DisableAllInterrupts = fields 32 0 0 0 0
control_fields Control.EnableAllInterrupts = fields 33 0 0 0 0
control_fields Control.SuspendAllInterrupts = fields 34 0 0 0 0
control_fields Control.ResumeAllInterrupts = fields 35 0 0 0 0
control_fields Control.SuspendOsInterrupts = fields 36 0 0 0 0
control_fields Control.ResumeOsInterrupts = fields 37 0 0 0 0
control_fields (Control.ShutdownOs n) = fields 38 0 0 0 n
control_fields Control.ReturnFromInterrupt = fields 39 0 0 0 0

abbrev pub instr_fields : Instr → Fields
instr_fields (Instr.Plain plain) = plain_fields plain
instr_fields (Instr.Service service) = service_fields service
instr_fields (Instr.Control control) = control_fields control

-- the word of an instruction
abbrev pub packed : Instr → ℕ
packed i = word_of (instr_fields i)

-- what fields tell, with 0 for each number beyond its limit, and with no look at what isn't used
abbrev pub limited : ℕ → ℕ → ℕ
limited limit n = if nat_lt n limit then n else 0

abbrev pub register_at : ℕ → ℕ
register_at n = limited REGISTERS n

abbrev pub place_at : ℕ → ℕ
place_at n = limited MAX_INSTRUCTIONS n

abbrev pub task_at : ℕ → Option ℕ
task_at n = if n == 255 then None else Some (limited MAX_TASKS n)

abbrev pub alarm_at : ℕ → Option ℕ
alarm_at n = if n == 255 then None else Some (limited MAX_ALARMS n)

abbrev pub resource_at : ℕ → Option ResId
resource_at n =
    if n == 255 then None
    else if n == 254 then Some ResId.Scheduler
    else Some (ResId.Declared (limited MAX_RESOURCES n))

abbrev pub operation_at : ℕ → Operation
operation_at n =
    if n == 3 then Operation.Add
    else if n == 4 then Operation.Sub
    else if n == 5 then Operation.Mul
    else if n == 6 then Operation.And
    else if n == 7 then Operation.Or
    else Operation.Xor

abbrev pub comparison_at : ℕ → Comparison
comparison_at n =
    if n == 12 then Comparison.Equal
    else if n == 13 then Comparison.NotEqual
    else Comparison.Less

abbrev pub plain_at : Fields → PlainInstr
plain_at f =
    if f.operation == 0 then Plain.Nop
    else if f.operation == 1 then Plain.Li (register_at f.first) f.number
    else if f.operation == 2 then Plain.Mov (register_at f.first) (register_at f.second)
    else if f.operation == 9 then Plain.Ld (register_at f.first) (register_at f.second)
    else if f.operation == 10 then Plain.St (register_at f.first) (register_at f.second)
    else if f.operation == 11 then Plain.Jmp (place_at f.number)
    else if nat_lt f.operation 9
    then Plain.Compute (operation_at f.operation) (register_at f.first) (register_at f.second) (register_at f.third)
    else Plain.JumpIf (comparison_at f.operation) (register_at f.first) (register_at f.second) (place_at f.number)

abbrev pub service_at : Fields → ServiceCall
service_at f =
    if f.operation == 15 then Service.ActivateTask (task_at f.first)
    else if f.operation == 16 then Service.TerminateTask
    else if f.operation == 17 then Service.ChainTask (task_at f.first)
    else if f.operation == 18 then Service.Schedule
    else if f.operation == 19 then Service.GetTaskId
    else if f.operation == 20 then Service.GetTaskState (task_at f.first)
    else if f.operation == 21 then Service.GetResource (resource_at f.first)
    else if f.operation == 22 then Service.ReleaseResource (resource_at f.first)
    else if f.operation == 23 then Service.SetEvent (task_at f.first) f.number
    else if f.operation == 24 then Service.ClearEvent f.number
    else if f.operation == 25 then Service.GetEvent (task_at f.first)
    else if f.operation == 26 then Service.WaitEvent f.number
    else if f.operation == 27 then Service.SetRelAlarm (alarm_at f.first) (register_at f.second) (register_at f.third)
    else if f.operation == 28 then Service.SetAbsAlarm (alarm_at f.first) (register_at f.second) (register_at f.third)
    else if f.operation == 29 then Service.CancelAlarm (alarm_at f.first)
    else if f.operation == 30 then Service.GetAlarm (alarm_at f.first)
    else if f.operation == 31 then Service.GetAlarmBase (alarm_at f.first)
    else if f.operation == 40 then Service.LoadShared (resource_at f.first) (register_at f.second)
    else Service.StoreShared (resource_at f.first) (register_at f.second) (register_at f.third)

abbrev pub control_at : Fields → Control ℕ
control_at f =
    if f.operation == 32 then Control.DisableAllInterrupts
    else if f.operation == 33 then Control.EnableAllInterrupts
    else if f.operation == 34 then Control.SuspendAllInterrupts
    else if f.operation == 35 then Control.ResumeAllInterrupts
    else if f.operation == 36 then Control.SuspendOsInterrupts
    else if f.operation == 37 then Control.ResumeOsInterrupts
    else if f.operation == 38 then Control.ShutdownOs f.number
    else Control.ReturnFromInterrupt

abbrev pub instr_at : Fields → Instr
instr_at f =
    if nat_lt f.operation 15 then Instr.Plain (plain_at f)
    else if nat_le 32 f.operation && nat_lt f.operation 40 then Instr.Control (control_at f)
    else Instr.Service (service_at f)

-- the instruction whose word it is, if there is one: what the word tells, where that has this word
abbrev pub unpacked : ℕ → Option Instr
unpacked w = if packed (instr_at (fields_in w)) == w then Some (instr_at (fields_in w)) else None
