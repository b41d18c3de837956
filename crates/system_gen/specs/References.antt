-- OIL: references between objects; the modelled processor: operands. The first name that stands for no object of its kind.
use Rattle.std.specs.Prelude.{ℕ, Bool, not, ◌&&◌, if◌then◌else◌, List, [], ◌∷◌, Option, Some, None, codes, bytes_eq}
use Rattle.std.specs.Option.{option_or}
use Rattle.osek_base.specs.declared.instr.Service.{Service}
use Rattle.osek_base.specs.Names.{is_named}
use Rattle.oil_reader.specs.declared.file.ActionObject.{ActionObject}
use Rattle.oil_reader.specs.Configuration.{Configuration, TaskRecord, AlarmRecord, AlarmStartRecord}
use Rattle.task_asm.specs.Named.{NamedService}
use Rattle.task_asm.specs.declared.program.NamedInstr.{NamedInstr}
use Rattle.task_asm.specs.declared.program.ProgramKind.{ProgramKind}
use Rattle.task_asm.specs.Programs.{Program}
use Rattle.system_gen.specs.declared.fault.GenFault.{GenFault}
use Rattle.system_gen.specs.Checks.{is_internal}
use Rattle.system_gen.specs.DeclaredNames.{Declared}

-- the first fault that one of the elements has
abbrev pub first_of : {X : Type 0} → (X → Option GenFault) → List X → Option GenFault
first_of fault [] = None
first_of fault (x ∷ xs) = option_or (fault x) (first_of fault xs)

-- a name that isn't among those of its kind
abbrev pub unknown : List (List ℕ) → List ℕ → Option GenFault
unknown names name = if is_named name names then None else Some (GenFault.UnknownName name)

-- the first of some such names
abbrev pub unknown_in : List (List ℕ) → List (List ℕ) → Option GenFault
unknown_in names referred = first_of (unknown names) referred

-- the operand INVALID names nothing
abbrev pub unknown_operand : List (List ℕ) → Option (List ℕ) → Option GenFault
unknown_operand names None = None
unknown_operand names (Some name) = unknown names name

-- ---- references of a file

-- a task names its modes, then its resources, then its events
abbrev pub task_reference : Declared → TaskRecord → Option GenFault
task_reference d t =
    option_or (unknown_in d.modes t.autostart) (option_or (unknown_in d.resources t.resources) (unknown_in d.events t.events))

abbrev pub action_reference : Declared → ActionObject → Option GenFault
action_reference d (ActionObject.ActivateTask task) = unknown d.tasks task
action_reference d (ActionObject.SetEvent task event) = option_or (unknown d.tasks task) (unknown d.events event)

abbrev pub start_reference : Declared → Option AlarmStartRecord → Option GenFault
start_reference d None = None
start_reference d (Some start) = unknown_in d.modes start.app_modes

-- an alarm names its counter, then the task and the event of its action, then its modes
abbrev pub alarm_reference : Declared → AlarmRecord → Option GenFault
alarm_reference d a =
    option_or (unknown d.counters a.counter) (option_or (action_reference d a.action) (start_reference d a.autostart))

-- ---- references of a program

abbrev pub is_res_scheduler : List ℕ → Bool
is_res_scheduler name = bytes_eq name (codes "RES_SCHEDULER")

-- a standard resource, or RES_SCHEDULER where it exists
abbrev pub may_be_got : Configuration → Declared → List ℕ → Bool
may_be_got f d name =
    if is_res_scheduler name then f.os.use_res_scheduler else (is_named name d.resources && not (is_internal f.resources name))

abbrev pub resource_reference : Configuration → Declared → Option (List ℕ) → Option GenFault
resource_reference f d None = None
resource_reference f d (Some name) = if may_be_got f d name then None else Some (GenFault.UnknownName name)

-- the operands of a service, by place
abbrev pub service_reference : Configuration → Declared → NamedService → Option GenFault
service_reference f d (Service.ActivateTask task) = unknown_operand d.tasks task
service_reference f d Service.TerminateTask = None
service_reference f d (Service.ChainTask task) = unknown_operand d.tasks task
service_reference f d Service.Schedule = None
service_reference f d Service.GetTaskId = None
service_reference f d (Service.GetTaskState task) = unknown_operand d.tasks task
service_reference f d (Service.GetResource resource) = resource_reference f d resource
service_reference f d (Service.ReleaseResource resource) = resource_reference f d resource
service_reference f d (Service.LoadShared resource index) = resource_reference f d resource
service_reference f d (Service.StoreShared resource index word) = resource_reference f d resource
service_reference f d (Service.SetEvent task events) = option_or (unknown_operand d.tasks task) (unknown_in d.events events)
service_reference f d (Service.ClearEvent events) = unknown_in d.events events
service_reference f d (Service.GetEvent task) = unknown_operand d.tasks task
service_reference f d (Service.WaitEvent events) = unknown_in d.events events
service_reference f d (Service.SetRelAlarm alarm increment cycle) = unknown_operand d.alarms alarm
service_reference f d (Service.SetAbsAlarm alarm start cycle) = unknown_operand d.alarms alarm
service_reference f d (Service.CancelAlarm alarm) = unknown_operand d.alarms alarm
service_reference f d (Service.GetAlarm alarm) = unknown_operand d.alarms alarm
service_reference f d (Service.GetAlarmBase alarm) = unknown_operand d.alarms alarm

abbrev pub instruction_reference : Configuration → Declared → NamedInstr → Option GenFault
instruction_reference f d (NamedInstr.Plain plain) = None
instruction_reference f d (NamedInstr.Service service) = service_reference f d service
instruction_reference f d (NamedInstr.Control control) = None

-- the task or routine whose program it is
abbrev pub owner_reference : Declared → ProgramKind → List ℕ → Option GenFault
owner_reference d ProgramKind.Task name = unknown d.tasks name
owner_reference d ProgramKind.Routine name = unknown d.routines name

-- a program's own name, then its operands
abbrev pub program_reference : Configuration → Declared → Program → Option GenFault
program_reference f d p = option_or (owner_reference d p.kind p.name) (first_of (instruction_reference f d) p.instructions)

-- the first unknown name of a file and its programs: those of the tasks, of the alarms, and of the programs
abbrev pub reference_fault : Configuration → Declared → List Program → Option GenFault
reference_fault f d programs =
    option_or (first_of (task_reference d) f.tasks) (option_or (first_of (alarm_reference d) f.alarms) (first_of (program_reference f d) programs))
