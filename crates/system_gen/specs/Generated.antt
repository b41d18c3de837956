-- OSEK/VDX OS: system generation. The system that a file and its programs name: names become numbers and masks.
use Rattle.std.specs.Prelude.{◌≡◌, ℕ, ◌≤◌, if◌then◌else◌, List, [], ◌∷◌, Option, bit_or, length, map, slice_get, slice_index}
use Rattle.std.specs.List.{find}
use Rattle.std.specs.Option.{option_map, option_map_or}
use Rattle.std.specs.Result.{result_unwrap_or}
use Rattle.osek_base.specs.declared.limits.TheConstants.{MAX_MODES, MAX_TASKS, MAX_RESOURCES, MAX_COUNTERS, MAX_ALARMS}
use Rattle.osek_base.specs.declared.ids.ResId.{ResId}
use Rattle.osek_base.specs.declared.instr.Service.{Service}
use Rattle.osek_base.specs.Types.{ServiceCall}
use Rattle.osek_base.specs.declared.instr.Instr.{Instr}
use Rattle.osek_base.specs.declared.task.Action.{Action}
use Rattle.osek_base.specs.System.{System, Task, Routine, Alarm, AlarmStart, no_task}
use Rattle.oil_reader.specs.declared.file.ActionObject.{ActionObject}
use Rattle.oil_reader.specs.Configuration.{Configuration, TaskRecord, IsrRecord, AlarmRecord, AlarmStartRecord, EventRecord}
use Rattle.task_asm.specs.Named.{NamedService}
use Rattle.task_asm.specs.declared.program.NamedInstr.{NamedInstr}
use Rattle.task_asm.specs.declared.program.ProgramKind.{ProgramKind}
use Rattle.task_asm.specs.Programs.{Program}
use Rattle.system_gen.specs.ObjectNames.{names_of, order_of}
use Rattle.system_gen.specs.DeclaredNames.{Declared, declared_in, number}
use Rattle.system_gen.specs.References.{is_res_scheduler}
use Rattle.system_gen.specs.Programs.{is_program_of}
use Rattle.system_gen.specs.Masks.{all_masks}

-- what is declared, and the masks of the events in the order of declaration
pub record Known : Type 0 where
  pub declared : Declared
  pub masks : List ℕ

-- no more objects of a kind than their numbers can tell
pub record IsWithinLimits (d : Declared) : Type 0 where
  pub modes : length d.modes ≤ MAX_MODES
  pub tasks : length d.tasks ≤ MAX_TASKS
  pub resources : length d.resources ≤ MAX_RESOURCES
  pub counters : length d.counters ≤ MAX_COUNTERS
  pub alarms : length d.alarms ≤ MAX_ALARMS

-- ---- operands

abbrev pub task_operand : Known → Option (List ℕ) → Option ℕ
task_operand k name = option_map (number k.declared.tasks) name

abbrev pub alarm_operand : Known → Option (List ℕ) → Option ℕ
alarm_operand k name = option_map (number k.declared.alarms) name

abbrev pub resource_of : Known → List ℕ → ResId
resource_of k name = if is_res_scheduler name then ResId.Scheduler else ResId.Declared (number k.declared.resources name)

abbrev pub resource_operand : Known → Option (List ℕ) → Option ResId
resource_operand k name = option_map (resource_of k) name

-- the mask of the event of that name
abbrev pub mask_of : Known → List ℕ → ℕ
mask_of k name = slice_index k.masks (number k.declared.events name)

-- these bits, with the masks of some events
abbrev pub with_masks : Known → ℕ → List (List ℕ) → ℕ
with_masks k bits [] = bits
with_masks k bits (name ∷ names) = with_masks k (bit_or bits (mask_of k name)) names

-- the union of the masks of some events
abbrev pub union : Known → List (List ℕ) → ℕ
union k names = with_masks k 0 names

-- ---- programs

abbrev pub resolved_service : Known → NamedService → ServiceCall
resolved_service k (Service.ActivateTask task) = Service.ActivateTask (task_operand k task)
resolved_service k Service.TerminateTask = Service.TerminateTask
resolved_service k (Service.ChainTask task) = Service.ChainTask (task_operand k task)
resolved_service k Service.Schedule = Service.Schedule
resolved_service k Service.GetTaskId = Service.GetTaskId
resolved_service k (Service.GetTaskState task) = Service.GetTaskState (task_operand k task)
resolved_service k (Service.GetResource resource) = Service.GetResource (resource_operand k resource)
resolved_service k (Service.ReleaseResource resource) = Service.ReleaseResource (resource_operand k resource)
resolved_service k (Service.LoadShared resource index) = Service.LoadShared (resource_operand k resource) index
resolved_service k (Service.StoreShared resource index word) = Service.StoreShared (resource_operand k resource) index word
resolved_service k (Service.SetEvent task events) = Service.SetEvent (task_operand k task) (union k events)
resolved_service k (Service.ClearEvent events) = Service.ClearEvent (union k events)
resolved_service k (Service.GetEvent task) = Service.GetEvent (task_operand k task)
resolved_service k (Service.WaitEvent events) = Service.WaitEvent (union k events)
resolved_service k (Service.SetRelAlarm alarm increment cycle) = Service.SetRelAlarm (alarm_operand k alarm) increment cycle
resolved_service k (Service.SetAbsAlarm alarm start cycle) = Service.SetAbsAlarm (alarm_operand k alarm) start cycle
resolved_service k (Service.CancelAlarm alarm) = Service.CancelAlarm (alarm_operand k alarm)
resolved_service k (Service.GetAlarm alarm) = Service.GetAlarm (alarm_operand k alarm)
resolved_service k (Service.GetAlarmBase alarm) = Service.GetAlarmBase (alarm_operand k alarm)

abbrev pub resolved_instruction : Known → NamedInstr → Instr
resolved_instruction k (NamedInstr.Plain plain) = Instr.Plain plain
resolved_instruction k (NamedInstr.Service service) = Instr.Service (resolved_service k service)
resolved_instruction k (NamedInstr.Control control) = Instr.Control control

abbrev pub resolved_program : Known → List NamedInstr → List Instr
resolved_program k instructions = map (resolved_instruction k) instructions

-- the program of the task or routine of that name
abbrev pub program_for : Known → ProgramKind → List ℕ → List Program → List Instr
program_for k kind name programs = option_map_or (λ p. resolved_program k p.instructions) (find (is_program_of kind name) programs) []

-- ---- objects

abbrev pub resolved_task : Known → List Program → TaskRecord → Task
resolved_task k programs t = record {
  priority = t.priority;
  schedule = t.schedule;
  activation = t.activation;
  autostart = map (number k.declared.modes) t.autostart;
  resources = map (number k.declared.resources) t.resources;
  events = map (mask_of k) t.events;
  program = program_for k ProgramKind.Task t.name programs;
}

abbrev pub resolved_routine : Known → List Program → IsrRecord → Routine
resolved_routine k programs i = record { priority = i.priority; program = program_for k ProgramKind.Routine i.name programs }

abbrev pub resolved_action : Known → ActionObject → Action
resolved_action k (ActionObject.ActivateTask task) = Action.ActivateTask (number k.declared.tasks task)
resolved_action k (ActionObject.SetEvent task event) = Action.SetEvent (number k.declared.tasks task) (mask_of k event)

abbrev pub resolved_start : Known → AlarmStartRecord → AlarmStart
resolved_start k start = record {
  time = start.alarm_time;
  cycle = start.cycle_time;
  modes = map (number k.declared.modes) start.app_modes;
}

abbrev pub resolved_alarm : Known → AlarmRecord → Alarm
resolved_alarm k a = record {
  counter = number k.declared.counters a.counter;
  action = resolved_action k a.action;
  autostart = option_map (resolved_start k) a.autostart;
}

-- ---- the system

-- the objects of a system that refer to others
pub record Objects : Type 0 where
  pub tasks : List Task
  pub routines : List Routine
  pub alarms : List Alarm

-- the task that is declared at a place
abbrev pub task_declared : Known → List Program → List TaskRecord → ℕ → Task
task_declared k programs tasks place = option_map_or (resolved_task k programs) (slice_get tasks place) no_task

-- the masks of the events, none where one has no mask
abbrev pub masks_of : List EventRecord → List ℕ
masks_of events = result_unwrap_or (all_masks events) []

-- the objects of a file: tasks by their numbers, all else in the order of declaration
pub record AreObjectsOf (k : Known) (f : Configuration) (programs : List Program) (o : Objects) : Type 0 where
  pub tasks : o.tasks ≡ map (task_declared k programs f.tasks) (order_of f.tasks)
  pub routines : o.routines ≡ map (resolved_routine k programs) f.routines
  pub alarms : o.alarms ≡ map (resolved_alarm k) f.alarms

-- the system whose names are known
abbrev pub system_with : Known → Configuration → List Program → System
system_with k f programs = record {
  names = names_of f;
  tasks = map (task_declared k programs f.tasks) (order_of f.tasks);
  routines = map (resolved_routine k programs) f.routines;
  resources = map (λ r. r.property) f.resources;
  events = k.masks;
  counters = map (λ c. c.counter) f.counters;
  alarms = map (resolved_alarm k) f.alarms;
  hooks = f.os.hooks;
  use_res_scheduler = f.os.use_res_scheduler;
}

abbrev pub known : Declared → List ℕ → Known
known declared masks = record { declared = declared; masks = masks }

-- what is known of a file
abbrev pub known_of : Configuration → Known
known_of f = known (declared_in f) (masks_of f.events)

-- the system of a file and its programs
unfoldable pub generated : Configuration → List Program → System
generated f programs = system_with (known_of f) f programs
