-- OIL: standard objects and their attributes; OSEK/VDX OS: constraints. What generation checks, as tests over plain numbers.
use Rattle.std.specs.Prelude.{ℕ, ◌-◌, ◌^◌, Bool, true, false, not, ◌&&◌, ◌||◌, ◌==◌, nat_lt, nat_le, List, [], ◌∷◌, if◌then◌else◌, Option, Some, None, IsTrue, length, slice_get}
use Rattle.std.specs.List.{list_all, list_any}
use Rattle.std.specs.Option.{option_map_or}
use Rattle.osek_base.specs.declared.limits.TheConstants.{MAX_TASKS, MAX_TASK_PRIORITY, MAX_ACTIVATION, MAX_ROUTINES, MAX_ROUTINE_PRIORITY, MAX_RESOURCES, MAX_EVENTS, MAX_COUNTERS, MAX_COUNTS, MAX_ALARMS, MAX_MODES, MAX_INSTRUCTIONS, REGISTERS}
use Rattle.osek_base.specs.Types.{ResId, Plain, PlainInstr, Service, ServiceCall, Control, Instr, Schedule, Counter, Action}
use Rattle.osek_base.specs.Lists.{is_empty}
use Rattle.osek_base.specs.Names.{Names, is_proper_name, are_distinct_names}
use Rattle.osek_base.specs.System.{System, Task, Routine, Alarm, AlarmStart, mode_count, counter, is_extended}
use Rattle.osek_base.specs.Ceiling.{is_internal}
use Rattle.osek_base.specs.Classes.{are_distinct}

abbrev pub is_word : ℕ → Bool
is_word n = nat_lt n (2 ^ 32)

-- a mask of events has 32 bits, in which a bit is set
abbrev pub is_proper_mask : ℕ → Bool
is_proper_mask m = nat_le 1 m && is_word m

-- tasks stand by falling priority, from limit on
abbrev pub are_falling : ℕ → List Task → Bool
are_falling limit [] = true
are_falling limit (a ∷ rest) = nat_le a.priority limit && are_falling a.priority rest

-- a list of names, one for each object of a kind: each of 1 to 32 bytes, none twice
abbrev pub are_proper_names : List (List ℕ) → Bool
are_proper_names names = list_all is_proper_name names && are_distinct_names names

-- ---- operands

abbrev pub is_task_operand : System → Option ℕ → Bool
is_task_operand S None = true
is_task_operand S (Some t) = nat_lt t (length S.tasks)

abbrev pub is_alarm_operand : System → Option ℕ → Bool
is_alarm_operand S None = true
is_alarm_operand S (Some a) = nat_lt a (length S.alarms)

-- a standard resource, or RES_SCHEDULER where it exists
abbrev pub may_be_got : System → ResId → Bool
may_be_got S (ResId.Declared r) = nat_lt r (length S.resources) && not (is_internal S r)
may_be_got S ResId.Scheduler = S.use_res_scheduler

abbrev pub is_resource_operand : System → Option ResId → Bool
is_resource_operand S None = true
is_resource_operand S (Some r) = may_be_got S r

abbrev pub is_register : ℕ → Bool
is_register r = nat_lt r REGISTERS

abbrev pub is_proper_plain : ℕ → PlainInstr → Bool
is_proper_plain size Plain.Nop = true
is_proper_plain size (Plain.Li d n) = is_register d && is_word n
is_proper_plain size (Plain.Mov d a) = is_register d && is_register a
is_proper_plain size (Plain.Compute operation d a b) = is_register d && is_register a && is_register b
is_proper_plain size (Plain.Ld d a) = is_register d && is_register a
is_proper_plain size (Plain.St a b) = is_register a && is_register b
is_proper_plain size (Plain.Jmp to) = nat_lt to size
is_proper_plain size (Plain.JumpIf test a b to) = is_register a && is_register b && nat_lt to size

abbrev pub is_proper_service : System → ServiceCall → Bool
is_proper_service S (Service.ActivateTask t) = is_task_operand S t
is_proper_service S Service.TerminateTask = true
is_proper_service S (Service.ChainTask t) = is_task_operand S t
is_proper_service S Service.Schedule = true
is_proper_service S Service.GetTaskId = true
is_proper_service S (Service.GetTaskState t) = is_task_operand S t
is_proper_service S (Service.GetResource r) = is_resource_operand S r
is_proper_service S (Service.ReleaseResource r) = is_resource_operand S r
is_proper_service S (Service.LoadShared r x) = is_resource_operand S r && is_register x
is_proper_service S (Service.StoreShared r x y) = is_resource_operand S r && is_register x && is_register y
is_proper_service S (Service.SetEvent t m) = is_task_operand S t && is_proper_mask m
is_proper_service S (Service.ClearEvent m) = is_proper_mask m
is_proper_service S (Service.GetEvent t) = is_task_operand S t
is_proper_service S (Service.WaitEvent m) = is_proper_mask m
is_proper_service S (Service.SetRelAlarm a x y) = is_alarm_operand S a && is_register x && is_register y
is_proper_service S (Service.SetAbsAlarm a x y) = is_alarm_operand S a && is_register x && is_register y
is_proper_service S (Service.CancelAlarm a) = is_alarm_operand S a
is_proper_service S (Service.GetAlarm a) = is_alarm_operand S a
is_proper_service S (Service.GetAlarmBase a) = is_alarm_operand S a

-- only a routine returns from an interrupt
abbrev pub is_proper_control : Bool → Control ℕ → Bool
is_proper_control in_routine (Control.ShutdownOs n) = is_word n
is_proper_control in_routine Control.ReturnFromInterrupt = in_routine
is_proper_control in_routine _ = true

abbrev pub is_proper_instruction : System → Bool → ℕ → Instr → Bool
is_proper_instruction S in_routine size (Instr.Plain p) = is_proper_plain size p
is_proper_instruction S in_routine size (Instr.Service call) = is_proper_service S call
is_proper_instruction S in_routine size (Instr.Control control) = is_proper_control in_routine control

-- after which no instruction follows
abbrev pub is_end_instruction : Instr → Bool
is_end_instruction (Instr.Plain (Plain.Jmp to)) = true
is_end_instruction (Instr.Control Control.ReturnFromInterrupt) = true
is_end_instruction _ = false

-- whether a program can't be left at its end
abbrev pub ends_well : List Instr → Bool
ends_well program = option_map_or is_end_instruction (slice_get program (length program - 1)) false

-- a program's operands exist, and it can't be left at its end
abbrev pub is_proper_program : System → Bool → List Instr → Bool
is_proper_program S in_routine program =
    list_all (is_proper_instruction S in_routine (length program)) program
    && ends_well program && nat_le (length program) MAX_INSTRUCTIONS

-- ---- objects

abbrev pub modes_exist : System → List ℕ → Bool
modes_exist S modes = list_all (λ m. nat_lt m (mode_count S)) modes

-- whether two elements of a list pass a test
abbrev pub has_two : {X : Type 0} → (X → Bool) → List X → Bool
has_two test [] = false
has_two test (x ∷ xs) = if test x then list_any test xs else has_two test xs

-- a task lists one internal resource at most, and with SCHEDULE NON none
abbrev pub is_single_internal : System → Schedule → List ℕ → Bool
is_single_internal S Schedule.Full resources = not (has_two (is_internal S) resources)
is_single_internal S Schedule.Non resources = not (list_any (is_internal S) resources)

-- known resources, each once
abbrev pub are_proper_resources : System → Schedule → List ℕ → Bool
are_proper_resources S schedule resources =
    list_all (λ r. nat_lt r (length S.resources)) resources && are_distinct resources
    && is_single_internal S schedule resources

-- an ACTIVATION, which is 1 for an extended task
abbrev pub is_proper_activation : ℕ → List ℕ → Bool
is_proper_activation activation events =
    nat_le 1 activation && nat_le activation MAX_ACTIVATION && (is_empty events || activation == 1)

abbrev pub is_proper_task : System → Task → Bool
is_proper_task S a =
    is_proper_activation a.activation a.events && list_all is_proper_mask a.events && modes_exist S a.autostart
    && are_proper_resources S a.schedule a.resources && is_proper_program S false a.program

abbrev pub is_proper_routine : System → Routine → Bool
is_proper_routine S a = nat_le a.priority MAX_ROUTINE_PRIORITY && is_proper_program S true a.program

abbrev pub is_proper_counter : Counter → Bool
is_proper_counter c =
    nat_le 1 c.max_allowed_value && nat_le c.max_allowed_value MAX_COUNTS
    && nat_le 1 c.min_cycle && nat_le c.min_cycle c.max_allowed_value
    && nat_le 1 c.ticks_per_base && is_word c.ticks_per_base

abbrev pub is_proper_action : System → Action → Bool
is_proper_action S (Action.ActivateTask t) = nat_lt t (length S.tasks)
is_proper_action S (Action.SetEvent t m) = nat_lt t (length S.tasks) && is_extended S t && is_proper_mask m

abbrev pub is_proper_start : System → Counter → Option AlarmStart → Bool
is_proper_start S c None = true
is_proper_start S c (Some start) =
    nat_le 1 start.time && nat_le start.time c.max_allowed_value
    && (start.cycle == 0 || (nat_le c.min_cycle start.cycle && nat_le start.cycle c.max_allowed_value))
    && modes_exist S start.modes

abbrev pub is_proper_alarm : System → Alarm → Bool
is_proper_alarm S a =
    nat_lt a.counter (length S.counters) && is_proper_action S a.action
    && is_proper_start S (counter S a.counter) a.autostart

-- ---- the system

-- no more objects of a kind than allowed, and one mode at least
abbrev pub is_within_limits : System → Bool
is_within_limits S =
    nat_le (length S.tasks) MAX_TASKS && nat_le (length S.routines) MAX_ROUTINES && nat_le (length S.resources) MAX_RESOURCES
    && nat_le (length S.events) MAX_EVENTS && nat_le (length S.counters) MAX_COUNTERS && nat_le (length S.alarms) MAX_ALARMS
    && nat_le 1 (mode_count S) && nat_le (mode_count S) MAX_MODES

-- each object has a name
abbrev pub is_named_throughout : System → Bool
is_named_throughout S =
    length S.names.tasks == length S.tasks && length S.names.routines == length S.routines
    && length S.names.resources == length S.resources && length S.names.events == length S.events
    && length S.names.alarms == length S.alarms

-- names are proper, kind by kind
abbrev pub has_proper_names : Names → Bool
has_proper_names names =
    are_proper_names names.tasks && are_proper_names names.routines && are_proper_names names.resources
    && are_proper_names names.events && are_proper_names names.alarms && are_proper_names names.modes

-- each object is as generation checks it
abbrev pub has_proper_objects : System → Bool
has_proper_objects S =
    are_falling MAX_TASK_PRIORITY S.tasks && list_all (is_proper_task S) S.tasks && list_all (is_proper_routine S) S.routines
    && list_all is_proper_mask S.events && list_all is_proper_counter S.counters && list_all (is_proper_alarm S) S.alarms

-- a proper system: within the limits, named, and as generation checks
pub record IsProper (S : System) : Type 0 where
  pub limits : IsTrue (is_within_limits S)
  pub named : IsTrue (is_named_throughout S)
  pub names : IsTrue (has_proper_names S.names)
  pub objects : IsTrue (has_proper_objects S)
