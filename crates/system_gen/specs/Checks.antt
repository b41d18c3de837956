-- OIL: standard objects and their attributes; OSEK/VDX OS: constraints. What generation refuses in an OIL file.
use Rattle.std.specs.Prelude.{◌≡◌, ℕ, Bool, true, not, ◌&&◌, ◌||◌, ◌==◌, ◌⊎◌, nat_lt, nat_le, if◌then◌else◌, List, [], ◌∷◌, Option, Some, None, Result, Ok, Err, length, bytes_eq}
use Rattle.std.specs.List.{list_any}
use Rattle.osek_base.specs.declared.limits.TheConstants.{MAX_MODES, MAX_TASKS, MAX_ROUTINES, MAX_RESOURCES, MAX_EVENTS, MAX_COUNTERS, MAX_COUNTS, MAX_ALARMS}
use Rattle.osek_base.specs.Lists.{is_empty}
use Rattle.osek_base.specs.Ceiling.{is_internal_property}
use Rattle.osek_base.specs.Proper.{has_two}
use Rattle.osek_base.specs.declared.task.Schedule.{Schedule}
use Rattle.osek_base.specs.declared.task.Counter.{Counter}
use Rattle.oil_reader.specs.declared.file.ActionObject.{ActionObject}
use Rattle.oil_reader.specs.Configuration.{Configuration, TaskRecord, ResourceRecord, CounterRecord, AlarmRecord, AlarmStartRecord}
use Rattle.system_gen.specs.declared.fault.ObjectKind.{ObjectKind}
use Rattle.system_gen.specs.declared.fault.GenFault.{GenFault}

-- the fault of the first that fails a test
abbrev pub first_fault : {X : Type 0} → (X → Bool) → (X → GenFault) → List X → Option GenFault
first_fault test fault [] = None
first_fault test fault (x ∷ xs) = if test x then first_fault test fault xs else Some (fault x)

-- an answered fault is the one that was found, or want of memory
abbrev pub IsFoundOrMemory : Option GenFault → GenFault → Type 0
IsFoundOrMemory found e = (e ≡ GenFault.Memory) ⊎ (found ≡ Some e)

-- what a check answers: nothing where no fault was found
abbrev pub Answers : {X : Type 0} → Option GenFault → Result X GenFault → Type 0
Answers found (Ok x) = found ≡ None
Answers found (Err e) = IsFoundOrMemory found e

-- the first kind of which there are more objects than a system may have
abbrev pub beyond_limit : Configuration → Option ObjectKind
beyond_limit f =
    if nat_lt MAX_MODES (length f.app_modes) then Some ObjectKind.AppMode
    else (if nat_lt MAX_TASKS (length f.tasks) then Some ObjectKind.Task
    else (if nat_lt MAX_ROUTINES (length f.routines) then Some ObjectKind.Isr
    else (if nat_lt MAX_RESOURCES (length f.resources) then Some ObjectKind.Resource
    else (if nat_lt MAX_EVENTS (length f.events) then Some ObjectKind.Event
    else (if nat_lt MAX_COUNTERS (length f.counters) then Some ObjectKind.Counter
    else (if nat_lt MAX_ALARMS (length f.alarms) then Some ObjectKind.Alarm else None))))))

-- an extended task, which is one that lists an event, has one activation at most
abbrev pub has_proper_activation : TaskRecord → Bool
has_proper_activation t = is_empty t.events || nat_le t.activation 1

-- whether a resource is the internal one of that name
abbrev pub is_internal_named : List ℕ → ResourceRecord → Bool
is_internal_named name r = is_internal_property r.property && bytes_eq r.name name

-- whether a name is that of an internal resource
abbrev pub is_internal : List ResourceRecord → List ℕ → Bool
is_internal resources name = list_any (is_internal_named name) resources

-- of these names one at most is that of an internal resource, and with SCHEDULE NON none
abbrev pub is_single_internal : List ResourceRecord → Schedule → List (List ℕ) → Bool
is_single_internal resources Schedule.Full names = not (has_two (is_internal resources) names)
is_single_internal resources Schedule.Non names = not (list_any (is_internal resources) names)

abbrev pub has_proper_resources : List ResourceRecord → TaskRecord → Bool
has_proper_resources resources t = is_single_internal resources t.schedule t.resources

-- a counter counts, and cycles fit between its MINCYCLE and its MAXALLOWEDVALUE
abbrev pub has_proper_values : Counter → Bool
has_proper_values c =
    nat_le 1 c.max_allowed_value && nat_le c.max_allowed_value MAX_COUNTS
    && nat_le 1 c.min_cycle && nat_le c.min_cycle c.max_allowed_value && nat_le 1 c.ticks_per_base

abbrev pub is_proper_counter : CounterRecord → Bool
is_proper_counter c = has_proper_values c.counter

-- whether a counter has the times of a start
abbrev pub fits : Counter → AlarmStartRecord → Bool
fits c start =
    nat_le 1 start.alarm_time && nat_le start.alarm_time c.max_allowed_value
    && (start.cycle_time == 0 || (nat_le c.min_cycle start.cycle_time && nat_le start.cycle_time c.max_allowed_value))

-- whether the counter of that name has the times of a start
abbrev pub fits_on : List ℕ → AlarmStartRecord → CounterRecord → Bool
fits_on name start c = bytes_eq c.name name && fits c.counter start

abbrev pub has_proper_start : List CounterRecord → List ℕ → Option AlarmStartRecord → Bool
has_proper_start counters name None = true
has_proper_start counters name (Some start) = list_any (fits_on name start) counters

-- whether a task is the extended one of that name
abbrev pub is_extended_named : List ℕ → TaskRecord → Bool
is_extended_named name t = bytes_eq t.name name && not (is_empty t.events)

-- events are set of extended tasks alone
abbrev pub has_proper_action : List TaskRecord → ActionObject → Bool
has_proper_action tasks (ActionObject.ActivateTask task) = true
has_proper_action tasks (ActionObject.SetEvent task event) = list_any (is_extended_named task) tasks

abbrev pub is_proper_alarm : Configuration → AlarmRecord → Bool
is_proper_alarm f a = has_proper_start f.counters a.counter a.autostart && has_proper_action f.tasks a.action

-- the faults of the tasks, counters and alarms of a file, each by the first that has it
abbrev pub activation_fault : List TaskRecord → Option GenFault
activation_fault tasks = first_fault has_proper_activation (λ t. GenFault.ExtendedActivation t.name) tasks

abbrev pub resource_fault : List ResourceRecord → List TaskRecord → Option GenFault
resource_fault resources tasks = first_fault (has_proper_resources resources) (λ t. GenFault.TwoInternal t.name) tasks

abbrev pub counter_fault : List CounterRecord → Option GenFault
counter_fault counters = first_fault is_proper_counter (λ c. GenFault.Counter c.name) counters

abbrev pub alarm_fault : Configuration → List AlarmRecord → Option GenFault
alarm_fault f alarms = first_fault (is_proper_alarm f) (λ a. GenFault.Alarm a.name) alarms
