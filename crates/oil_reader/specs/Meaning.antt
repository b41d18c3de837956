-- OIL: standard objects. What a file without a fault holds.
use Rattle.std.specs.Prelude.{ℕ, List, [], ◌∷◌, ◌++◌, map, Option, Some, None, Bool, true, false, not, if◌then◌else◌, codes}
use Rattle.std.specs.Str.{bytes_eq}
use Rattle.osek_base.specs.declared.task.Schedule.{Schedule}
use Rattle.osek_base.specs.declared.task.Schedule.TheVariants as schedule
use Rattle.osek_base.specs.declared.task.Property.{Property}
use Rattle.osek_base.specs.declared.task.Property.TheVariants as property
use Rattle.osek_base.specs.declared.task.Counter.{Counter}
use Rattle.osek_base.specs.declared.task.Hooks.{Hooks}
use Rattle.oil_reader.specs.declared.file.Mask.{Mask}
use Rattle.oil_reader.specs.declared.file.Mask.TheVariants as mask
use Rattle.oil_reader.specs.declared.file.ActionObject.{ActionObject}
use Rattle.oil_reader.specs.declared.file.ActionObject.TheVariants as action
use Rattle.oil_reader.specs.declared.syntax.Kind.{Kind}
use Rattle.oil_reader.specs.declared.syntax.Kind.TheVariants as kind
use Rattle.oil_reader.specs.declared.table.AttributeName.{AttributeName}
use Rattle.oil_reader.specs.declared.table.AttributeName.TheVariants.{StartupHook, ErrorHook, ShutdownHook, PreTaskHook, PostTaskHook, UseResScheduler, TaskPriority, Schedule as ScheduleName, Activation, TaskAutostart, TaskResource, TaskEvent, IsrPriority, ResourceProperty, EventMask, MaxAllowedValue, TicksPerBase, MinCycle, AlarmCounter, AlarmAction, AlarmAutostart, ActionTask, ActionEvent, AlarmTime, CycleTime, StartMode}
use Rattle.oil_reader.specs.Grammar.{Value, Named, Numeric, Setting, Block, Attribute, Object, File}
use Rattle.oil_reader.specs.Table.{word_of}
use Rattle.oil_reader.specs.Checks.{is_os}
use Rattle.oil_reader.specs.Configuration.{OsRecord, TaskRecord, IsrRecord, ResourceRecord, EventRecord, CounterRecord, AlarmStartRecord, AlarmRecord, Configuration}

-- ---- the value of an attribute

-- among settings that stand together
abbrev pub value_at : AttributeName → List Setting → Option Value
value_at p [] = None
value_at p (x ∷ xs) = if bytes_eq (word_of p) x.name then Some x.value else value_at p xs

-- the settings of the block behind it; none where it has no block
abbrev pub block_settings : Option Block → List Setting
block_settings None = []
block_settings (Some b) = b.settings

abbrev pub block_at : AttributeName → List Attribute → List Setting
block_at p [] = []
block_at p (a ∷ xs) = if bytes_eq (word_of p) a.setting.name then block_settings a.block else block_at p xs

-- the word that it is
abbrev pub says : Option Value → List ℕ → Bool
says (Some (Named s)) word = bytes_eq s word
says _ word = false

abbrev pub is_true : AttributeName → List Setting → Bool
is_true p xs = says (value_at p xs) (codes "TRUE")

-- the number that it is; 0 where it is none
abbrev pub number_in : Option Value → ℕ
number_in (Some (Numeric n)) = n
number_in _ = 0

abbrev pub number_at : AttributeName → List Setting → ℕ
number_at p xs = number_in (value_at p xs)

-- the name that it is; no file has the empty one
abbrev pub name_in : Option Value → List ℕ
name_in (Some (Named s)) = s
name_in _ = []

abbrev pub name_at : AttributeName → List Setting → List ℕ
name_at p xs = name_in (value_at p xs)

-- the names of a list attribute, in their order
abbrev pub names_in : Value → List (List ℕ)
names_in (Named s) = s ∷ []
names_in (Numeric n) = []

abbrev pub names_at : AttributeName → List Setting → List (List ℕ)
names_at p [] = []
names_at p (x ∷ xs) = (if bytes_eq (word_of p) x.name then names_in x.value else []) ++ names_at p xs

-- whether a name stands there
abbrev pub is_name : Option Value → Bool
is_name (Some (Named s)) = true
is_name _ = false

abbrev pub has_name : AttributeName → List Setting → Bool
has_name p xs = is_name (value_at p xs)

-- ---- objects

abbrev pub settings_in : Object → List Setting
settings_in o = map (λ a. a.setting) o.attributes

abbrev pub hooks_by : List Setting → Hooks
hooks_by xs = record {
  startup = is_true StartupHook xs;
  error = is_true ErrorHook xs;
  shutdown = is_true ShutdownHook xs;
  pre_task = is_true PreTaskHook xs;
  post_task = is_true PostTaskHook xs;
}

-- USERESSCHEDULER is TRUE where it is left out
abbrev pub os_by : List ℕ → List Setting → OsRecord
os_by name xs = record { name = name; hooks = hooks_by xs; use_res_scheduler = not (says (value_at UseResScheduler xs) (codes "FALSE")) }

abbrev pub os_record : Object → OsRecord
os_record o = os_by o.name (settings_in o)

abbrev pub schedule_by : Bool → Schedule
schedule_by is_non = if is_non then schedule.Non else schedule.Full

-- the modes of AUTOSTART = TRUE; none at FALSE
abbrev pub modes_by : Bool → List Setting → List (List ℕ)
modes_by starts block = if starts then names_at StartMode block else []

abbrev pub task_by : List ℕ → List Setting → List Setting → TaskRecord
task_by name xs block = record {
  name = name;
  priority = number_at TaskPriority xs;
  schedule = schedule_by (says (value_at ScheduleName xs) (codes "NON"));
  activation = number_at Activation xs;
  autostart = modes_by (is_true TaskAutostart xs) block;
  resources = names_at TaskResource xs;
  events = names_at TaskEvent xs;
}

abbrev pub task_record : Object → TaskRecord
task_record o = task_by o.name (settings_in o) (block_at TaskAutostart o.attributes)

-- PRIORITY is 0 where it is left out
abbrev pub isr_record : Object → IsrRecord
isr_record o = record { name = o.name; priority = number_at IsrPriority (settings_in o) }

abbrev pub property_by : Bool → Property
property_by is_internal = if is_internal then property.Internal else property.Standard

abbrev pub resource_record : Object → ResourceRecord
resource_record o = record { name = o.name; property = property_by (says (value_at ResourceProperty (settings_in o)) (codes "INTERNAL")) }

abbrev pub mask_in : Option Value → Mask
mask_in (Some (Numeric n)) = mask.Bits n
mask_in _ = mask.Auto

abbrev pub event_record : Object → EventRecord
event_record o = record { name = o.name; mask = mask_in (value_at EventMask (settings_in o)) }

abbrev pub counter_by : List Setting → Counter
counter_by xs = record { max_allowed_value = number_at MaxAllowedValue xs; ticks_per_base = number_at TicksPerBase xs; min_cycle = number_at MinCycle xs }

abbrev pub counter_record : Object → CounterRecord
counter_record o = record { name = o.name; counter = counter_by (settings_in o) }

abbrev pub action_by : Bool → List Setting → ActionObject
action_by sets_event block =
    if sets_event then action.SetEvent (name_at ActionTask block) (name_at ActionEvent block)
    else action.ActivateTask (name_at ActionTask block)

-- the block of AUTOSTART = TRUE
abbrev pub start_record : List Setting → AlarmStartRecord
start_record block = record { alarm_time = number_at AlarmTime block; cycle_time = number_at CycleTime block; app_modes = names_at StartMode block }

abbrev pub start_by : Bool → List Setting → Option AlarmStartRecord
start_by starts block = if starts then Some (start_record block) else None

abbrev pub alarm_by : List ℕ → List Setting → List Setting → List Setting → AlarmRecord
alarm_by name xs action_block start_block = record {
  name = name;
  counter = name_at AlarmCounter xs;
  action = action_by (says (value_at AlarmAction xs) (codes "SETEVENT")) action_block;
  autostart = start_by (is_true AlarmAutostart xs) start_block;
}

abbrev pub alarm_record : Object → AlarmRecord
alarm_record o = alarm_by o.name (settings_in o) (block_at AlarmAction o.attributes) (block_at AlarmAutostart o.attributes)

-- ---- a file

-- one more object, at the end of its kind's list; the OS object has none
abbrev pub add_by : Kind → Configuration → Object → Configuration
add_by kind.Os c o = c
add_by kind.AppMode c o = record c { app_modes = c.app_modes ++ o.name ∷ [] }
add_by kind.Task c o = record c { tasks = c.tasks ++ task_record o ∷ [] }
add_by kind.Isr c o = record c { routines = c.routines ++ isr_record o ∷ [] }
add_by kind.Resource c o = record c { resources = c.resources ++ resource_record o ∷ [] }
add_by kind.Event c o = record c { events = c.events ++ event_record o ∷ [] }
add_by kind.Counter c o = record c { counters = c.counters ++ counter_record o ∷ [] }
add_by kind.Alarm c o = record c { alarms = c.alarms ++ alarm_record o ∷ [] }

abbrev pub with_object : Configuration → Object → Configuration
with_object c o = add_by o.kind c o

abbrev pub with_objects : Configuration → List Object → Configuration
with_objects c [] = c
with_objects c (o ∷ os) = with_objects (with_object c o) os

-- the OS object; no file is without one
abbrev pub os_among : List Object → OsRecord
os_among [] = os_by [] []
os_among (o ∷ os) = if is_os o.kind then os_record o else os_among os

abbrev pub no_objects : List ℕ → OsRecord → Configuration
no_objects cpu os = record { cpu = cpu; os = os; app_modes = []; tasks = []; routines = []; resources = []; events = []; counters = []; alarms = [] }

-- what a file holds
abbrev pub configuration_of : File → Configuration
configuration_of f = with_objects (no_objects f.cpu (os_among f.objects)) f.objects
