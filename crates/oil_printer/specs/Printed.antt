-- OIL: standard objects and their attributes. The text of what a file holds. Attributes stand in the order of OIL's table;
-- USERESSCHEDULER and an ISR's PRIORITY are always printed, USEGETSERVICEID and USEPARAMETERACCESS never.
use Rattle.std.specs.Prelude.{ℕ, Bool, true, false, List, [], ◌∷◌, ◌++◌, map, Option, Some, None, codes}
use Rattle.osek_base.specs.declared.task.Schedule.{Schedule}
use Rattle.osek_base.specs.declared.task.Schedule.TheVariants as schedule
use Rattle.osek_base.specs.declared.task.Property.{Property}
use Rattle.osek_base.specs.declared.task.Property.TheVariants as property
use Rattle.oil_reader.specs.declared.file.Mask.{Mask}
use Rattle.oil_reader.specs.declared.file.Mask.TheVariants as mask
use Rattle.oil_reader.specs.declared.file.ActionObject.{ActionObject}
use Rattle.oil_reader.specs.declared.file.ActionObject.TheVariants as action
use Rattle.oil_reader.specs.declared.syntax.Kind.{Kind}
use Rattle.oil_reader.specs.declared.syntax.Kind.TheVariants as kind
use Rattle.oil_reader.specs.declared.table.AttributeName.{AttributeName}
use Rattle.oil_reader.specs.declared.table.AttributeName.TheVariants.{Status, StartupHook, ErrorHook, ShutdownHook, PreTaskHook, PostTaskHook, UseResScheduler, TaskPriority, Schedule as ScheduleName, Activation, TaskAutostart, TaskResource, TaskEvent, Category, IsrPriority, ResourceProperty, EventMask, MaxAllowedValue, TicksPerBase, MinCycle, AlarmCounter, AlarmAction, AlarmAutostart, ActionTask, ActionEvent, AlarmTime, CycleTime, StartMode}
use Rattle.oil_reader.specs.Grammar.{Value, Named, Numeric, Setting, Attribute, Object, File}
use Rattle.oil_reader.specs.Table.{word_of}
use Rattle.oil_reader.specs.Configuration.{OsRecord, TaskRecord, IsrRecord, ResourceRecord, EventRecord, CounterRecord, AlarmStartRecord, AlarmRecord, Configuration}
use Rattle.oil_printer.specs.Layout.{file_text}

-- ---- settings, attributes and objects; a tree that is to be printed has no places, so they are 0

-- word = value
abbrev pub setting : List ℕ → Value → Setting
setting word value = record { name = word; name_place = 0; value = value; value_place = 0 }

-- an attribute without a block
abbrev pub line : List ℕ → Value → Attribute
line word value = record { setting = setting word value; block = None; «end» = 0 }

-- an attribute with a block
abbrev pub line_with : List ℕ → Value → List Setting → Attribute
line_with word value settings = record { setting = setting word value; block = Some (record { settings = settings; close = 0 }); «end» = 0 }

abbrev pub object : Kind → List ℕ → List Attribute → Object
object k name attributes = record { kind = k; name = name; place = 0; attributes = attributes; «end» = 0 }

-- a list attribute, once for each name
abbrev pub lines_of : AttributeName → List (List ℕ) → List Attribute
lines_of p names = map (λ name. line (word_of p) (Named name)) names

abbrev pub settings_of : AttributeName → List (List ℕ) → List Setting
settings_of p names = map (λ name. setting (word_of p) (Named name)) names

-- ---- the words of values

abbrev pub switch_word : Bool → List ℕ
switch_word true = codes "TRUE"
switch_word false = codes "FALSE"

abbrev pub schedule_word : Schedule → List ℕ
schedule_word schedule.Non = codes "NON"
schedule_word schedule.Full = codes "FULL"

abbrev pub property_word : Property → List ℕ
property_word property.Standard = codes "STANDARD"
property_word property.Internal = codes "INTERNAL"

abbrev pub mask_value : Mask → Value
mask_value mask.Auto = Named (codes "AUTO")
mask_value (mask.Bits n) = Numeric n

-- ---- objects

abbrev pub switch : AttributeName → Bool → Attribute
switch p b = line (word_of p) (Named (switch_word b))

abbrev pub os_attributes : OsRecord → List Attribute
os_attributes o =
    line (word_of Status) (Named (codes "EXTENDED"))
    ∷ switch StartupHook o.hooks.startup
    ∷ switch ErrorHook o.hooks.error
    ∷ switch ShutdownHook o.hooks.shutdown
    ∷ switch PreTaskHook o.hooks.pre_task
    ∷ switch PostTaskHook o.hooks.post_task
    ∷ switch UseResScheduler o.use_res_scheduler
    ∷ []

abbrev pub os_object : OsRecord → Object
os_object o = object kind.Os o.name (os_attributes o)

abbrev pub mode_object : List ℕ → Object
mode_object name = object kind.AppMode name []

-- AUTOSTART is FALSE where there is no mode
abbrev pub task_start : List (List ℕ) → Attribute
task_start [] = switch TaskAutostart false
task_start (mode ∷ modes) = line_with (word_of TaskAutostart) (Named (codes "TRUE")) (settings_of StartMode (mode ∷ modes))

abbrev pub task_attributes : TaskRecord → List Attribute
task_attributes t =
    line (word_of TaskPriority) (Numeric t.priority)
    ∷ line (word_of ScheduleName) (Named (schedule_word t.schedule))
    ∷ line (word_of Activation) (Numeric t.activation)
    ∷ task_start t.autostart
    ∷ (lines_of TaskResource t.resources ++ lines_of TaskEvent t.events)

abbrev pub task_object : TaskRecord → Object
task_object t = object kind.Task t.name (task_attributes t)

abbrev pub isr_object : IsrRecord → Object
isr_object i = object kind.Isr i.name (line (word_of Category) (Numeric 2) ∷ line (word_of IsrPriority) (Numeric i.priority) ∷ [])

abbrev pub resource_object : ResourceRecord → Object
resource_object r = object kind.Resource r.name (line (word_of ResourceProperty) (Named (property_word r.property)) ∷ [])

abbrev pub event_object : EventRecord → Object
event_object e = object kind.Event e.name (line (word_of EventMask) (mask_value e.mask) ∷ [])

abbrev pub counter_object : CounterRecord → Object
counter_object c = object kind.Counter c.name (
    line (word_of MaxAllowedValue) (Numeric c.counter.max_allowed_value)
    ∷ line (word_of TicksPerBase) (Numeric c.counter.ticks_per_base)
    ∷ line (word_of MinCycle) (Numeric c.counter.min_cycle)
    ∷ [])

abbrev pub action_line : ActionObject → Attribute
action_line (action.ActivateTask task) =
    line_with (word_of AlarmAction) (Named (codes "ACTIVATETASK")) (setting (word_of ActionTask) (Named task) ∷ [])
action_line (action.SetEvent task event) =
    line_with (word_of AlarmAction) (Named (codes "SETEVENT"))
    (setting (word_of ActionTask) (Named task) ∷ setting (word_of ActionEvent) (Named event) ∷ [])

abbrev pub start_settings : AlarmStartRecord → List Setting
start_settings s =
    setting (word_of AlarmTime) (Numeric s.alarm_time)
    ∷ setting (word_of CycleTime) (Numeric s.cycle_time)
    ∷ settings_of StartMode s.app_modes

abbrev pub alarm_start : Option AlarmStartRecord → Attribute
alarm_start None = switch AlarmAutostart false
alarm_start (Some s) = line_with (word_of AlarmAutostart) (Named (codes "TRUE")) (start_settings s)

abbrev pub alarm_object : AlarmRecord → Object
alarm_object a = object kind.Alarm a.name (line (word_of AlarmCounter) (Named a.counter) ∷ action_line a.action ∷ alarm_start a.autostart ∷ [])

-- ---- a file

-- kinds in the order of OIL's table, objects in list order
abbrev pub objects_of : Configuration → List Object
objects_of c =
    os_object c.os ∷ map mode_object c.app_modes
    ++ map task_object c.tasks
    ++ map isr_object c.routines
    ++ map resource_object c.resources
    ++ map event_object c.events
    ++ map counter_object c.counters
    ++ map alarm_object c.alarms

abbrev pub tree_of : Configuration → File
tree_of c = record { cpu = c.cpu; objects = objects_of c; close = 0 }

-- the text of a file
abbrev pub printed : Configuration → List ℕ
printed c = file_text (tree_of c)
