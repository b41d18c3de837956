-- OIL: standard objects and their attributes. The attributes that each kind of object has, and their values.
use Rattle.std.specs.Prelude.{ℕ, List, [], ◌∷◌, Bool, true, false, ◌||◌, ◌&&◌, nat_le, if◌then◌else◌, codes}
use Rattle.std.specs.Str.{bytes_eq}
use Rattle.osek_base.specs.declared.limits.TheConstants.{MAX_TASK_PRIORITY, MAX_ROUTINE_PRIORITY, MAX_ACTIVATION}
use Rattle.oil_reader.specs.declared.syntax.Kind.{Kind}
use Rattle.oil_reader.specs.declared.syntax.Kind.TheVariants as kind
use Rattle.oil_reader.specs.declared.table.AttributeName.{AttributeName}
use Rattle.oil_reader.specs.declared.table.AttributeName.TheVariants.{Status, StartupHook, ErrorHook, ShutdownHook, PreTaskHook, PostTaskHook, UseResScheduler, UseGetServiceId, UseParameterAccess, TaskPriority, Schedule, Activation, TaskAutostart, TaskResource, TaskEvent, Category, IsrPriority, ResourceProperty, EventMask, MaxAllowedValue, TicksPerBase, MinCycle, AlarmCounter, AlarmAction, AlarmAutostart, ActionTask, ActionEvent, AlarmTime, CycleTime, StartMode}
use Rattle.oil_reader.specs.declared.table.Presence.{Presence}
use Rattle.oil_reader.specs.declared.table.Presence.TheVariants.{Required, Optional, SomeNames, AnyNames}
use Rattle.oil_reader.specs.Grammar.{Value, Named, Numeric}

abbrev pub word_of : AttributeName → List ℕ
word_of Status = codes "STATUS"
word_of StartupHook = codes "STARTUPHOOK"
word_of ErrorHook = codes "ERRORHOOK"
word_of ShutdownHook = codes "SHUTDOWNHOOK"
word_of PreTaskHook = codes "PRETASKHOOK"
word_of PostTaskHook = codes "POSTTASKHOOK"
word_of UseResScheduler = codes "USERESSCHEDULER"
word_of UseGetServiceId = codes "USEGETSERVICEID"
word_of UseParameterAccess = codes "USEPARAMETERACCESS"
word_of TaskPriority = codes "PRIORITY"
word_of Schedule = codes "SCHEDULE"
word_of Activation = codes "ACTIVATION"
word_of TaskAutostart = codes "AUTOSTART"
word_of TaskResource = codes "RESOURCE"
word_of TaskEvent = codes "EVENT"
word_of Category = codes "CATEGORY"
word_of IsrPriority = codes "PRIORITY"
word_of ResourceProperty = codes "RESOURCEPROPERTY"
word_of EventMask = codes "MASK"
word_of MaxAllowedValue = codes "MAXALLOWEDVALUE"
word_of TicksPerBase = codes "TICKSPERBASE"
word_of MinCycle = codes "MINCYCLE"
word_of AlarmCounter = codes "COUNTER"
word_of AlarmAction = codes "ACTION"
word_of AlarmAutostart = codes "AUTOSTART"
word_of ActionTask = codes "TASK"
word_of ActionEvent = codes "EVENT"
word_of AlarmTime = codes "ALARMTIME"
word_of CycleTime = codes "CYCLETIME"
word_of StartMode = codes "APPMODE"

-- ---- how often an attribute stands

abbrev pub presence_of : AttributeName → Presence
presence_of UseResScheduler = Optional
presence_of UseGetServiceId = Optional
presence_of UseParameterAccess = Optional
presence_of IsrPriority = Optional
presence_of StartMode = SomeNames
presence_of TaskResource = AnyNames
presence_of TaskEvent = AnyNames
presence_of _ = Required

-- a list attribute, which may stand several times, each time with another name
abbrev pub is_list : Presence → Bool
is_list SomeNames = true
is_list AnyNames = true
is_list _ = false

-- it may be left out
abbrev pub may_lack : Presence → Bool
may_lack Optional = true
may_lack AnyNames = true
may_lack _ = false

-- ---- which attributes a kind has

-- in the order of OIL's table
abbrev pub attributes_of : Kind → List AttributeName
attributes_of kind.Os = Status ∷ StartupHook ∷ ErrorHook ∷ ShutdownHook ∷ PreTaskHook ∷ PostTaskHook ∷ UseResScheduler ∷ UseGetServiceId ∷ UseParameterAccess ∷ []
attributes_of kind.AppMode = []
attributes_of kind.Task = TaskPriority ∷ Schedule ∷ Activation ∷ TaskAutostart ∷ TaskResource ∷ TaskEvent ∷ []
attributes_of kind.Isr = Category ∷ IsrPriority ∷ []
attributes_of kind.Resource = ResourceProperty ∷ []
attributes_of kind.Event = EventMask ∷ []
attributes_of kind.Counter = MaxAllowedValue ∷ TicksPerBase ∷ MinCycle ∷ []
attributes_of kind.Alarm = AlarmCounter ∷ AlarmAction ∷ AlarmAutostart ∷ []

-- ---- values

-- what an attribute's value may be
pub data Range : Type 0 where
  -- one of these words
  Words : List (List ℕ) → Range
  -- a number from the first to the second
  Between : ℕ → ℕ → Range
  -- any number of the text; all are below 2^32
  AnyNumber : Range
  -- AUTO, or any number but 0
  AutoOrPositive : Range
  AnyName : Range

abbrev pub switch : Range
switch = Words (codes "TRUE" ∷ codes "FALSE" ∷ [])

abbrev pub range_of : AttributeName → Range
range_of Status = Words (codes "EXTENDED" ∷ [])
range_of UseGetServiceId = Words (codes "FALSE" ∷ [])
range_of UseParameterAccess = Words (codes "FALSE" ∷ [])
range_of TaskPriority = Between 0 MAX_TASK_PRIORITY
range_of Schedule = Words (codes "NON" ∷ codes "FULL" ∷ [])
range_of Activation = Between 1 MAX_ACTIVATION
range_of TaskResource = AnyName
range_of TaskEvent = AnyName
range_of Category = Between 2 2
range_of IsrPriority = Between 0 MAX_ROUTINE_PRIORITY
range_of ResourceProperty = Words (codes "STANDARD" ∷ codes "INTERNAL" ∷ [])
range_of EventMask = AutoOrPositive
range_of MaxAllowedValue = AnyNumber
range_of TicksPerBase = AnyNumber
range_of MinCycle = AnyNumber
range_of AlarmCounter = AnyName
range_of AlarmAction = Words (codes "ACTIVATETASK" ∷ codes "SETEVENT" ∷ [])
range_of ActionTask = AnyName
range_of ActionEvent = AnyName
range_of AlarmTime = AnyNumber
range_of CycleTime = AnyNumber
range_of StartMode = AnyName
-- the hooks, USERESSCHEDULER and both AUTOSTART
range_of _ = switch

abbrev pub is_one_of : List (List ℕ) → List ℕ → Bool
is_one_of [] word = false
is_one_of (w ∷ ws) word = bytes_eq word w || is_one_of ws word

abbrev pub in_range : Range → Value → Bool
in_range (Words ws) (Named s) = is_one_of ws s
in_range (Between low high) (Numeric n) = nat_le low n && nat_le n high
in_range AnyNumber (Numeric n) = true
in_range AutoOrPositive (Named s) = bytes_eq s (codes "AUTO")
in_range AutoOrPositive (Numeric n) = nat_le 1 n
in_range AnyName (Named s) = true
in_range _ _ = false

abbrev pub accepts : AttributeName → Value → Bool
accepts p v = in_range (range_of p) v

-- the attributes of the block behind a value; none for a value that has no block
abbrev pub block_of : AttributeName → Value → List AttributeName
block_of TaskAutostart (Named s) = if bytes_eq s (codes "TRUE") then StartMode ∷ [] else []
block_of AlarmAutostart (Named s) = if bytes_eq s (codes "TRUE") then AlarmTime ∷ CycleTime ∷ StartMode ∷ [] else []
block_of AlarmAction (Named s) =
    if bytes_eq s (codes "ACTIVATETASK") then ActionTask ∷ []
    else (if bytes_eq s (codes "SETEVENT") then ActionTask ∷ ActionEvent ∷ [] else [])
block_of _ _ = []
