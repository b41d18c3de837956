-- OIL: standard objects. What the reader has checked of all that a file holds.
use Rattle.std.specs.Prelude.{◌≡◌, ℕ, Bool, true, false, not, ◌&&◌, nat_le, nat_lt, ◌^◌, List, [], ◌∷◌, map, Option, Some, None, length}
use Rattle.std.specs.List.{list_all}
use Rattle.osek_base.specs.declared.limits.TheConstants.{MAX_TASK_PRIORITY, MAX_ROUTINE_PRIORITY, MAX_ACTIVATION}
use Rattle.osek_base.specs.Lists.{is_empty}
use Rattle.osek_base.specs.Names.{are_distinct_names}
use Rattle.osek_base.specs.Proper.{are_proper_names}
use Rattle.osek_base.specs.Words.{is_letter, is_word_byte}
use Rattle.osek_base.specs.declared.task.Counter.{Counter}
use Rattle.oil_reader.specs.declared.syntax.Kind.{Kind}
use Rattle.oil_reader.specs.declared.syntax.Kind.TheVariants as kind
use Rattle.oil_reader.specs.declared.file.Mask.{Mask}
use Rattle.oil_reader.specs.declared.file.Mask.TheVariants as mask
use Rattle.oil_reader.specs.declared.file.ActionObject.{ActionObject}
use Rattle.oil_reader.specs.declared.file.ActionObject.TheVariants as action
use Rattle.oil_reader.specs.Table.{is_one_of}
use Rattle.oil_reader.specs.Attributes.{reserved}
use Rattle.oil_reader.specs.Configuration.{OsRecord, TaskRecord, IsrRecord, ResourceRecord, EventRecord, CounterRecord, AlarmStartRecord, AlarmRecord, Configuration}

-- ---- names and numbers

-- a name as it stands in a text: a letter or _, then letters, digits and _, 32 bytes at most
abbrev pub is_name : List ℕ → Bool
is_name [] = false
is_name (b ∷ bytes) = is_letter b && list_all is_word_byte bytes && nat_le (length bytes) 31

abbrev pub are_names : List (List ℕ) → Bool
are_names names = list_all is_name names

-- a name that an object of the kind may have
abbrev pub is_object_name : Kind → List ℕ → Bool
is_object_name k name = is_name name && not (is_one_of (reserved k) name)

-- a number of a text has 32 bits
abbrev pub is_number : ℕ → Bool
is_number n = nat_lt n (2 ^ 32)

-- ---- objects

abbrev pub is_checked_os : OsRecord → Bool
is_checked_os o = is_object_name kind.Os o.name

-- a task's numbers are in range, and no list names one object twice
abbrev pub is_checked_task : TaskRecord → Bool
is_checked_task t =
    is_object_name kind.Task t.name && nat_le t.priority MAX_TASK_PRIORITY && nat_le 1 t.activation && nat_le t.activation MAX_ACTIVATION
    && are_distinct_names t.autostart && are_distinct_names t.resources && are_distinct_names t.events
    && are_names t.autostart && are_names t.resources && are_names t.events

abbrev pub is_checked_isr : IsrRecord → Bool
is_checked_isr i = is_object_name kind.Isr i.name && nat_le i.priority MAX_ROUTINE_PRIORITY

abbrev pub is_checked_resource : ResourceRecord → Bool
is_checked_resource r = is_object_name kind.Resource r.name

-- a MASK that is a number isn't 0
abbrev pub is_checked_mask : Mask → Bool
is_checked_mask mask.Auto = true
is_checked_mask (mask.Bits n) = nat_le 1 n && is_number n

abbrev pub is_checked_event : EventRecord → Bool
is_checked_event e = is_object_name kind.Event e.name && is_checked_mask e.mask

abbrev pub are_numbers : Counter → Bool
are_numbers c = is_number c.max_allowed_value && is_number c.ticks_per_base && is_number c.min_cycle

abbrev pub is_checked_counter : CounterRecord → Bool
is_checked_counter c = is_object_name kind.Counter c.name && are_numbers c.counter

-- an alarm that starts by itself does so in one mode at least
abbrev pub is_checked_start : Option AlarmStartRecord → Bool
is_checked_start None = true
is_checked_start (Some s) =
    not (is_empty s.app_modes) && are_distinct_names s.app_modes && are_names s.app_modes
    && is_number s.alarm_time && is_number s.cycle_time

abbrev pub is_checked_action : ActionObject → Bool
is_checked_action (action.ActivateTask task) = is_name task
is_checked_action (action.SetEvent task event) = is_name task && is_name event

abbrev pub is_checked_alarm : AlarmRecord → Bool
is_checked_alarm a = is_object_name kind.Alarm a.name && is_name a.counter && is_checked_action a.action && is_checked_start a.autostart

-- ---- lists of objects: names have 1 to 32 bytes, and none stands twice in one kind

abbrev pub are_checked : {X : Type 0} → (X → Bool) → (X → List ℕ) → List X → Bool
are_checked test name xs = list_all test xs && are_proper_names (map name xs)

abbrev pub are_checked_modes : List (List ℕ) → Bool
are_checked_modes names = not (is_empty names) && list_all (is_object_name kind.AppMode) names && are_proper_names names

abbrev pub are_checked_tasks : List TaskRecord → Bool
are_checked_tasks = are_checked is_checked_task (λ x. x.name)

abbrev pub are_checked_isrs : List IsrRecord → Bool
are_checked_isrs = are_checked is_checked_isr (λ x. x.name)

abbrev pub are_checked_resources : List ResourceRecord → Bool
are_checked_resources = are_checked is_checked_resource (λ x. x.name)

abbrev pub are_checked_events : List EventRecord → Bool
are_checked_events = are_checked is_checked_event (λ x. x.name)

abbrev pub are_checked_counters : List CounterRecord → Bool
are_checked_counters = are_checked is_checked_counter (λ x. x.name)

abbrev pub are_checked_alarms : List AlarmRecord → Bool
are_checked_alarms = are_checked is_checked_alarm (λ x. x.name)

-- a whole file
abbrev pub is_checked : Configuration → Bool
is_checked c =
    is_name c.cpu && is_checked_os c.os
    && are_checked_modes c.app_modes && are_checked_tasks c.tasks && are_checked_isrs c.routines && are_checked_resources c.resources
    && are_checked_events c.events && are_checked_counters c.counters && are_checked_alarms c.alarms

-- each part of a whole file
pub record CheckedParts (c : Configuration) : Type 0 where
  pub cpu : is_name c.cpu ≡ true
  pub os : is_checked_os c.os ≡ true
  pub app_modes : are_checked_modes c.app_modes ≡ true
  pub tasks : are_checked_tasks c.tasks ≡ true
  pub routines : are_checked_isrs c.routines ≡ true
  pub resources : are_checked_resources c.resources ≡ true
  pub events : are_checked_events c.events ≡ true
  pub counters : are_checked_counters c.counters ≡ true
  pub alarms : are_checked_alarms c.alarms ≡ true
