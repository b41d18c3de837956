-- What an OIL file holds: the CPU's name, the OS object, and one list a kind in the order of declaration.
use Rattle.std.specs.Prelude.{ℕ, Bool, List, Option}
use Rattle.osek_base.specs.declared.task.Schedule.{Schedule}
use Rattle.osek_base.specs.declared.task.Property.{Property}
use Rattle.osek_base.specs.declared.task.Counter.{Counter}
use Rattle.osek_base.specs.declared.task.Hooks.{Hooks}
use Rattle.oil_reader.specs.declared.file.Mask.{Mask}
use Rattle.oil_reader.specs.declared.file.ActionObject.{ActionObject}

-- OS: which hooks are called, and whether RES_SCHEDULER may be got
pub record OsRecord : Type 0 where
  pub name : List ℕ
  pub hooks : Hooks
  pub use_res_scheduler : Bool

-- TASK; autostart are the application modes in which it starts by itself
pub record TaskRecord : Type 0 where
  pub name : List ℕ
  pub priority : ℕ
  pub schedule : Schedule
  pub activation : ℕ
  pub autostart : List (List ℕ)
  pub resources : List (List ℕ)
  pub events : List (List ℕ)

-- ISR of category 2
pub record IsrRecord : Type 0 where
  pub name : List ℕ
  pub priority : ℕ

-- RESOURCE
pub record ResourceRecord : Type 0 where
  pub name : List ℕ
  pub property : Property

-- EVENT
pub record EventRecord : Type 0 where
  pub name : List ℕ
  pub mask : Mask

-- COUNTER
pub record CounterRecord : Type 0 where
  pub name : List ℕ
  pub counter : Counter

-- the block of an alarm's AUTOSTART; times are counts of its counter
pub record AlarmStartRecord : Type 0 where
  pub alarm_time : ℕ
  pub cycle_time : ℕ
  pub app_modes : List (List ℕ)

-- ALARM
pub record AlarmRecord : Type 0 where
  pub name : List ℕ
  pub counter : List ℕ
  pub action : ActionObject
  pub autostart : Option AlarmStartRecord

-- a whole file
pub record Configuration : Type 0 where
  pub cpu : List ℕ
  pub os : OsRecord
  pub app_modes : List (List ℕ)
  pub tasks : List TaskRecord
  pub routines : List IsrRecord
  pub resources : List ResourceRecord
  pub events : List EventRecord
  pub counters : List CounterRecord
  pub alarms : List AlarmRecord
