-- OSEK/VDX OS: system services. What services read and change of a running system, with queues and slots by
-- number: all that is kept of a state but the words of tasks and routines.
use Rattle.std.specs.Prelude.{ℕ, ◌≡◌, ◌<◌, Bool, List, Option, IfSome, slice_index_or, length}
use Rattle.osek_base.specs.System.{System, activation_of}
use Rattle.osek_base.specs.Ceiling.{top_priority}
use Rattle.osek_base.specs.State.{State, Active, Expiry, Words}
use Rattle.ready_queues.specs.declared.ready_queues.TheConstants.{LEVELS}
use Rattle.ready_queues.specs.LevelLists.{by_level}
use Rattle.alarms.specs.Alarms.{AlarmTable, IsTableOf}
use Rattle.law_kept.specs.Kept.{Kept, Slot, unbegun, kept}
use Rattle.law_kept.specs.Standing.{IsStanding, Fits, room_for}

-- the queues by level, the slots by task, the running task, also where its job has ended, which gone says; the windows of
-- resources; the system, and how many jobs there is room for
pub record Objects : Type 0 where
  pub system : System
  pub room : ℕ
  pub queues : List (List ℕ)
  pub slots : List Slot
  pub running : Option ℕ
  pub gone : Bool
  pub active : Option Active
  pub pending : List Bool
  pub disabled : Bool
  pub suspended_all : ℕ
  pub suspended_os : ℕ
  pub alarms : List (Option Expiry)
  pub masks : List ℕ
  pub shared : List (List ℕ)
  pub tick : ℕ
  pub over : Bool

-- the slot of a task
abbrev pub by_task : List Slot → ℕ → Slot
by_task slots t = slice_index_or slots t (unbegun 0)

-- what is kept, with the words of tasks and routines
abbrev pub kept_of : Words → Objects → Kept
kept_of words o =
    record {
      queues = by_level o.queues;
      slots = by_task o.slots;
      running = o.running;
      gone = o.gone;
      active = o.active;
      pending = o.pending;
      disabled = o.disabled;
      suspended_all = o.suspended_all;
      suspended_os = o.suspended_os;
      alarms = o.alarms;
      words = words;
      masks = o.masks;
      shared = o.shared;
      tick = o.tick;
      over = o.over;
    }

-- words for what doesn't depend on them
abbrev pub no_words : Words
no_words owner index = 0

-- what a service reads and changes, words aside
abbrev pub kept_in : Objects → Kept
kept_in o = kept_of no_words o

-- priorities are levels, and the number of a task's jobs fits a byte with one more
pub record HasBounds (S : System) : Type 0 where
  pub top : top_priority S < LEVELS
  pub activation : (t : ℕ) → t < length S.tasks → activation_of S t < 255

-- the lists have the lengths of the system's, the alarms are the system's, and the running task is one of its tasks
pub record IsSized (S : System) (listed : List Slot) (events : List ℕ) (flags : List Bool) (windows : List (List ℕ))
    (table : AlarmTable) (places : ℕ) (runner : Option ℕ) : Type 0 where
  pub bounds : HasBounds S
  pub slots : length listed ≡ length S.tasks
  pub masks : length events ≡ length S.tasks
  pub pending : length flags ≡ length S.routines
  pub shared : length windows ≡ length S.resources
  pub alarms : IsTableOf S table
  pub room : places ≡ room_for S
  pub running : IfSome runner (λ t. t < length S.tasks)

-- a state of a run, or one like it, is what the objects stand for
pub record StandsFor (o : Objects) (s : State) : Type 0 where
  pub standing : IsStanding o.system s
  pub same : kept_of s.words o ≡ kept o.system s

-- they stand for a state
abbrev pub Stands : Objects → Type 0
Stands o = (s : State) × StandsFor o s

-- what a step of a service may rely on
abbrev pub AreFit : Objects → Type 0
AreFit o = Fits o.system (kept_in o)
