-- OSEK/VDX OS: system start-up. A booted system between two ticks, and the runs that have come to it.
use Rattle.std.specs.Prelude.{ℕ, ◌≡◌, ◌<◌, ◌≤◌, ◌-◌, ◌+◌, ◌++◌, ◌∷◌, Bool, true, false, List, [], Option, IfSome, length, slice_index_or}
use Rattle.std.specs.List.{All}
use Rattle.osek_base.specs.declared.limits.TheConstants.{SHARED_WORDS, MAX_RECORDS, MAX_TICKS, MAX_TASK_PRIORITY}
use Rattle.osek_base.specs.declared.executed.Executed.{Executed}
use Rattle.osek_base.specs.Executed.{StandsIn, idle_or_executed}
use Rattle.osek_base.specs.declared.arrivals.Arrival.{Arrival}
use Rattle.osek_base.specs.declared.trace_event.TraceEvent.{TraceEvent}
use Rattle.osek_base.specs.BlockingText.{blockers_at}
use Rattle.osek_base.specs.Proper.{IsProper}
use Rattle.osek_base.specs.System.{System}
use Rattle.osek_base.specs.Trace.{arriving, run}
use Rattle.law_runs.specs.Arrived.{AreArrivals}
use Rattle.law_kept.specs.Kept.{Kept, kept}
use Rattle.law_kept.specs.KeptTick.{tick_in}
use Rattle.law_blockers.specs.Stamps.{levels_of, stamps_of}
use Rattle.law_blockers.specs.Restamping.{AreListed}
use Rattle.kernel.specs.Processor.{Processor, at_tick, picture as picture_of, system_of as system_in}
use Rattle.kernel.specs.declared.acted.Acted.{Acted}
use Rattle.kernel.specs.Stamping.{number_told}
use Rattle.kernel.specs.Told.{acted_at, acted_in}
use Rattle.services.specs.Objects.{Objects, kept_of}
use Rattle.kernel.specs.Watches.{Blocking, Watched}

-- the objects of the services and the words of windows at the tick that comes next, what tells the number of blockers, the
-- records of boot until a tick has them, and the alarms that acted in the tick done last
pub record Machine : Type 0 where
  pub processor : Processor
  pub blocking : Blocking
  pub unwritten : List TraceEvent
  pub acted : Acted

abbrev pub system_of : Machine → System
system_of m = system_in m.processor

-- all that is kept of a state
abbrev pub picture : Machine → Kept
picture m = picture_of m.processor

-- the number of the next tick
abbrev pub next_tick : Machine → ℕ
next_tick m = m.processor.objects.tick

-- it is at most the limit
pub record IsNextTick (m : Machine) (n : ℕ) : Type 0 where
  pub value : n ≡ next_tick m
  pub limit : n ≤ MAX_TICKS

-- of each level, the tick after the last one in which a job of it executed
pub record AreLast (S : System) (mode : ℕ) (arrivals : List Arrival) (ticks : ℕ) (last : List ℕ) : Type 0 where
  pub count : length last ≡ MAX_TASK_PRIORITY + 1
  pub each : (l : ℕ) → l ≤ MAX_TASK_PRIORITY → slice_index_or last l 0 ≡ levels_of S mode arrivals ticks l

-- a run has come to a picture, to unwritten records, and where blockers are counted to the stamps of jobs and the last ticks
-- of levels
pub record IsAt (counted : Bool) (S : System) (mode : ℕ) (arrivals : List Arrival) (n : ℕ) (m : Machine) : Type 0 where
  pub system : system_of m ≡ S
  pub same : picture m ≡ kept S (run S mode arrivals n).state
  pub unwritten : m.unwritten ≡ (run S mode arrivals n).unwritten
  pub stamped : counted ≡ true → AreListed S m.blocking.stamps (stamps_of S mode arrivals n) (run S mode arrivals n).state
  pub levels : counted ≡ true → AreLast S mode arrivals n m.blocking.told.last

-- and to the number of blockers and the alarms of the tick done last
pub record HasCome (counted : Bool) (S : System) (mode : ℕ) (arrivals : List Arrival) (n : ℕ) (m : Machine) : Type 0 where
  pub at : IsAt counted S mode arrivals n m
  pub numbered : counted ≡ true → 1 ≤ n → number_told m.blocking.told ≡ blockers_at S mode arrivals (n - 1)
  pub acted : 1 ≤ n → m.acted ≡ acted_at S mode arrivals (n - 1)

-- the run of the system in a mode, under some arrivals, has come to it
abbrev pub IsRun : Bool → ℕ → List Arrival → Machine → Type 0
IsRun counted mode arrivals m = HasCome counted (system_of m) mode arrivals (next_tick m) m

-- there is such a run, under arrivals that there may be
pub record IsOfRun (counted : Bool) (m : Machine) : Type 0 where
  pub proper : IsProper (system_of m)
  pub mode : ℕ
  pub arrivals : List Arrival
  pub arrive : AreArrivals (system_of m) arrivals
  pub come : IsRun counted mode arrivals m

-- what a machine keeps between ticks, at a clock that shows the tick before
pub record IsMachine (counted : Bool) (clock : ℕ) (m : Machine) : Type 0 where
  pub before : clock ≡ next_tick m - 1
  pub limit : next_tick m ≤ MAX_TICKS
  pub few : length m.unwritten ≤ 3
  pub none_later : 1 ≤ next_tick m → m.unwritten ≡ []
  pub of_run : IsOfRun counted m

-- a machine between ticks, by what a tick works on
abbrev pub between : Watched → ℕ → List TraceEvent → Acted → Machine
between w n opening acted = record { processor = at_tick w.processor n; blocking = w.blocking; unwritten = opening; acted = acted }

-- a tick in which the interrupts of some routines arrive: the system stays, the picture and the records become those of the
-- definitions' tick, and the records of boot stand in front where this is the first
pub record Ticks (arrived : List ℕ) (old new : Machine) (records : List TraceEvent) : Type 0 where
  pub system : system_of new ≡ system_of old
  pub after : picture new ≡ (tick_in (system_of old) arrived (picture old)).after
  pub events : records ≡ old.unwritten ++ (tick_in (system_of old) arrived (picture old)).events
  pub unwritten : new.unwritten ≡ []
  pub next : next_tick new ≡ next_tick old + 1

-- each run that had come here, and in whose next tick these interrupts arrive, has come to the next tick
abbrev pub GoesOn : Bool → List ℕ → Machine → Machine → Type 0
GoesOn counted arrived old new =
    (mode : ℕ) (arrivals : List Arrival) → arriving arrivals (next_tick old) ≡ arrived
    → IsRun counted mode arrivals old → IsRun counted mode arrivals new

-- a tick may be done in which the interrupts of some routines arrive: no ShutdownOS ended the run, the tick is below the
-- limit, and the routines are of the system
pub record MayTick (arrived : List ℕ) (m : Machine) : Type 0 where
  pub on : (picture m).over ≡ false
  pub limit : next_tick m < MAX_TICKS
  pub known : All (λ i. i < length (system_of m).routines) arrived

-- what a tick did, executed and recorded, before its instruction and behind it
pub record HasTicked (counted : Bool) (arrived : List ℕ) (old new : Machine) (before : List TraceEvent) (executed : Option Executed)
    (behind : List TraceEvent) : Type 0 where
  pub ticks : Ticks arrived old new (before ++ idle_or_executed (system_of old) executed ∷ behind)
  pub goes_on : GoesOn counted arrived old new
  pub was_of_run : IsOfRun counted old
  pub of_run : IsOfRun counted new
  pub there : IfSome executed (StandsIn (system_of old))
  pub few : length before + length behind < MAX_RECORDS
  pub acted : new.acted ≡ acted_in (system_of old) (picture old)

-- a word of the window of a standard resource
pub record IsSharedWord (S : System) (r i : ℕ) : Type 0 where
  pub resource : r < length S.resources
  pub index : i < SHARED_WORDS

-- the objects of a machine but the words, at the tick that was done last
pub record ShowsObjects (m : Machine) (o : Objects) : Type 0 where
  pub system : o.system ≡ system_of m
  pub picture : kept_of (picture_of m.processor).words (record o { tick = next_tick m }) ≡ picture_of m.processor
  pub clock : o.tick ≡ next_tick m - 1

-- its core of the services, at that tick
pub record IsCore (m : Machine) (o : Objects) : Type 0 where
  pub system : o.system ≡ system_of m
  pub objects : record o { tick = next_tick m } ≡ m.processor.objects
  pub clock : o.tick ≡ next_tick m - 1

-- what boot leaves: each run of the system in the mode begins with it
pub record IsBooted (counted : Bool) (S : System) (mode : ℕ) (m : Machine) : Type 0 where
  pub system : system_of m ≡ S
  pub proper : IsProper S
  pub first : next_tick m ≡ 0
  pub begins : (arrivals : List Arrival) → IsRun counted mode arrivals m
  pub of_run : IsOfRun counted m
