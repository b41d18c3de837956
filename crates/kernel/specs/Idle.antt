-- OSEK/VDX OS: task management; alarms. Ticks in which nothing happens but that nobody executes, done at once.
use Rattle.std.specs.Prelude.{ℕ, ◌≡◌, ◌<◌, ◌≤◌, ◌+◌, Bool, false, List, [], None}
use Rattle.osek_base.specs.declared.arrivals.Arrival.{Arrival}
use Rattle.osek_base.specs.Alarm.{due_alarms}
use Rattle.osek_base.specs.Trace.{arriving}
use Rattle.law_kept.specs.KeptService.{ByNobody, bare, caller_in}
use Rattle.law_kept.specs.KeptTick.{before_execution_in, silent_in, tick_in}
use Rattle.law_kept.specs.Quiet.{idle_step, later}
use Rattle.kernel.specs.Machine.{IsOfRun, IsRun, Machine, next_tick, picture, system_of}
use Rattle.kernel.specs.Processor.{Processor, at_tick, picture as picture_of, system_of as system_in}
use Rattle.kernel.specs.Watches.{Blocking, Watched}

-- so many ticks passed, in none of which an alarm is due
pub record HasPassed (n : ℕ) (old new : Processor) : Type 0 where
  pub none : (k : ℕ) → k < n → due_alarms (system_in old) (bare (picture_of (at_tick old (old.objects.tick + (k + 1))))) ≡ []
  pub after : new ≡ at_tick old (old.objects.tick + n)

-- nobody executed in the tick done last
abbrev pub rested : Blocking → Blocking
rested b = record b { told = record b.told { stamp = None } }

-- so many ticks passed, at most some, in which nobody executed
pub record Passes (most n : ℕ) (old new : Watched) : Type 0 where
  pub few : n ≤ most
  pub passed : HasPassed n old.processor new.processor
  pub rested : 0 < n → new.blocking ≡ rested old.blocking
  pub same : n ≡ 0 → new.blocking ≡ old.blocking

-- each run that had come here, and in whose next ticks, so many, nothing arrives, has come there
abbrev pub PassesOn : Bool → ℕ → Machine → Machine → Type 0
PassesOn counted n old new =
    (mode : ℕ) (arrivals : List Arrival) → ((k : ℕ) → k < n → arriving arrivals (next_tick old + k) ≡ [])
    → IsRun counted mode arrivals old → IsRun counted mode arrivals new

-- so many ticks, at most some, in which no interrupt arrives: in each nobody executes, and it leaves all as it was but
-- for the tick. The first tick is none of them
pub record StaysIdle (counted : Bool) (most n : ℕ) (old new : Machine) : Type 0 where
  pub few : n ≤ most
  pub system : system_of new ≡ system_of old
  pub after : picture new ≡ later n (picture old)
  pub none_due : (k : ℕ) → k < n → due_alarms (system_of old) (bare (later k (picture old))) ≡ []
  pub before : (k : ℕ) → k < n → before_execution_in (system_of old) [] (later k (picture old)) ≡ silent_in (later k (picture old))
  pub nobody : 0 < n → caller_in (picture old) ≡ ByNobody
  pub idle : (k : ℕ) → k < n → tick_in (system_of old) [] (later k (picture old)) ≡ idle_step (later k (picture old))
  pub on : 0 < n → (picture old).over ≡ false
  pub not_first : 0 < n → 1 ≤ next_tick old
  pub begun : 0 < n → old.unwritten ≡ []
  pub next : next_tick new ≡ next_tick old + n
  pub goes_on : PassesOn counted n old new
  pub of_run : IsOfRun counted new
