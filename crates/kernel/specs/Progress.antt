-- OSEK/VDX OS: system start-up. How far a run of a system has come.
use Rattle.std.specs.Prelude.{ℕ, ◌≡◌, ◌<◌, ◌≤◌, ◌+◌, ◌++◌, ◌∷◌, Bool, true, false, ◌||◌, nat_le, List, [], Option, Some, None, IfSome, Result, Err, IfOk, ◌↔◌, drop, length, map, slice_range}
use Rattle.std.specs.List.{All}
use Rattle.osek_base.specs.declared.limits.TheConstants.{MAX_RECORDS, MAX_TICKS}
use Rattle.osek_base.specs.declared.executed.Executed.{Executed}
use Rattle.osek_base.specs.declared.ids.Owner.{Owner}
use Rattle.osek_base.specs.declared.trace_event.TraceEvent.{TraceEvent}
use Rattle.osek_base.specs.Alarm.{due_alarms}
use Rattle.osek_base.specs.BlockingText.{blockers_at}
use Rattle.osek_base.specs.Executed.{StandsIn, idle_or_executed}
use Rattle.osek_base.specs.Proper.{IsProper}
use Rattle.osek_base.specs.declared.arrivals.Arrival.{Arrival}
use Rattle.osek_base.specs.System.{System}
use Rattle.osek_base.specs.ArrivalList.{are_in_order}
use Rattle.osek_base.specs.Laws.{StartsSingly, Excludes, BlocksOnce, Protects}
use Rattle.kernel.specs.declared.boot.BootFault.{BootFault}
use Rattle.law_blockers.specs.Steps.{record_at, step_at}
use Rattle.law_kept.specs.Kept.{Kept, kept}
use Rattle.law_kept.specs.Quiet.{later}
use Rattle.osek_base.specs.Trace.{Run, arriving, run}

-- the system, the mode, all arrivals, and the ticks done
pub record Progress : Type 0 where
  pub system : System
  pub mode : ℕ
  pub arrivals : List Arrival
  pub ticks : ℕ

-- what has run by then
abbrev pub run_of : Progress → Run
run_of r = run r.system r.mode r.arrivals r.ticks

-- whether no tick follows: after ShutdownOS, or when 1,000,000 ticks are done
abbrev pub is_over : Progress → Bool
is_over r = nat_le MAX_TICKS r.ticks || (run_of r).state.over

-- what holds up to every tick: of one task no job but the oldest is begun; a resource that a job may take and is refused
-- is held by that job itself; each time that a job becomes ready, it has at most one blocker; and while a job holds a
-- resource, its words change only by that job's own STR
pub record IsLawful (r : Progress) : Type 0 where
  pub single_start : (n : ℕ) → StartsSingly r.system r.mode r.arrivals n
  pub exclusion : (n : ℕ) → Excludes r.system r.mode r.arrivals n
  pub single_blocking : (n : ℕ) → BlocksOnce r.system r.mode r.arrivals n
  pub protection : (n : ℕ) → Protects r.system r.mode r.arrivals n

-- each arrival is of a routine of the system
abbrev pub AreKnown : System → List Arrival → Type 0
AreKnown S arrivals = All (λ a. a.routine < length S.routines) arrivals

-- of a list, the arrivals from the tick on stand in order from the cursor on
pub record AreLeft (arrivals : List Arrival) (cursor tick : ℕ) : Type 0 where
  pub within : cursor ≤ length arrivals
  pub ordered : are_in_order tick (drop cursor arrivals) ≡ true
  pub same : (t : ℕ) → tick ≤ t → arriving arrivals t ≡ arriving (drop cursor arrivals) t

-- the arrivals of a tick are those from the cursor up to the next
pub record HaveArrived (arrivals : List Arrival) (tick first next : ℕ) : Type 0 where
  pub these : arriving arrivals tick ≡ slice_range (map (λ a. a.routine) arrivals) first next
  pub left : AreLeft arrivals next (tick + 1)
  pub forward : first ≤ next

-- in no tick but that one does another interrupt arrive, where those left stand in order from it on
abbrev pub IsNextArrival : List Arrival → ℕ → ℕ → Type 0
IsNextArrival arrivals cursor next =
    (tick : ℕ) → (next ≡ tick → ⊥) → AreLeft arrivals cursor tick → HaveArrived arrivals tick cursor cursor

-- the routines whose interrupts arrive in a tick, and the arrivals left behind it; where the next one isn't in that tick, all stay
pub record TakesArrived (arrivals : List Arrival) (tick first next new_first new_next : ℕ) (these : List ℕ) : Type 0 where
  pub lent : these ≡ arriving arrivals tick
  pub arrive : HaveArrived arrivals tick first new_first
  pub ahead : IsNextArrival arrivals new_first new_next
  pub others_stay : (next ≡ tick → ⊥) → (new_first ≡ first) × (new_next ≡ next)

-- in none of so many ticks from one on, at most some, does an interrupt arrive; those left stand in order behind them
pub record AreFree (arrivals : List Arrival) (cursor tick most n : ℕ) : Type 0 where
  pub few : n ≤ most
  pub none : (k : ℕ) → k < n → arriving arrivals (tick + k) ≡ []
  pub left : AreLeft arrivals cursor (tick + n)

-- what a tick recorded, and where the run has come
pub record HasRun (old new : Progress) (recorded : List TraceEvent) : Type 0 where
  pub records : recorded ≡ record_at old.system old.mode old.arrivals old.ticks
  pub next : new ≡ record old { ticks = old.ticks + 1 }
  pub lawful : IsLawful new

-- the same of a tick whose records stand apart, before and behind that of what it executed
pub record HasRunApart (old new : Progress) (before : List TraceEvent) (executed : Option Executed) (behind : List TraceEvent) : Type 0 where
  pub records : before ++ idle_or_executed old.system executed ∷ behind ≡ record_at old.system old.mode old.arrivals old.ticks
  pub next : new ≡ record old { ticks = old.ticks + 1 }
  pub lawful : IsLawful new
  pub there : IfSome executed (StandsIn old.system)
  pub few : length before + length behind < MAX_RECORDS
  pub proper : IsProper old.system

-- and it was known before that nothing comes before the instruction of the running task: no interrupt arrives and no alarm is due,
-- so all that is kept of the state is the same before the tick and at its instruction. The first tick is none of these
pub record HasRunSteadily (old new : Progress) (executed : Executed) (behind : List TraceEvent) : Type 0 where
  pub ran : HasRunApart old new [] (Some executed) behind
  pub not_first : 1 ≤ old.ticks
  pub task : ℕ
  pub who : executed.owner ≡ Owner.Task task
  pub none_arrive : arriving old.arrivals old.ticks ≡ []
  pub none_due : due_alarms old.system (run_of old).state ≡ []
  pub at : kept old.system (step_at old.system old.mode old.arrivals old.ticks).executing ≡ kept old.system (run_of old).state

-- in a tick of a run nothing comes and nothing changes: no interrupt arrives, no alarm is due, no job has blockers, and what
-- is kept of the state is the same before it, at its instruction and, but for the tick, behind it
pub record LeavesAll (S : System) (mode : ℕ) (arrivals : List Arrival) (t : ℕ) (o : Kept) : Type 0 where
  pub none_arrive : arriving arrivals t ≡ []
  pub none_due : due_alarms S (run S mode arrivals t).state ≡ []
  pub no_blockers : blockers_at S mode arrivals t ≡ None
  pub before : kept S (run S mode arrivals t).state ≡ o
  pub at : kept S (step_at S mode arrivals t).executing ≡ o
  pub behind : kept S (step_at S mode arrivals t).after ≡ later 1 o

-- so many ticks were done, at most some and none of them the first, in each of which nothing happened but that nobody
-- executed
pub record HasIdled (most : ℕ) (old new : Progress) (n : ℕ) : Type 0 where
  pub few : n ≤ most
  pub not_first : 0 < n → 1 ≤ old.ticks
  pub records : (k : ℕ) → k < n → record_at old.system old.mode old.arrivals (old.ticks + k) ≡ TraceEvent.Idle ∷ []
  pub going : (k : ℕ) → k < n → (run old.system old.mode old.arrivals (old.ticks + k)).state.over ≡ false
  pub stays : (k : ℕ) → k < n → LeavesAll old.system old.mode old.arrivals (old.ticks + k) (later k (kept old.system (run_of old).state))
  pub next : new ≡ record old { ticks = old.ticks + n }
  pub lawful : IsLawful new

-- what boot answers in the mode of a name: a run with no tick done, or that the system has no such mode, or a refused growth
pub record Boots (S : System) (mode : Option ℕ) (list : List Arrival) (r : Result Progress BootFault) : Type 0 where
  pub booted : IfOk r (λ k. (k.system ≡ S) × (k.arrivals ≡ list) × (k.ticks ≡ 0) × (mode ≡ Some k.mode))
  pub lawful : IfOk r IsLawful
  pub unknown : (r ≡ Err BootFault.UnknownMode) ↔ (mode ≡ None)
