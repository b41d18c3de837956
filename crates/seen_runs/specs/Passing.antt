-- Ticks of an observed run in which the same is seen.
use Rattle.std.specs.Prelude.{ℕ, ◌≡◌, ◌<◌, ◌≤◌, ◌+◌, ◌-◌, ◌&&◌, Bool, true, false, List, [], ◌∷◌, Option, None}
use Rattle.std.specs.Option.{option_map}
use Rattle.osek_base.specs.declared.arrivals.Arrival.{Arrival}
use Rattle.osek_base.specs.declared.executed.Executed.{Executed}
use Rattle.osek_base.specs.declared.ids.Owner.{Owner}
use Rattle.osek_base.specs.Alarm.{due_alarms}
use Rattle.osek_base.specs.BlockingText.{blockers_at}
use Rattle.osek_base.specs.Executed.{idle_or_executed}
use Rattle.osek_base.specs.System.{System}
use Rattle.osek_base.specs.Trace.{arriving, run}
use Rattle.seen_ticks.specs.declared.observation.Observation.{Observation}
use Rattle.seen_ticks.specs.declared.task_seen.TaskSeen.{TaskSeen}
use Rattle.law_blockers.specs.Steps.{record_at, step_at}
use Rattle.law_kept.specs.Kept.{Kept, kept}
use Rattle.kernel.specs.Progress.{Progress, is_over, run_of}
use Rattle.kernel.specs.Working.{at_rest}
use Rattle.seen_runs.specs.Keeping.{last_tick}
use Rattle.seen_runs.specs.Resting.{IsRest}
use Rattle.seen_ticks.specs.declared.task_at.TaskAt.{TaskAt}
use Rattle.seen_ticks.specs.Told.{due_in, task_at}
use Rattle.seen_ticks.specs.Observed.{IsObserved, Ticked, answered, ending, failure_of, is_by, is_waiting, moved, owner_of, refusing, state_seen, task_seen}

-- in a tick of a run nothing comes to a task, routine, resource or alarm: no interrupt arrives, no alarm is due, no number of
-- blockers is told where they are counted, who executes, if anybody does, is no routine, is answered nothing and neither ends a
-- job nor makes one, and at rest what is kept of the state is the same before the tick, at its instruction and behind it
pub record StaysAlike (counted : Bool) (S : System) (mode : ℕ) (arrivals : List Arrival) (t : ℕ) (o : Kept) (who : Option Owner) : Type 0 where
  pub none_arrive : arriving arrivals t ≡ []
  pub none_due : due_alarms S (run S mode arrivals t).state ≡ []
  pub no_blockers : counted ≡ true → blockers_at S mode arrivals t ≡ None
  pub executed : Option Executed
  pub recorded : record_at S mode arrivals t ≡ idle_or_executed S executed ∷ []
  pub owner : option_map owner_of executed ≡ who
  pub no_routine : (i : ℕ) → is_by (Owner.Routine i) executed ≡ false
  pub answer : answered executed ≡ None
  pub failure : failure_of executed ≡ None
  pub ends : ending S executed ≡ None
  pub refuses : refusing S executed ≡ None
  pub moves : moved S executed ≡ false
  pub before : at_rest (kept S (run S mode arrivals t).state) ≡ at_rest o
  pub at : at_rest (kept S (step_at S mode arrivals t).executing) ≡ at_rest o
  pub behind : at_rest (kept S (step_at S mode arrivals t).after) ≡ at_rest o

-- so many ticks were done, at most some and none of them the first, each of which is such a tick; who executes is the same in
-- each, and the last of them executed that
pub record HasStayed (counted : Bool) (most : ℕ) (old new : Progress) (n : ℕ) (last : Option Executed) : Type 0 where
  pub few : n ≤ most
  pub not_first : 0 < n → 1 ≤ old.ticks
  pub going : (k : ℕ) → k < n → (run old.system old.mode old.arrivals (old.ticks + k)).state.over ≡ false
  pub who : Option Owner
  pub stays : (k : ℕ) → k < n
      → StaysAlike counted old.system old.mode old.arrivals (old.ticks + k) (kept old.system (run_of old).state) who
  pub recorded : 0 < n → record_at old.system old.mode old.arrivals (old.ticks + (n - 1)) ≡ idle_or_executed old.system last ∷ []
  pub next : new ≡ record old { ticks = old.ticks + n }

pub record StaysOn (counted : Bool) (most : ℕ) (old new : Progress) (n : ℕ) : Type 0 where
  pub last : Option Executed
  pub stayed : HasStayed counted most old new n last

-- the records of a tick of a run tell that nobody executed, or an instruction that is answered nothing, and no more
pub record TellsNoAnswer (S : System) (mode : ℕ) (arrivals : List Arrival) (t : ℕ) : Type 0 where
  pub executed : Option Executed
  pub recorded : record_at S mode arrivals t ≡ idle_or_executed S executed ∷ []
  pub answer : answered executed ≡ None

-- so many ticks were done, at most some, before each of which the run goes on, in none of which an interrupt arrives or an alarm
-- is due, and whose records tell no answer: what is seen of the last is, but for its number, what is seen of each
pub record PassesAlike (counted : Bool) (most : ℕ) (old new : Progress) (n : ℕ) : Type 0 where
  pub few : n ≤ most
  pub next : new ≡ record old { ticks = old.ticks + n }
  pub going : (k : ℕ) → k < n → is_over (record old { ticks = old.ticks + k }) ≡ false
  pub none_arrive : (k : ℕ) → k < n → arriving old.arrivals (old.ticks + k) ≡ []
  pub none_due : (k : ℕ) → k < n → due_in old.system old.mode old.arrivals (old.ticks + k) ≡ []
  pub none_answered : (k : ℕ) → k < n → TellsNoAnswer old.system old.mode old.arrivals (old.ticks + k)
  pub alike : (k : ℕ) → k < n → (o : Observation)
      → IsObserved counted old.system old.mode old.arrivals (new.ticks - 1) o
      → IsObserved counted old.system old.mode old.arrivals (old.ticks + k) (record o { tick = old.ticks + k })

-- what is seen of a task to which nothing comes, by whether it executes, and what it is
abbrev pub task_left : Bool → TaskAt → TaskSeen
task_left executes at =
    record {
      state = state_seen executes at.state;
      priority = at.priority;
      jobs = at.jobs;
      made = 0;
      refused = 0;
      ended = false;
      waits = executes && is_waiting at.state;
    }

-- nothing comes to anything in a tick: tasks are behind it what they are at its instruction, and nothing comes to a routine or an
-- alarm
pub record LeavesAll (S : System) (k : Ticked) : Type 0 where
  pub each : (t : ℕ) → task_seen S k t ≡ task_left (is_by (Owner.Task t) k.executed) (task_at S k.after t)
  pub rest : IsRest k

-- the tick that was done last is answered nothing
pub record IsUnanswered (r : Progress) : Type 0 where
  pub answer : answered (last_tick r).executed ≡ None
  pub failure : failure_of (last_tick r).executed ≡ None
