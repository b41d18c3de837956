-- What an observed run keeps.
use Rattle.std.specs.Prelude.{ℕ, ◌≡◌, ◌<◌, ◌≤◌, ◌+◌, ◌-◌, ◌∷◌, ◌++◌, Bool, true, false, List, Option, IfSome, map, length}
use Rattle.osek_base.specs.declared.arrivals.Arrival.{Arrival}
use Rattle.osek_base.specs.declared.trace_event.TraceEvent.{TraceEvent}
use Rattle.osek_base.specs.declared.executed.Executed.{Executed}
use Rattle.osek_base.specs.declared.limits.TheConstants.{MAX_ARRIVALS, MAX_RECORDS}
use Rattle.osek_base.specs.Executed.{StandsIn, idle_or_executed}
use Rattle.osek_base.specs.Lists.{below}
use Rattle.osek_base.specs.State.{State}
use Rattle.osek_base.specs.System.{System}
use Rattle.osek_base.specs.Trace.{run}
use Rattle.seen_ticks.specs.declared.observation.Observation.{Observation}
use Rattle.law_blockers.specs.Steps.{record_at, step_at}
use Rattle.law_kept.specs.Kept.{kept}
use Rattle.kernel.specs.declared.at_instruction.AtInstruction.{AtInstruction}
use Rattle.kernel.specs.Progress.{Progress, run_of}
use Rattle.seen_runs.specs.declared.before.Before.{Before}
use Rattle.seen_runs.specs.Resting.{AreAtRest, IsRest}
use Rattle.seen_ticks.specs.Told.{task_at}
use Rattle.seen_ticks.specs.declared.execution.Execution.{Execution}
use Rattle.seen_ticks.specs.Observed.{IsObserved, Ticked, active_routine, ending, holders_seen, is_pending, jobs_before, moved, refusing, tick_at}

-- the tick of a run that was done last
abbrev pub last_tick : Progress → Ticked
last_tick r = tick_at r.system r.mode r.arrivals (r.ticks - 1)

-- the one that comes next
abbrev pub coming : Progress → Ticked
coming r = tick_at r.system r.mode r.arrivals r.ticks

-- what was known before a tick
pub record IsBefore (S : System) (k : Ticked) (before : Before) : Type 0 where
  pub jobs : before.jobs.items ≡ map (jobs_before k.first k.before) (below (length S.tasks))
  pub pending : before.pending.items ≡ map (is_pending k.before) (below (length S.routines))
  pub active : before.active ≡ active_routine k.before

-- the records of a tick, before and behind that of what it executed
pub record AreRecords (S : System) (executed : Option Executed) (ahead behind all : List TraceEvent) : Type 0 where
  pub recorded : ahead ++ idle_or_executed S executed ∷ behind ≡ all
  pub there : IfSome executed (StandsIn S)
  pub few : length ahead + length behind < MAX_RECORDS

-- what it executed
pub record IsExecution (S : System) (k : Ticked) (e : Execution) : Type 0 where
  pub executed : e.executed ≡ k.executed
  pub ending : e.ending ≡ ending S k.executed
  pub refusing : e.refusing ≡ refusing S k.executed
  pub moved : e.moved ≡ moved S k.executed

-- of tick n of a run, before which the run goes on, the state behind it, what it executed, and its records
pub record IsTold (S : System) (mode : ℕ) (arrivals : List Arrival) (n : ℕ) (now : State) (e : Execution) (ahead behind_it : List TraceEvent) : Type 0 where
  pub on : (run S mode arrivals n).state.over ≡ false
  pub behind : now ≡ (tick_at S mode arrivals n).after
  pub done : IsExecution S (tick_at S mode arrivals n) e
  pub records : AreRecords S e.executed ahead behind_it (record_at S mode arrivals n)

-- beside a run, its system, that its arrivals are few, and what is told of the tick done last
pub record IsTelling (r : Progress) (S : System) (e : Execution) (ahead behind : List TraceEvent) : Type 0 where
  pub system : r.system ≡ S
  pub few : length r.arrivals ≤ MAX_ARRIVALS
  pub told : 1 ≤ r.ticks → IsTold r.system r.mode r.arrivals (r.ticks - 1) (run_of r).state e ahead behind

-- behind a tick, what each task is
abbrev pub AreStanding : Progress → AtInstruction → Type 0
AreStanding r at = at.tasks.items ≡ map (task_at r.system (run_of r).state) (below (length r.system.tasks))

-- a tick more was done, which wasn't the first: nothing came to a routine or an alarm, and up to its instruction all was kept
pub record HasGoneSteadily (old new : Progress) : Type 0 where
  pub next : new ≡ record old { ticks = old.ticks + 1 }
  pub not_first : 1 ≤ old.ticks
  pub rest : IsRest (last_tick new)
  pub at : kept old.system (step_at old.system old.mode old.arrivals old.ticks).executing ≡ kept old.system (run_of old).state

-- what is known before the tick that comes next, what the tasks are behind the last one, and what was seen of it; whether its
-- holders are those before the next, too, and whether its routines and alarms are those of ticks in which nothing comes to any
pub record IsObservedRun (counted : Bool) (r : Progress) (before : Before) (at : AtInstruction) (o : Observation) (is_held rests : Bool) : Type 0 where
  pub known : IsBefore r.system (coming r) before
  pub standing : 1 ≤ r.ticks → AreStanding r at
  pub observed : 1 ≤ r.ticks → IsObserved counted r.system r.mode r.arrivals (r.ticks - 1) o
  pub held : is_held ≡ true → o.holders.items ≡ holders_seen r.system (run_of r).state
  pub resting : rests ≡ true → AreAtRest r.system (run_of r).state.pending o
