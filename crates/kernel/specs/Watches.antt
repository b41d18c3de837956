-- A system within a tick whose jobs' stamps are followed, and what a step does to both.
use Rattle.std.specs.Prelude.{ℕ, ◌≡◌, ◌<◌, ◌≤◌, ◌+◌, ◌∷◌, Bool, true, false, List, [], Option, None, IfSome, length, replicate, slice_index_or}
use Rattle.osek_base.specs.declared.executed.Executed.{Executed}
use Rattle.osek_base.specs.declared.ids.Owner.{Owner}
use Rattle.osek_base.specs.declared.limits.TheConstants.{MAX_ALARMS, MAX_RECORDS, MAX_TASK_PRIORITY, MAX_TICKS}
use Rattle.osek_base.specs.declared.status.Status.{Status}
use Rattle.osek_base.specs.Executed.{StandsIn, idle_or_executed}
use Rattle.osek_base.specs.declared.trace_event.TraceEvent.{TraceEvent}
use Rattle.osek_base.specs.System.{System, priority_of}
use Rattle.machine.specs.Packed.{instr_of}
use Rattle.law_kept.specs.Kept.{Kept}
use Rattle.law_kept.specs.KeptService.{caller_in}
use Rattle.law_kept.specs.KeptTick.{alarm_acts_in, alarm_phase_in, alarms_act_in, before_execution_in, execute_phase_in, last_phase_in}
use Rattle.law_kept.specs.Moves.{KeptRecorded, rescheduled}
use Rattle.law_kept.specs.Standing.{runner_waits}
use Rattle.services.specs.Calls.{calling_task}
use Rattle.law_blockers.specs.Restamping.{StampLists, alarm_restamped, alarm_phase_restamped, alarms_restamped, before_restamped, last_restamped, reschedule_restamped}
use Rattle.kernel.specs.Controls.{IsCall}
use Rattle.kernel.specs.Processor.{IsBefore, IsNext, MayExecute, MayFetch, Processor, at_tick, picture, system_of}
use Rattle.kernel.specs.declared.acted.Acted.{Acted}
use Rattle.kernel.specs.declared.next.Next.{Next}
use Rattle.seen_ticks.specs.Told.{acting_in, refused_of_in}
use Rattle.kernel.specs.Told.{acted_in}
use Rattle.std.specs.List.{AllByRecursion}
use Rattle.kernel.specs.Does.{Does}
use Rattle.kernel.specs.Stamping.{AreBegun, AreCounted, IsSpent, IsTask, Told, executed_restamped}

-- of each task by number the stamps of its jobs, the task of which it is known that its oldest job has none, and what tells
-- how many blockers the job had that executed last
pub record Blocking : Type 0 where
  pub stamps : StampLists
  pub spent : Option ℕ
  pub told : Told

-- where there is such a task, the level noted last is its own
abbrev pub HasLevel : System → Blocking → Type 0
HasLevel S b = IfSome b.spent (λ t. b.told.level ≡ priority_of S t)

-- the system, and what is followed of it
pub record Watched : Type 0 where
  pub processor : Processor
  pub blocking : Blocking

-- a step: what it records and leaves of a picture, and of the stamps, by the tick
pub record Step : Type 0 where
  pub does : System → Kept → KeptRecorded
  pub restamps : System → ℕ → Kept → StampLists → StampLists

-- it is done to the system, and to the stamps where they are counted
pub record Watches (counted : Bool) (step : Step) (tick : ℕ) (old new : Watched) (before after : List TraceEvent) : Type 0 where
  pub does : Does step.does old.processor new.processor before after
  pub stamps : counted ≡ true → new.blocking.stamps ≡ step.restamps (system_of old.processor) tick (picture old.processor) old.blocking.stamps
  pub told : new.blocking.told ≡ old.blocking.told

-- an alarm may act: the running job doesn't wait, and where stamps are counted each job has one
pub record MayAct (counted : Bool) (w : Watched) : Type 0 where
  pub ready : runner_waits (picture w.processor) ≡ false
  pub each : counted ≡ true → AreCounted w.blocking.stamps (picture w.processor)

-- ready for an instruction, the stamp of whose job is spent: where stamps are counted each job has its place
pub record HasBegun (counted : Bool) (w : Watched) : Type 0 where
  pub may : MayExecute w.processor
  pub each : counted ≡ true → AreCounted w.blocking.stamps (picture w.processor)

-- they belong together: where blockers are counted there are stamps of each task, and the level noted last is that of the
-- task of which it is known that it has none
pub record IsFollowed (counted : Bool) (p : Processor) (b : Blocking) : Type 0 where
  pub sized : counted ≡ true → length b.stamps ≡ length (system_of p).tasks
  pub level : HasLevel (system_of p) b

-- that task is to execute, or none, in a tick below the limit
pub record MayBegin (p : Processor) (task : Option ℕ) (tick : ℕ) : Type 0 where
  pub executes : IsTask (length (system_of p).tasks) (calling_task (caller_in (picture p))) task
  pub early : tick < MAX_TICKS

-- who executed last did so before that tick
abbrev pub IsLater : ℕ → Told → Type 0
IsLater tick told = slice_index_or told.last told.level 0 ≤ tick

-- and the stamp of its job may be spent, where blockers are counted
pub record MaySpend (p : Processor) (task : Option ℕ) (tick : ℕ) (b : Blocking) : Type 0 where
  pub may : MayBegin p task tick
  pub followed : IsFollowed true p b
  pub later : IsLater tick b.told

-- where blockers are counted, the stamp of the job that executes is spent, and tells how many it had; what is known of the
-- level stays known
pub record Spends (counted : Bool) (p : Processor) (tick : ℕ) (old new : Blocking) : Type 0 where
  pub spent : counted ≡ true → IsSpent (system_of p) (caller_in (picture p)) tick old.stamps new.stamps old.told.last new.told
  pub sized : length new.stamps ≡ length old.stamps
  pub level : HasLevel (system_of p) old → HasLevel (system_of p) new

pub record Begins (counted : Bool) (tick : ℕ) (old new : Watched) : Type 0 where
  pub processor : new.processor ≡ old.processor
  pub blocking : Spends counted old.processor tick old.blocking new.blocking

-- where blockers are counted the stamps become what a look makes of them, of as many tasks, and no number is told anew; what
-- is known of the level stays known
pub record Follows (counted : Bool) (look : StampLists → StampLists) (old new : Blocking) : Type 0 where
  pub stamps : counted ≡ true → new.stamps ≡ look old.stamps
  pub told : new.told ≡ old.told
  pub sized : length new.stamps ≡ length old.stamps
  pub level : (S : System) → HasLevel S old → HasLevel S new

-- before the first tick: all jobs are ready from tick 0 on, and none has executed
pub record IsFresh (counted : Bool) (p : Processor) (b : Blocking) : Type 0 where
  pub none : b.spent ≡ None
  pub stamps : counted ≡ true → AreBegun (length (system_of p).tasks) (picture p) b.stamps
  pub last : b.told.last ≡ replicate (MAX_TASK_PRIORITY + 1) 0

-- ---- the steps

abbrev pub acting : ℕ → Step
acting a = record { does = λ S. alarm_acts_in S a; restamps = λ S u. alarm_restamped S u a }

abbrev pub all_acting : List ℕ → Step
all_acting due = record { does = λ S. alarms_act_in S due; restamps = λ S u. alarms_restamped S u due }

abbrev pub rescheduling : Step
rescheduling = record { does = rescheduled; restamps = reschedule_restamped }

abbrev pub phase_of_alarms : Step
phase_of_alarms = record { does = alarm_phase_in; restamps = alarm_phase_restamped }

abbrev pub early : List ℕ → Step
early arrived = record { does = λ S. before_execution_in S arrived; restamps = λ S u. before_restamped S u arrived }

abbrev pub executing : Step
executing = record { does = execute_phase_in; restamps = executed_restamped }

abbrev pub last : Step
last = record { does = last_phase_in; restamps = last_restamped }

-- the same at another tick
abbrev pub watched_at : Watched → ℕ → Watched
watched_at w t = record { processor = at_tick w.processor t; blocking = w.blocking }

-- ---- what the phases need and do

-- a step is done, and there are at most so many records behind it
pub record WatchesWithin (counted : Bool) (most : ℕ) (step : Step) (tick : ℕ) (old new : Watched) (before after : List TraceEvent) : Type 0 where
  pub does : Watches counted step tick old new before after
  pub few : length after ≤ most

-- a tick may begin: no records stand before its own but those of boot in the first
pub record MayStart (counted : Bool) (tick : ℕ) (w : Watched) (records : List TraceEvent) : Type 0 where
  pub before : IsBefore tick w.processor
  pub may : MayAct counted w
  pub room : length records ≤ 3
  pub none_later : 1 ≤ tick → records ≡ []

-- what the phases up to some do in a tick that began, and the alarms that acted in it
pub record Starts (counted : Bool) (most : ℕ) (step : Step) (tick : ℕ) (old new : Watched) (before after : List TraceEvent) (alarms : Acted) : Type 0 where
  pub does : Watches counted step tick (watched_at old tick) new before after
  pub acted : alarms ≡ acted_in (system_of old.processor) (picture (at_tick old.processor tick))
  pub few : length after ≤ most

-- an alarm of the system may act, and there is room for its record
pub record MayActNow (counted : Bool) (a : ℕ) (w : Watched) (records : List TraceEvent) : Type 0 where
  pub alarm : a < length (system_of w.processor).alarms
  pub may : MayAct counted w
  pub room : length records < MAX_RECORDS

-- an alarm acts, by at most one record, and another may act behind it
pub record AlarmActs (counted : Bool) (a tick : ℕ) (old new : Watched) (before after : List TraceEvent) (answer : Status) : Type 0 where
  pub does : Watches counted (acting a) tick old new before after
  pub may : MayAct counted new
  pub status : answer ≡ (acting_in (system_of old.processor) a (picture old.processor)).status
  pub few : length after ≤ length before + 1

-- some alarms may act in turn: they are alarms of the system, and nothing is recorded of them
pub record MayActAll (counted : Bool) (alarms : List ℕ) (w : Watched) (refusals : List ℕ) (records : List TraceEvent) : Type 0 where
  pub known : AllByRecursion (λ a. a < length (system_of w.processor).alarms) alarms
  pub may : MayAct counted w
  pub none : records ≡ []
  pub fresh : refusals ≡ []

-- what they do and record, and those of them whose action is refused
pub record AllAct (counted : Bool) (alarms : List ℕ) (tick : ℕ) (old new : Watched) (refusals : List ℕ) (records : List TraceEvent) : Type 0 where
  pub does : Watches counted (all_acting alarms) tick old new [] records
  pub refused : refusals ≡ refused_of_in (system_of old.processor) alarms (picture old.processor)
  pub few : length records ≤ MAX_ALARMS

-- ready for an instruction, and nothing is recorded behind it
pub record IsReady (counted : Bool) (w : Watched) (behind : List TraceEvent) : Type 0 where
  pub begun : HasBegun counted w
  pub none : behind ≡ []

-- and for that one
pub record MayRun (counted : Bool) (w : Watched) (instruction : Next) (behind : List TraceEvent) : Type 0 where
  pub next : IsNext w.processor instruction
  pub ready : IsReady counted w behind

-- and it is a service with a status
pub record MayCall (counted : Bool) (w : Watched) (instruction : Next) (behind : List TraceEvent) : Type 0 where
  pub may : MayRun counted w instruction behind
  pub call : IsCall (instr_of instruction.packed)

-- what was executed, which stands in its program, and the records behind it
pub record Executes (counted : Bool) (tick : ℕ) (old new : Watched) (executed : Option Executed) (behind : List TraceEvent) : Type 0 where
  pub does : Watches counted executing tick old new [] (idle_or_executed (system_of old.processor) executed ∷ behind)
  pub there : IfSome executed (StandsIn (system_of old.processor))
  pub few : length behind ≤ 1

-- that one executes, in a system that is ready for it
pub record MayFinish (counted : Bool) (w : Watched) (who : Owner) (behind : List TraceEvent) : Type 0 where
  pub fetch : MayFetch w.processor who
  pub ready : IsReady counted w behind

-- what is executed, and the reschedule behind it, which leaves all records
pub record Finishes (counted : Bool) (tick : ℕ) (old new : Watched) (executed : Option Executed) (behind : List TraceEvent) : Type 0 where
  pub between : Watched
  pub first : List TraceEvent
  pub executes : Executes counted tick old between executed first
  pub reschedules : Watches counted last tick between new first behind
  pub few : length behind ≤ 3
