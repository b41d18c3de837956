-- OSEK/VDX OS: task management; the modelled processor. Ticks in which the running task executes a plain instruction, and
-- nothing else happens.
use Rattle.std.specs.Prelude.{ℕ, ◌≡◌, ◌≤◌, ◌<◌, ◌+◌, ◌-◌, Bool, true, false, List, [], ◌∷◌, Option, Some, None, IfSome, is_none, length}
use Rattle.std.specs.Option.{option_map}
use Rattle.osek_base.specs.declared.arrivals.Arrival.{Arrival}
use Rattle.osek_base.specs.declared.executed.Executed.{Executed}
use Rattle.osek_base.specs.declared.ids.Owner.{Owner}
use Rattle.osek_base.specs.declared.instr.Instr.{Instr}
use Rattle.osek_base.specs.declared.trace_event.Effect.{Effect}
use Rattle.osek_base.specs.declared.trace_event.Outcome.{Outcome}
use Rattle.osek_base.specs.declared.trace_event.TraceEvent.{TraceEvent}
use Rattle.osek_base.specs.Alarm.{due_alarms}
use Rattle.osek_base.specs.BlockingText.{blockers_at}
use Rattle.osek_base.specs.Executed.{StandsIn, idle_or_executed}
use Rattle.osek_base.specs.State.{fresh_context}
use Rattle.osek_base.specs.System.{System, instruction_at}
use Rattle.osek_base.specs.Trace.{arriving, run}
use Rattle.osek_base.specs.Types.{PlainInstr}
use Rattle.kernel_stamps.specs.Stamps.{stamp_of_oldest}
use Rattle.law_kept.specs.Kept.{Kept, Slot, kept}
use Rattle.law_kept.specs.KeptService.{ByTask, bare, caller_in}
use Rattle.law_kept.specs.KeptTick.{before_execution_in, silent_in}
use Rattle.law_blockers.specs.Restamping.{stamps_at}
use Rattle.law_blockers.specs.Steps.{record_at, step_at}
use Rattle.services.specs.Steady.{IsSteady}
use Rattle.kernel.specs.Machine.{HasTicked, Machine, next_tick, picture, system_of}
use Rattle.kernel.specs.Processor.{picture as picture_of, system_of as system_in}
use Rattle.kernel.specs.Watches.{Watched}
use Rattle.kernel.specs.Progress.{Progress, run_of}
use Rattle.kernel.specs.Stamping.{number_for, number_told}

-- all that is kept of a state but the clock, the words of tasks and routines, and the registers and places of tasks
abbrev pub unplaced : Slot → Slot
unplaced a = record a { context = fresh_context }

abbrev pub at_rest : Kept → Kept
at_rest o = record o { slots = λ t. unplaced (o.slots t); words = λ who index. 0; tick = 0 }

-- the running task executes a plain instruction, and nothing else is recorded
pub record IsWork (S : System) (o : Kept) (executed : Executed) (records : List TraceEvent) : Type 0 where
  pub who : Some executed.owner ≡ option_map Owner.Task o.running
  pub effect : Effect
  pub plain : executed.outcome ≡ Outcome.Plain effect
  pub recorded : records ≡ idle_or_executed S (Some executed) ∷ []

-- in a tick of a run a task works: no interrupt arrives, no alarm is due, no number of blockers is told where they are counted,
-- and at rest what is kept of the state is the same before the tick, at its instruction and behind it
pub record LeavesRest (counted : Bool) (S : System) (mode : ℕ) (arrivals : List Arrival) (t : ℕ) (o : Kept) : Type 0 where
  pub none_arrive : arriving arrivals t ≡ []
  pub none_due : due_alarms S (run S mode arrivals t).state ≡ []
  pub no_blockers : counted ≡ true → blockers_at S mode arrivals t ≡ None
  pub executed : Executed
  pub work : IsWork S o executed (record_at S mode arrivals t)
  pub before : at_rest (kept S (run S mode arrivals t).state) ≡ at_rest o
  pub at : at_rest (kept S (step_at S mode arrivals t).executing) ≡ at_rest o
  pub behind : at_rest (kept S (step_at S mode arrivals t).after) ≡ at_rest o

-- so many ticks were done, at most some and none of them the first, in each of which the running task worked; and what the last
-- of them executed
pub record HasWorked (counted : Bool) (most : ℕ) (old new : Progress) (n : ℕ) (last : Option Executed) : Type 0 where
  pub few : n ≤ most
  pub not_first : 0 < n → 1 ≤ old.ticks
  pub going : (k : ℕ) → k < n → (run old.system old.mode old.arrivals (old.ticks + k)).state.over ≡ false
  pub stays : (k : ℕ) → k < n
      → LeavesRest counted old.system old.mode old.arrivals (old.ticks + k) (kept old.system (run_of old).state)
  pub next : new ≡ record old { ticks = old.ticks + n }
  pub recorded : 0 < n → record_at old.system old.mode old.arrivals (old.ticks + (n - 1)) ≡ idle_or_executed old.system last ∷ []
  pub there : 0 < n → IfSome last (StandsIn old.system)

-- one more tick was done, in which the running task worked, and at rest what is kept stays
pub record WorksOnce (counted : Bool) (old new : Progress) (executed : Executed) : Type 0 where
  pub not_first : 1 ≤ old.ticks
  pub going : (run_of old).state.over ≡ false
  pub leaves : LeavesRest counted old.system old.mode old.arrivals old.ticks (kept old.system (run_of old).state)
  pub recorded : record_at old.system old.mode old.arrivals old.ticks ≡ idle_or_executed old.system (Some executed) ∷ []
  pub there : StandsIn old.system executed
  pub rests : at_rest (kept old.system (run_of new).state) ≡ at_rest (kept old.system (run_of old).state)
  pub next : new ≡ record old { ticks = old.ticks + 1 }

-- ---- a machine

-- a task that executes next executes a plain instruction; where blockers are counted, its job has executed since it became ready
pub record WorksNext (counted : Bool) (w : Watched) (task : ℕ) : Type 0 where
  pub instruction : PlainInstr
  pub plain : instruction_at (system_in w.processor) (Owner.Task task) ((picture_of w.processor).slots task).context.place
      ≡ Instr.Plain instruction
  pub spent : counted ≡ true → is_none (stamp_of_oldest (stamps_at w.blocking.stamps task)) ≡ true

-- in the next tick the running task executes a plain instruction, where no alarm is due and no interrupt
-- arrives; and where blockers are counted, its job has executed since it became ready
pub record IsWorking (counted : Bool) (m : Machine) : Type 0 where
  pub task : ℕ
  pub steady : IsSteady (system_of m) (picture m) task
  pub instruction : PlainInstr
  pub plain : instruction_at (system_of m) (Owner.Task task) ((picture m).slots task).context.place ≡ Instr.Plain instruction
  pub spent : counted ≡ true → is_none (stamp_of_oldest (stamps_at m.blocking.stamps task)) ≡ true

-- a tick in which no alarm was due, and which wasn't the first: nothing came before the instruction of the task that executed;
-- what is told of blockers is its number
pub record HasTickedSteady (counted : Bool) (old new : Machine) (executed : Executed) (behind : List TraceEvent) : Type 0 where
  pub ticked : HasTicked counted [] old new [] (Some executed) behind
  pub begun : 1 ≤ next_tick old
  pub unwritten : old.unwritten ≡ []
  pub size : length (picture old).alarms ≡ length (system_of old).alarms
  pub none_due : due_alarms (system_of old) (bare (picture old)) ≡ []
  pub before : before_execution_in (system_of old) [] (picture old) ≡ silent_in (picture old)
  pub task : ℕ
  pub calls : caller_in (picture old) ≡ ByTask task
  pub number : counted ≡ true
      → number_told new.blocking.told
      ≡ number_for (system_of old) (caller_in (picture old)) old.blocking.told.last old.blocking.stamps
