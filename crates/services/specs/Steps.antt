-- OSEK/VDX OS: system services. What a step of a service does to the objects of a running system.
use Rattle.std.specs.Prelude.{ℕ, ◌≡◌, ◌≤◌, ◌+◌, List, ◌++◌, length}
use Rattle.osek_base.specs.Types.{ServiceCall}
use Rattle.osek_base.specs.declared.status.Status.{Status}
use Rattle.osek_base.specs.declared.trace_event.Results.{Results}
use Rattle.osek_base.specs.declared.trace_event.TraceEvent.{TraceEvent}
use Rattle.osek_base.specs.System.{System}
use Rattle.osek_base.specs.Alarm.{alarms_advanced, due_alarms}
use Rattle.ready_queues.specs.Levels.{Levels}
use Rattle.ready_queues.specs.LevelLists.{by_level}
use Rattle.ready_queues.specs.Queues.{Queues}
use Rattle.law_kept.specs.Kept.{Kept}
use Rattle.law_kept.specs.KeptService.{KeptCaller, bare, unasked_in}
use Rattle.law_kept.specs.Moves.{KeptRecorded}
use Rattle.services.specs.declared.calls.Answer.{Answer}
use Rattle.services.specs.Objects.{Objects, kept_in}
use Rattle.services.specs.Calls.{served_in, unasked}

-- the ready tasks of each level become what the step leaves of them, with as much room
pub record ReadyBecomes (f : Queues → Queues) (old new : Levels) : Type 0 where
  pub lists : by_level new.lists ≡ f (by_level old.lists)
  pub room : new.room ≡ old.room

-- the system stays, and what is kept becomes what the step leaves of it
pub record Becomes (f : System → Kept → Kept) (old new : Objects) : Type 0 where
  pub system : new.system ≡ old.system
  pub kept : kept_in new ≡ f old.system (kept_in old)

-- and its records, at most one of a task that leaves running and one of a task that enters, stand behind the earlier ones
pub record Does (f : System → Kept → KeptRecorded) (old new : Objects) (before after : List TraceEvent) : Type 0 where
  pub system : new.system ≡ old.system
  pub kept : kept_in new ≡ (f old.system (kept_in old)).state
  pub events : after ≡ before ++ (f old.system (kept_in old)).events
  pub few : length after ≤ length before + 2

-- these records stand behind the earlier ones, and are no more than one
pub record Records (told before after : List TraceEvent) : Type 0 where
  pub events : after ≡ before ++ told
  pub few : length after ≤ length before + 1

-- the next tick begins, with the alarms that are due in it
pub record Advances (old new : Objects) (expired : List ℕ) : Type 0 where
  pub due : expired ≡ due_alarms old.system (bare (record (kept_in old) { tick = old.tick + 1 }))
  pub objects : new ≡ record old {
    tick = old.tick + 1;
    alarms = alarms_advanced old.system (bare (record (kept_in old) { tick = old.tick + 1 }));
  }

-- a service is answered as its row of the service table says, by whoever executes, interrupts being off aside
pub record Serves (call : ServiceCall) (old new : Objects) (answered : Status) : Type 0 where
  pub system : new.system ≡ old.system
  pub status : answered ≡ (unasked old call).status
  pub kept : kept_in new ≡ (unasked old call).state

-- with its results
pub record Replies (call : ServiceCall) (old new : Objects) (answer : Answer) : Type 0 where
  pub system : new.system ≡ old.system
  pub status : answer.status ≡ (unasked old call).status
  pub results : answer.results ≡ (unasked old call).results
  pub kept : kept_in new ≡ (unasked old call).state

-- and refused while interrupts are off
pub record Answers (call : ServiceCall) (old new : Objects) (answer : Answer) : Type 0 where
  pub system : new.system ≡ old.system
  pub status : answer.status ≡ (served_in old.system (kept_in old) call).status
  pub results : answer.results ≡ (served_in old.system (kept_in old) call).results
  pub kept : kept_in new ≡ (served_in old.system (kept_in old) call).state

-- a status with results
abbrev pub answer_of : Status → Results → Answer
answer_of s r = record { status = s; results = r }

-- what a service that changes nothing answers, interrupts being off aside
pub record Tells (call : ServiceCall) (o : Objects) (answer : Answer) : Type 0 where
  pub status : answer.status ≡ (unasked o call).status
  pub results : answer.results ≡ (unasked o call).results

-- a service that nobody need call, as an alarm's action
pub record Acts (call : ServiceCall) (old new : Objects) (answered : Status) : Type 0 where
  pub system : new.system ≡ old.system
  pub status : (d : KeptCaller) → answered ≡ (unasked_in old.system d (kept_in old) call).status
  pub kept : (d : KeptCaller) → kept_in new ≡ (unasked_in old.system d (kept_in old) call).state
