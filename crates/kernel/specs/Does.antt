-- OSEK/VDX OS: system services. What a step of a tick does to a system, and what it records.
use Rattle.std.specs.Prelude.{ℕ, ◌≡◌, ◌<◌, ◌≤◌, ◌+◌, List, ◌++◌, [], Option, IfSome, length}
use Rattle.osek_base.specs.declared.trace_event.TraceEvent.{TraceEvent}
use Rattle.osek_base.specs.System.{System}
use Rattle.osek_base.specs.Alarm.{due_alarms}
use Rattle.law_kept.specs.Kept.{Kept}
use Rattle.law_kept.specs.KeptService.{bare}
use Rattle.law_kept.specs.KeptTick.{advanced_in}
use Rattle.law_kept.specs.Moves.{KeptRecorded, contender, rescheduled}
use Rattle.kernel.specs.Processor.{Processor, clocked, picture, system_of}

-- the system stays, the picture becomes what the step leaves, and its records stand behind the earlier ones
pub record Does (f : System → Kept → KeptRecorded) (old new : Processor) (before after : List TraceEvent) : Type 0 where
  pub system : system_of new ≡ system_of old
  pub kept : picture new ≡ (f (system_of old) (picture old)).state
  pub events : after ≡ before ++ (f (system_of old) (picture old)).events

-- and there are at most so many records behind it
pub record DoesWithin (most : ℕ) (f : System → Kept → KeptRecorded) (old new : Processor) (before after : List TraceEvent) : Type 0 where
  pub does : Does f old new before after
  pub few : length after ≤ most

-- a list has some more at its end, at most one
pub record Adds {T : Type 0} (more old new : List T) : Type 0 where
  pub value : new ≡ old ++ more
  pub few : length new ≤ length old + 1

-- the records that stand first are handed on, and none of them is left
pub record PutsFirst (old new records : List TraceEvent) : Type 0 where
  pub value : records ≡ old
  pub after : new ≡ []

-- a step that records nothing
pub record Becomes (f : System → Kept → Kept) (old new : Processor) : Type 0 where
  pub system : system_of new ≡ system_of old
  pub kept : picture new ≡ f (system_of old) (picture old)

-- the next tick begins: the alarms that are due in it expire
pub record Advances (old new : Processor) (alarms : List ℕ) : Type 0 where
  pub due : alarms ≡ due_alarms (system_of old) (bare (picture (clocked old)))
  pub advanced : Becomes advanced_in (clocked old) new

-- a reschedule: who ran, if its job stood and didn't wait, is a task of the system
pub record Reschedules (old new : Processor) (before after : List TraceEvent) (ran : Option ℕ) : Type 0 where
  pub does : Does rescheduled old new before after
  pub few : length after ≤ length before + 2
  pub runner : ran ≡ contender (picture old)
  pub known : IfSome ran (λ t. t < length (system_of old).tasks)
