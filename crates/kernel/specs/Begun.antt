-- OSEK/VDX OS: alarms; interrupt processing; task management, scheduling policy. How a tick begins, and what it did.
use Rattle.std.specs.Prelude.{ℕ, ◌≡◌, ◌<◌, ◌≤◌, ◌+◌, Bool, true, false, List, [], Option, Some, length}
use Rattle.std.specs.List.{All}
use Rattle.osek_base.specs.declared.executed.Executed.{Executed}
use Rattle.osek_base.specs.declared.limits.TheConstants.{MAX_ALARMS, MAX_TICKS}
use Rattle.osek_base.specs.declared.trace_event.TraceEvent.{TraceEvent}
use Rattle.kernel.specs.declared.acted.Acted.{Acted}
use Rattle.kernel.specs.declared.begun.Begun.{Begun}
use Rattle.kernel.specs.declared.ticked.Ticked.{Ticked}
use Rattle.kernel.specs.Machine.{HasTicked, Machine, next_tick, picture as picture_in, system_of as system_in}
use Rattle.kernel.specs.Processor.{picture}
use Rattle.kernel.specs.Progress.{HasRunApart, Progress, run_of}
use Rattle.kernel.specs.Steady.{ExecutesNext}
use Rattle.kernel.specs.Watches.{Starts, Watched, early}

-- in a tick that isn't the first, no interrupt arrives
pub record NoneComes (tick : ℕ) (arrived : List ℕ) : Type 0 where
  pub not_first : 1 ≤ tick
  pub none : arrived ≡ []

-- a task executes, nothing else comes before its instruction, and nothing is recorded
pub record IsFirst (w : Watched) (before : List TraceEvent) (t : ℕ) : Type 0 where
  pub none : before ≡ []
  pub executes : ExecutesNext w t

-- a tick has begun, and no record of boot is left
pub record StartsTick (counted : Bool) (arrived : List ℕ) (tick : ℕ) (old new : Watched) (opening opened before : List TraceEvent)
    (acted : Acted) : Type 0 where
  pub on : (picture old.processor).over ≡ false
  pub starts : Starts counted (MAX_ALARMS + 2) (early arrived) tick old new opening before acted
  pub none_left : opened ≡ []

-- it hasn't, since the run is over
pub record IsOver (old new : Watched) (opening opened : List TraceEvent) (acted acts : Acted) : Type 0 where
  pub over : (picture old.processor).over ≡ true
  pub same : new ≡ old
  pub unopened : opened ≡ opening
  pub unacted : acts ≡ acted

-- how it began, with the records of boot before and after, what is recorded, and the alarms that acted before and in it
abbrev pub HasBegunAs : Bool → List ℕ → ℕ → Watched → Watched → List TraceEvent → List TraceEvent → List TraceEvent → Acted → Acted → Begun → Type 0
HasBegunAs counted arrived tick old new opening opened before acted acts (Begun.First t) =
    StartsTick counted arrived tick old new opening opened [] acts × ExecutesNext new t
HasBegunAs counted arrived tick old new opening opened before acted acts Begun.Any =
    StartsTick counted arrived tick old new opening opened before acts
HasBegunAs counted arrived tick old new opening opened before acted acts Begun.Over = IsOver old new opening opened acted acts

-- ---- a machine, and a kernel

-- a tick may be done in which the interrupts of some routines arrive, if the run isn't over; nothing is recorded behind its
-- instruction
pub record MayGoOn (arrived : List ℕ) (m : Machine) (behind : List TraceEvent) : Type 0 where
  pub limit : next_tick m < MAX_TICKS
  pub known : All (λ i. i < length (system_in m).routines) arrived
  pub none : behind ≡ []

-- what a machine did, with what it executed where that isn't the first
abbrev pub GoesOnBy : Bool → List ℕ → Machine → Machine → List TraceEvent → List TraceEvent → Option Executed → Ticked → Type 0
GoesOnBy counted arrived old new before behind executed (Ticked.First e) =
    ((picture_in old).over ≡ false) × HasTicked counted arrived old new [] (Some e) behind
GoesOnBy counted arrived old new before behind executed Ticked.Any =
    ((picture_in old).over ≡ false) × HasTicked counted arrived old new before executed behind
GoesOnBy counted arrived old new before behind executed Ticked.Over = ((picture_in old).over ≡ true) × (new ≡ old)

-- and a kernel
abbrev pub HasGoneOn : Progress → Progress → List TraceEvent → List TraceEvent → Option Executed → Ticked → Type 0
HasGoneOn old new before behind executed (Ticked.First e) =
    ((run_of old).state.over ≡ false) × HasRunApart old new [] (Some e) behind
HasGoneOn old new before behind executed Ticked.Any =
    ((run_of old).state.over ≡ false) × HasRunApart old new before executed behind
HasGoneOn old new before behind executed Ticked.Over = ((run_of old).state.over ≡ true) × (new ≡ old)
