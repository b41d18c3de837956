-- OSEK/VDX OS: task management; alarms. Ticks in which nothing comes before the instruction of the running task.
use Rattle.std.specs.Prelude.{ℕ, ◌≡◌, ◌<◌, length}
use Rattle.osek_base.specs.declared.ids.Owner.{Owner}
use Rattle.services.specs.Steady.{IsSteady}
use Rattle.kernel.specs.Idle.{HasPassed}
use Rattle.kernel.specs.Processor.{MayFetch, Processor, picture, system_of}
use Rattle.kernel.specs.Watches.{Watched}

-- the next tick begins, in which no alarm is due: a task executes, and where no interrupt arrives nothing comes before its
-- instruction
pub record PassesSteady (old new : Processor) (t : ℕ) : Type 0 where
  pub steady : IsSteady (system_of old) (picture old) t
  pub passed : HasPassed 1 old new

-- a task executes, and nothing else comes before its instruction
pub record ExecutesNext (w : Watched) (t : ℕ) : Type 0 where
  pub steady : IsSteady (system_of w.processor) (picture w.processor) t
  pub known : t < length (system_of w.processor).tasks
  pub fetch : MayFetch w.processor (Owner.Task t)

-- the stamps stay, and the task executes
pub record BeginsSteady (old new : Watched) (t : ℕ) : Type 0 where
  pub passes : PassesSteady old.processor new.processor t
  pub same : new.blocking ≡ old.blocking
  pub next : ExecutesNext new t
