-- OSEK/VDX OS: task management, alarms. Where nothing happens until an alarm is due, and the ticks that pass at once.
use Rattle.std.specs.Prelude.{ℕ, ◌+◌, ◌≡◌, ◌<◌, ◌≤◌, Bool, true, false, IsTrue, IsFalse, List, [], None, is_some}
use Rattle.osek_base.specs.System.{System}
use Rattle.osek_base.specs.Alarm.{due_alarms}
use Rattle.osek_base.specs.Tick.{routine_choice}
use Rattle.law_kept.specs.Kept.{Kept}
use Rattle.law_kept.specs.KeptService.{bare}
use Rattle.services.specs.Objects.{Objects, kept_in}

-- quiet but for tasks that are ready: no ShutdownOS ended the run, no task runs, and no routine is active or pending
pub record IsIdle (S : System) (o : Kept) : Type 0 where
  pub on : o.over ≡ false
  pub nobody_runs : o.running ≡ None
  pub no_routine : o.active ≡ None
  pub none_pending : routine_choice S (bare o) ≡ None

-- no ShutdownOS ended the run, a task runs, and no routine is active or pending
pub record IsSettled (S : System) (o : Kept) : Type 0 where
  pub on : o.over ≡ false
  pub runs : is_some o.running ≡ true
  pub no_routine : o.active ≡ None
  pub none_pending : routine_choice S (bare o) ≡ None

-- the alarms that are due in the tick after so many
abbrev pub due_next : ℕ → Objects → List ℕ
due_next n o = due_alarms o.system (bare (record (kept_in o) { tick = o.tick + (n + 1) }))

-- so many ticks passed at once, in none of which an alarm is due
pub record HasPassed (n : ℕ) (old new : Objects) : Type 0 where
  pub none : (k : ℕ) → k < n → due_next k old ≡ []
  pub after : new ≡ record old { tick = old.tick + n }

-- the next tick begins, where it is known that no alarm is due in it; else nothing changes
pub record BeginsQuiet (is_known : Bool) (old new : Objects) : Type 0 where
  pub begins : IsTrue is_known → HasPassed 1 old new
  pub stays : IsFalse is_known → new ≡ old

-- of the ticks that follow so many passed, at most some, up to the one before the first in which an alarm is due
pub record PassesUpTo (most n : ℕ) (old new : Objects) : Type 0 where
  pub few : n ≤ most
  pub passed : HasPassed n old new
  pub last : n < most → due_next n old ≡ [] → ⊥
