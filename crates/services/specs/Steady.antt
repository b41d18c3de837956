-- OSEK/VDX OS: task management, scheduling policy. Where the running task executes next.
use Rattle.std.specs.Prelude.{ℕ, ◌≡◌, true, false, Some, None}
use Rattle.osek_base.specs.System.{System}
use Rattle.osek_base.specs.Tick.{routine_choice}
use Rattle.law_kept.specs.Kept.{Kept}
use Rattle.law_kept.specs.KeptService.{bare}
use Rattle.law_kept.specs.KeptTick.{silent_in}
use Rattle.law_kept.specs.Moves.{rescheduled}
use Rattle.services.specs.Dispatched.{is_dispatched_in}

-- a task executes next, where no alarm is due and no interrupt arrives: it is the one that is to run, so that a reschedule
-- changes nothing, and nothing else comes before its instruction
pub record IsSteady (S : System) (o : Kept) (t : ℕ) : Type 0 where
  pub on : o.over ≡ false
  pub runs : o.running ≡ Some t
  pub stands : o.gone ≡ false
  pub no_routine : o.active ≡ None
  pub none_pending : routine_choice S (bare o) ≡ None
  pub known : is_dispatched_in S o ≡ true
  pub dispatched : rescheduled S o ≡ silent_in o
