-- Costs of routines, by one inequality for each instruction of a known routine.
use Rattle.std.specs.Prelude.{ℕ, ◌+◌, ◌≡◌, ◌≤◌, false, Option, Some, None}
use Rattle.osek_base.specs.declared.instr.Service.{Service}
use Rattle.osek_base.specs.declared.status.Status.{Status}
use Rattle.osek_base.specs.Service.{Caller, RoutineCalls, service}
use Rattle.osek_base.specs.State.{Active, State}
use Rattle.osek_base.specs.System.{System}
use Rattle.osek_base.specs.Types.{ServiceCall}
use Rattle.law_alarms.specs.Setting.{call_by}
use Rattle.law_windows.specs.Work.{goes_at}
use Rattle.law_costs.specs.Left.{Weights, left_of_active, of_all_alarms, switch_of}
use Rattle.law_costs.specs.Known.{Executes, IsKnownRoutine, Known, behind_by}
use Rattle.law_costs.specs.Paying.{start_of}

-- what a call starts, by its status: nothing where it is refused
abbrev pub started_where : Weights → Status → ServiceCall → ℕ
started_where c Status.Ok call = start_of c call
started_where c _ call = 0

-- what a caller starts in a state, if it calls
abbrev pub started_by : System → Weights → Caller → State → Option ServiceCall → ℕ
started_by S c who s None = 0
started_by S c who s (Some call) = started_where c (service S who s call).status call

-- what a service sets where it isn't refused: an alarm, which may pay for its expiry
abbrev pub set_of : Weights → ServiceCall → ℕ
set_of c (Service.SetRelAlarm (Some a) increment cycle) = c.of_alarm a
set_of c (Service.SetAbsAlarm (Some a) start cycle) = c.of_alarm a
set_of c call = 0

-- .. by its status, and by a caller in a state
abbrev pub set_where : Weights → Status → ServiceCall → ℕ
set_where c Status.Ok call = set_of c call
set_where c _ call = 0

abbrev pub set_by : System → Weights → Caller → State → Option ServiceCall → ℕ
set_by S c who s None = 0
set_by S c who s (Some call) = set_where c (service S who s call).status call

-- what is left of a routine behind an instruction that it executes
abbrev pub left_behind_routine : System → Weights → State → Active → ℕ
left_behind_routine S c s a =
    left_of_active c (switch_of (behind_by S (RoutineCalls a) s))
    (behind_by S (RoutineCalls a) s).active

-- that, and what the instruction starts and sets, is one less at least
abbrev pub TakesIn : System → Weights → State → Active → Type 0
TakesIn S c s a =
    left_behind_routine S c s a
    + (started_by S c (RoutineCalls a) s (call_by S (RoutineCalls a))
    + (set_by S c (RoutineCalls a) s (call_by S (RoutineCalls a)) + 1))
    ≤ c.of_active (switch_of s) a

-- ---- what is asked

-- what is left of a routine behind an instruction that it executes is
pub record RoutinePaysIn (S : System) (p : ℕ) (c : Weights) (s : State) (a : Active)
    : Type 0 where
  -- one less at least, with what that starts and sets
  pub takes : TakesIn S c s a
  -- no more than may be where a window begins, where the routine isn't of the level: no task is
  -- then, so whatever is started and set, no more than the section and all alarms are
  pub begins : goes_at S p a.routine ≡ false
      → left_behind_routine S c s a + (c.of_section + of_all_alarms S c) ≤ c.costs.at_begin

-- so it is where a known routine executes, whatever good state it finds
abbrev pub PayForRoutines : System → ℕ → Weights → Known → Type 0
PayForRoutines S p c known =
    (s : State) (a : Active) → Executes S (RoutineCalls a) s → IsKnownRoutine known (switch_of s) a
    → RoutinePaysIn S p c s a
