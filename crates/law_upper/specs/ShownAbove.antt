-- Partitions. What each tick shows of the upper part is the same in systems that agree.
use Rattle.std.specs.Prelude.{ℕ, ◌≡◌, Bool, false, if◌then◌else◌, ◌&&◌, List, Option, Some, None}
use Rattle.std.specs.Option.{option_map}
use Rattle.osek_base.specs.declared.arrivals.Arrival.{Arrival}
use Rattle.osek_base.specs.declared.ids.ResId.{ResId}
use Rattle.osek_base.specs.System.{System}
use Rattle.osek_base.specs.Trace.{run}
use Rattle.osek_base.specs.Upper.{is_upper_owner}
use Rattle.seen_ticks.specs.Shown.{holder}
use Rattle.seen_ticks.specs.declared.failures.Failure.{Failure}
use Rattle.seen_ticks.specs.Observed.{Ticked, alarm_seen, answered, failure_of, owner_of, routine_seen, task_seen, tick_at}
use Rattle.view_figures.specs.FigureSums.{is_error, is_routine, is_task, levels_of, lower_executes}
use Rattle.law_figures.specs.Blocking.{stands_ready}
use Rattle.law_upper.specs.Above.{IsUpperTask, IsTheSameResource, IsTheSameAlarm, IsThatOfTheUpperPart}

-- whether a service of a task or of a routine is answered other than E_OK in a tick
abbrev pub task_fails : Ticked → ℕ → Bool
task_fails k t = is_task (option_map owner_of k.executed) t && is_error (answered k.executed)

abbrev pub routine_fails : Ticked → ℕ → Bool
routine_fails k i = is_routine (option_map owner_of k.executed) i && is_error (answered k.executed)

-- whether a task is READY in a tick while a lower one executes
abbrev pub is_blocked : System → Ticked → ℕ → Bool
is_blocked S k t =
    stands_ready (task_seen S k t).state
    && lower_executes (levels_of S) (option_map owner_of k.executed) t

-- the instruction of a tick that fails, where it is of the upper part
abbrev pub if_upper : System → ℕ → Option Failure → Option Failure
if_upper S p None = None
if_upper S p (Some x) = if is_upper_owner S p x.owner then Some x else None

-- a tick of one system and one of another show the same of each upper task, and block it alike, of
-- each routine, of who holds each upper resource and RES_SCHEDULER, of each upper alarm, and of the
-- services of upper tasks and routines that fail
pub record ShowTheSameAbove (S B : System) (p : ℕ) (k j : Ticked) : Type 0 where
  pub tasks : (t : ℕ) → IsUpperTask S p t → task_seen S k t ≡ task_seen B j t
  pub routines : (i : ℕ) → routine_seen k i ≡ routine_seen j i
  pub holders : (r q : ℕ) → IsTheSameResource S B p r q
      → holder S k.at (ResId.Declared r) ≡ holder B j.at (ResId.Declared q)
  pub scheduler : holder S k.at ResId.Scheduler ≡ holder B j.at ResId.Scheduler
  pub alarms : (a c : ℕ) → IsTheSameAlarm S B p a c → alarm_seen k a ≡ alarm_seen j c
  pub blocked : (t : ℕ) → IsUpperTask S p t → is_blocked S k t ≡ is_blocked B j t
  pub errors : (t : ℕ) → IsUpperTask S p t → task_fails k t ≡ task_fails j t
  pub routine_errors : (i : ℕ) → routine_fails k i ≡ routine_fails j i
  pub failures :
      if_upper S p (failure_of k.executed) ≡ if_upper B p (failure_of j.executed)

-- in each mode and under the same arrivals, each tick before which the run isn't over
abbrev pub TicksShowTheSame : System → System → ℕ → Type 0
TicksShowTheSame S B p =
    (mode : ℕ) (arrivals : List Arrival) (n : ℕ) → (run S mode arrivals n).state.over ≡ false
    → ShowTheSameAbove S B p (tick_at S mode arrivals n) (tick_at B mode arrivals n)

abbrev pub UpperPartsShowTheSame : Type 0
UpperPartsShowTheSame = IsThatOfTheUpperPart TicksShowTheSame
