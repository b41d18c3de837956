-- Partitions. What runs of the upper part by itself show, runs of every system with that part show.
use Rattle.std.specs.Prelude.{ℕ, ◌≡◌, ◌<◌, false, IfSome, IsTrue, List, [], Some, length, slice_index_or}
use Rattle.osek_base.specs.declared.arrivals.Arrival.{Arrival}
use Rattle.osek_base.specs.BlockingText.{blockers_at}
use Rattle.osek_base.specs.System.{System}
use Rattle.osek_base.specs.Trace.{run}
use Rattle.osek_base.specs.Agree.{is_upper_declared, upper_part}
use Rattle.osek_base.specs.Proper.{IsProper}
use Rattle.osek_base.specs.Separable.{Separable}
use Rattle.osek_base.specs.Upper.{is_upper_alarm}
use Rattle.arrival_rules.specs.declared.rule.ArrivalRule.{ArrivalRule}
use Rattle.seen_ticks.specs.declared.observation.Observation.{Observation}
use Rattle.seen_ticks.specs.Observed.{failure_of, task_seen, tick_at}
use Rattle.view_figures.specs.AlarmSums.{alarm_figures}
use Rattle.view_figures.specs.FigureSums.{RunFigures, task_figures}
use Rattle.view_figures.specs.ResourceSums.{resource_figures}
use Rattle.view_figures.specs.RoutineSums.{routine_figures}
use Rattle.law_figures.specs.RunFigures.{AreRunFigures}
use Rattle.arrival_rules.specs.Rules.{KeepRules}
use Rattle.law_figures.specs.Telling.{TellBlockers}
use Rattle.law_bounds.specs.RunTicks.{blocked_at}
use Rattle.law_bounds.specs.Unending.{NeedNotEnd, StandsBetween}
use Rattle.law_upper.specs.Above.{AreOneAbove, IsUpperTask}
use Rattle.law_upper.specs.FiguresAbove.{alarm_in_part, resource_in_part}
use Rattle.law_upper.specs.ShownAbove.{is_blocked}

-- figures of a run of the upper part by itself, and of a run of a system with that part, are the
-- same of it: of each task the responses, the activations that are refused, the services that are
-- answered other than E_OK, and the blockers; and all of each routine, resource and alarm
pub record AreThoseOfThePart (S : System) (p : ℕ) (f g : RunFigures) : Type 0 where
  pub last : f.last ≡ g.last
  pub responses : (t : ℕ) → IsUpperTask S p t
      → (slice_index_or f.tasks t (task_figures [])).responses
      ≡ (slice_index_or g.tasks t (task_figures [])).responses
  pub refusals : (t : ℕ) → IsUpperTask S p t
      → (slice_index_or f.tasks t (task_figures [])).counts.refused
      ≡ (slice_index_or g.tasks t (task_figures [])).counts.refused
  pub errors : (t : ℕ) → IsUpperTask S p t
      → (slice_index_or f.tasks t (task_figures [])).counts.errors
      ≡ (slice_index_or g.tasks t (task_figures [])).counts.errors
  pub blockers : (t : ℕ) → IsUpperTask S p t
      → (slice_index_or f.tasks t (task_figures [])).counts.blockers
      ≡ (slice_index_or g.tasks t (task_figures [])).counts.blockers
  pub routines : (i : ℕ) → i < length S.routines
      → slice_index_or f.routines i (routine_figures [])
      ≡ slice_index_or g.routines i (routine_figures [])
  pub resources : (r : ℕ) → r < length S.resources → IsTrue (is_upper_declared S p r)
      → slice_index_or f.resources (resource_in_part S p r) (resource_figures [])
      ≡ slice_index_or g.resources r (resource_figures [])
  pub scheduler : IsTrue S.use_res_scheduler
      → slice_index_or f.resources (resource_in_part S p (length S.resources)) (resource_figures [])
      ≡ slice_index_or g.resources (length S.resources) (resource_figures [])
  pub alarms : (a : ℕ) → a < length S.alarms → IsTrue (is_upper_alarm S p a)
      → slice_index_or f.alarms (alarm_in_part S p a) (alarm_figures [])
      ≡ slice_index_or g.alarms a (alarm_figures [])

-- a run of the system has such figures, over observations that tell the numbers of blockers of its
-- ticks where those of the part tell them of theirs
pub record HasThoseOfThePart (P S : System) (p mode : ℕ) (arrivals : List Arrival) (n : ℕ)
    (f : RunFigures) (seen : List Observation) : Type 0 where
  pub figures : RunFigures
  pub are : AreRunFigures S mode arrivals n figures
  pub same : AreThoseOfThePart S p f figures
  pub told : TellBlockers P mode arrivals seen → TellBlockers S mode arrivals are.seen

-- tick n of a run of the part and of one of the system show the same of each of its tasks: so many
-- jobs, whether it is blocked, and for how many ticks it has been. The service that fails in the
-- part fails in the system, and who has so many blockers in the part has as many in the system
pub record TickShowsThatOfThePart (P S : System) (p mode : ℕ) (arrivals : List Arrival)
    (n : ℕ) : Type 0 where
  pub jobs : (t : ℕ) → IsUpperTask S p t
      → (task_seen P (tick_at P mode arrivals n) t).jobs
      ≡ (task_seen S (tick_at S mode arrivals n) t).jobs
  pub blocked : (t : ℕ) → IsUpperTask S p t
      → is_blocked P (tick_at P mode arrivals n) t ≡ is_blocked S (tick_at S mode arrivals n) t
  pub blocked_for : (t : ℕ) → IsUpperTask S p t
      → blocked_at P mode arrivals t n ≡ blocked_at S mode arrivals t n
  pub failure : IfSome (failure_of (tick_at P mode arrivals n).executed)
      (λ x. failure_of (tick_at S mode arrivals n).executed ≡ Some x)
  pub blockers : IfSome (blockers_at P mode arrivals n)
      (λ m. blockers_at S mode arrivals n ≡ Some m)

-- a system shows what its upper part by itself shows, in each mode and under the same arrivals
pub record ShowsWhatThePartShows (P S : System) (p : ℕ) : Type 0 where
  pub keep : (rules : List ArrivalRule) (arrivals : List Arrival)
      → KeepRules P rules arrivals → KeepRules S rules arrivals
  pub over : (mode : ℕ) (arrivals : List Arrival) (n : ℕ)
      → (run P mode arrivals n).state.over ≡ (run S mode arrivals n).state.over
  pub figures : (mode : ℕ) (arrivals : List Arrival) (n : ℕ) (f : RunFigures)
      → (are : AreRunFigures P mode arrivals n f)
      → HasThoseOfThePart P S p mode arrivals n f are.seen
  pub ticks : (mode : ℕ) (arrivals : List Arrival) (n : ℕ)
      → (run P mode arrivals n).state.over ≡ false
      → TickShowsThatOfThePart P S p mode arrivals n
  pub stands : (mode : ℕ) (arrivals : List Arrival) (from until t : ℕ) → IsUpperTask S p t
      → StandsBetween P mode arrivals from until t → StandsBetween S mode arrivals from until t
  -- so a task that can be kept from ending in the part can be kept from it in the system
  pub unending : (mode : ℕ) (rules : List ArrivalRule) (t : ℕ) → IsUpperTask S p t
      → NeedNotEnd P mode rules t → NeedNotEnd S mode rules t

-- the whole system does, and each that agrees with it from p upward, whatever stands below
pub record RunsShowWhatThePartShows : Type 0 where
  pub whole : (S : System) (p : ℕ) → IsProper S → Separable S p
      → ShowsWhatThePartShows (upper_part S p) S p
  pub others : (S B : System) (p : ℕ) → AreOneAbove S B p
      → ShowsWhatThePartShows (upper_part S p) B p
