-- What a run shows of figures: tick by tick with the labels of earlier ticks, and as its figures
-- have it.
use Rattle.std.specs.Prelude.{ℕ, suc, ◌≡◌, ◌&&◌, Bool, max, min, nat_lt, IsTrue, List, [], ◌∷◌, map, Option, Some, None, slice_index_or}
use Rattle.std.specs.Option.{option_map}
use Rattle.osek_base.specs.declared.arrivals.Arrival.{Arrival}
use Rattle.osek_base.specs.System.{System}
use Rattle.osek_base.specs.Trace.{run}
use Rattle.seen_ticks.specs.declared.observation.Observation.{Observation}
use Rattle.seen_ticks.specs.Observed.{alarm_seen, answered, owner_of, routine_seen, task_seen as task_seen_at, tick_at}
use Rattle.seen_ticks.specs.Seen.{seen_of, task_seen}
use Rattle.view_figures.specs.declared.reached.Reached.{Reached}
use Rattle.view_figures.specs.declared.task_tick.TaskTick.{TaskTick}
use Rattle.view_figures.specs.AlarmSums.{alarm_figures}
use Rattle.view_figures.specs.Counts.{capped}
use Rattle.view_figures.specs.FigureSums.{RunFigures, is_error, is_routine, is_task, lower_executes, task_figures}
use Rattle.view_figures.specs.ResourceSums.{resource_figures}
use Rattle.view_figures.specs.RoutineSums.{routine_figures}
use Rattle.view_measures.specs.declared.figure.Figure.{Figure}
use Rattle.view_measures.specs.declared.measure.Measure.{Measure}
use Rattle.view_measures.specs.Measures.{is_of}
use Rattle.law_figures.specs.Blocking.{blocked_in, blocking}
use Rattle.law_figures.specs.Counts.{one_if}
use Rattle.law_figures.specs.Labels.{label_after}
use Rattle.law_figures.specs.RunFigures.{AreRunFigures}
use Rattle.law_figures.specs.Telling.{TellBlockers}
use Rattle.law_figures.specs.Times.{response_time, routine_time}
use Rattle.search_labels.specs.Ticks.{blocked_tick}
use Rattle.law_bounds.specs.RunTicks.{age_at, blocked_at, held_at, waited_at}

-- ---- in a tick

-- whether a service of an owner that passes a test is answered other than E_OK in tick n of a run
abbrev pub task_fails_at : System → ℕ → List Arrival → ℕ → ℕ → Bool
task_fails_at S mode arrivals n k =
    is_task (option_map owner_of (tick_at S mode arrivals n).executed) k
    && is_error (answered (tick_at S mode arrivals n).executed)

abbrev pub routine_fails_at : System → ℕ → List Arrival → ℕ → ℕ → Bool
routine_fails_at S mode arrivals n i =
    is_routine (option_map owner_of (tick_at S mode arrivals n).executed) i
    && is_error (answered (tick_at S mode arrivals n).executed)

-- what tick n shows of a measure of the thing of a number, if anything
abbrev pub shown_by : System → ℕ → List Arrival → ℕ → Measure → ℕ → Option ℕ
shown_by S mode arrivals n Measure.Response k = age_at S mode arrivals k n
shown_by S mode arrivals n Measure.Blocked k = Some (blocked_at S mode arrivals k n)
shown_by S mode arrivals n Measure.Blockers k = Some (min 1 (blocked_at S mode arrivals k n))
shown_by S mode arrivals n Measure.Jobs k =
    Some (task_seen_at S (tick_at S mode arrivals n) k).jobs
shown_by S mode arrivals n Measure.Refusal k =
    Some (min 1 (task_seen_at S (tick_at S mode arrivals n) k).refused)
shown_by S mode arrivals n Measure.Errors k = Some (one_if (task_fails_at S mode arrivals n k))
shown_by S mode arrivals n Measure.Latency i = waited_at S mode arrivals i n
shown_by S mode arrivals n Measure.Loss i =
    Some (min 1 (routine_seen (tick_at S mode arrivals n) i).lost)
shown_by S mode arrivals n Measure.RoutineErrors i =
    Some (one_if (routine_fails_at S mode arrivals n i))
shown_by S mode arrivals n Measure.Hold r = held_at S mode arrivals r n
shown_by S mode arrivals n Measure.RefusedAction a =
    Some (one_if (alarm_seen (tick_at S mode arrivals n) a).is_refused)
shown_by S mode arrivals n Measure.Shutdown z =
    Some (one_if (run S mode arrivals (suc n)).state.over)

abbrev pub shown_at : System → ℕ → List Arrival → ℕ → Figure → Option ℕ
shown_at S mode arrivals n f = shown_by S mode arrivals n f.measure f.number

-- ---- by the figures of a run

-- for how many ticks a task's oldest job was blocked at most, over ticks, newest first
abbrev pub most_of : List TaskTick → ℕ
most_of [] = 0
most_of (t ∷ before) = max (capped (blocked_in t (label_after blocking before))) (most_of before)

-- what observations have of a task, by the static priorities of all tasks
abbrev pub ticks_seen : List ℕ → ℕ → List Observation → List TaskTick
ticks_seen levels k seen =
    map (λ (o : Observation). blocked_tick (lower_executes levels o.executor) (seen_of o) k) seen

abbrev pub most_blocked : List ℕ → ℕ → List Observation → ℕ
most_blocked levels k seen = most_of (ticks_seen levels k seen)

-- the most jobs of a task at once
abbrev pub most_jobs : ℕ → List Observation → ℕ
most_jobs k [] = 0
most_jobs k (o ∷ before) = max (task_seen o k).jobs (most_jobs k before)

-- the ticks of a figure, 0 where there is none
abbrev pub ticks_of : Option Reached → ℕ
ticks_of None = 0
ticks_of (Some r) = r.ticks

-- the number of a count, 0 where there is none
abbrev pub number_or_none : Option ℕ → ℕ
number_or_none None = 0
number_or_none (Some n) = n

-- 1 where something has come
abbrev pub has_come : ℕ → ℕ
has_come n = one_if (nat_lt 0 n)

-- what a run shows by its figures, its observations and whether it is over: the longest time of a
-- task or a routine, or the age of what hasn't ended or started behind the last tick, if that is
-- greater; for how many ticks a task's oldest job was blocked at most, and the most blockers of its
-- jobs; the most jobs at once; the longest hold; of what is lost, refused or answered other than
-- E_OK 1 where anything is; and 1 where a ShutdownOS has ended it
abbrev pub value_by : RunFigures → List Observation → Bool → Measure → ℕ → ℕ
value_by f seen over Measure.Response k =
    ticks_of (response_time f.last (slice_index_or f.tasks k (task_figures [])).responses)
value_by f seen over Measure.Blocked k = most_blocked f.levels k seen
value_by f seen over Measure.Blockers k =
    number_or_none (slice_index_or f.tasks k (task_figures [])).counts.blockers
value_by f seen over Measure.Jobs k = most_jobs k seen
value_by f seen over Measure.Refusal k =
    has_come (slice_index_or f.tasks k (task_figures [])).counts.refused
value_by f seen over Measure.Errors k =
    has_come (slice_index_or f.tasks k (task_figures [])).counts.errors
value_by f seen over Measure.Latency i =
    ticks_of (routine_time f.last (slice_index_or f.routines i (routine_figures [])))
value_by f seen over Measure.Loss i =
    has_come (slice_index_or f.routines i (routine_figures [])).losses
value_by f seen over Measure.RoutineErrors i =
    has_come (slice_index_or f.routines i (routine_figures [])).errors
value_by f seen over Measure.Hold r =
    ticks_of (slice_index_or f.resources r (resource_figures [])).longest
value_by f seen over Measure.RefusedAction a =
    has_come (slice_index_or f.alarms a (alarm_figures [])).refused
value_by f seen over Measure.Shutdown z = one_if over

abbrev pub value : RunFigures → List Observation → Bool → Figure → ℕ
value f seen over figure = value_by f seen over figure.measure figure.number

-- numbers of blockers are those of the run, where a measure goes by them
abbrev pub AreTold : System → ℕ → List Arrival → List Observation → Measure → Type 0
AreTold S mode arrivals seen Measure.Blockers = TellBlockers S mode arrivals seen
AreTold S mode arrivals seen other = Unit {0}

-- the first n ticks of a run show so much of a figure; what is told of blockers is told of the run
pub record Shows (S : System) (mode : ℕ) (arrivals : List Arrival) (n : ℕ) (figure : Figure)
    (number : ℕ) : Type 0 where
  pub figures : RunFigures
  pub are : AreRunFigures S mode arrivals n figures
  pub told : TellBlockers S mode arrivals are.seen
  pub of : IsTrue (is_of S figure)
  pub shown : value figures are.seen (run S mode arrivals n).state.over figure ≡ number
