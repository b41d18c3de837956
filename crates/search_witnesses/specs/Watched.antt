-- Figures of the things of one number, over observations, newest first.
use Rattle.std.specs.Prelude.{ℕ, ◌≡◌, false, ◌&&◌, cond, List, map, None}
use Rattle.seen_ticks.specs.declared.observation.Observation.{Observation}
use Rattle.view_figures.specs.declared.task_tick.TaskTick.{TaskTick}
use Rattle.view_figures.specs.AlarmSums.{alarm_figures}
use Rattle.seen_ticks.specs.Seen.{task_seen}
use Rattle.view_figures.specs.FigureSums.{alarm_tick, holder_tick, is_error, is_task, last_tick, routine_tick, task_figures}
use Rattle.view_figures.specs.ResourceSums.{resource_figures}
use Rattle.view_figures.specs.RoutineSums.{routine_figures}
use Rattle.law_figures.specs.Times.{response_time, routine_time}
use Rattle.view_measures.specs.declared.measure.Measure.{Measure}
use Rattle.law_figures.specs.Counts.{one_if}
use Rattle.law_bounds.specs.Showing.{has_come, most_jobs, number_or_none, ticks_of, ticks_seen}
use Rattle.search_witnesses.specs.declared.watched.Watched.{Watched}
use Rattle.search_witnesses.specs.Blocked.{blocked_ticks}
use Rattle.search_witnesses.specs.Failing.{last_failure}

-- what an observation has of a task, without whether a lower task executes
abbrev pub bare_task_tick : Observation → ℕ → TaskTick
bare_task_tick o k =
    record {
      tick = o.tick;
      seen = task_seen o k;
      lower_executes = false;
      has_failed = is_task o.executor k && is_error o.answered;
      blockers = cond (is_task o.executor k) o.blockers None;
    }

-- the figures of the things of a number, over observations, by the static priorities of all tasks
pub record AreWatched (levels : List ℕ) (k : ℕ) (seen : List Observation)
    (w : Watched) : Type 0 where
  pub task : w.task ≡ task_figures (map (λ o. bare_task_tick o k) seen)
  pub routine : w.routine ≡ routine_figures (map (λ o. routine_tick o k) seen)
  pub resource : w.resource ≡ resource_figures (map (λ o. holder_tick o k) seen)
  pub alarm : w.alarm ≡ alarm_figures (map (λ o. alarm_tick o k) seen)
  pub last : w.last ≡ last_tick seen
  pub jobs : w.jobs ≡ most_jobs k seen
  pub blocked : w.blocked ≡ blocked_ticks (ticks_seen levels k seen)
  pub failure : w.failure ≡ last_failure seen

-- what they show of a measure
abbrev pub shown_of : Watched → Measure → ℕ
shown_of w Measure.Response = ticks_of (response_time w.last w.task.responses)
shown_of w Measure.Blocked = w.blocked.most
shown_of w Measure.Blockers = number_or_none w.task.counts.blockers
shown_of w Measure.Jobs = w.jobs
shown_of w Measure.Refusal = has_come w.task.counts.refused
shown_of w Measure.Errors = has_come w.task.counts.errors
shown_of w Measure.Latency = ticks_of (routine_time w.last w.routine)
shown_of w Measure.Loss = has_come w.routine.losses
shown_of w Measure.RoutineErrors = has_come w.routine.errors
shown_of w Measure.Hold = ticks_of w.resource.longest
shown_of w Measure.RefusedAction = has_come w.alarm.refused
shown_of w Measure.Shutdown = one_if w.is_over
