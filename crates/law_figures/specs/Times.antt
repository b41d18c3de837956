-- Times, ended or not: of a job or an interrupt that is left behind the last tick its age counts
-- too.
use Rattle.std.specs.Prelude.{ℕ, ◌<◌, ◌-◌, ◌^◌, List, ◌∷◌, cond, Option}
use Rattle.std.specs.List.{AllByRecursion}
use Rattle.std.specs.Option.{option_map}
use Rattle.view_figures.specs.declared.reached.Reached.{Reached}
use Rattle.view_figures.specs.declared.task_tick.TaskTick.{TaskTick}
use Rattle.view_figures.specs.declared.routine_figures.RoutineTick.{RoutineTick}
use Rattle.view_figures.specs.declared.routine_figures.RoutineFigures.{RoutineFigures}
use Rattle.view_figures.specs.Reaching.{worse_of}
use Rattle.view_figures.specs.ResponseSums.{Responses, oldest_response, response_figures}
use Rattle.view_figures.specs.RoutineSums.{pending_age, routine_figures}
use Rattle.law_figures.specs.Labels.{Label, AreNumbered, IsWithin, NoneShowsMore}
use Rattle.law_figures.specs.Ages.{ages, oldest_age, tick_of}
use Rattle.law_figures.specs.Pending.{pending, pending_in, tick_of as start_tick_of}

-- a figure is within a bound where no label shows more, and below the greatest count only there
pub record IsBoundBy {T L : Type 0} (label : Label T L) (show : T → L → Option ℕ) (seen : List T)
    (figure : Option Reached) : Type 0 where
  pub within : (m : ℕ) → NoneShowsMore label show m seen → IsWithin m figure
  pub shown : (m : ℕ) → m < 2 ^ 32 - 1 → IsWithin m figure → NoneShowsMore label show m seen

-- the longest time of a task or a routine, or the age of what is left behind a last tick
abbrev pub response_time : ℕ → Responses → Option Reached
response_time last r = worse_of r.spread.greatest (oldest_response last r.ready_since)

abbrev pub routine_time : ℕ → RoutineFigures → Option Reached
routine_time last f = worse_of f.latency (pending_age last f.pending_since)

-- what an interrupt has waited in a tick, where its routine starts without that tick
abbrev pub waited : RoutineTick → Option ℕ → Option ℕ
waited r age =
    cond r.seen.is_started (option_map (λ n. n - 1) (pending_in r age)) (pending_in r age)

-- ---- laws

-- the longest time of a task goes by the ages of its oldest jobs
abbrev pub TaskTimesAreAges : Type 0
TaskTimesAreAges =
    (t : TaskTick) (before : List TaskTick) → AreNumbered tick_of (t ∷ before)
    → IsBoundBy ages oldest_age (t ∷ before) (response_time t.tick (response_figures (t ∷ before)))

-- and that of a routine by what its interrupts have waited
abbrev pub RoutineTimesAreAges : Type 0
RoutineTimesAreAges =
    (r : RoutineTick) (before : List RoutineTick) → AreNumbered start_tick_of (r ∷ before)
    → AllByRecursion (λ u. u.tick < 2 ^ 32) (r ∷ before)
    → IsBoundBy pending waited (r ∷ before) (routine_time r.tick (routine_figures (r ∷ before)))
