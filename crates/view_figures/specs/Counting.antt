-- Figures of a thing before and after ticks. `sum seen` are those over some observations, newest
-- first.
use Rattle.std.specs.Prelude.{ℕ, ◌≡◌, ◌<◌, List, [], ◌∷◌, length, map, slice_index_or}
use Rattle.seen_ticks.specs.declared.observation.Observation.{Observation}
use Rattle.view_figures.specs.declared.task_figures.TaskFigures.{TaskFigures}
use Rattle.view_figures.specs.declared.routine_figures.RoutineFigures.{RoutineFigures}
use Rattle.view_figures.specs.declared.resource_figures.ResourceFigures.{ResourceFigures}
use Rattle.view_figures.specs.declared.alarm_figures.AlarmFigures.{AlarmFigures}
use Rattle.view_figures.specs.FigureSums.{task_figures, task_tick, routine_tick, holder_tick, alarm_tick, alike}
use Rattle.view_figures.specs.RoutineSums.{routine_figures}
use Rattle.view_figures.specs.ResourceSums.{resource_figures}
use Rattle.view_figures.specs.AlarmSums.{alarm_figures}

-- those of the thing of number k, a task by the static priorities of all
abbrev pub task_figures_of : List ℕ → ℕ → List Observation → TaskFigures
task_figures_of levels k seen = task_figures (map (λ o. task_tick levels o k) seen)

abbrev pub routine_figures_of : ℕ → List Observation → RoutineFigures
routine_figures_of k seen = routine_figures (map (λ o. routine_tick o k) seen)

abbrev pub resource_figures_of : ℕ → List Observation → ResourceFigures
resource_figures_of k seen = resource_figures (map (λ o. holder_tick o k) seen)

abbrev pub alarm_figures_of : ℕ → List Observation → AlarmFigures
alarm_figures_of k seen = alarm_figures (map (λ o. alarm_tick o k) seen)

-- before and after one more observation
abbrev pub CountsOne : {X : Type 0} (sum : List Observation → X) (o : Observation) (old new : X)
    → Type 0
CountsOne sum o old new = (before : List Observation) → old ≡ sum before → new ≡ sum (o ∷ before)

-- before and after n ticks from one on, in which but for the number the same is seen
abbrev pub Counts : {X : Type 0} (sum : List Observation → X) (o : Observation) (first n : ℕ)
    (old new : X) → Type 0
Counts sum o first n old new =
    (before : List Observation) → old ≡ sum before → new ≡ sum (alike o first n before)

-- a list of figures before and after such ticks, where `sums k` are those of the thing of number k
pub record AreCounted {X : Type 0} (sums : ℕ → List Observation → X) (o : Observation)
    (first n : ℕ) (old new : List X) : Type 0 where
  pub count : length new ≡ length old
  pub each : (k : ℕ) → k < length old
      → Counts (sums k) o first n (slice_index_or old k (sums k []))
      (slice_index_or new k (sums k []))
