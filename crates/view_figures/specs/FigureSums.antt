-- Figures of a run, over the observations of its ticks, newest first.
use Rattle.std.specs.Prelude.{◌≡◌, ℕ, zero, suc, ◌<◌, Bool, false, List, [], ◌∷◌, Option, Some, None, map, length, count_by, slice_index_or, nat_lt, ◌&&◌, ◌==◌, ◌+◌, cond, is_none}
use Rattle.osek_base.specs.System.{System, Task as Configured}
use Rattle.osek_base.specs.declared.status.Status.{Status}
use Rattle.osek_base.specs.Tick.{status_number}
use Rattle.osek_base.specs.declared.ids.Owner.{Owner}
use Rattle.osek_base.specs.declared.ids.Owner.TheVariants.{Task, Routine}
use Rattle.seen_ticks.specs.declared.observation.Observation.{Observation}
use Rattle.seen_ticks.specs.Seen.{alarm_seen, holder_seen, numbered, routine_seen, task_seen}
use Rattle.view_figures.specs.declared.task_tick.TaskTick.{TaskTick}
use Rattle.view_figures.specs.declared.task_figures.TaskFigures.{TaskFigures}
use Rattle.view_figures.specs.declared.routine_figures.RoutineTick.{RoutineTick}
use Rattle.view_figures.specs.declared.routine_figures.RoutineFigures.{RoutineFigures}
use Rattle.view_figures.specs.declared.resource_figures.HolderTick.{HolderTick}
use Rattle.view_figures.specs.declared.resource_figures.ResourceFigures.{ResourceFigures}
use Rattle.view_figures.specs.declared.alarm_figures.AlarmTick.{AlarmTick}
use Rattle.view_figures.specs.declared.alarm_figures.AlarmFigures.{AlarmFigures}
use Rattle.view_figures.specs.Counts.{capped}
use Rattle.view_figures.specs.TaskSums.{task_counts}
use Rattle.view_figures.specs.StateSums.{task_times}
use Rattle.view_figures.specs.RoutineSums.{routine_figures}
use Rattle.view_figures.specs.ResourceSums.{resource_figures}
use Rattle.view_figures.specs.AlarmSums.{alarm_figures}
use Rattle.view_figures.specs.ResponseSums.{response_figures}

unfoldable pub task_figures : List TaskTick → TaskFigures
task_figures seen = record { counts = task_counts seen; times = task_times seen; responses = response_figures seen }

-- a task executes whose static priority is lower than that of task k. The levels are the tasks' static priorities
abbrev pub lower_executes : List ℕ → Option Owner → ℕ → Bool
lower_executes levels None k = false
lower_executes levels (Some (Task t)) k = nat_lt t (length levels) && nat_lt (slice_index_or levels t 0) (slice_index_or levels k 0)
lower_executes levels (Some (Routine i)) k = false

-- the instruction is a service, and answered other than E_OK
abbrev pub is_error : Option Status → Bool
is_error None = false
is_error (Some status) = nat_lt 0 (status_number status)

-- task k executes
abbrev pub is_task : Option Owner → ℕ → Bool
is_task None k = false
is_task (Some (Task t)) k = t == k
is_task (Some (Routine i)) k = false

-- routine k executes
abbrev pub is_routine : Option Owner → ℕ → Bool
is_routine None k = false
is_routine (Some (Task t)) k = false
is_routine (Some (Routine i)) k = i == k

-- what an observation has of each thing, by number
abbrev pub task_tick : List ℕ → Observation → ℕ → TaskTick
task_tick levels o k = record {
  tick = o.tick;
  seen = task_seen o k;
  lower_executes = lower_executes levels o.executor k;
  has_failed = is_task o.executor k && is_error o.answered;
  blockers = cond (is_task o.executor k) o.blockers None;
}

-- of task k, which executes, as of tick t
abbrev pub executing_tick : Observation → ℕ → ℕ → TaskTick
executing_tick o t k = record {
  tick = t;
  seen = task_seen o k;
  lower_executes = false;
  has_failed = is_error o.answered;
  blockers = o.blockers;
}

abbrev pub routine_tick : Observation → ℕ → RoutineTick
routine_tick o k = record {
  tick = o.tick;
  seen = routine_seen o k;
  has_failed = is_routine o.executor k && is_error o.answered;
}

abbrev pub holder_tick : Observation → ℕ → HolderTick
holder_tick o k = record { tick = o.tick; holder = holder_seen o k }

abbrev pub alarm_tick : Observation → ℕ → AlarmTick
alarm_tick o k = record { tick = o.tick; seen = alarm_seen o k }

-- so many ticks from one on, newest first, in which but for the number the same is seen
abbrev pub alike : Observation → ℕ → ℕ → List Observation → List Observation
alike o first zero before = before
alike o first (suc n) before = numbered (first + n) o ∷ alike o first n before

-- nobody executes
abbrev pub is_idle : Observation → Bool
is_idle o = is_none o.executor

-- the number of the last tick, 0 before the first
abbrev pub last_tick : List Observation → ℕ
last_tick [] = 0
last_tick (o ∷ before) = o.tick

-- the static priorities of a system's tasks
abbrev pub levels_of : System → List ℕ
levels_of S = map (λ (t : Configured). t.priority) S.tasks

-- how many resources can be held: those that are declared, and RES_SCHEDULER
abbrev pub held_count : System → ℕ
held_count S = length S.resources + cond S.use_res_scheduler 1 0

-- the figures of a run
pub record RunFigures : Type 0 where
  pub ticks : ℕ
  pub last : ℕ
  pub idle : ℕ
  pub levels : List ℕ
  pub tasks : List TaskFigures
  pub routines : List RoutineFigures
  pub resources : List ResourceFigures
  pub alarms : List AlarmFigures

-- a list has the figures of n things: at k those over what was seen of the thing of number k
pub record AreOf {T X : Type 0} (n : ℕ) (kind : List T → X) (seen : ℕ → List T) (figures : List X) : Type 0 where
  pub count : length figures ≡ n
  pub each : (k : ℕ) → k < n → slice_index_or figures k (kind []) ≡ kind (seen k)

-- the figures of a system after some observations: the ticks and the last one, those in which nobody executes, and the figures of each
-- task, routine, resource (RES_SCHEDULER behind the declared ones) and alarm
pub record AreFigures (S : System) (seen : List Observation) (f : RunFigures) : Type 0 where
  pub ticks : f.ticks ≡ capped (length seen)
  pub last : f.last ≡ last_tick seen
  pub idle : f.idle ≡ capped (count_by is_idle seen)
  pub levels : f.levels ≡ levels_of S
  pub tasks : AreOf (length S.tasks) task_figures (λ k. map (λ o. task_tick (levels_of S) o k) seen) f.tasks
  pub routines : AreOf (length S.routines) routine_figures (λ k. map (λ o. routine_tick o k) seen) f.routines
  pub resources : AreOf (held_count S) resource_figures (λ k. map (λ o. holder_tick o k) seen) f.resources
  pub alarms : AreOf (length S.alarms) alarm_figures (λ k. map (λ o. alarm_tick o k) seen) f.alarms
