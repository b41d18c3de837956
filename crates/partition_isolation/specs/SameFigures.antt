-- Partitions. Figures of the upper part are the same in systems that agree.
use Rattle.std.specs.Prelude.{ℕ, ◌≡◌, ◌<◌, IsTrue, List, [], None, length, slice_index_or}
use Rattle.osek_base.specs.declared.arrivals.Arrival.{Arrival}
use Rattle.osek_base.specs.System.{System}
use Rattle.view_figures.specs.declared.task_figures.TaskFigures.{TaskFigures}
use Rattle.view_figures.specs.AlarmSums.{alarm_figures}
use Rattle.view_figures.specs.FigureSums.{RunFigures, task_figures}
use Rattle.view_figures.specs.ResourceSums.{resource_figures}
use Rattle.view_figures.specs.RoutineSums.{routine_figures}
use Rattle.law_figures.specs.RunFigures.{AreRunFigures}
use Rattle.law_upper.specs.Above.{IsTheSameAlarm, IsTheSameResource, IsUpperTask}

-- the figures of a task but for the number of blockers, which an observation may tell or not,
-- whatever the tick
abbrev pub but_blockers : TaskFigures → TaskFigures
but_blockers f = record f { counts = record f.counts { blockers = None } }

-- figures of a run of one system and of a run of another: those of each upper task but for the
-- number of blockers, and those of each routine, upper resource and upper alarm are the same
pub record AreTheSameAbove (S B : System) (p : ℕ) (f g : RunFigures) : Type 0 where
  pub ticks : f.ticks ≡ g.ticks
  pub last : f.last ≡ g.last
  pub tasks : (t : ℕ) → IsUpperTask S p t
      → but_blockers (slice_index_or f.tasks t (task_figures []))
      ≡ but_blockers (slice_index_or g.tasks t (task_figures []))
  pub routines : (i : ℕ) → i < length S.routines
      → slice_index_or f.routines i (routine_figures [])
      ≡ slice_index_or g.routines i (routine_figures [])
  pub resources : (r q : ℕ) → IsTheSameResource S B p r q
      → slice_index_or f.resources r (resource_figures [])
      ≡ slice_index_or g.resources q (resource_figures [])
  pub scheduler : IsTrue S.use_res_scheduler
      → slice_index_or f.resources (length S.resources) (resource_figures [])
      ≡ slice_index_or g.resources (length B.resources) (resource_figures [])
  pub alarms : (a c : ℕ) → IsTheSameAlarm S B p a c
      → slice_index_or f.alarms a (alarm_figures [])
      ≡ slice_index_or g.alarms c (alarm_figures [])

-- in each mode, under the same arrivals, after every number of ticks
abbrev pub FiguresAreTheSame : System → System → ℕ → Type 0
FiguresAreTheSame S B p =
    (mode : ℕ) (arrivals : List Arrival) (n : ℕ) (f g : RunFigures)
    → AreRunFigures S mode arrivals n f → AreRunFigures B mode arrivals n g
    → AreTheSameAbove S B p f g
