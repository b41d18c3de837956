-- Ticks in which nothing comes to a thing, and it does nothing.
use Rattle.std.specs.Prelude.{ℕ, Bool, true, false, not, ◌&&◌, ◌||◌, ◌==◌, is_none, is_some, Option, Some, None, ◌-◌, ◌^◌}
use Rattle.osek_base.specs.declared.ids.Owner.{Owner}
use Rattle.osek_base.specs.declared.ids.Owner.TheVariants.{Task, Routine}
use Rattle.osek_base.specs.declared.status.TaskState.{TaskState}
use Rattle.osek_base.specs.declared.status.TaskState.TheVariants.{Running, Waiting, Ready, Suspended}
use Rattle.seen_ticks.specs.declared.task_seen.TaskSeen.{TaskSeen}
use Rattle.seen_ticks.specs.declared.routine_seen.RoutineSeen.{RoutineSeen}
use Rattle.seen_ticks.specs.declared.alarm_seen.AlarmSeen.{AlarmSeen}
use Rattle.seen_ticks.specs.declared.observation.Observation.{Observation}
use Rattle.seen_ticks.specs.Seen.{alarm_seen, holder_seen, routine_seen}
use Rattle.view_figures.specs.FigureSums.{is_error, is_task, is_routine}

abbrev pub is_suspended : TaskState → Bool
is_suspended state = elim state [ Running ↦ false | Waiting ↦ false | Ready ↦ false | Suspended ↦ true ]

-- a task has no job
abbrev pub has_nothing : TaskSeen → Bool
has_nothing s = is_suspended s.state && (s.jobs == 0)

-- no job of it is made, refused or left
abbrev pub gets_nothing : TaskSeen → Bool
gets_nothing s = (s.made == 0) && ((s.refused == 0) && (not s.ended && not s.waits))

-- the number of the task that executes; where none does, one that no task has
abbrev pub executing_number : Option Owner → ℕ
executing_number None = 2 ^ 64 - 1
executing_number (Some (Task t)) = t
executing_number (Some (Routine i)) = 2 ^ 64 - 1

-- a task has no job, and nothing comes to it
abbrev pub rests : TaskSeen → Bool
rests s = has_nothing s && gets_nothing s

-- an error is answered, or blockers are told
abbrev pub tells : Observation → Bool
tells o = is_error o.answered || is_some o.blockers

-- of task k, which executes where it is RUNNING and nowhere else, neither is told
abbrev pub is_untold : Observation → TaskState → ℕ → Bool
is_untold o state k = elim state [
  | Running ↦ is_task o.executor k && not (tells o)
  | Waiting ↦ not (is_task o.executor k)
  | Ready ↦ not (is_task o.executor k)
  | Suspended ↦ not (is_task o.executor k)
]

-- no interrupt of a routine arrives or is pending, and it isn't started
abbrev pub is_unasked : RoutineSeen → Bool
is_unasked r = (not r.is_pending && not r.is_started) && ((r.arrived == 0) && (r.lost == 0))

-- of routine k nothing is seen, and it doesn't execute
abbrev pub is_quiet_routine : Observation → ℕ → Bool
is_quiet_routine o k = is_unasked (routine_seen o k) && not (is_routine o.executor k)

-- nobody holds resource k
abbrev pub is_free : Observation → ℕ → Bool
is_free o k = is_none (holder_seen o k)

-- alarm k doesn't expire
abbrev pub is_unexpired : AlarmSeen → Bool
is_unexpired a = not a.has_expired && not a.is_refused

abbrev pub is_quiet_alarm : Observation → ℕ → Bool
is_quiet_alarm o k = is_unexpired (alarm_seen o k)
