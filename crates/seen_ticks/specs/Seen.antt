-- What is seen of things in a tick, as plain lists and by number, and ticks in which the same is seen.
use Rattle.std.specs.Prelude.{ℕ, zero, suc, false, List, [], ◌∷◌, Option, None, slice_index_or}
use Rattle.osek_base.specs.declared.status.TaskState.TheVariants.{Suspended}
use Rattle.seen_ticks.specs.declared.alarm_seen.AlarmSeen.{AlarmSeen}
use Rattle.seen_ticks.specs.declared.observation.Observation.{Observation}
use Rattle.seen_ticks.specs.declared.routine_seen.RoutineSeen.{RoutineSeen}
use Rattle.seen_ticks.specs.declared.task_seen.TaskSeen.{TaskSeen}

-- of each task, routine and alarm by number, and who holds each resource
pub record Seen : Type 0 where
  pub tasks : List TaskSeen
  pub routines : List RoutineSeen
  pub holders : List (Option ℕ)
  pub alarms : List AlarmSeen

-- those of an observation
abbrev pub seen_of : Observation → Seen
seen_of o =
    record {
      tasks = o.tasks.items;
      routines = o.routines.items;
      holders = o.holders.items;
      alarms = o.alarms.items;
    }

-- what is seen of something that an observation doesn't have
abbrev pub unseen_task : TaskSeen
unseen_task = record { state = Suspended; priority = None; jobs = 0; made = 0; refused = 0; ended = false; waits = false }

abbrev pub unseen_routine : RoutineSeen
unseen_routine = record { executes = false; is_pending = false; is_started = false; arrived = 0; lost = 0 }

abbrev pub unseen_alarm : AlarmSeen
unseen_alarm = record { has_expired = false; is_refused = false }

-- what is seen of the thing of that number
abbrev pub task_seen : Observation → ℕ → TaskSeen
task_seen o k = slice_index_or o.tasks.items k unseen_task

abbrev pub routine_seen : Observation → ℕ → RoutineSeen
routine_seen o k = slice_index_or o.routines.items k unseen_routine

abbrev pub alarm_seen : Observation → ℕ → AlarmSeen
alarm_seen o k = slice_index_or o.alarms.items k unseen_alarm

abbrev pub holder_seen : Observation → ℕ → Option ℕ
holder_seen o k = slice_index_or o.holders.items k None

-- what is seen as of a tick of another number
abbrev pub numbered : ℕ → Observation → Observation
numbered tick o = record o { tick = tick }

-- so many ticks from one on, in which but for the number the same is seen
abbrev pub alike_ticks : Observation → ℕ → ℕ → List Observation
alike_ticks o first zero = []
alike_ticks o first (suc n) = numbered first o ∷ alike_ticks o (suc first) n
