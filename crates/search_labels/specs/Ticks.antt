-- What is seen of things in a tick, one by one, and as ticks of figures.
use Rattle.std.specs.Prelude.{ℕ, ◌&&◌, Bool, false, cond, List, length, nat_lt, Option, None, Some, slice_index_or}
use Rattle.osek_base.specs.declared.ids.Owner.{Owner}
use Rattle.osek_base.specs.declared.ids.Owner.TheVariants.{Routine, Task}
use Rattle.seen_ticks.specs.declared.alarm_seen.AlarmSeen.{AlarmSeen}
use Rattle.seen_ticks.specs.declared.routine_seen.RoutineSeen.{RoutineSeen}
use Rattle.seen_ticks.specs.declared.task_seen.TaskSeen.{TaskSeen}
use Rattle.seen_ticks.specs.Seen.{Seen, unseen_alarm, unseen_routine, unseen_task}
use Rattle.view_figures.specs.declared.task_tick.TaskTick.{TaskTick}
use Rattle.view_figures.specs.declared.routine_figures.RoutineTick.{RoutineTick}
use Rattle.view_figures.specs.declared.resource_figures.HolderTick.{HolderTick}
use Rattle.law_figures.specs.Blocking.{stands_ready}

-- what is seen of a thing, beyond the lists that nothing comes to it
abbrev pub task_in : Seen → ℕ → TaskSeen
task_in seen k = slice_index_or seen.tasks k unseen_task

abbrev pub routine_in : Seen → ℕ → RoutineSeen
routine_in seen i = slice_index_or seen.routines i unseen_routine

abbrev pub alarm_in : Seen → ℕ → AlarmSeen
alarm_in seen a = slice_index_or seen.alarms a unseen_alarm

-- as ticks of figures, whose labels go by what is seen alone
abbrev pub task_tick : Seen → ℕ → TaskTick
task_tick seen k =
    record {
      tick = 0;
      seen = task_in seen k;
      lower_executes = false;
      has_failed = false;
      blockers = None;
    }

-- and where it is known below which tasks the one is that executes, if one does
abbrev pub blocked_tick : (ℕ → Bool) → Seen → ℕ → TaskTick
blocked_tick lower seen k = record (task_tick seen k) { lower_executes = lower k }

-- the static priority of the task that executes, if one does
abbrev pub executing_level : List ℕ → Option Owner → Option ℕ
executing_level levels None = None
executing_level levels (Some (Task t)) =
    cond (nat_lt t (length levels)) (Some (slice_index_or levels t 0)) None
executing_level levels (Some (Routine i)) = None

-- a static priority is higher than that
abbrev pub is_above : Option ℕ → ℕ → Bool
is_above None level = false
is_above (Some lower) level = nat_lt lower level

-- where that is asked of a task that is READY alone: another one isn't blocked
abbrev pub ready_tick : (ℕ → Bool) → Seen → ℕ → TaskTick
ready_tick lower seen k =
    blocked_tick (λ i. stands_ready (task_in seen i).state && lower i) seen k

abbrev pub routine_tick : Seen → ℕ → RoutineTick
routine_tick seen i = record { tick = 0; seen = routine_in seen i; has_failed = false }

abbrev pub holder_tick : Seen → ℕ → HolderTick
holder_tick seen r = record { tick = 0; holder = slice_index_or seen.holders r None }
