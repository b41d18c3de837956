-- What a row of a picture shows of a tick, from what is seen of it.
use Rattle.std.specs.Prelude.{ℕ, Bool, false, Option, Some, None, if◌then◌else◌, ◌&&◌, not, nat_lt}
use Rattle.osek_base.specs.declared.status.TaskState.{TaskState}
use Rattle.seen_ticks.specs.declared.task_seen.TaskSeen.{TaskSeen}
use Rattle.seen_ticks.specs.declared.routine_seen.RoutineSeen.{RoutineSeen}
use Rattle.view_timelines.specs.declared.activity.Activity.{Activity}
use Rattle.view_timelines.specs.declared.processor.Processor.{Processor}
use Rattle.view_timelines.specs.declared.held.Held.{Held}
use Rattle.view_timelines.specs.declared.moment.Moment.{Moment}

-- whether a task's oldest job has executed since it became ready, behind a tick: it has where it executes the tick's instruction,
-- but where that ends it or makes it wait; while it is READY nothing changes
abbrev pub begun_in : TaskState → Bool → TaskSeen → Bool
begun_in TaskState.Running before seen = not seen.ended && not seen.waits
begun_in TaskState.Ready before seen = before
begun_in TaskState.Waiting before seen = false
begun_in TaskState.Suspended before seen = false

abbrev pub begun_behind : Bool → TaskSeen → Bool
begun_behind before seen = begun_in seen.state before seen

-- a task that is READY is blocked where a task of lower static priority executes; else, where its oldest job has executed since
-- it became ready, it is interrupted where a routine executes, and preempted where none does; and else it is just ready
abbrev pub ready_activity : Processor → ℕ → Bool → Activity
ready_activity (Processor.Task p) static begun =
    if nat_lt p static then Activity.Blocked else (if begun then Activity.Preempted else Activity.Ready)
ready_activity Processor.Routine static begun = if begun then Activity.Interrupted else Activity.Ready
ready_activity Processor.Idle static begun = if begun then Activity.Preempted else Activity.Ready

abbrev pub task_activity : TaskState → Processor → ℕ → Bool → Activity
task_activity TaskState.Running processor static begun = Activity.Executing
task_activity TaskState.Ready processor static begun = ready_activity processor static begun
task_activity TaskState.Waiting processor static begun = Activity.Waiting
task_activity TaskState.Suspended processor static begun = Activity.Nothing

-- the priority of a task's oldest job, else the static one
abbrev pub shown_priority : Option ℕ → ℕ → ℕ
shown_priority None static = static
shown_priority (Some p) static = p

-- what is seen of a task of a static priority, where its oldest job has or hasn't executed since it became ready, and what it holds
abbrev pub task_moment : TaskSeen → Processor → ℕ → Bool → Held → Moment
task_moment seen processor static begun held = record {
  activity = task_activity seen.state processor static begun;
  priority = shown_priority seen.priority static;
  jobs = seen.jobs;
  held = held;
}

abbrev pub no_resource : Held
no_resource = record { bits = 0 }

abbrev pub routine_moment : RoutineSeen → ℕ → Moment
routine_moment seen p = record {
  activity = if seen.executes then Activity.Executing else (if seen.is_pending then Activity.Ready else Activity.Nothing);
  priority = p;
  jobs = 0;
  held = no_resource;
}
