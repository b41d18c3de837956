-- What each tick is for a task: exactly one of six. Over the ticks that were seen, newest first.
use Rattle.std.specs.Prelude.{◌≡◌, Bool, true, false, List, [], ◌∷◌, cond, count_by, ◌||◌, ◌+◌}
use Rattle.osek_base.specs.declared.status.TaskState.TheVariants.{Running, Waiting, Ready, Suspended}
use Rattle.view_figures.specs.declared.task_tick.TaskTick.{TaskTick}
use Rattle.view_figures.specs.declared.task_time.TaskTime.{TaskTime}
use Rattle.view_figures.specs.declared.task_time.TaskTime.TheVariants.{Executed, StandsReady, Preempted, Blocked, Waits, HasNoJob}
use Rattle.view_figures.specs.declared.task_times.TaskTimes.{TaskTimes}
use Rattle.view_figures.specs.Counts.{capped}

-- it executes the tick's instruction
abbrev pub is_running : TaskTick → Bool
is_running t = elim t.seen.state [ Running ↦ true | Waiting ↦ false | Ready ↦ false | Suspended ↦ false ]

-- it waits for an event
abbrev pub is_waiting : TaskTick → Bool
is_waiting t = elim t.seen.state [ Running ↦ false | Waiting ↦ true | Ready ↦ false | Suspended ↦ false ]

-- the instruction ends its oldest job, or puts it to wait
abbrev pub leaves : TaskTick → Bool
leaves t = t.seen.ended || t.seen.waits

-- the oldest job has executed since it became ready, as a tick leaves it: a job becomes ready where it is made or
-- released, or the job before it ends
abbrev pub begun : TaskTick → Bool → Bool
begun t had = cond (leaves t) false (is_running t || had)

abbrev pub has_begun : List TaskTick → Bool
has_begun [] = false
has_begun (t ∷ before) = begun t (has_begun before)

-- what a tick is for a task that is ready: blocked where a task of lower static priority executes, else preempted where
-- its oldest job has begun
abbrev pub ready_time : Bool → Bool → TaskTime
ready_time lower_executes had = cond lower_executes Blocked (cond had Preempted StandsReady)

-- what a tick is for a task
abbrev pub time_of : TaskTick → Bool → TaskTime
time_of t had = elim t.seen.state [ Running ↦ Executed | Waiting ↦ Waits | Ready ↦ ready_time t.lower_executes had | Suspended ↦ HasNoJob ]

-- what each tick is for it
abbrev pub times : List TaskTick → List TaskTime
times [] = []
times (t ∷ before) = time_of t (has_begun before) ∷ times before

abbrev pub is_executed : TaskTime → Bool
is_executed time = elim time [ Executed ↦ true | StandsReady ↦ false | Preempted ↦ false | Blocked ↦ false | Waits ↦ false | HasNoJob ↦ false ]

abbrev pub is_ready : TaskTime → Bool
is_ready time = elim time [ Executed ↦ false | StandsReady ↦ true | Preempted ↦ false | Blocked ↦ false | Waits ↦ false | HasNoJob ↦ false ]

abbrev pub is_preempted : TaskTime → Bool
is_preempted time = elim time [ Executed ↦ false | StandsReady ↦ false | Preempted ↦ true | Blocked ↦ false | Waits ↦ false | HasNoJob ↦ false ]

abbrev pub is_blocked : TaskTime → Bool
is_blocked time = elim time [ Executed ↦ false | StandsReady ↦ false | Preempted ↦ false | Blocked ↦ true | Waits ↦ false | HasNoJob ↦ false ]

abbrev pub is_waited : TaskTime → Bool
is_waited time = elim time [ Executed ↦ false | StandsReady ↦ false | Preempted ↦ false | Blocked ↦ false | Waits ↦ true | HasNoJob ↦ false ]

-- the ticks by what they are for it
unfoldable pub task_times : List TaskTick → TaskTimes
task_times seen = record {
  executed = capped (count_by is_executed (times seen));
  ready = capped (count_by is_ready (times seen));
  preempted = capped (count_by is_preempted (times seen));
  blocked = capped (count_by is_blocked (times seen));
  waiting = capped (count_by is_waited (times seen));
  has_begun = has_begun seen;
}

-- it is READY or RUNNING
abbrev pub is_standing : TaskTick → Bool
is_standing t = elim t.seen.state [ Running ↦ true | Waiting ↦ false | Ready ↦ true | Suspended ↦ false ]

-- the ticks in which it is READY or RUNNING are those in which it is executed, ready, preempted or blocked, each once
abbrev pub AddUp : Type 0
AddUp = (seen : List TaskTick)
    → count_by is_executed (times seen) + count_by is_ready (times seen) + count_by is_preempted (times seen)
    + count_by is_blocked (times seen) ≡ count_by is_standing seen
