-- Ticks in a row in which the same is seen, and what of them is counted at once.
use Rattle.std.specs.Prelude.{ℕ, Bool, true, not, ◌&&◌, ◌==◌, ◌+◌, ◌-◌, ◌^◌, cond, is_some, nat_le}
use Rattle.osek_base.specs.declared.status.TaskState.{TaskState}
use Rattle.osek_base.specs.declared.status.TaskState.TheVariants.{Running, Waiting, Ready, Suspended}
use Rattle.view_figures.specs.declared.task_tick.TaskTick.{TaskTick}
use Rattle.view_figures.specs.declared.task_time.TaskTime.{TaskTime}
use Rattle.view_figures.specs.declared.task_time.TaskTime.TheVariants.{Executed, StandsReady, Preempted, Blocked, Waits, HasNoJob}
use Rattle.view_figures.specs.declared.task_times.TaskTimes.{TaskTimes}
use Rattle.view_figures.specs.declared.task_figures.TaskFigures.{TaskFigures}
use Rattle.view_figures.specs.declared.routine_figures.RoutineTick.{RoutineTick}
use Rattle.view_figures.specs.declared.resource_figures.HolderTick.{HolderTick}
use Rattle.view_figures.specs.declared.resource_figures.ResourceFigures.{ResourceFigures}
use Rattle.view_figures.specs.Counts.{capped}
use Rattle.view_figures.specs.Reaching.{worse_of}
use Rattle.view_figures.specs.TaskSums.{left_jobs}
use Rattle.view_figures.specs.StateSums.{begun, ready_time, time_of, is_executed, is_ready, is_preempted, is_blocked, is_waited}
use Rattle.view_figures.specs.ResourceSums.{is_got, hold_on, hold_at}

-- no interrupt of a routine arrives, it isn't started, and it isn't answered an error
abbrev pub is_calm_routine : RoutineTick → Bool
is_calm_routine r = (not r.seen.is_started && not r.has_failed) && ((r.seen.arrived == 0) && (r.seen.lost == 0))

-- a task holds a resource in a tick, and so many ticks more of its hold can be counted
abbrev pub can_hold_on : HolderTick → ℕ → ResourceFigures → Bool
can_hold_on h more f = is_some h.holder && nat_le (hold_on h.holder f.holder f.held) (2 ^ 32 - 1 - more)

-- a tick and so many more in a row, with one holder
abbrev pub held_on : HolderTick → ℕ → ResourceFigures → ResourceFigures
held_on h more f = record {
  gets = capped (f.gets + cond (is_got h.holder f.holder) 1 0);
  longest = worse_of f.longest (hold_at (record h { tick = h.tick + more }) (hold_on h.holder f.holder f.held + more));
  holder = h.holder;
  held = hold_on h.holder f.holder f.held + more;
}

-- so many ticks more, by what they are for a task
abbrev pub time_on : TaskTime → ℕ → TaskTimes → TaskTimes
time_on time more f = elim time [
  | Executed ↦ record f { executed = capped (f.executed + more) }
  | StandsReady ↦ record f { ready = capped (f.ready + more) }
  | Preempted ↦ record f { preempted = capped (f.preempted + more) }
  | Blocked ↦ record f { blocked = capped (f.blocked + more) }
  | Waits ↦ record f { waiting = capped (f.waiting + more) }
  | HasNoJob ↦ f
]

-- so many ticks more of a task that is in a state and stays
abbrev pub went_on : TaskState → Bool → ℕ → TaskTimes → TaskTimes
went_on state lower_executes more f = elim state [
  | Running ↦ record f { executed = capped (f.executed + more); has_begun = true }
  | Waiting ↦ record f { waiting = capped (f.waiting + more) }
  | Ready ↦ time_on (ready_time lower_executes f.has_begun) more f
  | Suspended ↦ f
]

-- so many ticks more, each of which is the same for a task
abbrev pub times_on : TaskTick → ℕ → TaskTimes → TaskTimes
times_on t more f = record {
  executed = capped (f.executed + cond (is_executed (time_of t f.has_begun)) more 0);
  ready = capped (f.ready + cond (is_ready (time_of t f.has_begun)) more 0);
  preempted = capped (f.preempted + cond (is_preempted (time_of t f.has_begun)) more 0);
  blocked = capped (f.blocked + cond (is_blocked (time_of t f.has_begun)) more 0);
  waiting = capped (f.waiting + cond (is_waited (time_of t f.has_begun)) more 0);
  has_begun = f.has_begun;
}

-- and its oldest job may have begun
abbrev pub times_stayed : TaskTick → ℕ → TaskTimes → TaskTimes
times_stayed t more f = record (times_on t more f) { has_begun = begun t f.has_begun }

-- so many ticks more of a task in which its times alone grow
abbrev pub stayed : TaskTick → ℕ → TaskFigures → TaskFigures
stayed t more f = record f {
  counts = record f.counts { unfinished = left_jobs t };
  times = times_stayed t more f.times;
}
