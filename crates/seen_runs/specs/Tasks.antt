-- What is seen of a task, by whether it executes, and where each task is left what it was.
use Rattle.std.specs.Prelude.{ℕ, ◌≡◌, ◌+◌, ◌-◌, ◌&&◌, Bool, true, false, Option, Some, None}
use Rattle.seen_ticks.specs.declared.task_seen.TaskSeen.{TaskSeen}
use Rattle.osek_base.specs.declared.executed.Executed.{Executed}
use Rattle.osek_base.specs.declared.status.TaskState.{TaskState}
use Rattle.osek_base.specs.declared.trace_event.Outcome.{Outcome}
use Rattle.osek_base.specs.System.{System}
use Rattle.seen_ticks.specs.declared.task_at.TaskAt.{TaskAt}
use Rattle.seen_ticks.specs.Observed.{Ticked, answered, ending, failure_of, is_waiting, jobs_before, one_if, refusing, state_seen}
use Rattle.seen_ticks.specs.Told.{task_at}

-- of the task that executes: by what it was at the instruction and is behind it, how many jobs it had before the tick, how many
-- activations were refused, and whether a job ended
abbrev pub own_seen : TaskAt → TaskAt → ℕ → ℕ → Bool → TaskSeen
own_seen at behind before refused ended =
    record {
      state = TaskState.Running;
      priority = at.priority;
      jobs = at.jobs;
      made = behind.jobs + one_if ended - before;
      refused = refused;
      ended = ended;
      waits = is_waiting behind.state;
    }

-- of another: by how many jobs it has behind the tick
abbrev pub other_seen : TaskAt → ℕ → ℕ → ℕ → TaskSeen
other_seen at jobs before refused =
    record {
      state = state_seen false at.state;
      priority = at.priority;
      jobs = at.jobs;
      made = jobs - before;
      refused = refused;
      ended = false;
      waits = false;
    }

-- whether the instruction was a plain one
abbrev pub is_plain_outcome : Outcome → Bool
is_plain_outcome (Outcome.Plain effect) = true
is_plain_outcome _ = false

abbrev pub is_plain : Option Executed → Bool
is_plain None = false
is_plain (Some e) = is_plain_outcome e.outcome

-- of a task that is behind the tick what it was at the instruction, where no job ended
abbrev pub standing_seen : Bool → TaskAt → ℕ → ℕ → TaskSeen
standing_seen executes at before refused =
    record {
      state = state_seen executes at.state;
      priority = at.priority;
      jobs = at.jobs;
      made = at.jobs - before;
      refused = refused;
      ended = false;
      waits = executes && is_waiting at.state;
    }

-- the instruction ended no job, was no activation that was refused and is answered nothing, and behind the tick each task is what
-- it was at it
pub record LeavesTasks (S : System) (k : Ticked) : Type 0 where
  pub ends : ending S k.executed ≡ None
  pub refuses : refusing S k.executed ≡ None
  pub answer : answered k.executed ≡ None
  pub failure : failure_of k.executed ≡ None
  pub each : (t : ℕ) → task_at S k.at t ≡ task_at S k.after t

-- no job is made before the instruction
abbrev pub MakesNone : System → Ticked → Type 0
MakesNone S k = (t : ℕ) → jobs_before k.first k.before t ≡ (task_at S k.at t).jobs
