-- What is known of the tick that a machine did last, and what is seen by it and by the picture
-- behind it.
use Rattle.std.specs.Prelude.{ℕ, ◌≡◌, ◌+◌, ◌-◌, Bool, false, not, ◌&&◌, List, [], map, Option, Some, None, length, slice_index_or}
use Rattle.std.specs.Option.{option_map}
use Rattle.seen_ticks.specs.declared.alarm_seen.AlarmSeen.{AlarmSeen}
use Rattle.seen_ticks.specs.declared.routine_seen.RoutineSeen.{RoutineSeen}
use Rattle.seen_ticks.specs.declared.task_seen.TaskSeen.{TaskSeen}
use Rattle.osek_base.specs.declared.executed.Executed.{Executed}
use Rattle.osek_base.specs.declared.ids.Owner.{Owner}
use Rattle.osek_base.specs.declared.status.TaskState.{TaskState}
use Rattle.osek_base.specs.Lists.{below}
use Rattle.osek_base.specs.System.{System}
use Rattle.law_kept.specs.Kept.{Kept}
use Rattle.law_kept.specs.KeptService.{task_state_in}
use Rattle.law_future.specs.Spans.{is_pending_in}
use Rattle.law_kept.specs.Seen.{routine_of}
use Rattle.kernel.specs.declared.acted.Acted.{Acted}
use Rattle.seen_ticks.specs.declared.task_at.TaskAt.{TaskAt}
use Rattle.seen_ticks.specs.Told.{task_at_in}
use Rattle.seen_ticks.specs.Observed.{activations_by, ending, is_among, is_by, is_number, is_waiting, lost_of, one_if, refusing, state_seen, task_of, times}
use Rattle.law_seen.specs.Shown.{KeptTicked}
use Rattle.seen_machines.specs.declared.told.Told.{Told}

-- what is known is that of a tick
pub record IsTold (S : System) (k : KeptTicked) (w : Told) : Type 0 where
  pub jobs : w.before.jobs.items ≡ map (λ t. (k.before.slots t).count) (below (length S.tasks))
  pub pending : w.before.pending.items ≡ map (is_pending_in k.before) (below (length S.routines))
  pub active : w.before.active ≡ option_map routine_of k.before.active
  pub tasks : w.at.tasks.items ≡ map (task_at_in S k.at) (below (length S.tasks))
  pub executed : w.execution.executed ≡ k.executed
  pub ending : w.execution.ending ≡ ending S k.executed
  pub refusing : w.execution.refusing ≡ refusing S k.executed

-- it is known of all tasks and routines of a system
pub record IsOfAll (S : System) (w : Told) : Type 0 where
  pub jobs : length w.before.jobs.items ≡ length S.tasks
  pub pending : length w.before.pending.items ≡ length S.routines
  pub tasks : length w.at.tasks.items ≡ length S.tasks

-- ---- of each object

abbrev pub without_job : TaskAt
without_job = record { state = TaskState.Suspended; priority = None; jobs = 0 }

abbrev pub task_at_told : Told → ℕ → TaskAt
task_at_told w t = slice_index_or w.at.tasks.items t without_job

abbrev pub jobs_told : Told → ℕ → ℕ
jobs_told w t = slice_index_or w.before.jobs.items t 0

abbrev pub pending_told : Told → ℕ → Bool
pending_told w i = slice_index_or w.before.pending.items i false

-- ---- what is seen, where there is such a picture behind the tick and some alarms acted

abbrev pub task_seen_by : System → Told → Kept → Acted → ℕ → TaskSeen
task_seen_by S w o acted t =
    record {
      state = state_seen (is_by (Owner.Task t) w.execution.executed) (task_at_told w t).state;
      priority = (task_at_told w t).priority;
      jobs = (task_at_told w t).jobs;
      made = (o.slots t).count + one_if (is_number t w.execution.ending) - jobs_told w t;
      refused =
          one_if (is_number t w.execution.refusing) + activations_by S t acted.refused;
      ended = is_number t w.execution.ending;
      waits =
          is_by (Owner.Task t) w.execution.executed && is_waiting (task_state_in o t);
    }

abbrev pub routine_seen_by : Told → Kept → List ℕ → ℕ → RoutineSeen
routine_seen_by w o arrived i =
    record {
      executes = is_by (Owner.Routine i) w.execution.executed;
      is_pending = is_pending_in o i;
      is_started =
          is_by (Owner.Routine i) w.execution.executed && not (is_number i w.before.active);
      arrived = times i arrived;
      lost = lost_of (pending_told w i) (times i arrived);
    }

abbrev pub alarm_seen_by : Acted → ℕ → AlarmSeen
alarm_seen_by acted a =
    record { has_expired = is_among acted.due a; is_refused = is_among acted.refused a }

-- ---- of most tasks, which neither execute nor end nor are refused

-- no activation is refused
pub record NoneIsRefused (w : Told) (acted : Acted) : Type 0 where
  pub by_instruction : w.execution.refusing ≡ None
  pub by_alarms : acted.refused ≡ []

-- the task that executes
abbrev pub executing : Option Executed → Option ℕ
executing None = None
executing (Some e) = task_of e.owner

-- its number, and 255 where there is none
abbrev pub number_or_none : Option ℕ → ℕ
number_or_none None = 255
number_or_none (Some t) = t

-- by what it was at the instruction, and by how many jobs it has behind the tick and had before it
abbrev pub bystander : TaskAt → ℕ → ℕ → TaskSeen
bystander at jobs before =
    record {
      state = state_seen false at.state;
      priority = at.priority;
      jobs = at.jobs;
      made = jobs - before;
      refused = 0;
      ended = false;
      waits = false;
    }

-- ---- of alarms in most ticks, in which none is due

pub record NoneActed (acted : Acted) : Type 0 where
  pub due : acted.due ≡ []
  pub refused : acted.refused ≡ []

abbrev pub not_due : AlarmSeen
not_due = record { has_expired = false; is_refused = false }
