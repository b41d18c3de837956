-- OSEK/VDX OS: task management. What the code keeps of a state: queues by level, a slot a task, the running task.
use Rattle.std.specs.Prelude.{ℕ, Bool, false, not, ◌&&◌, ◌==◌, List, [], ◌∷◌, map, Option, Some, None, length}
use Rattle.std.specs.Option.{option_map}
use Rattle.std.specs.List.{filter, list_any}
use Rattle.osek_base.specs.declared.ids.ResId.{ResId}
use Rattle.osek_base.specs.System.{System}
use Rattle.osek_base.specs.Instruction.{Context}
use Rattle.osek_base.specs.State.{Job, JobId, Active, Expiry, Words, State, fresh_context, same_id, waits, jobs_of}
use Rattle.osek_base.specs.Priority.{dynamic_priority}

-- what is kept of a task: how many jobs it has, and of the oldest one all but its id
pub record Slot : Type 0 where
  pub count : ℕ
  pub begun : Bool
  pub held : List ResId
  pub taken : Bool
  pub waits_for : Option ℕ
  pub context : Context

-- the queues by level, oldest first; the slots by task; the running task, also where its job has ended, which gone says
pub record Kept : Type 0 where
  pub queues : ℕ → List ℕ
  pub slots : ℕ → Slot
  pub running : Option ℕ
  pub gone : Bool
  pub active : Option Active
  pub pending : List Bool
  pub disabled : Bool
  pub suspended_all : ℕ
  pub suspended_os : ℕ
  pub alarms : List (Option Expiry)
  pub words : Words
  pub masks : List ℕ
  pub shared : List (List ℕ)
  pub tick : ℕ
  pub over : Bool

-- a task with so many jobs, none of which has begun
abbrev pub unbegun : ℕ → Slot
unbegun n = record { count = n; begun = false; held = []; taken = false; waits_for = None; context = fresh_context }

-- the slot of a task with so many jobs, the oldest of which is this one
abbrev pub slot_with : ℕ → Job → Slot
slot_with n j =
    record {
      count = n;
      begun = j.begun;
      held = j.held;
      taken = j.taken;
      waits_for = j.waits_for;
      context = j.context;
    }

-- the slot of a task with these jobs
abbrev pub slot_of : List Job → Slot
slot_of [] = unbegun 0
slot_of (j ∷ js) = slot_with (length (j ∷ js)) j

-- whether a job is the running one
abbrev pub runs : Option JobId → Job → Bool
runs None j = false
runs (Some n) j = same_id j.id n

-- whether a job stands in a queue, and in which
abbrev pub is_queued : Option JobId → Job → Bool
is_queued running j = not (runs running j) && not (waits j)

abbrev pub is_at : System → Option JobId → ℕ → Job → Bool
is_at S running l j = is_queued running j && (dynamic_priority S j == l)

abbrev pub task_of : Job → ℕ
task_of j = j.id.task

abbrev pub queue : System → Option JobId → List Job → ℕ → List ℕ
queue S running jobs l = map task_of (filter (is_at S running l) jobs)

abbrev pub slots_of : List Job → ℕ → Slot
slots_of jobs t = slot_of (jobs_of t jobs)

-- whether the running job has ended
abbrev pub is_gone : Option JobId → List Job → Bool
is_gone None jobs = false
is_gone (Some n) jobs = not (list_any (λ j. same_id j.id n) jobs)

abbrev pub task_in : JobId → ℕ
task_in n = n.task

-- what the code keeps of a state
abbrev pub kept : System → State → Kept
kept S s =
    record {
      queues = queue S s.running s.jobs;
      slots = slots_of s.jobs;
      running = option_map task_in s.running;
      gone = is_gone s.running s.jobs;
      active = s.active;
      pending = s.pending;
      disabled = s.disabled;
      suspended_all = s.suspended_all;
      suspended_os = s.suspended_os;
      alarms = s.alarms;
      words = s.words;
      masks = s.masks;
      shared = s.shared;
      tick = s.tick;
      over = s.over;
    }
