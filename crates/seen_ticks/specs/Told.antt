-- OSEK/VDX OS: task management, task state model; alarms. What tasks are when a tick's instruction is executed, and the alarms
-- that are due in it.
use Rattle.std.specs.Prelude.{ℕ, List, [], ◌∷◌, ◌++◌, length}
use Rattle.std.specs.Option.{option_map}
use Rattle.osek_base.specs.declared.arrivals.Arrival.{Arrival}
use Rattle.osek_base.specs.declared.status.Status.{Status}
use Rattle.osek_base.specs.System.{System, alarm}
use Rattle.osek_base.specs.State.{State, jobs_of}
use Rattle.osek_base.specs.Alarm.{alarms_advanced, due_alarms}
use Rattle.osek_base.specs.Priority.{dynamic_priority}
use Rattle.osek_base.specs.Service.{NobodyCalls, Reply, task_state, unasked_service}
use Rattle.osek_base.specs.Tick.{action_call}
use Rattle.osek_base.specs.Trace.{run}
use Rattle.law_kept.specs.Kept.{Kept}
use Rattle.law_kept.specs.KeptTick.{advanced_in}
use Rattle.law_kept.specs.KeptService.{ByNobody, KeptReply, bare, task_state_in, unasked_in}
use Rattle.law_kept.specs.Seen.{priority_in}
use Rattle.seen_ticks.specs.declared.task_at.TaskAt.{TaskAt}
use Rattle.seen_ticks.specs.Shown.{oldest_job}

-- what a task is in a state: its state as GetTaskState answers it, the dynamic priority of its oldest job, and how many jobs
abbrev pub task_at : System → State → ℕ → TaskAt
task_at S s t =
    record {
      state = task_state s t;
      priority = option_map (dynamic_priority S) (oldest_job s t);
      jobs = length (jobs_of t s.jobs);
    }

-- the alarms that are due in a tick of a run, in declaration order
abbrev pub due_in : System → ℕ → List Arrival → ℕ → List ℕ
due_in S mode arrivals t = due_alarms S (run S mode arrivals t).state

-- an alarm, where its action's status is none of E_OK
abbrev pub if_refused : ℕ → Status → List ℕ
if_refused a Status.Ok = []
if_refused a _ = a ∷ []

-- of alarms that act in turn, those whose action is refused
abbrev pub refused_of : System → List ℕ → State → List ℕ
refused_of S [] s = []
refused_of S (a ∷ rest) s =
    let r : Reply = unasked_service S NobodyCalls s (action_call (alarm S a).action) in
    if_refused a r.status ++ refused_of S rest r.state

-- those of the alarms that are due in a tick of a run
abbrev pub refused_in : System → ℕ → List Arrival → ℕ → List ℕ
refused_in S mode arrivals t =
    let s : State = (run S mode arrivals t).state in
    refused_of S (due_alarms S s) (record s { alarms = alarms_advanced S s })

-- ---- the same over what is kept of a state

abbrev pub task_at_in : System → Kept → ℕ → TaskAt
task_at_in S o t = record { state = task_state_in o t; priority = priority_in S t (o.slots t); jobs = (o.slots t).count }

-- what an alarm's action answers
abbrev pub acting_in : System → ℕ → Kept → KeptReply
acting_in S a o = unasked_in S ByNobody o (action_call (alarm S a).action)

abbrev pub refused_of_in : System → List ℕ → Kept → List ℕ
refused_of_in S [] o = []
refused_of_in S (a ∷ rest) o = if_refused a (acting_in S a o).status ++ refused_of_in S rest (acting_in S a o).state

-- of the alarms that are due in the tick that begins, those whose action is refused
abbrev pub refused_by : System → Kept → List ℕ
refused_by S o = refused_of_in S (due_alarms S (bare o)) (advanced_in S o)
