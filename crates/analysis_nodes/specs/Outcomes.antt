-- What may become of who executes its instruction at a node: outcome by outcome, what is answered,
-- what is started, and at which nodes it may stand then.
use Rattle.std.specs.Prelude.{ℕ, if◌then◌else◌, List, [], ◌∷◌, map, Option, Some, None, is_some}
use Rattle.osek_base.specs.declared.instr.Instr.{Instr}
use Rattle.osek_base.specs.declared.instr.Service.{Service}
use Rattle.osek_base.specs.declared.status.Status.{Status}
use Rattle.osek_base.specs.System.{System, instruction_at}
use Rattle.osek_base.specs.Types.{ServiceCall}
use Rattle.law_costs.specs.Left.{Weights}
use Rattle.law_nodes.specs.Nodes.{Node, Table}
use Rattle.law_nodes.specs.Services.{answers, replied}
use Rattle.law_nodes.specs.Steps.{steps_by}
use Rattle.analysis_nodes.specs.declared.outcome.Start.{Start}

-- what a service starts: an activation of a task, events of one, or an expiry of an alarm
abbrev pub start_by : ServiceCall → Start
start_by (Service.ActivateTask (Some t)) = Start.Activates t
start_by (Service.ChainTask (Some t)) = Start.Activates t
start_by (Service.SetEvent (Some t) m) = Start.Sets t m
start_by (Service.SetRelAlarm (Some a) increment cycle) = Start.SetsAlarm a
start_by (Service.SetAbsAlarm (Some a) start cycle) = Start.SetsAlarm a
start_by call = Start.Nothing

-- .. where it isn't refused
abbrev pub start_where : Option Status → ServiceCall → Start
start_where None call = start_by call
start_where (Some refusal) call = Start.Nothing

-- by costs of activations and events, so much
abbrev pub cost_of_start : Weights → Start → ℕ
cost_of_start c Start.Nothing = 0
cost_of_start c (Start.Activates t) = c.of_task t
cost_of_start c (Start.Sets t m) = c.of_event t m
cost_of_start c (Start.SetsAlarm a) = 0

-- .. and by what alarms pay that are set, so much more
abbrev pub cost_of_alarm : (ℕ → ℕ) → Start → ℕ
cost_of_alarm cost (Start.SetsAlarm a) = cost a
cost_of_alarm cost start = 0

-- one thing that may become of it
pub record Outcome : Type 0 where
  pub refusal : Option Status
  pub start : Start
  pub next : Table

abbrev pub outcome_by : System → Node → ServiceCall → Option Status → Outcome
outcome_by S n call refusal =
    record {
      refusal = refusal;
      start = start_where refusal call;
      next = replied S n call refusal;
    }

abbrev pub outcomes_by : System → Instr → Node → List Outcome
outcomes_by S (Instr.Service call) n = map (outcome_by S n call) (answers S n call)
outcomes_by S what n =
    record { refusal = None; start = Start.Nothing; next = steps_by S what n } ∷ []

-- all of it. Who waits executes none
abbrev pub outcomes : System → Node → List Outcome
outcomes S n =
    if is_some n.waits_for then []
    else outcomes_by S (instruction_at S n.owner n.place) n
