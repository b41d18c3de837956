-- Costs of nodes, and whether they pay for the instructions of who is at them.
use Rattle.std.specs.Prelude.{ℕ, ◌+◌, ◌≡◌, max, Bool, true, not, ◌&&◌, ◌||◌, nat_le, if◌then◌else◌, List, [], ◌∷◌, map, Option, Some, None, is_some, unwrap_or}
use Rattle.std.specs.List.{list_all, list_any}
use Rattle.osek_base.specs.declared.ids.Owner.{Owner}
use Rattle.osek_base.specs.declared.ids.ResId.{ResId}
use Rattle.osek_base.specs.declared.instr.Instr.{Instr}
use Rattle.osek_base.specs.Ceiling.{ceiling, internal_ceiling}
use Rattle.osek_base.specs.Lists.{greatest}
use Rattle.osek_base.specs.Service.{answer}
use Rattle.osek_base.specs.System.{System, instruction_at, priority_of}
use Rattle.law_windows.specs.Work.{goes_at}
use Rattle.law_costs.specs.Jobs.{PayForJobs, left_of_section}
use Rattle.law_costs.specs.Left.{Weights, is_off, of_all_alarms}
use Rattle.law_costs.specs.Routines.{PayForRoutines, set_where, started_where}
use Rattle.law_nodes.specs.Closed.{known_by}
use Rattle.law_nodes.specs.Early.{held_early, lesser, freed_early}
use Rattle.law_nodes.specs.Nodes.{Node, Standing, Table, covers, is_at, of_job, of_routine}
use Rattle.law_nodes.specs.Services.{answers, replied}
use Rattle.law_nodes.specs.Steps.{steps_by}

-- ---- costs

pub record Priced : Type 0 where
  pub node : Node
  pub cost : ℕ

abbrev pub table_of : List Priced → Table
table_of prices = map (λ q. q.node) prices

-- the least of those nodes at which who executes is, if there is one
abbrev pub least : (Priced → ℕ) → List Priced → Standing → Option ℕ
least cost [] x = None
least cost (q ∷ prices) x =
    if is_at q.node x then Some (lesser (cost q) (least cost prices x)) else least cost prices x

-- .. and 0 where there is none
abbrev pub cost_of : (Priced → ℕ) → List Priced → Standing → ℕ
cost_of cost prices x = unwrap_or (least cost prices x) 0

-- the cost of a node alone, and with what the events hold that are set for a task
abbrev pub alone : Priced → ℕ
alone q = q.cost

abbrev pub with_held : System → ℕ → (ℕ → ℕ → ℕ) → ℕ → ℕ → Priced → ℕ
with_held S p held t m q = q.cost + held_early S p held t m q.node.used

-- costs by these prices; all else is as given
abbrev pub priced_by : System → ℕ → Weights → (ℕ → ℕ → ℕ) → List Priced → Weights
priced_by S p c held prices =
    record c {
      of_active = λ w a. cost_of alone prices (of_routine w a);
      of_job = λ m w j. cost_of (with_held S p held j.id.task m) prices (of_job w j);
    }

-- ---- whether a job counts that is at a node

-- its dynamic priority at most: as if its internal resource is taken
abbrev pub highest : System → Owner → List ResId → ℕ
highest S (Owner.Task t) held =
    max (priority_of S t)
    (max (greatest (map (ceiling S) held)) (unwrap_or (internal_ceiling S t) 0))
highest S (Owner.Routine i) held = 0

abbrev pub may_count : System → ℕ → Node → Bool
may_count S p n =
    not (is_some n.waits_for) && (is_off n.switch || nat_le p (highest S n.owner n.held))

-- whether it counts behind its instruction in any case: interrupts are off, so all services are
-- refused, and by its internal resource, which it has taken, it goes before the tasks below the
-- level
abbrev pub stays_counted : System → ℕ → Node → Bool
stays_counted S p n = is_off n.switch && nat_le p (highest S n.owner n.held)

-- ---- what an instruction leaves, starts and sets

-- whether a node covers that one whose cost and what is added are no more than the most
abbrev pub is_paid : List Priced → ℕ → ℕ → Node → Bool
is_paid prices more most m =
    list_any (λ q. covers q.node m && nat_le (q.cost + more) most) prices

-- the section of a dispatch, which is left with interrupts off where a job doesn't count behind the
-- instruction
abbrev pub section_behind : System → ℕ → Weights → Node → ℕ
section_behind S p c n = if stays_counted S p n then 0 else left_of_section c n.switch

-- .. each step of a job that may count, which may cost more by the events that it goes on by; and
-- the section
abbrev pub job_fits : System → ℕ → Weights → (Node → ℕ) → List Priced → Node → ℕ → ℕ → Table
    → Bool
job_fits S p c by prices n more most next =
    list_all (λ m. not (may_count S p m) || is_paid prices more (most + by m) m) next
    && nat_le (section_behind S p c n + more) most

-- .. each step of a routine
abbrev pub routine_fits : List Priced → ℕ → ℕ → Table → Bool
routine_fits prices more most next =
    list_all (is_paid prices more most) next && nat_le more most

-- whether the cost of a node pays for steps and what is started and set with them: one less is left
-- at least; of a lower job, or a lower routine, no more than may be where a window begins, whatever
-- alarms are set. Where a routine is lower no task is of the level, so none is started
abbrev pub pays_by : Owner → System → ℕ → Weights → (ℕ → ℕ → ℕ) → Instr → List Priced → Priced
    → Table → ℕ → ℕ → Bool
pays_by (Owner.Task t) S p c held what prices q next start set =
    (not (may_count S p q.node)
    || job_fits S p c (freed_early S p held t what q.node) prices q.node (start + (set + 1)) q.cost
    next)
    && (nat_le p (priority_of S t)
    || job_fits S p c (λ m. 0) prices q.node (start + of_all_alarms S c) c.costs.at_begin next)
pays_by (Owner.Routine i) S p c held what prices q next start set =
    routine_fits prices (start + (set + 1)) q.cost next
    && (goes_at S p i
    || routine_fits prices (c.of_section + of_all_alarms S c) c.costs.at_begin next)

-- whether a test passes of what may become of who is at a node, and what is started and set with
-- that: by each answer that a service may give
abbrev pub all_outcomes : System → Weights → (Table → ℕ → ℕ → Bool) → Instr → Node → Bool
all_outcomes S c pays (Instr.Service call) n =
    list_all
    (λ refusal. pays (replied S n call refusal) (started_where c (answer refusal) call)
    (set_where c (answer refusal) call))
    (answers S n call)
all_outcomes S c pays what n = pays (steps_by S what n) 0 0

-- whether the cost of a node pays for the instruction there. Who waits executes none
abbrev pub node_pays : System → ℕ → Weights → (ℕ → ℕ → ℕ) → List Priced → Priced → Bool
node_pays S p c held prices q =
    is_some q.node.waits_for
    || all_outcomes S c
    (pays_by q.node.owner S p c held (instruction_at S q.node.owner q.node.place) prices q)
    (instruction_at S q.node.owner q.node.place) q.node

abbrev pub nodes_pay : System → ℕ → Weights → (ℕ → ℕ → ℕ) → List Priced → Bool
nodes_pay S p c held prices = list_all (node_pays S p c held prices) prices

-- ---- the law

-- where each node's cost pays, such costs pay for all whom the table tells
pub record PayForNodes (S : System) (p : ℕ) (c : Weights) (held : ℕ → ℕ → ℕ)
    (prices : List Priced) : Type 0 where
  pub jobs : PayForJobs S p (priced_by S p c held prices) (known_by (table_of prices))
  pub routines : PayForRoutines S p (priced_by S p c held prices) (known_by (table_of prices))

abbrev pub NodesPay : Type 0
NodesPay =
    (S : System) (p : ℕ) (c : Weights) (held : ℕ → ℕ → ℕ) (prices : List Priced)
    → nodes_pay S p c held prices ≡ true → PayForNodes S p c held prices
