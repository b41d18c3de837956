-- Whether costs of nodes pay for all that comes, and what they bound.
use Rattle.std.specs.Prelude.{ℕ, ◌+◌, ◌≡◌, Bool, true, not, ◌&&◌, ◌||◌, nat_le, nat_lt, max, List, map, Option, Some, None, is_some, length}
use Rattle.std.specs.List.{filter, list_all, list_any, sum_by}
use Rattle.osek_base.specs.declared.ids.Owner.{Owner}
use Rattle.osek_base.specs.declared.ids.ResId.{ResId}
use Rattle.osek_base.specs.Activation.{new_job}
use Rattle.osek_base.specs.Ceiling.{ceiling}
use Rattle.osek_base.specs.Lists.{below, greatest}
use Rattle.osek_base.specs.Proper.{IsProper}
use Rattle.osek_base.specs.System.{System, alarm, priority_of}
use Rattle.osek_base.specs.Tick.{action_call}
use Rattle.osek_base.specs.Trace.{starting_tasks}
use Rattle.arrival_rules.specs.declared.rule.ArrivalRule.{ArrivalRule}
use Rattle.law_windows.specs.Analysis.{AreAlwaysEnough, IsBoundOf}
use Rattle.law_windows.specs.Expiring.{most_expiries}
use Rattle.law_windows.specs.Routines.{begun}
use Rattle.law_windows.specs.Work.{goes_at}
use Rattle.law_costs.specs.Laws.{Pay}
use Rattle.law_costs.specs.Left.{Weights, is_off, of_all_alarms, on}
use Rattle.law_costs.specs.Paying.{is_upper, start_of}
use Rattle.law_nodes.specs.Closed.{is_closed, known_by}
use Rattle.law_nodes.specs.Early.{bits, is_mask, is_set, sum_besides, sum_of}
use Rattle.law_nodes.specs.Nodes.{Node, covers, is_at, of_job, of_routine, woken_node}
use Rattle.law_nodes.specs.Setting.{are_set_once, are_set_slowly}
use Rattle.law_nodes.specs.Prices.{Priced, highest, nodes_pay, priced_by, table_of}

-- ---- sections that a dispatch begins

-- the dynamic priority of a job at a node at least: as if its internal resource isn't taken
abbrev pub lowest : System → Owner → List ResId → ℕ
lowest S (Owner.Task t) held = max (priority_of S t) (greatest (map (ceiling S) held))
lowest S (Owner.Routine i) held = 0

-- whether a dispatch may raise a job at a node to a level
abbrev pub may_rise : System → ℕ → Node → Bool
may_rise S p n =
    not (is_some n.waits_for) && not (is_off n.switch) && nat_lt (lowest S n.owner n.held) p
    && nat_le p (highest S n.owner n.held)

-- ---- events

-- what an event costs that is set, and what it holds where it is set early, by task and event
pub record EventCosts : Type 0 where
  pub set : ℕ → ℕ → ℕ
  pub held : ℕ → ℕ → ℕ

-- ---- what begins at a node

-- a job of the level that is activated, and a routine of it whose interrupt arrives
abbrev pub pays_fresh : Owner → System → ℕ → Weights → Priced → Bool
pays_fresh (Owner.Task t) S p c q =
    not (nat_le p (priority_of S t)
    && is_at q.node (of_job on (new_job (record { task = t; serial = 0 }))))
    || nat_le q.cost (c.of_task t)
pays_fresh (Owner.Routine i) S p c q =
    not (goes_at S p i && is_at q.node (of_routine on (begun i)))
    || nat_le q.cost (c.costs.of_arrival i)

-- a job whose wait ends, by an event that costs so much: all others that it may find set and that
-- aren't used are paid with it, as long as it waits
abbrev pub is_woken_by : (ℕ → ℕ) → List Priced → ℕ → Node → Bool
is_woken_by held prices most m =
    list_any (λ q. covers q.node m && nat_le (q.cost + sum_besides held q.node.used) most) prices

-- .. by each that it waits for
abbrev pub is_woken : (ℕ → ℕ) → (ℕ → ℕ) → List Priced → Option ℕ → Node → Bool
is_woken held events prices None n = true
is_woken held events prices (Some m) n =
    is_mask m
    && list_all (λ b. not (is_set m b) || is_woken_by held prices (events b) (woken_node n)) bits

-- a job of the level whose wait ends
abbrev pub pays_woken : Owner → System → ℕ → EventCosts → List Priced → Priced → Bool
pays_woken (Owner.Task t) S p e prices q =
    not (nat_le p (priority_of S t))
    || is_woken (e.held t) (e.set t) prices q.node.waits_for q.node
pays_woken (Owner.Routine i) S p e prices q = true

-- a node costs something, and is paid by what begins there
abbrev pub is_covered_by : System → ℕ → Weights → EventCosts → List Priced → Priced → Bool
is_covered_by S p c e prices q =
    nat_le 1 q.cost && (not (may_rise S p q.node) || nat_le q.cost c.of_section)
    && pays_fresh q.node.owner S p c q && pays_woken q.node.owner S p e prices q

-- ---- what comes

-- an expiry, with what its alarm holds that is set
abbrev pub alarms_pay : System → Weights → Bool
alarms_pay S c =
    list_all
    (λ a. nat_le (start_of c (action_call (alarm S a).action))
    (c.costs.of_expiry a + c.of_alarm a))
    (below (length S.alarms))

-- where a window begins, whatever alarms are set
abbrev pub boot_pays : System → ℕ → ℕ → Weights → Bool
boot_pays S mode p c =
    nat_le
    (sum_by c.of_task (filter (is_upper S p) (starting_tasks S mode)) + of_all_alarms S c)
    c.costs.at_boot
    && nat_le (c.of_section + of_all_alarms S c) c.costs.at_boot
    && nat_le (c.of_section + of_all_alarms S c) c.costs.at_begin

-- ---- all of it

-- costs of which each event of a task has one
abbrev pub with_events : Weights → EventCosts → Weights
with_events c e = record c { of_event = λ t m. sum_of (e.set t) m }

-- an event costs what it holds where it is set early
abbrev pub events_pay : System → EventCosts → Bool
events_pay S e =
    list_all (λ t. list_all (λ b. nat_le (e.held t b) (e.set t b)) bits) (below (length S.tasks))

abbrev pub prices_pay : System → ℕ → ℕ → Weights → EventCosts → List Priced → Bool
prices_pay S mode p c e prices =
    nodes_pay S p (with_events c e) e.held prices
    && list_all (is_covered_by S p (with_events c e) e prices) prices
    && alarms_pay S (with_events c e) && boot_pays S mode p (with_events c e) && events_pay S e
    && are_set_once S mode c (table_of prices)

-- ---- the laws

-- prices that pay make costs that do
abbrev pub PricesPay : Type 0
PricesPay =
    (S : System) (mode p : ℕ) (c : Weights) (e : EventCosts) (prices : List Priced)
    → prices_pay S mode p c e prices ≡ true
    → Pay S mode p (priced_by S p (with_events c e) e.held prices) (known_by (table_of prices))

-- so where a table is closed and its prices pay, as many ticks as are enough for all that can come
-- bound each response; alarms are set by so many counts at least
abbrev pub PricesBoundResponses : Type 0
PricesBoundResponses =
    (S : System) (mode : ℕ) (rules : List ArrivalRule) (p : ℕ) (c : Weights) (e : EventCosts)
    (prices : List Priced) (least : ℕ → ℕ) (most : ℕ) → IsProper S
    → is_closed S (table_of prices) ≡ true → prices_pay S mode p c e prices ≡ true
    → are_set_slowly S mode c.costs (table_of prices) least ≡ true
    → AreAlwaysEnough S rules c.costs (most_expiries S mode least most) most
    → IsBoundOf S mode rules p most
