-- What is checked of prices, number by number.
use Rattle.std.specs.Prelude.{ℕ, suc, ◌+◌, ◌≡◌, ◌<◌, Bool, true, false, not, ◌&&◌, ◌||◌, ◌==◌, nat_le, if◌then◌else◌, List, [], Option, Some, None, is_some, length, replicate, slice_get, slice_index_or, bit_and}
use Rattle.std.specs.List.{list_all}
use Rattle.osek_base.specs.declared.ids.Owner.{Owner}
use Rattle.osek_base.specs.declared.instr.Instr.{Instr}
use Rattle.osek_base.specs.declared.status.Status.{Status}
use Rattle.osek_base.specs.Lists.{is_empty}
use Rattle.osek_base.specs.System.{System, alarm, instruction_at}
use Rattle.osek_base.specs.Tick.{action_call}
use Rattle.law_windows.specs.Work.{goes_at}
use Rattle.law_costs.specs.Left.{Weights, is_off, of_all_alarms}
use Rattle.law_costs.specs.Paying.{is_upper, start_of}
use Rattle.law_nodes.specs.Early.{awaited, bits, holds_events, is_mask, is_set, least_in, sum_besides}
use Rattle.law_nodes.specs.Nodes.{Node}
use Rattle.law_nodes.specs.Paid.{is_covered_by}
use Rattle.law_nodes.specs.Prices.{Priced, may_count, node_pays, stays_counted}
use Rattle.law_nodes.specs.Values.{may_have}
use Rattle.analysis_nodes.specs.declared.graph.Graph.{Graph}
use Rattle.analysis_nodes.specs.declared.graph.Links.{Links}
use Rattle.analysis_nodes.specs.declared.graph.Way.{Way}
use Rattle.analysis_nodes.specs.declared.node.Node.{Node as Kept}
use Rattle.analysis_nodes.specs.Graph.{table_of}
use Rattle.analysis_nodes.specs.Nodes.{node_by}
use Rattle.analysis_nodes.specs.declared.outcome.Start.{Start}
use Rattle.analysis_nodes.specs.Outcomes.{cost_of_alarm, cost_of_start}
use Rattle.analysis_bounds.specs.declared.level.Level.{Level}
use Rattle.analysis_bounds.specs.Levels.{by_event, event_costs_of, numbered, priced, weights_of}

-- whether somebody of an owner that is at a node may count: a routine always does
abbrev pub is_counted : Owner → System → ℕ → Node → Bool
is_counted (Owner.Task t) S p n = may_count S p n
is_counted (Owner.Routine i) S p n = true

-- whether it is a job of a task below the level, or a routine
abbrev pub is_lower : System → ℕ → Owner → Bool
is_lower S p (Owner.Task t) = not (is_upper S p t)
is_lower S p (Owner.Routine i) = not (goes_at S p i)

-- what may be left besides of it where a window begins: all alarms, and where a routine is below the
-- level, so that no job is of it, the section too
abbrev pub beside : Owner → System → Weights → ℕ
beside (Owner.Task t) S c = of_all_alarms S c
beside (Owner.Routine i) S c = c.of_section + of_all_alarms S c

-- whether a dispatch may begin a section behind the instruction at a node: interrupts are off there
-- for a job, and it need not count behind that
abbrev pub leaves_section : Owner → System → ℕ → Node → Bool
leaves_section (Owner.Task t) S p n = is_off n.switch && not (stays_counted S p n)
leaves_section (Owner.Routine i) S p n = false

-- then that is left
abbrev pub left_of : Owner → System → ℕ → Weights → Node → ℕ
left_of who S p c n = if leaves_section who S p n then c.of_section else 0

-- whether who begins may be at a node
abbrev pub begins : Node → Bool
begins n =
    not (is_some n.waits_for) && not (is_off n.switch) && is_empty n.held && n.place == 0
    && may_have n.registers (replicate (length n.registers) 0)

-- ---- a wait that goes on by an event that was set early

-- what it frees, where none that it waits for was used: the least that one holds
abbrev pub freed_of : (ℕ → ℕ) → Option ℕ → ℕ → ℕ
freed_of cost None used = 0
freed_of cost (Some m) used =
    if is_mask m && bit_and m used == 0 then least_in cost m else 0

abbrev pub freed_on : Owner → System → Level → Instr → ℕ → ℕ
freed_on (Owner.Task t) S level what used =
    if holds_events S level.priority t
    then freed_of (by_event level.holds.items t) (awaited what) used else 0
freed_on (Owner.Routine i) S level what used = 0

abbrev pub freed_at : System → Level → Node → ℕ
freed_at S level n = freed_on n.owner S level (instruction_at S n.owner n.place) n.used

-- .. by a way on that is no refusal
abbrev pub freed_where : Option Status → ℕ → ℕ
freed_where None freed = freed
freed_where (Some refusal) freed = 0

-- ---- ways

-- each node has a price
abbrev pub HasPrices : Graph → Level → Type 0
HasPrices g level = length level.prices.items ≡ length g.nodes.items

-- the node of a number costs, with so much more, no more than the most, if somebody of an owner
-- that is there may count
abbrev pub IsWithin : System → Graph → Level → Owner → ℕ → ℕ → ℕ → Type 0
IsWithin S g level owner more most number =
    (n : Kept) (price : ℕ) → slice_get g.nodes.items number ≡ Some n
    → slice_get level.prices.items number ≡ Some price
    → is_counted owner S level.priority (node_by n) ≡ true → nat_le (price + more) most ≡ true

-- .. of the first of some numbers
abbrev pub AreWithin : System → Graph → Level → Owner → ℕ → ℕ → List ℕ → ℕ → Type 0
AreWithin S g level owner more most numbers count =
    (place : ℕ) → place < count
    → IsWithin S g level owner more most (slice_index_or numbers place 0)

-- what a way starts costs, with an alarm that it sets, by what each of those costs
abbrev pub cost_of_way : Level → List ℕ → Start → ℕ
cost_of_way level alarms start =
    cost_of_start (weights_of level) start + cost_of_alarm (numbered alarms) start

-- a way on from a node, with what is started and set, leaves no more than the most, and what is
-- freed besides
pub record Fits (S : System) (g : Graph) (level : Level) (n : Node) (w : Way) (alarms : List ℕ)
    (most freed : ℕ) : Type 0 where
  pub all_next : AreWithin S g level n.owner (cost_of_way level alarms w.start)
      (most + freed_where w.refusal freed) w.next.items (length w.next.items)
  pub all_less : nat_le
      (left_of n.owner S level.priority (weights_of level) n
      + cost_of_way level alarms w.start)
      most
      ≡ true

-- .. the first of some ways
abbrev pub AreFitting : System → Graph → Level → Node → List Way → List ℕ → ℕ → ℕ → ℕ → Type 0
AreFitting S g level n ways alarms most freed count =
    (place : ℕ) → place < count → (w : Way) → slice_get ways place ≡ Some w
    → Fits S g level n w alarms most freed

-- one less than a price is enough for each way of who may count
abbrev pub IsEnough : System → Graph → Level → Node → List Way → ℕ → Type 0
IsEnough S g level n ways price =
    is_counted n.owner S level.priority n ≡ true
    → (most : ℕ) × (price ≡ suc most)
    × AreFitting S g level n ways level.alarms.items most (freed_at S level n) (length ways)

-- of a task or routine below the level no more is left than may be where a window begins, besides
-- all alarms: one that it sets is among them
abbrev pub BeginsWithEnough : System → Graph → Level → Node → List Way → Type 0
BeginsWithEnough S g level n ways =
    is_lower S level.priority n.owner ≡ true
    → (most : ℕ) × (level.at_begin ≡ most + beside n.owner S (weights_of level))
    × AreFitting S g level n ways [] most 0 (length ways)

-- ---- what begins

-- an activation pays for who begins at a node of the level, and an interrupt
abbrev pub IsFreshPaidBy : Owner → System → Level → Node → ℕ → Type 0
IsFreshPaidBy (Owner.Task t) S level n price =
    is_upper S level.priority t ≡ true → begins n ≡ true
    → nat_le price (numbered level.tasks.items t) ≡ true
IsFreshPaidBy (Owner.Routine i) S level n price =
    goes_at S level.priority i ≡ true → begins n ≡ true
    → nat_le price (numbered level.arrivals.items i) ≡ true

abbrev pub IsFreshPaid : System → Level → Node → ℕ → Type 0
IsFreshPaid S level n price = IsFreshPaidBy n.owner S level n price

-- each event of a mask costs so much at least
abbrev pub cost_each : (ℕ → ℕ) → ℕ → ℕ → Bool
cost_each cost m least = list_all (λ b. not (is_set m b) || nat_le least (cost b)) bits

-- so many events are used at the node of a number
abbrev pub UsedAt : Graph → ℕ → ℕ → Type 0
UsedAt g number used =
    (n : Kept) → slice_get g.nodes.items number ≡ Some n → used ≡ n.used

-- events that are waited for pay for where a job of the level goes on, by number, and for all
-- others that may be set there
abbrev pub WokenCostsAt : Graph → Level → ℕ → ℕ → ℕ → Type 0
WokenCostsAt g level t m number =
    (is_mask m ≡ true)
    × ((n : Kept) (price : ℕ) → slice_get g.nodes.items number ≡ Some n
    → slice_get level.prices.items number ≡ Some price
    → cost_each (by_event level.sets.items t) m
    (price + sum_besides (by_event level.holds.items t) n.used)
    ≡ true)

abbrev pub WokenCosts : Graph → Level → ℕ → ℕ → Option ℕ → Type 0
WokenCosts g level t m None = ⊥
WokenCosts g level t m (Some number) = WokenCostsAt g level t m number

abbrev pub WaitCosts : Graph → Level → ℕ → Option ℕ → Option ℕ → Type 0
WaitCosts g level t None woken = Unit {0}
WaitCosts g level t (Some m) woken = WokenCosts g level t m woken

abbrev pub IsWokenPaidBy : Owner → System → Graph → Level → Node → Option ℕ → Type 0
IsWokenPaidBy (Owner.Task t) S g level n woken =
    is_upper S level.priority t ≡ true → WaitCosts g level t n.waits_for woken
IsWokenPaidBy (Owner.Routine i) S g level n woken = Unit {0}

abbrev pub IsWokenPaid : System → Graph → Level → Node → Option ℕ → Type 0
IsWokenPaid S g level n woken = IsWokenPaidBy n.owner S g level n woken

-- ---- nodes

abbrev pub priced_at : Kept → ℕ → Priced
priced_at n price = record { node = node_by n; cost = price }

-- the price of a node pays for the instruction there
abbrev pub Pays : System → Graph → Level → ℕ → Type 0
Pays S g level number =
    (n : Kept) (price : ℕ) → slice_get g.nodes.items number ≡ Some n
    → slice_get level.prices.items number ≡ Some price
    → node_pays S level.priority (weights_of level) (event_costs_of level).held
    (priced (table_of g) level.prices.items) (priced_at n price)
    ≡ true

-- .. and is paid by what begins there
abbrev pub IsPaid : System → Graph → Level → ℕ → Type 0
IsPaid S g level number =
    (n : Kept) (price : ℕ) → slice_get g.nodes.items number ≡ Some n
    → slice_get level.prices.items number ≡ Some price
    → is_covered_by S level.priority (weights_of level) (event_costs_of level)
    (priced (table_of g) level.prices.items) (priced_at n price)
    ≡ true

-- .. those of the first of all nodes
abbrev pub ArePaying : System → Graph → Level → ℕ → Type 0
ArePaying S g level count =
    (number : ℕ) → number < count → Pays S g level number × IsPaid S g level number

-- ---- alarms

-- an expiry of an alarm pays for what that starts, with what is paid when it is set
abbrev pub alarm_pays : System → Weights → ℕ → Bool
alarm_pays S c a =
    nat_le (start_of c (action_call (alarm S a).action)) (c.costs.of_expiry a + c.of_alarm a)

-- ---- events

-- each event of a task costs what it holds
abbrev pub task_pays : Level → ℕ → Bool
task_pays level t =
    list_all (λ b. nat_le (by_event level.holds.items t b) (by_event level.sets.items t b)) bits
