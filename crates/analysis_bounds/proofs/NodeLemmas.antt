-- What is checked of a node by its number is what the law asks of its price.
use Rattle.std.proofs.Common.{ℕ, zero, suc, ◌+◌, ◌≡◌, ◌<◌, ◌≤◌, Bool, true, false, not, ◌&&◌, ◌||◌, nat_le, List, [], ◌∷◌, map, length, slice_get, get_or, replicate, refl, sym, ◌∙◌, ap, subst, arith}
use Rattle.std.specs.Prelude.{Option, Some, None, is_some, ◌==◌}
use Rattle.std.specs.List.{list_all}
use Rattle.std.proofs.lemmas.Bool.{and_from, and_parts, leb-true, le-leb}
use Rattle.osek_base.specs.declared.ids.Owner.{Owner}
use Rattle.osek_base.specs.declared.limits.TheConstants.{REGISTERS}
use Rattle.osek_base.specs.Activation.{new_job}
use Rattle.osek_base.specs.Lists.{is_empty}
use Rattle.osek_base.specs.System.{System, priority_of}
use Rattle.law_runs.proofs.Lists.{clash, none_some, some_inside}
use Rattle.law_windows.specs.Routines.{begun}
use Rattle.law_windows.specs.Work.{goes_at}
use Rattle.law_costs.specs.Left.{Weights, is_off, on}
use Rattle.law_nodes.specs.Early.{bits, is_set, is_mask, sum_besides}
use Rattle.law_nodes.specs.Nodes.{Node, Standing, covers, is_at, is_beside, of_job, of_routine, woken_node}
use Rattle.law_nodes.specs.Paid.{EventCosts, alarms_pay, boot_pays, events_pay, is_covered_by, is_woken, is_woken_by, may_rise, pays_fresh, pays_woken, prices_pay}
use Rattle.law_nodes.specs.Prices.{Priced, node_pays, nodes_pay, table_of as nodes_priced}
use Rattle.law_nodes.specs.Setting.{are_set_once}
use Rattle.law_nodes.specs.Values.{may_be, may_have}
use Rattle.law_nodes.proofs.Standing.{at_is, node_of}
use Rattle.analysis_nodes.specs.declared.graph.Graph.{Graph}
use Rattle.analysis_nodes.specs.declared.graph.Links.{Links}
use Rattle.analysis_nodes.specs.declared.graph.Way.{Way}
use Rattle.analysis_nodes.specs.declared.node.Node.{Node as Kept}
use Rattle.analysis_nodes.specs.Graph.{IsCoveredBy, IsGraph, IsLinked, IsWoken, table_of}
use Rattle.analysis_nodes.specs.Laws.{OutcomesAreAll}
use Rattle.analysis_nodes.specs.Nodes.{node_by}
use Rattle.analysis_bounds.specs.declared.level.Level.{Level}
use Rattle.analysis_bounds.specs.Checks.{ArePaying, BeginsWithEnough, HasPrices, IsEnough, IsFreshPaid, IsFreshPaidBy, IsWokenPaid, IsWokenPaidBy, WaitCosts, WokenCosts, begins, priced_at}
use Rattle.analysis_bounds.specs.Levels.{by_event, event_costs_of, numbered, priced, weights_of}
use Rattle.analysis_bounds.proofs.BoundLemmas.{priced_nodes}
use Rattle.analysis_bounds.proofs.WayLemmas.{also_there, mapped, pays_by_ways, priced_any, unless_true}

-- ---- by number

pub got_there : {X : Type 0} (xs : List X) (i : ℕ) (x y : X) → slice_get xs i ≡ Some y
    → get_or xs i x ≡ y
got_there [] i x y h = absurd (none_some y h)
got_there (z ∷ zs) zero x y h = some_inside z y h
got_there (z ∷ zs) (suc i) x y h = got_there zs i x y h

pub numbered_is : (list : List ℕ) (i n : ℕ) → slice_get list i ≡ Some n → numbered list i ≡ n
numbered_is [] i n h = absurd (none_some n h)
numbered_is (m ∷ list) zero n h = some_inside m n h
numbered_is (m ∷ list) (suc i) n h = numbered_is list i n h

mapped_there : {X Y : Type 0} (f : X → Y) (xs : List X) (i : ℕ) (x : X)
    → slice_get xs i ≡ Some x → slice_get (map f xs) i ≡ Some (f x)
mapped_there f [] i x h = absurd (none_some x h)
mapped_there f (z ∷ zs) zero x h = ap (λ y. Some (f y)) (some_inside z x h)
mapped_there f (z ∷ zs) (suc i) x h = mapped_there f zs i x h

-- ---- who begins

zeros_less : (os : List (Option ℕ)) (k : ℕ) → may_have os (replicate k 0) ≡ true
    → may_have os (replicate (length os) 0) ≡ true
zeros_less [] k h = refl
zeros_less (o ∷ os) zero h = clash (sym h)
zeros_less (o ∷ os) (suc k) h =
    let both = and_parts (may_be o 0) (may_have os (replicate k 0)) h in
    and_from (may_be o 0) (may_have os (replicate (length os) 0)) both.0
    (zeros_less os k both.1)

begins_of : (n : Node) (x : Standing) → x ≡ record {
  owner = x.owner;
  switch = on;
  held = [];
  waits_for = None;
  context = record { place = 0; registers = replicate REGISTERS 0 };
} → is_at n x ≡ true → begins n ≡ true
begins_of n x fresh at =
    let is = at_is n x at in
    let same = is.0 ∙ ap (λ (y : Standing). node_of y n.registers n.used) fresh in
    ap begins same
    ∙ zeros_less n.registers REGISTERS
    (ap (λ (y : Standing). may_have n.registers y.context.registers) (sym fresh)
    ∙ (and_parts (is_beside n (node_of x n.registers n.used))
    (may_have n.registers x.context.registers) at).1)

module _ (S : System) (g : Graph) (level : Level) (number : ℕ) (n m : Kept) (l : Links)
    (price cost : ℕ) (graph : IsGraph S g) (has : HasPrices g level)
    (node_is : m ≡ get_or g.nodes.items number m) (links_is : l ≡ get_or g.links.items number l)
    (there : slice_get g.nodes.items number ≡ Some n)
    (paid : slice_get level.prices.items number ≡ Some price)
    (cost_is : cost ≡ numbered level.prices.items number) where
  same_node : m ≡ n
  same_node = node_is ∙ got_there g.nodes.items number m n there

  linked : (k : Links) × (slice_get g.links.items number ≡ Some k)
  linked = also_there g.nodes.items g.links.items number n graph.count there

  same_links : l ≡ linked.0
  same_links = links_is ∙ got_there g.links.items number l linked.0 linked.1

  same_cost : cost ≡ price
  same_cost = cost_is ∙ numbered_is level.prices.items number price paid

  is_linked : IsLinked S (table_of g) (node_by n) l
  is_linked =
      subst (IsLinked S (table_of g) (node_by n)) (sym same_links)
      (graph.linked number (node_by n) linked.0
      (mapped_there node_by g.nodes.items number n there) linked.1)

  pub node_paid : OutcomesAreAll → IsEnough S g level (node_by m) l.ways.items cost
      → BeginsWithEnough S g level (node_by m) l.ways.items
      → node_pays S level.priority (weights_of level) (event_costs_of level).held
      (priced (table_of g) level.prices.items) (priced_at n price)
      ≡ true
  node_paid all_are enough begins_so =
      pays_by_ways S g level has (node_by n) l price all_are is_linked
      (subst (λ c. IsEnough S g level (node_by n) l.ways.items c) same_cost
      (subst (λ x. IsEnough S g level (node_by x) l.ways.items cost) same_node enough))
      (subst (λ x. BeginsWithEnough S g level (node_by x) l.ways.items) same_node begins_so)

  -- ---- what begins there

  unless_both : (a b c : Bool) → (a ≡ true → b ≡ true → c ≡ true) → (not (a && b) || c) ≡ true
  unless_both true true c h = h refl refl
  unless_both true false c h = refl
  unless_both false b c h = refl

  fresh_paid : (who : Owner) → IsFreshPaidBy who S level (node_by n) price
      → pays_fresh who S level.priority (weights_of level) (priced_at n price) ≡ true
  fresh_paid (Owner.Task t) h =
      unless_both (nat_le level.priority (priority_of S t))
      (is_at (node_by n) (of_job on (new_job (record { task = t; serial = 0 }))))
      (nat_le price (numbered level.tasks.items t))
      (λ upper at.
      h upper (begins_of (node_by n) (of_job on (new_job (record { task = t; serial = 0 }))) refl at))
  fresh_paid (Owner.Routine i) h =
      unless_both (goes_at S level.priority i) (is_at (node_by n) (of_routine on (begun i)))
      (nat_le price (numbered level.arrivals.items i))
      (λ goes at. h goes (begins_of (node_by n) (of_routine on (begun i)) refl at))

  woken_paid : (who : Owner) → IsWokenPaidBy who S g level (node_by n) l.woken
      → pays_woken who S level.priority (event_costs_of level)
      (priced (table_of g) level.prices.items) (priced_at n price)
      ≡ true
  woken_paid (Owner.Task t) h =
      unless_true (nat_le level.priority (priority_of S t))
      (is_woken (by_event level.holds.items t) (by_event level.sets.items t)
      (priced (table_of g) level.prices.items) n.waits_for (node_by n))
      (λ upper. go n.waits_for refl (h upper))
    where
      held : ℕ → ℕ
      held = by_event level.holds.items t

      set : ℕ → ℕ
      set = by_event level.sets.items t

      prices : List Priced
      prices = priced (table_of g) level.prices.items

      one : (m : ℕ) (most : ℕ) (other : ℕ) (is : IsCoveredBy (table_of g) other (woken_node (node_by n)))
          (cost : ℕ) → slice_get level.prices.items other ≡ Some cost
          → nat_le (cost + sum_besides held is.node.used) most ≡ true
          → is_woken_by held prices most (woken_node (node_by n)) ≡ true
      one m most other is cost paid less =
          priced_any
          (λ q. covers q.node (woken_node (node_by n))
          && nat_le (q.cost + sum_besides held q.node.used) most)
          (table_of g) level.prices.items other is.node cost is.stands paid
          (and_from (covers is.node (woken_node (node_by n)))
          (nat_le (cost + sum_besides held is.node.used) most) is.covers_it less)

      each : (m : ℕ) (other : ℕ) (is : IsCoveredBy (table_of g) other (woken_node (node_by n)))
          (cost : ℕ) → slice_get level.prices.items other ≡ Some cost → (bs : List ℕ)
          → list_all (λ b. not (is_set m b) || nat_le (cost + sum_besides held is.node.used) (set b)) bs
          ≡ true
          → list_all (λ b. not (is_set m b)
          || is_woken_by held prices (set b) (woken_node (node_by n))) bs
          ≡ true
      each m other is cost paid [] all = refl
      each m other is cost paid (b ∷ bs) all =
          let both = and_parts
          (not (is_set m b) || nat_le (cost + sum_besides held is.node.used) (set b))
          (list_all (λ b. not (is_set m b)
          || nat_le (cost + sum_besides held is.node.used) (set b)) bs)
          all in
          and_from
          (not (is_set m b) || is_woken_by held prices (set b) (woken_node (node_by n)))
          (list_all (λ b. not (is_set m b)
          || is_woken_by held prices (set b) (woken_node (node_by n))) bs)
          (weaker (is_set m b) (one m (set b) other is cost paid) both.0)
          (each m other is cost paid bs both.1)
        where
          weaker : {x y : Bool} (b : Bool) → (x ≡ true → y ≡ true) → (not b || x) ≡ true
              → (not b || y) ≡ true
          weaker true h k = h k
          weaker false h k = refl

      goes : (m : ℕ) (woken : Option ℕ) → WokenCosts g level t m woken
          → IsWoken (table_of g) woken (node_by n)
          → is_woken held set prices (Some m) (node_by n) ≡ true
      goes m None costs is = absurd is
      goes m (Some other) costs is =
          let kept = mapped node_by g.nodes.items other is.node is.stands in
          let paid = also_there g.nodes.items level.prices.items other kept.0 has kept.1 in
          and_from (is_mask m)
          (list_all (λ b. not (is_set m b)
          || is_woken_by held prices (set b) (woken_node (node_by n))) bits)
          costs.0
          (each m other is paid.0 paid.1 bits
          (subst
          (λ (k : Node). list_all (λ b. not (is_set m b)
          || nat_le (paid.0 + sum_besides held k.used) (set b)) bits
          ≡ true)
          kept.2 (costs.1 kept.0 paid.0 kept.1 paid.1)))

      go : (o : Option ℕ) → n.waits_for ≡ o → WaitCosts g level t o l.woken
          → is_woken held set prices o (node_by n) ≡ true
      go None waits costs = refl
      go (Some m) waits costs =
          goes m l.woken costs (is_linked.woken_told (ap (λ o. is_some o) waits))
  woken_paid (Owner.Routine i) h = refl

  pub begin_paid : 1 ≤ cost
      → (not (may_rise S level.priority (node_by m)) || nat_le cost level.section) ≡ true
      → IsFreshPaid S level (node_by m) cost → IsWokenPaid S g level (node_by m) l.woken
      → is_covered_by S level.priority (weights_of level) (event_costs_of level)
      (priced (table_of g) level.prices.items) (priced_at n price)
      ≡ true
  begin_paid some section fresh woken =
      and_from
      (nat_le 1 price
      && (not (may_rise S level.priority (node_by n)) || nat_le price level.section)
      && pays_fresh n.owner S level.priority (weights_of level) (priced_at n price))
      (pays_woken n.owner S level.priority (event_costs_of level)
      (priced (table_of g) level.prices.items) (priced_at n price))
      (and_from
      (nat_le 1 price
      && (not (may_rise S level.priority (node_by n)) || nat_le price level.section))
      (pays_fresh n.owner S level.priority (weights_of level) (priced_at n price))
      (and_from (nat_le 1 price)
      (not (may_rise S level.priority (node_by n)) || nat_le price level.section)
      (le-leb 1 price (subst (λ c. 1 ≤ c) same_cost some))
      (subst
      (λ c. (not (may_rise S level.priority (node_by n)) || nat_le c level.section) ≡ true)
      same_cost
      (subst
      (λ (x : Kept). (not (may_rise S level.priority (node_by x)) || nat_le cost level.section)
      ≡ true)
      same_node section)))
      (fresh_paid n.owner
      (subst (λ c. IsFreshPaid S level (node_by n) c) same_cost
      (subst (λ (x : Kept). IsFreshPaid S level (node_by x) cost) same_node fresh))))
      (woken_paid n.owner
      (subst (λ (x : Kept). IsWokenPaid S g level (node_by x) l.woken) same_node woken))

-- ---- all nodes

pub all_priced : (test : Priced → Bool) (nodes : List Kept) (prices : List ℕ)
    → length prices ≡ length nodes
    → ((number : ℕ) → number < length nodes → (n : Kept) (price : ℕ)
    → slice_get nodes number ≡ Some n → slice_get prices number ≡ Some price
    → test (priced_at n price) ≡ true)
    → list_all test (priced (map node_by nodes) prices) ≡ true
all_priced test [] prices same each = refl
all_priced test (n ∷ nodes) [] same each = absurd (omega (arith, same))
all_priced test (n ∷ nodes) (price ∷ prices) same each =
    and_from (test (priced_at n price)) (list_all test (priced (map node_by nodes) prices))
    (each 0 (omega arith) n price refl refl)
    (all_priced test nodes prices (omega (arith, same))
    (λ number low. each (suc number) (omega (arith, low))))

module _ (S : System) (mode : ℕ) (g : Graph) (level : Level) where
  abbrev p : ℕ
  p = level.priority

  abbrev c : Weights
  c = weights_of level

  abbrev e : EventCosts
  e = event_costs_of level

  abbrev prices : List Priced
  prices = priced (table_of g) level.prices.items

  pub all_pay_so : HasPrices g level → ArePaying S g level (length g.nodes.items)
      → alarms_pay S (weights_of level) ≡ true
      → boot_pays S mode level.priority (weights_of level) ≡ true
      → events_pay S (event_costs_of level) ≡ true
      → are_set_once S mode (weights_of level) (table_of g) ≡ true
      → prices_pay S mode level.priority (weights_of level) (event_costs_of level)
      (priced (table_of g) level.prices.items)
      ≡ true
  all_pay_so has paying alarms boot events once =
      and_from
      (nodes_pay S p c e.held prices && list_all (is_covered_by S p c e prices) prices
      && alarms_pay S c && boot_pays S mode p c && events_pay S e)
      (are_set_once S mode c (nodes_priced prices))
      (and_from
      (nodes_pay S p c e.held prices && list_all (is_covered_by S p c e prices) prices
      && alarms_pay S c && boot_pays S mode p c)
      (events_pay S e)
      (and_from
      (nodes_pay S p c e.held prices && list_all (is_covered_by S p c e prices) prices
      && alarms_pay S c)
      (boot_pays S mode p c)
      (and_from
      (nodes_pay S p c e.held prices && list_all (is_covered_by S p c e prices) prices)
      (alarms_pay S c)
      (and_from (nodes_pay S p c e.held prices)
      (list_all (is_covered_by S p c e prices) prices)
      (all_priced (node_pays S p c e.held prices) g.nodes.items level.prices.items has
      (λ number low. (paying number low).0))
      (all_priced (is_covered_by S p c e prices) g.nodes.items level.prices.items has
      (λ number low. (paying number low).1)))
      alarms)
      boot)
      events)
      (ap (are_set_once S mode c) (priced_nodes g.nodes.items level.prices.items has) ∙ once)
