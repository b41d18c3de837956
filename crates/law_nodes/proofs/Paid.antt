-- Prices that pay make costs that do.
use Rattle.std.proofs.Common.{◌≡◌, ℕ, ◌+◌, ◌≤◌, ◌<◌, Bool, true, false, not, ◌&&◌, ◌||◌, nat_le, nat_lt, List, length, refl, sym, ap, subst, arith}
use Rattle.std.specs.Prelude.{Option, Some, None, bit_or}
use Rattle.std.specs.List.{AllByRecursion, filter, list_all, sum_by}
use Rattle.std.proofs.lemmas.Bool.{and_from, and_parts, le-leb, leb-true, lt-ltb}
use Rattle.osek_base.specs.declared.ids.Owner.{Owner}
use Rattle.osek_base.specs.Activation.{new_job, woken}
use Rattle.osek_base.specs.Lists.{is_in}
use Rattle.osek_base.specs.Priority.{dynamic_priority, static_priority}
use Rattle.osek_base.specs.Reschedule.{entered}
use Rattle.osek_base.specs.Service.{is_met}
use Rattle.osek_base.specs.State.{Job, JobId, waits}
use Rattle.osek_base.specs.System.{System, alarm, is_extended, priority_of}
use Rattle.osek_base.specs.Tick.{action_call}
use Rattle.osek_base.specs.Trace.{starting_tasks}
use Rattle.law_windows.specs.Routines.{begun}
use Rattle.law_windows.specs.Work.{goes_at}
use Rattle.law_runs.proofs.Foremost.{static_le}
use Rattle.law_runs.proofs.Lists.{all_any, clash}
use Rattle.law_costs.specs.Known.{Known}
use Rattle.law_costs.specs.Laws.{Pay}
use Rattle.law_costs.specs.Left.{Switch, Weights, of_all_alarms, on}
use Rattle.law_costs.specs.Paying.{CostSomething, PayForBoot, PayForComing, PayForDispatch, PayForStarts, is_upper, start_of}
use Rattle.law_nodes.specs.Closed.{known_by}
use Rattle.law_nodes.specs.Early.{bits, is_mask, is_set, sum_besides, sum_of}
use Rattle.law_nodes.specs.Nodes.{Node, Standing, covers, is_at, is_told, of_job, of_routine, with_awaited, woken_node}
use Rattle.law_nodes.specs.Paid.{EventCosts, PricesPay, alarms_pay, boot_pays, events_pay, is_covered_by, is_woken, is_woken_by, lowest, may_rise, pays_fresh, pays_woken, prices_pay, with_events}
use Rattle.law_nodes.specs.Prices.{Priced, alone, cost_of, highest, nodes_pay, priced_by, table_of, with_held}
use Rattle.law_nodes.specs.Setting.{are_set_once}
use Rattle.law_nodes.proofs.Priorities.{dynamic_high, dynamic_low}
use Rattle.law_nodes.proofs.PayingRoutines.{nodes_pay_for_all}
use Rattle.law_nodes.proofs.Pricing.{cost_raised, none_above, paid_within, told_from, told_priced}
use Rattle.law_nodes.proofs.Masks.{meeting_new, one_passes}
use Rattle.law_nodes.proofs.MaskSums.{one_within}
use Rattle.law_nodes.proofs.EarlyLemmas.{early_besides, early_low, early_more, early_none, extended_inside}
use Rattle.law_nodes.proofs.SettingOnce.{alarms_once}
use Rattle.law_nodes.proofs.Standing.{at_is, covered_at, is_at_of, node_of}
use Rattle.law_nodes.proofs.Tests.{by_any, each_passing, one_below, unless}

module _ (S : System) (mode p : ℕ) (c : Weights) (e : EventCosts) (prices : List Priced)
    (pay : prices_pay S mode p c e prices ≡ true) where
  abbrev d : Weights
  d = with_events c e

  abbrev costs : Weights
  costs = priced_by S p d e.held prices

  abbrev known : Known
  known = known_by (table_of prices)

  -- ---- the parts

  abbrev covers_all : Bool
  covers_all = list_all (is_covered_by S p d e prices) prices

  five : (nodes_pay S p d e.held prices && covers_all && alarms_pay S d && boot_pays S mode p d
      && events_pay S e ≡ true) × (are_set_once S mode c (table_of prices) ≡ true)
  five =
      and_parts
      (nodes_pay S p d e.held prices && covers_all && alarms_pay S d && boot_pays S mode p d
      && events_pay S e)
      (are_set_once S mode c (table_of prices)) pay

  four : (nodes_pay S p d e.held prices && covers_all && alarms_pay S d && boot_pays S mode p d
      ≡ true) × (events_pay S e ≡ true)
  four =
      and_parts
      (nodes_pay S p d e.held prices && covers_all && alarms_pay S d && boot_pays S mode p d)
      (events_pay S e) five.0

  three : (nodes_pay S p d e.held prices && covers_all && alarms_pay S d ≡ true)
      × (boot_pays S mode p d ≡ true)
  three =
      and_parts (nodes_pay S p d e.held prices && covers_all && alarms_pay S d)
      (boot_pays S mode p d) four.0

  two : (nodes_pay S p d e.held prices && covers_all ≡ true) × (alarms_pay S d ≡ true)
  two = and_parts (nodes_pay S p d e.held prices && covers_all) (alarms_pay S d) three.0

  one : (nodes_pay S p d e.held prices ≡ true) × (covers_all ≡ true)
  one = and_parts (nodes_pay S p d e.held prices) covers_all two.0

  -- of a price
  record IsPaid (q : Priced) : Type 0 where
    pub something : 1 ≤ q.cost
    pub rises : not (may_rise S p q.node) || nat_le q.cost d.of_section ≡ true
    pub fresh : pays_fresh q.node.owner S p d q ≡ true
    pub wakes : pays_woken q.node.owner S p e prices q ≡ true

  parts_of : (q : Priced) → is_covered_by S p d e prices q ≡ true → IsPaid q
  parts_of q is =
      let last =
      and_parts
      (nat_le 1 q.cost && (not (may_rise S p q.node) || nat_le q.cost d.of_section)
      && pays_fresh q.node.owner S p d q)
      (pays_woken q.node.owner S p e prices q) is in
      let third =
      and_parts
      (nat_le 1 q.cost && (not (may_rise S p q.node) || nat_le q.cost d.of_section))
      (pays_fresh q.node.owner S p d q) last.0 in
      let first =
      and_parts (nat_le 1 q.cost) (not (may_rise S p q.node) || nat_le q.cost d.of_section)
      third.0 in
      record {
        something = leb-true 1 q.cost first.0;
        rises = first.1;
        fresh = third.1;
        wakes = last.1;
      }

  -- ---- at a node

  something_of : (cost : Priced → ℕ) → ((q : Priced) → q.cost ≤ cost q) → (x : Standing)
      → is_told (table_of prices) x ≡ true → 1 ≤ cost_of cost prices x
  something_of cost more x told =
      told_from cost x 1 prices told
      (each_passing (λ q. is_at q.node x ≡ true → 1 ≤ cost q) (is_covered_by S p d e prices)
      prices
      (λ q is at.
      (let some = (parts_of q is).something in
      let high = more q in
      omega (arith, some, high)))
      one.1)

  something : CostSomething S p costs known
  something = record {
    active = λ w a told. something_of alone (λ q. omega arith) (of_routine w a) told;
    job = λ m w j told count.
        something_of (with_held S p e.held j.id.task m) (λ q. omega arith) (of_job w j) told;
  }

  -- no more than that where each node at which it is costs no more
  within : (cost : Priced → ℕ) (x : Standing) (most : ℕ)
      → ((q : Priced) → IsPaid q → is_at q.node x ≡ true → cost q ≤ most)
      → cost_of cost prices x ≤ most
  within cost x most step =
      none_above cost x most prices
      (each_passing (λ q. is_at q.node x ≡ true → cost q ≤ most)
      (is_covered_by S p d e prices) prices (λ q is. step q (parts_of q is)) one.1)

  -- ---- a dispatch

  rising : (j : Job) (registers : List (Option ℕ)) (used : ℕ) → waits j ≡ false
      → dynamic_priority S j < p → p ≤ dynamic_priority S (entered S j)
      → may_rise S p (node_of (of_job on j) registers used) ≡ true
  rising j registers used ready low high =
      let under = dynamic_low S j in
      let over = dynamic_high S (entered S j) in
      and_from
      (not (waits j) && true && nat_lt (lowest S (Owner.Task j.id.task) j.held) p)
      (nat_le p (highest S (Owner.Task j.id.task) j.held))
      (and_from (not (waits j) && true) (nat_lt (lowest S (Owner.Task j.id.task) j.held) p)
      (and_from (not (waits j)) true (ap not ready) refl)
      (lt-ltb (lowest S (Owner.Task j.id.task) j.held) p (omega (arith, under, low))))
      (le-leb p (highest S (Owner.Task j.id.task) j.held) (omega (arith, over, high)))

  section_of : (m : ℕ) (j : Job) → waits j ≡ false → dynamic_priority S j < p
      → p ≤ dynamic_priority S (entered S j)
      → cost_of (with_held S p e.held j.id.task m) prices (of_job on (entered S j))
      ≤ c.of_section
  section_of m j ready low high =
      within (with_held S p e.held j.id.task m) (of_job on j) c.of_section
      (λ q paid at.
      (let is = at_is q.node (of_job on j) at in
      let own = static_le S j in
      let none =
      early_low S p e.held j.id.task m q.node.used (omega (arith, own, low)) in
      let enough =
      leb-true q.cost c.of_section
      (unless (may_rise S p q.node) (nat_le q.cost c.of_section)
      (subst (λ n. may_rise S p n ≡ true) (sym is.0)
      (rising j q.node.registers q.node.used ready low high))
      paid.rises) in
      omega (arith, none, enough)))

  -- what events hold is nothing of a lower job
  lower_of : (m n : ℕ) (w : Switch) (j : Job) → priority_of S j.id.task < p
      → cost_of (with_held S p e.held j.id.task m) prices (of_job w j)
      ≤ cost_of (with_held S p e.held j.id.task n) prices (of_job w j)
  lower_of m n w j low =
      let less =
      cost_raised (with_held S p e.held j.id.task n) (with_held S p e.held j.id.task m) 0
      (of_job w j) prices
      (all_any
      (λ q. is_at q.node (of_job w j) ≡ true
      → with_held S p e.held j.id.task m q ≤ with_held S p e.held j.id.task n q + 0)
      prices
      (λ q at.
      (let none = early_low S p e.held j.id.task m q.node.used low in omega (arith, none)))) in
      omega (arith, less)

  abbrev begun_tasks : ℕ
  begun_tasks = sum_by d.of_task (filter (is_upper S p) (starting_tasks S mode))

  booted : (nat_le (begun_tasks + of_all_alarms S c) c.costs.at_boot
      && nat_le (c.of_section + of_all_alarms S c) c.costs.at_boot ≡ true)
      × (nat_le (c.of_section + of_all_alarms S c) c.costs.at_begin ≡ true)
  booted =
      and_parts
      (nat_le (begun_tasks + of_all_alarms S c) c.costs.at_boot
      && nat_le (c.of_section + of_all_alarms S c) c.costs.at_boot)
      (nat_le (c.of_section + of_all_alarms S c) c.costs.at_begin) three.1

  dispatch : PayForDispatch S p costs
  dispatch = record {
    entering = λ m j ready up. omega arith;
    beginning = λ m j ready low high. section_of m j ready low high;
    section = leb-true (c.of_section + of_all_alarms S c) c.costs.at_begin booted.1;
    lower = lower_of;
  }

  -- ---- activations, events and interrupts

  -- an event costs what it holds
  held_paid : (t : ℕ) → is_extended S t ≡ true
      → AllByRecursion (λ b. e.held t b ≤ e.set t b) bits
  held_paid t extended =
      each_passing (λ b. e.held t b ≤ e.set t b) (λ b. nat_le (e.held t b) (e.set t b)) bits
      (λ b is. leb-true (e.held t b) (e.set t b) is)
      (one_below (λ u. list_all (λ b. nat_le (e.held u b) (e.set u b)) bits) (length S.tasks) t
      (extended_inside S t extended) four.1)

  fresh_task : (n : JobId) (m : ℕ) → p ≤ priority_of S n.task
      → (is_extended S n.task ≡ true → m ≡ 0)
      → cost_of (with_held S p e.held n.task m) prices (of_job on (new_job n)) ≤ c.of_task n.task
  fresh_task n m up clear =
      within (with_held S p e.held n.task m) (of_job on (new_job n)) (c.of_task n.task)
      (λ q paid at.
      (let is = at_is q.node (of_job on (new_job n)) at in
      let none = early_none S p e.held n.task m q.node.used clear in
      let enough =
      leb-true q.cost (c.of_task n.task)
      (unless
      (nat_le p (priority_of S n.task) && is_at q.node (of_job on (new_job n)))
      (nat_le q.cost (c.of_task n.task))
      (and_from (nat_le p (priority_of S n.task)) (is_at q.node (of_job on (new_job n)))
      (le-leb p (priority_of S n.task) up) at)
      (subst (λ (k : Node). pays_fresh k.owner S p d q ≡ true) is.0 paid.fresh)) in
      omega (arith, none, enough)))

  fresh_routine : (i : ℕ) → goes_at S p i ≡ true
      → cost_of alone prices (of_routine on (begun i)) ≤ c.costs.of_arrival i
  fresh_routine i goes =
      within alone (of_routine on (begun i)) (c.costs.of_arrival i)
      (λ q paid at.
      (let is = at_is q.node (of_routine on (begun i)) at in
      leb-true q.cost (c.costs.of_arrival i)
      (unless (goes_at S p i && is_at q.node (of_routine on (begun i)))
      (nat_le q.cost (c.costs.of_arrival i))
      (and_from (goes_at S p i) (is_at q.node (of_routine on (begun i))) goes at)
      (subst (λ (m : Node). pays_fresh m.owner S p d q ≡ true) is.0 paid.fresh))))

  -- a job whose wait ends, by one of the events that are set then
  freed : (m x : ℕ) (j : Job) → is_told (table_of prices) (of_job on j) ≡ true
      → p ≤ static_priority S j → is_met m j.waits_for ≡ false
      → is_met (bit_or m x) j.waits_for ≡ true
      → cost_of (with_held S p e.held j.id.task (bit_or m x)) prices (of_job on (woken j))
      ≤ sum_of (e.set j.id.task) x
  freed m x j told up unmet met =
      by_any
      (cost_of (with_held S p e.held j.id.task (bit_or m x)) prices (of_job on (woken j))
      ≤ sum_of (e.set j.id.task) x)
      (λ q. is_at q.node (of_job on j)) (is_covered_by S p d e prices) prices go
      (told_priced (of_job on j) prices told) one.1
    where
      t : ℕ
      t = j.id.task

      by : (n : Node) (b : ℕ) → is_at (woken_node n) (of_job on (woken j)) ≡ true
          → is_in b bits ≡ true → is_set x b ≡ true
          → is_woken_by (e.held t) prices (e.set t b) (woken_node n) ≡ true
          → cost_of (with_held S p e.held t (bit_or m x)) prices (of_job on (woken j))
          ≤ sum_of (e.set t) x
      by n b at there set wakes =
          let paid =
          paid_within (with_held S p e.held t (bit_or m x)) (of_job on (woken j)) prices 0
          (e.set t b)
          (λ q. covers q.node (woken_node n)
          && nat_le (q.cost + sum_besides (e.held t) q.node.used) (e.set t b))
          (λ q both.
          (let parts =
          and_parts (covers q.node (woken_node n))
          (nat_le (q.cost + sum_besides (e.held t) q.node.used) (e.set t b)) both in
          let low =
          leb-true (q.cost + sum_besides (e.held t) q.node.used) (e.set t b) parts.1 in
          let less = early_besides S p e.held t (bit_or m x) q.node.used in (
            covered_at q.node (woken_node n) (of_job on (woken j)) parts.0 at,
            omega (arith, low, less),
          )))
          wakes in
          let whole = one_within (e.set t) x b there set in
          omega (arith, paid, whole)

      each : (n : Node) → is_at (woken_node n) (of_job on (woken j)) ≡ true → (o : Option ℕ)
          → is_met m o ≡ false → is_met (bit_or m x) o ≡ true
          → is_woken (e.held t) (e.set t) prices o n ≡ true
          → cost_of (with_held S p e.held t (bit_or m x)) prices (of_job on (woken j))
          ≤ sum_of (e.set t) x
      each n at None none some wakes = clash (sym some)
      each n at (Some w) none some wakes =
          let both =
          and_parts (is_mask w)
          (list_all
          (λ b. not (is_set w b) || is_woken_by (e.held t) prices (e.set t b) (woken_node n)) bits)
          wakes in
          let one = meeting_new w m x both.0 none some in
          by n one.event at one.there one.second
          (unless (is_set w one.event)
          (is_woken_by (e.held t) prices (e.set t one.event) (woken_node n)) one.first
          (one_passes
          (λ b. not (is_set w b) || is_woken_by (e.held t) prices (e.set t b) (woken_node n))
          bits one.event one.there both.1))

      go : (q : Priced) → is_at q.node (of_job on j) ≡ true
          → is_covered_by S p d e prices q ≡ true
          → cost_of (with_held S p e.held t (bit_or m x)) prices (of_job on (woken j))
          ≤ sum_of (e.set t) x
      go q at is =
          let same = at_is q.node (of_job on j) at in
          let paid = parts_of q is in
          each (node_of (of_job on j) q.node.registers q.node.used)
          (is_at_of (of_job on (woken j)) q.node.registers
          (with_awaited q.node.used j.waits_for) same.1)
          j.waits_for unmet met
          (unless (nat_le p (static_priority S j))
          (is_woken (e.held t) (e.set t) prices j.waits_for
          (node_of (of_job on j) q.node.registers q.node.used))
          (le-leb p (static_priority S j) up)
          (subst (λ (n : Node). pays_woken n.owner S p e prices (record q { node = n }) ≡ true)
          same.0 paid.wakes))

  -- a job that doesn't wait
  more_of : (m x : ℕ) (w : Switch) (j : Job)
      → cost_of (with_held S p e.held j.id.task (bit_or m x)) prices (of_job w j)
      ≤ cost_of (with_held S p e.held j.id.task m) prices (of_job w j)
      + sum_of (e.set j.id.task) x
  more_of m x w j =
      cost_raised (with_held S p e.held j.id.task m)
      (with_held S p e.held j.id.task (bit_or m x)) (sum_of (e.set j.id.task) x) (of_job w j)
      prices
      (all_any
      (λ q. is_at q.node (of_job w j) ≡ true
      → with_held S p e.held j.id.task (bit_or m x) q
      ≤ with_held S p e.held j.id.task m q + sum_of (e.set j.id.task) x)
      prices
      (λ q at.
      (let more = early_more S p e.held e.set j.id.task m x q.node.used (held_paid j.id.task) in
      omega (arith, more))))

  starts : PayForStarts S p costs known
  starts = record {
    task = λ n m up clear. fresh_task n m up clear;
    event = λ m x j told up waiting unmet met. freed m x j told up unmet met;
    more = λ m x w j told ready. more_of m x w j;
  }

  coming : PayForComing S p costs
  coming = record {
    routine = λ i inside goes. fresh_routine i goes;
    alarm = λ a inside.
        leb-true (start_of d (action_call (alarm S a).action)) (c.costs.of_expiry a + c.of_alarm a)
        (one_below
        (λ b. nat_le (start_of d (action_call (alarm S b).action))
        (c.costs.of_expiry b + c.of_alarm b))
        (length S.alarms) a inside two.1);
  }

  boot : PayForBoot S mode p costs
  boot =
      let both =
      and_parts (nat_le (begun_tasks + of_all_alarms S c) c.costs.at_boot)
      (nat_le (c.of_section + of_all_alarms S c) c.costs.at_boot) booted.0 in
      record {
        tasks = leb-true (begun_tasks + of_all_alarms S c) c.costs.at_boot both.0;
        section = leb-true (c.of_section + of_all_alarms S c) c.costs.at_boot both.1;
      }

  pays : Pay S mode p costs known
  pays =
      let nodes = nodes_pay_for_all S p d e.held prices one.0 in
      record {
        something = something;
        dispatch = dispatch;
        starts = starts;
        coming = coming;
        boot = boot;
        routines = nodes.routines;
        jobs = nodes.jobs;
        once = alarms_once S mode (table_of prices) c five.1;
      }

pub prices_pay_for_all : PricesPay
prices_pay_for_all S mode p c e prices pay = pays S mode p c e prices pay
