-- Costs of nodes pay for the instructions of jobs that are at them.
use Rattle.std.proofs.Common.{◌≡◌, ℕ, ◌+◌, ◌≤◌, ◌<◌, Bool, true, false, cond, not, ◌&&◌, ◌||◌, nat_le, List, refl, sym, ◌∙◌, ap, subst, arith}
use Rattle.std.specs.Prelude.{Option, Some, None, is_some, slice_index}
use Rattle.std.specs.List.{AllByRecursion, list_all}
use Rattle.std.proofs.lemmas.Bool.{and_parts, leb-true, lt-leb, not-true}
use Rattle.osek_base.specs.declared.ids.Owner.{Owner}
use Rattle.osek_base.specs.declared.instr.Instr.{Instr}
use Rattle.osek_base.specs.Priority.{dynamic_priority}
use Rattle.osek_base.specs.Service.{JobCalls}
use Rattle.osek_base.specs.State.{Job, JobId, State, job_of, same_id, waits}
use Rattle.osek_base.specs.System.{System, instruction_at, priority_of}
use Rattle.law_runs.proofs.Known.{IsCaller, IsRunningCaller, executor_calls}
use Rattle.law_runs.proofs.Foremost.{same_ids}
use Rattle.law_runs.proofs.Lists.{all_any, all_weaker, clash, found, none_some, some_inside}
use Rattle.law_costs.specs.Jobs.{PaysIn, behind, left_behind, left_of_own, left_of_section, set, started}
use Rattle.law_costs.specs.Known.{Executes}
use Rattle.law_costs.specs.Left.{Switch, Weights, counts, is_off, of_all_alarms, switch_of}
use Rattle.law_nodes.specs.Early.{awaited, freed_early, held_early, shows}
use Rattle.law_nodes.specs.Nodes.{Node, Standing, Table, covers, is_at, is_beside, is_told, is_within, of_job}
use Rattle.law_nodes.specs.Prices.{Priced, all_outcomes, cost_of, is_paid, job_fits, may_count, node_pays, nodes_pay, pays_by, priced_by, section_behind, stays_counted, table_of, with_held}
use Rattle.law_nodes.specs.Values.{know_no_more}
use Rattle.law_nodes.proofs.Counting.{HasCounted, staying_at}
use Rattle.law_nodes.proofs.Priorities.{counting_at}
use Rattle.law_nodes.proofs.EarlyLemmas.{early_low, early_step, early_used}
use Rattle.law_nodes.proofs.Leaving.{LeavesAt, LeavesHeld}
use Rattle.law_nodes.proofs.JobOutcomes.{JobOutcome, job_outcome}
use Rattle.law_nodes.proofs.Knowing.{AreValues}
use Rattle.law_nodes.proofs.Owning.{IsOwn, caller_alone}
use Rattle.law_nodes.proofs.Pricing.{paid_within, told_from, told_priced}
use Rattle.law_nodes.proofs.Showing.{can_be_shown}
use Rattle.law_nodes.proofs.Standing.{at_is, covered_at, node_of}
use Rattle.law_nodes.proofs.Tests.{by_any, by_any_of, each_passing, second, unless}

-- ---- what is left of a job

module _ (S : System) (p : ℕ) (c : Weights) (held : ℕ → ℕ → ℕ) (prices : List Priced) where
  abbrev costs : Weights
  costs = priced_by S p c held prices

  -- the cost of a job by its events
  abbrev cost_by : ℕ → ℕ → Priced → ℕ
  cost_by t m = with_held S p held t m

  -- at a step that is paid
  step_within : (x : Standing) (t m more most : ℕ) (n : Node) → is_paid prices more most n ≡ true
      → is_at n x ≡ true
      → cost_of (cost_by t m) prices x + more ≤ most + held_early S p held t m n.used
  step_within x t m more most n paid at =
      paid_within (cost_by t m) x prices more (most + held_early S p held t m n.used)
      (λ q. covers q.node n && nat_le (q.cost + more) most)
      (λ q both.
      (let parts = and_parts (covers q.node n) (nat_le (q.cost + more) most) both in
      let low = leb-true (q.cost + more) most parts.1 in
      let within =
      (and_parts (is_beside q.node n && know_no_more q.node.registers n.registers)
      (is_within n.used q.node.used) parts.0).1 in
      let less = early_used S p held t m n.used q.node.used within in (
        covered_at q.node n x parts.0 at,
        omega (arith, low, less),
      )))
      paid

  left_fits : (by : Node → ℕ) (masks : List ℕ) (n : Node) (w v : Switch) (j : Job)
      (more most total : ℕ) (next : Table) (jobs : List Job) → n.switch ≡ w
      → job_fits S p c by prices n more most next ≡ true
      → AllByRecursion (IsOwn (λ k. is_told next (of_job v k) ≡ true) j.id) jobs
      → most ≤ total
      → (stays_counted S p n ≡ true → HasCounted S p v j.id jobs)
      → ((k : Job) → job_of j.id jobs ≡ Some k → counts S p v k ≡ true
      → AllByRecursion
      (λ m. is_at m (of_job v k) ≡ true → may_count S p m ≡ true
      → most + by m + held_early S p held k.id.task (slice_index masks k.id.task) m.used ≤ total)
      next)
      → left_of_own S p costs masks w v (job_of j.id jobs) + more ≤ total
  left_fits by masks n w v j more most total next jobs same fits own low stays each =
      go (job_of j.id jobs) refl
    where
      both : (list_all (λ m. not (may_count S p m) || is_paid prices more (most + by m) m) next
          ≡ true) × (nat_le (section_behind S p c n + more) most ≡ true)
      both =
          and_parts
          (list_all (λ m. not (may_count S p m) || is_paid prices more (most + by m) m) next)
          (nat_le (section_behind S p c n + more) most) fits

      -- where it doesn't count behind that, the section is left
      section : ((k : Job) → job_of j.id jobs ≡ Some k → counts S p v k ≡ true → ⊥)
          → left_of_section c w + more ≤ total
      section out = go (stays_counted S p n) refl both.1
        where
          go : (b : Bool) → stays_counted S p n ≡ b
              → nat_le (cond b 0 (left_of_section c n.switch) + more) most ≡ true
              → left_of_section c w + more ≤ total
          go true is h = let there = stays is in absurd (out there.0 there.1 there.2)
          go false is h =
              let less =
              subst (λ u. left_of_section c u + more ≤ most) same
              (leb-true (left_of_section c n.switch + more) most h) in
              omega (arith, less, low)

      cost_there : Job → ℕ
      cost_there k = costs.of_job (slice_index masks k.id.task) v k

      paid : (k : Job) → job_of j.id jobs ≡ Some k → counts S p v k ≡ true
          → is_told next (of_job v k) ≡ true → cost_there k + more ≤ total
      paid k there count told =
          by_any_of (cost_there k + more ≤ total) (λ m. is_at m (of_job v k))
          (λ m. not (may_count S p m) || is_paid prices more (most + by m) m)
          (λ m. is_at m (of_job v k) ≡ true → may_count S p m ≡ true
          → most + by m + held_early S p held k.id.task (slice_index masks k.id.task) m.used
          ≤ total)
          next
          (λ m at h within.
          (let counting = counting_at S p v k m at count in
          let step =
          step_within (of_job v k) k.id.task (slice_index masks k.id.task) more (most + by m) m
          (unless (may_count S p m) (is_paid prices more (most + by m) m) counting h) at in
          let less = within at counting in
          omega (arith, step, less)))
          told both.0 (each k there count)

      some : (k : Job) → job_of j.id jobs ≡ Some k → (b : Bool) → counts S p v k ≡ b
          → is_told next (of_job v k) ≡ true
          → cond b (cost_there k) (left_of_section c w) + more ≤ total
      some k there true count told = paid k there count told
      some k there false count told =
          section
          (λ l is counting.
          clash
          (sym counting ∙ ap (counts S p v) (some_inside l k (sym is ∙ there)) ∙ count))

      go : (o : Option Job) → job_of j.id jobs ≡ o
          → left_of_own S p costs masks w v o + more ≤ total
      go None is = section (λ k there counting. none_some k (sym is ∙ there))
      go (Some k) is =
          let here =
          found (IsOwn (λ l. is_told next (of_job v l) ≡ true) j.id) (λ l. same_id l.id j.id) jobs
          k own is in
          some k is (counts S p v k) refl (here.0 here.1)

  -- ---- an instruction of a job

  module _ (s : State) (j : Job) (executes : Executes S (JobCalls j) s) where
    abbrev w : Switch
    w = switch_of s

    abbrev e : State
    e = behind S s j

    abbrev what : Instr
    what = instruction_at S (Owner.Task j.id.task) j.context.place

    -- the events that are set for its task
    abbrev mask : ℕ
    mask = slice_index s.masks j.id.task

    -- what the instruction starts and sets, and one more; and what it starts, and all alarms
    abbrev one_more : ℕ
    one_more = started S costs s j + (set S costs s j + 1)

    abbrev with_all : ℕ
    with_all = started S costs s j + of_all_alarms S c

    calls_job : IsRunningCaller s j
    calls_job = subst (IsCaller s) executes.calls (executor_calls s)

    abbrev Found : (Table → ℕ → ℕ → Bool) → ℕ → Type 0
    Found pays used =
        JobOutcome pays (switch_of e) j (started S costs s j) (set S costs s j) what mask used e

    outcome_at : (pays : Table → ℕ → ℕ → Bool) (registers : List (Option ℕ)) (used : ℕ)
        → AreValues registers j.context.registers
        → (is_some j.waits_for || all_outcomes S c pays what
        (node_of (of_job w j) registers used)) ≡ true
        → Found pays used
    outcome_at pays registers used all passes =
        let alone = caller_alone S s j executes.good calls_job in
        job_outcome S s j calls_job alone executes.excludes
        (can_be_shown S s j executes calls_job) registers used all costs pays what
        executes.goes_on
        (second (is_some j.waits_for)
        (all_outcomes S c pays what (node_of (of_job w j) registers used))
        (ap is_some alone.ready) passes)

    abbrev pays_at : Priced → Table → ℕ → ℕ → Bool
    pays_at q = pays_by (Owner.Task j.id.task) S p c held what prices q

    outcome : (q : Priced) → is_at q.node (of_job w j) ≡ true
        → node_pays S p c held prices q ≡ true → Found (pays_at q) q.node.used
    outcome q at pays =
        let is = at_is q.node (of_job w j) at in
        outcome_at (pays_at q) q.node.registers q.node.used is.1
        (subst
        (λ m. (is_some m.waits_for || all_outcomes S c
        (pays_by m.owner S p c held (instruction_at S m.owner m.place) prices q)
        (instruction_at S m.owner m.place) m) ≡ true)
        is.0 pays)

    -- where it doesn't wait behind that, not each job of its id does
    awake : (k : Job) → job_of j.id e.jobs ≡ Some k → counts S p (switch_of e) k ≡ true
        → AllByRecursion (IsOwn (λ l. waits l ≡ true) j.id) e.jobs → ⊥
    awake k there count all =
        let here = found (IsOwn (λ l. waits l ≡ true) j.id) (λ l. same_id l.id j.id) e.jobs k all
        there in
        clash
        (sym (here.0 here.1)
        ∙ not-true (waits k)
        (and_parts (not (waits k)) (is_off (switch_of e) || nat_le p (dynamic_priority S k))
        count).0)

    itself : (k : Job) → job_of j.id e.jobs ≡ Some k → k.id ≡ j.id
    itself k there =
        same_ids k.id j.id
        (found (λ l. Unit {0}) (λ l. same_id l.id j.id) e.jobs k
        (all_any (λ l. Unit {0}) e.jobs (λ l. tt)) there).1

    abbrev cost_at : Priced → ℕ
    cost_at q = cost_by j.id.task mask q

    takes_of : (q : Priced) → is_at q.node (of_job w j) ≡ true
        → node_pays S p c held prices q ≡ true → counts S p w j ≡ true
        → left_behind S p costs s j + one_more ≤ cost_at q
    takes_of q at pays count =
        let is = at_is q.node (of_job w j) at in
        let got = outcome q at pays in
        let fits = job_fits S p c by prices q.node one_more q.cost got.next in
        let both =
        and_parts (not (may_count S p q.node) || fits)
        (nat_le p (priority_of S j.id.task)
        || job_fits S p c (λ m. 0) prices q.node with_all c.costs.at_begin got.next)
        got.paid in
        left_fits by e.masks q.node w (switch_of e) j one_more q.cost (cost_at q)
        got.next e.jobs (ap (λ (m : Node). m.switch) is.0)
        (unless (may_count S p q.node) fits (counting_at S p w j q.node at count) both.0)
        got.own (omega arith) (staying_at S p s j executes q.node at)
        (λ k there counting.
        all_weaker
        (LeavesAt (of_job (switch_of e) k) (awaited what) (shows what) mask
        (slice_index e.masks j.id.task) q.node.used)
        (λ m. is_at m (of_job (switch_of e) k) ≡ true → may_count S p m ≡ true
        → q.cost + by m + held_early S p held k.id.task (slice_index e.masks k.id.task) m.used
        ≤ cost_at q)
        got.next (λ m leaves at may. step k there m may (leaves at))
        (got.held (awake k there counting) k there))
      where
        by : Node → ℕ
        by m = freed_early S p held j.id.task what q.node m

        step : (k : Job) → job_of j.id e.jobs ≡ Some k → (m : Node) → may_count S p m ≡ true
            → LeavesHeld (awaited what) (shows what) mask (slice_index e.masks j.id.task)
            q.node.used m
            → q.cost + by m
            + held_early S p held k.id.task (slice_index e.masks k.id.task) m.used ≤ cost_at q
        step k there m may leaves =
            let less =
            early_step S p held j.id.task what mask (slice_index e.masks j.id.task) q.node m may
            leaves in
            let same =
            ap
            (λ (i : JobId). held_early S p held i.task (slice_index e.masks i.task) m.used)
            (itself k there) in
            omega (arith, less, same)

    begins_of : (q : Priced) → is_at q.node (of_job w j) ≡ true
        → node_pays S p c held prices q ≡ true → priority_of S j.id.task < p
        → left_behind S p costs s j + with_all ≤ c.costs.at_begin
    begins_of q at pays low =
        let is = at_is q.node (of_job w j) at in
        let got = outcome q at pays in
        let fits =
        job_fits S p c (λ m. 0) prices q.node with_all c.costs.at_begin got.next in
        let both =
        and_parts
        (not (may_count S p q.node)
        || job_fits S p c (freed_early S p held j.id.task what q.node) prices q.node
        one_more q.cost got.next)
        (nat_le p (priority_of S j.id.task) || fits)
        got.paid in
        left_fits (λ m. 0) e.masks q.node w (switch_of e) j with_all
        c.costs.at_begin c.costs.at_begin got.next e.jobs (ap (λ (m : Node). m.switch) is.0)
        (second (nat_le p (priority_of S j.id.task)) fits
        (lt-leb p (priority_of S j.id.task) low) both.1)
        got.own (omega arith) (staying_at S p s j executes q.node at)
        (λ k there counting.
        all_any
        (λ m. is_at m (of_job (switch_of e) k) ≡ true → may_count S p m ≡ true
        → c.costs.at_begin + 0
        + held_early S p held k.id.task (slice_index e.masks k.id.task) m.used
        ≤ c.costs.at_begin)
        got.next
        (λ m at may.
        (let none =
        early_low S p held k.id.task (slice_index e.masks k.id.task) m.used
        (subst (λ (i : JobId). priority_of S i.task < p) (sym (itself k there)) low) in
        omega (arith, none))))

    pub job_pays : nodes_pay S p c held prices ≡ true
        → is_told (table_of prices) (of_job w j) ≡ true → PaysIn S p costs s j
    job_pays pay told = record {
      takes = λ count.
          told_from cost_at (of_job w j)
          (left_behind S p costs s j + one_more) prices told
          (each_passing
          (λ q. is_at q.node (of_job w j) ≡ true
          → left_behind S p costs s j + one_more ≤ cost_at q)
          (node_pays S p c held prices) prices (λ q pays at. takes_of q at pays count) pay);
      begins = λ low.
          by_any
          (left_behind S p costs s j + with_all ≤ c.costs.at_begin)
          (λ q. is_at q.node (of_job w j)) (node_pays S p c held prices) prices
          (λ q at pays. begins_of q at pays low) (told_priced (of_job w j) prices told) pay;
    }
