-- Labels that are at least those of a run, up to a cap, stay so in each tick.
use Rattle.std.proofs.Common.{ℕ, zero, suc, ◌≡◌, ◌<◌, ◌≤◌, Bool, true, false, min, List, [], replicate, length, get_or, Option, None, sym, ◌∙◌, ap, subst, subst₂, arith}
use Rattle.std.specs.List.{AllByRecursion}
use Rattle.std.proofs.lemmas.List.{length-replicate}
use Rattle.osek_base.specs.declared.arrivals.Arrival.{Arrival}
use Rattle.osek_base.specs.System.{System}
use Rattle.arrival_rules.specs.declared.rule.ArrivalRule.{ArrivalRule}
use Rattle.arrival_rules.specs.Rules.{comes, rule_at}
use Rattle.arrival_rules.specs.Debts.{debt_after, next_debt}
use Rattle.seen_ticks.specs.Seen.{Seen}
use Rattle.law_future.specs.Alike.{kept_after}
use Rattle.law_future.proofs.Tables.{length-table, table_at}
use Rattle.view_figures.specs.FigureSums.{held_count}
use Rattle.law_figures.specs.Ages.{AreOlder, ages, ages_next}
use Rattle.law_figures.specs.Blocking.{blocked_next, blocking}
use Rattle.law_figures.specs.Pending.{IsOlder, pending, pending_next}
use Rattle.law_figures.specs.Holding.{Hold, IsLonger, hold_next, holding}
use Rattle.law_figures.proofs.AgeOrder.{ages_keep_order}
use Rattle.law_figures.proofs.Pending.{pending_keeps_order}
use Rattle.law_figures.proofs.Holding.{holding_keeps_order}
use Rattle.law_figures.specs.RunFigures.{holder_ticks, label_before, routine_ticks, task_ticks}
use Rattle.search_labels.specs.Labels.{IsAtLeast, Labels, ages_of, blocked_of, capped_hold, debt_next, debt_of, hold_of, next_ages, next_blocked, next_hold, next_labels, next_pending, no_hold, pending_of}
use Rattle.search_labels.specs.Ticks.{blocked_tick, holder_tick, routine_tick, task_tick}
use Rattle.law_bounds.specs.Nodes.{Setting, labels_at_boot, lower_from, routines_of, seen_from}
use Rattle.law_bounds.proofs.Arrived.{StandFor, arrive_alike, set_at}
use Rattle.law_bounds.proofs.Capped.{ages_step, blocked_step, capped_age, capped_ages, holds_step, pending_step}
use Rattle.law_bounds.proofs.Seen.{ages_agree, blocked_agrees, holds_agree, pending_agrees}

module _ (s : Setting) (arrivals : List Arrival) where
  abbrev S : System
  S = s.system

  -- ---- the labels of a run before a tick

  abbrev pub debts_at : ℕ → ℕ → ℕ
  debts_at n m = debt_after (rule_at s.rules m) arrivals n

  abbrev pub ages_at : ℕ → ℕ → List ℕ
  ages_at k n = label_before ages (task_ticks S s.mode arrivals k) n

  abbrev pub pending_at : ℕ → ℕ → Option ℕ
  pending_at i n = label_before pending (routine_ticks S s.mode arrivals i) n

  abbrev pub hold_at : ℕ → ℕ → Hold
  hold_at r n = label_before holding (holder_ticks S s.mode arrivals r) n

  abbrev pub blocked_before : ℕ → ℕ → ℕ
  blocked_before k n = label_before blocking (task_ticks S s.mode arrivals k) n

  -- labels are at least those, up to the cap
  pub record AreBoundsAt (n : ℕ) (l : Labels) : Type 0 where
    pub rules : length l.debts ≡ length s.rules
    pub tasks : length l.ages ≡ length S.tasks
    pub interrupts : length l.pending ≡ length S.routines
    pub resources : length l.holds ≡ held_count S
    pub blockable : length l.blocked ≡ length S.tasks
    pub sooner : (m : ℕ) → m < length s.rules → debt_of l m ≤ debts_at n m
    pub ages : (k : ℕ) → k < length S.tasks
        → AreOlder (ages_of l k) (capped_ages s.cap (ages_at k n))
    pub pending : (i : ℕ) → i < length S.routines
        → IsOlder (pending_of l i) (capped_age s.cap (pending_at i n))
    pub holds : (r : ℕ) → r < held_count S
        → IsLonger (hold_of l r) (capped_hold s.cap (hold_at r n))
    pub blocked : (k : ℕ) → k < length S.tasks → min s.cap (blocked_before k n) ≤ blocked_of l k

  -- ---- greater labels, and those after boot

  pub at_least : (n : ℕ) (l m : Labels) → IsAtLeast l m → AreBoundsAt n m → AreBoundsAt n l
  at_least n l m more bounds = record {
    rules = more.rules ∙ bounds.rules;
    tasks = more.tasks ∙ bounds.tasks;
    interrupts = more.interrupts ∙ bounds.interrupts;
    resources = more.resources ∙ bounds.resources;
    blockable = more.blockable ∙ bounds.blockable;
    sooner = λ r low.
        let one = more.sooner r in
        let other = bounds.sooner r low in
        omega (arith, one, other);
    ages =
        λ k low. ages_keep_order.order.joined (ages_of l k) (ages_of m k)
        (capped_ages s.cap (ages_at k n)) (more.ages k) (bounds.ages k low);
    pending =
        λ i low. pending_keeps_order.order.joined (pending_of l i) (pending_of m i)
        (capped_age s.cap (pending_at i n)) (more.pending i) (bounds.pending i low);
    holds =
        λ r low. holding_keeps_order.order.joined (hold_of l r) (hold_of m r)
        (capped_hold s.cap (hold_at r n)) (more.holds r) (bounds.holds r low);
    blocked = λ k low.
        let one = more.blocked k in
        let other = bounds.blocked k low in
        omega (arith, one, other);
  }

  no_debt : (m : ℕ) → debt_of (labels_at_boot s) m ≤ 0
  no_debt m = zeros (length s.rules) m
    where
      zeros : (n i : ℕ) → get_or (replicate n 0) i 0 ≤ 0
      zeros zero i = omega arith
      zeros (suc n) zero = omega arith
      zeros (suc n) (suc i) = zeros n i

  pub boot_bounds : AreBoundsAt 0 (labels_at_boot s)
  boot_bounds = record {
    rules = length-replicate (length s.rules) 0;
    tasks = length-replicate (length S.tasks) [];
    interrupts = length-replicate (length S.routines) None;
    resources = length-replicate (held_count S) no_hold;
    blockable = length-replicate (length S.tasks) 0;
    sooner = λ m low. no_debt m;
    ages = λ k low. tt;
    pending = λ i low. tt;
    holds = λ r low t. omega arith;
    blocked = λ k low. omega arith;
  }

  -- ---- a tick

  -- with the debt before a tick grows the one behind it
  debt_grows : (rule : ArrivalRule) (come : Bool) (d e : ℕ) → d ≤ e
      → next_debt rule come d ≤ next_debt rule come e
  debt_grows rule true d e less = omega (arith, less)
  debt_grows rule false d e less = omega (arith, less)

  module _ (n : ℕ) (l : Labels) (bounds : AreBoundsAt n l)
      (known : AllByRecursion (λ (a : Arrival). a.routine < length S.routines) arrivals)
      (stand : StandFor S s.mode arrivals n (routines_of s (set_at S arrivals n))) where
    abbrev set : ℕ
    set = set_at S arrivals n

    abbrev seen : Seen
    seen = seen_from s set (kept_after S s.mode arrivals n)

    abbrev lower : ℕ → Bool
    lower = lower_from s set (kept_after S s.mode arrivals n)

    abbrev next : Labels
    next = next_labels lower s.cap s.rules set seen l

    sooner : (m : ℕ) → m < length s.rules → debt_of next m ≤ debts_at (suc n) m
    sooner m low =
        let size = bounds.rules in
        let rule : ArrivalRule = rule_at s.rules m in
        let here : debt_of next m ≡ debt_next s.rules set l m =
        table_at (debt_next s.rules set l) (length l.debts) m 0 (omega (arith, low, size)) in
        let less : debt_next s.rules set l m ≤ debts_at (suc n) m =
        subst (λ (b : Bool). next_debt rule b (debt_of l m) ≤ debts_at (suc n) m)
        (sym (arrive_alike S arrivals n known rule.routine))
        (debt_grows rule (comes arrivals rule.routine n) (debt_of l m) (debts_at n m)
        (bounds.sooner m low)) in
        omega (arith, here, less)

    older : (k : ℕ) → k < length S.tasks
        → AreOlder (ages_of next k) (capped_ages s.cap (ages_at k (suc n)))
    older k low =
        let size = bounds.tasks in
        let here : ages_of next k ≡ next_ages s.cap seen l k =
        table_at (next_ages s.cap seen l) (length l.ages) k [] (omega (arith, low, size)) in
        let same : ages_next (task_ticks S s.mode arrivals k n) (ages_at k n)
        ≡ ages_next (task_tick seen k) (ages_at k n) =
        (ages_agree S s.mode arrivals n (routines_of s set) stand k low (ages_at k n)).next in
        subst₂ AreOlder (sym here) (ap (capped_ages s.cap) (sym same))
        (ages_step s.cap (task_tick seen k) (ages_of l k) (ages_at k n) (bounds.ages k low))

    pends : (i : ℕ) → i < length S.routines
        → IsOlder (pending_of next i) (capped_age s.cap (pending_at i (suc n)))
    pends i low =
        let size = bounds.interrupts in
        let here : pending_of next i ≡ next_pending s.cap seen l i =
        table_at (next_pending s.cap seen l) (length l.pending) i None
        (omega (arith, low, size)) in
        let same : pending_next (routine_ticks S s.mode arrivals i n) (pending_at i n)
        ≡ pending_next (routine_tick seen i) (pending_at i n) =
        (pending_agrees S s.mode arrivals n (routines_of s set) stand i low
        (pending_at i n)).next in
        subst₂ IsOlder (sym here) (ap (capped_age s.cap) (sym same))
        (pending_step s.cap (routine_tick seen i) (pending_of l i) (pending_at i n)
        (bounds.pending i low))

    longer : (r : ℕ) → r < held_count S
        → IsLonger (hold_of next r) (capped_hold s.cap (hold_at r (suc n)))
    longer r low =
        let size = bounds.resources in
        let here : hold_of next r ≡ next_hold s.cap seen l r =
        table_at (next_hold s.cap seen l) (length l.holds) r no_hold (omega (arith, low, size)) in
        let same : hold_next (holder_ticks S s.mode arrivals r n) (hold_at r n)
        ≡ hold_next (holder_tick seen r) (hold_at r n) =
        (holds_agree S s.mode arrivals n (routines_of s set) stand r (hold_at r n)).next in
        subst₂ IsLonger (sym here) (ap (capped_hold s.cap) (sym same))
        (holds_step s.cap (holder_tick seen r) (hold_of l r) (hold_at r n) (bounds.holds r low))

    blocks : (k : ℕ) → k < length S.tasks
        → min s.cap (blocked_before k (suc n)) ≤ blocked_of next k
    blocks k low =
        let size = bounds.blockable in
        let here : blocked_of next k ≡ next_blocked lower s.cap seen l k =
        table_at (next_blocked lower s.cap seen l) (length l.blocked) k 0
        (omega (arith, low, size)) in
        let same : blocked_next (task_ticks S s.mode arrivals k n) (blocked_before k n)
        ≡ blocked_next (blocked_tick lower seen k) (blocked_before k n) =
        (blocked_agrees S s.mode arrivals n (routines_of s set) stand k low
        (blocked_before k n)).next in
        subst₂ (λ (x y : ℕ). x ≤ y) (ap (min s.cap) (sym same)) (sym here)
        (blocked_step s.cap (blocked_tick lower seen k) (blocked_of l k) (blocked_before k n)
        (bounds.blocked k low))

    pub tick_bounds : AreBoundsAt (suc n) next
    tick_bounds = record {
      rules = length-table (debt_next s.rules set l) (length l.debts) ∙ bounds.rules;
      tasks = length-table (next_ages s.cap seen l) (length l.ages) ∙ bounds.tasks;
      interrupts =
          length-table (next_pending s.cap seen l) (length l.pending) ∙ bounds.interrupts;
      resources = length-table (next_hold s.cap seen l) (length l.holds) ∙ bounds.resources;
      blockable =
          length-table (next_blocked lower s.cap seen l) (length l.blocked) ∙ bounds.blockable;
      sooner = sooner;
      ages = older;
      pending = pends;
      holds = longer;
      blocked = blocks;
    }
