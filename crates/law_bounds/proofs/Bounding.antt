-- Where the nodes of a search stand for all that can come, what it has noted bounds each run; where
-- they do for so many steps, each run of so many ticks.
use Rattle.std.proofs.Common.{ℕ, zero, suc, ◌≡◌, ◌<◌, ◌≤◌, ◌&&◌, Bool, inl, inr, false, List, length, min, refl, sym, ◌∙◌, ap, subst, arith, ltb-true}
use Rattle.std.specs.Prelude.{Contains, IfSome, IsTrue, Option, nat_lt}
use Rattle.std.specs.Option.{option_map}
use Rattle.osek_base.specs.declared.arrivals.Arrival.{Arrival}
use Rattle.osek_base.specs.declared.ids.Owner.{Owner}
use Rattle.osek_base.specs.Proper.{IsProper}
use Rattle.osek_base.specs.System.{System}
use Rattle.osek_base.specs.Trace.{run}
use Rattle.arrival_rules.specs.declared.rule.ArrivalRule.{ArrivalRule}
use Rattle.arrival_rules.specs.Rules.{KeepRules, comes, rule_at}
use Rattle.arrival_rules.proofs.Owed.{debts_are_below}
use Rattle.law_runs.proofs.RunSteps.{going_before}
use Rattle.law_kept.specs.Kept.{Kept}
use Rattle.law_kept.specs.KeptTick.{KeptStep, boot_in, tick_in}
use Rattle.seen_ticks.specs.Seen.{Seen}
use Rattle.seen_ticks.specs.declared.alarm_seen.AlarmSeen.{AlarmSeen}
use Rattle.seen_ticks.specs.declared.failures.Failure.{Failure}
use Rattle.seen_ticks.specs.declared.routine_seen.RoutineSeen.{RoutineSeen}
use Rattle.seen_ticks.specs.declared.task_seen.TaskSeen.{TaskSeen}
use Rattle.seen_ticks.specs.Observed.{answered, failure_of, owner_of, routine_seen, task_seen, tick_at}
use Rattle.law_future.specs.Alike.{kept_after}
use Rattle.law_future.proofs.Futures.{kept_more}
use Rattle.view_figures.specs.FigureSums.{is_error, is_routine, is_task, levels_of}
use Rattle.view_measures.specs.declared.kind.Kind.{Kind}
use Rattle.view_measures.specs.declared.measure.Measure.{Measure}
use Rattle.view_measures.specs.Kinds.{count_of}
use Rattle.view_measures.specs.Measures.{figure, is_of, kind_of}
use Rattle.law_figures.specs.Counts.{one_if}
use Rattle.law_figures.specs.Labels.{IsAtMost}
use Rattle.law_seen.specs.Shown.{ShowTheSame, kept_tick_at}
use Rattle.law_seen.proofs.Shown.{runs_show}
use Rattle.search.specs.Admitted.{IsAbove}
use Rattle.search.specs.Levels.{AreLevels}
use Rattle.search.specs.Searched.{AreAll, IsTried, IsVisited}
use Rattle.search_labels.specs.Labels.{ages_of, hold_of, pending_of}
use Rattle.search_labels.specs.Ticks.{holder_tick, routine_in, routine_tick, task_in, task_tick}
use Rattle.search_peaks.specs.Noting.{IsNoted, TickShown, blocked_ticks, fails_by, reading_by, seen_count}
use Rattle.search_peaks.specs.Peaks.{Peaks, is_below, told}
use Rattle.search_keys.specs.Key.{key}
use Rattle.law_bounds.specs.Bounds.{IsTickWithin, LevelsBound, SearchesBound}
use Rattle.law_bounds.specs.Nodes.{AreNoted, IsAfter, May, Node, Setting, StandsFor, routines_of, search_rules, tick_shown_from}
use Rattle.law_bounds.specs.RunTicks.{blocked_at}
use Rattle.law_bounds.specs.Showing.{shown_by}
use Rattle.law_bounds.proofs.Arrived.{StandFor, in_set, set_at, set_is_low, set_stands}
use Rattle.law_bounds.proofs.Blocked.{blocked_low}
use Rattle.law_bounds.proofs.Capped.{held_within, oldest_within, waited_within}
use Rattle.law_bounds.proofs.Failing.{fails_alike, failure_same}
use Rattle.law_bounds.proofs.Going.{boot_state}
use Rattle.law_bounds.proofs.RunTicks.{age_low, hold_low, waits_low}
use Rattle.law_bounds.proofs.Seen.{ages_agree, alarm_same, holds_agree, jobs_same, lost_same, pending_agrees, refused_same, seen_alarms, seen_holders, seen_routines, seen_tasks}
use Rattle.law_bounds.proofs.Showing.{going_at, value_within}
use Rattle.law_bounds.proofs.Standing.{AreBoundsAt, ages_at, at_least, boot_bounds, hold_at, pending_at, tick_bounds}

-- one blocker at most, and none where none is told and no tick blocks
none_or_one : (m seen there : ℕ) → min 1 seen ≤ m → (seen ≤ 0 → there ≤ 0) → min 1 there ≤ m
none_or_one zero seen there few none =
    let less = none (omega (arith, few)) in omega (arith, less)
none_or_one (suc m) seen there few none = omega arith

module _ (s : Setting) (peaks : Peaks) (count : ℕ) (levels : ℕ → List Node)
    (proper : IsProper s.system) (all : AreLevels (search_rules s) (AreNoted s peaks) count levels)
    (arrivals : List Arrival) (keep : KeepRules s.system s.rules arrivals) where
  abbrev S : System
  S = s.system

  abbrev after : ℕ → Kept
  after n = kept_after S s.mode arrivals n

  abbrev set : ℕ → ℕ
  set n = set_at S arrivals n

  -- ---- some node stands for what a run comes to

  record HasNode (n : ℕ) : Type 0 where
    node : Node
    there : Contains (levels n) node
    stands : StandsFor s node (after n)
    bounds : AreBoundsAt s arrivals n node.labels

  -- and some that was visited
  record HasVisited (n : ℕ) : Type 0 where
    node : Node
    stands : StandsFor s node (after n)
    bounds : AreBoundsAt s arrivals n node.labels
    visited : IsVisited (search_rules s) (AreNoted s peaks) (levels (suc n)) node

  covers_too : (n : ℕ) (y : Node) → (has : HasNode n)
      → IsVisited (search_rules s) (AreNoted s peaks) (levels (suc n)) y
      → IsAbove (search_rules s) y has.node → HasVisited n
  covers_too n y has visited (inl same) = record {
    node = y;
    stands = subst (λ (x : Node). StandsFor s x (after n)) (sym same) has.stands;
    bounds = subst (λ (x : Node). AreBoundsAt s arrivals n x.labels) (sym same) has.bounds;
    visited = visited;
  }
  covers_too n y has visited (inr covers) = record {
    node = y;
    stands = record {
      comes = has.stands.comes;
      key = has.stands.key ∙ sym covers.key;
      over = has.stands.over ∙ sym covers.over;
    };
    bounds = at_least s arrivals n y.labels has.node.labels covers.labels has.bounds;
    visited = visited;
  }

  visited_above : (n : ℕ) → n < count → HasNode n → HasVisited n
  visited_above n low has =
      let is = all.visited n low has.node has.there in
      covers_too n is.node has is.visited is.above

  arrived : (n : ℕ) → StandFor S s.mode arrivals n (routines_of s (set n))
  arrived n = set_stands S arrivals n s.mode proper (λ i. keep.once i n)

  may : (n : ℕ) → (run S s.mode arrivals n).state.over ≡ false → (has : HasVisited n)
      → May s has.node (set n)
  may n going has = record {
    going = sym has.stands.over ∙ going;
    low = set_is_low S arrivals n;
    free = λ i low is m among of.
        let rule : ArrivalRule = rule_at s.rules m in
        let come : IsTrue (comes arrivals rule.routine n) =
        subst (λ k. IsTrue (comes arrivals k n)) (sym of) (sym (in_set S arrivals n i low) ∙ is) in
        let below = debts_are_below rule arrivals n (keep.each m) come in
        let sooner = has.bounds.sooner m among in
        omega (arith, below, sooner);
  }

  tried : (n : ℕ) → (run S s.mode arrivals n).state.over ≡ false → (has : HasVisited n)
      → IsTried (search_rules s) (AreNoted s peaks) (levels (suc n)) has.node (set n)
  tried n going has = has.visited (set n) (may n going has)

  first_node : 0 < count → HasNode 0
  first_node some =
      let first = all.first some in
      let is = first.4 in
      let state : (boot_in S s.mode).state ≡ after 0 = boot_state S s.mode arrivals proper in
      record {
        node = first.1;
        there = (first.0, first.2, first.3);
        stands = record {
          comes = record { mode = s.mode; arrivals = arrivals; ticks = 0; same = refl };
          key = subst (λ (o : Kept). key S s.need o ≡ first.1.key) state is.key;
          over = subst (λ (o : Kept). o.over ≡ first.1.over) state is.over;
        };
        bounds = at_least s arrivals 0 first.1.labels _ is.labels (boot_bounds s arrivals);
      }

  after_tick : (n : ℕ) → (run S s.mode arrivals n).state.over ≡ false
      → (tick_in S (routines_of s (set n)) (after n)).after ≡ after (suc n)
  after_tick n going =
      ap (λ (t : KeptStep). t.after) (sym (arrived n).tick)
      ∙ sym (kept_more S s.mode arrivals proper n going)

  next_node : (n : ℕ) → (run S s.mode arrivals n).state.over ≡ false → HasVisited n
      → HasNode (suc n)
  next_node n going has =
      let next = (tried n going has).next in
      let is : IsAfter s has.node (set n) next.1 (after n) = next.4 (after n) has.stands in
      let state = after_tick n going in
      record {
        node = next.1;
        there = (next.0, next.2, next.3);
        stands = record {
          comes = record { mode = s.mode; arrivals = arrivals; ticks = suc n; same = refl };
          key = subst (λ (o : Kept). key S s.need o ≡ next.1.key) state is.key;
          over = subst (λ (o : Kept). o.over ≡ next.1.over) state is.over;
        };
        bounds =
            at_least s arrivals (suc n) next.1.labels _ is.labels
            (tick_bounds s arrivals n has.node.labels has.bounds keep.known (arrived n));
      }

  node_at : (n : ℕ) → n < count → (run S s.mode arrivals n).state.over ≡ false → HasNode n
  node_at zero low going = first_node low
  node_at (suc n) low going =
      let before : (run S s.mode arrivals n).state.over ≡ false =
      going_before S s.mode arrivals n going in
      let less : n < count = omega (arith, low) in
      next_node n before (visited_above n less (node_at n less before))

  -- ---- what a tick shows

  module _ (n : ℕ) (early : n < count) (going : (run S s.mode arrivals n).state.over ≡ false) where
    abbrev has : HasVisited n
    has = visited_above n early (node_at n early going)

    abbrev here : List ℕ
    here = routines_of s (set n)

    abbrev shown : TickShown
    shown = tick_shown_from s (set n) (after n)

    abbrev seen : Seen
    seen = shown.seen

    noted : IsNoted (levels_of S) s.cap peaks shown has.node.labels
    noted = (tried n going has).noted (after n) has.stands

    told_same : ShowTheSame S (tick_at S s.mode arrivals n) (kept_tick_at S s.mode arrivals n)
    told_same = runs_show S s.mode arrivals n proper going

    -- of each thing of the system something is seen
    seen_of : (kind : Kind) → seen_count seen kind ≡ count_of S kind
    seen_of Kind.Task = seen_tasks S here (after n)
    seen_of Kind.Routine = seen_routines S here (after n)
    seen_of Kind.Resource = seen_holders S here (after n)
    seen_of Kind.Alarm = seen_alarms S here (after n)
    seen_of Kind.System = refl

    -- so what is noted of it is within what is told
    read : (measure : Measure) (k : ℕ) → IsTrue (is_of S (figure measure k))
        → IsAtMost (told peaks (figure measure k))
        (reading_by (levels_of S) s.cap shown has.node.labels measure k)
    read measure k of =
        noted.figures (figure measure k)
        (subst (λ c. IsTrue (nat_lt k c)) (sym (seen_of (kind_of measure))) of)

    abbrev IsLow : Measure → ℕ → Type 0
    IsLow measure k =
        IsAtMost (told peaks (figure measure k)) (shown_by S s.mode arrivals n measure k)

    blocked_few : (k m : ℕ) → k < length S.tasks → m < s.cap
        → blocked_ticks (levels_of S) s.cap shown has.node.labels k ≤ m
        → blocked_at S s.mode arrivals k n ≤ m
    blocked_few k m low below noted_few =
        blocked_low s arrivals n has.node.labels proper going (arrived n) has.bounds k m low below
        noted_few

    -- a service that fails is of an owner that passes a test exactly where the one noted is
    fails_same : (test : Option Owner → Bool)
        → (test (option_map owner_of (tick_at S s.mode arrivals n).executed)
        && is_error (answered (tick_at S s.mode arrivals n).executed))
        ≡ fails_by test shown.failure
    fails_same test =
        fails_alike test (tick_at S s.mode arrivals n).executed
        ∙ ap (fails_by test)
        (ap failure_of told_same.executed
        ∙ failure_same S s.mode arrivals n here (arrived n))

    low_by : (measure : Measure) (k : ℕ) → IsTrue (is_of S (figure measure k))
        → IsTrue (is_below s.cap peaks (figure measure k)) → IsLow measure k
    low_by Measure.Response k of below =
        let low = ltb-true _ _ of in
        age_low S s.mode arrivals proper k n _ going
        (subst (IsAtMost (told peaks (figure Measure.Response k)))
        (sym
        (ages_agree S s.mode arrivals n here (arrived n) k low (ages_at s arrivals k n)).oldest)
        (oldest_within s.cap (told peaks (figure Measure.Response k)) (ltb-true _ _ below)
        (task_tick seen k) (ages_of has.node.labels k) (ages_at s arrivals k n)
        (has.bounds.ages k low) (read Measure.Response k of)))
    low_by Measure.Blocked k of below =
        blocked_few k _ (ltb-true _ _ of) (ltb-true _ _ below) (read Measure.Blocked k of)
    low_by Measure.Blockers k of below =
        none_or_one (told peaks (figure Measure.Blockers k))
        (blocked_ticks (levels_of S) s.cap shown has.node.labels k)
        (blocked_at S s.mode arrivals k n) (read Measure.Blockers k of)
        (blocked_few k 0 (ltb-true _ _ of) (ltb-true _ _ below))
    low_by Measure.Jobs k of below =
        let few = read Measure.Jobs k of in
        let same : (task_seen S (tick_at S s.mode arrivals n) k).jobs ≡ (task_in seen k).jobs =
        ap (λ (t : TaskSeen). t.jobs) (told_same.tasks k)
        ∙ jobs_same S s.mode arrivals n here (arrived n) k (ltb-true _ _ of) in
        omega (arith, few, same)
    low_by Measure.Refusal k of below =
        let few = read Measure.Refusal k of in
        let same : (task_seen S (tick_at S s.mode arrivals n) k).refused
        ≡ (task_in seen k).refused =
        ap (λ (t : TaskSeen). t.refused) (told_same.tasks k)
        ∙ refused_same S s.mode arrivals n here (arrived n) k (ltb-true _ _ of) in
        omega (arith, few, same)
    low_by Measure.Errors k of below =
        subst (λ b. one_if b ≤ told peaks (figure Measure.Errors k))
        (sym (fails_same (λ who. is_task who k))) (read Measure.Errors k of)
    low_by Measure.Latency k of below =
        let low = ltb-true _ _ of in
        waits_low S s.mode arrivals proper k n _ going
        (subst (IsAtMost (told peaks (figure Measure.Latency k)))
        (sym (pending_agrees S s.mode arrivals n here (arrived n) k low
        (pending_at s arrivals k n)).waited)
        (waited_within s.cap (told peaks (figure Measure.Latency k)) (ltb-true _ _ below)
        (routine_tick seen k) (pending_of has.node.labels k) (pending_at s arrivals k n)
        (has.bounds.pending k low) (read Measure.Latency k of)))
    low_by Measure.Loss k of below =
        let few = read Measure.Loss k of in
        let same : (routine_seen (tick_at S s.mode arrivals n) k).lost ≡ (routine_in seen k).lost =
        ap (λ (r : RoutineSeen). r.lost) (told_same.routines k)
        ∙ lost_same S s.mode arrivals n here (arrived n) k (ltb-true _ _ of) in
        omega (arith, few, same)
    low_by Measure.RoutineErrors k of below =
        subst (λ b. one_if b ≤ told peaks (figure Measure.RoutineErrors k))
        (sym (fails_same (λ who. is_routine who k))) (read Measure.RoutineErrors k of)
    low_by Measure.Hold k of below =
        hold_low S s.mode arrivals proper k n _ going
        (subst (IsAtMost (told peaks (figure Measure.Hold k)))
        (sym (holds_agree S s.mode arrivals n here (arrived n) k (hold_at s arrivals k n)).held)
        (held_within s.cap (told peaks (figure Measure.Hold k)) (ltb-true _ _ below)
        (holder_tick seen k) (hold_of has.node.labels k) (hold_at s arrivals k n)
        (has.bounds.holds k (ltb-true _ _ of)) (read Measure.Hold k of)))
    low_by Measure.RefusedAction k of below =
        subst (λ (a : AlarmSeen). one_if a.is_refused ≤ told peaks (figure Measure.RefusedAction k))
        (sym (told_same.alarms k
        ∙ alarm_same S s.mode arrivals n here (arrived n) k (ltb-true _ _ of)))
        (read Measure.RefusedAction k of)
    low_by Measure.Shutdown k of below =
        subst (λ b. one_if b ≤ told peaks (figure Measure.Shutdown k))
        (ap (λ (o : Kept). o.over) (after_tick n going)) (read Measure.Shutdown k of)

    tick_within : IsTickWithin S s.mode s.cap peaks arrivals n
    tick_within = record {
      figures = λ f of below. low_by f.measure f.number of below;
      failures =
          subst (λ (f : Option Failure). IfSome f (λ x. Contains peaks.failures x))
          (sym
          (ap failure_of told_same.executed
          ∙ failure_same S s.mode arrivals n here (arrived n)))
          noted.failures;
    }

-- ---- the law

pub levels_bound : LevelsBound
levels_bound s peaks count levels proper enough own all = record {
  figures = λ arrivals n f figure few keep are told of below.
      value_within s.system s.mode arrivals n f figure _ are told of
      (λ i inside.
      (tick_within s peaks count levels proper all arrivals keep i (omega (arith, inside, few))
      (going_at s.system s.mode arrivals n are.seen are.ticks i inside)).figures figure of below);
  ticks = λ arrivals n early keep going.
      tick_within s peaks count levels proper all arrivals keep n early going;
}

-- nodes that stand for all that can come do for any number of steps
as_levels : (s : Setting) (peaks : Peaks) (nodes : List Node)
    → AreAll (search_rules s) (AreNoted s peaks) nodes
    → (count : ℕ) → AreLevels (search_rules s) (AreNoted s peaks) count (λ _. nodes)
as_levels s peaks nodes all count = record {
  first = λ _. all.first;
  visited = λ k low x at. record { node = x; above = inl refl; visited = all.visited x at };
}

pub searches_bound : SearchesBound
searches_bound s peaks nodes proper enough own all count =
    levels_bound s peaks count (λ _. nodes) proper enough own (as_levels s peaks nodes all count)
