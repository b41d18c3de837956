-- Interrupts of routines that are pending already are lost, and change nothing else.
use Rattle.std.proofs.Common.{ℕ, ◌≡◌, ◌<◌, ◌≤◌, ◌-◌, inl, inr, Bool, true, false, cond, ◌||◌, ◌&&◌, List, ◌++◌, map, length, get_or, zero, suc, Option, Some, None, refl, sym, ◌∙◌, ap, subst, arith, ltb-true, true≢false}
use Rattle.std.proofs.Math.Path.{fun_ext}
use Rattle.std.specs.Prelude.{IsTrue, min, nat_lt}
use Rattle.std.specs.Option.{option_map}
use Rattle.std.proofs.lemmas.Bool.{cases_lt}
use Rattle.std.proofs.lemmas.List.{ext_get_or, get_or_past}
use Rattle.osek_base.specs.Alarm.{due_alarms}
use Rattle.osek_base.specs.Lists.{below, is_in}
use Rattle.osek_base.specs.Tick.{flagged}
use Rattle.arrival_rules.specs.declared.rule.ArrivalRule.{ArrivalRule}
use Rattle.arrival_rules.specs.Rules.{rule_at}
use Rattle.arrival_rules.specs.Debts.{next_debt}
use Rattle.law_kept.specs.Kept.{Kept}
use Rattle.law_kept.specs.KeptService.{bare}
use Rattle.law_kept.specs.KeptTick.{KeptStep, alarm_phase_in, before_execution_in, start_phase_in, tick_in}
use Rattle.law_kept.specs.Moves.{rescheduled}
use Rattle.law_future.specs.Shown.{chosen_of}
use Rattle.law_future.specs.Spans.{is_pending_in}
use Rattle.law_future.proofs.Arrivals.{below_low, flag_at, flagged_length, in_chosen, in_filter, phase_pending, tick_by_flags}
use Rattle.law_future.proofs.Tables.{length-table, table_at}
use Rattle.seen_ticks.specs.declared.routine_seen.RoutineSeen.{RoutineSeen}
use Rattle.seen_ticks.specs.Observed.{executed_in, failure_of, lost_of, one_if, owner_of, times}
use Rattle.seen_ticks.specs.Told.{refused_by}
use Rattle.law_seen.specs.Seen.{executor_in, failure_in, seen_by, seen_in}
use Rattle.law_seen.specs.Shown.{KeptTicked, routine_seen_in, ticked_in}
use Rattle.view_figures.specs.declared.routine_figures.RoutineTick.{RoutineTick}
use Rattle.seen_ticks.specs.Seen.{unseen_routine}
use Rattle.view_figures.specs.FigureSums.{levels_of, lower_executes}
use Rattle.law_figures.specs.Pending.{IsOlder, pending_in, pending_next}
use Rattle.law_figures.specs.Labels.{IsAtMost}
use Rattle.law_figures.specs.Times.{waited}
use Rattle.search_keys.specs.Key.{key}
use Rattle.search_labels.specs.Ticks.{routine_in, routine_tick}
use Rattle.search_labels.specs.Labels.{IsAtLeast, Labels, arrives_in, debt_next, debt_of, next_labels, next_pending, pending_of}
use Rattle.view_measures.specs.declared.measure.Measure.{Measure}
use Rattle.view_measures.specs.Measures.{figure}
use Rattle.search_peaks.specs.Noting.{IsNoted, TickShown, is_seen, reading_by}
use Rattle.search_peaks.specs.Peaks.{Peaks, told}
use Rattle.law_bounds.specs.Lost.{IsWithoutLost, LostChangeNothing}
use Rattle.law_bounds.specs.Nodes.{IsAfter, Node, Setting, routines_of, tick_shown_from}
use Rattle.law_bounds.proofs.Counted.{times_of}
use Rattle.law_bounds.proofs.Ordered.{at_least_itself, at_least_joined}
use Rattle.law_bounds.proofs.Seen.{seen_routines}

-- ---- a test that passes less often

raised_alike : (b c flag : Bool) → (c ≡ true → b ≡ true) → (b ≡ true → c ≡ false → flag ≡ true)
    → (b || flag) ≡ (c || flag)
raised_alike true true flag less lost = refl
raised_alike true false flag less lost = sym (lost refl refl)
raised_alike false true flag less lost = absurd (true≢false (sym (less refl)))
raised_alike false false flag less lost = refl

same_unlost : (b c : Bool) (come : ℕ) → (c ≡ true → b ≡ true) → (b ≡ true → c ≡ false → 1 ≤ come)
    → come ≡ 0 → b ≡ c
same_unlost true true come less lost none = refl
same_unlost true false come less lost none =
    let some = lost refl refl in absurd (omega (arith, some, none))
same_unlost false true come less lost none = less refl
same_unlost false false come less lost none = refl

-- fewer interrupts owe no more
owe_less : (rule : ArrivalRule) (b c : Bool) (debt : ℕ) → (c ≡ true → b ≡ true)
    → next_debt rule c debt ≤ next_debt rule b debt
owe_less rule true true debt less = omega arith
owe_less rule true false debt less = omega arith
owe_less rule false true debt less = absurd (true≢false (sym (less refl)))
owe_less rule false false debt less = omega arith

-- ---- the tick

module _ (s : Setting) (set fewer : ℕ) (o : Kept) (without : IsWithoutLost s set fewer o) where
  abbrev many : List ℕ
  many = routines_of s set

  abbrev few : List ℕ
  few = routines_of s fewer

  flag_same : (i : ℕ) (b : Bool) → is_in i (below (length s.system.routines)) ≡ b
      → (is_in i many || get_or o.pending i false) ≡ (is_in i few || get_or o.pending i false)
  flag_same i true is =
      let low = below_low (length s.system.routines) i is in
      ap (λ b. b || get_or o.pending i false) (in_chosen s.system (arrives_in set) i low)
      ∙ raised_alike (arrives_in set i) (arrives_in fewer i) (get_or o.pending i false)
      (without.less i) (without.pend i low)
      ∙ sym (ap (λ b. b || get_or o.pending i false) (in_chosen s.system (arrives_in fewer) i low))
  flag_same i false is =
      ap (λ b. b || get_or o.pending i false) (none (arrives_in set))
      ∙ sym (ap (λ b. b || get_or o.pending i false) (none (arrives_in fewer)))
    where
      none : (test : ℕ → Bool) → is_in i (chosen_of s.system test) ≡ false
      none test =
          in_filter test i (below (length s.system.routines)) ∙ ap (λ b. b && test i) is

  flags_same : flagged many o.pending ≡ flagged few o.pending
  flags_same =
      let long = flagged_length many o.pending in
      ext_get_or false (flagged many o.pending) (flagged few o.pending)
      (long ∙ sym (flagged_length few o.pending))
      (λ i low.
      let inside : i < length o.pending = omega (arith, low, long) in
      flag_at many o.pending i inside
      ∙ flag_same i (is_in i (below (length s.system.routines))) refl
      ∙ sym (flag_at few o.pending i inside))

  abbrev flags_left : List ℕ → List Bool
  flags_left arrived = flagged arrived (alarm_phase_in s.system o).state.pending

  same_left : flags_left many ≡ flags_left few
  same_left =
      ap (flagged many) (phase_pending s.system o) ∙ flags_same
      ∙ sym (ap (flagged few) (phase_pending s.system o))

  before_same : before_execution_in s.system many o ≡ before_execution_in s.system few o
  before_same =
      ap
      (λ (flags : List Bool).
      let alarmed = alarm_phase_in s.system o in
      let dispatched = rescheduled s.system (record alarmed.state { pending = flags }) in
      record {
        events = alarmed.events ++ dispatched.events;
        state = start_phase_in s.system dispatched.state;
      })
      same_left

  tick_same : tick_in s.system many o ≡ tick_in s.system few o
  tick_same = tick_by_flags s.system many few o same_left

  -- what is seen of the tick, but that just the smaller set arrives
  abbrev as_few : KeptTicked
  as_few = record (ticked_in s.system false many o) { arrived = few }

  ticked_same : as_few ≡ ticked_in s.system false few o
  ticked_same = λ i. record {
    first = false;
    before = o;
    at = (before_same i).state;
    after = (tick_same i).after;
    executed = executed_in (tick_same i).events;
    due = due_alarms s.system (bare o);
    refused = refused_by s.system o;
    arrived = few;
  }

  abbrev seen_few : List RoutineSeen
  seen_few = map (routine_seen_in as_few) (below (length s.system.routines))

  abbrev shown_few : TickShown
  shown_few =
      let shown = tick_shown_from s set o in
      record shown { seen = record shown.seen { routines = seen_few } }

  shown_same : shown_few ≡ tick_shown_from s fewer o
  unfolding executor_in failure_in seen_in
  shown_same = λ i. record {
    executor = option_map owner_of (ticked_same i).executed;
    seen = seen_by s.system (ticked_same i);
    failure = failure_of (ticked_same i).executed;
    over = (ticked_same i).after.over;
  }

  -- ---- routines, one by one

  module _ (i : ℕ) where
    abbrev of_many : RoutineSeen
    of_many = routine_in (tick_shown_from s set o).seen i

    abbrev of_few : RoutineSeen
    of_few = routine_in shown_few.seen i

    many_at : i < length s.system.routines
        → of_many ≡ routine_seen_in (ticked_in s.system false many o) i
    unfolding seen_in
    many_at low =
        table_at (routine_seen_in (ticked_in s.system false many o)) (length s.system.routines) i
        unseen_routine low

    few_at : i < length s.system.routines → of_few ≡ routine_seen_in as_few i
    few_at low = table_at (routine_seen_in as_few) (length s.system.routines) i unseen_routine low

    many_past : length s.system.routines ≤ i → of_many ≡ unseen_routine
    unfolding seen_in
    many_past high =
        let many_seen = routine_seen_in (ticked_in s.system false many o) in
        let long = length-table many_seen (length s.system.routines) in
        get_or_past (map many_seen (below (length s.system.routines))) i unseen_routine
        (omega (arith, high, long))

    few_past : length s.system.routines ≤ i → of_few ≡ unseen_routine
    few_past high =
        let long = length-table (routine_seen_in as_few) (length s.system.routines) in
        get_or_past seen_few i unseen_routine (omega (arith, high, long))

    pending_same : of_few.is_pending ≡ of_many.is_pending
    pending_same = elim (cases_lt i (length s.system.routines)) [
      | inl low ↦
          ap (λ (r : RoutineSeen). r.is_pending) (few_at low)
          ∙ sym (ap (λ (r : RoutineSeen). r.is_pending) (many_at low))
      | inr high ↦
          ap (λ (r : RoutineSeen). r.is_pending) (few_past high ∙ sym (many_past high))
    ]

    started_same : of_few.is_started ≡ of_many.is_started
    started_same = elim (cases_lt i (length s.system.routines)) [
      | inl low ↦
          ap (λ (r : RoutineSeen). r.is_started) (few_at low)
          ∙ sym (ap (λ (r : RoutineSeen). r.is_started) (many_at low))
      | inr high ↦
          ap (λ (r : RoutineSeen). r.is_started) (few_past high ∙ sym (many_past high))
    ]

    lost_same : i < length s.system.routines → arrives_in set i ≡ arrives_in fewer i
        → of_few.lost ≡ of_many.lost
    lost_same low same =
        let arrived : times i few ≡ times i many =
        times_of s.system (arrives_in fewer) i low ∙ ap one_if (sym same)
        ∙ sym (times_of s.system (arrives_in set) i low) in
        ap (λ (r : RoutineSeen). r.lost) (few_at low)
        ∙ ap (lost_of (is_pending_in o i)) arrived
        ∙ sym (ap (λ (r : RoutineSeen). r.lost) (many_at low))

-- ---- labels and notes by other routines

module _ (r u : RoutineTick) (pend : r.seen.is_pending ≡ u.seen.is_pending)
    (start : r.seen.is_started ≡ u.seen.is_started) where
  ages_alike : (age : Option ℕ) → pending_in r age ≡ pending_in u age
  ages_alike None = λ i. cond (pend i || start i) (Some 1) None
  ages_alike (Some n) = refl

  next_alike : (age : Option ℕ) → pending_next r age ≡ pending_next u age
  next_alike age = λ i. cond (start i) None (ages_alike age i)

  waits_alike : (age : Option ℕ) → waited r age ≡ waited u age
  waits_alike age =
      λ i. cond (start i) (option_map (λ n. n - 1) (ages_alike age i)) (ages_alike age i)

-- where losses are told, one more changes nothing
lost_low : (m other lost : ℕ) → min 1 other ≤ m → (m ≡ 0 → other ≡ lost) → min 1 lost ≤ m
lost_low zero other lost few same = let is = same refl in omega (arith, few, is)
lost_low (suc m) other lost few same = omega arith

-- ticks show the same but for what is seen of routines, and of these the same pend and start
module _ (shown : TickShown) (others : List RoutineSeen) where
  abbrev with_others : TickShown
  with_others = record shown { seen = record shown.seen { routines = others } }

  module _ (pend : (i : ℕ) → (routine_in with_others.seen i).is_pending
      ≡ (routine_in shown.seen i).is_pending)
      (start : (i : ℕ) → (routine_in with_others.seen i).is_started
      ≡ (routine_in shown.seen i).is_started) where
    notes_alike : (levels : List ℕ) (cap : ℕ) (peaks : Peaks) (l : Labels)
        → length others ≡ length shown.seen.routines
        → ((i : ℕ) → i < length others → told peaks (figure Measure.Loss i) ≡ 0
        → (routine_in with_others.seen i).lost ≡ (routine_in shown.seen i).lost)
        → IsNoted levels cap peaks with_others l → IsNoted levels cap peaks shown l
    notes_alike levels cap peaks l long lost noted = record {
      figures = λ f seen. by_measure f.measure f.number seen;
      failures = noted.failures;
    }
      where
        inside : (i : ℕ) → nat_lt i (length shown.seen.routines) ≡ true
            → nat_lt i (length others) ≡ true
        inside i seen = subst (λ c. nat_lt i c ≡ true) (sym long) seen

        by_measure : (measure : Measure) (k : ℕ) → IsTrue (is_seen shown.seen (figure measure k))
            → IsAtMost (told peaks (figure measure k)) (reading_by levels cap shown l measure k)
        by_measure Measure.Response k seen = noted.figures (figure Measure.Response k) seen
        by_measure Measure.Blocked k seen = noted.figures (figure Measure.Blocked k) seen
        by_measure Measure.Blockers k seen = noted.figures (figure Measure.Blockers k) seen
        by_measure Measure.Jobs k seen = noted.figures (figure Measure.Jobs k) seen
        by_measure Measure.Refusal k seen = noted.figures (figure Measure.Refusal k) seen
        by_measure Measure.Errors k seen = noted.figures (figure Measure.Errors k) seen
        by_measure Measure.Latency i seen =
            subst
            (λ (age : Option ℕ).
            IsAtMost (told peaks (figure Measure.Latency i)) (option_map (min cap) age))
            (waits_alike (routine_tick with_others.seen i) (routine_tick shown.seen i) (pend i)
            (start i) (pending_of l i))
            (noted.figures (figure Measure.Latency i) (inside i seen))
        by_measure Measure.Loss i seen =
            lost_low (told peaks (figure Measure.Loss i)) (routine_in with_others.seen i).lost
            (routine_in shown.seen i).lost
            (noted.figures (figure Measure.Loss i) (inside i seen))
            (lost i (ltb-true _ _ (inside i seen)))
        by_measure Measure.RoutineErrors i seen =
            noted.figures (figure Measure.RoutineErrors i) (inside i seen)
        by_measure Measure.Hold k seen = noted.figures (figure Measure.Hold k) seen
        by_measure Measure.RefusedAction k seen =
            noted.figures (figure Measure.RefusedAction k) seen
        by_measure Measure.Shutdown k seen = noted.figures (figure Measure.Shutdown k) seen

    pending_alike : (cap : ℕ) (l : Labels) (i : ℕ)
        → next_pending cap with_others.seen l i ≡ next_pending cap shown.seen l i
    pending_alike cap l i =
        ap (option_map (min cap))
        (next_alike (routine_tick with_others.seen i) (routine_tick shown.seen i) (pend i)
        (start i) (pending_of l i))

    -- where fewer routines arrive, no more is owed by a rule
    labels_alike : (lower : ℕ → Bool) (cap : ℕ) (rules : List ArrivalRule) (set fewer : ℕ)
        (l : Labels)
        → ((n : ℕ) → debt_next rules fewer l n ≤ debt_next rules set l n)
        → IsAtLeast (next_labels lower cap rules fewer with_others.seen l)
        (next_labels lower cap rules set shown.seen l)
    labels_alike lower cap rules set fewer l sooner =
        let count = length l.debts in
        let mine : Labels = next_labels lower cap rules fewer with_others.seen l in
        let theirs : Labels = next_labels lower cap rules set shown.seen l in
        let long = length-table (debt_next rules fewer l) count in
        let wide = length-table (debt_next rules set l) count in
        let itself = at_least_itself mine in
        let same : mine.pending ≡ theirs.pending =
        ap (λ (next : ℕ → Option ℕ). map next (below (length l.pending)))
        (fun_ext (pending_alike cap l)) in
        record {
          rules = long ∙ sym wide;
          tasks = itself.tasks;
          interrupts = ap length same;
          resources = itself.resources;
          blockable = itself.blockable;
          sooner = λ n. elim (cases_lt n count) [
            | inl low ↦
                let here = table_at (debt_next rules fewer l) count n 0 low in
                let there = table_at (debt_next rules set l) count n 0 low in
                let less = sooner n in
                omega (arith, here, there, less)
            | inr high ↦
                let none : debt_of mine n ≡ 0 =
                get_or_past mine.debts n 0 (omega (arith, high, long)) in
                omega (arith, none)
          ];
          ages = itself.ages;
          pending = λ i.
              subst (λ (ages : List (Option ℕ)). IsOlder (pending_of mine i) (get_or ages i None))
              same (itself.pending i);
          holds = itself.holds;
          blocked = itself.blocked;
        }

-- ---- the law

module _ (s : Setting) (x : Node) (set fewer : ℕ) (o : Kept)
    (without : IsWithoutLost s set fewer o) where
  sooner_without : (n : ℕ)
      → debt_next s.rules fewer x.labels n ≤ debt_next s.rules set x.labels n
  sooner_without n =
      let rule : ArrivalRule = rule_at s.rules n in
      owe_less rule (arrives_in set rule.routine) (arrives_in fewer rule.routine)
      (debt_of x.labels n) (without.less rule.routine)

  abbrev all_shown : TickShown
  all_shown = tick_shown_from s set o

  abbrev fewer_seen : List RoutineSeen
  fewer_seen = seen_few s set fewer o without

  next_without : (y : Node) → IsAfter s x fewer y o → IsAfter s x set y o
  next_without y after =
      let ticks = tick_same s set fewer o without in
      let behind = λ (t : TickShown) (arrived : ℕ). next_labels
      (lower_executes (levels_of s.system) t.executor) s.cap s.rules arrived t.seen x.labels in
      record {
        key = ap (λ (t : KeptStep). key s.system s.need t.after) ticks ∙ after.key;
        over = ap (λ (t : KeptStep). t.after.over) ticks ∙ after.over;
        labels =
            at_least_joined y.labels (behind (shown_few s set fewer o without) fewer)
            (behind all_shown set)
            (subst (λ (t : TickShown). IsAtLeast y.labels (behind t fewer))
            (sym (shown_same s set fewer o without)) after.labels)
            (labels_alike all_shown fewer_seen (pending_same s set fewer o without)
            (started_same s set fewer o without)
            (lower_executes (levels_of s.system) all_shown.executor) s.cap s.rules set fewer
            x.labels sooner_without);
      }

  noted_without : (peaks : Peaks)
      → IsNoted (levels_of s.system) s.cap peaks (tick_shown_from s fewer o) x.labels
      → ((i : ℕ) → i < length s.system.routines → arrives_in set i ≡ true
      → arrives_in fewer i ≡ false → 1 ≤ told peaks (figure Measure.Loss i))
      → IsNoted (levels_of s.system) s.cap peaks (tick_shown_from s set o) x.labels
  noted_without peaks noted come =
      let seen = routine_seen_in (as_few s set fewer o without) in
      let long = length-table seen (length s.system.routines) in
      notes_alike all_shown fewer_seen (pending_same s set fewer o without)
      (started_same s set fewer o without) (levels_of s.system) s.cap peaks x.labels
      (long ∙ sym (seen_routines s.system (routines_of s set) o))
      (λ i inside none.
      let low : i < length s.system.routines = omega (arith, inside, long) in
      lost_same s set fewer o without i low
      (same_unlost (arrives_in set i) (arrives_in fewer i) (told peaks (figure Measure.Loss i))
      (without.less i) (come i low) none))
      (subst (λ (t : TickShown). IsNoted (levels_of s.system) s.cap peaks t x.labels)
      (sym (shown_same s set fewer o without)) noted)

pub lost_change_nothing : LostChangeNothing
lost_change_nothing s x set fewer o may without = record {
  next = next_without s x set fewer o without;
  noted = noted_without s x set fewer o without;
}
