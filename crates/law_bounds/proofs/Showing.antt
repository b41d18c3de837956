-- What the figures of a run have of a measure is no more than what its ticks show of it.
use Rattle.std.proofs.Common.{◌≡◌, ℕ, zero, suc, ◌+◌, ◌<◌, ◌≤◌, ◌&&◌, ◌||◌, Bool, true, false, cond, List, [], ◌∷◌, length, min, inl, inr, refl, sym, ◌∙◌, ap, ap₂, subst, arith, ltb-true}
use Rattle.std.specs.Prelude.{IfSome, IsTrue, Option, Some, None, nat_lt, slice_index_or}
use Rattle.std.specs.Option.{option_map}
use Rattle.std.proofs.lemmas.Bool.{cases_lt}
use Rattle.osek_base.specs.declared.arrivals.Arrival.{Arrival}
use Rattle.osek_base.specs.declared.executed.Executed.{Executed}
use Rattle.osek_base.specs.Activation.{activated}
use Rattle.osek_base.specs.Reschedule.{reschedule}
use Rattle.osek_base.specs.State.{State, still}
use Rattle.osek_base.specs.System.{System}
use Rattle.osek_base.specs.Trace.{all_activated, boot, run, starting_alarms, starting_tasks}
use Rattle.law_future.proofs.Tables.{table_at}
use Rattle.law_seen.specs.Shown.{ShowTheSame, kept_tick_at}
use Rattle.law_seen.proofs.Shown.{runs_show}
use Rattle.seen_ticks.specs.declared.alarm_seen.AlarmSeen.{AlarmSeen}
use Rattle.seen_ticks.specs.declared.observation.Observation.{Observation}
use Rattle.seen_ticks.specs.declared.routine_seen.RoutineSeen.{RoutineSeen}
use Rattle.seen_ticks.specs.declared.task_seen.TaskSeen.{TaskSeen}
use Rattle.seen_ticks.specs.Observed.{answered, owner_of, task_seen as seen_at, tick_at}
use Rattle.seen_ticks.specs.Seen.{seen_of, task_seen, unseen_task}
use Rattle.view_figures.specs.declared.reached.Reached.{Reached}
use Rattle.view_figures.specs.FigureSums.{RunFigures, is_error, is_routine, is_task, levels_of, lower_executes}
use Rattle.view_measures.specs.declared.figure.Figure.{Figure}
use Rattle.view_measures.specs.declared.measure.Measure.{Measure}
use Rattle.view_measures.specs.Measures.{figure, is_of}
use Rattle.law_figures.specs.Blocking.{blocked_in, blocked_next, blocking, stands_ready}
use Rattle.law_figures.specs.Counts.{one_if}
use Rattle.law_figures.specs.Labels.{IsAtMost, IsWithin, label_after}
use Rattle.law_figures.specs.RunFigures.{AreRunFigures, AreTicksOf, HaveNone, IsTickOf, StayWithin, label_before}
use Rattle.law_figures.proofs.Nothing.{runs_have_none}
use Rattle.law_figures.proofs.RunTimes.{runs_stay_within}
use Rattle.search_labels.specs.Ticks.{blocked_tick}
use Rattle.law_bounds.specs.RunTicks.{blocked_at, run_tick}
use Rattle.law_bounds.specs.Showing.{AreTold, has_come, most_blocked, most_jobs, number_or_none, routine_fails_at, shown_at, shown_by, task_fails_at, ticks_of, ticks_seen, value, value_by}
use Rattle.law_bounds.proofs.Blockers.{figures_low}
use Rattle.law_bounds.proofs.RunTicks.{age_is, held_is, waited_is}

-- ---- a task in observations of a run

module _ (S : System) (mode : ℕ) (arrivals : List Arrival) (k : ℕ)
    (known : k < length S.tasks) where
  pub seen_is : (n : ℕ) (o : Observation) → IsTickOf S mode arrivals n o
      → task_seen o k ≡ seen_at S (tick_at S mode arrivals n) k
  seen_is n o is =
      ap (λ (xs : List TaskSeen). slice_index_or xs k unseen_task) is.seen.tasks
      ∙ table_at (seen_at S (tick_at S mode arrivals n)) (length S.tasks) k unseen_task known

  in_is : (n : ℕ) (o : Observation) → IsTickOf S mode arrivals n o → (m : ℕ)
      → blocked_in (blocked_tick (lower_executes (levels_of S) o.executor) (seen_of o) k) m
      ≡ blocked_in (run_tick S mode arrivals k n) m
  in_is n o is m =
      ap₂ (λ (x : TaskSeen) who.
      m + cond (stands_ready x.state && lower_executes (levels_of S) who k) 1 0)
      (seen_is n o is) is.seen.executor

  next_is : (n : ℕ) (o : Observation) → IsTickOf S mode arrivals n o → (m : ℕ)
      → blocked_next (blocked_tick (lower_executes (levels_of S) o.executor) (seen_of o) k) m
      ≡ blocked_next (run_tick S mode arrivals k n) m
  next_is n o is m =
      ap₂ (λ (x : TaskSeen) i. cond (x.ended || x.waits) 0 i) (seen_is n o is) (in_is n o is m)

  pub label_is : (n : ℕ) (seen : List Observation) → AreTicksOf S mode arrivals n seen
      → label_after blocking (ticks_seen (levels_of S) k seen)
      ≡ label_before blocking (run_tick S mode arrivals k) n
  label_is zero [] are = refl
  label_is zero (o ∷ before) are = absurd are
  label_is (suc n) [] are = absurd are
  label_is (suc n) (o ∷ before) are =
      next_is n o are.0 (label_after blocking (ticks_seen (levels_of S) k before))
      ∙ ap (blocked_next (run_tick S mode arrivals k n)) (label_is n before are.1)

  pub blocked_is : (n : ℕ) (o : Observation) (before : List Observation)
      → IsTickOf S mode arrivals n o → AreTicksOf S mode arrivals n before
      → blocked_in (blocked_tick (lower_executes (levels_of S) o.executor) (seen_of o) k)
      (label_after blocking (ticks_seen (levels_of S) k before))
      ≡ blocked_at S mode arrivals k n
  blocked_is n o before is are =
      in_is n o is (label_after blocking (ticks_seen (levels_of S) k before))
      ∙ ap (blocked_in (run_tick S mode arrivals k n)) (label_is n before are)

  module _ (m : ℕ) where
    few_jobs : (n : ℕ) (seen : List Observation) → AreTicksOf S mode arrivals n seen
        → ((i : ℕ) → i < n → (seen_at S (tick_at S mode arrivals i) k).jobs ≤ m)
        → most_jobs k seen ≤ m
    few_jobs zero [] are low = omega arith
    few_jobs zero (o ∷ before) are low = absurd are
    few_jobs (suc n) [] are low = absurd are
    few_jobs (suc n) (o ∷ before) are low =
        let here = low n (omega arith) in
        let same : (task_seen o k).jobs ≡ (seen_at S (tick_at S mode arrivals n) k).jobs =
        ap (λ (x : TaskSeen). x.jobs) (seen_is n o are.0) in
        let rest = few_jobs n before are.1 (λ i less. low i (omega (arith, less))) in
        omega (arith, here, same, rest)

    few_blocked : (n : ℕ) (seen : List Observation) → AreTicksOf S mode arrivals n seen
        → ((i : ℕ) → i < n → blocked_at S mode arrivals k i ≤ m)
        → most_blocked (levels_of S) k seen ≤ m
    few_blocked zero [] are low = omega arith
    few_blocked zero (o ∷ before) are low = absurd are
    few_blocked (suc n) [] are low = absurd are
    few_blocked (suc n) (o ∷ before) are low =
        let here = low n (omega arith) in
        let same = blocked_is n o before are.0 are.1 in
        let rest = few_blocked n before are.1 (λ i less. low i (omega (arith, less))) in
        omega (arith, here, same, rest)

-- ---- numbers

ticks_low : (m : ℕ) (figure : Option Reached) → IsWithin m figure → ticks_of figure ≤ m
ticks_low m None within = omega arith
ticks_low m (Some r) within = within

number_low : (m : ℕ) (number : Option ℕ) → IfSome number (λ k. k ≤ min 1 m)
    → number_or_none number ≤ m
number_low m None few = omega arith
number_low m (Some k) few = omega (arith, few)

at_most_one : (b : Bool) → one_if b ≤ 1
at_most_one true = omega arith
at_most_one false = omega arith

-- what has come counts 1, where it may have come at all
come_low : (count m : ℕ) → (m ≡ 0 → count ≡ 0) → has_come count ≤ m
come_low count zero none = rw (none refl) (omega arith)
come_low count (suc m) none = let few = at_most_one (nat_lt 0 count) in omega (arith, few)

none_of : (count m : ℕ) → min 1 count ≤ m → m ≡ 0 → count ≡ 0
none_of count m low none = omega (arith, low, none)

not_of : (count m : ℕ) → count ≤ m → m ≡ 0 → count ≡ 0
not_of count m low none = omega (arith, low, none)

-- ---- boot ends no run

over_activated : (S : System) (t : ℕ) (s : State) → (activated S t s).over ≡ s.over
unfolding activated
over_activated S t s = refl

over_all_activated : (S : System) (ts : List ℕ) (s : State) → (all_activated S ts s).over ≡ s.over
over_all_activated S [] s = refl
over_all_activated S (t ∷ ts) s =
    over_all_activated S ts (activated S t s) ∙ over_activated S t s

over_reschedule : (S : System) (s : State) → (reschedule S s).state.over ≡ s.over
unfolding reschedule
over_reschedule S s = refl

pub boot_goes : (S : System) (mode : ℕ) (arrivals : List Arrival)
    → (run S mode arrivals 0).state.over ≡ false
unfolding run boot
boot_goes S mode arrivals =
    over_reschedule S _
    ∙ over_all_activated S (starting_tasks S mode)
    (record (still S) { alarms = starting_alarms S mode })

-- ---- by measure

module _ (S : System) (mode : ℕ) (arrivals : List Arrival) (n : ℕ) (f : RunFigures)
    (are : AreRunFigures S mode arrivals n f)
    (going : (i : ℕ) → i < n → (run S mode arrivals i).state.over ≡ false) (m : ℕ) where
  stay : StayWithin S mode arrivals n f
  stay = runs_stay_within S mode arrivals n f are

  have : HaveNone S mode arrivals n f
  have = runs_have_none S mode arrivals n f are

  show : (i : ℕ) → i < n
      → ShowTheSame S (tick_at S mode arrivals i) (kept_tick_at S mode arrivals i)
  show i inside = runs_show S mode arrivals i are.proper (going i inside)

  abbrev AreLow : Measure → ℕ → Type 0
  AreLow measure k = (i : ℕ) → i < n → IsAtMost m (shown_by S mode arrivals i measure k)

  abbrev IsLow : Measure → ℕ → Type 0
  IsLow measure k =
      value_by f are.seen (run S mode arrivals n).state.over measure k ≤ m

  over_low : ((i : ℕ) → suc i ≡ n → one_if (run S mode arrivals (suc i)).state.over ≤ m)
      → one_if (run S mode arrivals n).state.over ≤ m
  over_low last = go n refl
    where
      go : (j : ℕ) → j ≡ n → one_if (run S mode arrivals n).state.over ≤ m
      go zero is =
          subst (λ t. one_if (run S mode arrivals t).state.over ≤ m) is
          (rw (boot_goes S mode arrivals) (omega arith))
      go (suc j) is =
          subst (λ t. one_if (run S mode arrivals t).state.over ≤ m) is (last j is)

  low_by : (measure : Measure) (k : ℕ) → IsTrue (is_of S (figure measure k))
      → AreTold S mode arrivals are.seen measure → AreLow measure k → IsLow measure k
  low_by Measure.Response k of told low =
      ticks_low m _ (stay.times k m (ltb-true _ _ of)
      (λ i inside. subst (IsAtMost m) (age_is S mode arrivals are.proper k i (going i inside))
      (low i inside)))
  low_by Measure.Blocked k of told low =
      subst (λ levels. most_blocked levels k are.seen ≤ m) (sym are.figures.levels)
      (few_blocked S mode arrivals k (ltb-true _ _ of) m n are.seen are.ticks low)
  low_by Measure.Blockers k of told low =
      number_low m _ (figures_low S mode arrivals n f are told going k m (ltb-true _ _ of)
      (λ none v inside. let few = low v inside in omega (arith, few, none)))
  low_by Measure.Jobs k of told low =
      few_jobs S mode arrivals k (ltb-true _ _ of) m n are.seen are.ticks low
  low_by Measure.Refusal k of told low =
      come_low _ m (λ none. have.refusals k (ltb-true _ _ of)
      (λ i inside. ap (λ (t : TaskSeen). t.refused) (sym ((show i inside).tasks k))
      ∙ none_of _ m (low i inside) none))
  low_by Measure.Errors k of told low =
      come_low _ m (λ none. have.errors k (ltb-true _ _ of)
      (λ i inside. ap (λ (e : Option Executed).
      one_if (is_task (option_map owner_of e) k && is_error (answered e)))
      (sym (show i inside).executed)
      ∙ not_of (one_if (task_fails_at S mode arrivals i k)) m (low i inside) none))
  low_by Measure.Latency k of told low =
      ticks_low m _ (stay.waits k m (ltb-true _ _ of)
      (λ i inside. subst (IsAtMost m) (waited_is S mode arrivals are.proper k i (going i inside))
      (low i inside)))
  low_by Measure.Loss k of told low =
      come_low _ m (λ none. have.losses k (ltb-true _ _ of)
      (λ i inside. ap (λ (r : RoutineSeen). r.lost) (sym ((show i inside).routines k))
      ∙ none_of _ m (low i inside) none))
  low_by Measure.RoutineErrors k of told low =
      come_low _ m (λ none. have.routine_errors k (ltb-true _ _ of)
      (λ i inside. ap (λ (e : Option Executed).
      one_if (is_routine (option_map owner_of e) k && is_error (answered e)))
      (sym (show i inside).executed)
      ∙ not_of (one_if (routine_fails_at S mode arrivals i k)) m (low i inside) none))
  low_by Measure.Hold k of told low =
      ticks_low m _ (stay.holds k m (ltb-true _ _ of)
      (λ i inside. subst (IsAtMost m) (held_is S mode arrivals are.proper k i (going i inside))
      (low i inside)))
  low_by Measure.RefusedAction k of told low =
      come_low _ m (λ none. have.actions k (ltb-true _ _ of)
      (λ i inside. ap (λ (a : AlarmSeen). one_if a.is_refused) (sym ((show i inside).alarms k))
      ∙ not_of _ m (low i inside) none))
  low_by Measure.Shutdown k of told low =
      over_low (λ i is. low i (omega (arith, is)))

-- a run isn't over before a tick that is observed
pub going_at : (S : System) (mode : ℕ) (arrivals : List Arrival) (n : ℕ) (seen : List Observation)
    → AreTicksOf S mode arrivals n seen → (i : ℕ) → i < n
    → (run S mode arrivals i).state.over ≡ false
going_at S mode arrivals zero seen are i low = absurd (omega (arith, low))
going_at S mode arrivals (suc n) [] are i low = absurd are
going_at S mode arrivals (suc n) (o ∷ before) are i low = elim (cases_lt i n) [
  | inl less ↦ going_at S mode arrivals n before are.1 i less
  | inr last ↦
      let same : n ≡ i = omega (arith, low, last) in
      subst (λ k. (run S mode arrivals k).state.over ≡ false) same are.0.going
]

-- so no figure has more than each tick shows
pub value_within : (S : System) (mode : ℕ) (arrivals : List Arrival) (n : ℕ) (f : RunFigures)
    (figure : Figure) (m : ℕ) (are : AreRunFigures S mode arrivals n f)
    → AreTold S mode arrivals are.seen figure.measure → IsTrue (is_of S figure)
    → ((i : ℕ) → i < n → IsAtMost m (shown_at S mode arrivals i figure))
    → value f are.seen (run S mode arrivals n).state.over figure ≤ m
value_within S mode arrivals n f figure m are told of low =
    low_by S mode arrivals n f are (going_at S mode arrivals n are.seen are.ticks) m figure.measure
    figure.number of told low
