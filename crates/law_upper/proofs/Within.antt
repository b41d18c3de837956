-- Where each tick shows the same of the upper part, bounds of one system hold in the other.
use Rattle.std.proofs.Common.{◌≡◌, ℕ, suc, ◌<◌, Bool, true, false, inl, inr, List, length, min, sym, ◌∙◌, ap, subst, lt-ltb, arith}
use Rattle.std.specs.Prelude.{Contains, IfSome, IsTrue, Option, Some, None, if◌then◌else◌}
use Rattle.std.specs.List.{AllByRecursion}
use Rattle.osek_base.specs.declared.arrivals.Arrival.{Arrival}
use Rattle.osek_base.specs.Agree.{is_upper_declared}
use Rattle.osek_base.specs.System.{System}
use Rattle.osek_base.specs.Trace.{run}
use Rattle.osek_base.specs.Upper.{is_upper_alarm, is_upper_owner}
use Rattle.arrival_rules.specs.declared.rule.ArrivalRule.{ArrivalRule}
use Rattle.arrival_rules.specs.Rules.{KeepRules}
use Rattle.seen_ticks.specs.declared.alarm_seen.AlarmSeen.{AlarmSeen}
use Rattle.seen_ticks.specs.declared.failures.Failure.{Failure}
use Rattle.seen_ticks.specs.declared.routine_seen.RoutineSeen.{RoutineSeen}
use Rattle.seen_ticks.specs.declared.task_seen.TaskSeen.{TaskSeen}
use Rattle.seen_ticks.specs.Observed.{failure_of, tick_at}
use Rattle.view_figures.specs.FigureSums.{held_count}
use Rattle.view_measures.specs.declared.figure.Figure.{Figure}
use Rattle.view_measures.specs.declared.kind.Kind.{Kind}
use Rattle.view_measures.specs.declared.measure.Measure.{Measure}
use Rattle.view_measures.specs.Kinds.{count_of}
use Rattle.view_measures.specs.Measures.{is_of, kind_of}
use Rattle.law_figures.specs.Counts.{one_if}
use Rattle.law_figures.specs.Labels.{IsAtMost}
use Rattle.search_peaks.specs.Peaks.{Peaks, told}
use Rattle.law_bounds.specs.Bounds.{AreBounds, AreBoundsUpTo, IsTickWithin}
use Rattle.law_bounds.specs.RunTicks.{held_at}
use Rattle.law_bounds.specs.Showing.{shown_at, shown_by}
use Rattle.law_bounds.proofs.Showing.{going_at, value_within}
use Rattle.law_upper.specs.Above.{IsTheSameAlarm, IsTheSameResource, IsUpperTask}
use Rattle.law_upper.specs.FiguresAbove.{AreBoundsAbove, AreBoundsAboveUpTo, IsAbove, IsHeldAbove, IsThingAbove, IsTickWithinAbove, alarm_in_part, figure_in_part, number_in_part, resource_in_part}
use Rattle.law_upper.specs.ShownAbove.{ShowTheSameAbove, TicksShowTheSame, if_upper}
use Rattle.law_upper.proofs.Blocked.{blocked_at_same}
use Rattle.law_upper.proofs.ShownAlike.{ages_same, holds_same, scheduler_same, waits_same}

-- the things of one system's upper part have these numbers in the other, which is that part alone
pub record AreNumbered (S B : System) (p : ℕ) : Type 0 where
  pub tasks : (t : ℕ) → IsUpperTask S p t → IsUpperTask B p t
  pub routines : length S.routines ≡ length B.routines
  pub resources : (r : ℕ) → r < length S.resources → IsTrue (is_upper_declared S p r)
      → IsTheSameResource S B p r (resource_in_part S p r)
  pub held : resource_in_part S p (length S.resources) ≡ length B.resources
  pub scheduler : S.use_res_scheduler ≡ B.use_res_scheduler
  pub alarms : (a : ℕ) → a < length S.alarms → IsTrue (is_upper_alarm S p a)
      → IsTheSameAlarm S B p a (alarm_in_part S p a)

pub rules_there : (S B : System) (rules : List ArrivalRule) (arrivals : List Arrival)
    → length S.routines ≡ length B.routines → KeepRules S rules arrivals
    → KeepRules B rules arrivals
rules_there S B rules arrivals routines keep = record {
  known =
      subst (λ m. AllByRecursion (λ (a : Arrival). a.routine < m) arrivals) routines keep.known;
  each = keep.each;
  once = keep.once;
}

-- ---- things of both systems

pub declared_held : (S : System) (r : ℕ) → r < length S.resources → r < held_count S
declared_held S r low = omega (arith, low)

pub scheduler_held : (S : System) → S.use_res_scheduler ≡ true → length S.resources < held_count S
scheduler_held S used = rw used (omega arith)

-- a system has each thing of its upper part
pub has_thing : (S : System) (p : ℕ) (kind : Kind) (k : ℕ) → IsThingAbove S p kind k
    → k < count_of S kind
has_thing S p Kind.Task t is = is.known
has_thing S p Kind.Routine i is = is
has_thing S p Kind.Resource r (inl is) = declared_held S r is.0
has_thing S p Kind.Resource r (inr is) =
    subst (λ q. q < held_count S) (sym is.0) (scheduler_held S is.1)
has_thing S p Kind.Alarm a is = is.0
has_thing S p Kind.System z is = is

pub has_figure : (S : System) (p : ℕ) (f : Figure) → IsAbove S p f → IsTrue (is_of S f)
has_figure S p f is =
    lt-ltb f.number (count_of S (kind_of f.measure))
    (has_thing S p (kind_of f.measure) f.number is)

-- and so has that part alone
has_thing_there : (S B : System) (p : ℕ) → AreNumbered S B p → (kind : Kind) (k : ℕ)
    → IsThingAbove S p kind k → number_in_part S p kind k < count_of B kind
has_thing_there S B p numbers Kind.Task t is = (numbers.tasks t is).known
has_thing_there S B p numbers Kind.Routine i is = subst (λ m. i < m) numbers.routines is
has_thing_there S B p numbers Kind.Resource r (inl is) =
    declared_held B (resource_in_part S p r) (numbers.resources r is.0 is.1).known_there
has_thing_there S B p numbers Kind.Resource r (inr is) =
    subst (λ q. q < held_count B)
    (sym (ap (λ q. resource_in_part S p q) is.0 ∙ numbers.held))
    (scheduler_held B (sym numbers.scheduler ∙ is.1))
has_thing_there S B p numbers Kind.Alarm a is = (numbers.alarms a is.0 is.1).known_there
has_thing_there S B p numbers Kind.System z is = is

-- ---- what a tick shows

-- what is of the upper part is among some where it is among them
if_upper_within : (B : System) (p : ℕ) (failures : List Failure) (failure : Option Failure)
    → IfSome failure (λ x. Contains failures x)
    → IfSome (if_upper B p failure) (λ x. Contains failures x)
if_upper_within B p failures None there = tt
if_upper_within B p failures (Some x) there = go (is_upper_owner B p x.owner)
  where
    go : (upper : Bool) → IfSome (if upper then Some x else None) (λ y. Contains failures y)
    go true = there
    go false = tt

module _ (S B : System) (p : ℕ) (numbers : AreNumbered S B p) (shown : TicksShowTheSame S B p)
    (over : (mode : ℕ) (arrivals : List Arrival) (n : ℕ)
    → (run S mode arrivals n).state.over ≡ (run B mode arrivals n).state.over) where
  module _ (mode : ℕ) (arrivals : List Arrival) (n : ℕ)
      (going : (run S mode arrivals n).state.over ≡ false) where
    same : ShowTheSameAbove S B p (tick_at S mode arrivals n) (tick_at B mode arrivals n)
    same = shown mode arrivals n going

    held_same : (r : ℕ) → IsHeldAbove S p r
        → held_at S mode arrivals r n ≡ held_at B mode arrivals (resource_in_part S p r) n
    held_same r (inl is) =
        holds_same S B p mode arrivals shown r (resource_in_part S p r)
        (numbers.resources r is.0 is.1) n going
    held_same r (inr is) =
        ap (λ q. held_at S mode arrivals q n) is.0
        ∙ scheduler_same S B p mode arrivals shown is.1 (sym numbers.scheduler ∙ is.1) n going
        ∙ sym (ap (λ q. held_at B mode arrivals q n)
        (ap (λ q. resource_in_part S p q) is.0 ∙ numbers.held))

    -- each measure of a thing of the upper part is that of the thing in the part alone
    measure_same : (measure : Measure) (k : ℕ) → IsThingAbove S p (kind_of measure) k
        → shown_by S mode arrivals n measure k
        ≡ shown_by B mode arrivals n measure (number_in_part S p (kind_of measure) k)
    measure_same Measure.Response t is = ages_same S B p mode arrivals shown t is n going
    measure_same Measure.Blocked t is =
        ap (λ m. Some m) (blocked_at_same S B p mode arrivals shown t is n going)
    measure_same Measure.Blockers t is =
        ap (λ m. Some (min 1 m)) (blocked_at_same S B p mode arrivals shown t is n going)
    measure_same Measure.Jobs t is = ap (λ (x : TaskSeen). Some x.jobs) (same.tasks t is)
    measure_same Measure.Refusal t is =
        ap (λ (x : TaskSeen). Some (min 1 x.refused)) (same.tasks t is)
    measure_same Measure.Errors t is = ap (λ b. Some (one_if b)) (same.errors t is)
    measure_same Measure.Latency i is = waits_same S B p mode arrivals shown i n going
    measure_same Measure.Loss i is =
        ap (λ (x : RoutineSeen). Some (min 1 x.lost)) (same.routines i)
    measure_same Measure.RoutineErrors i is =
        ap (λ b. Some (one_if b)) (same.routine_errors i)
    measure_same Measure.Hold r is = held_same r is
    measure_same Measure.RefusedAction a is =
        ap (λ (x : AlarmSeen). Some (one_if x.is_refused))
        (same.alarms a (alarm_in_part S p a) (numbers.alarms a is.0 is.1))
    measure_same Measure.Shutdown z is =
        ap (λ b. Some (one_if b)) (over mode arrivals (suc n))

    figure_same : (f : Figure) → IsAbove S p f
        → shown_at S mode arrivals n f ≡ shown_at B mode arrivals n (figure_in_part S p f)
    figure_same f is = measure_same f.measure f.number is

    within_above : (cap : ℕ) (peaks : Peaks) → IsTickWithin B mode cap peaks arrivals n
        → IsTickWithinAbove S p mode cap peaks arrivals n
    within_above cap peaks there = record {
      figures = λ f is below.
          let g : Figure = figure_in_part S p f in
          subst (IsAtMost (told peaks g)) (sym (figure_same f is))
          (there.figures g
          (lt-ltb g.number (count_of B (kind_of g.measure))
          (has_thing_there S B p numbers (kind_of f.measure) f.number is)) below);
      failures =
          subst (λ (x : Option Failure). IfSome x (λ y. Contains peaks.failures y))
          (sym same.failures)
          (if_upper_within B p peaks.failures (failure_of (tick_at B mode arrivals n).executed)
          there.failures);
    }

  -- ---- the law for two systems

  pub bounds_there_up_to : (mode : ℕ) (rules : List ArrivalRule) (cap : ℕ) (peaks : Peaks)
      (count : ℕ) → AreBoundsUpTo B mode rules cap peaks count
      → AreBoundsAboveUpTo S p mode rules cap peaks count
  bounds_there_up_to mode rules cap peaks count bounds = record {
    figures = λ arrivals n g f few keep are tells is below.
        value_within S mode arrivals n g f (told peaks (figure_in_part S p f)) are tells
        (has_figure S p f is)
        (λ i early.
        (tick arrivals i (omega (arith, early, few)) keep
        (going_at S mode arrivals n are.seen are.ticks i early)).figures
        f is below);
    ticks = tick;
  }
    where
      tick : (arrivals : List Arrival) (n : ℕ) → n < count → KeepRules S rules arrivals
          → (run S mode arrivals n).state.over ≡ false
          → IsTickWithinAbove S p mode cap peaks arrivals n
      tick arrivals n early keep going =
          within_above mode arrivals n going cap peaks
          (bounds.ticks arrivals n early
          (rules_there S B rules arrivals numbers.routines keep)
          (sym (over mode arrivals n) ∙ going))

  pub bounds_there : (mode : ℕ) (rules : List ArrivalRule) (cap : ℕ) (peaks : Peaks)
      → AreBounds B mode rules cap peaks → AreBoundsAbove S p mode rules cap peaks
  bounds_there mode rules cap peaks bounds count =
      bounds_there_up_to mode rules cap peaks count (bounds count)
