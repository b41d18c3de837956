-- Partitions. Bounds that are found in the upper part by itself hold in every system with that
-- part.
use Rattle.std.specs.Prelude.{ℕ, ◌≡◌, ◌<◌, ◌≤◌, ◌⊎◌, false, Contains, IfSome, IsTrue, List, length}
use Rattle.osek_base.specs.declared.arrivals.Arrival.{Arrival}
use Rattle.osek_base.specs.System.{System}
use Rattle.osek_base.specs.Trace.{run}
use Rattle.osek_base.specs.Agree.{is_upper_declared, rank, upper_part}
use Rattle.osek_base.specs.Proper.{IsProper}
use Rattle.osek_base.specs.Separable.{Separable}
use Rattle.osek_base.specs.Upper.{is_upper_alarm}
use Rattle.arrival_rules.specs.declared.rule.ArrivalRule.{ArrivalRule}
use Rattle.seen_ticks.specs.Observed.{failure_of, tick_at}
use Rattle.view_figures.specs.FigureSums.{RunFigures}
use Rattle.view_measures.specs.declared.figure.Figure.{Figure}
use Rattle.view_measures.specs.declared.kind.Kind.{Kind}
use Rattle.view_measures.specs.declared.measure.Measure.{Measure}
use Rattle.view_measures.specs.Measures.{figure, kind_of}
use Rattle.law_figures.specs.Labels.{IsAtMost}
use Rattle.law_figures.specs.RunFigures.{AreRunFigures}
use Rattle.search_peaks.specs.Peaks.{Peaks, is_below, told}
use Rattle.law_bounds.specs.Bounds.{AreBounds, AreBoundsUpTo}
use Rattle.law_bounds.specs.Ending.{EndsWithin}
use Rattle.law_bounds.specs.Releasing.{ReleasesWithin}
use Rattle.law_bounds.specs.Showing.{AreTold, shown_at, value}
use Rattle.arrival_rules.specs.Rules.{KeepRules}
use Rattle.law_upper.specs.Above.{AreOneAbove, IsUpperTask}
use Rattle.law_upper.specs.ShownAbove.{if_upper}

-- ---- figures of the upper part

-- a resource of the upper part: an upper one, or RES_SCHEDULER
abbrev pub IsHeldAbove : System → ℕ → ℕ → Type 0
IsHeldAbove S p r =
    ((r < length S.resources) × IsTrue (is_upper_declared S p r))
    ⊎ ((r ≡ length S.resources) × IsTrue S.use_res_scheduler)

-- a thing of a kind is of the upper part
abbrev pub IsThingAbove : System → ℕ → Kind → ℕ → Type 0
IsThingAbove S p Kind.Task t = IsUpperTask S p t
IsThingAbove S p Kind.Routine i = i < length S.routines
IsThingAbove S p Kind.Resource r = IsHeldAbove S p r
IsThingAbove S p Kind.Alarm a = (a < length S.alarms) × IsTrue (is_upper_alarm S p a)
IsThingAbove S p Kind.System z = z < 1

-- the numbers that an upper resource and an upper alarm have in the upper part by itself. Upper
-- tasks and routines keep theirs, and RES_SCHEDULER stands behind the declared resources there too
abbrev pub resource_in_part : System → ℕ → ℕ → ℕ
resource_in_part S p r = rank (is_upper_declared S p) r

abbrev pub alarm_in_part : System → ℕ → ℕ → ℕ
alarm_in_part S p a = rank (is_upper_alarm S p) a

abbrev pub number_in_part : System → ℕ → Kind → ℕ → ℕ
number_in_part S p Kind.Task t = t
number_in_part S p Kind.Routine i = i
number_in_part S p Kind.Resource r = resource_in_part S p r
number_in_part S p Kind.Alarm a = alarm_in_part S p a
number_in_part S p Kind.System z = z

-- a figure is of the upper part, and the same figure of that part by itself
abbrev pub IsAbove : System → ℕ → Figure → Type 0
IsAbove S p f = IsThingAbove S p (kind_of f.measure) f.number

abbrev pub figure_in_part : System → ℕ → Figure → Figure
figure_in_part S p f = figure f.measure (number_in_part S p (kind_of f.measure) f.number)

-- ---- bounds

-- of tick n of a run what the upper part shows is within peaks of that part by itself: of no figure
-- does it show more than is told, where that is below a cap; and a service of it that is answered
-- other than E_OK is one of theirs
pub record IsTickWithinAbove (S : System) (p mode cap : ℕ) (peaks : Peaks)
    (arrivals : List Arrival) (n : ℕ) : Type 0 where
  pub figures : (f : Figure) → IsAbove S p f
      → IsTrue (is_below cap peaks (figure_in_part S p f))
      → IsAtMost (told peaks (figure_in_part S p f)) (shown_at S mode arrivals n f)
  pub failures : IfSome (if_upper S p (failure_of (tick_at S mode arrivals n).executed))
      (λ x. Contains peaks.failures x)

-- whatever arrives that keeps the rules, for so many ticks at most
pub record AreBoundsAboveUpTo (S : System) (p mode : ℕ) (rules : List ArrivalRule) (cap : ℕ)
    (peaks : Peaks) (count : ℕ) : Type 0 where
  pub figures : (arrivals : List Arrival) (n : ℕ) (g : RunFigures) (f : Figure) → n ≤ count
      → KeepRules S rules arrivals → (are : AreRunFigures S mode arrivals n g)
      → AreTold S mode arrivals are.seen f.measure → IsAbove S p f
      → IsTrue (is_below cap peaks (figure_in_part S p f))
      → value g are.seen (run S mode arrivals n).state.over f ≤ told peaks (figure_in_part S p f)
  pub ticks : (arrivals : List Arrival) (n : ℕ) → n < count → KeepRules S rules arrivals
      → (run S mode arrivals n).state.over ≡ false → IsTickWithinAbove S p mode cap peaks arrivals n

-- and for however many ticks
abbrev pub AreBoundsAbove : System → ℕ → ℕ → List ArrivalRule → ℕ → Peaks → Type 0
AreBoundsAbove S p mode rules cap peaks =
    (count : ℕ) → AreBoundsAboveUpTo S p mode rules cap peaks count

-- so each job of an upper task whose greatest response is bounded below the cap ends or begins to
-- wait within as many ticks of being ready
abbrev pub UpperJobsEnd : System → ℕ → ℕ → List ArrivalRule → ℕ → Peaks → Type 0
UpperJobsEnd S p mode rules cap peaks =
    (t : ℕ) → IsUpperTask S p t → told peaks (figure Measure.Response t) < cap
    → EndsWithin S mode rules (told peaks (figure Measure.Response t)) t

abbrev pub BoundedUpperJobsEnd : Type 0
BoundedUpperJobsEnd =
    (S : System) (p mode : ℕ) (rules : List ArrivalRule) (cap : ℕ) (peaks : Peaks) → IsProper S
    → AreBoundsAbove S p mode rules cap peaks → UpperJobsEnd S p mode rules cap peaks

-- and each job that holds an upper resource, or RES_SCHEDULER, whose longest hold is bounded below
-- the cap releases it within as many ticks
abbrev pub UpperHoldsEnd : System → ℕ → ℕ → List ArrivalRule → ℕ → Peaks → Type 0
UpperHoldsEnd S p mode rules cap peaks =
    (r : ℕ) → IsHeldAbove S p r
    → told peaks (figure Measure.Hold (resource_in_part S p r)) < cap
    → ReleasesWithin S mode rules (told peaks (figure Measure.Hold (resource_in_part S p r))) r

abbrev pub BoundedUpperHoldsEnd : Type 0
BoundedUpperHoldsEnd =
    (S : System) (p mode : ℕ) (rules : List ArrivalRule) (cap : ℕ) (peaks : Peaks) → IsProper S
    → AreBoundsAbove S p mode rules cap peaks → UpperHoldsEnd S p mode rules cap peaks

-- bounds of the upper part of a system by itself hold in another one, for as many ticks
pub record BoundsHoldIn (S B : System) (p : ℕ) : Type 0 where
  pub ever : (mode : ℕ) (rules : List ArrivalRule) (cap : ℕ) (peaks : Peaks)
      → AreBounds (upper_part S p) mode rules cap peaks
      → AreBoundsAbove B p mode rules cap peaks
  pub up_to : (mode : ℕ) (rules : List ArrivalRule) (cap : ℕ) (peaks : Peaks) (count : ℕ)
      → AreBoundsUpTo (upper_part S p) mode rules cap peaks count
      → AreBoundsAboveUpTo B p mode rules cap peaks count

-- in the whole system, and in each that agrees with it from p upward, whatever stands below
pub record BoundsOfThePartHold : Type 0 where
  pub whole : (S : System) (p : ℕ) → IsProper S → Separable S p → BoundsHoldIn S S p
  pub others : (S B : System) (p : ℕ) → AreOneAbove S B p → BoundsHoldIn S B p
