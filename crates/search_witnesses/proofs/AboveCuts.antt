-- What runs of the upper part by itself show of figures, runs of every system with that part show.
use Rattle.std.proofs.Common.{◌≡◌, ℕ, zero, suc, ◌+◌, ◌*◌, ◌-◌, inl, inr, List, [], ◌∷◌, sym, ◌∙◌, ap, ap₂, subst}
use Rattle.std.specs.Prelude.{IfSome, Some}
use Rattle.osek_base.specs.declared.arrivals.Arrival.{Arrival}
use Rattle.osek_base.specs.Agree.{upper_part}
use Rattle.osek_base.specs.System.{System}
use Rattle.osek_base.specs.Trace.{run}
use Rattle.arrival_rules.specs.declared.rule.ArrivalRule.{ArrivalRule}
use Rattle.law_runs.proofs.Lists.{none_some}
use Rattle.seen_ticks.specs.declared.failures.Failure.{Failure}
use Rattle.seen_ticks.specs.declared.observation.Observation.{Observation}
use Rattle.seen_ticks.specs.Observed.{failure_of, tick_at}
use Rattle.view_figures.specs.declared.alarm_figures.AlarmFigures.{AlarmFigures}
use Rattle.view_figures.specs.declared.resource_figures.ResourceFigures.{ResourceFigures}
use Rattle.view_figures.specs.declared.routine_figures.RoutineFigures.{RoutineFigures}
use Rattle.view_figures.specs.FigureSums.{RunFigures}
use Rattle.view_figures.specs.ResponseSums.{Responses}
use Rattle.view_measures.specs.declared.figure.Figure.{Figure}
use Rattle.view_measures.specs.declared.measure.Measure.{Measure}
use Rattle.view_measures.specs.Measures.{kind_of}
use Rattle.law_figures.specs.Counts.{one_if}
use Rattle.law_figures.specs.Times.{response_time, routine_time}
use Rattle.law_figures.specs.RunFigures.{AreRunFigures, AreTicksOf}
use Rattle.law_bounds.specs.Lassos.{rounds}
use Rattle.law_bounds.specs.Showing.{Shows, has_come, most_blocked, number_or_none, ticks_of, value_by}
use Rattle.law_bounds.proofs.Showing.{going_at}
use Rattle.law_upper.specs.Above.{AreOneAbove, IsUpperTask}
use Rattle.law_upper.specs.FiguresAbove.{IsAbove, IsThingAbove, figure_in_part, number_in_part}
use Rattle.law_upper.specs.RunsAbove.{AreThoseOfThePart, HasThoseOfThePart, ShowsWhatThePartShows}
use Rattle.law_upper.proofs.Observed.{are_ticks, observed_before}
use Rattle.law_upper.proofs.Part.{itself}
use Rattle.law_upper.proofs.RunsAbove.{runs_show_what_the_part_shows}
use Rattle.law_upper.proofs.Sides.{upper_back, upper_there, with_part}
use Rattle.law_upper.proofs.Within.{has_figure}
use Rattle.search_peaks.specs.Peaks.{told}
use Rattle.search_witnesses.specs.AboveCuts.{HoldsOf, WhatThePartShowsHolds}
use Rattle.search_witnesses.specs.Failing.{FailsAtEnd, last_failure}
use Rattle.search_witnesses.specs.Listed.{IsKeptList}
use Rattle.search_witnesses.proofs.SeenInBoth.{jobs_same, most_same}

module _ (P S : System) (p : ℕ) (law : ShowsWhatThePartShows P S p)
    (upper : (t : ℕ) → IsUpperTask S p t → IsUpperTask P p t) where
  -- ---- figures

  module _ (mode : ℕ) (arrivals : List Arrival) (n : ℕ) (f : RunFigures)
      (are : AreRunFigures P mode arrivals n f) where
    there : HasThoseOfThePart P S p mode arrivals n f are.seen
    there = law.figures mode arrivals n f are

    abbrev g : RunFigures
    g = there.figures

    same : AreThoseOfThePart S p f g
    same = there.same

    abbrev Same : Measure → ℕ → Type 0
    Same measure k =
        value_by f are.seen (run P mode arrivals n).state.over measure
        (number_in_part S p (kind_of measure) k)
        ≡ value_by g there.are.seen (run S mode arrivals n).state.over measure k

    jobs_are : (t : ℕ) → IsUpperTask S p t → Same Measure.Jobs t
    jobs_are t is =
        jobs_same P S mode arrivals t (upper t is).known is.known
        (λ i going. (law.ticks mode arrivals i going).jobs t is) n are.seen there.are.seen
        are.ticks there.are.ticks

    blocked_are : (t : ℕ) → IsUpperTask S p t → Same Measure.Blocked t
    blocked_are t is =
        ap (λ levels. most_blocked levels t are.seen) are.figures.levels
        ∙ most_same P S mode arrivals t (upper t is).known is.known
        (λ i going. (law.ticks mode arrivals i going).blocked_for t is) n are.seen
        there.are.seen are.ticks there.are.ticks
        ∙ sym (ap (λ levels. most_blocked levels t there.are.seen) there.are.figures.levels)

    same_by : (measure : Measure) (k : ℕ) → IsThingAbove S p (kind_of measure) k → Same measure k
    same_by Measure.Response t is =
        ap₂ (λ last (r : Responses). ticks_of (response_time last r)) same.last
        (same.responses t is)
    same_by Measure.Blocked t is = blocked_are t is
    same_by Measure.Blockers t is = ap number_or_none (same.blockers t is)
    same_by Measure.Jobs t is = jobs_are t is
    same_by Measure.Refusal t is = ap (λ m. has_come m) (same.refusals t is)
    same_by Measure.Errors t is = ap (λ m. has_come m) (same.errors t is)
    same_by Measure.Latency i is =
        ap₂ (λ last (r : RoutineFigures). ticks_of (routine_time last r)) same.last
        (same.routines i is)
    same_by Measure.Loss i is =
        ap (λ (r : RoutineFigures). has_come r.losses) (same.routines i is)
    same_by Measure.RoutineErrors i is =
        ap (λ (r : RoutineFigures). has_come r.errors) (same.routines i is)
    same_by Measure.Hold r (inl is) =
        ap (λ (h : ResourceFigures). ticks_of h.longest) (same.resources r is.0 is.1)
    same_by Measure.Hold r (inr is) =
        subst (λ q. Same Measure.Hold q) (sym is.0)
        (ap (λ (h : ResourceFigures). ticks_of h.longest) (same.scheduler is.1))
    same_by Measure.RefusedAction a is =
        ap (λ (c : AlarmFigures). has_come c.refused) (same.alarms a is.0 is.1)
    same_by Measure.Shutdown z is = ap one_if (law.over mode arrivals n)

  shows_there : (mode : ℕ) (arrivals : List Arrival) (n : ℕ) (figure : Figure) (value : ℕ)
      → IsAbove S p figure → Shows P mode arrivals n (figure_in_part S p figure) value
      → Shows S mode arrivals n figure value
  shows_there mode arrivals n figure value is shows =
      let other = there mode arrivals n shows.figures shows.are in
      record {
        figures = other.figures;
        are = other.are;
        told = other.told shows.told;
        of = has_figure S p figure is;
        shown =
            sym (same_by mode arrivals n shows.figures shows.are figure.measure figure.number is)
            ∙ shows.shown;
      }

  -- ---- services that fail

  module _ (mode : ℕ) (arrivals : List Arrival) where
    abbrev others : ℕ → List Observation
    others n = observed_before S mode arrivals n

    last_there : (n : ℕ) (seen : List Observation) (failure : Failure)
        → AreTicksOf P mode arrivals n seen → last_failure seen ≡ Some failure
        → last_failure (others n) ≡ Some failure
    last_there zero [] failure are fails = absurd (none_some failure fails)
    last_there zero (o ∷ before) failure are fails = absurd are
    last_there (suc n) [] failure are fails = absurd are
    last_there (suc n) (o ∷ before) failure are fails =
        subst
        (λ x. IfSome x
        (λ y. failure_of (tick_at S mode arrivals n).executed ≡ Some y))
        (sym are.0.seen.failure ∙ fails) (law.ticks mode arrivals n are.0.going).failure

    fails_there : (n : ℕ) (failure : Failure) → FailsAtEnd P mode arrivals n failure
        → FailsAtEnd S mode arrivals n failure
    fails_there n failure fails = record {
      seen = others n;
      ticks =
          are_ticks S mode arrivals n
          (λ i low.
          sym (law.over mode arrivals i) ∙ going_at P mode arrivals n fails.seen fails.ticks i low);
      fails = last_there n fails.seen failure fails.ticks fails.fails;
    }

  -- ---- all of it

  list_there : (rules : List ArrivalRule) (arrivals : List Arrival) → IsKeptList P rules arrivals
      → IsKeptList S rules arrivals
  list_there rules arrivals is = record {
    list = is.list;
    keep = law.keep rules arrivals is.keep;
  }

  holds_of : HoldsOf P S p
  holds_of = record {
    shows = shows_there;
    fails_at_end = fails_there;
    reached = λ mode rules found figure is reached.
        let w = reached.witness in
        record {
          witness = w;
          arrivals = list_there rules w.arrivals reached.is.arrivals;
          shows =
              shows_there mode w.arrivals w.ticks figure
              (told found.peaks (figure_in_part S p figure)) is reached.is.shows;
        };
    failing = λ mode rules peaks number fails.
        let w = fails.witness in
        record {
          witness = w;
          is = record {
            failure = fails.is.failure;
            is = fails.is.is;
            arrivals = list_there rules w.arrivals fails.is.arrivals;
            fails = fails_there mode w.arrivals w.ticks fails.is.failure fails.is.fails;
          };
        };
    endless = λ mode rules t e is endless. record {
      ever = law.unending mode rules t is endless.ever;
      less = endless.less;
      before = endless.before;
      arrivals = list_there rules e.arrivals endless.arrivals;
      goes_on = record {
        keep = λ n.
            law.keep rules (rounds n e.from e.until e.arrivals) (endless.goes_on.keep n);
        stands = λ n.
            law.stands mode (rounds n e.from e.until e.arrivals) e.from
            (e.until + n * (e.until - e.from)) t is (endless.goes_on.stands n);
      };
    };
  }

-- ---- the law

module _ (S B : System) (p : ℕ) (pair : AreOneAbove S B p) where
  -- a task that is upper in B is so in S, and in the part of S
  upper_of : (t : ℕ) → IsUpperTask B p t → IsUpperTask (upper_part S p) p t
  upper_of t is =
      upper_there S (upper_part S p) p (with_part S p pair.proper pair.separable) t
      (upper_back S B p pair t is)

  holds : HoldsOf (upper_part S p) B p
  holds =
      holds_of (upper_part S p) B p (runs_show_what_the_part_shows.others S B p pair) upper_of

pub what_the_part_shows_holds : WhatThePartShowsHolds
what_the_part_shows_holds = record {
  whole = λ S p proper separable.
      holds S S p
      (record {
        proper = proper;
        separable = separable;
        proper_there = proper;
        separable_there = separable;
        agree = itself S p;
      });
  others = holds;
}
