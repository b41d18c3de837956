-- OSEK/VDX OS: resource management. Jobs that release a resource within some ticks.
use Rattle.std.specs.Prelude.{ℕ, ◌≡◌, ◌<◌, ◌+◌, false, List}
use Rattle.osek_base.specs.declared.arrivals.Arrival.{Arrival}
use Rattle.osek_base.specs.Proper.{IsProper}
use Rattle.osek_base.specs.State.{JobId}
use Rattle.osek_base.specs.System.{System}
use Rattle.osek_base.specs.Trace.{run}
use Rattle.arrival_rules.specs.declared.rule.ArrivalRule.{ArrivalRule}
use Rattle.view_figures.specs.FigureSums.{held_count}
use Rattle.law_jobs.specs.HeldSince.{IsHeldSince}
use Rattle.view_measures.specs.declared.measure.Measure.{Measure}
use Rattle.view_measures.specs.Measures.{figure}
use Rattle.search_peaks.specs.Peaks.{Peaks, told}
use Rattle.law_bounds.specs.Bounds.{AreBounds}
use Rattle.arrival_rules.specs.Rules.{KeepRules}

-- whatever arrives that keeps the rules, a job that holds a resource since a tick doesn't do so
-- any more at the instruction of the tick so many ticks later: it has released it, or the run has
-- ended
abbrev pub ReleasesWithin : System → ℕ → List ArrivalRule → ℕ → ℕ → Type 0
ReleasesWithin S mode rules most r =
    (arrivals : List Arrival) (n since : ℕ) (job : JobId) → KeepRules S rules arrivals
    → (run S mode arrivals n).state.over ≡ false → IsHeldSince S mode arrivals n r job since
    → n < since + most

-- ---- the law

-- so it is of each resource whose longest hold is bounded below the cap
abbrev pub BoundedHoldsEnd : Type 0
BoundedHoldsEnd =
    (S : System) (mode : ℕ) (rules : List ArrivalRule) (cap : ℕ) (peaks : Peaks) (r : ℕ) → IsProper S
    → AreBounds S mode rules cap peaks → r < held_count S
    → told peaks (figure Measure.Hold r) < cap
    → ReleasesWithin S mode rules (told peaks (figure Measure.Hold r)) r
