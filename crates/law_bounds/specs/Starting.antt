-- OSEK/VDX OS: interrupt processing, category 2. Interrupts whose routines start within some ticks.
use Rattle.std.specs.Prelude.{ℕ, ◌≡◌, ◌<◌, ◌+◌, false, List, length}
use Rattle.osek_base.specs.declared.arrivals.Arrival.{Arrival}
use Rattle.osek_base.specs.Proper.{IsProper}
use Rattle.osek_base.specs.System.{System}
use Rattle.osek_base.specs.Trace.{run}
use Rattle.arrival_rules.specs.declared.rule.ArrivalRule.{ArrivalRule}
use Rattle.law_jobs.specs.PendingSince.{IsTaken}
use Rattle.law_jobs.specs.Starting.{HasStarted}
use Rattle.view_measures.specs.declared.measure.Measure.{Measure}
use Rattle.view_measures.specs.Measures.{figure}
use Rattle.search_peaks.specs.Peaks.{Peaks, told}
use Rattle.law_bounds.specs.Bounds.{AreBounds}
use Rattle.arrival_rules.specs.Rules.{KeepRules}

-- whatever arrives that keeps the rules, each interrupt of a routine that isn't lost has its
-- routine started within so many ticks, unless the run is over by then
abbrev pub StartsWithin : System → ℕ → List ArrivalRule → ℕ → ℕ → Type 0
StartsWithin S mode rules most k =
    (arrivals : List Arrival) (since : ℕ) → KeepRules S rules arrivals
    → (run S mode arrivals (since + most)).state.over ≡ false → IsTaken S mode arrivals k since
    → HasStarted S mode arrivals k since (since + most)

-- so it is of each routine whose greatest latency is below a cap
abbrev pub RoutinesStart : System → ℕ → List ArrivalRule → ℕ → Peaks → Type 0
RoutinesStart S mode rules cap peaks =
    (k : ℕ) → k < length S.routines → told peaks (figure Measure.Latency k) < cap
    → StartsWithin S mode rules (told peaks (figure Measure.Latency k)) k

-- ---- the law

abbrev pub BoundedInterruptsStart : Type 0
BoundedInterruptsStart =
    (S : System) (mode : ℕ) (rules : List ArrivalRule) (cap : ℕ) (peaks : Peaks) → IsProper S
    → AreBounds S mode rules cap peaks → RoutinesStart S mode rules cap peaks
