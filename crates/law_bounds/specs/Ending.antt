-- OSEK/VDX OS: task management. Jobs that end, or begin to wait, within some ticks.
use Rattle.std.specs.Prelude.{ℕ, ◌≡◌, ◌<◌, ◌+◌, false, List, length}
use Rattle.osek_base.specs.declared.arrivals.Arrival.{Arrival}
use Rattle.osek_base.specs.Proper.{IsProper}
use Rattle.osek_base.specs.State.{JobId}
use Rattle.osek_base.specs.System.{System}
use Rattle.osek_base.specs.Trace.{run}
use Rattle.arrival_rules.specs.declared.rule.ArrivalRule.{ArrivalRule}
use Rattle.law_jobs.specs.ReadySince.{IsReadySince}
use Rattle.view_measures.specs.declared.measure.Measure.{Measure}
use Rattle.view_measures.specs.Measures.{figure}
use Rattle.search_peaks.specs.Peaks.{Peaks, told}
use Rattle.law_bounds.specs.Bounds.{AreBounds}
use Rattle.arrival_rules.specs.Rules.{KeepRules}

-- whatever arrives that keeps the rules, a job of a task that is ready since a tick isn't READY or
-- RUNNING any more so many ticks later: it has ended or begun to wait, or the run has ended
abbrev pub EndsWithin : System → ℕ → List ArrivalRule → ℕ → ℕ → Type 0
EndsWithin S mode rules most k =
    (arrivals : List Arrival) (n since : ℕ) (job : JobId) → KeepRules S rules arrivals
    → (run S mode arrivals n).state.over ≡ false → job.task ≡ k
    → IsReadySince S mode arrivals n job since → n < since + most

-- ---- the law

-- so it is of each task whose greatest response is bounded below the cap
abbrev pub BoundedJobsEnd : Type 0
BoundedJobsEnd =
    (S : System) (mode : ℕ) (rules : List ArrivalRule) (cap : ℕ) (peaks : Peaks) (k : ℕ) → IsProper S
    → AreBounds S mode rules cap peaks → k < length S.tasks
    → told peaks (figure Measure.Response k) < cap
    → EndsWithin S mode rules (told peaks (figure Measure.Response k)) k
