-- Where the greatest latency of a routine is bounded, it starts within that of each interrupt.
use Rattle.std.proofs.Common.{◌≡◌, ℕ, suc, ◌<◌, ◌+◌, false, List, length, subst, arith, lt-ltb}
use Rattle.osek_base.specs.declared.arrivals.Arrival.{Arrival}
use Rattle.osek_base.specs.Proper.{IsProper}
use Rattle.osek_base.specs.System.{System}
use Rattle.osek_base.specs.Trace.{run}
use Rattle.law_figures.specs.Labels.{IsAtMost}
use Rattle.law_jobs.specs.PendingSince.{IsTaken}
use Rattle.law_jobs.specs.Starting.{HasStarted}
use Rattle.law_jobs.proofs.Starting.{started_within}
use Rattle.view_measures.specs.declared.measure.Measure.{Measure}
use Rattle.view_measures.specs.Measures.{figure}
use Rattle.search_peaks.specs.Peaks.{told}
use Rattle.law_bounds.specs.RunTicks.{waited_at}
use Rattle.law_bounds.specs.Starting.{BoundedInterruptsStart}
use Rattle.law_bounds.proofs.RunTicks.{waited_is}

-- where no label shows more so many ticks later, the routine has started
pub none_later : (S : System) (mode : ℕ) (arrivals : List Arrival) (k most since : ℕ) → IsProper S
    → k < length S.routines → (run S mode arrivals (since + most)).state.over ≡ false
    → IsAtMost most (waited_at S mode arrivals k (since + most)) → IsTaken S mode arrivals k since
    → HasStarted S mode arrivals k since (since + most)
none_later S mode arrivals k most since proper known going low is =
    started_within S mode arrivals k most proper known since going
    (subst (IsAtMost most) (waited_is S mode arrivals proper k (since + most) going) low) is

pub bounded_interrupts_start : BoundedInterruptsStart
bounded_interrupts_start S mode rules cap peaks proper bounds k known below arrivals since keep
    going is =
    let most = told peaks (figure Measure.Latency k) in
    none_later S mode arrivals k most since proper known going
    (((bounds (suc (since + most))).ticks arrivals (since + most) (omega arith) keep going).figures
    (figure Measure.Latency k) (lt-ltb _ _ known) (lt-ltb _ _ below))
    is
