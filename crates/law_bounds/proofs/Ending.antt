-- Where the greatest response of a task is bounded, its jobs end.
use Rattle.std.proofs.Common.{◌≡◌, ℕ, suc, ◌<◌, ◌+◌, false, List, length, subst, arith, lt-ltb}
use Rattle.osek_base.specs.declared.arrivals.Arrival.{Arrival}
use Rattle.osek_base.specs.Proper.{IsProper}
use Rattle.osek_base.specs.State.{JobId}
use Rattle.osek_base.specs.System.{System}
use Rattle.osek_base.specs.Trace.{run}
use Rattle.law_figures.specs.Labels.{IsAtMost}
use Rattle.law_jobs.specs.ReadySince.{IsReadySince}
use Rattle.law_jobs.proofs.Ending.{job_within}
use Rattle.view_measures.specs.declared.measure.Measure.{Measure}
use Rattle.view_measures.specs.Measures.{figure}
use Rattle.search_peaks.specs.Peaks.{told}
use Rattle.law_bounds.specs.Ending.{BoundedJobsEnd}
use Rattle.law_bounds.specs.RunTicks.{age_at}
use Rattle.law_bounds.proofs.RunTicks.{age_is}

-- where no label shows more in a tick, no job is older in it
pub none_older : (S : System) (mode : ℕ) (arrivals : List Arrival) (k most n since : ℕ)
    (job : JobId) → IsProper S → k < length S.tasks → (run S mode arrivals n).state.over ≡ false
    → IsAtMost most (age_at S mode arrivals k n) → job.task ≡ k
    → IsReadySince S mode arrivals n job since → n < since + most
none_older S mode arrivals k most n since job proper known going low of ready =
    job_within S mode arrivals k proper known n most since job going
    (subst (IsAtMost most) (age_is S mode arrivals proper k n going) low) of ready

pub bounded_jobs_end : BoundedJobsEnd
bounded_jobs_end S mode rules cap peaks k proper bounds known below arrivals n since job keep
    going of ready =
    none_older S mode arrivals k (told peaks (figure Measure.Response k)) n since job proper known
    going
    (((bounds (suc n)).ticks arrivals n (omega arith) keep going).figures
    (figure Measure.Response k) (lt-ltb _ _ known) (lt-ltb _ _ below)) of ready
