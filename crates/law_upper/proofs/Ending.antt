-- Jobs of upper tasks end where their greatest response is bounded.
use Rattle.std.proofs.Common.{suc, lt-ltb, arith}
use Rattle.view_measures.specs.declared.measure.Measure.{Measure}
use Rattle.view_measures.specs.Measures.{figure}
use Rattle.search_peaks.specs.Peaks.{told}
use Rattle.law_bounds.proofs.Ending.{none_older}
use Rattle.law_upper.specs.FiguresAbove.{BoundedUpperJobsEnd}

pub bounded_upper_jobs_end : BoundedUpperJobsEnd
bounded_upper_jobs_end S p mode rules cap peaks proper bounds t is below arrivals n since job
    keep going of ready =
    let most = told peaks (figure Measure.Response t) in
    none_older S mode arrivals t most n since job proper is.known going
    (((bounds (suc n)).ticks arrivals n (omega arith) keep going).figures
    (figure Measure.Response t) is (lt-ltb most cap below))
    of ready
