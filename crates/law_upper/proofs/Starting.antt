-- Routines start where bounds of an upper part bound their greatest latency.
use Rattle.std.proofs.Common.{suc, ◌+◌, lt-ltb, arith}
use Rattle.view_measures.specs.declared.measure.Measure.{Measure}
use Rattle.view_measures.specs.Measures.{figure}
use Rattle.search_peaks.specs.Peaks.{told}
use Rattle.law_bounds.proofs.Starting.{none_later}
use Rattle.law_upper.specs.StartingAbove.{BoundedInterruptsStartAbove}

pub interrupts_start_above : BoundedInterruptsStartAbove
interrupts_start_above S p mode rules cap peaks proper bounds k known below arrivals since keep
    going is =
    let most = told peaks (figure Measure.Latency k) in
    none_later S mode arrivals k most since proper known going
    (((bounds (suc (since + most))).ticks arrivals (since + most) (omega arith) keep
    going).figures (figure Measure.Latency k) known (lt-ltb most cap below))
    is
