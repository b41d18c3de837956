-- Jobs release upper resources where their longest hold is bounded.
use Rattle.std.proofs.Common.{suc, lt-ltb, arith}
use Rattle.view_measures.specs.declared.kind.Kind.{Kind}
use Rattle.view_measures.specs.declared.measure.Measure.{Measure}
use Rattle.view_measures.specs.Measures.{figure}
use Rattle.search_peaks.specs.Peaks.{told}
use Rattle.law_bounds.proofs.Releasing.{none_longer}
use Rattle.law_upper.specs.FiguresAbove.{BoundedUpperHoldsEnd, resource_in_part}
use Rattle.law_upper.proofs.Within.{has_thing}

pub bounded_upper_holds_end : BoundedUpperHoldsEnd
bounded_upper_holds_end S p mode rules cap peaks proper bounds r is below arrivals n since job
    keep going holds =
    let most = told peaks (figure Measure.Hold (resource_in_part S p r)) in
    none_longer S mode arrivals r most n since job proper (has_thing S p Kind.Resource r is) going
    (((bounds (suc n)).ticks arrivals n (omega arith) keep going).figures
    (figure Measure.Hold r) is (lt-ltb most cap below))
    holds
