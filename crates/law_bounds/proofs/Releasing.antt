-- Where the longest hold of a resource is bounded, who holds it releases it.
use Rattle.std.proofs.Common.{◌≡◌, ℕ, suc, ◌+◌, ◌-◌, ◌<◌, ◌≤◌, false, List, ◌∙◌, subst, arith, lt-ltb}
use Rattle.osek_base.specs.declared.arrivals.Arrival.{Arrival}
use Rattle.osek_base.specs.Proper.{IsProper}
use Rattle.osek_base.specs.State.{JobId}
use Rattle.osek_base.specs.System.{System}
use Rattle.osek_base.specs.Trace.{run}
use Rattle.view_figures.specs.FigureSums.{held_count}
use Rattle.law_figures.specs.Labels.{IsAtMost}
use Rattle.law_jobs.specs.HeldSince.{IsHeldSince}
use Rattle.law_jobs.proofs.Holds.{holds_are_of_jobs}
use Rattle.view_measures.specs.declared.measure.Measure.{Measure}
use Rattle.view_measures.specs.Measures.{figure}
use Rattle.search_peaks.specs.Peaks.{told}
use Rattle.law_bounds.specs.Releasing.{BoundedHoldsEnd}
use Rattle.law_bounds.specs.RunTicks.{held_at}
use Rattle.law_bounds.proofs.RunTicks.{held_is}

-- where no label shows more in a tick, no job has held the resource for longer
pub none_longer : (S : System) (mode : ℕ) (arrivals : List Arrival) (r most n since : ℕ)
    (job : JobId) → IsProper S → r < held_count S → (run S mode arrivals n).state.over ≡ false
    → IsAtMost most (held_at S mode arrivals r n) → IsHeldSince S mode arrivals n r job since
    → n < since + most
none_longer S mode arrivals r most n since job proper known going low holds =
    let past : since ≤ n = holds.past in
    let least : suc n - since ≤ most =
    subst (IsAtMost most)
    (held_is S mode arrivals proper r n going
    ∙ (holds_are_of_jobs S mode arrivals n r proper going known).told job since (suc n - since)
    holds (omega (arith, past))) low in
    omega (arith, past, least)

pub bounded_holds_end : BoundedHoldsEnd
bounded_holds_end S mode rules cap peaks r proper bounds known below arrivals n since job keep
    going holds =
    none_longer S mode arrivals r (told peaks (figure Measure.Hold r)) n since job proper known
    going
    (((bounds (suc n)).ticks arrivals n (omega arith) keep going).figures (figure Measure.Hold r)
    (lt-ltb _ _ known) (lt-ltb _ _ below)) holds
