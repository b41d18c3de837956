-- Bounds of a proper system and of the states of its runs.
use Rattle.std.proofs.Common.{ℕ, ◌<◌, ◌≤◌, List, length, arith}
use Rattle.osek_base.specs.declared.arrivals.Arrival.{Arrival}
use Rattle.osek_base.specs.declared.limits.TheConstants.{MAX_ACTIVATION}
use Rattle.osek_base.specs.System.{System}
use Rattle.osek_base.specs.State.{jobs_of}
use Rattle.osek_base.specs.Proper.{IsProper}
use Rattle.osek_base.specs.Trace.{run}
use Rattle.law_runs.proofs.FormedTick.{run_form}
use Rattle.services.proofs.BoundLemmas.{activation_few}

-- no task has more jobs than any may have
pub few_jobs : (S : System) (mode : ℕ) (arrivals : List Arrival) (n t : ℕ) → IsProper S → t < length S.tasks
    → length (jobs_of t (run S mode arrivals n).state.jobs) ≤ MAX_ACTIVATION
few_jobs S mode arrivals n t proper inside =
    let limited = (run_form S proper mode arrivals n).formed.limited t in
    let few = activation_few S proper t inside in
    omega (arith, limited, few)
