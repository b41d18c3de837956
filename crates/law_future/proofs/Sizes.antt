-- How much is kept in a run.
use Rattle.std.proofs.Common.{ℕ, ◌≡◌, List, length}
use Rattle.osek_base.specs.declared.arrivals.Arrival.{Arrival}
use Rattle.osek_base.specs.System.{System}
use Rattle.osek_base.specs.Proper.{IsProper}
use Rattle.law_runs.proofs.FormedTick.{run_form}
use Rattle.law_future.specs.Alike.{kept_after}

module _ (S : System) (proper : IsProper S) (mode : ℕ) (arrivals : List Arrival) where
  pub size : (n : ℕ) → length (kept_after S mode arrivals n).pending ≡ length S.routines
  size n = (run_form S proper mode arrivals n).pending
