-- What is kept of a run, one tick further.
use Rattle.std.proofs.Common.{◌≡◌, ℕ, suc, true, false, List, ◌∙◌, ap}
use Rattle.osek_base.specs.declared.arrivals.Arrival.{Arrival}
use Rattle.osek_base.specs.System.{System}
use Rattle.osek_base.specs.Trace.{Run, arriving, run}
use Rattle.osek_base.specs.Proper.{IsProper}
use Rattle.law_runs.proofs.RunSteps.{stays_over, state_more}
use Rattle.law_kept.specs.Kept.{kept}
use Rattle.law_kept.specs.KeptTick.{KeptStep, tick_in}
use Rattle.law_kept.proofs.Ticked.{ticks}
use Rattle.law_future.specs.Alike.{kept_after}

-- ---- a run, one tick further

module _ (S : System) (mode : ℕ) (arrivals : List Arrival) where
  -- what is kept after one tick more
  pub kept_more : (proper : IsProper S) (n : ℕ) → (run S mode arrivals n).state.over ≡ false
      → kept_after S mode arrivals (suc n) ≡ (tick_in S (arriving arrivals n) (kept_after S mode arrivals n)).after
  kept_more proper n going =
      ap (kept S) (state_more S mode arrivals n going) ∙ ap (λ (t : KeptStep). t.after) (ticks S mode arrivals n (arriving arrivals n) proper)

  pub kept_over : (n : ℕ) → (run S mode arrivals n).state.over ≡ true → kept_after S mode arrivals (suc n) ≡ kept_after S mode arrivals n
  kept_over n over = ap (λ (r : Run). kept S r.state) (stays_over S mode arrivals n over)
