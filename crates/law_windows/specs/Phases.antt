-- A potential, phase by phase: up to the instruction of a tick, and from there on.
use Rattle.std.specs.Prelude.{ℕ, suc, ◌+◌, ◌≡◌, ◌≤◌, true, false, List}
use Rattle.osek_base.specs.declared.arrivals.Arrival.{Arrival}
use Rattle.osek_base.specs.System.{System}
use Rattle.osek_base.specs.Trace.{run}
use Rattle.law_windows.specs.Work.{has_work_after, is_busy}
use Rattle.law_windows.specs.Coming.{Costs, coming, first_cost}
use Rattle.law_windows.specs.Potential.{IsPotential}

-- left n is what is left behind n ticks, and at n what is left at the instruction of tick n
pub record FallsByPhases (S : System) (mode : ℕ) (arrivals : List Arrival) (p : ℕ) (costs : Costs)
    (left at : ℕ → ℕ) : Type 0 where
  -- where work stands, something is left
  pub positive : (n : ℕ) → (run S mode arrivals n).state.over ≡ false
      → has_work_after S mode arrivals p n ≡ true → 1 ≤ left n
  -- boot leaves no more than may be where a window begins with the run
  pub boot : has_work_after S mode arrivals p 0 ≡ true → left 0 ≤ costs.at_boot
  -- phases 1 to 4: alarms, arrivals, a dispatch and the start of a routine add no more than what
  -- comes costs
  pub before : (n : ℕ) → (run S mode arrivals n).state.over ≡ false
      → has_work_after S mode arrivals p n ≡ true
      → at n ≤ left n + coming S mode arrivals costs n
  -- where no work stood, no more than may be where a window begins
  pub woken : (n : ℕ) → (run S mode arrivals n).state.over ≡ false
      → has_work_after S mode arrivals p n ≡ false → is_busy S mode arrivals p n ≡ true
      → at n ≤ first_cost costs n + coming S mode arrivals costs n
  -- phases 5 and 6: the instruction of a busy tick, and a dispatch, take one at least
  pub behind : (n : ℕ) → (run S mode arrivals (suc n)).state.over ≡ false
      → is_busy S mode arrivals p n ≡ true → has_work_after S mode arrivals p (suc n) ≡ true
      → left (suc n) + 1 ≤ at n
  -- that of a tick that isn't busy leaves no more than may be where a window begins
  pub begun : (n : ℕ) → (run S mode arrivals (suc n)).state.over ≡ false
      → is_busy S mode arrivals p n ≡ false → has_work_after S mode arrivals p (suc n) ≡ true
      → left (suc n) ≤ costs.at_begin

-- ---- the law

abbrev pub PhasesMakeAPotential : Type 0
PhasesMakeAPotential =
    (S : System) (mode : ℕ) (arrivals : List Arrival) (p : ℕ) (costs : Costs) (left at : ℕ → ℕ)
    → FallsByPhases S mode arrivals p costs left at → IsPotential S mode arrivals p costs left
