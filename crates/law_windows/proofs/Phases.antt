-- What is low at the instruction of each tick, and falls by it, is a potential.
use Rattle.std.proofs.Common.{ℕ, zero, suc, ◌≡◌, ◌≤◌, ◌+◌, Bool, true, false, ◌&&◌, List, refl, sym, ◌∙◌, arith}
use Rattle.osek_base.specs.declared.arrivals.Arrival.{Arrival}
use Rattle.osek_base.specs.System.{System}
use Rattle.osek_base.specs.Trace.{run}
use Rattle.law_runs.proofs.RunSteps.{going_before}
use Rattle.law_windows.specs.Work.{has_work_after, is_busy}
use Rattle.law_windows.specs.Windows.{goes_on_with}
use Rattle.law_windows.specs.Coming.{Costs, coming, first_cost}
use Rattle.law_windows.specs.Phases.{FallsByPhases, PhasesMakeAPotential}

-- where not both are, and the second is, the first isn't
first_false : (a b : Bool) → (a && b) ≡ false → b ≡ true → a ≡ false
first_false true b both is = sym is ∙ both
first_false false b both is = refl

module _ (S : System) (mode : ℕ) (arrivals : List Arrival) (p : ℕ) (costs : Costs)
    (left at : ℕ → ℕ) (phases : FallsByPhases S mode arrivals p costs left at) where
  falls : (n : ℕ) → (run S mode arrivals (suc n)).state.over ≡ false
      → is_busy S mode arrivals p n ≡ true → has_work_after S mode arrivals p n ≡ true
      → has_work_after S mode arrivals p (suc n) ≡ true
      → left (suc n) + 1 ≤ left n + coming S mode arrivals costs n
  falls n going busy stood stands =
      let up = phases.before n (going_before S mode arrivals n going) stood in
      let down = phases.behind n going busy stands in
      omega (arith, up, down)

  begins : (n : ℕ) → (run S mode arrivals (suc n)).state.over ≡ false
      → is_busy S mode arrivals p n ≡ true → has_work_after S mode arrivals p n ≡ false
      → has_work_after S mode arrivals p (suc n) ≡ true
      → left (suc n) + 1 ≤ first_cost costs n + coming S mode arrivals costs n
  begins n going busy none stands =
      let up = phases.woken n (going_before S mode arrivals n going) none busy in
      let down = phases.behind n going busy stands in
      omega (arith, up, down)

  rises : (n : ℕ) → (run S mode arrivals n).state.over ≡ false
      → goes_on_with S mode arrivals p n ≡ false → has_work_after S mode arrivals p n ≡ true
      → left n ≤ first_cost costs n
  rises zero going first stands = phases.boot stands
  rises (suc n) going first stands =
      phases.begun n going
      (first_false (is_busy S mode arrivals p n) (has_work_after S mode arrivals p (suc n)) first
      stands)
      stands

pub phases_make_a_potential : PhasesMakeAPotential
phases_make_a_potential S mode arrivals p costs left at phases = record {
  positive = phases.positive;
  falls = falls S mode arrivals p costs left at phases;
  rises = rises S mode arrivals p costs left at phases;
  begins = begins S mode arrivals p costs left at phases;
}
