-- The steps of a run, one tick further, and their numbers.
use Rattle.std.proofs.Common.{◌≡◌, ℕ, ◌+◌, false, List, [], ◌∷◌, ◌++◌, refl, sym, ◌∙◌, ap}
use Rattle.osek_base.specs.declared.arrivals.Arrival.{Arrival}
use Rattle.osek_base.specs.System.{System}
use Rattle.osek_base.specs.State.{State}
use Rattle.osek_base.specs.Tick.{before_execution, tick}
use Rattle.osek_base.specs.Trace.{Run, arriving, run}
pub use Rattle.law_runs.proofs.Further.{going_earlier, run_more, run_over, run_stays, run_suc, run_tick, tick_zero}
use Rattle.law_blockers.specs.Steps.{step_at}

-- the steps after one tick more
pub steps_more : (S : System) (mode : ℕ) (arrivals : List Arrival) (n : ℕ) → (run S mode arrivals n).state.over ≡ false
    → (run S mode arrivals (n + 1)).steps ≡ (run S mode arrivals n).steps ++ step_at S mode arrivals n ∷ []
steps_more S mode arrivals n going = ap (λ (r : Run). r.steps) (run_more S mode arrivals n going)

-- and its records, of which none is unwritten
pub unwritten_more : (S : System) (mode : ℕ) (arrivals : List Arrival) (n : ℕ) → (run S mode arrivals n).state.over ≡ false
    → (run S mode arrivals (n + 1)).unwritten ≡ []
unwritten_more S mode arrivals n going = ap (λ (r : Run). r.unwritten) (run_more S mode arrivals n going)

number_is : (S : System) (arrived : List ℕ) (s : State) → (tick S arrived s).number ≡ s.tick
unfolding tick
number_is S arrived s = refl

-- the step of tick n has the number n
pub step_number : (S : System) (mode : ℕ) (arrivals : List Arrival) (n : ℕ) → (run S mode arrivals n).state.over ≡ false
    → (step_at S mode arrivals n).number ≡ n
step_number S mode arrivals n going = number_is S _ (run S mode arrivals n).state ∙ run_tick S mode arrivals n going

executing_in : (S : System) (arrived : List ℕ) (s : State) → (before_execution S arrived s).state ≡ (tick S arrived s).executing
unfolding tick
executing_in S arrived s = refl

-- the state in which the instruction of tick n is executed
pub executing_is : (S : System) (mode : ℕ) (arrivals : List Arrival) (n : ℕ) → (run S mode arrivals n).state.over ≡ false
    → (before_execution S (arriving arrivals n) (run S mode arrivals n).state).state ≡ (step_at S mode arrivals n).executing
executing_is S mode arrivals n going =
    executing_in S (arriving arrivals n) (run S mode arrivals n).state
    ∙ ap (λ t. (tick S (arriving arrivals t) (run S mode arrivals n).state).executing) (sym (run_tick S mode arrivals n going))
