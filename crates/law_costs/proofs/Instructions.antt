-- What costs have to pay for the instructions of a run: by who executes, and whoever does.
use Rattle.std.specs.Prelude.{ℕ, suc, ◌+◌, ◌≡◌, ◌≤◌, true, false, List}
use Rattle.osek_base.specs.declared.arrivals.Arrival.{Arrival}
use Rattle.osek_base.specs.Service.{JobCalls, RoutineCalls}
use Rattle.osek_base.specs.State.{Active, Job, State}
use Rattle.osek_base.specs.System.{System}
use Rattle.osek_base.specs.Tick.{execute_phase, executor}
use Rattle.osek_base.specs.Trace.{run}
use Rattle.law_windows.specs.Work.{has_work_after, is_busy}
use Rattle.law_costs.specs.Left.{Weights, left}
use Rattle.law_costs.specs.Known.{at_instruction}
use Rattle.law_costs.specs.Routines.{RoutinePaysIn}
use Rattle.law_costs.specs.Jobs.{PaysIn}
use Rattle.law_costs.proofs.Starts.{StartsPay}

-- the state behind the instruction of tick n
abbrev pub behind_instruction : System → ℕ → List Arrival → ℕ → State
behind_instruction S mode arrivals n =
    (execute_phase S (at_instruction S mode arrivals n)).state

-- for activations and events, and for each instruction of a job and of a routine
abbrev pub PayForRunStarts : System → ℕ → List Arrival → ℕ → Weights → Type 0
PayForRunStarts S mode arrivals p c =
    (n : ℕ) → (run S mode arrivals n).state.over ≡ false
    → StartsPay S p c (at_instruction S mode arrivals n)

abbrev pub PayForRunJobs : System → ℕ → List Arrival → ℕ → Weights → Type 0
PayForRunJobs S mode arrivals p c =
    (n : ℕ) (j : Job) → (run S mode arrivals (suc n)).state.over ≡ false
    → executor (at_instruction S mode arrivals n) ≡ JobCalls j
    → PaysIn S p c (at_instruction S mode arrivals n) j

abbrev pub PayForRunRoutines : System → ℕ → List Arrival → ℕ → Weights → Type 0
PayForRunRoutines S mode arrivals p c =
    (n : ℕ) (a : Active) → (run S mode arrivals (suc n)).state.over ≡ false
    → executor (at_instruction S mode arrivals n) ≡ RoutineCalls a
    → RoutinePaysIn S p c (at_instruction S mode arrivals n) a

-- for each instruction
pub record PayForInstructions (S : System) (mode : ℕ) (arrivals : List Arrival) (p : ℕ)
    (c : Weights) : Type 0 where
  -- where work of the level stands behind a busy tick, its instruction leaves one less at least,
  -- with all that it starts
  pub busy : (n : ℕ) → (run S mode arrivals (suc n)).state.over ≡ false
      → is_busy S mode arrivals p n ≡ true → has_work_after S mode arrivals p (suc n) ≡ true
      → left S p c (behind_instruction S mode arrivals n) + 1
      ≤ left S p c (at_instruction S mode arrivals n)
  -- behind another tick, no more than may be where a window begins
  pub begun : (n : ℕ) → (run S mode arrivals (suc n)).state.over ≡ false
      → is_busy S mode arrivals p n ≡ false → has_work_after S mode arrivals p (suc n) ≡ true
      → left S p c (behind_instruction S mode arrivals n) ≤ c.costs.at_begin
  -- and so much is left behind any tick behind which no work stands: a section of a lower job, or
  -- a lower routine
  pub ended : (n : ℕ) → (run S mode arrivals (suc n)).state.over ≡ false
      → has_work_after S mode arrivals p (suc n) ≡ false
      → left S p c (run S mode arrivals (suc n)).state ≤ c.costs.at_begin
