-- OSEK/VDX OS: resource management. Since which tick a job holds a resource, and for how long.
use Rattle.std.specs.Prelude.{ℕ, suc, ◌≡◌, ◌<◌, ◌≤◌, ◌+◌, Bool, true, false, ◌&&◌, List, Option, Some}
use Rattle.std.specs.List.{list_any}
use Rattle.osek_base.specs.declared.arrivals.Arrival.{Arrival}
use Rattle.osek_base.specs.declared.ids.ResId.{ResId}
use Rattle.osek_base.specs.Proper.{IsProper}
use Rattle.osek_base.specs.Service.{holds}
use Rattle.osek_base.specs.State.{JobId, State, same_id}
use Rattle.osek_base.specs.System.{System}
use Rattle.osek_base.specs.Trace.{run}
use Rattle.law_blockers.specs.Steps.{step_at}
use Rattle.law_future.specs.Spans.{resource_of}
use Rattle.view_figures.specs.FigureSums.{held_count}
use Rattle.law_figures.specs.Holding.{held_ticks, holding}
use Rattle.law_figures.specs.RunFigures.{holder_ticks, label_before}

-- whether the job of that id holds a resource
abbrev pub holds_in : State → ResId → JobId → Bool
holds_in s r n = list_any (λ j. same_id j.id n && holds j r) s.jobs

-- at the instruction of tick i, where it is seen who holds what; RES_SCHEDULER stands behind the
-- declared resources
abbrev pub holds_at : System → ℕ → List Arrival → ℕ → JobId → ℕ → Bool
holds_at S mode arrivals r n i =
    holds_in (step_at S mode arrivals i).executing (resource_of S r) n

-- a job holds resource r at the instruction of each tick from `since` to n, and not at that of the
-- tick before, which is the one that gets it
pub record IsHeldSince (S : System) (mode : ℕ) (arrivals : List Arrival) (n r : ℕ) (job : JobId)
    (since : ℕ) : Type 0 where
  pub past : since ≤ n
  pub holds : (i : ℕ) → since ≤ i → i ≤ n → holds_at S mode arrivals r job i ≡ true
  pub first : (i : ℕ) → since ≡ suc i → holds_at S mode arrivals r job i ≡ false

-- a job of the task that is seen as the holder holds it for so many ticks, both counted
pub record IsHold (S : System) (mode : ℕ) (arrivals : List Arrival) (n r held : ℕ) : Type 0 where
  pub job : JobId
  pub holder : (holder_ticks S mode arrivals r n).holder ≡ Some job.task
  pub since : ℕ
  pub holds : IsHeldSince S mode arrivals n r job since
  pub both : held + since ≡ suc n

-- ---- the law

-- for how many ticks figures find a resource held in tick n
abbrev pub held_for : System → ℕ → List Arrival → ℕ → ℕ → Option ℕ
held_for S mode arrivals r n =
    held_ticks (holder_ticks S mode arrivals r n)
    (label_before holding (holder_ticks S mode arrivals r) n)

-- one job has held it for so long; and a job that holds it since a tick is that one
pub record AreHoldsOfJobs (S : System) (mode : ℕ) (arrivals : List Arrival) (n r : ℕ)
    : Type 0 where
  pub seen : (held : ℕ) → held_for S mode arrivals r n ≡ Some held
      → IsHold S mode arrivals n r held
  pub told : (job : JobId) (since held : ℕ) → IsHeldSince S mode arrivals n r job since
      → held + since ≡ suc n → held_for S mode arrivals r n ≡ Some held
  pub holder : (job : JobId) (since : ℕ) → IsHeldSince S mode arrivals n r job since
      → (holder_ticks S mode arrivals r n).holder ≡ Some job.task

abbrev pub HoldsAreOfJobs : Type 0
HoldsAreOfJobs =
    (S : System) (mode : ℕ) (arrivals : List Arrival) (n r : ℕ) → IsProper S
    → (run S mode arrivals n).state.over ≡ false → r < held_count S
    → AreHoldsOfJobs S mode arrivals n r
