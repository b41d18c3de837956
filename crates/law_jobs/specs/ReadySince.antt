-- OSEK/VDX OS: task management. Since which tick a job is ready, and how old a task's jobs are.
use Rattle.std.specs.Prelude.{ℕ, suc, ◌≡◌, ◌<◌, ◌≤◌, ◌+◌, true, false, ◌&&◌, List, [], ◌∷◌, length}
use Rattle.osek_base.specs.declared.arrivals.Arrival.{Arrival}
use Rattle.osek_base.specs.Blocker.{is_ready_from}
use Rattle.osek_base.specs.Proper.{IsProper}
use Rattle.osek_base.specs.State.{JobId}
use Rattle.osek_base.specs.System.{System}
use Rattle.osek_base.specs.Trace.{boot, run}
use Rattle.law_blockers.specs.Steps.{step_at}
use Rattle.law_figures.specs.Ages.{ages, ages_in}
use Rattle.law_figures.specs.RunFigures.{label_before, task_ticks}
use Rattle.law_jobs.specs.Standing.{standing, stands_in}

-- at the instruction of tick n a job has been READY or RUNNING since that of a tick, and neither
-- waited nor was gone between
pub record IsReadySince (S : System) (mode : ℕ) (arrivals : List Arrival) (n : ℕ) (job : JobId)
    (since : ℕ) : Type 0 where
  pub past : since ≤ n
  -- in each tick from then on, and before each that follows
  pub stands : (i : ℕ) → since ≤ i → i ≤ n
      → stands_in (step_at S mode arrivals i).executing job ≡ true
  pub between : (i : ℕ) → since < i → i ≤ n → stands_in (run S mode arrivals i).state job ≡ true
  -- and in the tick before it wasn't, or it began to wait then
  pub first : (i : ℕ) → since ≡ suc i
      → (stands_in (step_at S mode arrivals i).executing job
      && stands_in (run S mode arrivals since).state job) ≡ false
  -- so it became ready before the instruction of that tick, and not before that of the one before
  pub becomes
      : is_ready_from S (boot S mode).state (run S mode arrivals (suc since)).steps since job ≡ true

-- for so many ticks it is ready, both counted
pub record IsAge (S : System) (mode : ℕ) (arrivals : List Arrival) (n : ℕ) (job : JobId) (age : ℕ)
    : Type 0 where
  pub since : ℕ
  pub ready : IsReadySince S mode arrivals n job since
  pub both : age + since ≡ suc n

-- jobs are so old, one by one
abbrev pub AreAges : System → ℕ → List Arrival → ℕ → List JobId → List ℕ → Type 0
AreAges S mode arrivals n [] [] = Unit {0}
AreAges S mode arrivals n [] (age ∷ old) = ⊥
AreAges S mode arrivals n (job ∷ jobs) [] = ⊥
AreAges S mode arrivals n (job ∷ jobs) (age ∷ old) =
    IsAge S mode arrivals n job age × AreAges S mode arrivals n jobs old

-- ---- the law

-- the ages by which figures go are those of the task's jobs that stand, oldest first
abbrev pub AgesAreOfJobs : Type 0
AgesAreOfJobs =
    (S : System) (mode : ℕ) (arrivals : List Arrival) (n k : ℕ) → IsProper S
    → (run S mode arrivals n).state.over ≡ false → k < length S.tasks
    → AreAges S mode arrivals n (standing k (step_at S mode arrivals n).executing.jobs)
    (ages_in (task_ticks S mode arrivals k n)
    (label_before ages (task_ticks S mode arrivals k) n))
