-- OSEK/VDX OS: task management. To which job a response belongs, and how long jobs are ready.
use Rattle.std.specs.Prelude.{ℕ, suc, ◌≡◌, ◌<◌, ◌+◌, ◌-◌, ◌^◌, false, List, [], ◌∷◌, Some, length, slice_index_or}
use Rattle.osek_base.specs.declared.arrivals.Arrival.{Arrival}
use Rattle.osek_base.specs.Proper.{IsProper}
use Rattle.osek_base.specs.Blocker.{executing_job}
use Rattle.osek_base.specs.State.{Job, JobId}
use Rattle.osek_base.specs.System.{System}
use Rattle.osek_base.specs.Trace.{run}
use Rattle.law_blockers.specs.Steps.{step_at}
use Rattle.view_figures.specs.FigureSums.{RunFigures, task_figures}
use Rattle.law_figures.specs.Ages.{ages, leaving_age, oldest_age}
use Rattle.law_figures.specs.Labels.{IsWithin}
use Rattle.law_figures.specs.RunFigures.{AreRunFigures, label_before, task_ticks}
use Rattle.law_figures.specs.Times.{response_time}
use Rattle.law_jobs.specs.ReadySince.{IsAge, IsReadySince}
use Rattle.law_jobs.specs.Standing.{behind, standing, stands_in}

-- the oldest job of a task that is READY or RUNNING in tick n has been so for so many ticks
pub record IsOldestJob (S : System) (mode : ℕ) (arrivals : List Arrival)
    (n k age : ℕ) : Type 0 where
  pub job : JobId
  pub first : standing k (step_at S mode arrivals n).executing.jobs
      ≡ job ∷ behind (standing k (step_at S mode arrivals n).executing.jobs)
  pub old : IsAge S mode arrivals n job age

-- the oldest by the figures is the oldest job
abbrev pub OldestIsJob : Type 0
OldestIsJob =
    (S : System) (mode : ℕ) (arrivals : List Arrival) (n k age : ℕ) → IsProper S
    → (run S mode arrivals n).state.over ≡ false → k < length S.tasks
    → oldest_age (task_ticks S mode arrivals k n)
    (label_before ages (task_ticks S mode arrivals k) n)
    ≡ Some age
    → IsOldestJob S mode arrivals n k age

-- the job that executes the instruction of tick n is the oldest of its task, has been ready for so
-- many ticks, and behind the instruction is neither READY nor RUNNING: it ended, or waits
pub record IsResponse (S : System) (mode : ℕ) (arrivals : List Arrival)
    (n k age : ℕ) : Type 0 where
  pub job : Job
  pub executes : executing_job (step_at S mode arrivals n) ≡ Some job
  pub task : job.id.task ≡ k
  pub first : standing k (step_at S mode arrivals n).executing.jobs
      ≡ job.id ∷ behind (standing k (step_at S mode arrivals n).executing.jobs)
  pub old : IsAge S mode arrivals n job.id age
  pub left : stands_in (run S mode arrivals (suc n)).state job.id ≡ false

-- what figures count as a response in a tick is that of the job that executes
abbrev pub ResponsesAreOfJobs : Type 0
ResponsesAreOfJobs =
    (S : System) (mode : ℕ) (arrivals : List Arrival) (n k age : ℕ) → IsProper S
    → (run S mode arrivals n).state.over ≡ false → k < length S.tasks
    → leaving_age (task_ticks S mode arrivals k n)
    (label_before ages (task_ticks S mode arrivals k) n)
    ≡ Some age
    → IsResponse S mode arrivals n k age

-- in n ticks of a run no job is ready for longer than the longest time of its task is: one that is
-- ready since a tick isn't READY or RUNNING in the tick so many ticks later, nor in a later one
pub record EndWithin (S : System) (mode : ℕ) (arrivals : List Arrival) (n : ℕ) (f : RunFigures)
    : Type 0 where
  pub jobs : (k m : ℕ) → k < length S.tasks → m < 2 ^ 32 - 1
      → IsWithin m (response_time f.last (slice_index_or f.tasks k (task_figures [])).responses)
      → (i since : ℕ) (job : JobId) → i < n → job.task ≡ k
      → IsReadySince S mode arrivals i job since → i < since + m

abbrev pub JobsEndWithin : Type 0
JobsEndWithin =
    (S : System) (mode : ℕ) (arrivals : List Arrival) (n : ℕ) (f : RunFigures)
    → AreRunFigures S mode arrivals n f → EndWithin S mode arrivals n f
