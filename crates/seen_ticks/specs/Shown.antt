-- OSEK/VDX OS: task management, task state model. What is seen of the state of a run.
use Rattle.std.specs.Prelude.{ℕ, Bool, false, Option, Some, None, length}
use Rattle.std.specs.List.{find}
use Rattle.osek_base.specs.declared.ids.ResId.{ResId}
use Rattle.osek_base.specs.Lists.{below}
use Rattle.osek_base.specs.System.{System}
use Rattle.osek_base.specs.State.{Job, State, jobs_of}
use Rattle.osek_base.specs.Service.{holds}
use Rattle.osek_base.specs.Separable.{first_of_list}

-- the oldest job of a task, the one that is begun or begins next
abbrev pub oldest_job : State → ℕ → Option Job
oldest_job s t = first_of_list (jobs_of t s.jobs)

-- whether a job holds a resource
abbrev pub is_held_by : ResId → Option Job → Bool
is_held_by r None = false
is_held_by r (Some j) = holds j r

-- the first task whose oldest job holds a resource
abbrev pub holder : System → State → ResId → Option ℕ
holder S s r = find (λ t. is_held_by r (oldest_job s t)) (below (length S.tasks))
