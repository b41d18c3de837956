-- OSEK/VDX OS: task management, task state model. The jobs of a task that stand: READY or RUNNING.
use Rattle.std.specs.Prelude.{ℕ, Bool, not, ◌&&◌, List, [], ◌∷◌, map}
use Rattle.std.specs.List.{filter}
use Rattle.osek_base.specs.Blocker.{is_in_state, waits_in}
use Rattle.osek_base.specs.Reschedule.{id_of}
use Rattle.osek_base.specs.State.{Job, JobId, State, jobs_of, waits}

-- whether the job of that id is READY or RUNNING
abbrev pub stands_in : State → JobId → Bool
stands_in s n = is_in_state s n && not (waits_in s n)

abbrev pub stands : Job → Bool
stands j = not (waits j)

-- the ids of a task's jobs that are, oldest first
abbrev pub standing : ℕ → List Job → List JobId
standing k jobs = map id_of (filter stands (jobs_of k jobs))

-- those behind the oldest
abbrev pub behind : List JobId → List JobId
behind [] = []
behind (n ∷ ids) = ids
