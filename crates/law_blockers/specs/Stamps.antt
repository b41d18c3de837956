-- Since which tick each job is ready, where it hasn't executed since.
use Rattle.std.specs.Prelude.{ℕ, zero, suc, Bool, nat_lt, if◌then◌else◌, List, map, Option, Some, None}
use Rattle.std.specs.Option.{option_map, option_or}
use Rattle.std.specs.List.{list_any}
use Rattle.osek_base.specs.Lists.{below}
use Rattle.osek_base.specs.declared.arrivals.Arrival.{Arrival}
use Rattle.osek_base.specs.System.{System, priority_of}
use Rattle.osek_base.specs.State.{Job, JobId, State, still, jobs_of}
use Rattle.osek_base.specs.Blocker.{becomes_ready, executing_job, is_number}
use Rattle.osek_base.specs.Trace.{boot, run}
use Rattle.law_runs.proofs.Counting.{one_if}
use Rattle.law_runs.proofs.Between.{at_level}
use Rattle.law_blockers.specs.Steps.{step_at}

-- of each job, the first tick whose instruction comes behind the moment at which it became ready, while it hasn't executed
abbrev pub Stamps : Type 0
Stamps = JobId → Option ℕ

abbrev pub stamp_where : Bool → ℕ → Option ℕ
stamp_where b u = if b then Some u else None

-- a job that becomes ready between two states, and has no stamp, gets one
abbrev pub stamped : State → State → ℕ → Stamps → Stamps
stamped old new u p n = option_or (p n) (stamp_where (becomes_ready old new n) u)

-- the job that executes has none
abbrev pub spent : Option Job → Stamps → Stamps
spent e p n = if is_number n e then None else p n

-- at the instruction of a tick, by those before it
abbrev pub stamps_in : System → ℕ → List Arrival → ℕ → Stamps → Stamps
stamps_in S mode arrivals t p = stamped (run S mode arrivals t).state (step_at S mode arrivals t).executing t p

-- after so many ticks
abbrev pub stamps_of : System → ℕ → List Arrival → ℕ → Stamps
stamps_of S mode arrivals zero = stamped (still S) (boot S mode).state 0 (λ n. None)
stamps_of S mode arrivals (suc t) =
    stamped (step_at S mode arrivals t).executing (step_at S mode arrivals t).after (suc t)
    (spent (executing_job (step_at S mode arrivals t)) (stamps_in S mode arrivals t (stamps_of S mode arrivals t)))

-- of each static priority, the tick after the last one in which a job of it executed, 0 where there was none
abbrev pub levels_of : System → ℕ → List Arrival → ℕ → ℕ → ℕ
levels_of S mode arrivals zero l = 0
levels_of S mode arrivals (suc t) l =
    if at_level S l (step_at S mode arrivals t) then suc t else levels_of S mode arrivals t l

-- one where a job of lower static priority than a task's executed since a tick, else none
abbrev pub count_by : System → (ℕ → ℕ) → ℕ → ℕ → ℕ
count_by S last t u = one_if (list_any (λ l. nat_lt u (last l)) (below (priority_of S t)))

-- how many blockers a job had, where it has a stamp
abbrev pub blockers_by : System → (ℕ → ℕ) → Stamps → Option Job → Option ℕ
blockers_by S last p None = None
blockers_by S last p (Some j) = option_map (count_by S last j.id.task) (p j.id)

-- ---- the stamps of a task's jobs, oldest first

abbrev pub listed : Stamps → ℕ → List Job → List (Option ℕ)
listed p t jobs = map (λ j. p j.id) (jobs_of t jobs)
