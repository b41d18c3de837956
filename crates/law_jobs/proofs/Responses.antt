-- A response that figures count is that of the job that executes.
use Rattle.std.proofs.Common.{◌≡◌, ℕ, suc, ◌<◌, Bool, true, false, cond, ◌||◌, List, [], ◌∷◌, length, refl, sym, ◌∙◌, ap, subst}
use Rattle.std.specs.Prelude.{Option, Some, None, ◌==◌}
use Rattle.std.specs.List.{AllByRecursion}
use Rattle.std.proofs.lemmas.List.Folds.{list_any-append}
use Rattle.osek_base.specs.declared.arrivals.Arrival.{Arrival}
use Rattle.osek_base.specs.Blocker.{calling_job}
use Rattle.osek_base.specs.Proper.{IsProper}
use Rattle.osek_base.specs.Service.{Caller, JobCalls, NobodyCalls, RoutineCalls}
use Rattle.osek_base.specs.State.{Job, JobId, State, same_id}
use Rattle.osek_base.specs.System.{System}
use Rattle.osek_base.specs.Tick.{executor}
use Rattle.osek_base.specs.Trace.{run}
use Rattle.law_runs.proofs.Foremost.{same_ids, same_self, self_equal}
use Rattle.law_runs.proofs.Known.{IsCaller, IsRunningCaller, executor_calls}
use Rattle.law_runs.proofs.Lists.{clash, none_some}
use Rattle.law_runs.proofs.RankedTick.{IsExecuting}
use Rattle.law_blockers.specs.Steps.{step_at}
use Rattle.view_figures.specs.StateSums.{leaves}
use Rattle.law_figures.specs.Ages.{ages, leaving_age, oldest_age}
use Rattle.law_figures.specs.RunFigures.{label_before, task_ticks}
use Rattle.law_jobs.specs.Ending.{IsOldestJob, IsResponse, ResponsesAreOfJobs}
use Rattle.law_jobs.specs.ReadySince.{IsAge}
use Rattle.law_jobs.specs.Standing.{behind, standing, stands_in}
use Rattle.law_jobs.proofs.Calling.{runs_there}
use Rattle.law_jobs.proofs.Ending.{oldest_is_job}
use Rattle.law_jobs.proofs.Executing.{IsJobOf}
use Rattle.law_jobs.proofs.Lists.{is_among, is_there}
use Rattle.law_jobs.proofs.Members.{stands_among}
use Rattle.law_jobs.proofs.Moving.{Moves, runner_first, runner_once}
use Rattle.law_jobs.proofs.Ticking.{executing_good, run_leaver, run_moves}

-- an id that is in one list isn't in another whose ids aren't
apart_from : (ids fresh : List JobId) (n : JobId) → is_among ids n ≡ true
    → AllByRecursion (λ m. is_among ids m ≡ false) fresh → is_among fresh n ≡ false
apart_from ids [] n there all = refl
apart_from ids (m ∷ fresh) n there all = go (same_id m n) refl (apart_from ids fresh n there all.1)
  where
    go : (b : Bool) → same_id m n ≡ b → is_among fresh n ≡ false → (b || is_among fresh n) ≡ false
    go true same rest =
        clash (sym there ∙ ap (is_among ids) (sym (same_ids m n same)) ∙ all.0)
    go false other rest = rest

leaving_parts : (b : Bool) (o : Option ℕ) (age : ℕ) → cond b o None ≡ Some age
    → (b ≡ true) × (o ≡ Some age)
leaving_parts true o age h = (refl, h)
leaving_parts false o age h = absurd (none_some age h)

first_same : (ids : List JobId) (a b : JobId) → ids ≡ a ∷ behind ids → ids ≡ b ∷ behind ids → a ≡ b
first_same ids a b one two = ap first (sym one ∙ two)
  where
    first : List JobId → JobId
    first [] = a
    first (n ∷ ns) = n

module _ (S : System) (mode : ℕ) (arrivals : List Arrival) (n k age : ℕ) (proper : IsProper S)
    (going : (run S mode arrivals n).state.over ≡ false) (known : k < length S.tasks) where
  abbrev at : State
  at = (step_at S mode arrivals n).executing

  good : IsExecuting S proper at
  good = executing_good S mode arrivals n k proper going known

  job_left : (j : Job) → IsRunningCaller at j → j.id.task ≡ k
      → leaves (task_ticks S mode arrivals k n) ≡ true
      → stands_in (run S mode arrivals (suc n)).state j.id ≡ false
  job_left j calls of leaving =
      stands_among (run S mode arrivals (suc n)).state k j.id own
      (ap (λ ids. is_among ids j.id) moves.is
      ∙ list_any-append (λ m. same_id m j.id) (behind (standing k at.jobs)) moves.fresh
      ∙ ap (λ b. b || is_among moves.fresh j.id)
      (runner_once S at good.good.single good.good.ordered.ready j.id calls.runs there k own)
      ∙ apart_from (standing k at.jobs) moves.fresh j.id among moves.apart)
    where
      own : (j.id.task == k) ≡ true
      own = ap (λ t. t == k) of ∙ self_equal k

      there : is_there j.id at.jobs ≡ true
      there = runs_there S at good.good.single good.good.ordered.ready j calls

      moves : Moves k true at.jobs (run S mode arrivals (suc n)).state.jobs
      moves =
          subst (λ b. Moves k b at.jobs (run S mode arrivals (suc n)).state.jobs) leaving
          (run_moves S mode arrivals n k proper going known)

      among : is_among (standing k at.jobs) j.id ≡ true
      among =
          ap (λ ids. is_among ids j.id)
          (runner_first S at good.good.single good.good.ordered.ready j.id calls.runs there k own)
          ∙ rw (same_self j.id) refl

  of_caller : (c : Caller) → executor at ≡ c → IsCaller at c → IsJobOf k c
      → leaves (task_ticks S mode arrivals k n) ≡ true
      → IsOldestJob S mode arrivals n k age → IsResponse S mode arrivals n k age
  of_caller (JobCalls j) is calls of leaving oldest =
      let own : (j.id.task == k) ≡ true = ap (λ t. t == k) of ∙ self_equal k in
      let first : standing k at.jobs ≡ j.id ∷ behind (standing k at.jobs) =
      runner_first S at good.good.single good.good.ordered.ready j.id calls.runs
      (runs_there S at good.good.single good.good.ordered.ready j calls) k own in
      record {
        job = j;
        executes = ap calling_job is;
        task = of;
        first = first;
        old =
            subst (λ i. IsAge S mode arrivals n i age)
            (first_same (standing k at.jobs) oldest.job j.id oldest.first first) oldest.old;
        left = job_left j calls of leaving;
      }
  of_caller (RoutineCalls a) is calls of leaving oldest = absurd of
  of_caller NobodyCalls is calls of leaving oldest = absurd of

  pub response_of : leaving_age (task_ticks S mode arrivals k n)
      (label_before ages (task_ticks S mode arrivals k) n) ≡ Some age
      → IsResponse S mode arrivals n k age
  response_of shows =
      let parts : (leaves (task_ticks S mode arrivals k n) ≡ true)
      × (oldest_age (task_ticks S mode arrivals k n)
      (label_before ages (task_ticks S mode arrivals k) n) ≡ Some age) =
      leaving_parts (leaves (task_ticks S mode arrivals k n))
      (oldest_age (task_ticks S mode arrivals k n)
      (label_before ages (task_ticks S mode arrivals k) n)) age shows in
      of_caller (executor at) refl (executor_calls at)
      (run_leaver S mode arrivals n k proper going known parts.0) parts.0
      (oldest_is_job S mode arrivals n k age proper going known parts.1)

pub responses_are_of_jobs : ResponsesAreOfJobs
responses_are_of_jobs S mode arrivals n k age proper going known =
    response_of S mode arrivals n k age proper going known
