-- The job that executes loses its stamp.
use Rattle.std.proofs.Common.{◌≡◌, ℕ, Bool, true, false, cond, List, map, length, refl, sym, ◌∙◌, ap, subst}
use Rattle.std.specs.Prelude.{Option, Some, None, ◌==◌}
use Rattle.std.specs.List.{AllByRecursion}
use Rattle.osek_base.specs.System.{System}
use Rattle.osek_base.specs.State.{Job, JobId, State, same_id, jobs_of}
use Rattle.osek_base.specs.Blocker.{calling_job}
use Rattle.osek_base.specs.Service.{Caller, JobCalls, RoutineCalls, NobodyCalls}
use Rattle.law_runs.proofs.Lists.{all_weaker}
use Rattle.law_runs.proofs.Foremost.{equal, same_self}
use Rattle.law_runs.proofs.Known.{IsCaller, IsRunningCaller}
use Rattle.law_runs.proofs.Single.{IsSoundJob}
use Rattle.law_kept.specs.KeptService.{KeptCaller, ByTask, ByRoutine, ByNobody, kept_caller}
use Rattle.law_kept.proofs.Parts.{IsOldest}
use Rattle.law_kept.proofs.JobMoves.{IsFresh, IsLater, others_later, elsewhere}
use Rattle.law_kept.proofs.Settled.{IsSettled, Stands, stands_oldest}
use Rattle.kernel_stamps.specs.Stamps.{spent_oldest}
use Rattle.law_blockers.specs.Stamps.{Stamps, spent, listed}
use Rattle.law_blockers.specs.Restamping.{StampLists, stamps_at, spent_of}
use Rattle.law_blockers.proofs.ReadyLemmas.{map_same}
use Rattle.law_blockers.proofs.ListLemmas.{changed_any, changed_count}
use Rattle.law_runs.proofs.SingleMoves.{other_way}

-- ---- the job that executes

-- what is known of the other jobs of the task of a job that stands
pub others_apart : (S : System) (s : State) (n : JobId) → IsSettled S s → (o : IsOldest n s.jobs)
    → AllByRecursion (λ k. same_id k.id n ≡ false) o.others
others_apart S s n settled o =
    all_weaker (λ k. IsLater k × (same_id k.id n ≡ false)) (λ k. same_id k.id n ≡ false) o.others (λ k h. h.1)
    (others_later S s.made n s.jobs settled.single.each
    (all_weaker (IsSoundJob S s.made) IsFresh s.jobs (λ j h. h.fresh) settled.single.each) settled.single.pairs o)

-- what becomes of the stamps of one task
abbrev pub spent_here : KeptCaller → ℕ → List (Option ℕ) → List (Option ℕ)
spent_here (ByTask t) v list = cond (t == v) (spent_oldest list) list
spent_here ByRoutine v list = list
spent_here ByNobody v list = list

pub spent_at : (d : KeptCaller) (xs : StampLists) (v : ℕ) → stamps_at (spent_of d xs) v ≡ spent_here d v (stamps_at xs v)
spent_at (ByTask t) xs v = changed_any spent_oldest refl xs t v
spent_at ByRoutine xs v = refl
spent_at ByNobody xs v = refl

pub spent_many : (d : KeptCaller) (xs : StampLists) → length (spent_of d xs) ≡ length xs
spent_many (ByTask t) xs = changed_count spent_oldest xs t
spent_many ByRoutine xs = refl
spent_many ByNobody xs = refl

module _ (S : System) (s : State) (settled : IsSettled S s) (p : Stamps) where
  others_keep : (j : Job) (js : List Job) → AllByRecursion (λ k. same_id k.id j.id ≡ false) js
      → map (λ k. spent (Some j) p k.id) js ≡ map (λ k. p k.id) js
  others_keep j js all =
      map_same (λ k. spent (Some j) p k.id) (λ k. p k.id) js
      (all_weaker (λ k. same_id k.id j.id ≡ false) (λ k. spent (Some j) p k.id ≡ p k.id) js
      (λ k h. ap (λ b. cond b None (p k.id)) (other_way S k.id j.id h)) all)

  spent_job : (j : Job) → IsRunningCaller s j → (v : ℕ)
      → listed (spent (Some j) p) v s.jobs ≡ cond (j.id.task == v) (spent_oldest (listed p v s.jobs)) (listed p v s.jobs)
  spent_job j calls v = go (j.id.task == v) refl
    where
      stands : Stands s j.id
      stands = (j, calls.runs, calls.found)

      o : IsOldest j.id s.jobs
      o = stands_oldest S s j.id settled stands

      first : spent (Some j) p o.job.id ≡ None
      first = ap (λ b. cond b None (p o.job.id)) (ap (same_id j.id) o.id ∙ same_self j.id)

      here : listed (spent (Some j) p) j.id.task s.jobs ≡ spent_oldest (listed p j.id.task s.jobs)
      here =
          ap (map (λ k. spent (Some j) p k.id)) o.is
          ∙ rw (first, others_keep j o.others (others_apart S s j.id settled o)) refl
          ∙ sym (ap (λ js. spent_oldest (map (λ k. p k.id) js)) o.is)

      go : (b : Bool) → (j.id.task == v) ≡ b
          → listed (spent (Some j) p) v s.jobs ≡ cond b (spent_oldest (listed p v s.jobs)) (listed p v s.jobs)
      go true h =
          subst (λ t. listed (spent (Some j) p) t s.jobs ≡ spent_oldest (listed p t s.jobs)) (equal j.id.task v h) here
      go false h = others_keep j (jobs_of v s.jobs) (elsewhere S j.id s.jobs v h)

  pub spent_listed : (c : Caller) → IsCaller s c → (v : ℕ)
      → listed (spent (calling_job c) p) v s.jobs ≡ spent_here (kept_caller c) v (listed p v s.jobs)
  spent_listed (JobCalls j) calls v = spent_job j calls v
  spent_listed (RoutineCalls a) calls v = refl
  spent_listed NobodyCalls calls v = refl

  -- ids that weren't given out still have no stamp
  pub spent_new : (c : Caller) (n : JobId) → p n ≡ None → spent (calling_job c) p n ≡ None
  spent_new (JobCalls j) n none = go (same_id j.id n)
    where
      go : (b : Bool) → cond b None (p n) ≡ None
      go true = refl
      go false = none
  spent_new (RoutineCalls a) n none = none
  spent_new NobodyCalls n none = none
