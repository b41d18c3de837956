-- What two states that are one from above show of a job of an upper task: whether it is there,
-- waits, runs, and executes.
use Rattle.std.proofs.Common.{◌≡◌, ℕ, Bool, true, false, cond, not, ◌&&◌, ◌||◌, List, refl, sym, ◌∙◌, ap}
use Rattle.std.specs.Prelude.{Option, Some, None, is_some}
use Rattle.std.specs.Option.{option_map}
use Rattle.osek_base.specs.declared.ids.Owner.{Owner}
use Rattle.osek_base.specs.Blocker.{becomes_ready, calling_job, is_in_state, is_job, is_number, is_waiting_job, runs_in, waits_in}
use Rattle.osek_base.specs.Service.{Caller, JobCalls, NobodyCalls, RoutineCalls}
use Rattle.osek_base.specs.State.{Active, Job, JobId, State, job_of, same_id}
use Rattle.osek_base.specs.System.{System}
use Rattle.osek_base.specs.Tick.{executor, job_caller, running_caller}
use Rattle.osek_base.proofs.ForemostLemmas.{keep}
use Rattle.law_runs.proofs.Foremost.{self_equal}
use Rattle.law_runs.proofs.Lists.{all_any, clash, found, none_some, some_inside}
use Rattle.partition_check.proofs.JobsUp.{job_of_up, same_id_upper}
use Rattle.partition_check.proofs.Shared.{IsLayered, IsLayeredJob}
use Rattle.partition_check.proofs.UpperState.{is_upper_id, is_upper_job, up, up_job, up_jobs}
use Rattle.law_upper.specs.StatesAbove.{is_caller}

-- the job that executes in a state, if one does
abbrev pub executing_in : State → Option Job
executing_in s = calling_job (executor s)

called : (o : Option Job) → calling_job (job_caller o) ≡ o
called None = refl
called (Some j) = refl

pub caller_is : (c : Caller) (k : Job) → calling_job c ≡ Some k
    → is_caller (Owner.Task k.id.task) c ≡ true
caller_is (JobCalls j) k is =
    ap (λ (x : Job). is_caller (Owner.Task k.id.task) (JobCalls x)) (some_inside j k is)
    ∙ self_equal k.id.task
caller_is (RoutineCalls a) k is = absurd (none_some k is)
caller_is NobodyCalls k is = absurd (none_some k is)

-- ---- one system

module _ (S : System) (p : ℕ) where
  id_is : (r : JobId) (jobs : List Job) (j : Job) → job_of r jobs ≡ Some j
      → is_upper_job S p j ≡ is_upper_id S p r
  id_is r jobs j e =
      same_id_upper S p j.id r
      (found (λ (k : Job). Unit {0}) (λ k. same_id k.id r) jobs j
      (all_any (λ (k : Job). Unit {0}) jobs (λ k. tt)) e).1

  kept_upper : (r : JobId) (jobs : List Job) (b : Bool) → is_upper_id S p r ≡ b → (o : Option Job)
      → job_of r jobs ≡ o → keep (is_upper_job S p) o ≡ cond b o None
  kept_upper r jobs true h None e = refl
  kept_upper r jobs false h None e = refl
  kept_upper r jobs b h (Some j) e =
      ap (λ (c : Bool). cond c (Some j) None) (id_is r jobs j e ∙ h)

  -- seen from above the job executes that does so, if it is upper
  pub executing_up : (s : State)
      → executing_in (up S p s) ≡ option_map (up_job S p) (keep (is_upper_job S p) (executing_in s))
  executing_up s = go s.active
    where
      of : (r : JobId) (b : Bool) → is_upper_id S p r ≡ b
          → calling_job (running_caller (cond b (Some r) None) (up_jobs S p s.jobs))
          ≡ option_map (up_job S p)
          (keep (is_upper_job S p) (calling_job (job_caller (job_of r s.jobs))))
      of r true h =
          called (job_of r (up_jobs S p s.jobs))
          ∙ job_of_up S p r s.jobs h
          ∙ sym (ap (option_map (up_job S p)) (kept_upper r s.jobs true h (job_of r s.jobs) refl))
          ∙ sym (ap (λ o. option_map (up_job S p) (keep (is_upper_job S p) o))
          (called (job_of r s.jobs)))
      of r false h =
          sym (ap (λ o. option_map (up_job S p) (keep (is_upper_job S p) o))
          (called (job_of r s.jobs))
          ∙ ap (option_map (up_job S p)) (kept_upper r s.jobs false h (job_of r s.jobs) refl))

      by : (o : Option JobId)
          → calling_job (running_caller (keep (is_upper_id S p) o) (up_jobs S p s.jobs))
          ≡ option_map (up_job S p)
          (keep (is_upper_job S p) (calling_job (running_caller o s.jobs)))
      by None = refl
      by (Some r) = of r (is_upper_id S p r) refl

      go : (a : Option Active)
          → executing_in (record (up S p s) { active = a })
          ≡ option_map (up_job S p)
          (keep (is_upper_job S p) (executing_in (record s { active = a })))
      go None = by s.running
      go (Some a) = refl

  -- who executes is of the system
  pub executing_known : (s : State) → IsLayered S p s → (k : Job) → executing_in s ≡ Some k
      → IsLayeredJob S p k
  executing_known s layered k = go s.active s.running
    where
      at : (r : JobId) → calling_job (job_caller (job_of r s.jobs)) ≡ Some k → IsLayeredJob S p k
      at r is =
          (found (IsLayeredJob S p) (λ j. same_id j.id r) s.jobs k layered.jobs
          (sym (called (job_of r s.jobs)) ∙ is)).0

      go : (a : Option Active) (o : Option JobId)
          → executing_in (record s { active = a; running = o }) ≡ Some k → IsLayeredJob S p k
      go (Some a) o is = absurd (none_some k is)
      go None None is = absurd (none_some k is)
      go None (Some r) is = at r is

  -- ---- a job of an upper task

  module _ (n : JobId) (high : is_upper_id S p n ≡ true) where
    other : (r : JobId) → is_upper_id S p r ≡ false → same_id r n ≡ false
    other r low = go (same_id r n) refl
      where
        go : (b : Bool) → same_id r n ≡ b → same_id r n ≡ false
        go false e = e
        go true e = clash (sym high ∙ sym (same_id_upper S p r n e) ∙ low)

    some_map : (o : Option Job) → is_some (option_map (up_job S p) o) ≡ is_some o
    some_map None = refl
    some_map (Some j) = refl

    waits_map : (o : Option Job) → is_waiting_job (option_map (up_job S p) o) ≡ is_waiting_job o
    waits_map None = refl
    waits_map (Some j) = refl

    pub in_up : (s : State) → is_in_state (up S p s) n ≡ is_in_state s n
    in_up s = ap is_some (job_of_up S p n s.jobs high) ∙ some_map (job_of n s.jobs)

    pub waits_up : (s : State) → waits_in (up S p s) n ≡ waits_in s n
    waits_up s = ap is_waiting_job (job_of_up S p n s.jobs high) ∙ waits_map (job_of n s.jobs)

    pub runs_up : (s : State) → runs_in (up S p s) n ≡ runs_in s n
    runs_up s = go s.running
      where
        by : (r : JobId) (b : Bool) → is_upper_id S p r ≡ b
            → is_job (cond b (Some r) None) n ≡ same_id r n
        by r true e = refl
        by r false e = sym (other r e)

        go : (o : Option JobId) → is_job (keep (is_upper_id S p) o) n ≡ is_job o n
        go None = refl
        go (Some r) = by r (is_upper_id S p r) refl

    pub number_up : (s : State)
        → is_number n (executing_in (up S p s)) ≡ is_number n (executing_in s)
    number_up s = ap (is_number n) (executing_up s) ∙ go (executing_in s)
      where
        by : (j : Job) (b : Bool) → is_upper_job S p j ≡ b
            → is_number n (option_map (up_job S p) (cond b (Some j) None)) ≡ same_id j.id n
        by j true e = refl
        by j false e = sym (other j.id e)

        go : (o : Option Job)
            → is_number n (option_map (up_job S p) (keep (is_upper_job S p) o)) ≡ is_number n o
        go None = refl
        go (Some j) = by j (is_upper_job S p j) refl

-- ---- two states

-- of two systems, which are one from above
pub record AreOne (S B : System) (p : ℕ) (s b : State) : Type 0 where
  pub layered : IsLayered S p s
  pub layered_there : IsLayered B p b
  pub same : up S p s ≡ up B p b

-- the job of an id is there in both or in none, waits, and runs in both or in none
pub record SeeAlike (n : JobId) (s b : State) : Type 0 where
  pub is_in : is_in_state s n ≡ is_in_state b n
  pub waiting : waits_in s n ≡ waits_in b n
  pub runs : runs_in s n ≡ runs_in b n

-- so it becomes ready between two of both or of none
pub becomes_alike : (n : JobId) (s b t c : State) → SeeAlike n s b → SeeAlike n t c
    → becomes_ready s t n ≡ becomes_ready b c n
becomes_alike n s b t c old new = λ i.
    new.is_in i && not (new.waiting i)
    && (not (old.is_in i) || old.waiting i || (old.runs i && not (new.runs i)))

module _ (S B : System) (p : ℕ) (n : JobId) (high : is_upper_id S p n ≡ true)
    (high_there : is_upper_id B p n ≡ true) (s b : State) (one : AreOne S B p s b) where
  pub see_alike : SeeAlike n s b
  see_alike = record {
    is_in =
        sym (in_up S p n high s) ∙ ap (λ (c : State). is_in_state c n) one.same
        ∙ in_up B p n high_there b;
    waiting =
        sym (waits_up S p n high s) ∙ ap (λ (c : State). waits_in c n) one.same
        ∙ waits_up B p n high_there b;
    runs =
        sym (runs_up S p n high s) ∙ ap (λ (c : State). runs_in c n) one.same
        ∙ runs_up B p n high_there b;
  }

  pub number_alike : is_number n (executing_in s) ≡ is_number n (executing_in b)
  number_alike =
      sym (number_up S p n high s) ∙ ap (λ (c : State). is_number n (executing_in c)) one.same
      ∙ number_up B p n high_there b
