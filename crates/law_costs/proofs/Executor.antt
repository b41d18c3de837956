-- Who executes an instruction where no routine is active: the running job, or nobody.
use Rattle.std.proofs.Common.{ℕ, ◌≡◌, ◌≤◌, ◌⊎◌, inl, inr, Bool, true, false, not, ◌&&◌, ◌||◌, refl, sym, ◌∙◌, ap, subst}
use Rattle.std.specs.Prelude.{Option, Some, None, is_some, nat_le}
use Rattle.std.proofs.lemmas.Bool.{and_parts, leb-true, not-true}
use Rattle.osek_base.specs.Priority.{static_priority}
use Rattle.osek_base.specs.Service.{Caller, JobCalls, NobodyCalls, RoutineCalls, by_routine}
use Rattle.osek_base.specs.State.{Active, Job, State, interrupts_off, job_of, may_dispatch, same_id, waits}
use Rattle.osek_base.specs.System.{System}
use Rattle.osek_base.specs.Tick.{caller_of, executor, job_caller, running_caller}
use Rattle.law_runs.proofs.Foremost.{same_ids}
use Rattle.law_runs.proofs.Lists.{all_any, clash, found}
use Rattle.law_windows.specs.Work.{is_work}
use Rattle.law_costs.specs.Left.{is_off, switch_of}
use Rattle.law_costs.proofs.Parts.{none_found}
use Rattle.law_costs.proofs.Running.{HasRunning, IsLed, IsResting}
use Rattle.law_costs.proofs.Totals.{none_any}

-- a running job that is there
pub record IsThere (s : State) : Type 0 where
  pub job : Job
  pub runs : s.running ≡ Some job.id
  pub found : job_of job.id s.jobs ≡ Some job

pub there_is : (s : State) → HasRunning s.running s.jobs → IsThere s
there_is s h = go (job_of h.job s.jobs) refl
  where
    go : (o : Option Job) → job_of h.job s.jobs ≡ o → IsThere s
    go None is =
        clash
        (sym h.stands
        ∙ none_any (λ k. same_id k.id h.job) s.jobs
        (none_found (λ k. same_id k.id h.job) s.jobs is))
    go (Some j) is =
        let same : h.job ≡ j.id =
        sym
        (same_ids j.id h.job
        (found (λ k. Unit {0}) (λ k. same_id k.id h.job) s.jobs j
        (all_any (λ k. Unit {0}) s.jobs (λ k. tt)) is).1) in
        record {
          job = j;
          runs = h.runs ∙ ap Some same;
          found = subst (λ n. job_of n s.jobs ≡ Some j) same is;
        }

-- where no routine is active, it executes
running_executes : (s : State) → s.active ≡ None → (there : IsThere s)
    → executor s ≡ JobCalls there.job
running_executes s idle there =
    ap (λ o. caller_of o s.running s.jobs) idle
    ∙ ap (λ o. running_caller o s.jobs) there.runs ∙ ap job_caller there.found

abbrev is_job_caller : Caller → Bool
is_job_caller (JobCalls j) = true
is_job_caller (RoutineCalls a) = false
is_job_caller NobodyCalls = false

-- where nobody executes and no routine is active, no job is ready and interrupts are on
pub nobody_rests : (s : State) → IsLed s → s.active ≡ None → executor s ≡ NobodyCalls → IsResting s
nobody_rests s led idle nobody = go (led (ap is_some idle))
  where
    go : IsResting s ⊎ HasRunning s.running s.jobs → IsResting s
    go (inl rests) = rests
    go (inr h) =
        clash
        (sym (ap is_job_caller (running_executes s idle (there_is s h))) ∙ ap is_job_caller nobody)

-- where nobody executes no routine is active
pub nobody_idle : (s : State) → executor s ≡ NobodyCalls → s.active ≡ None
nobody_idle s nobody = go s.active refl
  where
    go : (o : Option Active) → s.active ≡ o → o ≡ None
    go None is = refl
    go (Some a) is =
        clash
        (sym (ap (λ o. by_routine (caller_of o s.running s.jobs)) is) ∙ ap by_routine nobody)

pub neither : (a b : Bool) → (a || b) ≡ false → (a ≡ false) × (b ≡ false)
neither true b h = clash h
neither false b h = (refl, h)

pub work_parts : (S : System) (p : ℕ) (k : Job) → is_work S p k ≡ true
    → (waits k ≡ false) × (p ≤ static_priority S k)
work_parts S p k is =
    let both = and_parts (not (waits k)) (nat_le p (static_priority S k)) is in
    (not-true (waits k) both.0, leb-true p (static_priority S k) both.1)

pub may_where_on : (s : State) → s.active ≡ None → is_off (switch_of s) ≡ false
    → may_dispatch s ≡ true
may_where_on s idle off =
    ap (λ o. not (is_some o) && not (interrupts_off s)) idle ∙ ap not off
