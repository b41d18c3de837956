-- Changes of jobs by which none ends, none begins to wait, and the running one stays: those of alarms.
use Rattle.std.proofs.Common.{◌≡◌, ℕ, inr, Bool, true, false, cond, List, [], ◌∷◌, ◌++◌, refl, sym, ◌∙◌, ap, subst}
use Rattle.std.specs.Prelude.{Option, Some, None, is_some, slice_index, bit_or}
use Rattle.std.specs.Option.{option_or}
use Rattle.std.proofs.lemmas.List.Folds.{find-append}
use Rattle.osek_base.specs.declared.status.Status.{Status}
use Rattle.osek_base.specs.declared.instr.Service.{Service}
use Rattle.osek_base.specs.System.{System}
use Rattle.osek_base.specs.State.{Job, JobId, State, same_id, waits, job_of, jobs_of, jobs_but}
use Rattle.osek_base.specs.Activation.{activated, new_job, released, woken}
use Rattle.osek_base.specs.Blocker.{is_in_state, waits_in, is_job, is_waiting_job}
use Rattle.osek_base.specs.Service.{Caller, first_refusal, refusals, reply_to, unasked_service, is_met, released_by, with_events, with_objects_of}
use Rattle.law_runs.proofs.Lists.{clash}
use Rattle.law_runs.proofs.Foremost.{same_ids}
use Rattle.law_runs.proofs.Known.{met_waits}
use Rattle.law_runs.proofs.Single.{IsSingle}
use Rattle.law_blockers.proofs.WakeLemmas.{IsOneChange, other_found, own_found}
use Rattle.law_blockers.proofs.RestampedLemmas.{only_job, found_there, released_jobs}

pub record OnlyWakes (s e : State) : Type 0 where
  pub stays : (n : JobId) → is_in_state s n ≡ true → is_in_state e n ≡ true
  pub waits : (n : JobId) → waits_in e n ≡ true → waits_in s n ≡ true
  pub running : e.running ≡ s.running

-- two of them behind each other
pub wakes_both : (s m e : State) → OnlyWakes s m → OnlyWakes m e → OnlyWakes s e
wakes_both s m e first then = record {
  stays = λ n h. then.stays n (first.stays n h);
  waits = λ n h. first.waits n (then.waits n h);
  running = then.running ∙ first.running;
}

-- behind them, a change by which no job is made, none ends, and none that waits is released, or another of them
pub wakes_one : (s m e : State) → OnlyWakes s m → ((n : JobId) → waits_in e n ≡ true → waits_in m n ≡ true) → (n : JobId)
    → IsOneChange s m e n
wakes_one s m e first calm n = record {
  made = λ i j. never (is_in_state s n) refl j;
  waited = λ i w j. inr (first.waits n w);
  calm = calm n;
  running = ap (λ o. is_job o n) first.running;
}
  where
    never : (b : Bool) → is_in_state s n ≡ b → is_in_state m n ≡ false → is_in_state s n ≡ false
    never false h j = h
    never true h j = clash (sym (first.stays n h) ∙ j)

-- jobs stay as they are
pub wakes_none : (s e : State) → e.jobs ≡ s.jobs → e.running ≡ s.running → OnlyWakes s e
wakes_none s e jobs running = record {
  stays = λ n h. ap (λ js. is_some (job_of n js)) jobs ∙ h;
  waits = λ n h. ap (λ js. is_waiting_job (job_of n js)) (sym jobs) ∙ h;
  running = running;
}

-- a job is made
made_jobs : (S : System) (t : ℕ) (s : State)
    → (activated S t s).jobs ≡ s.jobs ++ new_job (record { task = t; serial = slice_index s.made t }) ∷ []
unfolding activated
made_jobs S t s = refl

pub wakes_made : (S : System) (t : ℕ) (s e : State) → e.jobs ≡ (activated S t s).jobs → e.running ≡ s.running
    → OnlyWakes s e
wakes_made S t s e jobs running = record {
  stays = λ n h. ap is_some (there n) ∙ some (job_of n s.jobs)
      (same_id (record { task = t; serial = slice_index s.made t }) n) h;
  waits = λ n h.
      waiting (job_of n s.jobs) (same_id (record { task = t; serial = slice_index s.made t }) n)
      (ap is_waiting_job (sym (there n)) ∙ h);
  running = running;
}
  where
    there : (n : JobId)
        → job_of n e.jobs
        ≡ option_or (job_of n s.jobs)
        (cond (same_id (record { task = t; serial = slice_index s.made t }) n)
        (Some (new_job (record { task = t; serial = slice_index s.made t }))) None)
    there n =
        ap (job_of n) (jobs ∙ made_jobs S t s)
        ∙ find-append (λ j. same_id j.id n) s.jobs (new_job (record { task = t; serial = slice_index s.made t }) ∷ [])

    some : (o : Option Job) (b : Bool) → is_some o ≡ true
        → is_some (option_or o (cond b (Some (new_job (record { task = t; serial = slice_index s.made t }))) None)) ≡ true
    some None b h = clash (sym h)
    some (Some j) b h = refl

    waiting : (o : Option Job) (b : Bool)
        → is_waiting_job (option_or o
        (cond b (Some (new_job (record { task = t; serial = slice_index s.made t }))) None)) ≡ true
        → is_waiting_job o ≡ true
    waiting None true h = h
    waiting None false h = h
    waiting (Some j) b h = h

-- a job is released
module _ (S : System) (s e : State) (t : ℕ) (single : IsSingle S s) (j : Job) (js : List Job)
    (are : jobs_of t s.jobs ≡ j ∷ js)
    (waiting : waits j ≡ true) (jobs : e.jobs ≡ jobs_but j.id s.jobs ++ woken j ∷ [])
    (running : e.running ≡ s.running) where
  abbrev alone : jobs_of j.id.task s.jobs ≡ j ∷ []
  alone = only_job S s single t j js are waiting

  abbrev found : job_of j.id s.jobs ≡ Some j
  found = found_there S s single t j js are waiting

  same_stays : (n : JobId) (b : Bool) → same_id n j.id ≡ b → is_in_state s n ≡ true → is_in_state e n ≡ true
  same_stays n false k h = ap is_some (other_found S s e 0 (λ m. None) j.id j refl waiting found alone jobs running n k)
      ∙ h
  same_stays n true k h =
      subst (λ m. is_in_state e m ≡ true) (sym (same_ids n j.id k))
      (ap is_some (own_found S s e 0 (λ m. None) j.id j refl waiting found alone jobs running))

  same_waits : (n : JobId) (b : Bool) → same_id n j.id ≡ b → waits_in e n ≡ true → waits_in s n ≡ true
  same_waits n false k h =
      ap is_waiting_job (sym (other_found S s e 0 (λ m. None) j.id j refl waiting found alone jobs running n k)) ∙ h
  same_waits n true k h =
      subst (λ m. waits_in s m ≡ true) (sym (same_ids n j.id k)) (ap is_waiting_job found ∙ waiting)

  pub wakes_woken : OnlyWakes s e
  wakes_woken = record {
    stays = λ n h. same_stays n (same_id n j.id) refl h;
    waits = λ n h. same_waits n (same_id n j.id) refl h;
    running = running;
  }

-- ---- services, whoever calls

module _ (S : System) (s : State) (single : IsSingle S s) (c : Caller) (t : ℕ) where
  pub activate_wakes : OnlyWakes s (unasked_service S c s (Service.ActivateTask (Some t))).state
  unfolding unasked_service
  activate_wakes = go (first_refusal (refusals S c s (Service.ActivateTask (Some t))))
    where
      go : (o : Option Status) → OnlyWakes s (reply_to S c s (Service.ActivateTask (Some t)) o).state
      go None = wakes_made S t s (reply_to S c s (Service.ActivateTask (Some t)) None).state refl refl
      go (Some refusal) = wakes_none s (reply_to S c s (Service.ActivateTask (Some t)) (Some refusal)).state refl refl

  event_wakes : (set : ℕ) → OnlyWakes s (with_objects_of s (released_by set (jobs_of t s.jobs) (with_events t set s)))
  event_wakes set = go (jobs_of t s.jobs) refl
    where
      go : (js : List Job) → jobs_of t s.jobs ≡ js → OnlyWakes s
          (with_objects_of s (released_by set js (with_events t set s)))
      go [] are = wakes_none s (with_objects_of s (with_events t set s)) refl refl
      go (j ∷ js) are = pick (is_met set j.waits_for) refl
        where
          pick : (b : Bool) → is_met set j.waits_for ≡ b
              → OnlyWakes s (with_objects_of s (cond b (released j.id (with_events t set s)) (with_events t set s)))
          pick false met = wakes_none s (with_objects_of s (with_events t set s)) refl refl
          pick true met =
              let waiting : waits j ≡ true = met_waits set j.waits_for met in
              wakes_woken S s (with_objects_of s (released j.id (with_events t set s))) t single j js are waiting
              (released_jobs S (with_events t set s) single t j js are waiting) refl

  pub set_event_wakes : (m : ℕ) → OnlyWakes s (unasked_service S c s (Service.SetEvent (Some t) m)).state
  unfolding unasked_service
  set_event_wakes m = go (first_refusal (refusals S c s (Service.SetEvent (Some t) m)))
    where
      go : (o : Option Status) → OnlyWakes s (reply_to S c s (Service.SetEvent (Some t) m) o).state
      go None = event_wakes (bit_or (slice_index s.masks t) m)
      go (Some refusal) = wakes_none s (reply_to S c s (Service.SetEvent (Some t) m) (Some refusal)).state refl refl
