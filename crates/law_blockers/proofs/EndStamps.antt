-- What the looks of an instruction tell of the stamps of jobs; the running job ends, and another job may follow it.
use Rattle.std.proofs.Common.{◌≡◌, ℕ, ◌+◌, Bool, true, false, cond, not, ◌&&◌, List, [], ◌∷◌, ◌++◌, length, length-append, refl, sym, ◌∙◌, ap}
use Rattle.std.specs.Prelude.{Option, Some, None, is_some, ◌==◌, slice_index}
use Rattle.std.specs.Option.{option_map, option_or}
use Rattle.std.proofs.lemmas.List.Folds.{find-append}
use Rattle.osek_base.specs.System.{System}
use Rattle.osek_base.specs.State.{Job, JobId, State, same_id, job_of, jobs_of}
use Rattle.osek_base.specs.Activation.{activated, ended, new_job}
use Rattle.osek_base.specs.Blocker.{is_in_state, is_waiting_job}
use Rattle.osek_base.specs.Service.{JobCalls, with_objects_of, caller_ended}
use Rattle.law_runs.proofs.Lists.{clash, all_weaker}
use Rattle.law_runs.proofs.Foremost.{equal, same_ids, same_self}
use Rattle.law_runs.proofs.Known.{IsRunningCaller}
use Rattle.law_runs.proofs.Single.{IsSoundJob, IsSingle}
use Rattle.law_runs.proofs.SingleService.{ended_single}
use Rattle.law_kept.specs.Kept.{Kept, task_in, is_gone, kept}
use Rattle.law_kept.proofs.Parts.{IsOldest, found_any}
use Rattle.law_kept.proofs.JobMoves.{activated_kept}
use Rattle.law_kept.proofs.Settled.{IsSettled, Stands, given_of, stands_oldest, ends}
use Rattle.kernel_stamps.specs.Stamps.{without_oldest}
use Rattle.law_blockers.specs.Stamps.{Stamps, stamped, listed}
use Rattle.law_blockers.specs.Restamping.{task_waits, restamped}
use Rattle.law_blockers.proofs.ReadyLemmas.{keeps_stamp, ended_listed, but_found}
use Rattle.law_blockers.proofs.NewJobs.{none_found, unmade}
use Rattle.law_blockers.proofs.WakeLemmas.{IsOneChange, listed_twice}
use Rattle.law_blockers.proofs.RestampedLemmas.{IsLooked, count_is, count_listed, restamped_more, made_listed}
use Rattle.law_blockers.proofs.SpentStamps.{others_apart}

-- ---- what the looks make of the stamps of one task

abbrev pub restamped_here : ℕ → Option ℕ → Kept → Kept → ℕ → List (Option ℕ) → List (Option ℕ)
restamped_here u None old new v list = list
restamped_here u (Some t) old new v list =
    cond (t == v) (restamped u (new.slots t).count (task_waits old t) (task_waits new t) list) list

abbrev pub ended_here : Option ℕ → Bool → ℕ → List (Option ℕ) → List (Option ℕ)
ended_here None gone v list = list
ended_here (Some t) gone v list = cond gone (cond (t == v) (without_oldest list) list) list

abbrev pub executed_here : ℕ → Option ℕ → Kept → Kept → ℕ → List (Option ℕ) → List (Option ℕ)
executed_here u named old new v list = restamped_here u named old new v (ended_here old.running (not old.gone && new.gone) v list)

-- they are right for each task
abbrev pub IsTold : System → ℕ → Option ℕ → State → State → Stamps → Type 0
IsTold S u named e m p =
    (v : ℕ) → listed (stamped e m u p) v m.jobs ≡ executed_here u named (kept S e) (kept S m) v (listed p v e.jobs)

none_ended : (r : Option ℕ) (g h : Bool) (v : ℕ) (list : List (Option ℕ)) → h ≡ g → ended_here r (not g && h) v list ≡ list
none_ended None g h v list same = refl
none_ended (Some t) true h v list same = refl
none_ended (Some t) false true v list same = clash same
none_ended (Some t) false false v list same = refl

-- no task was named, and no stamp changed
pub same_told : (S : System) (u : ℕ) (e m : State) (p : Stamps) → (kept S m).gone ≡ (kept S e).gone
    → ((v : ℕ) → listed (stamped e m u p) v m.jobs ≡ listed p v e.jobs) → IsTold S u None e m p
same_told S u e m p gone same v =
    same v ∙ sym (none_ended (kept S e).running (kept S e).gone (kept S m).gone v (listed p v e.jobs) gone)

-- the named task was looked at
pub restamped_told : (S : System) (u t : ℕ) (e m : State) (p : Stamps) → (kept S m).gone ≡ (kept S e).gone → IsLooked S u t e m p
    → IsTold S u (Some t) e m p
restamped_told S u t e m p gone right v =
    right v
    ∙ ap (restamped_here u (Some t) (kept S e) (kept S m) v)
    (sym (none_ended (kept S e).running (kept S e).gone (kept S m).gone v (listed p v e.jobs) gone))

-- ---- ids that weren't given out

-- the next job of each task has no stamp
abbrev pub AreNew : Stamps → State → Type 0
AreNew p s = (t : ℕ) → p (record { task = t; serial = slice_index s.made t }) ≡ None

-- ---- the running job ends

module _ (S : System) (e : State) (u : ℕ) (p : Stamps) (settled : IsSettled S e) (j : Job) (calls : IsRunningCaller e j) where
  stands : Stands e j.id
  stands = (j, calls.runs, calls.found)

  abbrev left : State
  left = ended j.id e

  runs_is : (kept S e).running ≡ Some j.id.task
  runs_is = ap (option_map task_in) calls.runs

  gone_before : (kept S e).gone ≡ false
  gone_before =
      ap (λ r. is_gone r e.jobs) calls.runs
      ∙ ap not (found_any (λ k. same_id k.id j.id) (λ k. same_id k.id j.id) e.jobs j calls.found (same_self j.id))

  gone_after : (kept S left).gone ≡ true
  gone_after = ap (λ (o : Kept). o.gone) (ends S e j.id settled stands)

  without_listed : (v : ℕ) → listed (stamped e left u p) v left.jobs
      ≡ cond (j.id.task == v) (without_oldest (listed p v e.jobs)) (listed p v e.jobs)
  without_listed =
      let o : IsOldest j.id e.jobs = stands_oldest S e j.id settled stands in
      ended_listed S e left u p j.id refl refl o (others_apart S e j.id settled o)

  ended_is : (r : Option ℕ) (g h : Bool) (v : ℕ) (list : List (Option ℕ)) → r ≡ Some j.id.task → g ≡ false → h ≡ true
      → ended_here r (not g && h) v list ≡ cond (j.id.task == v) (without_oldest list) list
  ended_is r g h v list runs was is = rw (runs, was, is) refl

  pub ended_told : IsTold S u None e (with_objects_of e (caller_ended (JobCalls j) e)) p
  ended_told v =
      without_listed v
      ∙ sym (ended_is (kept S e).running (kept S e).gone (kept S left).gone v (listed p v e.jobs) runs_is gone_before gone_after)

  -- ---- and another job is made

  module _ (t : ℕ) (new : AreNew p e) where
    abbrev id : JobId
    id = record { task = t; serial = slice_index e.made t }

    abbrev chained : State
    chained = with_objects_of e (activated S t left)

    left_single : IsSingle S left
    left_single = ended_single S e settled.single (JobCalls j)

    absent : job_of id e.jobs ≡ None
    absent =
        none_found S e u t p settled.single id e.jobs
        (all_weaker (IsSoundJob S e.made) (λ k. same_id k.id id ≡ false) e.jobs
        (unmade S e u t p settled.single) settled.single.each)

    absent_left : job_of id left.jobs ≡ None
    absent_left = but_found j.id id (same_id id j.id) refl e.jobs ∙ go (same_id id j.id) (job_of id e.jobs) absent
      where
        go : (b : Bool) (o : Option Job) → o ≡ None → cond b None o ≡ None
        go true o h = refl
        go false o h = h

    still_new : stamped e left u p id ≡ None
    still_new = keeps_stamp e left id u p (rw absent_left refl) ∙ new t

    chained_found : (n : JobId) → job_of n chained.jobs
        ≡ option_or (job_of n left.jobs) (cond (same_id id n) (Some (new_job id)) None)
    unfolding activated
    chained_found n = find-append (λ k. same_id k.id n) left.jobs (new_job id ∷ [])

    one_change : (n : JobId) → is_in_state chained n ≡ true → IsOneChange e left chained n
    one_change n there = record {
      made = λ h absent_there.
          made_then (job_of n left.jobs) (same_id id n) refl (sym (ap is_some (chained_found n)) ∙ h) absent_there;
      waited = λ h was is.
          clash (sym (kept_waiting (job_of n left.jobs) (cond (same_id id n) (Some (new_job id)) None) was)
          ∙ sym (ap is_waiting_job (chained_found n)) ∙ is);
      calm = λ h. was_waiting (job_of n left.jobs) (same_id id n) (sym (ap is_waiting_job (chained_found n)) ∙ h);
      running = refl;
    }
      where
        made_then : (o : Option Job) (b : Bool) → same_id id n ≡ b → is_some (option_or o (cond b (Some (new_job id)) None)) ≡ true
            → is_some o ≡ false → is_in_state e n ≡ false
        made_then (Some k) b same h none = clash none
        made_then None false same h none = clash (sym h)
        made_then None true same h none = ap (λ i. is_some (job_of i e.jobs)) (sym (same_ids id n same)) ∙ ap is_some absent

        kept_waiting : (o q : Option Job) → is_waiting_job o ≡ true → is_waiting_job (option_or o q) ≡ true
        kept_waiting None q h = clash (sym h)
        kept_waiting (Some k) q h = h

        was_waiting : (o : Option Job) (b : Bool) → is_waiting_job (option_or o (cond b (Some (new_job id)) None)) ≡ true
            → is_waiting_job o ≡ true
        was_waiting (Some k) b h = h
        was_waiting None true h = clash (sym h)
        was_waiting None false h = clash (sym h)

    chained_gone : (kept S chained).gone ≡ true
    unfolding activated
    chained_gone =
        ap (λ (o : Kept). o.gone) (activated_kept S t left (given_of e.made e.jobs e.running settled.single.runs)) ∙ gone_after

    more_listed : (v : ℕ) → listed (stamped left chained u (stamped e left u p)) v chained.jobs
        ≡ cond (t == v) (listed (stamped e left u p) v left.jobs ++ Some u ∷ []) (listed (stamped e left u p) v left.jobs)
    more_listed = made_listed S left chained u t (stamped e left u p) left_single refl refl still_new

    more_restamped : (v : ℕ) → listed (stamped left chained u (stamped e left u p)) v chained.jobs
        ≡ restamped_here u (Some t) (kept S e) (kept S chained) v (listed (stamped e left u p) v left.jobs)
    more_restamped v = more_listed v ∙ go (t == v) refl
      where
        go : (b : Bool) → (t == v) ≡ b
            → cond b (listed (stamped e left u p) v left.jobs ++ Some u ∷ []) (listed (stamped e left u p) v left.jobs)
            ≡ cond b (restamped u ((kept S chained).slots t).count (task_waits (kept S e) t) (task_waits (kept S chained) t)
            (listed (stamped e left u p) v left.jobs)) (listed (stamped e left u p) v left.jobs)
        go false h = refl
        go true h =
            let more : listed (stamped left chained u (stamped e left u p)) v chained.jobs
            ≡ listed (stamped e left u p) v left.jobs ++ Some u ∷ [] =
            more_listed v ∙ ap (λ b. cond b (listed (stamped e left u p) v left.jobs ++ Some u ∷ [])
            (listed (stamped e left u p) v left.jobs)) h in
            let many : ((kept S chained).slots t).count ≡ length (listed (stamped e left u p) v left.jobs) + 1 =
            count_is S chained t ∙ ap (λ x. length (jobs_of x chained.jobs)) (equal t v h)
            ∙ sym (count_listed (stamped left chained u (stamped e left u p)) v chained.jobs)
            ∙ ap length more ∙ length-append (listed (stamped e left u p) v left.jobs) (Some u ∷ []) in
            sym (restamped_more u ((kept S chained).slots t).count (task_waits (kept S e) t) (task_waits (kept S chained) t)
            (listed (stamped e left u p) v left.jobs) many)

    pub chained_told : IsTold S u (Some t) e (with_objects_of e (activated S t (caller_ended (JobCalls j) e))) p
    chained_told v =
        sym (listed_twice e left chained u p v one_change) ∙ more_restamped v
        ∙ ap (restamped_here u (Some t) (kept S e) (kept S chained) v)
        (without_listed v
        ∙ sym (ended_is (kept S e).running (kept S e).gone (kept S chained).gone v
        (listed p v e.jobs) runs_is gone_before chained_gone))
