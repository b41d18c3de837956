-- A reschedule: the running task, looked at before and after it, tells what becomes of the stamps of its jobs.
use Rattle.std.proofs.Common.{◌≡◌, ℕ, Bool, true, false, cond, not, ◌&&◌, ◌||◌, List, [], ◌∷◌, map, refl, sym, ◌∙◌, ap, subst, arith}
use Rattle.std.specs.Prelude.{Option, Some, None, is_some, ◌==◌}
use Rattle.std.specs.Option.{option_map}
use Rattle.std.specs.List.{find, list_any, AllByRecursion}
use Rattle.osek_base.specs.System.{System}
use Rattle.osek_base.specs.State.{Job, JobId, State, same_id, waits, job_of, jobs_of, may_dispatch}
use Rattle.osek_base.specs.Choice.{choice}
use Rattle.osek_base.specs.Reschedule.{entered, id_of, jobs_entered, switched, with_dispatch_of, reschedule}
use Rattle.osek_base.specs.Blocker.{runs_in, is_job}
use Rattle.law_runs.proofs.Lists.{some_inside, none_some, Pairs, all_weaker, all_any, pairs_kept}
use Rattle.law_runs.proofs.Foremost.{self_equal, equal, same_self}
use Rattle.law_runs.proofs.Single.{IsSoundPair, IsSingle}
use Rattle.law_runs.proofs.SingleMoves.{is_best, reschedule_single}
use Rattle.law_kept.specs.Kept.{Slot, slot_of, slots_of, task_in, is_gone, kept}
use Rattle.law_kept.specs.Moves.{contender_of, contender}
use Rattle.law_kept.proofs.Parts.{filter_moved, any_moved, map_unmoved, IsOldest, found_any}
use Rattle.law_kept.proofs.Runner.{runner_oldest}
use Rattle.kernel_stamps.specs.Stamps.{stamp_oldest}
use Rattle.law_blockers.specs.Stamps.{Stamps, stamped, listed}
use Rattle.law_blockers.specs.Restamping.{is_task}
use Rattle.law_blockers.proofs.RunningJobs.{is_taken_out, idle_listed, left_alone, taken_out_listed}
use Rattle.law_blockers.proofs.RestampedLemmas.{same_listed}

-- what is made of the stamps of one task: those of the task that contended, where it runs no more
abbrev pub preempted_at : ℕ → Option ℕ → Option ℕ → ℕ → List (Option ℕ) → List (Option ℕ)
preempted_at u None now v list = list
preempted_at u (Some t) now v list = cond (is_task t now) list (cond (t == v) (stamp_oldest u list) list)

abbrev pub IsPreempted : System → ℕ → State → State → Stamps → Type 0
IsPreempted S u s e p =
    (v : ℕ) → listed (stamped s e u p) v e.jobs
    ≡ preempted_at u (contender (kept S s)) (kept S e).running v (listed p v s.jobs)

-- ---- who runs stays so

unpreempted : (u : ℕ) (running : Option ℕ) (gone : Bool) (slots : ℕ → Slot) (v : ℕ) (list : List (Option ℕ))
    → preempted_at u (contender_of running gone slots) running v list ≡ list
unpreempted u None gone slots v list = refl
unpreempted u (Some t) true slots v list = refl
unpreempted u (Some t) false slots v list = go (is_some (slots t).waits_for)
  where
    go : (b : Bool) → preempted_at u (cond b None (Some t)) (Some t) v list ≡ list
    go true = refl
    go false = rw (self_equal t) refl

pub undispatched_preempted : (S : System) (s e : State) (u : ℕ) (p : Stamps) → e.jobs ≡ s.jobs → e.running ≡ s.running
    → IsPreempted S u s e p
undispatched_preempted S s e u p jobs running v =
    same_listed S s e u 0 p jobs running v
    ∙ sym (unpreempted u (option_map task_in s.running) (is_gone s.running s.jobs) (slots_of s.jobs) v
    (listed p v s.jobs))
    ∙ ap (λ r. preempted_at u (contender (kept S s)) (option_map task_in r) v (listed p v s.jobs)) (sym running)

-- ---- another job may run

any_found : {X : Type 0} (test : X → Bool) (xs : List X) → is_some (find test xs) ≡ list_any test xs
any_found test [] = refl
any_found test (x ∷ xs) = go (test x) (any_found test xs)
  where
    go : (b : Bool) → is_some (find test xs) ≡ list_any test xs → is_some (cond b (Some x) (find test xs))
        ≡ (b || list_any test xs)
    go true h = refl
    go false h = h

abbrev pub first_of : List Job → Option Job
first_of [] = None
first_of (j ∷ js) = Some j

-- a job that is the first of its task is the first of its id
found_oldest : (n : JobId) (jobs : List Job) (j : Job) → first_of (jobs_of n.task jobs) ≡ Some j → j.id ≡ n
    → job_of n jobs ≡ Some j
found_oldest n [] j first id = absurd (none_some j first)
found_oldest n (x ∷ xs) j first id = go (x.id.task == n.task) refl first (found_oldest n xs j)
  where
    here : (x.id.task == n.task) ≡ true → Some x ≡ Some j → cond (same_id x.id n) (Some x) (job_of n xs) ≡ Some j
    here k h =
        let same : x ≡ j = some_inside x j h in
        let is : same_id x.id n ≡ true = ap (λ (y : Job). same_id y.id n) same ∙ ap (λ m. same_id m n) id ∙ same_self n in
        rw is h

    go : (b : Bool) → (x.id.task == n.task) ≡ b → first_of (cond b (x ∷ jobs_of n.task xs) (jobs_of n.task xs)) ≡ Some j
        → (first_of (jobs_of n.task xs) ≡ Some j → j.id ≡ n → job_of n xs ≡ Some j)
        → cond (same_id x.id n) (Some x) (job_of n xs) ≡ Some j
    go true k h rest = here k h
    go false k h rest = rw k (rest h id)

module _ (S : System) (s e : State) (u : ℕ) (p : Stamps) (single : IsSingle S s) (after : IsSingle S e) (g : Job → Job)
    (ids : (j : Job) → (g j).id ≡ j.id) (waiting : (j : Job) → waits (g j) ≡ waits j) (jobs : e.jobs ≡ map g s.jobs)
    (there : (n : JobId) → e.running ≡ Some n → list_any (λ j. same_id j.id n) e.jobs ≡ true) where
  -- two jobs of one task can't both be its oldest
  same_oldest : (r c : JobId) → IsOldest r s.jobs → e.running ≡ Some c → (c.task == r.task) ≡ true → c ≡ r
  same_oldest r c o runs task =
      let eo : IsOldest c e.jobs = runner_oldest S e after c runs (there c runs) in
      let are : eo.job ∷ eo.others ≡ g o.job ∷ map g o.others =
      sym eo.is ∙ ap (λ t. jobs_of t e.jobs) (equal c.task r.task task) ∙ ap (jobs_of r.task) jobs
      ∙ filter_moved (λ j. j.id.task == r.task) g (λ j. ap (λ (m : JobId). m.task == r.task) (ids j)) s.jobs
      ∙ ap (map g) o.is in
      let head : eo.job ≡ g o.job = grind arith in
      sym eo.id ∙ ap (λ (j : Job). j.id) head ∙ ids o.job ∙ o.id

  module _ (r : JobId) (runs : s.running ≡ Some r) (v : ℕ) where
    abbrev before : List (Option ℕ)
    before = listed p v s.jobs

    abbrev now : List (Option ℕ)
    now = listed (stamped s e u p) v e.jobs

    alone : is_taken_out s e r ≡ false → now ≡ before
    alone none = left_alone S s e u p g ids waiting jobs r runs none v

    -- its job has ended
    ended : list_any (λ j. same_id j.id r) s.jobs ≡ false → now ≡ before
    ended gone = alone (rw (any_found (λ j. same_id j.id r) s.jobs ∙ gone) refl)

    module _ (o : IsOldest r s.jobs) where
      found : job_of r s.jobs ≡ Some o.job
      found = found_oldest r s.jobs o.job (ap first_of o.is) o.id

      others : AllByRecursion (λ k. same_id k.id r ≡ false) o.others
      others =
          let pairs : Pairs (IsSoundPair S) (o.job ∷ o.others) =
          subst (Pairs (IsSoundPair S)) o.is
          (pairs_kept (IsSoundPair S) (λ j. j.id.task == r.task) s.jobs single.pairs) in
          all_weaker (IsSoundPair S o.job) (λ k. same_id k.id r ≡ false) o.others
          (λ k h. subst (λ n. same_id k.id n ≡ false) o.id h.apart) pairs.0

      waits_still : waits o.job ≡ true → now ≡ before
      waits_still w = alone (rw (found, w) refl)

      taken_out : waits o.job ≡ false → runs_in e r ≡ false → now ≡ cond (r.task == v) (stamp_oldest u before) before
      taken_out w out = taken_out_listed S s e u p g ids waiting jobs r runs o others (rw (found, w, out) refl) v

      goes_on : waits o.job ≡ false → runs_in e r ≡ true → now ≡ before
      goes_on w on = alone (rw (found, w, on) refl)

      -- who runs then
      contended : waits o.job ≡ false → (q : Option JobId) → e.running ≡ q
          → now ≡ preempted_at u (Some r.task) (option_map task_in q) v before
      contended w None is = taken_out w (ap (λ (x : Option JobId). is_job x r) is)
      contended w (Some c) is = go (c.task == r.task) refl
        where
          go : (b : Bool) → (c.task == r.task) ≡ b → now ≡ cond b before
              (cond (r.task == v) (stamp_oldest u before) before)
          go true h =
              goes_on w (ap (λ (x : Option JobId). is_job x r) is ∙ ap (λ n. same_id n r) (same_oldest r c o is h)
              ∙ same_self r)
          go false h = taken_out w (ap (λ (x : Option JobId). is_job x r) is ∙ ap (λ b. b && (c.serial == r.serial)) h)

      stands : now ≡ preempted_at u (contender_of (Some r.task) false (slots_of s.jobs))
          (option_map task_in e.running) v before
      stands =
          pick (waits o.job) refl
          ∙ ap (λ js. preempted_at u (cond (is_some (slot_of js).waits_for) None (Some r.task))
          (option_map task_in e.running) v before)
          (sym o.is)
        where
          pick : (b : Bool) → waits o.job ≡ b
              → now ≡ preempted_at u (cond (waits o.job) None (Some r.task)) (option_map task_in e.running) v before
          pick true h =
              waits_still h
              ∙ ap (λ b. preempted_at u (cond b None (Some r.task)) (option_map task_in e.running) v before) (sym h)
          pick false h =
              contended h e.running refl
              ∙ ap (λ b. preempted_at u (cond b None (Some r.task)) (option_map task_in e.running) v before) (sym h)

    either : now ≡ preempted_at u (contender_of (Some r.task) (is_gone (Some r) s.jobs) (slots_of s.jobs))
        (option_map task_in e.running) v before
    either = go (list_any (λ j. same_id j.id r) s.jobs) refl
      where
        go : (b : Bool) → list_any (λ j. same_id j.id r) s.jobs ≡ b
            → now ≡ preempted_at u (contender_of (Some r.task) (is_gone (Some r) s.jobs) (slots_of s.jobs))
            (option_map task_in e.running) v before
        go false h =
            ended h
            ∙ ap (λ b. preempted_at u (contender_of (Some r.task) (not b) (slots_of s.jobs))
            (option_map task_in e.running) v before)
            (sym h)
        go true h =
            stands (runner_oldest S s single r runs h)
            ∙ ap (λ b. preempted_at u (contender_of (Some r.task) (not b) (slots_of s.jobs))
            (option_map task_in e.running) v before)
            (sym h)

  pub dispatched_preempted : IsPreempted S u s e p
  dispatched_preempted v = go s.running refl
    where
      go : (q : Option JobId) → s.running ≡ q
          → listed (stamped s e u p) v e.jobs
          ≡ preempted_at u (contender_of (option_map task_in q) (is_gone q s.jobs) (slots_of s.jobs))
          (option_map task_in e.running) v (listed p v s.jobs)
      go None is = idle_listed S s e u p g ids waiting jobs is v
      go (Some r) is = either r is v

-- ---- a reschedule

-- a job, where that one is chosen
module _ (S : System) where
  abbrev pub entering : Option Job → Job → Job
  entering None j = j
  entering (Some c) j = cond (same_id j.id c.id) (entered S j) j

  pub entering_id : (o : Option Job) (j : Job) → (entering o j).id ≡ j.id
  entering_id None j = refl
  entering_id (Some c) j = go (same_id j.id c.id)
    where
      go : (b : Bool) → (cond b (entered S j) j).id ≡ j.id
      go true = refl
      go false = refl

  pub entering_waits : (o : Option Job) (j : Job) → waits (entering o j) ≡ waits j
  entering_waits None j = refl
  entering_waits (Some c) j = go (same_id j.id c.id)
    where
      go : (b : Bool) → waits (cond b (entered S j) j) ≡ waits j
      go true = refl
      go false = refl

  pub entered_are : (o : Option Job) (jobs : List Job) → jobs_entered S o jobs ≡ map (entering o) jobs
  entered_are None jobs = sym (map_unmoved (λ j. j) jobs (all_any (λ j. j ≡ j) jobs (λ j. refl)))
  entered_are (Some c) jobs = refl

module _ (S : System) (s : State) (u : ℕ) (p : Stamps) (single : IsSingle S s) where
  runs_there : (o : Option Job) → choice S s.jobs ≡ o → (n : JobId) → option_map id_of o ≡ Some n
      → list_any (λ j. same_id j.id n) (jobs_entered S o s.jobs) ≡ true
  runs_there None falls n is = absurd (none_some n is)
  runs_there (Some c) falls n is =
      let same : c.id ≡ n = some_inside c.id n is in
      any_moved (λ j. same_id j.id n) (entering S (Some c)) (λ j. ap (λ m. same_id m n) (entering_id S (Some c) j)) s.jobs
      ∙ found_any (is_best S s.jobs) (λ j. same_id j.id n) s.jobs c falls (ap (λ m. same_id m n) same ∙ same_self n)

  pub reschedule_preempted : IsPreempted S u s (reschedule S s).state p
  unfolding reschedule
  reschedule_preempted = go (may_dispatch s) (reschedule_single S s single)
    where
      go : (b : Bool)
          → IsSingle S (with_dispatch_of s
          (cond b (switched S (choice S s.jobs) s) (record { events = []; state = s }))).state
          → IsPreempted S u s (with_dispatch_of s
          (cond b (switched S (choice S s.jobs) s) (record { events = []; state = s }))).state p
      go true after =
          dispatched_preempted S s (with_dispatch_of s (switched S (choice S s.jobs) s)).state u p single after
          (entering S (choice S s.jobs)) (entering_id S (choice S s.jobs)) (entering_waits S (choice S s.jobs))
          (entered_are S (choice S s.jobs) s.jobs) (runs_there (choice S s.jobs) refl)
      go false after = undispatched_preempted S s s u p refl refl
