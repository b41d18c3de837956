-- A job is made, changed, ended or released: what the code keeps changes as in Moves.
use Rattle.std.proofs.Common.{◌≡◌, ℕ, suc, ◌+◌, ◌-◌, ◌<◌, Bool, true, false, cond, not, ◌&&◌, ◌||◌, List, [], ◌∷◌, ◌++◌, map, length, refl, sym, ◌∙◌, ap, subst, arith}
use Rattle.std.specs.Prelude.{Option, Some, None, ◌==◌, is_some, slice_index, slice_set}
use Rattle.std.specs.List.{filter, list_any, AllByRecursion}
use Rattle.std.proofs.lemmas.List.Elements.{filter-append}
use Rattle.std.proofs.lemmas.List.Folds.{list_any-append}
use Rattle.std.proofs.lemmas.List.{map-append, append-nil, length-append, length-map}
use Rattle.osek_base.specs.Lists.{is_empty}
use Rattle.osek_base.specs.System.{System, is_extended, priority_of}
use Rattle.osek_base.specs.State.{Job, JobId, State, same_id, jobs_of, jobs_but, with_job, waits, fresh_context}
use Rattle.osek_base.specs.Activation.{activated, new_job, ended}
use Rattle.osek_base.specs.Priority.{dynamic_priority}
use Rattle.law_runs.proofs.Lists.{Pairs, clash, all_weaker, all_any, all_kept, all_filter, pairs_kept}
use Rattle.law_runs.proofs.Foremost.{same_ids, same_self, equal, idle_priority}
use Rattle.law_runs.proofs.Single.{IsSoundJob, IsSoundPair}
use Rattle.law_kept.specs.Kept.{Slot, unbegun, slot_with, slot_of, slots_of, runs, is_at, task_of, queue, is_gone, kept}
use Rattle.ready_queues.specs.QueueMoves.{changed_at, put_newest}
use Rattle.law_kept.specs.Moves.{one_more, activated_in, ended_in, slot_changed}
use Rattle.law_kept.proofs.Parts.{filter_unmoved, filter_moved, filter_same, filter_twice, filter_all, map_unmoved, any_moved, filter_swap, IsOldest}

pub differ : (m n : ℕ) → (m == n) ≡ false → m ≡ n → ⊥
differ m n e h = grind (arith, e)

-- ---- the running job is changed

module _ (n : JobId) (f : Job → Job) (keep : (j : Job) → (f j).id ≡ j.id) where
  abbrev pub one_changed : Job → Job
  one_changed j = cond (same_id j.id n) (f j) j

  pub keeps_id : (j : Job) → (one_changed j).id ≡ j.id
  keeps_id j = go (same_id j.id n)
    where
      go : (b : Bool) → (cond b (f j) j).id ≡ j.id
      go true = keep j
      go false = refl

  -- the queues stay
  pub changed_queue : (S : System) (jobs : List Job) (l : ℕ)
      → queue S (Some n) (with_job n f jobs) l ≡ queue S (Some n) jobs l
  changed_queue S jobs l =
      ap (map task_of) (filter_unmoved (is_at S (Some n) l) one_changed jobs (all_any _ jobs each))
    where
      each : (j : Job)
          → (is_at S (Some n) l (one_changed j) ≡ is_at S (Some n) l j) × (is_at S (Some n) l j ≡ true → one_changed j ≡ j)
      each j = go (same_id j.id n) refl
        where
          go : (b : Bool) → same_id j.id n ≡ b
              → (is_at S (Some n) l (cond b (f j) j) ≡ is_at S (Some n) l j) × (is_at S (Some n) l j ≡ true → cond b (f j) j ≡ j)
          go true e =
              let out : is_at S (Some n) l j ≡ false = rw e refl in
              let gone : is_at S (Some n) l (f j) ≡ false = rw (keep j, e) refl in
              (gone ∙ sym out, λ h. clash (sym h ∙ out))
          go false e = (refl, λ h. refl)

  pub changed_gone : (running : Option JobId) (jobs : List Job)
      → is_gone running (with_job n f jobs) ≡ is_gone running jobs
  changed_gone None jobs = refl
  changed_gone (Some r) jobs =
      ap not (any_moved (λ j. same_id j.id r) one_changed (λ j. ap (λ m. same_id m r) (keeps_id j)) jobs)

  -- the slots of other tasks stay
  pub changed_of : (jobs : List Job) (u : ℕ) → jobs_of u (with_job n f jobs) ≡ map one_changed (jobs_of u jobs)
  changed_of jobs u =
      filter_moved (λ j. j.id.task == u) one_changed (λ j. ap (λ (m : JobId). m.task == u) (keeps_id j)) jobs

  pub changed_slots : (g : Slot → Slot) → ((c : ℕ) (j : Job) → j.id ≡ n → slot_with c (f j) ≡ g (slot_with c j))
      → (jobs : List Job) → IsOldest n jobs
      → (u : ℕ) → slots_of (with_job n f jobs) u ≡ changed_at (slots_of jobs) n.task (g (slots_of jobs n.task)) u
  changed_slots g fits jobs o u = go (n.task == u) refl
    where
      there : slots_of (with_job n f jobs) n.task ≡ g (slots_of jobs n.task)
      there =
          let moved : jobs_of n.task (with_job n f jobs) ≡ map one_changed (o.job ∷ o.others) =
          changed_of jobs n.task ∙ ap (map one_changed) o.is in
          let first : one_changed o.job ≡ f o.job = rw (o.id, same_self n) refl in
          let many : length (map one_changed o.others) ≡ length o.others = length-map o.others one_changed in
          ap slot_of moved
          ∙ ap (λ j. slot_with (length (j ∷ map one_changed o.others)) j) first
          ∙ ap (λ c. slot_with (suc c) (f o.job)) many
          ∙ fits (suc (length o.others)) o.job o.id
          ∙ ap (λ js. g (slot_of js)) (sym o.is)

      go : (b : Bool) → (n.task == u) ≡ b
          → slots_of (with_job n f jobs) u ≡ cond b (g (slots_of jobs n.task)) (slots_of jobs u)
      go true e = subst (λ v. slots_of (with_job n f jobs) v ≡ g (slots_of jobs n.task)) (equal n.task u e) there
      go false e =
          ap slot_of (changed_of jobs u ∙ map_unmoved one_changed (jobs_of u jobs)
          (all_weaker (λ j. Unit {0} × ((j.id.task == u) ≡ true)) (λ j. one_changed j ≡ j) (jobs_of u jobs) (λ j h. other j h.1)
          (all_filter (λ j. Unit {0}) (λ j. j.id.task == u) jobs (all_any (λ j. Unit {0}) jobs (λ j. tt)))))
        where
          other : (j : Job) → (j.id.task == u) ≡ true → one_changed j ≡ j
          other j h = pick (same_id j.id n) refl
            where
              pick : (b : Bool) → same_id j.id n ≡ b → cond b (f j) j ≡ j
              pick false k = refl
              pick true k =
                  absurd
                  (differ n.task u e (ap (λ (m : JobId). m.task) (sym (same_ids j.id n k)) ∙ equal j.id.task u h))

-- one law for all changes of the running job: what it holds or has taken, what it waits for, its context
pub changed_kept : (S : System) (s : State) (n : JobId) (f : Job → Job) (g : Slot → Slot)
    → ((j : Job) → (f j).id ≡ j.id)
    → ((c : ℕ) (j : Job) → j.id ≡ n → slot_with c (f j) ≡ g (slot_with c j)) → s.running ≡ Some n → IsOldest n s.jobs
    → kept S (record s { jobs = with_job n f s.jobs }) ≡ slot_changed n.task g (kept S s)
changed_kept S s n f g keep fits runs o = λ i. record (kept S s) {
  queues = λ l. queues l i;
  slots = λ u. changed_slots n f keep g fits s.jobs o u i;
  gone = changed_gone n f keep s.running s.jobs i;
}
  where
    queues : (l : ℕ) → queue S s.running (with_job n f s.jobs) l ≡ queue S s.running s.jobs l
    queues l =
        subst (λ r. queue S r (with_job n f s.jobs) l ≡ queue S r s.jobs l) (sym runs)
        (changed_queue n f keep S s.jobs l)

-- ---- activation

-- the running job's number was given
abbrev pub IsGiven : List ℕ → Option JobId → Type 0
IsGiven made None = Unit {0}
IsGiven made (Some r) = r.serial < slice_index made r.task

module _ (S : System) (t : ℕ) where
  new_not_running : (made : List ℕ) (running : Option JobId) → IsGiven made running
      → runs running (new_job (record { task = t; serial = slice_index made t })) ≡ false
  new_not_running made None h = refl
  new_not_running made (Some r) h = go (same_id (record { task = t; serial = slice_index made t }) r) refl
    where
      go : (b : Bool) → same_id (record { task = t; serial = slice_index made t }) r ≡ b → b ≡ false
      go false e = refl
      go true e =
          let same : record { task = t; serial = slice_index made t } ≡ r =
          same_ids (record { task = t; serial = slice_index made t }) r e in
          let less : slice_index made t < slice_index made t =
          subst (λ (m : JobId). m.serial < slice_index made m.task) (sym same) h in
          absurd (omega arith)

  appended : (new : Job) (xs : List Job) (b : Bool)
      → map task_of (xs ++ cond b (new ∷ []) []) ≡ cond b (map task_of xs ++ task_of new ∷ []) (map task_of xs)
  appended new xs true = map-append task_of xs (new ∷ [])
  appended new xs false = ap (map task_of) (append-nil xs)

  -- a job that is ready, doesn't run and is at its static priority, is the newest
  pub newest_queue : (running : Option JobId) (jobs : List Job) (new : Job) → runs running new ≡ false
      → waits new ≡ false → dynamic_priority S new ≡ priority_of S t
      → new.id.task ≡ t → (l : ℕ)
      → queue S running (jobs ++ new ∷ []) l ≡ put_newest (queue S running jobs) (priority_of S t) t l
  newest_queue running jobs new idle ready level task l =
      ap (map task_of) (filter-append (is_at S running l) jobs (new ∷ []))
      ∙ rw (idle, ready, level) (appended new (filter (is_at S running l) jobs) (priority_of S t == l))
      ∙ go (priority_of S t == l) refl
    where
      go : (b : Bool) → (priority_of S t == l) ≡ b
          → cond b (queue S running jobs l ++ task_of new ∷ []) (queue S running jobs l)
          ≡ cond b (queue S running jobs (priority_of S t) ++ t ∷ []) (queue S running jobs l)
      go true e =
          ap (λ m. queue S running jobs m ++ task_of new ∷ []) (sym (equal (priority_of S t) l e))
          ∙ ap (λ u. queue S running jobs (priority_of S t) ++ u ∷ []) task
      go false e = refl

  one_slot : (js : List Job) (id : JobId) → slot_of (js ++ new_job id ∷ []) ≡ one_more (slot_of js)
  one_slot [] id = refl
  one_slot (j ∷ js) id =
      let more : length (j ∷ js ++ new_job id ∷ []) ≡ length (j ∷ js) + 1 =
      length-append (j ∷ js) (new_job id ∷ []) in
      ap (λ c. slot_with c j) more

  new_slots : (jobs : List Job) (n : ℕ) (u : ℕ)
      → slots_of (jobs ++ new_job (record { task = t; serial = n }) ∷ []) u
      ≡ changed_at (slots_of jobs) t (one_more (slots_of jobs t)) u
  new_slots jobs n u =
      ap slot_of (filter-append (λ j. j.id.task == u) jobs (new_job (record { task = t; serial = n }) ∷ []))
      ∙ go (t == u) refl
    where
      go : (b : Bool) → (t == u) ≡ b
          → slot_of (jobs_of u jobs ++ cond b (new_job (record { task = t; serial = n }) ∷ []) [])
          ≡ cond b (one_more (slots_of jobs t)) (slots_of jobs u)
      go true e =
          one_slot (jobs_of u jobs) (record { task = t; serial = n })
          ∙ ap (λ v. one_more (slots_of jobs v)) (sym (equal t u e))
      go false e = ap slot_of (append-nil (jobs_of u jobs))

  new_gone : (running : Option JobId) (jobs : List Job) (new : Job) → runs running new ≡ false
      → is_gone running (jobs ++ new ∷ []) ≡ is_gone running jobs
  new_gone None jobs new h = refl
  new_gone (Some r) jobs new h =
      ap not
      (list_any-append (λ j. same_id j.id r) jobs (new ∷ []) ∙ rw h (or_false (list_any (λ j. same_id j.id r) jobs)))
    where
      or_false : (b : Bool) → (b || false) ≡ b
      or_false true = refl
      or_false false = refl

  pub no_jobs : (js : List Job) → is_empty js ≡ ((slot_of js).count == 0)
  no_jobs [] = refl
  no_jobs (j ∷ js) = let e : (length (j ∷ js) == 0) ≡ false = grind arith in sym e

  pub activated_kept : (s : State) → IsGiven s.made s.running → kept S (activated S t s) ≡ activated_in S t (kept S s)
  unfolding activated
  activated_kept s given = λ i. record (kept S s) {
    queues = λ l. newest_queue s.running s.jobs new idle refl level refl l i;
    slots = λ u. new_slots s.jobs (slice_index s.made t) u i;
    gone = new_gone s.running s.jobs new idle i;
    masks = cond (is_extended S t && no_jobs (jobs_of t s.jobs) i) (slice_set s.masks t 0) s.masks;
  }
    where
      new : Job
      new = new_job (record { task = t; serial = slice_index s.made t })

      idle : runs s.running new ≡ false
      idle = new_not_running s.made s.running given

      level : dynamic_priority S new ≡ priority_of S t
      level = idle_priority S new refl refl

-- ---- the running job ends

-- a job that hasn't begun has a fresh context
abbrev pub IsFresh : Job → Type 0
IsFresh j = j.begun ≡ false → j.context ≡ fresh_context

-- of two jobs of one task, what is known of the later
pub record IsLater (j : Job) : Type 0 where
  pub unbegun : j.begun ≡ false
  pub held : j.held ≡ []
  pub taken : j.taken ≡ false
  pub ready : j.waits_for ≡ None
  pub context : j.context ≡ fresh_context

no_wait : (o : Option ℕ) → is_some o ≡ false → o ≡ None
no_wait None h = refl
no_wait (Some m) h = clash h

module _ (S : System) where
  abbrev Both : List ℕ → JobId → List Job → Type 0
  Both made n js =
      AllByRecursion (IsSoundJob S made) js × AllByRecursion IsFresh js × AllByRecursion
      (λ j. Unit {0} × ((j.id.task == n.task) ≡ true)) js × Pairs (IsSoundPair S) js

  -- of each job of a task but the oldest: it is as it was made
  pub others_later : (made : List ℕ) (n : JobId) (jobs : List Job) → AllByRecursion (IsSoundJob S made) jobs
      → AllByRecursion IsFresh jobs → Pairs (IsSoundPair S) jobs
      → (o : IsOldest n jobs) → AllByRecursion (λ k. IsLater k × (same_id k.id n ≡ false)) o.others
  others_later made n jobs each fresh pairs o =
      all_others o.others
      (subst (Both made n) o.is (all_kept (IsSoundJob S made) at jobs each, all_kept IsFresh at jobs fresh, tasks, pairs_kept (IsSoundPair S) at jobs pairs))
    where
      at : Job → Bool
      at j = j.id.task == n.task

      tasks : AllByRecursion (λ j. Unit {0} × ((j.id.task == n.task) ≡ true)) (jobs_of n.task jobs)
      tasks = all_filter (λ j. Unit {0}) (λ j. j.id.task == n.task) jobs (all_any (λ j. Unit {0}) jobs (λ j. tt))

      one : (k : Job) → IsSoundJob S made k → IsFresh k → (k.id.task == n.task) ≡ true → IsSoundPair S o.job k
          → IsLater k × (same_id k.id n ≡ false)
      one k sound fresh task pair = (
        record {
          unbegun = begun;
          held = (sound.idle begun).0;
          taken = (sound.idle begun).1;
          ready = no_wait k.waits_for (never (waits k) refl);
          context = fresh begun;
        },
        ap (λ (m : JobId). same_id k.id m) (sym o.id) ∙ pair.apart,
      )
        where
          same : o.job.id.task ≡ k.id.task
          same = ap (λ (m : JobId). m.task) o.id ∙ sym (equal k.id.task n.task task)

          begun : k.begun ≡ false
          begun = pair.unbegun same

          never : (b : Bool) → waits k ≡ b → waits k ≡ false
          never false e = e
          never true e = clash (sym (sound.extended e) ∙ pair.basic same)

      each_one : (ks : List Job) → AllByRecursion (IsSoundJob S made) ks → AllByRecursion IsFresh ks
          → AllByRecursion (λ j. Unit {0} × ((j.id.task == n.task) ≡ true)) ks
          → AllByRecursion (IsSoundPair S o.job) ks → AllByRecursion (λ k. IsLater k × (same_id k.id n ≡ false)) ks
      each_one [] a b c d = tt
      each_one (k ∷ ks) a b c d = (one k a.0 b.0 c.0.1 d.0, each_one ks a.1 b.1 c.1 d.1)

      all_others : (ks : List Job) → Both made n (o.job ∷ ks)
          → AllByRecursion (λ k. IsLater k × (same_id k.id n ≡ false)) ks
      all_others ks h = each_one ks h.0.1 h.1.1 h.2.1 h.3.0

  later_slot : (ks : List Job) → AllByRecursion (λ k. IsLater k) ks → slot_of ks ≡ unbegun (length ks)
  later_slot [] all = refl
  later_slot (k ∷ ks) all = λ i. record (slot_with (length (k ∷ ks)) k) {
    begun = all.0.unbegun i;
    held = all.0.held i;
    taken = all.0.taken i;
    waits_for = all.0.ready i;
    context = all.0.context i;
  }

  but_queue : (n : JobId) (jobs : List Job) (l : ℕ) → queue S (Some n) (jobs_but n jobs) l ≡ queue S (Some n) jobs l
  but_queue n jobs l = ap (map task_of)
      (filter_twice (is_at S (Some n) l) (λ j. not (same_id j.id n)) jobs
      ∙ filter_same (λ j. not (same_id j.id n) && is_at S (Some n) l j) (is_at S (Some n) l) jobs
      (all_any _ jobs (λ j. go (same_id j.id n) (not (waits j)) (dynamic_priority S j == l))))
    where
      go : (a b c : Bool) → (not a && ((not a && b) && c)) ≡ ((not a && b) && c)
      go true b c = refl
      go false b c = refl

  pub but_of : (n : JobId) (jobs : List Job) (u : ℕ) → jobs_of u (jobs_but n jobs) ≡ jobs_but n (jobs_of u jobs)
  but_of n jobs u = filter_swap (λ j. j.id.task == u) (λ j. not (same_id j.id n)) jobs

  -- a job of another task isn't the one of an id
  pub elsewhere : (n : JobId) (jobs : List Job) (u : ℕ) → (n.task == u) ≡ false
      → AllByRecursion (λ j. same_id j.id n ≡ false) (jobs_of u jobs)
  elsewhere n jobs u e =
      all_weaker (λ j. Unit {0} × ((j.id.task == u) ≡ true)) (λ j. same_id j.id n ≡ false) (jobs_of u jobs)
      (λ j h. other j h.1)
      (all_filter (λ j. Unit {0}) (λ j. j.id.task == u) jobs (all_any (λ j. Unit {0}) jobs (λ j. tt)))
    where
      other : (j : Job) → (j.id.task == u) ≡ true → same_id j.id n ≡ false
      other j h = pick (same_id j.id n) refl
        where
          pick : (b : Bool) → same_id j.id n ≡ b → b ≡ false
          pick false k = refl
          pick true k =
              absurd (differ n.task u e (ap (λ (m : JobId). m.task) (sym (same_ids j.id n k)) ∙ equal j.id.task u h))

  but_slots : (n : JobId) (jobs : List Job) (o : IsOldest n jobs)
      → AllByRecursion (λ k. IsLater k × (same_id k.id n ≡ false)) o.others
      → (u : ℕ)
      → slots_of (jobs_but n jobs) u
      ≡ changed_at (slots_of jobs) n.task (unbegun ((slots_of jobs n.task).count - 1)) u
  but_slots n jobs o later u = go (n.task == u) refl
    where
      there : slots_of (jobs_but n jobs) n.task ≡ unbegun ((slots_of jobs n.task).count - 1)
      there =
          let gone : jobs_but n (o.job ∷ o.others) ≡ o.others =
          rw (o.id, same_self n)
          (filter_all (λ j. not (same_id j.id n)) o.others (all_weaker _ _ o.others (λ k h. ap not h.1) later)) in
          let down : length o.others ≡ length (o.job ∷ o.others) - 1 = omega arith in
          ap slot_of (but_of n jobs n.task ∙ ap (jobs_but n) o.is ∙ gone)
          ∙ later_slot o.others (all_weaker _ _ o.others (λ k h. h.0) later)
          ∙ ap unbegun (down ∙ ap (λ js. (slot_of js).count - 1) (sym o.is))

      go : (b : Bool) → (n.task == u) ≡ b
          → slots_of (jobs_but n jobs) u ≡ cond b (unbegun ((slots_of jobs n.task).count - 1)) (slots_of jobs u)
      go true e =
          subst (λ v. slots_of (jobs_but n jobs) v ≡ unbegun ((slots_of jobs n.task).count - 1))
          (equal n.task u e) there
      go false e =
          ap slot_of
          (but_of n jobs u ∙ filter_all (λ j. not (same_id j.id n)) (jobs_of u jobs) (all_weaker _ _ (jobs_of u jobs) (λ k h. ap not h) (elsewhere n jobs u e)))

  but_gone : (n : JobId) (jobs : List Job) → is_gone (Some n) (jobs_but n jobs) ≡ true
  but_gone n [] = refl
  but_gone n (j ∷ js) = go (same_id j.id n) refl (but_gone n js)
    where
      go : (b : Bool) → same_id j.id n ≡ b → is_gone (Some n) (jobs_but n js) ≡ true
          → is_gone (Some n) (cond (not b) (j ∷ jobs_but n js) (jobs_but n js)) ≡ true
      go true e ih = ih
      go false e ih = rw e ih

  pub ended_kept : (s : State) (n : JobId) → s.running ≡ Some n → AllByRecursion (IsSoundJob S s.made) s.jobs
      → AllByRecursion IsFresh s.jobs → Pairs (IsSoundPair S) s.jobs
      → IsOldest n s.jobs → kept S (ended n s) ≡ ended_in n.task (kept S s)
  ended_kept s n runs each fresh pairs o = λ i. record (kept S s) {
    queues = λ l. queues l i;
    slots = λ u. but_slots n s.jobs o (others_later s.made n s.jobs each fresh pairs o) u i;
    gone = gone i;
  }
    where
      queues : (l : ℕ) → queue S s.running (jobs_but n s.jobs) l ≡ queue S s.running s.jobs l
      queues l = subst (λ r. queue S r (jobs_but n s.jobs) l ≡ queue S r s.jobs l) (sym runs) (but_queue n s.jobs l)

      gone : is_gone s.running (jobs_but n s.jobs) ≡ true
      gone = subst (λ r. is_gone r (jobs_but n s.jobs) ≡ true) (sym runs) (but_gone n s.jobs)
