-- The stamps of the jobs of each task through each change of jobs.
use Rattle.std.proofs.Common.{◌≡◌, ℕ, Bool, true, false, cond, not, ◌&&◌, ◌||◌, List, [], ◌∷◌, map, refl, sym, ◌∙◌, ap, subst}
use Rattle.std.specs.Prelude.{Option, Some, None, is_some, ◌==◌}
use Rattle.std.specs.Option.{option_or, option_map}
use Rattle.std.specs.List.{AllByRecursion}
use Rattle.osek_base.specs.System.{System}
use Rattle.osek_base.specs.State.{Job, JobId, State, same_id, waits, job_of, jobs_of, jobs_but}
use Rattle.osek_base.specs.Blocker.{becomes_ready, is_in_state, waits_in, runs_in, is_waiting_job}
use Rattle.law_runs.proofs.Lists.{clash, all_weaker, all_any}
use Rattle.law_runs.proofs.Foremost.{equal, same_ids, same_self}
use Rattle.law_kept.proofs.JobMoves.{but_of, elsewhere}
use Rattle.law_kept.proofs.Parts.{IsOldest, filter_all}
use Rattle.kernel_stamps.specs.Stamps.{without_oldest}
use Rattle.law_blockers.specs.Stamps.{Stamps, stamped, listed}

-- ---- who becomes ready

-- a job that was there, whose waiting didn't end, and that runs or not as before, doesn't become ready
unready : (i w r j v q : Bool) → (j ≡ true → i ≡ true) → (j ≡ true → v ≡ false → w ≡ false) → q ≡ r
    → (j && (not v && (not i || (w || (r && not q))))) ≡ false
unready i w r false v q there waiting same = refl
unready i w r true true q there waiting same = refl
unready i w true true false true there waiting same = rw (there refl, waiting refl refl) refl
unready i w false true false q there waiting same = rw (there refl, waiting refl refl) refl
unready i w true true false false there waiting same = clash (sym same)

module _ (s e : State) (n : JobId) where
  pub not_ready : (is_in_state e n ≡ true → is_in_state s n ≡ true)
      → (is_in_state e n ≡ true → waits_in e n ≡ false → waits_in s n ≡ false) → runs_in e n ≡ runs_in s n
      → becomes_ready s e n ≡ false
  not_ready there waiting same =
      shape (is_in_state s n) (waits_in s n) (runs_in s n) (is_in_state e n) (waits_in e n) (runs_in e n)
      ∙ unready (is_in_state s n) (waits_in s n) (runs_in s n) (is_in_state e n) (waits_in e n) (runs_in e n) there waiting same
    where
      shape : (i w r j v q : Bool) → (j && not v && (not i || w || (r && not q)))
          ≡ (j && (not v && (not i || (w || (r && not q)))))
      shape i w r j v q = go i w j v
        where
          go : (i w j v : Bool) → (j && not v && (not i || w || (r && not q)))
              ≡ (j && (not v && (not i || (w || (r && not q)))))
          go true w true v = refl
          go i w false v = refl
          go false w true v = refl

  pub keeps_stamp : (u : ℕ) (p : Stamps) → becomes_ready s e n ≡ false → stamped s e u p n ≡ p n
  keeps_stamp u p h = rw h (none (p n))
    where
      none : (o : Option ℕ) → option_or o None ≡ o
      none None = refl
      none (Some v) = refl

-- ---- lists of jobs

pub map_same : {X Y : Type 0} (f g : X → Y) (xs : List X) → AllByRecursion (λ x. f x ≡ g x) xs → map f xs ≡ map g xs
map_same f g [] all = refl
map_same f g (x ∷ xs) all = rw (all.0, map_same f g xs all.1) refl

pub map_twice : {X Y Z : Type 0} (f : Y → Z) (g : X → Y) (xs : List X) → map f (map g xs) ≡ map (λ x. f (g x)) xs
map_twice f g [] = refl
map_twice f g (x ∷ xs) = ap (λ ys. f (g x) ∷ ys) (map_twice f g xs)

pub found_map : (n : JobId) (g : Job → Job) → ((j : Job) → (g j).id ≡ j.id) → (jobs : List Job) → job_of n (map g jobs)
    ≡ option_map g (job_of n jobs)
found_map n g ids [] = refl
found_map n g ids (j ∷ jobs) =
    ap (λ (m : JobId). cond (same_id m n) (Some (g j)) (job_of n (map g jobs))) (ids j)
    ∙ go (same_id j.id n) (found_map n g ids jobs)
  where
    go : (b : Bool) → job_of n (map g jobs) ≡ option_map g (job_of n jobs)
        → cond b (Some (g j)) (job_of n (map g jobs)) ≡ option_map g (cond b (Some j) (job_of n jobs))
    go true e = refl
    go false e = e

-- a change that keeps ids keeps which jobs are a task's
pub jobs_of_map : (t : ℕ) (g : Job → Job) → ((j : Job) → (g j).id ≡ j.id) → (jobs : List Job) → jobs_of t (map g jobs)
    ≡ map g (jobs_of t jobs)
jobs_of_map t g ids [] = refl
jobs_of_map t g ids (j ∷ jobs) =
    ap (λ (m : JobId). cond (m.task == t) (g j ∷ jobs_of t (map g jobs)) (jobs_of t (map g jobs))) (ids j)
    ∙ go (j.id.task == t) (jobs_of_map t g ids jobs)
  where
    go : (b : Bool) → jobs_of t (map g jobs) ≡ map g (jobs_of t jobs)
        → cond b (g j ∷ jobs_of t (map g jobs)) (jobs_of t (map g jobs)) ≡ map g (cond b (j ∷ jobs_of t jobs) (jobs_of t jobs))
    go true h = ap (λ js. g j ∷ js) h
    go false h = h

-- a job of a list is found by its id
pub there_of : (jobs : List Job) → AllByRecursion (λ j. is_some (job_of j.id jobs) ≡ true) jobs
there_of [] = tt
there_of (x ∷ jobs) = (
  rw (same_self x.id) refl,
  all_weaker (λ j. is_some (job_of j.id jobs) ≡ true) (λ j. is_some (job_of j.id (x ∷ jobs))
      ≡ true) jobs (λ j h. go (same_id x.id j.id) (job_of j.id jobs) h) (there_of jobs),
)
  where
    go : (b : Bool) (o : Option Job) → is_some o ≡ true → is_some (cond b (Some x) o) ≡ true
    go true o h = refl
    go false o h = h

-- ---- a change of a job where it stands, by which nobody stops waiting

module _ (s e : State) (u : ℕ) (p : Stamps) (g : Job → Job) (ids : (j : Job) → (g j).id ≡ j.id)
    (waiting : (j : Job) → waits (g j) ≡ false → waits j ≡ false) (jobs : e.jobs ≡ map g s.jobs) (running : e.running
    ≡ s.running) where
  changed_found : (n : JobId) → job_of n e.jobs ≡ option_map g (job_of n s.jobs)
  changed_found n = ap (job_of n) jobs ∙ found_map n g ids s.jobs

  changed_keeps : (n : JobId) → stamped s e u p n ≡ p n
  changed_keeps n =
      keeps_stamp s e n u p (not_ready s e n (λ h. some (job_of n s.jobs) (sym (ap is_some (changed_found n)) ∙ h))
      (λ i h. still (job_of n s.jobs) (sym (ap is_waiting_job (changed_found n)) ∙ h)) (ap (λ o. is_running o) running))
    where
      is_running : Option JobId → Bool
      is_running o = runs_in (record s { running = o }) n

      some : (o : Option Job) → is_some (option_map g o) ≡ true → is_some o ≡ true
      some None h = h
      some (Some j) h = refl

      still : (o : Option Job) → is_waiting_job (option_map g o) ≡ false → is_waiting_job o ≡ false
      still None h = refl
      still (Some j) h = waiting j h

  -- all stamps stay
  pub changed_listed : (t : ℕ) → listed (stamped s e u p) t e.jobs ≡ listed p t s.jobs
  changed_listed t =
      ap (listed (stamped s e u p) t) jobs ∙ ap (map (λ j. stamped s e u p j.id)) (jobs_of_map t g ids s.jobs)
      ∙ map_twice (λ j. stamped s e u p j.id) g (jobs_of t s.jobs)
      ∙ map_same (λ j. stamped s e u p (g j).id) (λ j. p j.id) (jobs_of t s.jobs)
      (all_any (λ j. stamped s e u p (g j).id ≡ p j.id) (jobs_of t s.jobs) (λ j. ap (stamped s e u p) (ids j)
      ∙ changed_keeps j.id))

-- ---- the oldest job of a task ends

pub but_found : (r n : JobId) (b : Bool) → same_id n r ≡ b → (jobs : List Job) → job_of n (jobs_but r jobs)
    ≡ cond b None (job_of n jobs)
but_found r n b e [] = go b
  where
    go : (b : Bool) → None ≡ cond b None (job_of n [])
    go true = refl
    go false = refl
but_found r n b e (x ∷ jobs) = go (same_id x.id r) (same_id x.id n) refl refl b e (but_found r n b e jobs)
  where
    go : (c d : Bool) → same_id x.id r ≡ c → same_id x.id n ≡ d → (b : Bool) → same_id n r ≡ b → job_of n (jobs_but r jobs)
        ≡ cond b None (job_of n jobs)
        → job_of n (cond (not c) (x ∷ jobs_but r jobs) (jobs_but r jobs)) ≡ cond b None (cond d (Some x) (job_of n jobs))
    go true true h k true e rest = rest
    go true true h k false e rest = clash (sym h ∙ ap (λ m. same_id m r) (same_ids x.id n k) ∙ e)
    go true false h k true e rest = rest
    go true false h k false e rest = rest
    go false true h k true e rest = clash (sym e ∙ ap (λ m. same_id m r) (sym (same_ids x.id n k)) ∙ h)
    go false true h k false e rest = rw k refl
    go false false h k true e rest = rw k rest
    go false false h k false e rest = rw k rest

module _ (S : System) (s e : State) (u : ℕ) (p : Stamps) (r : JobId) (jobs : e.jobs ≡ jobs_but r s.jobs) (running : e.running
    ≡ s.running) where
  ended_keeps : (n : JobId) → stamped s e u p n ≡ p n
  ended_keeps n =
      keeps_stamp s e n u p (not_ready s e n (λ h. there (same_id n r) (sym (ap is_some (found (same_id n r) refl)) ∙ h))
      (λ i h. still (same_id n r) (sym (ap is_some (found (same_id n r) refl))
      ∙ i) (sym (ap is_waiting_job (found (same_id n r) refl)) ∙ h))
      (ap (λ o. runs_in (record s { running = o }) n) running))
    where
      found : (b : Bool) → same_id n r ≡ b → job_of n e.jobs ≡ cond b None (job_of n s.jobs)
      found b h = ap (job_of n) jobs ∙ but_found r n b h s.jobs

      there : (b : Bool) → is_some (cond b None (job_of n s.jobs)) ≡ true → is_some (job_of n s.jobs) ≡ true
      there true h = clash (sym h)
      there false h = h

      still : (b : Bool) → is_some (cond b None (job_of n s.jobs)) ≡ true → is_waiting_job (cond b None (job_of n s.jobs))
          ≡ false → is_waiting_job (job_of n s.jobs) ≡ false
      still true i h = clash (sym i)
      still false i h = h

  pub ended_listed : (o : IsOldest r s.jobs) → AllByRecursion (λ k. same_id k.id r ≡ false) o.others → (v : ℕ)
      → listed (stamped s e u p) v e.jobs ≡ cond (r.task == v) (without_oldest (listed p v s.jobs)) (listed p v s.jobs)
  ended_listed o others v =
      ap (listed (stamped s e u p) v) jobs ∙ ap (map (λ j. stamped s e u p j.id)) (but_of S r s.jobs v)
      ∙ map_same (λ j. stamped s e u p j.id) (λ j. p j.id) (jobs_but r (jobs_of v s.jobs)) (all_any (λ j. stamped s e u p j.id
      ≡ p j.id) (jobs_but r (jobs_of v s.jobs)) (λ j. ended_keeps j.id))
      ∙ go (r.task == v) refl
    where
      oldest_goes : map (λ j. p j.id) (jobs_but r (jobs_of r.task s.jobs)) ≡ without_oldest (listed p r.task s.jobs)
      oldest_goes =
          let gone : jobs_but r (o.job ∷ o.others) ≡ o.others =
          rw (o.id, same_self r)
          (filter_all (λ j. not (same_id j.id r)) o.others (all_weaker (λ k. same_id k.id r
          ≡ false) (λ k. not (same_id k.id r) ≡ true) o.others (λ k h. ap not h) others)) in
          ap (λ js. map (λ j. p j.id) (jobs_but r js)) o.is ∙ ap (map (λ j. p j.id)) gone
          ∙ sym (ap (λ js. without_oldest (map (λ j. p j.id) js)) o.is)

      go : (b : Bool) → (r.task == v) ≡ b → map (λ j. p j.id) (jobs_but r (jobs_of v s.jobs))
          ≡ cond b (without_oldest (listed p v s.jobs)) (listed p v s.jobs)
      go true h =
          subst (λ t. map (λ j. p j.id) (jobs_but r (jobs_of t s.jobs))
          ≡ without_oldest (listed p t s.jobs)) (equal r.task v h) oldest_goes
      go false h =
          ap (map (λ j. p j.id))
          (filter_all (λ j. not (same_id j.id r)) (jobs_of v s.jobs) (all_weaker (λ k. same_id k.id r
          ≡ false) (λ k. not (same_id k.id r) ≡ true) (jobs_of v s.jobs) (λ k m. ap not m) (elsewhere S r s.jobs v h)))
