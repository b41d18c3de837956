-- The stamps of the jobs of each task where a job more is made.
use Rattle.std.proofs.Common.{◌≡◌, ℕ, ◌<◌, Bool, true, false, cond, List, [], ◌∷◌, ◌++◌, map, refl, sym, ◌∙◌, ap, subst, arith}
use Rattle.std.specs.Prelude.{Option, Some, None, is_some, ◌==◌, slice_index}
use Rattle.std.specs.Option.{option_or}
use Rattle.std.specs.List.{find, AllByRecursion}
use Rattle.std.proofs.lemmas.List.{map-append}
use Rattle.std.proofs.lemmas.List.Elements.{filter-append}
use Rattle.std.proofs.lemmas.List.Folds.{find-append}
use Rattle.osek_base.specs.System.{System}
use Rattle.osek_base.specs.State.{Job, JobId, State, same_id, job_of, jobs_of}
use Rattle.osek_base.specs.Activation.{activated, new_job}
use Rattle.osek_base.specs.Blocker.{becomes_ready, runs_in, is_waiting_job}
use Rattle.law_runs.proofs.Lists.{clash, all_weaker, all_kept}
use Rattle.law_runs.proofs.Foremost.{same_ids, same_self}
use Rattle.law_runs.proofs.Single.{IsSingle, IsSoundJob}
use Rattle.law_blockers.specs.Stamps.{Stamps, stamped, listed}
use Rattle.law_blockers.proofs.ReadyLemmas.{not_ready, keeps_stamp, map_same, there_of}

module _ (S : System) (s : State) (u t : ℕ) (p : Stamps) (single : IsSingle S s) where
  abbrev pub made_id : JobId
  made_id = record { task = t; serial = slice_index s.made t }

  abbrev pub made_state : State
  made_state = activated S t s

  made_jobs : made_state.jobs ≡ s.jobs ++ new_job (record { task = t; serial = slice_index s.made t }) ∷ []
  unfolding activated
  made_jobs = refl

  made_running : made_state.running ≡ s.running
  unfolding activated
  made_running = refl

  older_keep : (j : Job) → is_some (job_of j.id s.jobs) ≡ true → stamped s made_state u p j.id ≡ p j.id
  older_keep j there =
      keeps_stamp s made_state j.id u p
      (not_ready s made_state j.id (λ h. there) (λ i h. sym (ap is_waiting_job found)
      ∙ h) (ap (λ o. runs_in (record s { running = o }) j.id) made_running))
    where
      found : job_of j.id made_state.jobs ≡ job_of j.id s.jobs
      found =
          ap (job_of j.id) made_jobs
          ∙ find-append (λ k. same_id k.id j.id) s.jobs (new_job (record { task = t; serial = slice_index s.made t }) ∷ [])
          ∙ go (job_of j.id s.jobs) there
        where
          go : (o : Option Job) → is_some o ≡ true
              → option_or o
              (find (λ k. same_id k.id j.id) (new_job (record { task = t; serial = slice_index s.made t }) ∷ [])) ≡ o
          go None h = clash (sym h)
          go (Some k) h = refl

  older_listed : (v : ℕ) → map (λ j. stamped s made_state u p j.id) (jobs_of v s.jobs) ≡ listed p v s.jobs
  older_listed v =
      map_same (λ j. stamped s made_state u p j.id) (λ j. p j.id) (jobs_of v s.jobs)
      (all_weaker (λ j. is_some (job_of j.id s.jobs) ≡ true) (λ j. stamped s made_state u p j.id
      ≡ p j.id) (jobs_of v s.jobs) older_keep
      (all_kept (λ j. is_some (job_of j.id s.jobs) ≡ true) (λ j. j.id.task == v) s.jobs (there_of s.jobs)))

  pub none_found : (n : JobId) (jobs : List Job) → AllByRecursion (λ j. same_id j.id n ≡ false) jobs → job_of n jobs ≡ None
  none_found n [] all = refl
  none_found n (j ∷ jobs) all = rw (all.0) (none_found n jobs all.1)

  pub unmade : (j : Job) → IsSoundJob S s.made j → same_id j.id made_id ≡ false
  unmade j sound = go (same_id j.id made_id) refl
    where
      go : (b : Bool) → same_id j.id made_id ≡ b → b ≡ false
      go false e = refl
      go true e =
          let same : j.id ≡ made_id = same_ids j.id made_id e in
          let less : slice_index s.made t < slice_index s.made t = subst
          (λ (m : JobId). m.serial < slice_index s.made m.task) same sound.given in
          absurd (omega (arith, less))

  newest_stamped : p (record { task = t; serial = slice_index s.made t }) ≡ None
      → stamped s made_state u p (record { task = t; serial = slice_index s.made t }) ≡ Some u
  newest_stamped none = rw (none, ready) refl
    where
      id : JobId
      id = record { task = t; serial = slice_index s.made t }

      absent : job_of id s.jobs ≡ None
      absent = none_found id s.jobs (all_weaker (IsSoundJob S s.made) (λ j. same_id j.id id ≡ false) s.jobs unmade single.each)

      there : job_of id made_state.jobs ≡ Some (new_job id)
      there =
          ap (job_of id) made_jobs ∙ find-append (λ k. same_id k.id id) s.jobs (new_job id ∷ [])
          ∙ rw (absent, same_self id) refl

      ready : becomes_ready s made_state id ≡ true
      ready = rw (there, absent) refl

  -- a new job's stamp stands behind those of its task
  pub activated_listed : p (record { task = t; serial = slice_index s.made t }) ≡ None → (v : ℕ)
      → listed (stamped s made_state u p) v made_state.jobs
      ≡ cond (t == v) (listed p v s.jobs ++ Some u ∷ []) (listed p v s.jobs)
  activated_listed none v =
      ap (listed (stamped s made_state u p) v) made_jobs
      ∙ ap (map (λ j. stamped s made_state u p j.id))
      (filter-append (λ j. j.id.task == v) s.jobs (new_job (record { task = t; serial = slice_index s.made t }) ∷ []))
      ∙ map-append (λ j. stamped s made_state u p j.id) (jobs_of v s.jobs)
      (jobs_of v (new_job (record { task = t; serial = slice_index s.made t }) ∷ []))
      ∙ rw (older_listed v) (go (t == v))
    where
      nothing_more : (xs : List (Option ℕ)) → xs ++ [] ≡ xs
      nothing_more [] = refl
      nothing_more (x ∷ xs) = ap (λ ys. x ∷ ys) (nothing_more xs)

      go : (b : Bool)
          → listed p v s.jobs ++ map (λ j. stamped s made_state u p j.id)
          (cond b (new_job (record { task = t; serial = slice_index s.made t }) ∷ []) [])
          ≡ cond b (listed p v s.jobs ++ Some u ∷ []) (listed p v s.jobs)
      go true = ap (λ q. listed p v s.jobs ++ q ∷ []) (newest_stamped none)
      go false = nothing_more (listed p v s.jobs)
