-- The stamps of the jobs of each task where the running job changes, and jobs stay.
use Rattle.std.proofs.Common.{◌≡◌, ℕ, Bool, true, false, cond, not, ◌&&◌, ◌||◌, List, ◌∷◌, map, refl, sym, ◌∙◌, ap, subst}
use Rattle.std.specs.Prelude.{Option, Some, None, is_some, ◌==◌}
use Rattle.std.specs.Option.{option_or, option_map}
use Rattle.std.specs.List.{AllByRecursion}
use Rattle.osek_base.specs.System.{System}
use Rattle.osek_base.specs.State.{Job, JobId, State, same_id, waits, job_of, jobs_of}
use Rattle.osek_base.specs.Blocker.{becomes_ready, is_in_state, waits_in, runs_in, is_job, is_waiting_job}
use Rattle.law_runs.proofs.Lists.{all_weaker, all_any}
use Rattle.law_runs.proofs.Foremost.{equal, same_ids, same_self}
use Rattle.law_kept.proofs.JobMoves.{elsewhere}
use Rattle.law_kept.proofs.Parts.{IsOldest}
use Rattle.kernel_stamps.specs.Stamps.{stamp_oldest}
use Rattle.law_blockers.specs.Stamps.{Stamps, stamped, listed}
use Rattle.law_blockers.proofs.ReadyLemmas.{keeps_stamp, map_same, map_twice, found_map, jobs_of_map}
use Rattle.law_runs.proofs.SingleMoves.{other_way}

-- whether the running job of that id is taken out of running though it neither ended nor waits
abbrev pub is_taken_out : State → State → JobId → Bool
is_taken_out s e r = is_in_state s r && not (waits_in s r) && not (runs_in e r)

module _ (S : System) (s e : State) (u : ℕ) (p : Stamps) (g : Job → Job) (ids : (j : Job) → (g j).id
    ≡ j.id) (waiting : (j : Job) → waits (g j) ≡ waits j)
    (jobs : e.jobs ≡ map g s.jobs) where
  kept_found : (n : JobId) → job_of n e.jobs ≡ option_map g (job_of n s.jobs)
  kept_found n = ap (job_of n) jobs ∙ found_map n g ids s.jobs

  becomes : (n : JobId) → becomes_ready s e n ≡ (is_in_state s n && not (waits_in s n) && (runs_in s n && not (runs_in e n)))
  becomes n = rw (kept_found n) (at (job_of n s.jobs) (runs_in s n && not (runs_in e n)))
    where
      at : (o : Option Job) (x : Bool)
          → (is_some (option_map g o) && not (is_waiting_job (option_map g o)) && (not (is_some o) || is_waiting_job o || x))
          ≡ (is_some o && not (is_waiting_job o) && x)
      at None x = refl
      at (Some j) x = rw (waiting j) (two (waits j) x)
        where
          two : (w x : Bool) → (not w && (w || x)) ≡ (not w && x)
          two true x = refl
          two false x = refl

  same_ids_listed : (q : Stamps) (v : ℕ) → listed q v e.jobs ≡ listed q v s.jobs
  same_ids_listed q v =
      ap (listed q v) jobs ∙ ap (map (λ j. q j.id)) (jobs_of_map v g ids s.jobs) ∙ map_twice (λ j. q j.id) g (jobs_of v s.jobs)
      ∙ map_same (λ j. q (g j).id) (λ j. q j.id) (jobs_of v s.jobs) (all_any (λ j. q (g j).id
      ≡ q j.id) (jobs_of v s.jobs) (λ j. ap q (ids j)))

  unless_taken : (a b c : Bool) → c ≡ false → (a && b && c) ≡ false
  unless_taken true true c h = h
  unless_taken true false c h = refl
  unless_taken false b c h = refl

  -- no job ran, so none becomes ready
  pub idle_listed : s.running ≡ None → (v : ℕ) → listed (stamped s e u p) v e.jobs ≡ listed p v s.jobs
  idle_listed idle v =
      same_ids_listed (stamped s e u p) v
      ∙ map_same (λ j. stamped s e u p j.id) (λ j. p j.id) (jobs_of v s.jobs) (all_any (λ j. stamped s e u p j.id
      ≡ p j.id) (jobs_of v s.jobs)
      (λ j. keeps_stamp s e j.id u p
      (becomes j.id
      ∙ unless_taken (is_in_state s j.id) (not (waits_in s j.id)) (runs_in s j.id && not (runs_in e j.id))
      (ap (λ o. is_job o j.id && not (runs_in e j.id)) idle))))

  module _ (r : JobId) (runs : s.running ≡ Some r) where
    other_keeps : (n : JobId) → same_id r n ≡ false → stamped s e u p n ≡ p n
    other_keeps n other =
        keeps_stamp s e n u p
        (becomes n ∙ unless_taken (is_in_state s n) (not (waits_in s n)) (runs_in s n && not (runs_in e n))
        (ap (λ o. is_job o n && not (runs_in e n)) runs ∙ ap (λ b. b && not (runs_in e n)) other))

    own_ready : becomes_ready s e r ≡ is_taken_out s e r
    own_ready = becomes r ∙ rw (runs, same_self r) refl

    -- only its stamp may change
    pub left_alone : is_taken_out s e r ≡ false → (v : ℕ) → listed (stamped s e u p) v e.jobs ≡ listed p v s.jobs
    left_alone none v =
        same_ids_listed (stamped s e u p) v
        ∙ map_same (λ j. stamped s e u p j.id) (λ j. p j.id) (jobs_of v s.jobs) (all_any (λ j. stamped s e u p j.id
        ≡ p j.id) (jobs_of v s.jobs)
        (λ j. each j.id (same_id r j.id) refl))
      where
        each : (n : JobId) (b : Bool) → same_id r n ≡ b → stamped s e u p n ≡ p n
        each n false h = other_keeps n h
        each n true h = subst (λ m. stamped s e u p m ≡ p m) (same_ids r n h) (keeps_stamp s e r u p (own_ready ∙ none))

    pub taken_out_listed : (o : IsOldest r s.jobs) → AllByRecursion (λ k. same_id k.id r ≡ false) o.others
        → is_taken_out s e r ≡ true → (v : ℕ)
        → listed (stamped s e u p) v e.jobs ≡ cond (r.task == v) (stamp_oldest u (listed p v s.jobs)) (listed p v s.jobs)
    taken_out_listed o others out v = same_ids_listed (stamped s e u p) v ∙ go (r.task == v) refl
      where
        stamp_here : (q : Option ℕ) (later : List (Option ℕ)) → option_or q (Some u) ∷ later ≡ stamp_oldest u (q ∷ later)
        stamp_here None later = refl
        stamp_here (Some w) later = refl

        first : stamped s e u p o.job.id ≡ option_or (p o.job.id) (Some u)
        first = ap (stamped s e u p) o.id ∙ rw (own_ready ∙ out) refl ∙ ap (λ n. option_or (p n) (Some u)) (sym o.id)

        here : map (λ j. stamped s e u p j.id) (jobs_of r.task s.jobs) ≡ stamp_oldest u (listed p r.task s.jobs)
        here =
            ap (map (λ j. stamped s e u p j.id)) o.is
            ∙ rw (
              first,
              map_same (λ j. stamped s e u p j.id) (λ j. p j.id) o.others (all_weaker (λ k. same_id k.id r
                  ≡ false) (λ k. stamped s e u p k.id ≡ p k.id) o.others (λ k h. other_keeps k.id (other_way S k.id r h)) others),
            )
            (stamp_here (p o.job.id) (map (λ j. p j.id) o.others))
            ∙ sym (ap (λ js. stamp_oldest u (map (λ j. p j.id) js)) o.is)

        go : (b : Bool) → (r.task == v) ≡ b → map (λ j. stamped s e u p j.id) (jobs_of v s.jobs)
            ≡ cond b (stamp_oldest u (listed p v s.jobs)) (listed p v s.jobs)
        go true h = subst (λ t. map (λ j. stamped s e u p j.id) (jobs_of t s.jobs)
            ≡ stamp_oldest u (listed p t s.jobs)) (equal r.task v h) here
        go false h =
            map_same (λ j. stamped s e u p j.id) (λ j. p j.id) (jobs_of v s.jobs)
            (all_weaker (λ k. same_id k.id r ≡ false) (λ k. stamped s e u p k.id
            ≡ p k.id) (jobs_of v s.jobs) (λ k m. other_keeps k.id (other_way S k.id r m)) (elsewhere S r s.jobs v h))
