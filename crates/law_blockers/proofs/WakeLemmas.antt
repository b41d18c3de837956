-- The stamps of jobs when a job is released, and after two changes one behind the other.
use Rattle.std.proofs.Common.{◌≡◌, ℕ, ◌⊎◌, inl, inr, Bool, true, false, cond, not, ◌&&◌, ◌||◌, [], ◌∷◌, ◌++◌, map, refl, sym, ◌∙◌, ap, subst}
use Rattle.std.specs.Prelude.{Option, Some, None, is_some, ◌==◌}
use Rattle.std.specs.Option.{option_or}
use Rattle.std.proofs.lemmas.List.{append-nil}
use Rattle.std.proofs.lemmas.List.Elements.{filter-append}
use Rattle.std.proofs.lemmas.List.Folds.{find-append}
use Rattle.osek_base.specs.System.{System}
use Rattle.osek_base.specs.State.{Job, JobId, State, same_id, waits, job_of, jobs_of, jobs_but}
use Rattle.osek_base.specs.Activation.{woken}
use Rattle.osek_base.specs.Blocker.{becomes_ready, is_in_state, waits_in, runs_in, is_waiting_job}
use Rattle.law_runs.proofs.Lists.{clash, all_weaker, all_kept}
use Rattle.law_runs.proofs.Foremost.{equal, same_self}
use Rattle.law_kept.proofs.JobMoves.{but_of, elsewhere}
use Rattle.law_kept.proofs.Parts.{filter_all}
use Rattle.kernel_stamps.specs.Stamps.{stamp_oldest}
use Rattle.law_blockers.specs.Stamps.{Stamps, stamp_where, stamped, listed}
use Rattle.law_blockers.proofs.ReadyLemmas.{not_ready, keeps_stamp, map_same, but_found, there_of}
use Rattle.law_runs.proofs.SingleMoves.{other_way}

-- ---- a job that waits is released

module _ (S : System) (s e : State) (u : ℕ) (p : Stamps) (n : JobId) (j : Job) (id : j.id ≡ n) (waiting : waits j ≡ true)
    (found : job_of n s.jobs ≡ Some j) (alone : jobs_of n.task s.jobs ≡ j ∷ []) (jobs : e.jobs
    ≡ jobs_but n s.jobs ++ woken j ∷ [])
    (running : e.running ≡ s.running) where
  or_none : (o : Option Job) → option_or o None ≡ o
  or_none None = refl
  or_none (Some k) = refl

  pub other_found : (m : JobId) → same_id m n ≡ false → job_of m e.jobs ≡ job_of m s.jobs
  other_found m other =
      ap (job_of m) jobs ∙ find-append (λ k. same_id k.id m) (jobs_but n s.jobs) (woken j ∷ [])
      ∙ ap (λ b. option_or (job_of m (jobs_but n s.jobs)) (cond b (Some (woken j)) None)) (ap (λ i. same_id i m) id
      ∙ other_way S m n other)
      ∙ or_none (job_of m (jobs_but n s.jobs)) ∙ but_found n m false other s.jobs

  other_stays : (m : JobId) → same_id m n ≡ false → stamped s e u p m ≡ p m
  other_stays m other =
      keeps_stamp s e m u p
      (not_ready s e m (λ h. sym (ap is_some (other_found m other)) ∙ h) (λ i h. sym (ap is_waiting_job (other_found m other))
      ∙ h)
      (ap (λ o. runs_in (record s { running = o }) m) running))

  pub own_found : job_of n e.jobs ≡ Some (woken j)
  own_found =
      ap (job_of n) jobs ∙ find-append (λ k. same_id k.id n) (jobs_but n s.jobs) (woken j ∷ [])
      ∙ ap (λ o. option_or o (job_of n (woken j ∷ []))) (but_found n n true (same_self n) s.jobs)
      ∙ ap (λ b. cond b (Some (woken j)) None) (ap (λ i. same_id i n) id ∙ same_self n)

  own_ready : becomes_ready s e n ≡ true
  own_ready = rw (own_found, found, waiting) refl

  stamp_here : (q : Option ℕ) → option_or q (Some u) ∷ [] ≡ stamp_oldest u (q ∷ [])
  stamp_here None = refl
  stamp_here (Some w) = refl

  pub released_listed : (v : ℕ) → listed (stamped s e u p) v e.jobs
      ≡ cond (n.task == v) (stamp_oldest u (listed p v s.jobs)) (listed p v s.jobs)
  released_listed v =
      ap (listed (stamped s e u p) v) jobs
      ∙ ap (map (λ k. stamped s e u p k.id)) (filter-append (λ k. k.id.task == v) (jobs_but n s.jobs) (woken j ∷ [])
      ∙ ap (λ js. js ++ jobs_of v (woken j ∷ [])) (but_of S n s.jobs v))
      ∙ ap (λ (i : JobId). map (λ k. stamped s e u p k.id)
      (jobs_but n (jobs_of v s.jobs) ++ cond (i.task == v) (woken j ∷ []) [])) id
      ∙ go (n.task == v) refl
    where
      here : map (λ k. stamped s e u p k.id) (jobs_but n (jobs_of n.task s.jobs) ++ woken j ∷ [])
          ≡ stamp_oldest u (listed p n.task s.jobs)
      here =
          let left : jobs_but n (j ∷ []) ≡ [] = ap (λ b. cond (not b) (j ∷ []) []) (ap (λ i. same_id i n) id ∙ same_self n) in
          ap (λ js. map (λ k. stamped s e u p k.id) (jobs_but n js ++ woken j ∷ [])) alone
          ∙ ap (λ js. map (λ k. stamped s e u p k.id) (js ++ woken j ∷ [])) left
          ∙ ap (λ q. q ∷ []) (ap (stamped s e u p) id ∙ ap (λ b. option_or (p n) (stamp_where b u)) own_ready
          ∙ ap (λ i. option_or (p i) (Some u)) (sym id))
          ∙ stamp_here (p j.id)
          ∙ sym (ap (λ js. stamp_oldest u (map (λ k. p k.id) js)) alone)

      go : (b : Bool) → (n.task == v) ≡ b
          → map (λ k. stamped s e u p k.id) (jobs_but n (jobs_of v s.jobs) ++ cond b (woken j ∷ []) [])
          ≡ cond b (stamp_oldest u (listed p v s.jobs)) (listed p v s.jobs)
      go true h =
          subst (λ t. map (λ k. stamped s e u p k.id) (jobs_but n (jobs_of t s.jobs) ++ woken j ∷ [])
          ≡ stamp_oldest u (listed p t s.jobs)) (equal n.task v h) here
      go false h =
          let none = elsewhere S n s.jobs v h in
          ap (map (λ k. stamped s e u p k.id))
          (append-nil (jobs_but n (jobs_of v s.jobs))
          ∙ filter_all (λ k. not (same_id k.id n)) (jobs_of v s.jobs) (all_weaker (λ k. same_id k.id n
          ≡ false) (λ k. not (same_id k.id n) ≡ true) (jobs_of v s.jobs) (λ k m. ap not m) none))
          ∙ map_same (λ k. stamped s e u p k.id) (λ k. p k.id) (jobs_of v s.jobs)
          (all_weaker (λ k. same_id k.id n ≡ false) (λ k. stamped s e u p k.id
          ≡ p k.id) (jobs_of v s.jobs) (λ k m. other_stays k.id m) none)

-- ---- two changes, of which the first leaves the running job as it is

-- of a job that is there at the end: it was made or released at most once by them, and the second makes none wait
pub record IsOneChange (s m e : State) (n : JobId) : Type 0 where
  pub made : is_in_state e n ≡ true → is_in_state m n ≡ false → is_in_state s n ≡ false
  pub waited : is_in_state e n ≡ true → waits_in m n ≡ true → waits_in e n ≡ false
      → (is_in_state s n ≡ false) ⊎ (waits_in s n ≡ true)
  pub calm : waits_in e n ≡ true → waits_in m n ≡ true
  pub running : runs_in m n ≡ runs_in s n

at_once : (i w r j v a b q : Bool) → (a ≡ true → j ≡ false → i ≡ false)
    → (a ≡ true → v ≡ true → b ≡ false → (i ≡ false) ⊎ (w ≡ true))
    → ((j && not v && (not i || w || (r && not r))) || (a && not b && (not j || v || (r && not q)))) && (a && not b)
    ≡ (a && not b && (not i || w || (r && not q)))
at_once i w r j v false b q made waited = nothing (j && not v && (not i || w || (r && not r)))
  where
    nothing : (x : Bool) → ((x || false) && false) ≡ false
    nothing true = refl
    nothing false = refl
at_once i w r j v true true q made waited = nothing (j && not v && (not i || w || (r && not r)))
  where
    nothing : (x : Bool) → ((x || false) && false) ≡ false
    nothing true = refl
    nothing false = refl
at_once i w r false v true false q made waited = rw (made refl refl) refl
at_once false w r true v true false q made waited = one v
  where
    one : (v : Bool) → (((true && not v && true) || (v || (r && not q))) && true) ≡ true
    one true = refl
    one false = refl
at_once true true r true v true false q made waited = one v
  where
    one : (v : Bool) → (((true && not v && true) || (v || (r && not q))) && true) ≡ true
    one true = refl
    one false = refl
at_once true false r true true true false q made waited = go (waited refl refl refl)
  where
    go : (true ≡ false) ⊎ (false ≡ true) → true ≡ (r && not q)
    go (inl h) = clash h
    go (inr h) = clash (sym h)
at_once true false true true false true false true made waited = refl
at_once true false true true false true false false made waited = refl
at_once true false false true false true false q made waited = refl

module _ (s m e : State) (u : ℕ) (p : Stamps) (n : JobId) (one : IsOneChange s m e n) (there : is_in_state e n ≡ true) where
  both_stamps : (q : Option ℕ) (a b : Bool) → option_or (option_or q (stamp_where a u)) (stamp_where b u)
      ≡ option_or q (stamp_where (a || b) u)
  both_stamps None true b = refl
  both_stamps None false b = refl
  both_stamps (Some v) true b = refl
  both_stamps (Some v) false b = refl

  with_true : (x b : Bool) → b ≡ true → (x && b) ≡ x
  with_true true b h = h
  with_true false b h = refl

  either_step : waits_in e n ≡ false → (becomes_ready s m n || becomes_ready m e n) ≡ becomes_ready s e n
  either_step calm =
      sym (with_true (becomes_ready s m n || becomes_ready m e n) (is_in_state e n && not (waits_in e n))
      (rw (there, calm) refl))
      ∙ ap (λ c. ((is_in_state m n && not (waits_in m n) && (not (is_in_state s n) || waits_in s n || (runs_in s n && not c)))
      || (is_in_state e n && not (waits_in e n) && (not (is_in_state m n) || waits_in m n || (c && not (runs_in e n))))) &&
      (is_in_state e n && not (waits_in e n))) one.running
      ∙ at_once (is_in_state s n) (waits_in s n) (runs_in s n) (is_in_state m n) (waits_in m n) (is_in_state e n)
      (waits_in e n) (runs_in e n) one.made one.waited

  never_ready : (a v x : Bool) → v ≡ true → (a && not v && x) ≡ false
  never_ready true v x h = rw h refl
  never_ready false v x h = refl

  pub stamped_twice : stamped m e u (stamped s m u p) n ≡ stamped s e u p n
  stamped_twice = both_stamps (p n) (becomes_ready s m n) (becomes_ready m e n)
      ∙ ap (λ c. option_or (p n) (stamp_where c u)) (go (waits_in e n) refl)
    where
      go : (b : Bool) → waits_in e n ≡ b → (becomes_ready s m n || becomes_ready m e n) ≡ becomes_ready s e n
      go false h = either_step h
      go true h =
          rw (
            never_ready (is_in_state m n) (waits_in m n)
                (not (is_in_state s n) || waits_in s n || (runs_in s n && not (runs_in m n))) (one.calm h),
            never_ready (is_in_state e n) (waits_in e n)
                (not (is_in_state m n) || waits_in m n || (runs_in m n && not (runs_in e n))) h,
            never_ready (is_in_state e n) (waits_in e n)
                (not (is_in_state s n) || waits_in s n || (runs_in s n && not (runs_in e n))) h,
          ) refl

-- so the stamps of each task's jobs may be taken step by step
pub listed_twice : (s m e : State) (u : ℕ) (p : Stamps) (t : ℕ) → ((n : JobId) → is_in_state e n ≡ true → IsOneChange s m e n)
    → listed (stamped m e u (stamped s m u p)) t e.jobs ≡ listed (stamped s e u p) t e.jobs
listed_twice s m e u p t one =
    map_same (λ j. stamped m e u (stamped s m u p) j.id) (λ j. stamped s e u p j.id) (jobs_of t e.jobs)
    (all_weaker (λ j. is_some (job_of j.id e.jobs) ≡ true) (λ j. stamped m e u (stamped s m u p) j.id
    ≡ stamped s e u p j.id) (jobs_of t e.jobs)
    (λ j there. stamped_twice s m e u p j.id (one j.id there) there)
    (all_kept (λ j. is_some (job_of j.id e.jobs) ≡ true) (λ j. j.id.task == t) e.jobs (there_of e.jobs)))
