-- States whose jobs have the same ids in the same order: their stamps, and what is kept of them.
use Rattle.std.proofs.Common.{◌≡◌, ℕ, Bool, not, List, [], ◌∷◌, map, length, refl, sym, ◌∙◌, ap}
use Rattle.std.specs.Prelude.{Option, Some, None, is_some, ◌==◌}
use Rattle.std.specs.Option.{option_map, option_or}
use Rattle.std.proofs.lemmas.List.{length-map}
use Rattle.osek_base.specs.System.{System}
use Rattle.osek_base.specs.State.{Job, JobId, State, same_id, waits, job_of, jobs_of}
use Rattle.osek_base.specs.Blocker.{becomes_ready, is_in_state, waits_in, is_waiting_job, is_job}
use Rattle.law_runs.proofs.Lists.{all_any}
use Rattle.law_kept.specs.Kept.{slot_of, is_gone, kept}
use Rattle.law_kept.proofs.Parts.{filter_moved, any_moved}
use Rattle.law_blockers.specs.Stamps.{Stamps, stamped, stamp_where, listed}
use Rattle.law_blockers.specs.Restamping.{task_waits}
use Rattle.law_blockers.proofs.ReadyLemmas.{map_same, map_twice, found_map}
use Rattle.law_blockers.proofs.RestampedLemmas.{count_is}

module _ (m n : State) (g : Job → Job) (ids : (j : Job) → (g j).id ≡ j.id) (jobs : n.jobs ≡ map g m.jobs) where
  pub jobs_alike : (v : ℕ) → jobs_of v n.jobs ≡ map g (jobs_of v m.jobs)
  jobs_alike v =
      ap (jobs_of v) jobs ∙ filter_moved (λ j. j.id.task == v) g (λ j. ap (λ (i : JobId). i.task == v) (ids j)) m.jobs

  pub listed_alike : (p : Stamps) (v : ℕ) → listed p v n.jobs ≡ listed p v m.jobs
  listed_alike p v =
      ap (map (λ j. p j.id)) (jobs_alike v) ∙ map_twice (λ j. p j.id) g (jobs_of v m.jobs)
      ∙ map_same (λ j. p (g j).id) (λ j. p j.id) (jobs_of v m.jobs)
      (all_any (λ j. p (g j).id ≡ p j.id) (jobs_of v m.jobs) (λ j. ap p (ids j)))

  pub count_alike : (S : System) (v : ℕ) → ((kept S n).slots v).count ≡ ((kept S m).slots v).count
  count_alike S v =
      count_is S n v ∙ ap length (jobs_alike v) ∙ length-map (jobs_of v m.jobs) g ∙ sym (count_is S m v)

  found_alike : (i : JobId) → job_of i n.jobs ≡ option_map g (job_of i m.jobs)
  found_alike i = ap (job_of i) jobs ∙ found_map i g ids m.jobs

  pub there_alike : (i : JobId) → is_in_state n i ≡ is_in_state m i
  there_alike i = ap is_some (found_alike i) ∙ go (job_of i m.jobs)
    where
      go : (o : Option Job) → is_some (option_map g o) ≡ is_some o
      go None = refl
      go (Some j) = refl

  pub gone_alike : (S : System) → n.running ≡ m.running → (kept S n).gone ≡ (kept S m).gone
  gone_alike S running = ap (λ r. is_gone r n.jobs) running ∙ ap (is_gone m.running) jobs ∙ go m.running
    where
      go : (r : Option JobId) → is_gone r (map g m.jobs) ≡ is_gone r m.jobs
      go None = refl
      go (Some r) = ap not (any_moved (λ j. same_id j.id r) g (λ j. ap (λ i. same_id i r) (ids j)) m.jobs)

  -- where waiting is the same too
  module _ (waiting : (j : Job) → waits (g j) ≡ waits j) where
    pub waiting_alike : (i : JobId) → waits_in n i ≡ waits_in m i
    waiting_alike i = ap is_waiting_job (found_alike i) ∙ go (job_of i m.jobs)
      where
        go : (o : Option Job) → is_waiting_job (option_map g o) ≡ is_waiting_job o
        go None = refl
        go (Some j) = waiting j

    pub task_waits_alike : (S : System) (v : ℕ) → task_waits (kept S n) v ≡ task_waits (kept S m) v
    task_waits_alike S v = ap (λ js. is_some (slot_of js).waits_for) (jobs_alike v) ∙ go (jobs_of v m.jobs)
      where
        go : (js : List Job) → is_some (slot_of (map g js)).waits_for ≡ is_some (slot_of js).waits_for
        go [] = refl
        go (j ∷ js) = waiting j

    -- what becomes ready on the way to one of them does on the way to the other
    module _ (s : State) (running : n.running ≡ m.running) (u : ℕ) (p : Stamps) where
      ready_alike : (i : JobId) → becomes_ready s n i ≡ becomes_ready s m i
      ready_alike i = rw (there_alike i, waiting_alike i, ap (λ r. is_job r i) running) refl

      pub stamped_alike : (v : ℕ) → listed (stamped s n u p) v n.jobs ≡ listed (stamped s m u p) v m.jobs
      stamped_alike v =
          listed_alike (stamped s n u p) v
          ∙ map_same (λ j. stamped s n u p j.id) (λ j. stamped s m u p j.id) (jobs_of v m.jobs)
          (all_any (λ j. stamped s n u p j.id ≡ stamped s m u p j.id) (jobs_of v m.jobs)
          (λ j. ap (stamp_of j.id) (ready_alike j.id)))
        where
          stamp_of : JobId → Bool → Option ℕ
          stamp_of i b = option_or (p i) (stamp_where b u)
