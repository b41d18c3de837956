-- The jobs of the upper part: what is found among them, and how changes of jobs are seen from above.
use Rattle.std.proofs.Common.{◌≡◌, ℕ, Bool, true, false, cond, not, ◌&&◌, List, [], ◌∷◌, ◌++◌, map, length, refl, sym, ◌∙◌, ap, ap₂, eqb-true}
use Rattle.std.specs.Prelude.{◌==◌}
use Rattle.std.specs.List.{filter, list_any}
use Rattle.std.specs.Option.{option_map}
use Rattle.osek_base.specs.Lists.{is_empty, without_last}
use Rattle.osek_base.specs.System.{System}
use Rattle.osek_base.specs.State.{Job, JobId, waits, same_id, jobs_of, jobs_but, job_of, with_job}
use Rattle.osek_base.specs.Activation.{woken, new_job}
use Rattle.osek_base.specs.Upper.{is_upper_task}
use Rattle.partition_check.proofs.UpperState.{up_job, up_jobs, is_upper_id, is_upper_job}
use Rattle.partition_check.proofs.ListsUp.{true≢false, filter_swap, filter_weaker, filter_none, find_weaker, filter_map_is, find_map_is, any_map_is, length_map, filter_after_map, map_swap, filter_unseen, is_empty_map}
use Rattle.std.proofs.lemmas.List.Elements.{filter-append}
use Rattle.std.proofs.lemmas.List.{map-append}

-- ---- ids

and_left : (a b : Bool) → (a && b) ≡ true → a ≡ true
and_left true b e = refl
and_left false b e = e

-- one id, one task
pub same_id_task : (a b : JobId) → same_id a b ≡ true → a.task ≡ b.task
same_id_task a b e = eqb-true a.task b.task (and_left (a.task == b.task) (a.serial == b.serial) e)

pub same_id_upper : (S : System) (p : ℕ) (a b : JobId) → same_id a b ≡ true → is_upper_id S p a ≡ is_upper_id S p b
same_id_upper S p a b e = ap (is_upper_task S p) (same_id_task a b e)

-- a change of jobs by id keeps ids
changed_id : (n : JobId) (f : Job → Job) → ((j : Job) → (f j).id ≡ j.id) → (j : Job)
    → (cond (same_id j.id n) (f j) j).id ≡ j.id
changed_id n f keeps j = go (same_id j.id n)
  where
    go : (b : Bool) → (cond b (f j) j).id ≡ j.id
    go true = keeps j
    go false = refl

module _ (S : System) (p : ℕ) where
  -- ---- what is found

  -- the jobs of an upper task
  pub jobs_of_up : (t : ℕ) (jobs : List Job) → is_upper_task S p t ≡ true → jobs_of t (up_jobs S p jobs) ≡ map (up_job S p) (jobs_of t jobs)
  jobs_of_up t jobs high =
      filter_map_is (up_job S p) (λ j. j.id.task == t) (filter (is_upper_job S p) jobs)
      ∙ ap (map (up_job S p)) (filter_weaker (λ j. j.id.task == t) (is_upper_job S p) jobs
      (λ j e. ap (is_upper_task S p) (eqb-true j.id.task t e) ∙ high))

  pub jobs_of_empty_up : (t : ℕ) (jobs : List Job) → is_upper_task S p t ≡ true
      → is_empty (jobs_of t (up_jobs S p jobs)) ≡ is_empty (jobs_of t jobs)
  jobs_of_empty_up t jobs high = ap is_empty (jobs_of_up t jobs high) ∙ is_empty_map (up_job S p) (jobs_of t jobs)

  pub jobs_of_length_up : (t : ℕ) (jobs : List Job) → is_upper_task S p t ≡ true
      → length (jobs_of t (up_jobs S p jobs)) ≡ length (jobs_of t jobs)
  jobs_of_length_up t jobs high = ap length (jobs_of_up t jobs high) ∙ length_map (up_job S p) (jobs_of t jobs)

  any_waits_map : (jobs : List Job) → list_any waits (map (up_job S p) jobs) ≡ list_any waits jobs
  any_waits_map jobs = any_map_is (up_job S p) waits jobs

  pub jobs_of_wait_up : (t : ℕ) (jobs : List Job) → is_upper_task S p t ≡ true
      → list_any waits (jobs_of t (up_jobs S p jobs)) ≡ list_any waits (jobs_of t jobs)
  jobs_of_wait_up t jobs high = ap (list_any waits) (jobs_of_up t jobs high) ∙ any_waits_map (jobs_of t jobs)

  -- the job of an upper id
  pub job_of_up : (n : JobId) (jobs : List Job) → is_upper_id S p n ≡ true
      → job_of n (up_jobs S p jobs) ≡ option_map (up_job S p) (job_of n jobs)
  job_of_up n jobs high =
      find_map_is (up_job S p) (λ j. same_id j.id n) (filter (is_upper_job S p) jobs)
      ∙ ap (option_map (up_job S p)) (find_weaker (λ j. same_id j.id n) (is_upper_job S p) jobs
      (λ j e. same_id_upper S p j.id n e ∙ high))

  -- ---- what changes

  pub append_up : (xs ys : List Job) → up_jobs S p (xs ++ ys) ≡ up_jobs S p xs ++ up_jobs S p ys
  append_up xs ys =
      ap (map (up_job S p)) (filter-append (is_upper_job S p) xs ys)
      ∙ map-append (up_job S p) (filter (is_upper_job S p) xs) (filter (is_upper_job S p) ys)

  append_none : (jobs : List Job) → jobs ++ [] ≡ jobs
  append_none [] = refl
  append_none (j ∷ jobs) = ap (λ l. j ∷ l) (append_none jobs)

  -- a new job of an upper task, and of a lower one
  pub new_up : (n : JobId) (jobs : List Job) → is_upper_id S p n ≡ true
      → up_jobs S p (jobs ++ new_job n ∷ []) ≡ up_jobs S p jobs ++ new_job n ∷ []
  new_up n jobs high =
      append_up jobs (new_job n ∷ [])
      ∙ ap (λ b. up_jobs S p jobs ++ map (up_job S p) (cond b (new_job n ∷ []) [])) high

  pub new_unseen : (n : JobId) (jobs : List Job) → is_upper_id S p n ≡ false
      → up_jobs S p (jobs ++ new_job n ∷ []) ≡ up_jobs S p jobs
  new_unseen n jobs low =
      append_up jobs (new_job n ∷ [])
      ∙ ap (λ b. up_jobs S p jobs ++ map (up_job S p) (cond b (new_job n ∷ []) [])) low
      ∙ append_none (up_jobs S p jobs)

  -- all jobs but one
  pub jobs_but_up : (n : JobId) (jobs : List Job) → up_jobs S p (jobs_but n jobs) ≡ jobs_but n (up_jobs S p jobs)
  jobs_but_up n jobs =
      ap (map (up_job S p)) (filter_swap (is_upper_job S p) (λ j. not (same_id j.id n)) jobs)
      ∙ sym (filter_map_is (up_job S p) (λ j. not (same_id j.id n)) (filter (is_upper_job S p) jobs))

  other_id : (n : JobId) (j : Job) → is_upper_id S p n ≡ false → is_upper_job S p j ≡ true → same_id j.id n ≡ false
  other_id n j low high = go (same_id j.id n) refl
    where
      go : (b : Bool) → same_id j.id n ≡ b → b ≡ false
      go true e = absurd (true≢false (sym high ∙ same_id_upper S p j.id n e ∙ low))
      go false e = refl

  pub jobs_but_unseen : (n : JobId) (jobs : List Job) → is_upper_id S p n ≡ false → up_jobs S p (jobs_but n jobs) ≡ up_jobs S p jobs
  jobs_but_unseen n jobs low =
      ap (map (up_job S p)) (filter_weaker (is_upper_job S p) (λ j. not (same_id j.id n)) jobs
      (λ j high. ap not (other_id n j low high)))

  -- one job is changed
  swapped_change : (n : JobId) (f g : Job → Job) → ((j : Job) → up_job S p (f j) ≡ g (up_job S p j)) → (j : Job)
      → up_job S p (cond (same_id j.id n) (f j) j) ≡ cond (same_id j.id n) (g (up_job S p j)) (up_job S p j)
  swapped_change n f g swaps j = go (same_id j.id n)
    where
      go : (b : Bool) → up_job S p (cond b (f j) j) ≡ cond b (g (up_job S p j)) (up_job S p j)
      go true = swaps j
      go false = refl

  pub with_job_up : (n : JobId) (f g : Job → Job) (jobs : List Job)
      → ((j : Job) → (f j).id ≡ j.id) → ((j : Job) → up_job S p (f j) ≡ g (up_job S p j))
      → up_jobs S p (with_job n f jobs) ≡ with_job n g (up_jobs S p jobs)
  with_job_up n f g jobs keeps swaps =
      ap (map (up_job S p)) (filter_after_map (λ j. cond (same_id j.id n) (f j) j) (is_upper_job S p) jobs
      (λ j. ap (is_upper_id S p) (changed_id n f keeps j)))
      ∙ map_swap (up_job S p) (λ j. cond (same_id j.id n) (f j) j) (λ j. cond (same_id j.id n) (g j) j)
      (filter (is_upper_job S p) jobs) (swapped_change n f g swaps)

  pub with_job_unseen : (n : JobId) (f : Job → Job) (jobs : List Job) → is_upper_id S p n ≡ false
      → ((j : Job) → (f j).id ≡ j.id) → up_jobs S p (with_job n f jobs) ≡ up_jobs S p jobs
  with_job_unseen n f jobs low keeps =
      ap (map (up_job S p)) (filter_unseen (λ j. cond (same_id j.id n) (f j) j) (is_upper_job S p) jobs
      (λ j high. ap (λ b. cond b (f j) j) (other_id n j low high))
      (λ j. ap (is_upper_id S p) (changed_id n f keeps j)))

  -- the job that is released, at the end
  pub woken_up : (n : JobId) (jobs : List Job)
      → up_jobs S p (map woken (filter (λ j. same_id j.id n) jobs)) ≡ map woken (filter (λ j. same_id j.id n) (up_jobs S p jobs))
  woken_up n jobs =
      ap (map (up_job S p)) (filter_after_map woken (is_upper_job S p) (filter (λ j. same_id j.id n) jobs) (λ j. refl))
      ∙ map_swap (up_job S p) woken woken (filter (is_upper_job S p) (filter (λ j. same_id j.id n) jobs)) (λ j. refl)
      ∙ ap (λ l. map woken (map (up_job S p) l)) (filter_swap (is_upper_job S p) (λ j. same_id j.id n) jobs)
      ∙ ap (map woken) (sym (filter_map_is (up_job S p) (λ j. same_id j.id n) (filter (is_upper_job S p) jobs)))

  pub woken_unseen : (n : JobId) (jobs : List Job) → is_upper_id S p n ≡ false
      → up_jobs S p (map woken (filter (λ j. same_id j.id n) jobs)) ≡ []
  woken_unseen n jobs low =
      ap (map (up_job S p)) (filter_after_map woken (is_upper_job S p) (filter (λ j. same_id j.id n) jobs) (λ j. refl)
      ∙ ap (map woken) (filter_none (is_upper_job S p) (λ j. same_id j.id n) jobs (λ j high. other_id n j low high)))

  pub released_jobs_up : (n : JobId) (jobs : List Job)
      → up_jobs S p (jobs_but n jobs ++ map woken (filter (λ j. same_id j.id n) jobs))
      ≡ jobs_but n (up_jobs S p jobs) ++ map woken (filter (λ j. same_id j.id n) (up_jobs S p jobs))
  released_jobs_up n jobs =
      append_up (jobs_but n jobs) (map woken (filter (λ j. same_id j.id n) jobs))
      ∙ ap₂ (λ xs ys. xs ++ ys) (jobs_but_up n jobs) (woken_up n jobs)

  pub released_jobs_unseen : (n : JobId) (jobs : List Job) → is_upper_id S p n ≡ false
      → up_jobs S p (jobs_but n jobs ++ map woken (filter (λ j. same_id j.id n) jobs)) ≡ up_jobs S p jobs
  released_jobs_unseen n jobs low =
      append_up (jobs_but n jobs) (map woken (filter (λ j. same_id j.id n) jobs))
      ∙ ap₂ (λ xs ys. xs ++ ys) (jobs_but_unseen n jobs low) (woken_unseen n jobs low)
      ∙ append_none (up_jobs S p jobs)

-- ---- the changes that services make

pub without_last_map : {X Y : Type 0} (f : X → Y) (xs : List X) → map f (without_last xs) ≡ without_last (map f xs)
without_last_map f [] = refl
without_last_map f (x ∷ []) = refl
without_last_map f (x ∷ y ∷ ys) = ap (λ l. f x ∷ l) (without_last_map f (y ∷ ys))
