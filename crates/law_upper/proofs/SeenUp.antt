-- What is seen of the upper part of a state is seen of it in the upper core.
use Rattle.std.proofs.Common.{◌≡◌, ℕ, ◌<◌, Bool, true, false, cond, List, [], ◌∷◌, map, length, refl, sym, ◌∙◌, ap, ap₂, arith, eqb-true, ne_eqb}
use Rattle.std.specs.Prelude.{Option, Some, None, ◌==◌}
use Rattle.std.specs.List.{find, AllByRecursion}
use Rattle.std.specs.Option.{option_map}
use Rattle.osek_base.specs.declared.ids.ResId.{ResId}
use Rattle.osek_base.specs.declared.ids.Owner.{Owner}
use Rattle.osek_base.specs.Lists.{below}
use Rattle.osek_base.specs.System.{System}
use Rattle.osek_base.specs.State.{Job, JobId, Active, State, same_id, job_of, jobs_of}
use Rattle.osek_base.specs.Priority.{dynamic_priority}
use Rattle.osek_base.specs.Service.{holds}
use Rattle.osek_base.specs.Tick.{job_caller, running_caller, caller_of}
use Rattle.osek_base.specs.Upper.{is_upper_task, is_upper_alarm}
use Rattle.osek_base.specs.Agree.{rank, renumbered_resource, upper_core}
use Rattle.osek_base.specs.Proper.{IsProper}
use Rattle.osek_base.specs.Separable.{first_of_list}
use Rattle.osek_base.proofs.ForemostLemmas.{keep}
use Rattle.partition_check.proofs.UpperState.{up, up_job, up_jobs, is_upper_id, is_upper_job, upper_count}
use Rattle.partition_check.proofs.Shared.{IsCounterpart, IsLayered, IsLayeredJob, is_visible}
use Rattle.partition_check.proofs.CoreFacts.{lt_true, lt_false, upper_tasks_first}
use Rattle.partition_check.proofs.ListsUp.{true≢false, find_weaker, all_filter, all_pass, all_weaken, all_both, each_below}
use Rattle.partition_check.proofs.PriorityUp.{dynamic_up, held_visible, upper_tasks_first as each_first}
use Rattle.partition_check.proofs.JobsUp.{same_id_task, jobs_of_up, job_of_up}
use Rattle.partition_check.proofs.RefusalsUp.{any_same_up, holders_upper, count_up}
use Rattle.partition_check.proofs.AlarmsUp.{expiry_up}
use Rattle.law_kept.specs.Kept.{slot_of}
use Rattle.law_kept.specs.KeptService.{holds_in}
use Rattle.law_future.specs.Spans.{resource_of}
use Rattle.law_upper.specs.StatesAbove.{holder, oldest_job, but_held, counts_from, counts_left, is_caller, executes}

first_map : {X Y : Type 0} (f : X → Y) (xs : List X)
    → first_of_list (map f xs) ≡ option_map f (first_of_list xs)
first_map f [] = refl
first_map f (x ∷ xs) = refl

-- who holds a resource, by the jobs of a state
abbrev pub is_held_by : ResId → Option Job → Bool
is_held_by r None = false
is_held_by r (Some j) = holds j r

abbrev pub holder_of : System → State → ResId → Option ℕ
holder_of S s r = find (λ t. is_held_by r (oldest_job s t)) (below (length S.tasks))

held_kept : (r : ResId) (js : List Job)
    → holds_in r (slot_of js) ≡ is_held_by r (first_of_list js)
held_kept r [] = refl
held_kept r (j ∷ js) = refl

holder_kept : (S : System) (s : State) (r : ℕ) → holder S s r ≡ holder_of S s (resource_of S r)
holder_kept S s r =
    λ i. find (λ t. held_kept (resource_of S r) (jobs_of t s.jobs) i) (below (length S.tasks))

pub holder_declared : (S : System) (s : State) (r : ℕ) → r < length S.resources
    → holder S s r ≡ holder_of S s (ResId.Declared r)
holder_declared S s r inside =
    holder_kept S s r
    ∙ ap (λ b. holder_of S s (cond b (ResId.Declared r) ResId.Scheduler))
    (lt_true r (length S.resources) inside)

pub holder_scheduler : (S : System) (s : State)
    → holder S s (length S.resources) ≡ holder_of S s ResId.Scheduler
holder_scheduler S s =
    holder_kept S s (length S.resources)
    ∙ ap (λ b. holder_of S s (cond b (ResId.Declared (length S.resources)) ResId.Scheduler))
    (lt_false (length S.resources) (length S.resources) (omega arith))

find_same : (f g : ℕ → Bool) (ns : List ℕ) → AllByRecursion (λ n. f n ≡ g n) ns
    → find f ns ≡ find g ns
find_same f g [] all = refl
find_same f g (n ∷ ns) all = ap₂ (λ b o. cond b (Some n) o) all.0 (find_same f g ns all.1)

some_same : (k j : Job) → Some k ≡ Some j → k ≡ j
some_same k j e = grind (arith, e)

module _ (S : System) (p : ℕ) (both : IsCounterpart S p) (proper : IsProper S) (s : State)
    (layered : IsLayered S p s) where
  -- ---- the oldest job of an upper task

  abbrev pub IsUpperJob : Job → Type 0
  IsUpperJob j = IsLayeredJob S p j × (is_upper_job S p j ≡ true)

  upper_jobs : (t : ℕ) → is_upper_task S p t ≡ true → AllByRecursion IsUpperJob (jobs_of t s.jobs)
  upper_jobs t high =
      all_both (IsLayeredJob S p) (λ j. is_upper_job S p j ≡ true) (jobs_of t s.jobs)
      (all_filter (IsLayeredJob S p) (λ j. j.id.task == t) s.jobs layered.jobs)
      (all_weaken (λ j. (j.id.task == t) ≡ true) (λ j. is_upper_job S p j ≡ true) (jobs_of t s.jobs)
      (λ j e. ap (is_upper_task S p) (eqb-true j.id.task t e) ∙ high)
      (all_pass (λ j. j.id.task == t) s.jobs))

  oldest_is : (t : ℕ) → is_upper_task S p t ≡ true
      → oldest_job (up S p s) t ≡ option_map (up_job S p) (oldest_job s t)
  oldest_is t high =
      ap first_of_list (jobs_of_up S p t s.jobs high) ∙ first_map (up_job S p) (jobs_of t s.jobs)

  pub oldest_up : (t : ℕ) → is_upper_task S p t ≡ true
      → option_map but_held (oldest_job (up S p s) t) ≡ option_map but_held (oldest_job s t)
  oldest_up t high = ap (option_map but_held) (oldest_is t high) ∙ go (oldest_job s t)
    where
      go : (o : Option Job)
          → option_map but_held (option_map (up_job S p) o) ≡ option_map but_held o
      go None = refl
      go (Some j) = refl

  pub priority_up : (t : ℕ) → is_upper_task S p t ≡ true
      → option_map (dynamic_priority (upper_core S p)) (oldest_job (up S p s) t)
      ≡ option_map (dynamic_priority S) (oldest_job s t)
  priority_up t high =
      ap (option_map (dynamic_priority (upper_core S p))) (oldest_is t high)
      ∙ go (jobs_of t s.jobs) (upper_jobs t high)
    where
      go : (js : List Job) → AllByRecursion IsUpperJob js
          → option_map (dynamic_priority (upper_core S p))
          (option_map (up_job S p) (first_of_list js))
          ≡ option_map (dynamic_priority S) (first_of_list js)
      go [] all = refl
      go (j ∷ js) all = ap Some (dynamic_up S p both j all.0.0 all.0.1)

  -- ---- holders

  held_up : (r : ResId) (t : ℕ) → is_visible S p r ≡ true → is_upper_task S p t ≡ true
      → is_held_by (renumbered_resource S p r) (oldest_job (up S p s) t)
      ≡ is_held_by r (oldest_job s t)
  held_up r t seen high =
      ap (is_held_by (renumbered_resource S p r)) (oldest_is t high)
      ∙ go (jobs_of t s.jobs) (upper_jobs t high)
    where
      go : (js : List Job) → AllByRecursion IsUpperJob js
          → is_held_by (renumbered_resource S p r) (option_map (up_job S p) (first_of_list js))
          ≡ is_held_by r (first_of_list js)
      go [] all = refl
      go (j ∷ js) all = any_same_up S p both j.held r (held_visible S p j all.0.0 all.0.1) seen

  -- what is visible is held by upper tasks alone
  holder_upper : (r : ResId) (t : ℕ) → is_visible S p r ≡ true
      → is_held_by r (oldest_job s t) ≡ true → is_upper_task S p t ≡ true
  holder_upper r t seen =
      go (jobs_of t s.jobs)
      (all_filter (λ j. holds j r ≡ true → is_upper_job S p j ≡ true) (λ j. j.id.task == t) s.jobs
      (holders_upper S p both r seen s.jobs layered.jobs))
      (all_pass (λ j. j.id.task == t) s.jobs)
    where
      go : (js : List Job) → AllByRecursion (λ j. holds j r ≡ true → is_upper_job S p j ≡ true) js
          → AllByRecursion (λ j. (j.id.task == t) ≡ true) js
          → is_held_by r (first_of_list js) ≡ true → is_upper_task S p t ≡ true
      go [] all own h = absurd (true≢false (sym h))
      go (j ∷ js) all own h = ap (is_upper_task S p) (sym (eqb-true j.id.task t own.0)) ∙ all.0 h

  pub holder_up : (r : ResId) → is_visible S p r ≡ true
      → holder_of (upper_core S p) (up S p s) (renumbered_resource S p r) ≡ holder_of S s r
  holder_up r seen =
      let theirs : ℕ → Bool = λ t. is_held_by (renumbered_resource S p r)
      (oldest_job (up S p s) t) in
      let mine : ℕ → Bool = λ t. is_held_by r (oldest_job s t) in
      ap (λ n. find theirs (below n)) both.task_count
      ∙ find_same theirs mine (below (upper_count S p))
      (each_below (λ t. theirs t ≡ mine t) (upper_count S p)
      (λ t first. held_up r t seen (each_first S p both t first)))
      ∙ ap (find mine) (sym (upper_tasks_first S p proper))
      ∙ find_weaker mine (is_upper_task S p) (below (length S.tasks))
      (λ t h. holder_upper r t seen h)

  -- ---- alarms

  pub counts_up : (a : ℕ) → a < length S.alarms → is_upper_alarm S p a ≡ true
      → counts_left (upper_core S p) (up S p s) (rank (is_upper_alarm S p) a) ≡ counts_left S s a
  counts_up a inside high =
      ap₂ counts_from (count_up S p both s a inside high) (expiry_up S p both s a inside high)

  -- ---- who executes

  other_caller : (t : ℕ) (j : Job) → is_upper_task S p t ≡ true → is_upper_job S p j ≡ false
      → (j.id.task == t) ≡ false
  other_caller t j high low =
      ne_eqb j.id.task t (λ e. true≢false (sym high ∙ ap (is_upper_task S p) (sym e) ∙ low))

  found_task : (n : JobId) (jobs : List Job) (j : Job) → job_of n jobs ≡ Some j → j.id.task ≡ n.task
  found_task n [] j e = absurd (grind (arith, e))
  found_task n (k ∷ jobs) j e = go (same_id k.id n) refl e (found_task n jobs j)
    where
      go : (b : Bool) → same_id k.id n ≡ b → cond b (Some k) (job_of n jobs) ≡ Some j
          → (job_of n jobs ≡ Some j → j.id.task ≡ n.task) → j.id.task ≡ n.task
      go true h f rest =
          let same : k ≡ j = some_same k j f in ap (λ (x : Job). x.id.task) (sym same)
          ∙ same_id_task k.id n h
      go false h f rest = rest f

  pub task_executes : (t : ℕ) → is_upper_task S p t ≡ true
      → executes (up S p s) (Owner.Task t) ≡ executes s (Owner.Task t)
  task_executes t high = routine s.active
    where
      job : (n : JobId) → (o : Option Job) → job_of n s.jobs ≡ o → (u : Bool)
          → is_upper_id S p n ≡ u
          → is_caller (Owner.Task t) (running_caller (cond u (Some n) None) (up_jobs S p s.jobs))
          ≡ is_caller (Owner.Task t) (job_caller o)
      job n o e true h =
          ap (λ (x : Option Job). is_caller (Owner.Task t) (job_caller x))
          (job_of_up S p n s.jobs h ∙ ap (option_map (up_job S p)) e) ∙ seen o
        where
          seen : (x : Option Job)
              → is_caller (Owner.Task t) (job_caller (option_map (up_job S p) x))
              ≡ is_caller (Owner.Task t) (job_caller x)
          seen None = refl
          seen (Some j) = refl
      job n None e false h = refl
      job n (Some j) e false h =
          sym (other_caller t j high (ap (is_upper_task S p) (found_task n s.jobs j e) ∙ h))

      running : (o : Option JobId)
          → is_caller (Owner.Task t)
          (running_caller (keep (is_upper_id S p) o) (up_jobs S p s.jobs))
          ≡ is_caller (Owner.Task t) (running_caller o s.jobs)
      running None = refl
      running (Some n) = job n (job_of n s.jobs) refl (is_upper_id S p n) refl

      routine : (a : Option Active)
          → is_caller (Owner.Task t)
          (caller_of a (keep (is_upper_id S p) s.running) (up_jobs S p s.jobs))
          ≡ is_caller (Owner.Task t) (caller_of a s.running s.jobs)
      routine None = running s.running
      routine (Some a) = refl

  pub routine_executes : (i : ℕ)
      → executes (up S p s) (Owner.Routine i) ≡ executes s (Owner.Routine i)
  routine_executes i = go s.active
    where
      job : (o : Option Job) → is_caller (Owner.Routine i) (job_caller o) ≡ false
      job None = refl
      job (Some j) = refl

      none : (o : Option JobId) (jobs : List Job)
          → is_caller (Owner.Routine i) (running_caller o jobs) ≡ false
      none None jobs = refl
      none (Some n) jobs = job (job_of n jobs)

      go : (a : Option Active)
          → is_caller (Owner.Routine i)
          (caller_of a (keep (is_upper_id S p) s.running) (up_jobs S p s.jobs))
          ≡ is_caller (Owner.Routine i) (caller_of a s.running s.jobs)
      go None =
          none (keep (is_upper_id S p) s.running) (up_jobs S p s.jobs) ∙ sym (none s.running s.jobs)
      go (Some a) = refl
