-- A job that waits is released: what is kept changes as in Moves.
use Rattle.std.proofs.Common.{◌≡◌, ℕ, Bool, true, false, cond, not, ◌&&◌, ◌||◌, List, [], ◌∷◌, ◌++◌, map, refl, sym, ◌∙◌, ap, subst}
use Rattle.std.specs.Prelude.{Option, Some, None, ◌==◌}
use Rattle.std.specs.List.{filter, list_any, AllByRecursion}
use Rattle.std.proofs.lemmas.List.Elements.{filter-append}
use Rattle.std.proofs.lemmas.List.Folds.{list_any-append}
use Rattle.std.proofs.lemmas.List.{append-nil}
use Rattle.osek_base.specs.System.{System, is_extended, priority_of}
use Rattle.osek_base.specs.State.{Job, JobId, State, same_id, jobs_of, jobs_but, waits}
use Rattle.osek_base.specs.Activation.{released, woken}
use Rattle.osek_base.specs.Priority.{dynamic_priority}
use Rattle.law_runs.proofs.Lists.{Pairs, clash, all_weaker, all_any, all_filter, pairs_kept}
use Rattle.law_runs.proofs.Foremost.{same_self, equal, idle_priority}
use Rattle.law_runs.proofs.Single.{IsSoundPair}
use Rattle.law_kept.specs.Kept.{slot_of, slots_of, runs, is_at, task_of, queue, is_gone, kept}
use Rattle.ready_queues.specs.QueueMoves.{changed_at, put_newest}
use Rattle.law_kept.specs.Moves.{slot_woken, released_in}
use Rattle.law_kept.proofs.Parts.{filter_same, filter_twice, filter_all, any_parts, IsOldest}
use Rattle.law_kept.proofs.JobMoves.{newest_queue, but_of, elsewhere}

module _ (S : System) (s : State) (n : JobId) (o : IsOldest n s.jobs) (pairs : Pairs (IsSoundPair S) s.jobs) (extended : is_extended S n.task ≡ true)
    (waiting : AllByRecursion (λ j. same_id j.id n ≡ true → waits j ≡ true) s.jobs)
    (idle : (o.job.held ≡ []) × (o.job.taken ≡ false))
    (apart : runs s.running o.job ≡ false) where
  -- it is the only job of its task
  only_one : jobs_of n.task s.jobs ≡ o.job ∷ []
  only_one = go o.others o.is
    where
      tasks : AllByRecursion (λ j. Unit {0} × ((j.id.task == n.task) ≡ true)) (jobs_of n.task s.jobs)
      tasks = all_filter (λ j. Unit {0}) (λ j. j.id.task == n.task) s.jobs (all_any (λ j. Unit {0}) s.jobs (λ j. tt))

      here : Pairs (IsSoundPair S) (jobs_of n.task s.jobs)
      here = pairs_kept (IsSoundPair S) (λ j. j.id.task == n.task) s.jobs pairs

      go : (ks : List Job) → jobs_of n.task s.jobs ≡ o.job ∷ ks → jobs_of n.task s.jobs ≡ o.job ∷ []
      go [] e = e
      go (k ∷ ks) e =
          let pair : IsSoundPair S o.job k = (subst (Pairs (IsSoundPair S)) e here).0.0 in
          let task : k.id.task ≡ n.task =
          equal k.id.task n.task
          (subst (AllByRecursion (λ j. Unit {0} × ((j.id.task == n.task) ≡ true))) e tasks).1.0.1 in
          clash
          (sym extended ∙ ap (is_extended S) (sym task) ∙ pair.basic (ap (λ (m : JobId). m.task) o.id ∙ sym task))

  those : filter (λ j. same_id j.id n) s.jobs ≡ o.job ∷ []
  those =
      filter_same (λ j. same_id j.id n) (λ j. (j.id.task == n.task) && same_id j.id n) s.jobs
      (all_any _ s.jobs (λ j. go (j.id.task == n.task) (j.id.serial == n.serial)))
      ∙ sym (filter_twice (λ j. same_id j.id n) (λ j. j.id.task == n.task) s.jobs)
      ∙ ap (filter (λ j. same_id j.id n)) only_one
      ∙ rw (o.id, same_self n) refl
    where
      go : (a b : Bool) → (a && b) ≡ (a && (a && b))
      go true b = refl
      go false b = refl

  -- the jobs after the release
  abbrev after : List Job
  after = jobs_but n s.jobs ++ woken o.job ∷ []

  is_after : (released n s).jobs ≡ after
  unfolding released
  is_after = ap (λ js. jobs_but n s.jobs ++ map woken js) those

  stay_queue : (l : ℕ) → queue S s.running (jobs_but n s.jobs) l ≡ queue S s.running s.jobs l
  stay_queue l = ap (map task_of)
      (filter_twice (is_at S s.running l) (λ j. not (same_id j.id n)) s.jobs
      ∙ filter_same (λ j. not (same_id j.id n) && is_at S s.running l j) (is_at S s.running l) s.jobs
      (all_weaker (λ j. same_id j.id n ≡ true → waits j ≡ true) _ s.jobs (λ j h. go (same_id j.id n) (runs s.running j) (waits j) (dynamic_priority S j == l) h) waiting))
    where
      go : (a b c d : Bool) → (a ≡ true → c ≡ true) → (not a && ((not b && not c) && d)) ≡ ((not b && not c) && d)
      go false b c d h = refl
      go true true c d h = refl
      go true false true d h = refl
      go true false false d h = clash (sym (h refl))

  woken_runs : (r : Option JobId) → runs r (woken o.job) ≡ runs r o.job
  woken_runs None = refl
  woken_runs (Some r) = refl

  release_queue : (l : ℕ)
      → queue S s.running after l ≡ put_newest (queue S s.running s.jobs) (priority_of S n.task) n.task l
  release_queue l =
      newest_queue S n.task s.running (jobs_but n s.jobs) (woken o.job) (woken_runs s.running ∙ apart) refl
      (idle_priority S (woken o.job) idle.0 idle.1 ∙ ap (λ (m : JobId). priority_of S m.task) o.id)
      (ap (λ (m : JobId). m.task) o.id) l
      ∙ go (priority_of S n.task == l)
    where
      go : (b : Bool)
          → cond b (queue S s.running (jobs_but n s.jobs) (priority_of S n.task) ++ n.task ∷ []) (queue S s.running (jobs_but n s.jobs) l)
          ≡ cond b (queue S s.running s.jobs (priority_of S n.task) ++ n.task ∷ []) (queue S s.running s.jobs l)
      go true = ap (λ ts. ts ++ n.task ∷ []) (stay_queue (priority_of S n.task))
      go false = stay_queue l

  release_slots : (u : ℕ)
      → slots_of after u ≡ changed_at (slots_of s.jobs) n.task (slot_woken (slots_of s.jobs n.task)) u
  release_slots u =
      ap slot_of
      (filter-append (λ j. j.id.task == u) (jobs_but n s.jobs) (woken o.job ∷ []) ∙ ap (λ js. js ++ jobs_of u (woken o.job ∷ [])) (but_of S n s.jobs u))
      ∙ rw (ap (λ (m : JobId). m.task == u) o.id) (go (n.task == u) refl)
    where
      go : (b : Bool) → (n.task == u) ≡ b
          → slot_of (jobs_but n (jobs_of u s.jobs) ++ cond b (woken o.job ∷ []) [])
          ≡ cond b (slot_woken (slots_of s.jobs n.task)) (slots_of s.jobs u)
      go true e =
          let left : jobs_but n (jobs_of u s.jobs) ≡ [] =
          ap (λ v. jobs_but n (jobs_of v s.jobs)) (sym (equal n.task u e)) ∙ ap (jobs_but n) only_one
          ∙ rw (o.id, same_self n) refl in
          ap (λ js. slot_of (js ++ woken o.job ∷ [])) left ∙ ap (λ js. slot_woken (slot_of js)) (sym only_one)
      go false e =
          ap slot_of
          (append-nil (jobs_but n (jobs_of u s.jobs)) ∙ filter_all (λ j. not (same_id j.id n)) (jobs_of u s.jobs) (all_weaker _ _ (jobs_of u s.jobs) (λ k h. ap not h) (elsewhere S n s.jobs u e)))

  release_gone : (running : Option JobId) → is_gone running after ≡ is_gone running s.jobs
  release_gone None = refl
  release_gone (Some r) =
      ap not (list_any-append (λ j. same_id j.id r) (jobs_but n s.jobs) (woken o.job ∷ [])
      ∙ ap (λ js. list_any (λ j. same_id j.id r) (jobs_but n s.jobs) || list_any (λ j. same_id j.id r) js) (sym those)
      ∙ any_parts (λ j. same_id j.id r) (λ j. same_id j.id n) s.jobs)

  pub released_kept : kept S (released n s) ≡ released_in S n.task (kept S s)
  unfolding released
  released_kept = ap (λ js. kept S (record s { jobs = js })) is_after ∙ (λ i. record (kept S s) {
    queues = λ l. release_queue l i;
    slots = λ u. release_slots u i;
    gone = release_gone s.running i;
  })
