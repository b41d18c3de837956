-- How many blockers a job has at its first instruction since it became ready: one, where a job of lower static priority has
-- executed since, else none.
use Rattle.std.proofs.Common.{◌≡◌, ℕ, inl, inr, Bool, true, false, cond, not, ◌||◌, nat_lt, List, [], ◌∷◌, drop, length, refl, sym, ◌∙◌, ap}
use Rattle.std.specs.Prelude.{Option, Some, None}
use Rattle.std.specs.List.{filter_map, list_any, cons_option, AllByRecursion}
use Rattle.osek_base.specs.declared.arrivals.Arrival.{Arrival}
use Rattle.osek_base.specs.System.{System, priority_of}
use Rattle.osek_base.specs.State.{Job, JobId, same_id, job_of}
use Rattle.osek_base.specs.Priority.{static_priority}
use Rattle.osek_base.specs.Tick.{Step}
use Rattle.osek_base.specs.Trace.{boot, run}
use Rattle.osek_base.specs.Blocker.{executing_job, is_ready_from, number_below, lower_executor, distinct, blockers}
use Rattle.osek_base.specs.Proper.{IsProper}
use Rattle.law_runs.proofs.Lists.{clash}
use Rattle.law_runs.proofs.Foremost.{same_ids, same_self}
use Rattle.law_runs.proofs.Watched.{HasReadyJob}
use Rattle.law_runs.proofs.Blocking.{AreBy, none_else, distinct_by, until, run_blocks}

abbrev pub one_if : Bool → ℕ
one_if b = cond b 1 0

-- whether a job of a static priority below p executes
abbrev pub is_lower : System → ℕ → Option Job → Bool
is_lower S p None = false
is_lower S p (Some k) = nat_lt (static_priority S k) p

abbrev pub lower_in : System → ℕ → Step → Bool
lower_in S p step = is_lower S p (executing_job step)

-- ---- ids that are all one, counted

abbrev pub is_none : Option JobId → Bool
is_none None = true
is_none (Some m) = false

counted : (b : Option JobId) (ids : List JobId) → AreBy b ids → length (distinct ids)
    ≡ one_if (not (elim ids [ [] ↦ true | m ∷ ms ↦ false ]))
counted b [] all = refl
counted b (m ∷ ids) all = ap (λ xs. length (m ∷ xs)) (none_else b m (distinct ids) all.0 (distinct_by b ids all.1))

-- ---- a job that is there

module _ (S : System) (n : JobId) where
  is_there : (jobs : List Job) → HasReadyJob n jobs → (o : Option Job) → job_of n jobs ≡ o
      → (j : Job) × ((o ≡ Some j) × (j.id ≡ n))
  is_there [] h o e = absurd h
  is_there (x ∷ jobs) h o e = go (same_id x.id n) refl h e (is_there jobs)
    where
      go : (b : Bool) → same_id x.id n ≡ b → HasReadyJob n (x ∷ jobs) → cond b (Some x) (job_of n jobs) ≡ o
          → (HasReadyJob n jobs → (p : Option Job) → job_of n jobs ≡ p → (j : Job) × ((p ≡ Some j) × (j.id ≡ n)))
          → (j : Job) × ((o ≡ Some j) × (j.id ≡ n))
      go true s k f rest = (x, (sym f, same_ids x.id n s))
      go false s (inl k) f rest = clash (sym (same_self n) ∙ ap (λ m. same_id m n) (sym k.0) ∙ s)
      go false s (inr k) f rest = rest k o f

  lower_some : (x : Step) → HasReadyJob n x.executing.jobs → is_none (lower_executor S n x)
      ≡ not (lower_in S (priority_of S n.task) x)
  lower_some x here =
      let it = is_there x.executing.jobs here (job_of n x.executing.jobs) refl in
      ap (λ o. is_none (number_below S (executing_job x) o)) it.1.0 ∙ go (executing_job x) it.0 it.1.1
    where
      go : (k : Option Job) (j : Job) → j.id ≡ n → is_none (number_below S k (Some j))
          ≡ not (is_lower S (priority_of S n.task) k)
      go None j e = refl
      go (Some k) j e = rw (sym e) (at (nat_lt (static_priority S k) (static_priority S j)))
        where
          at : (b : Bool) → is_none (cond b (Some k.id) None) ≡ not b
          at true = refl
          at false = refl

  none_shown : (xs : List Step) → AllByRecursion (λ x. HasReadyJob n x.executing.jobs) xs
      → not (elim (filter_map (lower_executor S n) xs) [ [] ↦ true | m ∷ ms ↦ false ])
      ≡ list_any (lower_in S (priority_of S n.task)) xs
  none_shown [] all = refl
  none_shown (x ∷ xs) all = go (lower_executor S n x) (lower_in S (priority_of S n.task) x) (lower_some x all.0)
      (none_shown xs all.1)
    where
      go : (o : Option JobId) (b : Bool) → is_none o ≡ not b
          → not (elim (filter_map (lower_executor S n) xs) [ [] ↦ true | m ∷ ms ↦ false ])
          ≡ list_any (lower_in S (priority_of S n.task)) xs
          → not (elim (cons_option o (filter_map (lower_executor S n) xs)) [ [] ↦ true | m ∷ ms ↦ false ])
          ≡ (b || list_any (lower_in S (priority_of S n.task)) xs)
      go None true e rest = clash e
      go None false e rest = rest
      go (Some m) true e rest = refl
      go (Some m) false e rest = clash (sym e)

-- in every run, from where a job becomes ready
pub blockers_counted : (S : System) (mode : ℕ) (arrivals : List Arrival) (n u : ℕ) (job : JobId) (proper : IsProper S)
    → is_ready_from S (boot S mode).state (run S mode arrivals n).steps u job ≡ true
    → length (blockers S (run S mode arrivals n).steps u job)
    ≡ one_if (list_any (lower_in S (priority_of S job.task)) (until S proper job (drop u (run S mode arrivals n).steps)))
blockers_counted S mode arrivals n u job proper ready =
    let held = run_blocks S mode arrivals n u job proper ready in
    counted held.0 (filter_map (lower_executor S job) (until S proper job (drop u (run S mode arrivals n).steps))) held.1.0
    ∙ ap one_if (none_shown S job (until S proper job (drop u (run S mode arrivals n).steps)) held.1.1)
