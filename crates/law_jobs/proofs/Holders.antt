-- Who is seen as the holder of a resource: the task of the one job that holds it.
use Rattle.std.proofs.Common.{◌≡◌, ℕ, zero, suc, ◌+◌, ◌-◌, ◌<◌, ◌≤◌, ◌⊎◌, inl, inr, Bool, true, false, cond, ◌||◌, nat_lt, List, [], ◌∷◌, map, length, refl, sym, ◌∙◌, ap, subst, arith}
use Rattle.std.specs.Prelude.{Option, Some, None, ◌==◌, slice_index, slice_index_or}
use Rattle.std.specs.List.{find, list_any, AllByRecursion}
use Rattle.std.proofs.lemmas.Bool.{and_parts, cases_lt, lt-ltb}
use Rattle.std.proofs.lemmas.List.{get_or-append_right, get_or_append_left, get_or_past}
use Rattle.std.proofs.lemmas.List.Folds.{list_any-append}
use Rattle.std.proofs.lemmas.Map.Views.{any-filter_same}
use Rattle.osek_base.specs.declared.ids.ResId.{ResId}
use Rattle.osek_base.specs.Lists.{below, same_resource}
use Rattle.osek_base.specs.Separable.{first_of_list}
use Rattle.osek_base.specs.Service.{holds}
use Rattle.osek_base.specs.State.{Job, JobId, State, jobs_of, same_id}
use Rattle.osek_base.specs.System.{System}
use Rattle.law_runs.proofs.Foremost.{same_ids, same_self, self_equal}
use Rattle.law_runs.proofs.Holding.{is_its_holder}
use Rattle.law_runs.proofs.Lists.{Pairs, all_any, all_both, all_kept, clash, found, pairs_kept}
use Rattle.law_runs.proofs.Single.{IsSingle, IsSoundJob, IsSoundPair}
use Rattle.law_kept.proofs.Parts.{any_has}
use Rattle.law_future.specs.Spans.{resource_of}
use Rattle.law_future.proofs.Tables.{length-table, table_at}
use Rattle.seen_ticks.specs.Observed.{holders_seen, scheduler_seen}
use Rattle.seen_ticks.specs.Shown.{holder, is_held_by, oldest_job}
use Rattle.seen_ticks.proofs.SeenLemmas.{own}
use Rattle.view_figures.specs.FigureSums.{held_count}
use Rattle.law_jobs.proofs.Passing.{IsAlone, has, left_fewer}

-- ---- what is found

true_before : (a b : Bool) → a ≡ true → (a || b) ≡ true
true_before true b h = refl
true_before false b h = clash (sym h)

true_behind : (a b : Bool) → b ≡ true → (a || b) ≡ true
true_behind true b h = refl
true_behind false b h = h

below_any : (test : ℕ → Bool) (t m : ℕ) → t < m → test t ≡ true → list_any test (below m) ≡ true
below_any test t zero less h = absurd (omega (arith, less))
below_any test t (suc m) less h =
    list_any-append test (below m) (m ∷ [])
    ∙ go (cases_lt t m) (λ low. below_any test t m low h)
  where
    go : (t < m) ⊎ (m ≤ t) → (t < m → list_any test (below m) ≡ true)
        → (list_any test (below m) || (test m || false)) ≡ true
    go (inl low) rest = true_before (list_any test (below m)) (test m || false) (rest low)
    go (inr high) rest =
        let same : t ≡ m = omega (arith, less, high) in
        true_behind (list_any test (below m)) (test m || false)
        (true_before (test m) false (ap test (sym same) ∙ h))

-- what alone passes is found
found_only : (test : ℕ → Bool) (t : ℕ) → ((u : ℕ) → test u ≡ true → u ≡ t) → (ns : List ℕ)
    → list_any test ns ≡ true → find test ns ≡ Some t
found_only test t only [] h = clash (sym h)
found_only test t only (n ∷ ns) h = go (test n) refl h (found_only test t only ns)
  where
    go : (b : Bool) → test n ≡ b → (b || list_any test ns) ≡ true
        → (list_any test ns ≡ true → find test ns ≡ Some t)
        → cond b (Some n) (find test ns) ≡ Some t
    go true e k rest = ap Some (only n e)
    go false e k rest = rest k

-- ---- in a state

module _ (S : System) (s : State) (r : ResId) where
  -- a job of the task that is seen holds it
  pub record HasHolder (t : ℕ) : Type 0 where
    pub job : JobId
    pub held : has r job s.jobs ≡ true
    pub task : job.task ≡ t

  oldest_holds : (t : ℕ) → is_held_by r (oldest_job s t) ≡ true → HasHolder t
  oldest_holds t h = go (jobs_of t s.jobs) refl (own t s.jobs) h
    where
      go : (js : List Job) → jobs_of t s.jobs ≡ js → AllByRecursion (λ j. j.id.task ≡ t) js
          → is_held_by r (first_of_list js) ≡ true → HasHolder t
      go [] are of h = clash (sym h)
      go (j ∷ js) are of h = record {
        job = j.id;
        held =
            left_fewer r (λ k. k.id.task == t) s.jobs j.id
            (ap (has r j.id) are ∙ rw (same_self j.id, h) refl);
        task = of.0;
      }

  pub holder_job : (t : ℕ) → holder S s r ≡ Some t → HasHolder t
  holder_job t h =
      oldest_holds t
      (found (λ u. Unit {0}) (λ u. is_held_by r (oldest_job s u)) (below (length S.tasks)) t
      (all_any (λ u. Unit {0}) (below (length S.tasks)) (λ u. tt)) h).1

  -- ---- and who holds it is of that task

  module _ (single : IsSingle S s) where
    holder_known : (n : JobId) → has r n s.jobs ≡ true → n.task < length S.tasks
    holder_known n h = go one.0 one.2 (and_parts (same_id one.0.id n) (holds one.0 r) one.1).0
      where
        one : (j : Job) × (is_its_holder r n j ≡ true) × IsSoundJob S s.made j
        one = any_has (is_its_holder r n) (IsSoundJob S s.made) s.jobs h single.each

        past : (m : ℕ) → m < slice_index s.made n.task → n.task < length s.made
        past m given = in_made (cases_lt n.task (length s.made))
          where
            in_made : (n.task < length s.made) ⊎ (length s.made ≤ n.task)
                → n.task < length s.made
            in_made (inl inside) = inside
            in_made (inr out) =
                let none : slice_index s.made n.task ≡ 0 = get_or_past s.made n.task 0 out in
                absurd (omega (arith, given, none))

        go : (j : Job) → IsSoundJob S s.made j → same_id j.id n ≡ true → n.task < length S.tasks
        go j sound same =
            subst (λ m. n.task < m) single.known
            (past n.serial
            (subst (λ (m : JobId). m.serial < slice_index s.made m.task) (same_ids j.id n same)
            sound.given))

    -- a job that isn't begun holds nothing
    unbegun_free : (j : Job) → IsSoundJob S s.made j → j.begun ≡ false → holds j r ≡ true → ⊥
    unbegun_free j sound unbegun h =
        clash (sym h ∙ ap (λ held. list_any (same_resource r) held) (sound.idle unbegun).0)

    first_holds : (n : JobId) (js : List Job) → AllByRecursion (IsSoundJob S s.made) js
        → AllByRecursion (λ j. j.id.task ≡ n.task) js → Pairs (IsSoundPair S) js
        → has r n js ≡ true → is_held_by r (first_of_list js) ≡ true
    first_holds n [] sound of pairs h = clash (sym h)
    first_holds n (j ∷ js) sound of pairs h = go (is_its_holder r n j) refl h
      where
        go : (b : Bool) → is_its_holder r n j ≡ b → (b || has r n js) ≡ true → holds j r ≡ true
        go true e k = (and_parts (same_id j.id n) (holds j r) e).1
        go false e k =
            let one =
            any_has (is_its_holder r n)
            (λ l. (IsSoundJob S s.made l × (l.id.task ≡ n.task)) × IsSoundPair S j l) js k
            (all_both (λ l. IsSoundJob S s.made l × (l.id.task ≡ n.task)) (IsSoundPair S j) js
            (all_both (IsSoundJob S s.made) (λ l. l.id.task ≡ n.task) js sound.1 of.1) pairs.0) in
            absurd
            (unbegun_free one.0 one.2.0.0 (one.2.1.unbegun (of.0 ∙ sym one.2.0.1))
            (and_parts (same_id one.0.id n) (holds one.0 r) one.1).1)

    holder_oldest : (n : JobId) → has r n s.jobs ≡ true
        → is_held_by r (oldest_job s n.task) ≡ true
    holder_oldest n h =
        first_holds n (jobs_of n.task s.jobs)
        (all_kept (IsSoundJob S s.made) (λ j. j.id.task == n.task) s.jobs single.each)
        (own n.task s.jobs)
        (pairs_kept (IsSoundPair S) (λ j. j.id.task == n.task) s.jobs single.pairs)
        (any-filter_same (is_its_holder r n) (λ j. j.id.task == n.task) true
        (λ j k. ap (λ (m : JobId). m.task == n.task)
        (same_ids j.id n (and_parts (same_id j.id n) (holds j r) k).0) ∙ self_equal n.task) s.jobs
        ∙ h)

    pub job_holder : IsAlone r s.jobs → (n : JobId) → has r n s.jobs ≡ true
        → holder S s r ≡ Some n.task
    job_holder alone n h =
        found_only (λ t. is_held_by r (oldest_job s t)) n.task
        (λ u k. one u (oldest_holds u k)) (below (length S.tasks))
        (below_any (λ t. is_held_by r (oldest_job s t)) n.task (length S.tasks)
        (holder_known n h) (holder_oldest n h))
      where
        one : (u : ℕ) → HasHolder u → u ≡ n.task
        one u there =
            sym there.task ∙ ap (λ (m : JobId). m.task) (alone there.job n there.held h)

-- ---- by number, RES_SCHEDULER behind the declared resources

module _ (S : System) (s : State) where
  abbrev table : List (Option ℕ)
  table = map (λ r. holder S s (ResId.Declared r)) (below (length S.resources))

  size : length table ≡ length S.resources
  size = length-table (λ r. holder S s (ResId.Declared r)) (length S.resources)

  pub held_seen : (r : ℕ) → r < held_count S
      → slice_index_or (holders_seen S s) r None ≡ holder S s (resource_of S r)
  held_seen r known = go (cases_lt r (length S.resources))
    where
      behind : (b : Bool) (k : ℕ) → S.use_res_scheduler ≡ b
          → r < length S.resources + cond b 1 0 → length S.resources ≤ r
          → k ≡ r - length S.resources
          → slice_index_or (cond b (holder S s ResId.Scheduler ∷ []) []) k None
          ≡ holder S s ResId.Scheduler
      behind false k used low high is = absurd (omega (arith, low, high))
      behind true zero used low high is = refl
      behind true (suc k) used low high is = absurd (omega (arith, low, high, is))

      go : (r < length S.resources) ⊎ (length S.resources ≤ r)
          → slice_index_or (holders_seen S s) r None ≡ holder S s (resource_of S r)
      go (inl low) =
          get_or_append_left table (scheduler_seen S s) None r
          (let n : length table ≡ length S.resources = size in omega (arith, low, n))
          ∙ table_at (λ q. holder S s (ResId.Declared q)) (length S.resources) r None low
          ∙ ap (λ b. holder S s (cond b (ResId.Declared r) ResId.Scheduler))
          (sym (lt-ltb r (length S.resources) low))
      go (inr high) =
          get_or-append_right table (scheduler_seen S s) (length S.resources) r None size high
          ∙ behind S.use_res_scheduler (r - length S.resources) refl known high refl
          ∙ ap (λ b. holder S s (cond b (ResId.Declared r) ResId.Scheduler))
          (sym (not_low (nat_lt r (length S.resources)) refl))
        where
          not_low : (b : Bool) → nat_lt r (length S.resources) ≡ b → b ≡ false
          not_low false e = refl
          not_low true e = absurd (grind (arith, e, high))
