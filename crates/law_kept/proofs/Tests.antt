-- The tests of services, over what the code keeps.
use Rattle.std.proofs.Common.{◌≡◌, ℕ, zero, suc, ◌<◌, ◌≤◌, ◌⊎◌, inl, inr, Bool, true, false, cond, not, ◌&&◌, ◌||◌, nat_le, nat_lt, List, [], ◌∷◌, length, refl, sym, ◌∙◌, ap, subst, arith}
use Rattle.std.specs.Prelude.{Option, Some, None, ◌==◌, is_some}
use Rattle.std.specs.Option.{option_map}
use Rattle.std.specs.List.{list_any, list_all, AllByRecursion}
use Rattle.std.proofs.lemmas.Bool.{cases_lt}
use Rattle.std.proofs.lemmas.List.Folds.{list_any-append}
use Rattle.osek_base.specs.declared.ids.ResId.{ResId}
use Rattle.osek_base.specs.declared.instr.Service.{Service}
use Rattle.osek_base.specs.Types.{ServiceCall}
use Rattle.osek_base.specs.declared.status.Status.{Status}
use Rattle.osek_base.specs.declared.status.TaskState.{TaskState}
use Rattle.osek_base.specs.declared.trace_event.Results.{Results}
use Rattle.osek_base.specs.Lists.{is_empty, last_of, same_resource, below}
use Rattle.osek_base.specs.System.{System, priority_of, activation_of, is_extended}
use Rattle.osek_base.specs.Ceiling.{top_priority}
use Rattle.osek_base.specs.State.{Job, JobId, State, same_id, jobs_of, waits}
use Rattle.osek_base.specs.Priority.{dynamic_priority}
use Rattle.osek_base.specs.Activation.{is_full}
use Rattle.osek_base.specs.Service.{Caller, JobCalls, RoutineCalls, NobodyCalls, by_routine, holds_any, is_own_task, is_basic_caller, caller_may_take, holds, is_above_ceiling, is_resource, got_last, caller_holds, is_suspended, is_outranked, refusals, results, running_task, task_state, state_number}
use Rattle.osek_base.proofs.ForemostLemmas.{best, fits, bounded_best}
use Rattle.law_runs.proofs.Lists.{Pairs, EitherWay, all_weaker, all_kept, found, pairs_weaker, either_way}
use Rattle.law_runs.proofs.Foremost.{AreApart, same_self, equal, only}
use Rattle.law_runs.proofs.Known.{IsCaller, IsRunningCaller}
use Rattle.law_runs.proofs.Single.{IsSoundJob, IsSoundPair}
use Rattle.law_kept.specs.Kept.{Slot, unbegun, slot_with, slot_of, slots_of, is_queued, task_in, queue, kept}
use Rattle.ready_queues.specs.QueueMoves.{highest}
use Rattle.law_kept.specs.KeptService.{kept_caller, by_routine_in, holds_any_in, is_own_in, is_basic_in, may_take_in, is_above_ceiling_in, got_last_in, caller_holds_in, is_full_in, is_suspended_in, holds_in, is_held_in, is_above, is_outranked_in, running_number, task_state_in, refusals_in, results_in}
use Rattle.law_kept.proofs.Parts.{IsOldest}
use Rattle.law_kept.proofs.Settled.{IsSettled, stands_oldest}
use Rattle.law_kept.proofs.JobMoves.{IsFresh, IsLater, others_later, no_jobs}
use Rattle.law_kept.proofs.Choose.{highest_queue}
use Rattle.law_kept.proofs.Rescheduled.{dynamic_top}

-- ---- a test of a task's jobs is one of its slot

module _ (S : System) (s : State) (settled : IsSettled S s) where
  module _ (p : Job → Bool) (q : Slot → Bool) (fit : (k : ℕ) (j : Job) → q (slot_with k j) ≡ p j) (none : q (unbegun 0) ≡ false) (late : (j : Job) → IsLater j → p j ≡ false) where
    none_late : (ks : List Job) → AllByRecursion IsLater ks → list_any p ks ≡ false
    none_late [] all = refl
    none_late (k ∷ ks) all = rw (late k all.0) (none_late ks all.1)

    or_false : (b : Bool) → (b || false) ≡ b
    or_false true = refl
    or_false false = refl

    pub of_task : (t : ℕ) → list_any p (jobs_of t s.jobs) ≡ q (slots_of s.jobs t)
    of_task t = go (jobs_of t s.jobs) refl
      where
        go : (js : List Job) → jobs_of t s.jobs ≡ js → list_any p js ≡ q (slot_of js)
        go [] e = sym none
        go (k ∷ ks) e =
            let rest : list_any p ks ≡ false = none_late ks (all_weaker _ IsLater ks (λ j h. h.0)
            (others_later S s.made k.id s.jobs settled.single.each (all_weaker (IsSoundJob S s.made) IsFresh s.jobs (λ j h. h.fresh) settled.single.each) settled.single.pairs first)) in
            ap (λ b. p k || b) rest ∙ or_false (p k) ∙ sym (fit (suc (length ks)) k)
          where
            task : k.id.task ≡ t
            task = equal k.id.task t (subst (AllByRecursion (λ j. (j.id.task == t) ≡ true)) e (passes s.jobs)).0
              where
                passes : (js : List Job) → AllByRecursion (λ j. (j.id.task == t) ≡ true) (jobs_of t js)
                passes [] = tt
                passes (j ∷ js) = pick (j.id.task == t) refl (passes js)
                  where
                    pick : (b : Bool) → (j.id.task == t) ≡ b
                        → AllByRecursion (λ i. (i.id.task == t) ≡ true) (jobs_of t js)
                        → AllByRecursion (λ i. (i.id.task == t) ≡ true) (cond b (j ∷ jobs_of t js) (jobs_of t js))
                    pick true h more = (h, more)
                    pick false h more = more

            first : IsOldest k.id s.jobs
            first = record { job = k; others = ks; is = ap (λ u. jobs_of u s.jobs) task ∙ e; id = refl }

-- ---- a test of all jobs, by task

mix : (a b h f g : Bool) → (((a && h) || f) || ((b && h) || g)) ≡ (((a || b) && h) || (f || g))
mix true true true f g = refl
mix true true false f g = refl
mix true false true f g = refl
mix true false false f g = refl
mix false true true true g = refl
mix false true true false g = refl
mix false true false f g = refl
mix false false h f g = refl

any_or : (u : ℕ) (h : Bool) (f : ℕ → Bool) (ts : List ℕ)
    → list_any (λ t. ((u == t) && h) || f t) ts ≡ ((list_any (λ t. u == t) ts && h) || list_any f ts)
any_or u h f [] = refl
any_or u h f (t ∷ ts) =
    ap (λ b. (((u == t) && h) || f t) || b) (any_or u h f ts)
    ∙ mix (u == t) (list_any (λ v. u == v) ts) h (f t) (list_any f ts)

or_true : (b : Bool) → (b || true) ≡ true
or_true true = refl
or_true false = refl

below_has : (u n : ℕ) → u < n → list_any (λ t. u == t) (below n) ≡ true
below_has u zero less = absurd (omega arith)
below_has u (suc n) less =
    list_any-append (λ t. u == t) (below n) (n ∷ []) ∙ go (cases_lt u n) (λ lt. below_has u n lt)
  where
    go : (u < n) ⊎ (n ≤ u) → (u < n → list_any (λ t. u == t) (below n) ≡ true)
        → (list_any (λ t. u == t) (below n) || ((u == n) || false)) ≡ true
    go (inl lt) ih = rw (ih lt) refl
    go (inr ge) ih = let e : (u == n) ≡ true = grind arith in rw e (or_true (list_any (λ t. u == t) (below n)))

any_false : (ts : List ℕ) → list_any (λ t. false) ts ≡ false
any_false [] = refl
any_false (t ∷ ts) = any_false ts

any_same : (f g : ℕ → Bool) → ((t : ℕ) → f t ≡ g t) → (ts : List ℕ) → list_any f ts ≡ list_any g ts
any_same f g same [] = refl
any_same f g same (t ∷ ts) = rw (same t, any_same f g same ts) refl

-- what holds of a job of the tasks below n holds of one of some task's
pub by_tasks : (p : Job → Bool) (n : ℕ) (jobs : List Job) → AllByRecursion (λ j. j.id.task < n) jobs
    → list_any (λ t. list_any p (jobs_of t jobs)) (below n) ≡ list_any p jobs
by_tasks p n [] all = any_false (below n)
by_tasks p n (x ∷ xs) all =
    any_same (λ t. list_any p (jobs_of t (x ∷ xs))) (λ t. ((x.id.task == t) && p x) || list_any p (jobs_of t xs)) one
    (below n)
    ∙ any_or x.id.task (p x) (λ t. list_any p (jobs_of t xs)) (below n)
    ∙ rw (below_has x.id.task n all.0) (ap (λ b. p x || b) (by_tasks p n xs all.1))
  where
    one : (t : ℕ) → list_any p (jobs_of t (x ∷ xs)) ≡ (((x.id.task == t) && p x) || list_any p (jobs_of t xs))
    one t = go (x.id.task == t)
      where
        go : (b : Bool)
            → list_any p (cond b (x ∷ jobs_of t xs) (jobs_of t xs)) ≡ ((b && p x) || list_any p (jobs_of t xs))
        go true = refl
        go false = refl

-- ---- outranked

flip : (m n : ℕ) → nat_lt m n ≡ not (nat_le n m)
flip m n = go (cases_lt m n)
  where
    go : (m < n) ⊎ (n ≤ m) → nat_lt m n ≡ not (nat_le n m)
    go (inl lt) =
        let a : nat_lt m n ≡ true = grind arith in let b : nat_le n m ≡ false = grind arith in rw (a, b) refl
    go (inr ge) =
        let a : nat_lt m n ≡ false = grind arith in let b : nat_le n m ≡ true = grind arith in rw (a, b) refl

any_above : (test : Job → Bool) (rank : Job → ℕ) (p : ℕ) (jobs : List Job)
    → list_any (λ k. test k && nat_lt p (rank k)) jobs ≡ not (list_all (λ k. not (test k) || nat_le (rank k) p) jobs)
any_above test rank p [] = refl
any_above test rank p (x ∷ xs) =
    rw (flip p (rank x))
    (go (test x) (nat_le (rank x) p) (list_all (λ k. not (test k) || nat_le (rank k) p) xs) (any_above test rank p xs))
  where
    go : (a b c : Bool) → list_any (λ k. test k && nat_lt p (rank k)) xs ≡ not c
        → ((a && not b) || list_any (λ k. test k && nat_lt p (rank k)) xs) ≡ not ((not a || b) && c)
    go true true c e = e
    go true false c e = refl
    go false b c e = e

above_fits : (rank : Job → ℕ) (p : ℕ) (o : Option Job) → not (fits rank p o) ≡ is_above p (option_map rank o)
above_fits rank p None = refl
above_fits rank p (Some y) = sym (flip p (rank y))

-- ---- the rows of refusals

module _ (S : System) (s : State) (settled : IsSettled S s) (known : AllByRecursion (λ j. j.id.task < length S.tasks) s.jobs) where
  -- the slot of the calling job's task is that job's
  pub caller_slot : (j : Job) → IsRunningCaller s j → (k : ℕ) × (slots_of s.jobs j.id.task ≡ slot_with k j)
  caller_slot j calls = (suc (length o.others), ap slot_of o.is ∙ ap (λ i. slot_with (suc (length o.others)) i) is_j)
    where
      o : IsOldest j.id s.jobs
      o = stands_oldest S s j.id settled (j, calls.runs, calls.found)

      apart : Pairs AreApart s.jobs
      apart = pairs_weaker (IsSoundPair S) AreApart s.jobs (λ x y h. h.apart) settled.single.pairs

      itself : AllByRecursion (λ y. same_id y.id j.id ≡ true → y ≡ j) s.jobs
      itself =
          only j s.jobs
          (found (λ x. AllByRecursion (EitherWay AreApart x) s.jobs) (λ k. same_id k.id j.id) s.jobs j (either_way AreApart s.jobs apart) calls.found).0

      is_j : o.job ≡ j
      is_j =
          (subst (AllByRecursion (λ y. same_id y.id j.id ≡ true → y ≡ j)) o.is (all_kept (λ y. same_id y.id j.id ≡ true → y ≡ j) (λ y. y.id.task == j.id.task) s.jobs itself)).0
          (ap (λ n. same_id n j.id) o.id ∙ same_self j.id)

  routine_is : (c : Caller) → by_routine c ≡ by_routine_in (kept_caller c)
  routine_is (JobCalls j) = refl
  routine_is (RoutineCalls a) = refl
  routine_is NobodyCalls = refl

  holds_is : (c : Caller) → IsCaller s c → holds_any c ≡ holds_any_in (kept S s) (kept_caller c)
  holds_is (JobCalls j) calls = ap (λ (a : Slot). not (is_empty a.held)) (sym (caller_slot j calls).1)
  holds_is (RoutineCalls a) calls = refl
  holds_is NobodyCalls calls = refl

  own_is : (c : Caller) (t : ℕ) → is_own_task c t ≡ is_own_in (kept_caller c) t
  own_is (JobCalls j) t = refl
  own_is (RoutineCalls a) t = refl
  own_is NobodyCalls t = refl

  basic_is : (c : Caller) → is_basic_caller S c ≡ is_basic_in S (kept_caller c)
  basic_is (JobCalls j) = refl
  basic_is (RoutineCalls a) = refl
  basic_is NobodyCalls = refl

  may_is : (c : Caller) (r : ResId) → caller_may_take S c r ≡ may_take_in S (kept_caller c) r
  may_is (JobCalls j) r = refl
  may_is (RoutineCalls a) r = refl
  may_is NobodyCalls r = refl

  ceiling_is : (c : Caller) (r : ResId) → is_above_ceiling S c r ≡ is_above_ceiling_in S (kept_caller c) r
  ceiling_is (JobCalls j) r = refl
  ceiling_is (RoutineCalls a) r = refl
  ceiling_is NobodyCalls r = refl

  got_is : (c : Caller) (r : ResId) → IsCaller s c → got_last c r ≡ got_last_in (kept S s) (kept_caller c) r
  got_is (JobCalls j) r calls = ap (λ (a : Slot). is_resource (last_of a.held) r) (sym (caller_slot j calls).1)
  got_is (RoutineCalls a) r calls = refl
  got_is NobodyCalls r calls = refl

  caller_holds_is : (c : Caller) (r : ResId) → IsCaller s c
      → caller_holds c r ≡ caller_holds_in (kept S s) (kept_caller c) r
  caller_holds_is (JobCalls j) r calls = ap (holds_in r) (sym (caller_slot j calls).1)
  caller_holds_is (RoutineCalls a) r calls = refl
  caller_holds_is NobodyCalls r calls = refl

  count_is : (js : List Job) → length js ≡ (slot_of js).count
  count_is [] = refl
  count_is (j ∷ js) = refl

  full_is : (t : ℕ) → is_full S s t ≡ is_full_in S (kept S s) t
  full_is t = ap (λ n. nat_le (activation_of S t) n) (count_is (jobs_of t s.jobs))

  suspended_is : (t : ℕ) → is_suspended s t ≡ is_suspended_in (kept S s) t
  suspended_is t = no_jobs S t (jobs_of t s.jobs)

  held_is : (r : ResId) → list_any (λ j. holds j r) s.jobs ≡ is_held_in S (kept S s) r
  held_is r =
      sym (by_tasks (λ j. holds j r) (length S.tasks) s.jobs known)
      ∙ any_same (λ t. list_any (λ j. holds j r) (jobs_of t s.jobs)) (λ t. holds_in r (slots_of s.jobs t))
      (λ t. of_task S s settled (λ j. holds j r) (holds_in r) (λ k j. refl) refl (λ j late. ap (λ rs. list_any (same_resource r) rs) late.held) t) (below (length S.tasks))

  waits_is : (t : ℕ) → list_any waits (jobs_of t s.jobs) ≡ is_some (slots_of s.jobs t).waits_for
  waits_is t =
      of_task S s settled waits (λ a. is_some a.waits_for) (λ k j. refl) refl (λ j late. ap is_some late.ready) t

  number_is : (r : Option JobId) → running_task r ≡ running_number (option_map task_in r)
  number_is None = refl
  number_is (Some r) = refl

  state_is : (t : ℕ) → task_state s t ≡ task_state_in (kept S s) t
  state_is t =
      λ i. cond (number_is s.running i == t) TaskState.Running (cond (waits_is t i) TaskState.Waiting (cond (suspended_is t i) TaskState.Suspended TaskState.Ready))

  pub outranked_is : (c : Caller) → IsCaller s c
      → is_outranked S c s.jobs ≡ is_outranked_in S (kept S s) (kept_caller c)
  outranked_is (JobCalls j) calls =
      any_above (is_queued (Some j.id)) (dynamic_priority S) (priority_of S j.id.task) s.jobs
      ∙ ap not (bounded_best (is_queued (Some j.id)) (dynamic_priority S) (priority_of S j.id.task) s.jobs)
      ∙ above_fits (dynamic_priority S) (priority_of S j.id.task)
      (best (is_queued (Some j.id)) (dynamic_priority S) s.jobs)
      ∙ ap (is_above (priority_of S j.id.task))
      (sym (highest_queue S (suc (top_priority S)) (Some j.id) s.jobs (dynamic_top S))
      ∙ ap (λ r. highest (suc (top_priority S)) (queue S r s.jobs)) (sym calls.runs))
  outranked_is (RoutineCalls a) calls = refl
  outranked_is NobodyCalls calls = refl

  pub refusals_kept : (c : Caller) → IsCaller s c → (call : ServiceCall)
      → refusals S c s call ≡ refusals_in S (kept_caller c) (kept S s) call
  refusals_kept c calls (Service.ActivateTask None) = refl
  refusals_kept c calls (Service.ActivateTask (Some t)) = λ i. (full_is t i, Status.Limit) ∷ []
  refusals_kept c calls Service.TerminateTask =
      λ i. (routine_is c i, Status.CallLevel) ∷ (holds_is c calls i, Status.Resource) ∷ []
  refusals_kept c calls (Service.ChainTask None) = λ i. (routine_is c i, Status.CallLevel) ∷ (true, Status.Id) ∷ []
  refusals_kept c calls (Service.ChainTask (Some t)) = λ i.
      (routine_is c i, Status.CallLevel) ∷ (holds_is c calls i, Status.Resource) ∷
      (not (own_is c t i) && full_is t i, Status.Limit) ∷ []
  refusals_kept c calls Service.Schedule =
      λ i. (routine_is c i, Status.CallLevel) ∷ (holds_is c calls i, Status.Resource) ∷ []
  refusals_kept c calls Service.GetTaskId = refl
  refusals_kept c calls (Service.GetTaskState None) = refl
  refusals_kept c calls (Service.GetTaskState (Some t)) = refl
  refusals_kept c calls (Service.GetResource None) = refl
  refusals_kept c calls (Service.GetResource (Some r)) = λ i.
      (routine_is c i, Status.Access) ∷ (not (may_is c r i), Status.Access) ∷ (held_is r i, Status.Access) ∷ []
  refusals_kept c calls (Service.ReleaseResource None) = refl
  refusals_kept c calls (Service.ReleaseResource (Some r)) = λ i.
      (routine_is c i, Status.Access) ∷ (ceiling_is c r i, Status.Access) ∷
      (not (got_is c r calls i), Status.NoFunc) ∷ []
  refusals_kept c calls (Service.LoadShared None n) = refl
  refusals_kept c calls (Service.LoadShared (Some r) n) = λ i.
      (routine_is c i, Status.Access) ∷ (same_resource ResId.Scheduler r, Status.Access) ∷
      (not (caller_holds_is c r calls i), Status.Access) ∷ []
  refusals_kept c calls (Service.StoreShared None n v) = refl
  refusals_kept c calls (Service.StoreShared (Some r) n v) = λ i.
      (routine_is c i, Status.Access) ∷ (same_resource ResId.Scheduler r, Status.Access) ∷
      (not (caller_holds_is c r calls i), Status.Access) ∷ []
  refusals_kept c calls (Service.SetEvent None m) = refl
  refusals_kept c calls (Service.SetEvent (Some t) m) =
      λ i. (not (is_extended S t), Status.Access) ∷ (suspended_is t i, Status.State) ∷ []
  refusals_kept c calls (Service.ClearEvent m) =
      λ i. (routine_is c i, Status.CallLevel) ∷ (basic_is c i, Status.Access) ∷ []
  refusals_kept c calls (Service.GetEvent None) = refl
  refusals_kept c calls (Service.GetEvent (Some t)) =
      λ i. (not (is_extended S t), Status.Access) ∷ (suspended_is t i, Status.State) ∷ []
  refusals_kept c calls (Service.WaitEvent m) = λ i.
      (routine_is c i, Status.CallLevel) ∷ (basic_is c i, Status.Access) ∷ (holds_is c calls i, Status.Resource) ∷ []
  refusals_kept c calls (Service.SetRelAlarm None x y) = refl
  refusals_kept c calls (Service.SetRelAlarm (Some a) x y) = refl
  refusals_kept c calls (Service.SetAbsAlarm None x y) = refl
  refusals_kept c calls (Service.SetAbsAlarm (Some a) x y) = refl
  refusals_kept c calls (Service.CancelAlarm None) = refl
  refusals_kept c calls (Service.CancelAlarm (Some a)) = refl
  refusals_kept c calls (Service.GetAlarm None) = refl
  refusals_kept c calls (Service.GetAlarm (Some a)) = refl
  refusals_kept c calls (Service.GetAlarmBase None) = refl
  refusals_kept c calls (Service.GetAlarmBase (Some a)) = refl

  pub results_kept : (call : ServiceCall) → results S s call ≡ results_in S (kept S s) call
  results_kept Service.GetTaskId = ap Results.One (number_is s.running)
  results_kept (Service.GetTaskState (Some t)) = λ i. Results.One (state_number (state_is t i))
  results_kept (Service.GetTaskState None) = refl
  results_kept (Service.LoadShared o n) =
      elim o as (λ o. results S s (Service.LoadShared o n) ≡ results_in S (kept S s) (Service.LoadShared o n)) [
        | None ↦ refl
        | Some r ↦ refl
      ]
  results_kept (Service.GetEvent o) =
      elim o as
      (λ o. results S s (Service.GetEvent o) ≡ results_in S (kept S s) (Service.GetEvent o)) [ None ↦ refl | Some t ↦ refl ]
  results_kept (Service.GetAlarm o) =
      elim o as
      (λ o. results S s (Service.GetAlarm o) ≡ results_in S (kept S s) (Service.GetAlarm o)) [ None ↦ refl | Some t ↦ refl ]
  results_kept (Service.GetAlarmBase o) =
      elim o as
      (λ o. results S s (Service.GetAlarmBase o) ≡ results_in S (kept S s) (Service.GetAlarmBase o)) [ None ↦ refl | Some t ↦ refl ]
  results_kept _ = refl
