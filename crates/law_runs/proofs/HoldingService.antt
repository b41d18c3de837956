-- What a service leaves of the job that holds a resource, and of the resource's words.
use Rattle.std.proofs.Common.{◌≡◌, ℕ, Bool, true, false, cond, not, ◌||◌, List, [], ◌∷◌, map, refl, sym, ◌∙◌, ap, subst, arith}
use Rattle.std.specs.Prelude.{Option, Some, None, slice_index, bit_or, ◌==◌}
use Rattle.std.specs.List.{find, list_any}
use Rattle.std.proofs.lemmas.List.{get_or-set_other}
use Rattle.osek_base.specs.declared.ids.ResId.{ResId}
use Rattle.osek_base.specs.declared.status.Status.{Status}
use Rattle.osek_base.specs.declared.instr.Service.{Service}
use Rattle.osek_base.specs.Types.{ServiceCall}
use Rattle.osek_base.specs.Lists.{same_resource}
use Rattle.osek_base.specs.System.{System}
use Rattle.osek_base.specs.State.{Job, JobId, State, interrupts_off, same_id, jobs_of, with_job, shared_window}
use Rattle.osek_base.specs.Activation.{activated, released}
use Rattle.osek_base.specs.Service.{Caller, JobCalls, RoutineCalls, NobodyCalls, holds, holds_any, got_last, caller_holds, first_refusal, refusals, with_caller, caller_ended, is_outranked, given_up, gets, releases, waiting_for, meets, is_met, may_take, released_by, with_events, events_cleared, event_awaited, word_stored, effect, answer, reply_to, service, unasked_service}
use Rattle.osek_base.specs.Blocker.{calling_job, is_number}
use Rattle.osek_base.specs.Laws.{is_release, is_store}
use Rattle.law_runs.proofs.Lists.{cond_both, clash, all_any, all_weaker, all_map, any_none}
use Rattle.law_runs.proofs.Foremost.{equal, same_ids, self_equal}
use Rattle.law_runs.proofs.Known.{passed, all_passed}
use Rattle.law_runs.proofs.Exclusion.{same_resources}
use Rattle.law_runs.proofs.Holding.{last_held, fewer_held, more_held, got_held, empty_holds, is_its_holder, IsNoOther, IsHolder, change_holder, plain_holder, but_holder, released_holder, activated_holder, held_other, IsSoleCaller, holding_caller}
use Rattle.std.proofs.lemmas.Bool.{and_from, or_left, or_right}

shown : (b : Bool) → not b ≡ false → b ≡ true
shown true h = refl
shown false h = clash h

-- ---- the holder stays

module _ (S : System) (s : State) (r : ℕ) (n : JobId) (holder : IsHolder (ResId.Declared r) n s.jobs) where
  abbrev pub HasHolder : State → Type 0
  HasHolder e = IsHolder (ResId.Declared r) n e.jobs

  -- the caller isn't the job of that id, or doesn't release the resource
  abbrev pub IsNoRelease : Caller → ServiceCall → Type 0
  IsNoRelease c call = is_number n (calling_job c) ≡ true → is_release r call ≡ true → ⊥

  caller_plain : (c : Caller) (f : Job → Job) → ((j : Job) → (f j).id ≡ j.id) → ((j : Job) → (f j).held ≡ j.held)
      → HasHolder (with_caller c f s)
  caller_plain (JobCalls j) f ids same = plain_holder (ResId.Declared r) n j.id f s.jobs ids same holder
  caller_plain (RoutineCalls a) f ids same = holder
  caller_plain NobodyCalls f ids same = holder

  gets_holder : (c : Caller) (q : ResId) → same_resource (ResId.Declared r) q ≡ false → HasHolder (with_caller c (gets q) s)
  gets_holder (JobCalls j) q other =
      change_holder (ResId.Declared r) n j.id (gets q) s.jobs (λ k. refl)
      (all_any (λ k. same_id k.id j.id ≡ true → holds (gets q k) (ResId.Declared r) ≡ holds k (ResId.Declared r)) s.jobs
      (λ k e. more_held (ResId.Declared r) q k.held other)) holder
  gets_holder (RoutineCalls a) q other = holder
  gets_holder NobodyCalls q other = holder

  releases_holder : (c : Caller) (q : ResId) → IsSoleCaller s c → got_last c q ≡ true
      → IsNoRelease c (Service.ReleaseResource (Some q))
      → HasHolder (with_caller c releases s)
  releases_holder (JobCalls j) q sole last free =
      change_holder (ResId.Declared r) n j.id releases s.jobs (λ k. refl)
      (all_weaker (λ k. same_id k.id j.id ≡ true → k ≡ j)
      (λ k. same_id k.id j.id ≡ true → holds (releases k) (ResId.Declared r) ≡ holds k (ResId.Declared r)) s.jobs
      (λ k one e. subst (λ z. holds (releases z) (ResId.Declared r) ≡ holds z (ResId.Declared r)) (sym (one e))
      (fewer_held (ResId.Declared r) q j.held last (other (same_resource (ResId.Declared r) q) refl))) sole.0) holder
    where
      other : (b : Bool) → same_resource (ResId.Declared r) q ≡ b → b ≡ false
      other false e = refl
      other true e =
          let same : ResId.Declared r ≡ q = same_resources (ResId.Declared r) q e in
          let has : holds j (ResId.Declared r) ≡ true = subst (λ z. holds j z ≡ true) (sym same) (last_held q j.held last) in
          absurd (free (holding_caller (ResId.Declared r) n s j holder sole has)
          (subst (λ z. is_release r (Service.ReleaseResource (Some z)) ≡ true) same (self_equal r)))
  releases_holder (RoutineCalls a) q sole last free = holder
  releases_holder NobodyCalls q sole last free = holder

  ended_holder : (c : Caller) → IsSoleCaller s c → holds_any c ≡ false → HasHolder (caller_ended c s)
  ended_holder (JobCalls j) sole none =
      but_holder (ResId.Declared r) n j.id s.jobs
      (all_weaker (λ k. same_id k.id j.id ≡ true → k ≡ j)
      (λ k. same_id k.id j.id ≡ true → holds k (ResId.Declared r) ≡ false) s.jobs
      (λ k one e. subst (λ z. holds z (ResId.Declared r) ≡ false) (sym (one e)) (empty_holds (ResId.Declared r) j.held none))
      sole.0) holder
  ended_holder (RoutineCalls a) sole none = holder
  ended_holder NobodyCalls sole none = holder

  cleared_holder : (c : Caller) (m : ℕ) → HasHolder (events_cleared c m s)
  cleared_holder (JobCalls j) m = holder
  cleared_holder (RoutineCalls a) m = holder
  cleared_holder NobodyCalls m = holder

  awaited_holder : (c : Caller) (m : ℕ) → HasHolder (event_awaited c m s)
  awaited_holder (JobCalls j) m =
      cond_both HasHolder (meets m (slice_index s.masks j.id.task)) s (with_caller (JobCalls j) (waiting_for m) s) holder
      (caller_plain (JobCalls j) (waiting_for m) (λ k. refl) (λ k. refl))
  awaited_holder (RoutineCalls a) m = holder
  awaited_holder NobodyCalls m = holder

  released_by_holder : (set : ℕ) (jobs : List Job) (e : State) → HasHolder e → HasHolder (released_by set jobs e)
  released_by_holder set [] e h = h
  released_by_holder set (j ∷ js) e h =
      cond_both HasHolder (is_met set j.waits_for) (released j.id e) e (released_holder (ResId.Declared r) n j.id e h) h

  effect_holder : (c : Caller) (call : ServiceCall) → IsSoleCaller s c → first_refusal (refusals S c s call) ≡ None
      → IsNoRelease c call
      → HasHolder (effect S c s call)
  effect_holder c (Service.ActivateTask None) sole none free = holder
  effect_holder c (Service.ActivateTask (Some t)) sole none free = activated_holder (ResId.Declared r) n S t s holder
  effect_holder c Service.TerminateTask sole none free =
      ended_holder c sole (all_passed (refusals S c s Service.TerminateTask) none).1.0
  effect_holder c (Service.ChainTask None) sole none free = holder
  effect_holder c (Service.ChainTask (Some t)) sole none free =
      activated_holder (ResId.Declared r) n S t (caller_ended c s)
      (ended_holder c sole (all_passed (refusals S c s (Service.ChainTask (Some t))) none).1.0)
  effect_holder c Service.Schedule sole none free =
      cond_both HasHolder (is_outranked S c s.jobs) (with_caller c given_up s) s
      (caller_plain c given_up (λ k. refl) (λ k. refl)) holder
  effect_holder c Service.GetTaskId sole none free = holder
  effect_holder c (Service.GetTaskState o) sole none free = holder
  effect_holder c (Service.GetResource None) sole none free = holder
  effect_holder c (Service.GetResource (Some q)) sole none free =
      gets_holder c q
      (held_other (ResId.Declared r) n q s.jobs holder (all_passed (refusals S c s (Service.GetResource (Some q))) none).1.1.0)
  effect_holder c (Service.ReleaseResource None) sole none free = holder
  effect_holder c (Service.ReleaseResource (Some q)) sole none free =
      releases_holder c q sole
      (shown (got_last c q) (all_passed (refusals S c s (Service.ReleaseResource (Some q))) none).1.1.0) free
  effect_holder c (Service.LoadShared o i) sole none free = holder
  effect_holder c (Service.StoreShared None i v) sole none free = holder
  effect_holder c (Service.StoreShared (Some q) i v) sole none free = holder
  effect_holder c (Service.SetEvent None m) sole none free = holder
  effect_holder c (Service.SetEvent (Some t) m) sole none free =
      released_by_holder (bit_or (slice_index s.masks t) m) (jobs_of t s.jobs)
      (with_events t (bit_or (slice_index s.masks t) m) s) holder
  effect_holder c (Service.ClearEvent m) sole none free = cleared_holder c m
  effect_holder c (Service.GetEvent o) sole none free = holder
  effect_holder c (Service.WaitEvent m) sole none free = awaited_holder c m
  effect_holder c (Service.SetRelAlarm None x y) sole none free = holder
  effect_holder c (Service.SetRelAlarm (Some a) x y) sole none free = holder
  effect_holder c (Service.SetAbsAlarm None x y) sole none free = holder
  effect_holder c (Service.SetAbsAlarm (Some a) x y) sole none free = holder
  effect_holder c (Service.CancelAlarm None) sole none free = holder
  effect_holder c (Service.CancelAlarm (Some a)) sole none free = holder
  effect_holder c (Service.GetAlarm o) sole none free = holder
  effect_holder c (Service.GetAlarmBase o) sole none free = holder

  reply_holder : (c : Caller) (call : ServiceCall) (o : Option Status) → IsSoleCaller s c
      → (o ≡ None → first_refusal (refusals S c s call) ≡ None)
      → (o ≡ None → IsNoRelease c call) → HasHolder (reply_to S c s call o).state
  reply_holder c call None sole none free = effect_holder c call sole (none refl) (free refl)
  reply_holder c call (Some refusal) sole none free = holder

  pub service_holder : (c : Caller) (call : ServiceCall) → IsSoleCaller s c
      → ((service S c s call).status ≡ Status.Ok → IsNoRelease c call)
      → HasHolder (service S c s call).state
  unfolding service
  service_holder c call sole free =
      reply_holder c call (first_refusal ((interrupts_off s, Status.SysDisabled) ∷ refusals S c s call)) sole
      (λ e. (passed (interrupts_off s) Status.SysDisabled (refusals S c s call) e).1) (λ e. free (ap answer e))

  pub unasked_holder : (call : ServiceCall) → HasHolder (unasked_service S NobodyCalls s call).state
  unfolding unasked_service
  unasked_holder call =
      reply_holder NobodyCalls call (first_refusal (refusals S NobodyCalls s call)) tt (λ e. e) (λ e number. clash (sym number))

-- ---- the words stay

module _ (S : System) (s : State) (r : ℕ) where
  abbrev pub HasWindow : State → Type 0
  HasWindow e = shared_window e.shared r ≡ shared_window s.shared r

  -- the caller doesn't hold the resource, or stores nothing in its window
  abbrev pub IsNoStore : Caller → ServiceCall → Type 0
  IsNoStore c call = caller_holds c (ResId.Declared r) ≡ true → is_store r call ≡ true → ⊥

  caller_window : (c : Caller) (f : Job → Job) → HasWindow (with_caller c f s)
  caller_window (JobCalls j) f = refl
  caller_window (RoutineCalls a) f = refl
  caller_window NobodyCalls f = refl

  ended_window : (c : Caller) → HasWindow (caller_ended c s)
  ended_window (JobCalls j) = refl
  ended_window (RoutineCalls a) = refl
  ended_window NobodyCalls = refl

  activated_window : (t : ℕ) (e : State) → HasWindow e → HasWindow (activated S t e)
  unfolding activated
  activated_window t e h = h

  released_window : (m : JobId) (e : State) → HasWindow e → HasWindow (released m e)
  unfolding released
  released_window m e h = h

  released_by_window : (set : ℕ) (jobs : List Job) (e : State) → HasWindow e → HasWindow (released_by set jobs e)
  released_by_window set [] e h = h
  released_by_window set (j ∷ js) e h = cond_both HasWindow (is_met set j.waits_for) (released j.id e) e (released_window j.id e h) h

  cleared_window : (c : Caller) (m : ℕ) → HasWindow (events_cleared c m s)
  cleared_window (JobCalls j) m = refl
  cleared_window (RoutineCalls a) m = refl
  cleared_window NobodyCalls m = refl

  awaited_window : (c : Caller) (m : ℕ) → HasWindow (event_awaited c m s)
  awaited_window (JobCalls j) m =
      cond_both HasWindow (meets m (slice_index s.masks j.id.task)) s (with_caller (JobCalls j) (waiting_for m) s) refl refl
  awaited_window (RoutineCalls a) m = refl
  awaited_window NobodyCalls m = refl

  -- only the resource's own window changes
  stored_window : (c : Caller) (q : ResId) (i v : ℕ) → caller_holds c q ≡ true → IsNoStore c (Service.StoreShared (Some q) i v)
      → shared_window (word_stored q i v s.shared) r ≡ shared_window s.shared r
  stored_window c (ResId.Declared m) i v has free = go (m == r) refl
    where
      go : (b : Bool) → (m == r) ≡ b → shared_window (word_stored (ResId.Declared m) i v s.shared) r ≡ shared_window s.shared r
      go true e = absurd (free (subst (λ k. caller_holds c (ResId.Declared k) ≡ true) (equal m r e) has) e)
      go false e = get_or-set_other s.shared m r _ [] (λ same. clash (sym (self_equal m) ∙ ap (λ k. m == k) (sym same) ∙ e))
  stored_window c ResId.Scheduler i v has free = refl

  effect_window : (c : Caller) (call : ServiceCall) → first_refusal (refusals S c s call) ≡ None → IsNoStore c call
      → HasWindow (effect S c s call)
  effect_window c (Service.ActivateTask None) none free = refl
  effect_window c (Service.ActivateTask (Some t)) none free = activated_window t s refl
  effect_window c Service.TerminateTask none free = ended_window c
  effect_window c (Service.ChainTask None) none free = refl
  effect_window c (Service.ChainTask (Some t)) none free = activated_window t (caller_ended c s) (ended_window c)
  effect_window c Service.Schedule none free =
      cond_both HasWindow (is_outranked S c s.jobs) (with_caller c given_up s) s (caller_window c given_up) refl
  effect_window c Service.GetTaskId none free = refl
  effect_window c (Service.GetTaskState o) none free = refl
  effect_window c (Service.GetResource None) none free = refl
  effect_window c (Service.GetResource (Some q)) none free = caller_window c (gets q)
  effect_window c (Service.ReleaseResource None) none free = refl
  effect_window c (Service.ReleaseResource (Some q)) none free = caller_window c releases
  effect_window c (Service.LoadShared o i) none free = refl
  effect_window c (Service.StoreShared None i v) none free = refl
  effect_window c (Service.StoreShared (Some q) i v) none free =
      stored_window c q i v
      (shown (caller_holds c q) (all_passed (refusals S c s (Service.StoreShared (Some q) i v)) none).1.1.0) free
  effect_window c (Service.SetEvent None m) none free = refl
  effect_window c (Service.SetEvent (Some t) m) none free =
      released_by_window (bit_or (slice_index s.masks t) m) (jobs_of t s.jobs)
      (with_events t (bit_or (slice_index s.masks t) m) s) refl
  effect_window c (Service.ClearEvent m) none free = cleared_window c m
  effect_window c (Service.GetEvent o) none free = refl
  effect_window c (Service.WaitEvent m) none free = awaited_window c m
  effect_window c (Service.SetRelAlarm None x y) none free = refl
  effect_window c (Service.SetRelAlarm (Some a) x y) none free = refl
  effect_window c (Service.SetAbsAlarm None x y) none free = refl
  effect_window c (Service.SetAbsAlarm (Some a) x y) none free = refl
  effect_window c (Service.CancelAlarm None) none free = refl
  effect_window c (Service.CancelAlarm (Some a)) none free = refl
  effect_window c (Service.GetAlarm o) none free = refl
  effect_window c (Service.GetAlarmBase o) none free = refl

  reply_window : (c : Caller) (call : ServiceCall) (o : Option Status) → (o ≡ None → first_refusal (refusals S c s call) ≡ None)
      → (o ≡ None → IsNoStore c call) → HasWindow (reply_to S c s call o).state
  reply_window c call None none free = effect_window c call (none refl) (free refl)
  reply_window c call (Some refusal) none free = refl

  pub service_window : (c : Caller) (call : ServiceCall) → ((service S c s call).status ≡ Status.Ok → IsNoStore c call)
      → HasWindow (service S c s call).state
  unfolding service
  service_window c call free =
      reply_window c call (first_refusal ((interrupts_off s, Status.SysDisabled) ∷ refusals S c s call))
      (λ e. (passed (interrupts_off s) Status.SysDisabled (refusals S c s call) e).1) (λ e. free (ap answer e))

  pub unasked_window : (call : ServiceCall) → HasWindow (unasked_service S NobodyCalls s call).state
  unfolding unasked_service
  unasked_window call =
      reply_window NobodyCalls call (first_refusal (refusals S NobodyCalls s call)) (λ e. e) (λ e has. clash (sym has))

-- ---- a job comes to hold it

-- what is found passes, and what it becomes passes the other test
found_map : {X : Type 0} (p q : X → Bool) (g : X → X) (xs : List X) (x : X) → ((y : X) → p y ≡ true → q (g y) ≡ true)
    → find p xs ≡ Some x
    → list_any q (map g xs) ≡ true
found_map p q g [] x f h = absurd (grind arith)
found_map p q g (y ∷ xs) x f h = go (p y) refl h (found_map p q g xs x f)
  where
    go : (b : Bool) → p y ≡ b → cond b (Some y) (find p xs) ≡ Some x → (find p xs ≡ Some x → list_any q (map g xs) ≡ true)
        → (q (g y) || list_any q (map g xs)) ≡ true
    go true e k rest = or_left (q (g y)) (list_any q (map g xs)) (f y e)
    go false e k rest = or_right (q (g y)) (list_any q (map g xs)) (rest k)

module _ (S : System) (s : State) (r : ℕ) (n : JobId) (j : Job) (sole : IsSoleCaller s (JobCalls j))
    (itself : same_id j.id n ≡ true) where
  abbrev pub after_get : Job → Job
  after_get k = cond (same_id k.id j.id) (gets (ResId.Declared r) k) k

  -- a job of the caller's id
  its_id : (k : Job) → same_id k.id j.id ≡ true → same_id k.id n ≡ true
  its_id k e = subst (λ m. same_id m n ≡ true) (sym (same_ids k.id j.id e)) itself

  holds_now : (k : Job) (b : Bool) → same_id k.id j.id ≡ b → b ≡ true
      → is_its_holder (ResId.Declared r) n (cond b (gets (ResId.Declared r) k) k) ≡ true
  holds_now k true e h =
      and_from (same_id k.id n) (holds (gets (ResId.Declared r) k) (ResId.Declared r)) (its_id k e)
      (got_held (ResId.Declared r) k.held)
  holds_now k false e h = clash (sym h)

  no_other_now : (k : Job) (b : Bool) → same_id k.id j.id ≡ b → holds k (ResId.Declared r) ≡ false
      → IsNoOther (ResId.Declared r) n (cond b (gets (ResId.Declared r) k) k)
  no_other_now k true e none h = its_id k e
  no_other_now k false e none h = clash (sym h ∙ none)

  got_holder : list_any (λ k. holds k (ResId.Declared r)) s.jobs ≡ false
      → IsHolder (ResId.Declared r) n (with_job j.id (gets (ResId.Declared r)) s.jobs)
  got_holder none = record {
    held = found_map (λ k. same_id k.id j.id) (is_its_holder (ResId.Declared r) n) after_get s.jobs j
        (λ k e. holds_now k (same_id k.id j.id) refl e) sole.1;
    alone = all_map (λ k. holds k (ResId.Declared r) ≡ false) (IsNoOther (ResId.Declared r) n) after_get s.jobs
        (λ k h. no_other_now k (same_id k.id j.id) refl h) (any_none (λ k. holds k (ResId.Declared r)) s.jobs none);
  }

  -- where E_OK is answered nothing is refused
  none_refused : (off takes any : Bool)
      → answer (cond off (Some Status.SysDisabled) (cond (not takes) (Some Status.Access) (cond any (Some Status.Access) None)))
      ≡ Status.Ok
      → cond off (Some Status.SysDisabled) (cond (not takes) (Some Status.Access) (cond any (Some Status.Access) None)) ≡ None
  none_refused true takes any e = absurd (cc)
  none_refused false false any e = absurd (cc)
  none_refused false true true e = absurd (cc)
  none_refused false true false e = refl

  pub service_got : (service S (JobCalls j) s (Service.GetResource (Some (ResId.Declared r)))).status ≡ Status.Ok
      → IsHolder (ResId.Declared r) n (service S (JobCalls j) s (Service.GetResource (Some (ResId.Declared r)))).state.jobs
  unfolding service
  service_got ok =
      let call = Service.GetResource (Some (ResId.Declared r)) in
      let none : first_refusal ((interrupts_off s, Status.SysDisabled) ∷ refusals S (JobCalls j) s call) ≡ None =
      none_refused (interrupts_off s) (may_take S j.id.task (ResId.Declared r))
      (list_any (λ k. holds k (ResId.Declared r)) s.jobs) ok in
      subst (λ o. IsHolder (ResId.Declared r) n (reply_to S (JobCalls j) s call o).state.jobs) (sym none)
      (got_holder (all_passed (refusals S (JobCalls j) s call)
      (passed (interrupts_off s) Status.SysDisabled (refusals S (JobCalls j) s call) none).1).1.1.0)
