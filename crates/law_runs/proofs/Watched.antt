-- One ready job is watched: which jobs of lower static priority can still execute before it does.
use Rattle.std.proofs.Common.{◌≡◌, ℕ, ◌<◌, ◌≤◌, ◌⊎◌, inl, inr, Bool, true, false, cond, not, List, [], ◌∷◌, ◌++◌, map, refl, sym, ◌∙◌, ap, subst, arith}
use Rattle.std.specs.Prelude.{Option, Some, None, slice_index, bit_or, ◌==◌}
use Rattle.std.specs.List.{filter, AllByRecursion}
use Rattle.std.specs.Option.{option_map}
use Rattle.osek_base.specs.declared.status.Status.{Status}
use Rattle.osek_base.specs.declared.instr.Service.{Service}
use Rattle.osek_base.specs.Types.{ServiceCall}
use Rattle.osek_base.specs.System.{System, priority_of}
use Rattle.osek_base.specs.State.{Job, JobId, State, may_dispatch, interrupts_off, same_id, waits, jobs_of, jobs_but, with_job}
use Rattle.osek_base.specs.Priority.{static_priority, dynamic_priority}
use Rattle.osek_base.specs.Choice.{choice}
use Rattle.osek_base.specs.Activation.{activated, released}
use Rattle.osek_base.specs.Reschedule.{entered, id_of, jobs_entered, switched, with_dispatch_of, reschedule}
use Rattle.osek_base.specs.GoodState.{is_raised}
use Rattle.osek_base.specs.Service.{Caller, JobCalls, RoutineCalls, NobodyCalls, first_refusal, refusals, with_caller, caller_ended, is_outranked, given_up, gets, releases, waiting_for, meets, is_met, released_by, with_events, event_set, events_cleared, event_awaited, effect, reply_to, service, unasked_service}
use Rattle.law_runs.proofs.Lists.{cond_case, some_inside, none_some, Pairs, EitherWay, clash, all_weaker, all_both, all_kept, all_append, all_map, found, pairs_weaker, either_way}
use Rattle.law_runs.proofs.Foremost.{AreApart, same_ids, same_self, only, static_le}
use Rattle.law_runs.proofs.Known.{met_waits, IsCaller}
use Rattle.law_runs.proofs.Single.{IsSoundPair, AreSingle, IsSingle}
use Rattle.law_runs.proofs.SingleMoves.{other_way}
use Rattle.law_runs.proofs.SingleService.{ended_single}
use Rattle.law_runs.proofs.Ranked.{AreRanked, IsUnder, raised_above}
use Rattle.law_runs.proofs.RankedMoves.{IsNewest, IsOrdered, IsChosen, chosen, made_job, made_newest, woken_jobs, woken_newest}

-- the id of the job that is watched, and of the one lower job that may execute
pub record Watch : Type 0 where
  pub id : JobId
  pub by : Option JobId

-- a job of an id that doesn't wait is in a list
abbrev pub HasReadyJob : JobId → List Job → Type 0
HasReadyJob n [] = ⊥
HasReadyJob n (x ∷ xs) = ((x.id ≡ n) × (waits x ≡ false)) ⊎ HasReadyJob n xs

abbrev pub HasWatched : Option Watch → List Job → Type 0
HasWatched None jobs = Unit {0}
HasWatched (Some w) jobs = HasReadyJob w.id jobs

-- a raised job lies below the static priority of the running one
abbrev pub IsBeneath : System → Option JobId → Job → Type 0
IsBeneath S running k =
    (r : JobId) → running ≡ Some r → same_id k.id r ≡ false → is_raised S k ≡ true → dynamic_priority S k < priority_of S r.task

-- of jobs whose static priority is lower, only the one that may runs or is raised to the watched one's
abbrev pub IsKnownBy : System → Option Watch → Option JobId → Job → Type 0
IsKnownBy S None running k = Unit {0}
IsKnownBy S (Some w) running k =
    static_priority S k < priority_of S w.id.task → ((is_raised S k ≡ true) × (priority_of S w.id.task ≤ dynamic_priority S k)) ⊎ (running ≡ Some k.id) → w.by ≡ Some k.id

abbrev pub IsSeen : System → Option Watch → Option JobId → Job → Type 0
IsSeen S w running k = IsBeneath S running k × IsKnownBy S w running k

pub record IsWatched (S : System) (w : Option Watch) (running : Option JobId) (jobs : List Job) : Type 0 where
  pub each : AllByRecursion (IsSeen S w running) jobs
  pub here : HasWatched w jobs

-- who executes isn't watched
abbrev pub IsOther : Option Watch → Caller → Type 0
IsOther (Some w) (JobCalls j) = same_id j.id w.id ≡ false
IsOther (Some w) (RoutineCalls a) = Unit {0}
IsOther (Some w) NobodyCalls = Unit {0}
IsOther None c = Unit {0}

-- ---- the watched job in lists

ready_map : (n : JobId) (g : Job → Job) (jobs : List Job) → ((x : Job) → x.id ≡ n → waits x ≡ false → ((g x).id ≡ n) × (waits (g x) ≡ false)) → HasReadyJob n jobs
    → HasReadyJob n (map g jobs)
ready_map n g [] f h = h
ready_map n g (x ∷ jobs) f (inl h) = inl (f x h.0 h.1)
ready_map n g (x ∷ jobs) f (inr h) = inr (ready_map n g jobs f h)

ready_kept : (n : JobId) (test : Job → Bool) (jobs : List Job) → ((x : Job) → x.id ≡ n → test x ≡ true) → HasReadyJob n jobs → HasReadyJob n (filter test jobs)
ready_kept n test [] f h = h
ready_kept n test (x ∷ jobs) f (inl h) = go (test x) (f x h.0)
  where
    go : (b : Bool) → b ≡ true → HasReadyJob n (cond b (x ∷ filter test jobs) (filter test jobs))
    go true e = inl h
    go false e = clash (sym e)
ready_kept n test (x ∷ jobs) f (inr h) = go (test x) (ready_kept n test jobs f h)
  where
    go : (b : Bool) → HasReadyJob n (filter test jobs) → HasReadyJob n (cond b (x ∷ filter test jobs) (filter test jobs))
    go true k = inr k
    go false k = k

ready_append : (n : JobId) (jobs more : List Job) → HasReadyJob n jobs → HasReadyJob n (jobs ++ more)
ready_append n [] more h = absurd h
ready_append n (x ∷ jobs) more (inl h) = inl h
ready_append n (x ∷ jobs) more (inr h) = inr (ready_append n jobs more h)

pub ready_all : (P : Job → Type 0) (n : JobId) (jobs : List Job) → AllByRecursion P jobs → HasReadyJob n jobs → (x : Job) × (P x × (x.id ≡ n) × (waits x ≡ false))
ready_all P n [] all h = absurd h
ready_all P n (x ∷ jobs) all (inl h) = (x, (all.0, h.0, h.1))
ready_all P n (x ∷ jobs) all (inr h) = ready_all P n jobs all.1 h

module _ (S : System) (w : Option Watch) where
  -- ---- changes

  runner_seen : (running : Option JobId) (k d : Job) → running ≡ Some k.id → d.id ≡ k.id → IsSeen S w running k → IsSeen S w running d
  runner_seen running k d runs id seen = (
    (λ r e other raised.
        clash (sym (same_self d.id) ∙ ap (λ n. same_id d.id n) (id ∙ some_inside k.id r (sym runs ∙ e)) ∙ other)),
    known w seen.1,
  )
    where
      known : (v : Option Watch) → IsKnownBy S v running k → IsKnownBy S v running d
      known None h = tt
      known (Some v) h = λ low either.
          h (subst (λ (n : JobId). priority_of S n.task < priority_of S v.id.task) id low) (inr runs) ∙ ap Some (sym id)

  newest_seen : (running : Option JobId) (k : Job) → IsNewest S running k → IsSeen S w running k
  newest_seen running k new = ((λ r e other raised. clash (sym raised ∙ new.unraised)), known w)
    where
      never : (v : Watch) → ((is_raised S k ≡ true) × (priority_of S v.id.task ≤ dynamic_priority S k)) ⊎ (running ≡ Some k.id) → v.by ≡ Some k.id
      never v (inl h) = clash (sym h.0 ∙ new.unraised)
      never v (inr runs) = absurd (new.stopped runs)

      known : (v : Option Watch) → IsKnownBy S v running k
      known None = tt
      known (Some v) = λ low either. never v either

  -- the running job is changed where it stands
  pub change_watched : (n : JobId) (f : Job → Job) (running : Option JobId) (jobs : List Job) → running ≡ Some n → ((k : Job) → (f k).id ≡ k.id)
      → ((v : Watch) → w ≡ Some v → same_id n v.id ≡ false) → IsWatched S w running jobs → IsWatched S w running (with_job n f jobs)
  change_watched n f running jobs runs ids other watched = record {
    each = all_map (IsSeen S w running) (IsSeen S w running) g jobs (λ k h. one k (same_id k.id n) refl h) watched.each;
    here = there w refl watched.here;
  }
    where
      g : Job → Job
      g k = cond (same_id k.id n) (f k) k

      one : (k : Job) (b : Bool) → same_id k.id n ≡ b → IsSeen S w running k → IsSeen S w running (cond b (f k) k)
      one k true e h = runner_seen running k (f k) (runs ∙ ap Some (sym (same_ids k.id n e))) (ids k) h
      one k false e h = h

      stays : (v : Watch) → same_id n v.id ≡ false → (x : Job) (b : Bool) → same_id x.id n ≡ b → x.id ≡ v.id → waits x ≡ false
          → ((cond b (f x) x).id ≡ v.id) × (waits (cond b (f x) x) ≡ false)
      stays v h x true e id ready = clash (sym e ∙ ap (λ m. same_id m n) id ∙ other_way S n v.id h)
      stays v h x false e id ready = (id, ready)

      there : (v : Option Watch) → w ≡ v → HasWatched v jobs → HasWatched v (map g jobs)
      there None e h = tt
      there (Some v) e h = ready_map v.id g jobs (λ x id ready. stays v (other v e) x (same_id x.id n) refl id ready) h

  but_watched : (n : JobId) (running : Option JobId) (jobs : List Job) → ((v : Watch) → w ≡ Some v → same_id n v.id ≡ false) → IsWatched S w running jobs
      → IsWatched S w running (jobs_but n jobs)
  but_watched n running jobs other watched = record {
    each = all_kept (IsSeen S w running) (λ k. not (same_id k.id n)) jobs watched.each;
    here = there w refl watched.here;
  }
    where
      there : (v : Option Watch) → w ≡ v → HasWatched v jobs → HasWatched v (jobs_but n jobs)
      there None e h = tt
      there (Some v) e h = ready_kept v.id (λ k. not (same_id k.id n)) jobs (λ x id. ap not (ap (λ m. same_id m n) id ∙ other_way S n v.id (other v e))) h

  append_watched : (running : Option JobId) (jobs more : List Job) → IsWatched S w running jobs → AllByRecursion (IsNewest S running) more → IsWatched S w running (jobs ++ more)
  append_watched running jobs more watched new = record {
    each = all_append (IsSeen S w running) jobs more watched.each (all_weaker (IsNewest S running) (IsSeen S w running) more (newest_seen running) new);
    here = there w watched.here;
  }
    where
      there : (v : Option Watch) → HasWatched v jobs → HasWatched v (jobs ++ more)
      there None h = tt
      there (Some v) h = ready_append v.id jobs more h

  pub activated_watched : (t : ℕ) (s : State) → IsSingle S s → IsWatched S w s.running s.jobs → IsWatched S w s.running (activated S t s).jobs
  unfolding activated
  activated_watched t s single watched = append_watched s.running s.jobs (made_job S t s ∷ []) watched (made_newest S t s single, tt)

  released_watched : (j : Job) (s : State) → ((P : Job → Type 0) → AllByRecursion P s.jobs → P j) → waits j ≡ true → Pairs AreApart s.jobs
      → IsOrdered S s.running s.jobs → IsWatched S w s.running s.jobs → IsWatched S w s.running (released j.id s).jobs
  unfolding released
  released_watched j s member waiting apart ordered watched =
      append_watched s.running (jobs_but j.id s.jobs) (woken_jobs S j s) (but_watched j.id s.running s.jobs other watched) (woken_newest S j s member waiting apart ordered)
    where
      itself : AllByRecursion (λ k. same_id k.id j.id ≡ true → k ≡ j) s.jobs
      itself = only j s.jobs (member (λ x. AllByRecursion (EitherWay AreApart x) s.jobs) (either_way AreApart s.jobs apart))

      other : (v : Watch) → w ≡ Some v → same_id j.id v.id ≡ false
      other v e = go (same_id j.id v.id) refl
        where
          go : (b : Bool) → same_id j.id v.id ≡ b → same_id j.id v.id ≡ false
          go false h = h
          go true h =
              let it = ready_all (λ k. same_id k.id j.id ≡ true → k ≡ j) v.id s.jobs itself (subst (λ o. HasWatched o s.jobs) e watched.here) in
              let same : it.0 ≡ j = it.1.0 (ap (λ m. same_id m j.id) (it.1.1 ∙ sym (same_ids j.id v.id h)) ∙ same_self j.id) in
              clash (sym waiting ∙ ap waits (sym same) ∙ it.1.2)

  -- ---- services

  module _ (s : State) (single : IsSingle S s) (ordered : IsOrdered S s.running s.jobs) (watched : IsWatched S w s.running s.jobs) where
    apart : Pairs AreApart s.jobs
    apart = pairs_weaker (IsSoundPair S) AreApart s.jobs (λ x y h. h.apart) single.pairs

    other_at : (j : Job) → IsOther w (JobCalls j) → (v : Watch) → w ≡ Some v → same_id j.id v.id ≡ false
    other_at j other v e = subst (λ o. IsOther o (JobCalls j)) e other

    by_caller : (c : Caller) (f : Job → Job) → ((k : Job) → (f k).id ≡ k.id) → IsCaller s c → IsOther w c → IsWatched S w s.running (with_caller c f s).jobs
    by_caller (JobCalls j) f ids calls other = change_watched j.id f s.running s.jobs calls.runs ids (other_at j other) watched
    by_caller (RoutineCalls a) f ids calls other = watched
    by_caller NobodyCalls f ids calls other = watched

    ended_watched : (c : Caller) → IsOther w c → IsWatched S w s.running (caller_ended c s).jobs
    ended_watched (JobCalls j) other = but_watched j.id s.running s.jobs (other_at j other) watched
    ended_watched (RoutineCalls a) other = watched
    ended_watched NobodyCalls other = watched

    chained_watched : (c : Caller) (t : ℕ) → IsOther w c → IsWatched S w s.running (activated S t (caller_ended c s)).jobs
    chained_watched (JobCalls j) t other = activated_watched t (caller_ended (JobCalls j) s) (ended_single S s single (JobCalls j)) (ended_watched (JobCalls j) other)
    chained_watched (RoutineCalls a) t other = activated_watched t s single watched
    chained_watched NobodyCalls t other = activated_watched t s single watched

    awaited_watched : (c : Caller) (m : ℕ) → IsCaller s c → IsOther w c → IsWatched S w s.running (event_awaited c m s).jobs
    awaited_watched (JobCalls j) m calls other =
        cond_case (λ (e : State). IsWatched S w s.running e.jobs) (meets m (slice_index s.masks j.id.task)) s (with_caller (JobCalls j) (waiting_for m) s) (λ e. watched)
        (λ e. by_caller (JobCalls j) (waiting_for m) (λ k. refl) calls other)
    awaited_watched (RoutineCalls a) m calls other = watched
    awaited_watched NobodyCalls m calls other = watched

    cleared_watched : (c : Caller) (m : ℕ) → IsWatched S w s.running (events_cleared c m s).jobs
    cleared_watched (JobCalls j) m = watched
    cleared_watched (RoutineCalls a) m = watched
    cleared_watched NobodyCalls m = watched

    set_watched : (t m : ℕ) → IsWatched S w s.running (event_set t m s).jobs
    set_watched t m = go (jobs_of t s.jobs) refl
      where
        events : ℕ
        events = bit_or (slice_index s.masks t) m

        go : (js : List Job) → jobs_of t s.jobs ≡ js → IsWatched S w s.running (released_by events js (with_events t events s)).jobs
        go [] e = watched
        go (j ∷ js) e =
            cond_case (λ (e : State). IsWatched S w s.running e.jobs) (is_met events j.waits_for) (released j.id (with_events t events s)) (with_events t events s)
            (λ met. released_watched j (with_events t events s) (λ P all. (subst (AllByRecursion P) e (all_kept P (λ k. k.id.task == t) s.jobs all)).0)
            (met_waits events j.waits_for met) apart ordered watched)
            (λ met. watched)

    effect_watched : (c : Caller) (call : ServiceCall) → IsCaller s c → IsOther w c → IsWatched S w s.running (effect S c s call).jobs
    effect_watched c (Service.ActivateTask None) calls other = watched
    effect_watched c (Service.ActivateTask (Some t)) calls other = activated_watched t s single watched
    effect_watched c Service.TerminateTask calls other = ended_watched c other
    effect_watched c (Service.ChainTask None) calls other = watched
    effect_watched c (Service.ChainTask (Some t)) calls other = chained_watched c t other
    effect_watched c Service.Schedule calls other =
        cond_case (λ (e : State). IsWatched S w s.running e.jobs) (is_outranked S c s.jobs) (with_caller c given_up s) s (λ e. by_caller c given_up (λ k. refl) calls other) (λ e. watched)
    effect_watched c Service.GetTaskId calls other = watched
    effect_watched c (Service.GetTaskState o) calls other = watched
    effect_watched c (Service.GetResource None) calls other = watched
    effect_watched c (Service.GetResource (Some r)) calls other = by_caller c (gets r) (λ k. refl) calls other
    effect_watched c (Service.ReleaseResource None) calls other = watched
    effect_watched c (Service.ReleaseResource (Some r)) calls other = by_caller c releases (λ k. refl) calls other
    effect_watched c (Service.LoadShared o i) calls other = watched
    effect_watched c (Service.StoreShared None i v) calls other = watched
    effect_watched c (Service.StoreShared (Some r) i v) calls other = watched
    effect_watched c (Service.SetEvent None m) calls other = watched
    effect_watched c (Service.SetEvent (Some t) m) calls other = set_watched t m
    effect_watched c (Service.ClearEvent m) calls other = cleared_watched c m
    effect_watched c (Service.GetEvent o) calls other = watched
    effect_watched c (Service.WaitEvent m) calls other = awaited_watched c m calls other
    effect_watched c (Service.SetRelAlarm None x y) calls other = watched
    effect_watched c (Service.SetRelAlarm (Some a) x y) calls other = watched
    effect_watched c (Service.SetAbsAlarm None x y) calls other = watched
    effect_watched c (Service.SetAbsAlarm (Some a) x y) calls other = watched
    effect_watched c (Service.CancelAlarm None) calls other = watched
    effect_watched c (Service.CancelAlarm (Some a)) calls other = watched
    effect_watched c (Service.GetAlarm o) calls other = watched
    effect_watched c (Service.GetAlarmBase o) calls other = watched

    reply_watched : (c : Caller) (call : ServiceCall) (o : Option Status) → IsCaller s c → IsOther w c → IsWatched S w s.running (reply_to S c s call o).state.jobs
    reply_watched c call None calls other = effect_watched c call calls other
    reply_watched c call (Some refusal) calls other = watched

    pub service_watched : (c : Caller) (call : ServiceCall) → IsCaller s c → IsOther w c → IsWatched S w (service S c s call).state.running (service S c s call).state.jobs
    unfolding service
    service_watched c call calls other = reply_watched c call (first_refusal ((interrupts_off s, Status.SysDisabled) ∷ refusals S c s call)) calls other

    pub unasked_watched : (call : ServiceCall) → IsOther w NobodyCalls → IsWatched S w (unasked_service S NobodyCalls s call).state.running (unasked_service S NobodyCalls s call).state.jobs
    unfolding unasked_service
    unasked_watched call other = reply_watched NobodyCalls call (first_refusal (refusals S NobodyCalls s call)) tt other

  -- ---- a reschedule

  chosen_watched : (made : List ℕ) (running : Option JobId) (jobs : List Job) (o : Option Job) → choice S jobs ≡ o → AreSingle S made running jobs → AreRanked S running jobs
      → IsWatched S w running jobs → IsWatched S w (option_map id_of o) (jobs_entered S o jobs)
  chosen_watched made running jobs None e single ranked watched = record {
    each = all_weaker (IsSeen S w running) (IsSeen S w None) jobs (λ k h. ((λ r runs other raised. absurd (none_some r runs)), stays w k h.1)) watched.each;
    here = watched.here;
  }
    where
      still_known : (v : Watch) (k : Job) → IsKnownBy S (Some v) running k → static_priority S k < priority_of S v.id.task
          → ((is_raised S k ≡ true) × (priority_of S v.id.task ≤ dynamic_priority S k)) ⊎ (None ≡ Some k.id) → v.by ≡ Some k.id
      still_known v k h low (inl high) = h low (inl high)
      still_known v k h low (inr runs) = absurd (none_some k.id runs)

      stays : (v : Option Watch) (k : Job) → IsKnownBy S v running k → IsKnownBy S v None k
      stays None k h = tt
      stays (Some v) k h = λ low either. still_known v k h low either
  chosen_watched made running jobs (Some c) e single ranked watched = record {
    each = all_map (λ k. ((same_id k.id c.id ≡ true → k ≡ c) × IsUnder S c k) × IsSeen S w running k) (IsSeen S w (Some c.id)) g jobs
        (λ k h. seen k (same_id k.id c.id) refl h.0.0 h.0.1 h.1)
        (all_both (λ k. (same_id k.id c.id ≡ true → k ≡ c) × IsUnder S c k) (IsSeen S w running) jobs
        (all_both (λ k. same_id k.id c.id ≡ true → k ≡ c) (IsUnder S c) jobs facts.itself facts.dispatched.under) watched.each);
    here = there w watched.here;
  }
    where
      g : Job → Job
      g j = cond (same_id j.id c.id) (entered S j) j

      facts : IsChosen S jobs c
      facts = chosen S made running jobs c e single ranked

      chosen_seen : IsSeen S w running c
      chosen_seen = (found (IsSeen S w running) _ jobs c watched.each e).0

      -- the choice isn't below the watched job
      chosen_by : (v : Watch) → IsKnownBy S (Some v) running c → HasReadyJob v.id jobs → static_priority S c < priority_of S v.id.task → v.by ≡ Some c.id
      chosen_by v known here low =
          let it = ready_all (IsUnder S c) v.id jobs facts.dispatched.under here in
          let high : dynamic_priority S it.0 ≤ dynamic_priority S c = it.1.0.top it.1.2 in
          let own : static_priority S it.0 ≤ dynamic_priority S it.0 = static_le S it.0 in
          let same : static_priority S it.0 ≡ priority_of S v.id.task = ap (λ (n : JobId). priority_of S n.task) it.1.1 in
          known low (inl (raised_above S c facts.dispatched.ready (omega arith), omega arith))

      now : (v : Option Watch) → IsKnownBy S v running c → HasWatched v jobs → IsKnownBy S v (Some c.id) (entered S c)
      now None known here = tt
      now (Some v) known here = λ low either. chosen_by v known here low

      still_known : (v : Watch) (k : Job) → same_id k.id c.id ≡ false → IsKnownBy S (Some v) running k → static_priority S k < priority_of S v.id.task
          → ((is_raised S k ≡ true) × (priority_of S v.id.task ≤ dynamic_priority S k)) ⊎ (Some c.id ≡ Some k.id) → v.by ≡ Some k.id
      still_known v k other known low (inl high) = known low (inl high)
      still_known v k other known low (inr runs) = clash (sym (same_self c.id) ∙ ap (λ n. same_id n c.id) (some_inside c.id k.id runs) ∙ other)

      stays_known : (v : Option Watch) (k : Job) → same_id k.id c.id ≡ false → IsKnownBy S v running k → IsKnownBy S v (Some c.id) k
      stays_known None k other known = tt
      stays_known (Some v) k other known = λ low either. still_known v k other known low either

      seen : (k : Job) (b : Bool) → same_id k.id c.id ≡ b → (same_id k.id c.id ≡ true → k ≡ c) → IsUnder S c k → IsSeen S w running k → IsSeen S w (Some c.id) (cond b (entered S k) k)
      seen k true same one under h =
          subst (λ z. IsSeen S w (Some c.id) (entered S z)) (sym (one same))
          ((λ r runs other raised. clash (sym (same_self c.id) ∙ ap (λ n. same_id c.id n) (some_inside c.id r runs) ∙ other)), now w chosen_seen.1 watched.here)
      seen k false other one under h = (
        (λ r runs apart' raised. subst (λ (n : JobId). dynamic_priority S k < priority_of S n.task) (some_inside c.id r runs) (under.beneath other raised)),
        stays_known w k other h.1,
      )

      stay : (n : JobId) (x : Job) (b : Bool) → x.id ≡ n → waits x ≡ false → ((cond b (entered S x) x).id ≡ n) × (waits (cond b (entered S x) x) ≡ false)
      stay n x true id ready = (id, ready)
      stay n x false id ready = (id, ready)

      there : (v : Option Watch) → HasWatched v jobs → HasWatched v (map g jobs)
      there None h = tt
      there (Some v) h = ready_map v.id g jobs (λ x id ready. stay v.id x (same_id x.id c.id) id ready) h

  pub reschedule_watched : (s : State) → IsSingle S s → AreRanked S s.running s.jobs → IsWatched S w s.running s.jobs
      → IsWatched S w (reschedule S s).state.running (reschedule S s).state.jobs
  unfolding reschedule
  reschedule_watched s single ranked watched = go (may_dispatch s)
    where
      go : (b : Bool) → IsWatched S w (with_dispatch_of s (cond b (switched S (choice S s.jobs) s) (record { events = []; state = s }))).state.running
          (with_dispatch_of s (cond b (switched S (choice S s.jobs) s) (record { events = []; state = s }))).state.jobs
      go true = chosen_watched s.made s.running s.jobs (choice S s.jobs) refl single ranked watched
      go false = watched
