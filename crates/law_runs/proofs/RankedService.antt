-- A service keeps who comes before whom, and the running job ready, unless a reschedule comes.
use Rattle.std.proofs.Common.{◌≡◌, ℕ, ◌≤◌, inl, inr, Bool, true, false, cond, max, not, ◌&&◌, ◌||◌, nat_lt, List, [], ◌∷◌, ◌++◌, map, refl, sym, ◌∙◌, subst, arith}
use Rattle.std.specs.Prelude.{Option, Some, None, is_some, slice_index, bit_or, ◌==◌}
use Rattle.std.specs.List.{AllByRecursion}
use Rattle.std.specs.Option.{unwrap_or}
use Rattle.osek_base.specs.declared.ids.ResId.{ResId}
use Rattle.osek_base.specs.declared.task.Action.{Action}
use Rattle.osek_base.specs.declared.status.Status.{Status}
use Rattle.osek_base.specs.declared.instr.Service.{Service}
use Rattle.osek_base.specs.Types.{ServiceCall}
use Rattle.osek_base.specs.Lists.{is_empty, greatest, without_last}
use Rattle.osek_base.specs.System.{System}
use Rattle.osek_base.specs.Ceiling.{ceiling, internal_ceiling}
use Rattle.osek_base.specs.State.{Job, JobId, State, Active, may_dispatch, interrupts_off, same_id, waits, jobs_of, jobs_but, with_job}
use Rattle.osek_base.specs.Priority.{static_priority, dynamic_priority}
use Rattle.osek_base.specs.Activation.{activated, released}
use Rattle.osek_base.specs.Service.{Caller, JobCalls, RoutineCalls, NobodyCalls, holds_any, first_refusal, refusals, with_caller, caller_ended, is_outranked, given_up, gets, releases, waiting_for, meets, is_met, released_by, with_events, event_set, events_cleared, event_awaited, effect, reply_to, service, unasked_service}
use Rattle.osek_base.specs.Tick.{action_call}
use Rattle.law_runs.proofs.Lists.{cond_case, Pairs, EitherWay, clash, all_kept, found, pairs_weaker, either_way}
use Rattle.law_runs.proofs.Foremost.{AreApart, only}
use Rattle.law_runs.proofs.Known.{met_waits, IsCaller, passed, all_passed}
use Rattle.law_runs.proofs.Single.{IsSoundPair, IsSingle}
use Rattle.law_runs.proofs.SingleService.{ended_single}
use Rattle.law_runs.proofs.Ranked.{AreRanked, IsDispatched, HasDispatched, IsRedispatch, redispatched, lowered, heightened}
use Rattle.law_runs.proofs.RankedMoves.{IsOrdered, IsReadyOrDue, kept_ranked, same_ready, activated_ordered, released_ordered}

-- ---- priorities of what is held

map_more : (S : System) (rs : List ResId) (r : ResId) → greatest (map (ceiling S) rs) ≤ greatest (map (ceiling S) (rs ++ r ∷ []))
map_more S [] r = omega arith
map_more S (q ∷ rs) r = let rest = map_more S rs r in omega arith

map_fewer : (S : System) (rs : List ResId) → greatest (map (ceiling S) (without_last rs)) ≤ greatest (map (ceiling S) rs)
map_fewer S [] = omega arith
map_fewer S (q ∷ []) = omega arith
map_fewer S (q ∷ r ∷ rs) = let rest = map_fewer S (r ∷ rs) in omega arith

none_fewer : (rs : List ResId) → not (is_empty (without_last rs)) ≡ true → not (is_empty rs) ≡ true
none_fewer [] h = h
none_fewer (r ∷ rs) h = refl

still_raised : (w d e : Bool) (m n k : ℕ) → (d ≡ true → e ≡ true) → n ≤ k → (not w && (d || nat_lt m n)) ≡ true → (not w && (e || nat_lt m k)) ≡ true
still_raised true d e m n k f le h = h
still_raised false true e m n k f le h = here e (f refl)
  where
    here : (b : Bool) → b ≡ true → (b || nat_lt m k) ≡ true
    here true g = refl
    here false g = clash (sym g)
still_raised false false true m n k f le h = refl
still_raised false false false m n k f le h = grind (arith, h, le)

untaken : (m n : ℕ) (b : Bool) (o : Option ℕ) → max m (max n 0) ≤ max m (max n (cond b (unwrap_or o 0) 0))
untaken m n true o = omega arith
untaken m n false o = omega arith

grown : (m a b c : ℕ) → a ≤ b → max m (max a c) ≤ max m (max b c)
grown m a b c le = omega arith

-- who may call: a job only where it was dispatched
abbrev pub MayCall : System → State → Caller → Type 0
MayCall S s (JobCalls j) = (may_dispatch s ≡ true) × HasDispatched S s.running s.jobs
MayCall S s (RoutineCalls a) = Unit {0}
MayCall S s NobodyCalls = Unit {0}

module _ (S : System) (s : State) (single : IsSingle S s) (ordered : IsOrdered S s.running s.jobs) where
  -- what a service leaves
  pub record IsLeft (e : State) : Type 0 where
    pub ranked : AreRanked S s.running e.jobs
    pub ready : IsReadyOrDue S s s.running e.jobs

  left : (e : State) → IsOrdered S s.running e.jobs → IsLeft e
  left e h = record { ranked = h.ranked; ready = inl h.ready }

  unchanged : IsLeft s
  unchanged = left s ordered

  apart : Pairs AreApart s.jobs
  apart = pairs_weaker (IsSoundPair S) AreApart s.jobs (λ x y h. h.apart) single.pairs

  -- ---- the calling job

  module _ (j : Job) (calls : IsCaller s (JobCalls j)) (may : MayCall S s (JobCalls j)) where
    member : (P : Job → Type 0) → AllByRecursion P s.jobs → P j
    member P all = (found P (λ k. same_id k.id j.id) s.jobs j all calls.found).0

    itself : AllByRecursion (λ k. same_id k.id j.id ≡ true → k ≡ j) s.jobs
    itself = only j s.jobs (member (λ x. AllByRecursion (EitherWay AreApart x) s.jobs) (either_way AreApart s.jobs apart))

    pub caller_dispatched : IsDispatched S s.jobs j
    caller_dispatched = member (λ c. s.running ≡ Some c.id → IsDispatched S s.jobs c) may.1 calls.runs

    again : (f : Job → Job) → IsRedispatch S j (f j) → AreRanked S s.running (with_job j.id f s.jobs)
    again f redispatch =
        subst (λ o. AreRanked S o (with_job j.id f s.jobs)) (sym calls.runs)
        (redispatched S f j s.jobs apart itself caller_dispatched redispatch ordered.ranked.still ordered.ranked.pairs)

    gets_left : (r : ResId) → IsLeft (with_caller (JobCalls j) (gets r) s)
    gets_left r = record {
      ranked = again (gets r) (heightened S j (gets r j) (record {
        id = refl;
        up = grown (static_priority S j) (greatest (map (ceiling S) j.held)) (greatest (map (ceiling S) (j.held ++ r ∷ []))) (cond j.taken (unwrap_or (internal_ceiling S j.id.task) 0) 0) (map_more S j.held r);
        ready = caller_dispatched.ready;
      }));
      ready = inl (same_ready S j.id (gets r) s.running s.jobs (λ k. refl) (λ k. refl) ordered.ready);
    }

    releases_left : IsLeft (with_caller (JobCalls j) releases s)
    releases_left =
        let down : dynamic_priority S (releases j) ≤ dynamic_priority S j =
        grown (static_priority S j) (greatest (map (ceiling S) (without_last j.held))) (greatest (map (ceiling S) j.held)) (cond j.taken (unwrap_or (internal_ceiling S j.id.task) 0) 0) (map_fewer S j.held) in
        record {
          ranked = again releases (lowered S j (releases j) (record {
            id = refl;
            down = down;
            raised = still_raised (waits j) (not (is_empty (without_last j.held))) (not (is_empty j.held)) (static_priority S j) (dynamic_priority S (releases j)) (dynamic_priority S j) (none_fewer j.held) down;
            still = λ w. clash (sym w ∙ caller_dispatched.ready);
          }));
          ready = inl (same_ready S j.id releases s.running s.jobs (λ k. refl) (λ k. refl) ordered.ready);
        }

    given_up_left : IsLeft (with_caller (JobCalls j) given_up s)
    given_up_left =
        let down : dynamic_priority S (given_up j) ≤ dynamic_priority S j =
        untaken (static_priority S j) (greatest (map (ceiling S) j.held)) j.taken (internal_ceiling S j.id.task) in
        record {
          ranked = again given_up (lowered S j (given_up j) (record {
            id = refl;
            down = down;
            raised = still_raised (waits j) (not (is_empty j.held)) (not (is_empty j.held)) (static_priority S j) (dynamic_priority S (given_up j)) (dynamic_priority S j) (λ h. h) down;
            still = λ w. clash (sym w ∙ caller_dispatched.ready);
          }));
          ready = inl (same_ready S j.id given_up s.running s.jobs (λ k. refl) (λ k. refl) ordered.ready);
        }

    none_held : (rs : List ResId) → not (is_empty rs) ≡ false → rs ≡ []
    none_held [] h = refl
    none_held (r ∷ rs) h = clash h

    awaits_left : (m : ℕ) → holds_any (JobCalls j) ≡ false → IsLeft (with_caller (JobCalls j) (waiting_for m) s)
    awaits_left m none = record {
      ranked = again (waiting_for m) (lowered S j (waiting_for m j) (record {
        id = refl;
        down = untaken (static_priority S j) (greatest (map (ceiling S) j.held)) j.taken (internal_ceiling S j.id.task);
        raised = λ h. clash (sym h);
        still = λ w. (none_held j.held none, refl);
      }));
      ready = inr may.0;
    }

  -- ---- by service

  got : (c : Caller) (r : ResId) → IsCaller s c → MayCall S s c → IsLeft (with_caller c (gets r) s)
  got (JobCalls j) r calls may = gets_left j calls may r
  got (RoutineCalls a) r calls may = unchanged
  got NobodyCalls r calls may = unchanged

  let_go : (c : Caller) → IsCaller s c → MayCall S s c → IsLeft (with_caller c releases s)
  let_go (JobCalls j) calls may = releases_left j calls may
  let_go (RoutineCalls a) calls may = unchanged
  let_go NobodyCalls calls may = unchanged

  gave_up : (c : Caller) → IsCaller s c → MayCall S s c → IsLeft (with_caller c given_up s)
  gave_up (JobCalls j) calls may = given_up_left j calls may
  gave_up (RoutineCalls a) calls may = unchanged
  gave_up NobodyCalls calls may = unchanged

  awaited : (c : Caller) (m : ℕ) → IsCaller s c → MayCall S s c → holds_any c ≡ false → IsLeft (event_awaited c m s)
  awaited (JobCalls j) m calls may none =
      cond_case IsLeft (meets m (slice_index s.masks j.id.task)) s (with_caller (JobCalls j) (waiting_for m) s) (λ e. unchanged) (λ e. awaits_left j calls may m none)
  awaited (RoutineCalls a) m calls may none = unchanged
  awaited NobodyCalls m calls may none = unchanged

  cleared : (c : Caller) (m : ℕ) → IsLeft (events_cleared c m s)
  cleared (JobCalls j) m = left (events_cleared (JobCalls j) m s) ordered
  cleared (RoutineCalls a) m = unchanged
  cleared NobodyCalls m = unchanged

  ended_ordered : (n : JobId) → IsOrdered S s.running (jobs_but n s.jobs)
  ended_ordered n = record {
    ranked = kept_ranked S (λ k. not (same_id k.id n)) s.running s.jobs ordered.ranked;
    ready = all_kept (λ k. s.running ≡ Some k.id → waits k ≡ false) (λ k. not (same_id k.id n)) s.jobs ordered.ready;
  }

  terminated : (c : Caller) → IsLeft (caller_ended c s)
  terminated (JobCalls j) = left (caller_ended (JobCalls j) s) (ended_ordered j.id)
  terminated (RoutineCalls a) = unchanged
  terminated NobodyCalls = unchanged

  activates : (t : ℕ) → IsLeft (activated S t s)
  activates t = left (activated S t s) (activated_ordered S t s single ordered)

  chained : (c : Caller) (t : ℕ) → IsLeft (activated S t (caller_ended c s))
  chained (JobCalls j) t =
      left (activated S t (caller_ended (JobCalls j) s))
      (activated_ordered S t (caller_ended (JobCalls j) s) (ended_single S s single (JobCalls j)) (ended_ordered j.id))
  chained (RoutineCalls a) t = activates t
  chained NobodyCalls t = activates t

  set_ordered : (t m : ℕ) → IsOrdered S s.running (event_set t m s).jobs
  set_ordered t m = go (jobs_of t s.jobs) refl
    where
      events : ℕ
      events = bit_or (slice_index s.masks t) m

      go : (js : List Job) → jobs_of t s.jobs ≡ js → IsOrdered S s.running (released_by events js (with_events t events s)).jobs
      go [] e = ordered
      go (j ∷ js) e =
          cond_case (λ (e : State). IsOrdered S s.running e.jobs) (is_met events j.waits_for) (released j.id (with_events t events s)) (with_events t events s)
          (λ met. released_ordered S j (with_events t events s) (λ P all. (subst (AllByRecursion P) e (all_kept P (λ k. k.id.task == t) s.jobs all)).0)
          (met_waits events j.waits_for met) apart ordered)
          (λ met. ordered)

  set_left : (t m : ℕ) → IsLeft (event_set t m s)
  set_left t m = left (event_set t m s) (set_ordered t m)

  effect_left : (c : Caller) (call : ServiceCall) → IsCaller s c → MayCall S s c → first_refusal (refusals S c s call) ≡ None → IsLeft (effect S c s call)
  effect_left c (Service.ActivateTask None) calls may none = unchanged
  effect_left c (Service.ActivateTask (Some t)) calls may none = activates t
  effect_left c Service.TerminateTask calls may none = terminated c
  effect_left c (Service.ChainTask None) calls may none = unchanged
  effect_left c (Service.ChainTask (Some t)) calls may none = chained c t
  effect_left c Service.Schedule calls may none = cond_case IsLeft (is_outranked S c s.jobs) (with_caller c given_up s) s (λ e. gave_up c calls may) (λ e. unchanged)
  effect_left c Service.GetTaskId calls may none = unchanged
  effect_left c (Service.GetTaskState o) calls may none = unchanged
  effect_left c (Service.GetResource None) calls may none = unchanged
  effect_left c (Service.GetResource (Some r)) calls may none = got c r calls may
  effect_left c (Service.ReleaseResource None) calls may none = unchanged
  effect_left c (Service.ReleaseResource (Some r)) calls may none = let_go c calls may
  effect_left c (Service.LoadShared o i) calls may none = unchanged
  effect_left c (Service.StoreShared None i v) calls may none = unchanged
  effect_left c (Service.StoreShared (Some r) i v) calls may none = record { ranked = ordered.ranked; ready = inl ordered.ready }
  effect_left c (Service.SetEvent None m) calls may none = unchanged
  effect_left c (Service.SetEvent (Some t) m) calls may none = set_left t m
  effect_left c (Service.ClearEvent m) calls may none = cleared c m
  effect_left c (Service.GetEvent o) calls may none = unchanged
  effect_left c (Service.WaitEvent m) calls may none = awaited c m calls may (all_passed (refusals S c s (Service.WaitEvent m)) none).1.1.0
  effect_left c (Service.SetRelAlarm None x y) calls may none = unchanged
  effect_left c (Service.SetRelAlarm (Some a) x y) calls may none = record { ranked = ordered.ranked; ready = inl ordered.ready }
  effect_left c (Service.SetAbsAlarm None x y) calls may none = unchanged
  effect_left c (Service.SetAbsAlarm (Some a) x y) calls may none = record { ranked = ordered.ranked; ready = inl ordered.ready }
  effect_left c (Service.CancelAlarm None) calls may none = unchanged
  effect_left c (Service.CancelAlarm (Some a)) calls may none = record { ranked = ordered.ranked; ready = inl ordered.ready }
  effect_left c (Service.GetAlarm o) calls may none = unchanged
  effect_left c (Service.GetAlarmBase o) calls may none = unchanged

  reply_left : (c : Caller) (call : ServiceCall) (o : Option Status) → IsCaller s c
      → (o ≡ None → MayCall S s c × (first_refusal (refusals S c s call) ≡ None)) → IsLeft (reply_to S c s call o).state
  reply_left c call None calls none =
      let h : IsLeft (effect S c s call) = effect_left c call calls (none refl).0 (none refl).1 in
      record { ranked = h.ranked; ready = h.ready }
  reply_left c call (Some refusal) calls none = record { ranked = ordered.ranked; ready = inl ordered.ready }

  -- a caller whom interrupts don't stop
  pub may_call : (c : Caller) → (may_dispatch s ≡ true → HasDispatched S s.running s.jobs) → IsCaller s c → interrupts_off s ≡ false → MayCall S s c
  may_call (JobCalls j) dispatching calls on =
      let may : may_dispatch s ≡ true = go s.active (interrupts_off s) calls.idle on in
      (may, dispatching may)
    where
      go : (o : Option Active) (b : Bool) → o ≡ None → b ≡ false → (not (is_some o) && not b) ≡ true
      go None false e h = refl
      go None true e h = clash h
      go (Some a) b e h = absurd (grind arith)
  may_call (RoutineCalls a) dispatching calls on = tt
  may_call NobodyCalls dispatching calls on = tt

  pub service_left : (c : Caller) (call : ServiceCall) → (may_dispatch s ≡ true → HasDispatched S s.running s.jobs) → IsCaller s c → IsLeft (service S c s call).state
  unfolding service
  service_left c call dispatching calls =
      reply_left c call (first_refusal ((interrupts_off s, Status.SysDisabled) ∷ refusals S c s call)) calls
      (λ e. (let both = passed (interrupts_off s) Status.SysDisabled (refusals S c s call) e in (may_call c dispatching calls both.0, both.1)))

  -- what the action of an alarm leaves
  pub action_ordered : (act : Action) → IsOrdered S s.running (unasked_service S NobodyCalls s (action_call act)).state.jobs
  unfolding unasked_service
  action_ordered (Action.ActivateTask t) = go (first_refusal (refusals S NobodyCalls s (Service.ActivateTask (Some t))))
    where
      go : (o : Option Status) → IsOrdered S s.running (reply_to S NobodyCalls s (Service.ActivateTask (Some t)) o).state.jobs
      go None = activated_ordered S t s single ordered
      go (Some refusal) = ordered
  action_ordered (Action.SetEvent t m) = go (first_refusal (refusals S NobodyCalls s (Service.SetEvent (Some t) m)))
    where
      go : (o : Option Status) → IsOrdered S s.running (reply_to S NobodyCalls s (Service.SetEvent (Some t) m) o).state.jobs
      go None = set_ordered t m
      go (Some refusal) = ordered
