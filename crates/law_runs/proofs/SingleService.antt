-- A service leaves of each task only the oldest job begun, whoever calls it.
use Rattle.std.proofs.Common.{◌≡◌, ℕ, ◌<◌, Bool, true, false, not, ◌&&◌, List, [], ◌∷◌, length, refl, sym, ◌∙◌, ap, subst}
use Rattle.std.specs.Prelude.{Option, Some, None, slice_index, bit_or, ◌==◌}
use Rattle.std.specs.List.{AllByRecursion}
use Rattle.osek_base.specs.declared.ids.ResId.{ResId}
use Rattle.osek_base.specs.declared.status.Status.{Status}
use Rattle.osek_base.specs.declared.instr.Service.{Service}
use Rattle.osek_base.specs.Types.{ServiceCall}
use Rattle.osek_base.specs.Lists.{without_last}
use Rattle.osek_base.specs.System.{System, is_extended}
use Rattle.osek_base.specs.State.{Job, JobId, State, interrupts_off, same_id, jobs_of, jobs_but}
use Rattle.osek_base.specs.Activation.{is_full, activated, released}
use Rattle.osek_base.specs.Service.{Caller, JobCalls, RoutineCalls, NobodyCalls, is_own_task, is_basic_caller, first_refusal, refusals, with_caller, caller_ended, is_outranked, given_up, gets, releases, waiting_for, meets, is_met, released_by, with_events, event_set, events_cleared, event_awaited, effect, reply_to, service, unasked_service}
use Rattle.osek_base.specs.Proper.{IsProper}
use Rattle.law_runs.proofs.Lists.{cond_case, clash, all_weaker, all_any, all_kept, all_filter, found}
use Rattle.law_runs.proofs.Foremost.{equal, same_ids, same_self}
use Rattle.law_runs.proofs.Known.{met_waits, IsCaller, ActivatesKnown, HasRoom, passed, all_passed, full_room}
use Rattle.law_runs.proofs.Single.{IsSoundJob, HasRunner, AreSingle, IsSingle, IsFitChange, but_single, change_single, activated_single}
use Rattle.law_runs.proofs.SingleMoves.{alone, released_single}

-- what a service leaves is single, and the running job is who it was
abbrev pub LeftSingle : System → State → State → Type 0
LeftSingle S s e = AreSingle S e.made s.running e.jobs

module _ (S : System) (s : State) (single : IsSingle S s) where
  -- ---- changes of the caller

  given_up_single : (c : Caller) → LeftSingle S s (with_caller c given_up s)
  given_up_single (JobCalls j) =
      change_single S j.id given_up s.made s.running s.jobs
      (all_any (IsFitChange S s.made j.id given_up) s.jobs (λ k. record {
        id = refl;
        begun = refl;
        sound = λ e h. record { given = h.given; idle = λ b. ((h.idle b).0, refl); fresh = h.fresh; extended = h.extended };
      })) single
  given_up_single (RoutineCalls a) = single
  given_up_single NobodyCalls = single

  releases_single : (c : Caller) → LeftSingle S s (with_caller c releases s)
  releases_single (JobCalls j) =
      change_single S j.id releases s.made s.running s.jobs
      (all_any (IsFitChange S s.made j.id releases) s.jobs (λ k. record {
        id = refl;
        begun = refl;
        sound = λ e h. record { given = h.given; idle = λ b. (ap without_last (h.idle b).0, (h.idle b).1); fresh = h.fresh; extended = h.extended };
      })) single
  releases_single (RoutineCalls a) = single
  releases_single NobodyCalls = single

  -- the running job is begun
  pub runner_begun : (n : JobId) → s.running ≡ Some n → AllByRecursion (λ k. same_id k.id n ≡ true → k.begun ≡ true) s.jobs
  runner_begun n e = (subst (λ o. HasRunner s.made s.jobs o) e single.runs).begun

  gets_single : (c : Caller) (r : ResId) → IsCaller s c → LeftSingle S s (with_caller c (gets r) s)
  gets_single (JobCalls j) r calls =
      change_single S j.id (gets r) s.made s.running s.jobs
      (all_weaker (λ k. same_id k.id j.id ≡ true → k.begun ≡ true) (IsFitChange S s.made j.id (gets r)) s.jobs (λ k begun. record {
        id = refl;
        begun = refl;
        sound = λ e h. record { given = h.given; idle = λ b. clash (sym (begun e) ∙ b); fresh = h.fresh; extended = h.extended };
      }) (runner_begun j.id calls.runs)) single
  gets_single (RoutineCalls a) r calls = single
  gets_single NobodyCalls r calls = single

  awaits : (j : Job) (m : ℕ) → is_extended S j.id.task ≡ true → LeftSingle S s (with_caller (JobCalls j) (waiting_for m) s)
  awaits j m extended =
      change_single S j.id (waiting_for m) s.made s.running s.jobs
      (all_any (IsFitChange S s.made j.id (waiting_for m)) s.jobs (λ k. record {
        id = refl;
        begun = refl;
        sound = λ e h. record {
          given = h.given;
          idle = λ b. ((h.idle b).0, refl);
          fresh = h.fresh;
          extended = λ w. ap (λ (n : JobId). is_extended S n.task) (same_ids k.id j.id e) ∙ extended;
        };
      })) single

  unbasic : (b : Bool) → not b ≡ false → b ≡ true
  unbasic true h = refl
  unbasic false h = clash h

  awaited_single : (c : Caller) (m : ℕ) → is_basic_caller S c ≡ false → LeftSingle S s (event_awaited c m s)
  awaited_single (JobCalls j) m h =
      cond_case (LeftSingle S s) (meets m (slice_index s.masks j.id.task)) s (with_caller (JobCalls j) (waiting_for m) s) (λ e. single)
      (λ e. awaits j m (unbasic (is_extended S j.id.task) h))
  awaited_single (RoutineCalls a) m h = single
  awaited_single NobodyCalls m h = single

  cleared_single : (c : Caller) (m : ℕ) → LeftSingle S s (events_cleared c m s)
  cleared_single (JobCalls j) m = single
  cleared_single (RoutineCalls a) m = single
  cleared_single NobodyCalls m = single

  pub ended_single : (c : Caller) → IsSingle S (caller_ended c s)
  ended_single (JobCalls j) = but_single S j.id s.made s.running s.jobs single
  ended_single (RoutineCalls a) = single
  ended_single NobodyCalls = single

  -- ---- a job is released

  set_single : (t m : ℕ) → LeftSingle S s (event_set t m s)
  set_single t m = go (jobs_of t s.jobs) refl
    where
      events : ℕ
      events = bit_or (slice_index s.masks t) m

      go : (js : List Job) → jobs_of t s.jobs ≡ js → LeftSingle S s (released_by events js (with_events t events s))
      go [] e = single
      go (j ∷ js) e =
          cond_case (LeftSingle S s) (is_met events j.waits_for) (released j.id (with_events t events s)) (with_events t events s)
          (λ met. released_single S j (with_events t events s) member ((member (IsSoundJob S s.made) single.each).extended (met_waits events j.waits_for met)) single)
          (λ met. single)
        where
          member : (P : Job → Type 0) → AllByRecursion P s.jobs → P j
          member P all = (subst (AllByRecursion P) e (all_kept P (λ k. k.id.task == t) s.jobs all)).0

  -- ---- a job ends and another is made

  chain_room : (c : Caller) (t : ℕ) → IsProper S → IsCaller s c → t < length S.tasks → (not (is_own_task c t) && is_full S s t) ≡ false → HasRoom S t (caller_ended c s).jobs
  chain_room (JobCalls j) t proper calls inside h = go (j.id.task == t) refl h
    where
      member : (P : Job → Type 0) → AllByRecursion P s.jobs → P j
      member P all = (found P (λ k. same_id k.id j.id) s.jobs j all calls.found).0

      own : (b : Bool) → is_extended S t ≡ b → j.id.task ≡ t → HasRoom S t (jobs_but j.id s.jobs)
      own false extended e = all_any (λ k. k.id.task ≡ t → is_extended S t ≡ false) (jobs_but j.id s.jobs) (λ k task. extended)
      own true extended e =
          all_weaker (λ k. (k.id.task ≡ j.id.task → k ≡ j) × (not (same_id k.id j.id) ≡ true)) (λ k. k.id.task ≡ t → is_extended S t ≡ false) (jobs_but j.id s.jobs)
          (λ k both task. gone k (both.0 (task ∙ sym e)) both.1)
          (all_filter (λ k. k.id.task ≡ j.id.task → k ≡ j) (λ k. not (same_id k.id j.id)) s.jobs
          (alone S j s.jobs member (ap (is_extended S) e ∙ extended) single.pairs))
        where
          gone : {Y : Type 0} (k : Job) → k ≡ j → not (same_id k.id j.id) ≡ true → Y
          gone k same other =
              clash (sym other ∙ ap not (ap (λ (z : Job). same_id z.id j.id) same ∙ same_self j.id))

      go : (b : Bool) → (j.id.task == t) ≡ b → (not b && is_full S s t) ≡ false → HasRoom S t (jobs_but j.id s.jobs)
      go true e h = own (is_extended S t) refl (equal j.id.task t e)
      go false e h = all_kept (λ k. k.id.task ≡ t → is_extended S t ≡ false) (λ k. not (same_id k.id j.id)) s.jobs (full_room S t s proper inside h)
  chain_room (RoutineCalls a) t proper calls inside h = full_room S t s proper inside h
  chain_room NobodyCalls t proper calls inside h = full_room S t s proper inside h

  chained_single : (c : Caller) (t : ℕ) → t < length S.tasks → HasRoom S t (caller_ended c s).jobs → LeftSingle S s (activated S t (caller_ended c s))
  chained_single (JobCalls j) t inside room = activated_single S t (caller_ended (JobCalls j) s) inside room (ended_single (JobCalls j))
  chained_single (RoutineCalls a) t inside room = activated_single S t s inside room single
  chained_single NobodyCalls t inside room = activated_single S t s inside room single

  -- ---- the effect

  effect_single : (c : Caller) (call : ServiceCall) → IsProper S → IsCaller s c → ActivatesKnown S call → first_refusal (refusals S c s call) ≡ None
      → LeftSingle S s (effect S c s call)
  effect_single c (Service.ActivateTask None) proper calls known none = single
  effect_single c (Service.ActivateTask (Some t)) proper calls known none =
      activated_single S t s known (full_room S t s proper known (passed (is_full S s t) Status.Limit [] none).0) single
  effect_single c Service.TerminateTask proper calls known none = ended_left c
    where
      ended_left : (d : Caller) → LeftSingle S s (caller_ended d s)
      ended_left (JobCalls j) = ended_single (JobCalls j)
      ended_left (RoutineCalls a) = single
      ended_left NobodyCalls = single
  effect_single c (Service.ChainTask None) proper calls known none = single
  effect_single c (Service.ChainTask (Some t)) proper calls known none =
      let tests = all_passed (refusals S c s (Service.ChainTask (Some t))) none in
      chained_single c t known (chain_room c t proper calls known tests.1.1.0)
  effect_single c Service.Schedule proper calls known none =
      cond_case (LeftSingle S s) (is_outranked S c s.jobs) (with_caller c given_up s) s (λ e. given_up_single c) (λ e. single)
  effect_single c Service.GetTaskId proper calls known none = single
  effect_single c (Service.GetTaskState o) proper calls known none = single
  effect_single c (Service.GetResource None) proper calls known none = single
  effect_single c (Service.GetResource (Some r)) proper calls known none = gets_single c r calls
  effect_single c (Service.ReleaseResource None) proper calls known none = single
  effect_single c (Service.ReleaseResource (Some r)) proper calls known none = releases_single c
  effect_single c (Service.LoadShared o i) proper calls known none = single
  effect_single c (Service.StoreShared None i v) proper calls known none = single
  effect_single c (Service.StoreShared (Some r) i v) proper calls known none = single
  effect_single c (Service.SetEvent None m) proper calls known none = single
  effect_single c (Service.SetEvent (Some t) m) proper calls known none = set_single t m
  effect_single c (Service.ClearEvent m) proper calls known none = cleared_single c m
  effect_single c (Service.GetEvent o) proper calls known none = single
  effect_single c (Service.WaitEvent m) proper calls known none =
      let tests = all_passed (refusals S c s (Service.WaitEvent m)) none in
      awaited_single c m tests.1.0
  effect_single c (Service.SetRelAlarm None x y) proper calls known none = single
  effect_single c (Service.SetRelAlarm (Some a) x y) proper calls known none = single
  effect_single c (Service.SetAbsAlarm None x y) proper calls known none = single
  effect_single c (Service.SetAbsAlarm (Some a) x y) proper calls known none = single
  effect_single c (Service.CancelAlarm None) proper calls known none = single
  effect_single c (Service.CancelAlarm (Some a)) proper calls known none = single
  effect_single c (Service.GetAlarm o) proper calls known none = single
  effect_single c (Service.GetAlarmBase o) proper calls known none = single

  changed_single : (c : Caller) (call : ServiceCall) (o : Option Status) → IsProper S → IsCaller s c → ActivatesKnown S call
      → (o ≡ None → first_refusal (refusals S c s call) ≡ None) → IsSingle S (reply_to S c s call o).state
  changed_single c call None proper calls known none = effect_single c call proper calls known (none refl)
  changed_single c call (Some refusal) proper calls known none = single

  pub service_single : (c : Caller) (call : ServiceCall) → IsProper S → IsCaller s c → ActivatesKnown S call → IsSingle S (service S c s call).state
  unfolding service
  service_single c call proper calls known =
      changed_single c call (first_refusal ((interrupts_off s, Status.SysDisabled) ∷ refusals S c s call)) proper calls known
      (λ e. (passed (interrupts_off s) Status.SysDisabled (refusals S c s call) e).1)

  pub unasked_single : (c : Caller) (call : ServiceCall) → IsProper S → IsCaller s c → ActivatesKnown S call → IsSingle S (unasked_service S c s call).state
  unfolding unasked_service
  unasked_single c call proper calls known =
      changed_single c call (first_refusal (refusals S c s call)) proper calls known (λ e. e)
