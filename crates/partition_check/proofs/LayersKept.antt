-- A service keeps the layers of a state, whoever calls it.
use Rattle.std.proofs.Common.{◌≡◌, ℕ, ◌<◌, Bool, true, false, cond, not, ◌&&◌, List, [], ◌∷◌, ◌++◌, map, set, length, refl, sym, ◌∙◌, subst, length-set}
use Rattle.std.specs.Prelude.{Option, Some, None, slice_index, bit_or, bit_and, bit_xor}
use Rattle.std.specs.List.{filter, AllByRecursion}
use Rattle.osek_base.specs.declared.ids.ResId.{ResId}
use Rattle.osek_base.specs.declared.instr.Service.{Service}
use Rattle.osek_base.specs.Types.{ServiceCall}
use Rattle.osek_base.specs.declared.instr.Instr.{Instr}
use Rattle.osek_base.specs.declared.status.Status.{Status}
use Rattle.osek_base.specs.Lists.{is_empty, without_last}
use Rattle.osek_base.specs.System.{System, is_extended}
use Rattle.osek_base.specs.State.{Job, JobId, State, Expiry, same_id, jobs_of, jobs_but, with_job}
use Rattle.osek_base.specs.Activation.{activated, new_job, released, ended, woken}
use Rattle.osek_base.specs.Alarm.{with_alarm}
use Rattle.osek_base.specs.Service.{Caller, JobCalls, RoutineCalls, NobodyCalls, with_caller, caller_ended, is_outranked, given_up, gets, releases, waiting_for, meets, is_met, released_by, with_events, events_cleared, event_awaited, word_stored, effect, changed, reply_to, service, unasked_service}
use Rattle.osek_base.specs.Upper.{service_names}
use Rattle.osek_base.specs.Separable.{names_upper, names_scheduler}
use Rattle.partition_check.proofs.UpperState.{is_upper_id, is_upper_job}
use Rattle.partition_check.proofs.Shared.{IsCounterpart, IsLayeredJob, IsLayered, IsKnownObject, IsUpperCaller, IsLowerCaller, IsUpperCall, IsLowerCall, is_visible}
use Rattle.partition_check.proofs.ListsUp.{true≢false, cond_both, all_append, all_filter, all_map}
use Rattle.partition_check.proofs.JobsUp.{same_id_upper}
use Rattle.partition_check.proofs.RefusalsUp.{visible_named}

-- what a service may change is in two layers
pub record IsLaid (S : System) (p : ℕ) (s : State) : Type 0 where
  pub made : length s.made ≡ length S.tasks
  pub masks : length s.masks ≡ length S.tasks
  pub alarms : length s.alarms ≡ length S.alarms
  pub shared : length s.shared ≡ length S.resources
  pub jobs : AllByRecursion (IsLayeredJob S p) s.jobs

-- a job that gets a resource is of the resource's layer
abbrev pub MayGet : System → ℕ → Caller → ServiceCall → Type 0
MayGet S p (JobCalls j) (Service.GetResource (Some r)) = is_visible S p r ≡ is_upper_job S p j
MayGet S p (JobCalls j) _ = Unit {0}
MayGet S p (RoutineCalls a) _ = Unit {0}
MayGet S p NobodyCalls _ = Unit {0}

module _ (S : System) (p : ℕ) where
  -- ---- changes of jobs

  new_laid : (n : JobId) → n.task < length S.tasks → IsLayeredJob S p (new_job n)
  new_laid n inside = record { task = inside; held = tt }

  change_laid : (n : JobId) (f : Job → Job) → ((j : Job) → same_id j.id n ≡ true → IsLayeredJob S p j → IsLayeredJob S p (f j))
      → (jobs : List Job) → AllByRecursion (IsLayeredJob S p) jobs → AllByRecursion (IsLayeredJob S p) (with_job n f jobs)
  change_laid n f keeps jobs all = all_map (IsLayeredJob S p) (λ j. cond (same_id j.id n) (f j) j) jobs (λ j laid. go j (same_id j.id n) refl laid) all
    where
      go : (j : Job) (b : Bool) → same_id j.id n ≡ b → IsLayeredJob S p j → IsLayeredJob S p (cond b (f j) j)
      go j true e laid = keeps j e laid
      go j false e laid = laid

  without_last_all : {X : Type 0} (P : X → Type 0) (xs : List X) → AllByRecursion P xs → AllByRecursion P (without_last xs)
  without_last_all P [] all = tt
  without_last_all P (x ∷ []) all = tt
  without_last_all P (x ∷ y ∷ ys) all = (all.0, without_last_all P (y ∷ ys) all.1)

  gets_laid : (n : JobId) (r : ResId) → is_visible S p r ≡ is_upper_id S p n → (j : Job) → same_id j.id n ≡ true
      → IsLayeredJob S p j → IsLayeredJob S p (gets r j)
  gets_laid n r may j e laid =
      let here : is_visible S p r ≡ is_upper_job S p j = may ∙ sym (same_id_upper S p j.id n e) in
      record {
        task = laid.task;
        held = all_append (λ q. is_visible S p q ≡ is_upper_job S p j) j.held (r ∷ []) laid.held (here, tt);
      }

  releases_laid : (j : Job) → IsLayeredJob S p j → IsLayeredJob S p (releases j)
  releases_laid j laid =
      record { task = laid.task; held = without_last_all (λ q. is_visible S p q ≡ is_upper_job S p j) j.held laid.held }

  same_laid : (j k : Job) → k.id ≡ j.id → k.held ≡ j.held → IsLayeredJob S p j → IsLayeredJob S p k
  same_laid j k id held laid =
      record {
        task = subst (λ (n : JobId). n.task < length S.tasks) (sym id) laid.task;
        held = subst (λ (n : JobId). AllByRecursion (λ r. is_visible S p r ≡ is_upper_id S p n) k.held) (sym id)
            (subst (AllByRecursion (λ r. is_visible S p r ≡ is_upper_job S p j)) (sym held) laid.held);
      }

  -- ---- changes of states

  with_jobs : (s : State) (jobs : List Job) → IsLaid S p s → AllByRecursion (IsLayeredJob S p) jobs → IsLaid S p (record s { jobs = jobs })
  with_jobs s jobs laid all =
      record { made = laid.made; masks = laid.masks; alarms = laid.alarms; shared = laid.shared; jobs = all }

  ended_laid : (n : JobId) (s : State) → IsLaid S p s → IsLaid S p (ended n s)
  ended_laid n s laid = with_jobs s (jobs_but n s.jobs) laid (all_filter (IsLayeredJob S p) (λ j. not (same_id j.id n)) s.jobs laid.jobs)

  released_laid : (n : JobId) (s : State) → IsLaid S p s → IsLaid S p (released n s)
  unfolding released
  released_laid n s laid =
      with_jobs s (jobs_but n s.jobs ++ map woken (filter (λ j. same_id j.id n) s.jobs)) laid
      (all_append (IsLayeredJob S p) (jobs_but n s.jobs) (map woken (filter (λ j. same_id j.id n) s.jobs))
      (all_filter (IsLayeredJob S p) (λ j. not (same_id j.id n)) s.jobs laid.jobs)
      (all_map (IsLayeredJob S p) woken (filter (λ j. same_id j.id n) s.jobs) (λ j here. same_laid j (woken j) refl refl here)
      (all_filter (IsLayeredJob S p) (λ j. same_id j.id n) s.jobs laid.jobs)))

  released_by_laid : (events : ℕ) (jobs : List Job) (s : State) → IsLaid S p s → IsLaid S p (released_by events jobs s)
  released_by_laid events [] s laid = laid
  released_by_laid events (j ∷ js) s laid = cond_both (IsLaid S p) (is_met events j.waits_for) (released j.id s) s (released_laid j.id s laid) laid

  with_events_laid : (t m : ℕ) (s : State) → IsLaid S p s → IsLaid S p (with_events t m s)
  with_events_laid t m s laid =
      record {
        made = laid.made;
        masks = length-set s.masks t m ∙ laid.masks;
        alarms = laid.alarms;
        shared = laid.shared;
        jobs = laid.jobs;
      }

  with_alarm_laid : (s : State) (a : ℕ) (e : Option Expiry) → IsLaid S p s → IsLaid S p (with_alarm s a e)
  with_alarm_laid s a e laid =
      record {
        made = laid.made;
        masks = laid.masks;
        alarms = length-set s.alarms a e ∙ laid.alarms;
        shared = laid.shared;
        jobs = laid.jobs;
      }

  stored_laid : (r : ResId) (i v : ℕ) (s : State) → IsLaid S p s → IsLaid S p (record s { shared = word_stored r i v s.shared })
  stored_laid (ResId.Declared r) i v s laid =
      record {
        made = laid.made;
        masks = laid.masks;
        alarms = laid.alarms;
        shared = length-set s.shared r _ ∙ laid.shared;
        jobs = laid.jobs;
      }
  stored_laid ResId.Scheduler i v s laid = laid

  pub activated_laid : (t : ℕ) (s : State) → t < length S.tasks → IsLaid S p s → IsLaid S p (activated S t s)
  unfolding activated
  activated_laid t s inside laid =
      record {
        made = length-set s.made t _ ∙ laid.made;
        masks = cond_both (λ (ns : List ℕ). length ns ≡ length S.tasks) (is_extended S t && is_empty (jobs_of t s.jobs)) (set s.masks t 0) s.masks
            (length-set s.masks t 0 ∙ laid.masks) laid.masks;
        alarms = laid.alarms;
        shared = laid.shared;
        jobs = all_append (IsLayeredJob S p) s.jobs (new_job (record { task = t; serial = slice_index s.made t }) ∷ []) laid.jobs
            (new_laid (record { task = t; serial = slice_index s.made t }) inside, tt);
      }

  caller_ended_laid : (c : Caller) (s : State) → IsLaid S p s → IsLaid S p (caller_ended c s)
  caller_ended_laid (JobCalls j) s laid = ended_laid j.id s laid
  caller_ended_laid (RoutineCalls a) s laid = laid
  caller_ended_laid NobodyCalls s laid = laid

  with_caller_laid : (c : Caller) (f : Job → Job) (s : State) → ((j : Job) → IsLayeredJob S p j → IsLayeredJob S p (f j))
      → IsLaid S p s → IsLaid S p (with_caller c f s)
  with_caller_laid (JobCalls j) f s keeps laid = with_jobs s (with_job j.id f s.jobs) laid (change_laid j.id f (λ k e here. keeps k here) s.jobs laid.jobs)
  with_caller_laid (RoutineCalls a) f s keeps laid = laid
  with_caller_laid NobodyCalls f s keeps laid = laid

  got_laid : (c : Caller) (r : ResId) (s : State) → MayGet S p c (Service.GetResource (Some r)) → IsLaid S p s → IsLaid S p (with_caller c (gets r) s)
  got_laid (JobCalls j) r s may laid = with_jobs s (with_job j.id (gets r) s.jobs) laid (change_laid j.id (gets r) (gets_laid j.id r may) s.jobs laid.jobs)
  got_laid (RoutineCalls a) r s may laid = laid
  got_laid NobodyCalls r s may laid = laid

  cleared_laid : (c : Caller) (m : ℕ) (s : State) → IsLaid S p s → IsLaid S p (events_cleared c m s)
  cleared_laid (JobCalls j) m s laid =
      with_events_laid j.id.task (bit_xor (slice_index s.masks j.id.task) (bit_and (slice_index s.masks j.id.task) m)) s laid
  cleared_laid (RoutineCalls a) m s laid = laid
  cleared_laid NobodyCalls m s laid = laid

  awaited_laid : (c : Caller) (m : ℕ) (s : State) → IsLaid S p s → IsLaid S p (event_awaited c m s)
  awaited_laid (JobCalls j) m s laid =
      cond_both (IsLaid S p) (meets m (slice_index s.masks j.id.task)) s (with_caller (JobCalls j) (waiting_for m) s) laid
      (with_caller_laid (JobCalls j) (waiting_for m) s (λ k here. same_laid k (waiting_for m k) refl refl here) laid)
  awaited_laid (RoutineCalls a) m s laid = laid
  awaited_laid NobodyCalls m s laid = laid

  -- ---- the effect

  effect_laid : (s : State) (c : Caller) (call : ServiceCall) → IsKnownObject S (service_names call) → MayGet S p c call
      → IsLaid S p s → IsLaid S p (effect S c s call)
  effect_laid s c (Service.ActivateTask None) known may laid = laid
  effect_laid s c (Service.ActivateTask (Some t)) known may laid = activated_laid t s known laid
  effect_laid s c Service.TerminateTask known may laid = caller_ended_laid c s laid
  effect_laid s c (Service.ChainTask None) known may laid = laid
  effect_laid s c (Service.ChainTask (Some t)) known may laid = activated_laid t (caller_ended c s) known (caller_ended_laid c s laid)
  effect_laid s c Service.Schedule known may laid =
      cond_both (IsLaid S p) (is_outranked S c s.jobs) (with_caller c given_up s) s
      (with_caller_laid c given_up s (λ k here. same_laid k (given_up k) refl refl here) laid) laid
  effect_laid s c Service.GetTaskId known may laid = laid
  effect_laid s c (Service.GetTaskState o) known may laid = laid
  effect_laid s c (Service.GetResource None) known may laid = laid
  effect_laid s c (Service.GetResource (Some r)) known may laid = got_laid c r s may laid
  effect_laid s c (Service.ReleaseResource None) known may laid = laid
  effect_laid s c (Service.ReleaseResource (Some r)) known may laid = with_caller_laid c releases s releases_laid laid
  effect_laid s c (Service.LoadShared o i) known may laid = laid
  effect_laid s c (Service.StoreShared None i v) known may laid = laid
  effect_laid s c (Service.StoreShared (Some r) i v) known may laid = stored_laid r i v s laid
  effect_laid s c (Service.SetEvent None m) known may laid = laid
  effect_laid s c (Service.SetEvent (Some t) m) known may laid =
      released_by_laid (bit_or (slice_index s.masks t) m) (jobs_of t s.jobs) (with_events t (bit_or (slice_index s.masks t) m) s)
      (with_events_laid t (bit_or (slice_index s.masks t) m) s laid)
  effect_laid s c (Service.ClearEvent m) known may laid = cleared_laid c m s laid
  effect_laid s c (Service.GetEvent o) known may laid = laid
  effect_laid s c (Service.WaitEvent m) known may laid = awaited_laid c m s laid
  effect_laid s c (Service.SetRelAlarm None x y) known may laid = laid
  effect_laid s c (Service.SetRelAlarm (Some a) x y) known may laid = with_alarm_laid s a _ laid
  effect_laid s c (Service.SetAbsAlarm None x y) known may laid = laid
  effect_laid s c (Service.SetAbsAlarm (Some a) x y) known may laid = with_alarm_laid s a _ laid
  effect_laid s c (Service.CancelAlarm None) known may laid = laid
  effect_laid s c (Service.CancelAlarm (Some a)) known may laid = with_alarm_laid s a None laid
  effect_laid s c (Service.GetAlarm o) known may laid = laid
  effect_laid s c (Service.GetAlarmBase o) known may laid = laid

  -- ---- the service

  pub laid_of : (s : State) → IsLayered S p s → IsLaid S p s
  laid_of s layered =
      record {
        made = layered.made;
        masks = layered.masks;
        alarms = layered.alarms;
        shared = layered.shared;
        jobs = layered.jobs;
      }

  changed_laid : (s : State) (c : Caller) (call : ServiceCall) (o : Option Status) → IsKnownObject S (service_names call) → MayGet S p c call
      → IsLaid S p s → IsLaid S p (changed S c s call o)
  changed_laid s c call None known may laid = effect_laid s c call known may laid
  changed_laid s c call (Some refusal) known may laid = laid

  reply_layered : (s : State) (c : Caller) (call : ServiceCall) (o : Option Status) → IsKnownObject S (service_names call) → MayGet S p c call
      → IsLayered S p s → IsLayered S p (reply_to S c s call o).state
  reply_layered s c call o known may layered =
      let after : IsLaid S p (changed S c s call o) = changed_laid s c call o known may (laid_of s layered) in
      record {
        made = after.made;
        masks = after.masks;
        alarms = after.alarms;
        shared = after.shared;
        jobs = after.jobs;
        running = layered.running;
        quiet = layered.quiet;
      }

  -- whoever calls: a job that gets a resource is of its layer
  pub any_service_layered : (s : State) (c : Caller) (call : ServiceCall) → IsKnownObject S (service_names call) → MayGet S p c call
      → IsLayered S p s → IsLayered S p (service S c s call).state
  unfolding service
  any_service_layered s c call known may layered = reply_layered s c call _ known may layered

  pub any_unasked_layered : (s : State) (c : Caller) (call : ServiceCall) → IsKnownObject S (service_names call) → MayGet S p c call
      → IsLayered S p s → IsLayered S p (unasked_service S c s call).state
  unfolding unasked_service
  any_unasked_layered s c call known may layered = reply_layered s c call _ known may layered

-- ---- by an upper caller, and by a lower one

module _ (S : System) (p : ℕ) (s : State) (c : Caller) (call : ServiceCall) (layered : IsLayered S p s) where
  upper_may_get : (both : IsCounterpart S p) (d : Caller) (what : ServiceCall) → IsUpperCaller S p s d → IsUpperCall S p d what → MayGet S p d what
  upper_may_get both (JobCalls j) (Service.GetResource (Some r)) upper named = visible_named S p r named.names ∙ sym upper.1
  upper_may_get both (JobCalls j) _ upper named = tt
  upper_may_get both (RoutineCalls a) what upper named = tt
  upper_may_get both NobodyCalls what upper named = tt

  unseen_named : (r : ResId) → names_upper S p (Instr.Service (Service.GetResource (Some r))) ≡ false
      → names_scheduler (Instr.Service (Service.GetResource (Some r))) ≡ false → is_visible S p r ≡ false
  unseen_named (ResId.Declared r) names other = names
  unseen_named ResId.Scheduler names other = absurd (true≢false other)

  lower_may_get : (d : Caller) (what : ServiceCall) → IsLowerCaller S p d → IsLowerCall S p what → MayGet S p d what
  lower_may_get (JobCalls j) (Service.GetResource (Some r)) lower named = unseen_named r named.names named.no_scheduler ∙ sym lower.1
  lower_may_get (JobCalls j) _ lower named = tt
  lower_may_get (RoutineCalls a) what lower named = tt
  lower_may_get NobodyCalls what lower named = tt

  pub service_layered : IsCounterpart S p → IsUpperCaller S p s c → IsUpperCall S p c call → IsLayered S p (service S c s call).state
  service_layered both upper named = any_service_layered S p s c call named.known (upper_may_get both c call upper named) layered

  pub lower_service_layered : IsLowerCaller S p c → IsLowerCall S p call → IsLayered S p (service S c s call).state
  lower_service_layered lower named = any_service_layered S p s c call named.known (lower_may_get c call lower named) layered
