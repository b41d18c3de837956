-- What the lower part calls isn't seen from above.
use Rattle.std.proofs.Common.{◌≡◌, ℕ, ◌+◌, ◌<◌, ◌≤◌, true, false, ◌&&◌, List, [], ◌∷◌, map, take, set, length, refl, ◌∙◌, ap, eqb-true}
use Rattle.std.proofs.lemmas.List.{take-set-le}
use Rattle.std.specs.Prelude.{Option, Some, None, ◌==◌, slice_index, bit_or, bit_and, bit_xor}
use Rattle.std.specs.List.{AllByRecursion}
use Rattle.osek_base.specs.declared.ids.ResId.{ResId}
use Rattle.osek_base.specs.declared.instr.Service.{Service}
use Rattle.osek_base.specs.Types.{ServiceCall}
use Rattle.osek_base.specs.declared.status.Status.{Status}
use Rattle.osek_base.specs.Lists.{is_empty}
use Rattle.osek_base.specs.System.{System, is_extended}
use Rattle.osek_base.specs.State.{Job, JobId, State, Expiry, jobs_of, shared_window}
use Rattle.osek_base.specs.Activation.{activated, released, ended}
use Rattle.osek_base.specs.Alarm.{expiry, with_alarm}
use Rattle.osek_base.specs.Service.{Caller, JobCalls, RoutineCalls, NobodyCalls, with_caller, is_outranked, given_up, gets, releases, waiting_for, meets, is_met, released_by, with_events, event_set, word_stored, effect, changed, reply_to, service, unasked_service}
use Rattle.osek_base.specs.Upper.{is_upper_task, is_upper_alarm}
use Rattle.osek_base.specs.Agree.{is_upper_declared, upper_resources, upper_alarms}
use Rattle.partition_check.proofs.UpperState.{up, up_jobs, is_upper_id, is_upper_job, upper_count}
use Rattle.partition_check.proofs.Shared.{IsCounterpart, IsLayered, IsLowerCaller, IsLowerCall}
use Rattle.partition_check.proofs.ListsUp.{cond_both, all_pass, all_weaken}
use Rattle.partition_check.proofs.PriorityUp.{later_tasks}
use Rattle.partition_check.proofs.JobsUp.{new_unseen, jobs_but_unseen, with_job_unseen, released_jobs_unseen}
use Rattle.partition_check.proofs.AlarmsUp.{alarms_unseen}
use Rattle.partition_check.proofs.SharedUp.{shared_unseen}
use Rattle.partition_check.proofs.LayersKept.{any_unasked_layered}

-- what a service may change looks the same from above
pub record IsUnseen (S : System) (p : ℕ) (s e : State) : Type 0 where
  pub jobs : up_jobs S p e.jobs ≡ up_jobs S p s.jobs
  pub made : take (upper_count S p) e.made ≡ take (upper_count S p) s.made
  pub masks : take (upper_count S p) e.masks ≡ take (upper_count S p) s.masks
  pub alarms : map (expiry e) (upper_alarms S p) ≡ map (expiry s) (upper_alarms S p)
  pub shared : map (shared_window e.shared) (upper_resources S p) ≡ map (shared_window s.shared) (upper_resources S p)

module _ (S : System) (p : ℕ) where
  unseen_refl : (s : State) → IsUnseen S p s s
  unseen_refl s = record { jobs = refl; made = refl; masks = refl; alarms = refl; shared = refl }

  unseen_trans : (s z e : State) → IsUnseen S p s z → IsUnseen S p z e → IsUnseen S p s e
  unseen_trans s z e a b =
      record {
        jobs = b.jobs ∙ a.jobs;
        made = b.made ∙ a.made;
        masks = b.masks ∙ a.masks;
        alarms = b.alarms ∙ a.alarms;
        shared = b.shared ∙ a.shared;
      }

  -- ---- changes of jobs

  ended_unseen : (n : JobId) (s : State) → is_upper_id S p n ≡ false → IsUnseen S p s (ended n s)
  ended_unseen n s low =
      record { jobs = jobs_but_unseen S p n s.jobs low; made = refl; masks = refl; alarms = refl; shared = refl }

  released_unseen : (n : JobId) (s : State) → is_upper_id S p n ≡ false → IsUnseen S p s (released n s)
  unfolding released
  released_unseen n s low =
      record { jobs = released_jobs_unseen S p n s.jobs low; made = refl; masks = refl; alarms = refl; shared = refl }

  with_caller_unseen : (j : Job) (f : Job → Job) (s : State) → is_upper_job S p j ≡ false → ((k : Job) → (f k).id ≡ k.id)
      → IsUnseen S p s (with_caller (JobCalls j) f s)
  with_caller_unseen j f s low keeps =
      record { jobs = with_job_unseen S p j.id f s.jobs low keeps; made = refl; masks = refl; alarms = refl; shared = refl }

  -- ---- events, where k tasks are upper and t is none of them

  with_events_unseen : (t m : ℕ) (s : State) → upper_count S p ≤ t → IsUnseen S p s (with_events t m s)
  with_events_unseen t m s later =
      record { jobs = refl; made = refl; masks = take-set-le (upper_count S p) s.masks t m later; alarms = refl; shared = refl }

  released_by_unseen : (events t : ℕ) (jobs : List Job) (s : State) → is_upper_task S p t ≡ false
      → AllByRecursion (λ j. j.id.task ≡ t) jobs → IsUnseen S p s (released_by events jobs s)
  released_by_unseen events t [] s low all = unseen_refl s
  released_by_unseen events t (j ∷ js) s low all =
      cond_both (IsUnseen S p s) (is_met events j.waits_for) (released j.id s) s
      (released_unseen j.id s (ap (is_upper_task S p) all.0 ∙ low)) (unseen_refl s)

  jobs_of_task : (t : ℕ) (jobs : List Job) → AllByRecursion (λ j. j.id.task ≡ t) (jobs_of t jobs)
  jobs_of_task t jobs =
      all_weaken (λ j. (j.id.task == t) ≡ true) (λ j. j.id.task ≡ t) (jobs_of t jobs) (λ j e. eqb-true j.id.task t e)
      (all_pass (λ j. j.id.task == t) jobs)

  event_set_unseen : (t m : ℕ) (s : State) → upper_count S p ≤ t → is_upper_task S p t ≡ false → IsUnseen S p s (event_set t m s)
  event_set_unseen t m s later low =
      let events : ℕ = bit_or (slice_index s.masks t) m in
      unseen_trans s (with_events t events s) (released_by events (jobs_of t s.jobs) (with_events t events s))
      (with_events_unseen t events s later)
      (released_by_unseen events t (jobs_of t s.jobs) (with_events t events s) low (jobs_of_task t s.jobs))

  -- ---- activation

  pub activated_unseen : (t : ℕ) (s : State) → upper_count S p ≤ t → is_upper_task S p t ≡ false → IsUnseen S p s (activated S t s)
  unfolding activated
  activated_unseen t s later low =
      record {
        jobs = new_unseen S p (record { task = t; serial = slice_index s.made t }) s.jobs low;
        made = take-set-le (upper_count S p) s.made t (slice_index s.made t + 1) later;
        masks = cond_both (λ (ns : List ℕ). take (upper_count S p) ns ≡ take (upper_count S p) s.masks) (is_extended S t && is_empty (jobs_of t s.jobs)) (set s.masks t 0) s.masks
            (take-set-le (upper_count S p) s.masks t 0 later) refl;
        alarms = refl;
        shared = refl;
      }

  with_alarm_unseen : (s : State) (a : ℕ) (e : Option Expiry) → is_upper_alarm S p a ≡ false → IsUnseen S p s (with_alarm s a e)
  with_alarm_unseen s a e low =
      record { jobs = refl; made = refl; masks = refl; alarms = alarms_unseen S p s a e low; shared = refl }

  stored_unseen : (r i v : ℕ) (s : State) → is_upper_declared S p r ≡ false
      → IsUnseen S p s (record s { shared = word_stored (ResId.Declared r) i v s.shared })
  stored_unseen r i v s low =
      record { jobs = refl; made = refl; masks = refl; alarms = refl; shared = shared_unseen S p s.shared r i v low }

  -- ---- the state

  reply_unseen : (s : State) (c : Caller) (call : ServiceCall) (o : Option Status)
      → IsUnseen S p s (changed S c s call o) → up S p (reply_to S c s call o).state ≡ up S p s
  reply_unseen s c call o unseen =
      λ i. record (up S p s) {
        jobs = unseen.jobs i;
        made = unseen.made i;
        masks = unseen.masks i;
        alarms = unseen.alarms i;
        shared = unseen.shared i;
      }

  unless_refused : (s : State) (c : Caller) (call : ServiceCall) (o : Option Status) → IsUnseen S p s (effect S c s call) → IsUnseen S p s (changed S c s call o)
  unless_refused s c call None unseen = unseen
  unless_refused s c call (Some refusal) unseen = unseen_refl s

  service_by_effect : (s : State) (c : Caller) (call : ServiceCall) → IsUnseen S p s (effect S c s call) → up S p (service S c s call).state ≡ up S p s
  unfolding service
  service_by_effect s c call unseen = reply_unseen s c call _ (unless_refused s c call _ unseen)

  unasked_by_effect : (s : State) (c : Caller) (call : ServiceCall) → IsUnseen S p s (effect S c s call) → up S p (unasked_service S c s call).state ≡ up S p s
  unfolding unasked_service
  unasked_by_effect s c call unseen = reply_unseen s c call _ (unless_refused s c call _ unseen)

module _ (S : System) (p : ℕ) (both : IsCounterpart S p) where
  -- ---- a lower job's call

  effect_unseen : (s : State) (j : Job) (call : ServiceCall) → IsLowerCaller S p (JobCalls j) → IsLowerCall S p call
      → IsUnseen S p s (effect S (JobCalls j) s call)
  effect_unseen s j (Service.ActivateTask None) lower named = unseen_refl S p s
  effect_unseen s j (Service.ActivateTask (Some t)) lower named =
      activated_unseen S p t s (later_tasks S p both t named.known named.names) named.names
  effect_unseen s j Service.TerminateTask lower named = ended_unseen S p j.id s lower.1
  effect_unseen s j (Service.ChainTask None) lower named = unseen_refl S p s
  effect_unseen s j (Service.ChainTask (Some t)) lower named =
      unseen_trans S p s (ended j.id s) (activated S t (ended j.id s)) (ended_unseen S p j.id s lower.1)
      (activated_unseen S p t (ended j.id s) (later_tasks S p both t named.known named.names) named.names)
  effect_unseen s j Service.Schedule lower named =
      cond_both (IsUnseen S p s) (is_outranked S (JobCalls j) s.jobs) (with_caller (JobCalls j) given_up s) s
      (with_caller_unseen S p j given_up s lower.1 (λ k. refl)) (unseen_refl S p s)
  effect_unseen s j Service.GetTaskId lower named = unseen_refl S p s
  effect_unseen s j (Service.GetTaskState o) lower named = unseen_refl S p s
  effect_unseen s j (Service.GetResource None) lower named = unseen_refl S p s
  effect_unseen s j (Service.GetResource (Some r)) lower named = with_caller_unseen S p j (gets r) s lower.1 (λ k. refl)
  effect_unseen s j (Service.ReleaseResource None) lower named = unseen_refl S p s
  effect_unseen s j (Service.ReleaseResource (Some r)) lower named = with_caller_unseen S p j releases s lower.1 (λ k. refl)
  effect_unseen s j (Service.LoadShared o i) lower named = unseen_refl S p s
  effect_unseen s j (Service.StoreShared None i v) lower named = unseen_refl S p s
  effect_unseen s j (Service.StoreShared (Some (ResId.Declared r)) i v) lower named = stored_unseen S p r i v s named.names
  effect_unseen s j (Service.StoreShared (Some ResId.Scheduler) i v) lower named = unseen_refl S p s
  effect_unseen s j (Service.SetEvent None m) lower named = unseen_refl S p s
  effect_unseen s j (Service.SetEvent (Some t) m) lower named =
      event_set_unseen S p t m s (later_tasks S p both t named.known named.names) named.names
  effect_unseen s j (Service.ClearEvent m) lower named =
      with_events_unseen S p j.id.task (bit_xor (slice_index s.masks j.id.task) (bit_and (slice_index s.masks j.id.task) m)) s
      (later_tasks S p both j.id.task lower.0.task lower.1)
  effect_unseen s j (Service.GetEvent o) lower named = unseen_refl S p s
  effect_unseen s j (Service.WaitEvent m) lower named =
      cond_both (IsUnseen S p s) (meets m (slice_index s.masks j.id.task)) s (with_caller (JobCalls j) (waiting_for m) s) (unseen_refl S p s)
      (with_caller_unseen S p j (waiting_for m) s lower.1 (λ k. refl))
  effect_unseen s j (Service.SetRelAlarm None x y) lower named = unseen_refl S p s
  effect_unseen s j (Service.SetRelAlarm (Some a) x y) lower named = with_alarm_unseen S p s a _ named.names
  effect_unseen s j (Service.SetAbsAlarm None x y) lower named = unseen_refl S p s
  effect_unseen s j (Service.SetAbsAlarm (Some a) x y) lower named = with_alarm_unseen S p s a _ named.names
  effect_unseen s j (Service.CancelAlarm None) lower named = unseen_refl S p s
  effect_unseen s j (Service.CancelAlarm (Some a)) lower named = with_alarm_unseen S p s a None named.names
  effect_unseen s j (Service.GetAlarm o) lower named = unseen_refl S p s
  effect_unseen s j (Service.GetAlarmBase o) lower named = unseen_refl S p s

  -- what a lower job calls isn't seen
  pub service_unseen : (s : State) (c : Caller) (call : ServiceCall) → IsLowerCaller S p c → IsLowerCall S p call
      → up S p (service S c s call).state ≡ up S p s
  service_unseen s (JobCalls j) call lower named = service_by_effect S p s (JobCalls j) call (effect_unseen s j call lower named)
  service_unseen s (RoutineCalls a) call lower named = absurd lower
  service_unseen s NobodyCalls call lower named = absurd lower

  -- ---- an alarm's action on a lower task

  pub activation_unseen : (s : State) (t : ℕ) → t < length S.tasks → is_upper_task S p t ≡ false
      → up S p (unasked_service S NobodyCalls s (Service.ActivateTask (Some t))).state ≡ up S p s
  activation_unseen s t inside low =
      unasked_by_effect S p s NobodyCalls (Service.ActivateTask (Some t)) (activated_unseen S p t s (later_tasks S p both t inside low) low)

  pub event_unseen : (s : State) (t m : ℕ) → t < length S.tasks → is_upper_task S p t ≡ false
      → up S p (unasked_service S NobodyCalls s (Service.SetEvent (Some t) m)).state ≡ up S p s
  event_unseen s t m inside low =
      unasked_by_effect S p s NobodyCalls (Service.SetEvent (Some t) m) (event_set_unseen S p t m s (later_tasks S p both t inside low) low)

-- an alarm's action keeps the layers, whatever its task
pub activation_layered : (S : System) (p : ℕ) (s : State) (t : ℕ) → t < length S.tasks → IsLayered S p s
    → IsLayered S p (unasked_service S NobodyCalls s (Service.ActivateTask (Some t))).state
activation_layered S p s t inside layered = any_unasked_layered S p s NobodyCalls (Service.ActivateTask (Some t)) inside tt layered

pub event_layered : (S : System) (p : ℕ) (s : State) (t m : ℕ) → t < length S.tasks → IsLayered S p s
    → IsLayered S p (unasked_service S NobodyCalls s (Service.SetEvent (Some t) m)).state
event_layered S p s t m inside layered = any_unasked_layered S p s NobodyCalls (Service.SetEvent (Some t) m) inside tt layered
