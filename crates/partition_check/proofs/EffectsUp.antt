-- What a service of the upper part changes is seen from above as the upper core's change.
use Rattle.std.proofs.Common.{◌≡◌, ℕ, ◌+◌, ◌<◌, Bool, true, false, cond, ◌&&◌, List, [], ◌∷◌, ◌++◌, map, take, set, refl, sym, ◌∙◌, ap, ap₂, get_or-take}
use Rattle.std.specs.Prelude.{Option, Some, None, slice_index, bit_or, bit_and, bit_xor}
use Rattle.osek_base.specs.declared.ids.ResId.{ResId}
use Rattle.osek_base.specs.declared.instr.Service.{Service}
use Rattle.osek_base.specs.Types.{ServiceCall}
use Rattle.osek_base.specs.declared.status.Status.{Status}
use Rattle.osek_base.specs.declared.task.Counter.{Counter}
use Rattle.osek_base.specs.Lists.{is_empty, without_last}
use Rattle.osek_base.specs.System.{System, is_extended, counter_of}
use Rattle.osek_base.specs.State.{Job, JobId, State, Expiry, jobs_of, jobs_but, with_job}
use Rattle.osek_base.specs.Activation.{activated, new_job, released, ended}
use Rattle.osek_base.specs.Alarm.{count, next_count, with_alarm}
use Rattle.osek_base.specs.Service.{Caller, JobCalls, RoutineCalls, NobodyCalls, with_caller, caller_ended, is_outranked, given_up, gets, releases, waiting_for, meets, is_met, released_by, with_events, event_set, events_cleared, event_awaited, effect, changed}
use Rattle.osek_base.specs.Upper.{is_upper_task, is_upper_alarm}
use Rattle.osek_base.specs.Agree.{rank, renumbered_resource, renumbered_service, upper_core}
use Rattle.partition_check.proofs.UpperState.{up, up_job, up_jobs, upper_count}
use Rattle.partition_check.proofs.Shared.{IsCounterpart, IsLow, IsLayered, IsUpperCaller, IsUpperCall, up_caller}
use Rattle.partition_check.proofs.ListsUp.{take_set}
use Rattle.partition_check.proofs.PriorityUp.{first_tasks}
use Rattle.partition_check.proofs.JobsUp.{jobs_of_up, jobs_of_empty_up, new_up, jobs_but_up, with_job_up, released_jobs_up, without_last_map}
use Rattle.partition_check.proofs.AlarmsUp.{with_alarm_up}
use Rattle.partition_check.proofs.SharedUp.{word_stored_up}
use Rattle.partition_check.proofs.RefusalsUp.{upper_task_named, upper_alarm_named, visible_named, extended_up, outranked_up, count_up}
use Rattle.std.proofs.lemmas.List.{map-append}

-- ---- a choice of states

up_cond : (S : System) (p : ℕ) (b : Bool) (s z : State) → cond b (up S p s) (up S p z) ≡ up S p (cond b s z)
up_cond S p true s z = refl
up_cond S p false s z = refl

take_cond : {X : Type 0} (k : ℕ) (b : Bool) (xs ys : List X) → cond b (take k xs) (take k ys) ≡ take k (cond b xs ys)
take_cond k true xs ys = refl
take_cond k false xs ys = refl

-- ---- jobs made, ended and released

module _ (S : System) (p : ℕ) where
  pub ended_up : (n : JobId) (s : State) → ended n (up S p s) ≡ up S p (ended n s)
  ended_up n s =
      let same : jobs_but n (up_jobs S p s.jobs) ≡ up_jobs S p (jobs_but n s.jobs) = sym (jobs_but_up S p n s.jobs) in
      λ i. record (up S p s) { jobs = same i }

  pub released_up : (n : JobId) (s : State) → released n (up S p s) ≡ up S p (released n s)
  unfolding released
  released_up n s =
      let same : (released n (up S p s)).jobs ≡ up_jobs S p (released n s).jobs = sym (released_jobs_up S p n s.jobs) in
      λ i. record (up S p s) { jobs = same i }

  pub caller_ended_up : (c : Caller) (s : State) → caller_ended (up_caller S p c) (up S p s) ≡ up S p (caller_ended c s)
  caller_ended_up (JobCalls j) s = ended_up j.id s
  caller_ended_up (RoutineCalls a) s = refl
  caller_ended_up NobodyCalls s = refl

  -- a change of the caller's job
  pub with_caller_up : (c : Caller) (f g : Job → Job) (s : State) → ((j : Job) → (f j).id ≡ j.id) → ((j : Job) → up_job S p (f j) ≡ g (up_job S p j))
      → with_caller (up_caller S p c) g (up S p s) ≡ up S p (with_caller c f s)
  with_caller_up (JobCalls j) f g s keeps swaps =
      let same : with_job j.id g (up_jobs S p s.jobs) ≡ up_jobs S p (with_job j.id f s.jobs) = sym (with_job_up S p j.id f g s.jobs keeps swaps) in
      λ i. record (up S p s) { jobs = same i }
  with_caller_up (RoutineCalls a) f g s keeps swaps = refl
  with_caller_up NobodyCalls f g s keeps swaps = refl

  gets_up : (r : ResId) (j : Job) → up_job S p (gets r j) ≡ gets (renumbered_resource S p r) (up_job S p j)
  gets_up r j =
      let same : map (renumbered_resource S p) (j.held ++ r ∷ []) ≡ map (renumbered_resource S p) j.held ++ renumbered_resource S p r ∷ [] =
      map-append (renumbered_resource S p) j.held (r ∷ []) in
      λ i. record j { held = same i }

  releases_up : (j : Job) → up_job S p (releases j) ≡ releases (up_job S p j)
  releases_up j =
      let same : map (renumbered_resource S p) (without_last j.held) ≡ without_last (map (renumbered_resource S p) j.held) =
      without_last_map (renumbered_resource S p) j.held in
      λ i. record j { held = same i }

  -- ---- events

  pub with_events_up : (t m : ℕ) (s : State) → with_events t m (up S p s) ≡ up S p (with_events t m s)
  with_events_up t m s =
      let same : set (take (upper_count S p) s.masks) t m ≡ take (upper_count S p) (set s.masks t m) = sym (take_set (upper_count S p) s.masks t m) in
      λ i. record (up S p s) { masks = same i }

  pub released_by_up : (events : ℕ) (jobs : List Job) (s : State)
      → released_by events (map (up_job S p) jobs) (up S p s) ≡ up S p (released_by events jobs s)
  released_by_up events [] s = refl
  released_by_up events (j ∷ js) s =
      ap (λ (z : State). cond (is_met events j.waits_for) z (up S p s)) (released_up j.id s)
      ∙ up_cond S p (is_met events j.waits_for) (released j.id s) s

  mask_up : (t : ℕ) (s : State) → t < upper_count S p → slice_index (take (upper_count S p) s.masks) t ≡ slice_index s.masks t
  mask_up t s first = get_or-take (upper_count S p) s.masks t 0 first

  pub event_set_up : (t m : ℕ) (s : State) → t < upper_count S p → is_upper_task S p t ≡ true
      → event_set t m (up S p s) ≡ up S p (event_set t m s)
  event_set_up t m s first high =
      ap (λ n. released_by (bit_or n m) (jobs_of t (up_jobs S p s.jobs)) (with_events t (bit_or n m) (up S p s))) (mask_up t s first)
      ∙ ap₂ (λ jobs (z : State). released_by (bit_or (slice_index s.masks t) m) jobs z) (jobs_of_up S p t s.jobs high)
      (with_events_up t (bit_or (slice_index s.masks t) m) s)
      ∙ released_by_up (bit_or (slice_index s.masks t) m) (jobs_of t s.jobs) (with_events t (bit_or (slice_index s.masks t) m) s)

module _ (S : System) (p : ℕ) (both : IsCounterpart S p) where
  caller_first : (s : State) (j : Job) → IsUpperCaller S p s (JobCalls j) → j.id.task < upper_count S p
  caller_first s j upper = first_tasks S p both j.id.task upper.0.task upper.1

  pub events_cleared_up : (c : Caller) (m : ℕ) (s : State) → IsUpperCaller S p s c
      → events_cleared (up_caller S p c) m (up S p s) ≡ up S p (events_cleared c m s)
  events_cleared_up (JobCalls j) m s upper =
      ap (λ n. with_events j.id.task (bit_xor n (bit_and n m)) (up S p s)) (mask_up S p j.id.task s (caller_first s j upper))
      ∙ with_events_up S p j.id.task (bit_xor (slice_index s.masks j.id.task) (bit_and (slice_index s.masks j.id.task) m)) s
  events_cleared_up (RoutineCalls a) m s upper = refl
  events_cleared_up NobodyCalls m s upper = refl

  pub event_awaited_up : (c : Caller) (m : ℕ) (s : State) → IsUpperCaller S p s c
      → event_awaited (up_caller S p c) m (up S p s) ≡ up S p (event_awaited c m s)
  event_awaited_up (JobCalls j) m s upper =
      ap (λ n. cond (meets m n) (up S p s) (with_caller (JobCalls (up_job S p j)) (waiting_for m) (up S p s))) (mask_up S p j.id.task s (caller_first s j upper))
      ∙ ap (λ (z : State). cond (meets m (slice_index s.masks j.id.task)) (up S p s) z)
      (with_caller_up S p (JobCalls j) (waiting_for m) (waiting_for m) s (λ k. refl) (λ k. refl))
      ∙ up_cond S p (meets m (slice_index s.masks j.id.task)) s (with_caller (JobCalls j) (waiting_for m) s)
  event_awaited_up (RoutineCalls a) m s upper = refl
  event_awaited_up NobodyCalls m s upper = refl

  -- ---- activation

  pub activated_up : (t : ℕ) (s : State) → t < upper_count S p → is_upper_task S p t ≡ true
      → activated (upper_core S p) t (up S p s) ≡ up S p (activated S t s)
  unfolding activated
  activated_up t s first high =
      let k : ℕ = upper_count S p in
      let serial : slice_index (take k s.made) t ≡ slice_index s.made t = get_or-take k s.made t 0 first in
      let jobs : up_jobs S p s.jobs ++ new_job (record { task = t; serial = slice_index (take k s.made) t }) ∷ []
      ≡ up_jobs S p (s.jobs ++ new_job (record { task = t; serial = slice_index s.made t }) ∷ []) =
      ap (λ n. up_jobs S p s.jobs ++ new_job (record { task = t; serial = n }) ∷ []) serial
      ∙ sym (new_up S p (record { task = t; serial = slice_index s.made t }) s.jobs high) in
      let made : set (take k s.made) t (slice_index (take k s.made) t + 1) ≡ take k (set s.made t (slice_index s.made t + 1)) =
      ap (λ n. set (take k s.made) t (n + 1)) serial ∙ sym (take_set k s.made t (slice_index s.made t + 1)) in
      let masks : cond (is_extended (upper_core S p) t && is_empty (jobs_of t (up_jobs S p s.jobs))) (set (take k s.masks) t 0) (take k s.masks)
      ≡ take k (cond (is_extended S t && is_empty (jobs_of t s.jobs)) (set s.masks t 0) s.masks) =
      ap₂ (λ a b. cond (a && b) (set (take k s.masks) t 0) (take k s.masks)) (extended_up S p both t first) (jobs_of_empty_up S p t s.jobs high)
      ∙ ap (λ l. cond (is_extended S t && is_empty (jobs_of t s.jobs)) l (take k s.masks)) (sym (take_set k s.masks t 0))
      ∙ take_cond k (is_extended S t && is_empty (jobs_of t s.jobs)) (set s.masks t 0) s.masks in
      λ i. record (up S p s) { jobs = jobs i; made = made i; masks = masks i }

  -- ---- the effect

  pub effect_up : IsLow S p → (s : State) (c : Caller) (call : ServiceCall) → IsLayered S p s → IsUpperCaller S p s c → IsUpperCall S p c call
      → effect (upper_core S p) (up_caller S p c) (up S p s) (renumbered_service S p call) ≡ up S p (effect S c s call)
  effect_up below s c (Service.ActivateTask None) layered upper named = refl
  effect_up below s c (Service.ActivateTask (Some t)) layered upper named =
      let high : is_upper_task S p t ≡ true = upper_task_named S p t named.names in
      activated_up t s (first_tasks S p both t named.known high) high
  effect_up below s c Service.TerminateTask layered upper named = caller_ended_up S p c s
  effect_up below s c (Service.ChainTask None) layered upper named = refl
  effect_up below s c (Service.ChainTask (Some t)) layered upper named =
      let high : is_upper_task S p t ≡ true = upper_task_named S p t named.names in
      ap (activated (upper_core S p) t) (caller_ended_up S p c s)
      ∙ activated_up t (caller_ended c s) (first_tasks S p both t named.known high) high
  effect_up below s c Service.Schedule layered upper named =
      ap₂ (λ b (z : State). cond b z (up S p s)) (outranked_up S p both below s c upper s.jobs layered.jobs)
      (with_caller_up S p c given_up given_up s (λ k. refl) (λ k. refl))
      ∙ up_cond S p (is_outranked S c s.jobs) (with_caller c given_up s) s
  effect_up below s c Service.GetTaskId layered upper named = refl
  effect_up below s c (Service.GetTaskState o) layered upper named = refl
  effect_up below s c (Service.GetResource None) layered upper named = refl
  effect_up below s c (Service.GetResource (Some r)) layered upper named =
      with_caller_up S p c (gets r) (gets (renumbered_resource S p r)) s (λ k. refl) (gets_up S p r)
  effect_up below s c (Service.ReleaseResource None) layered upper named = refl
  effect_up below s c (Service.ReleaseResource (Some r)) layered upper named =
      with_caller_up S p c releases releases s (λ k. refl) (releases_up S p)
  effect_up below s c (Service.LoadShared o i) layered upper named = refl
  effect_up below s c (Service.StoreShared None i v) layered upper named = refl
  effect_up below s c (Service.StoreShared (Some r) i v) layered upper named =
      word_stored_up S p both s r i v named.known layered.shared (visible_named S p r named.names)
  effect_up below s c (Service.SetEvent None m) layered upper named = refl
  effect_up below s c (Service.SetEvent (Some t) m) layered upper named =
      let high : is_upper_task S p t ≡ true = upper_task_named S p t named.names in
      event_set_up S p t m s (first_tasks S p both t named.known high) high
  effect_up below s c (Service.ClearEvent m) layered upper named = events_cleared_up c m s upper
  effect_up below s c (Service.GetEvent o) layered upper named = refl
  effect_up below s c (Service.WaitEvent m) layered upper named = event_awaited_up c m s upper
  effect_up below s c (Service.SetRelAlarm None x y) layered upper named = refl
  effect_up below s c (Service.SetRelAlarm (Some a) x y) layered upper named =
      let high : is_upper_alarm S p a ≡ true = upper_alarm_named S p a named.names in
      let e : Expiry = record { count = count S s a + x; cycle = y } in
      ap (λ n. with_alarm (up S p s) (rank (is_upper_alarm S p) a) (Some (record { count = n + x; cycle = y }))) (count_up S p both s a named.known high)
      ∙ sym (with_alarm_up S p both s a (Some e) named.known layered.alarms high)
  effect_up below s c (Service.SetAbsAlarm None x y) layered upper named = refl
  effect_up below s c (Service.SetAbsAlarm (Some a) x y) layered upper named =
      let high : is_upper_alarm S p a ≡ true = upper_alarm_named S p a named.names in
      let e : Expiry = record { count = next_count (counter_of S a) (count S s a) x; cycle = y } in
      ap₂ (λ (k : Counter) n. with_alarm (up S p s) (rank (is_upper_alarm S p) a) (Some (record { count = next_count k n x; cycle = y })))
      (both.counters a named.known high) (count_up S p both s a named.known high)
      ∙ sym (with_alarm_up S p both s a (Some e) named.known layered.alarms high)
  effect_up below s c (Service.CancelAlarm None) layered upper named = refl
  effect_up below s c (Service.CancelAlarm (Some a)) layered upper named =
      sym (with_alarm_up S p both s a None named.known layered.alarms (upper_alarm_named S p a named.names))
  effect_up below s c (Service.GetAlarm o) layered upper named = refl
  effect_up below s c (Service.GetAlarmBase o) layered upper named = refl

  pub changed_up : IsLow S p → (s : State) (c : Caller) (call : ServiceCall) (o : Option Status) → IsLayered S p s → IsUpperCaller S p s c → IsUpperCall S p c call
      → changed (upper_core S p) (up_caller S p c) (up S p s) (renumbered_service S p call) o ≡ up S p (changed S c s call o)
  changed_up below s c call None layered upper named = effect_up below s c call layered upper named
  changed_up below s c call (Some refusal) layered upper named = refl
