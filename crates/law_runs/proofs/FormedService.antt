-- A service keeps the form of a state.
use Rattle.std.proofs.Common.{◌≡◌, ℕ, ◌+◌, ◌<◌, ◌≤◌, Bool, true, false, cond, not, ◌&&◌, List, [], ◌∷◌, ◌++◌, map, set, length, refl, sym, ◌∙◌, ap, subst, arith, length-set}
use Rattle.std.specs.Prelude.{Option, Some, None, ◌==◌, slice_index, bit_or, bit_and, bit_xor}
use Rattle.std.specs.List.{filter, AllByRecursion}
use Rattle.osek_base.specs.declared.ids.Owner.{Owner}
use Rattle.osek_base.specs.declared.status.Status.{Status}
use Rattle.osek_base.specs.declared.instr.Service.{Service}
use Rattle.osek_base.specs.Types.{ServiceCall}
use Rattle.osek_base.specs.Lists.{is_empty}
use Rattle.osek_base.specs.System.{System, activation_of, is_extended}
use Rattle.osek_base.specs.State.{Job, JobId, State, Expiry, interrupts_off, same_id, jobs_of, jobs_but, with_job}
use Rattle.osek_base.specs.Alarm.{with_alarm}
use Rattle.osek_base.specs.Activation.{is_full, activated, new_job, released, woken}
use Rattle.osek_base.specs.Service.{Caller, JobCalls, RoutineCalls, NobodyCalls, is_own_task, first_refusal, refusals, with_caller, caller_ended, is_outranked, given_up, gets, releases, waiting_for, meets, is_met, released_by, with_events, events_cleared, event_awaited, effect, reply_to, service, unasked_service}
use Rattle.osek_base.specs.Proper.{IsProper}
use Rattle.osek_base.proofs.PlaceLemmas.{some_program}
use Rattle.law_runs.proofs.Lists.{cond_both, clash, all_kept, all_append, all_map, found}
use Rattle.law_runs.proofs.Foremost.{equal, same_self}
use Rattle.law_runs.proofs.Known.{IsCaller, ActivatesKnown, passed, all_passed, none_kept}
use Rattle.law_runs.proofs.Formed.{count_append, count_map, count_split, all_passing, IsPlacedJob, IsLimited, IsFormed}

module _ (S : System) (proper : IsProper S) where
  with_jobs : (s : State) (jobs : List Job) → IsFormed S s → AllByRecursion (IsPlacedJob S) jobs → IsLimited S jobs → IsFormed S (record s { jobs = jobs })
  with_jobs s jobs formed all limited = record { masks = formed.masks; alarms = formed.alarms; jobs = all; limited = limited }

  -- ---- changes

  -- a change of a job that leaves its id, and a place to go on
  pub change_formed : (n : JobId) (f : Job → Job) (jobs : List Job) → ((j : Job) → (f j).id ≡ j.id) → ((j : Job) → same_id j.id n ≡ true → IsPlacedJob S j → IsPlacedJob S (f j))
      → AllByRecursion (IsPlacedJob S) jobs → IsLimited S jobs → AllByRecursion (IsPlacedJob S) (with_job n f jobs) × IsLimited S (with_job n f jobs)
  change_formed n f jobs ids keeps all limited = (
    all_map (IsPlacedJob S) (IsPlacedJob S) (λ j. cond (same_id j.id n) (f j) j) jobs (λ j h. one j (same_id j.id n) refl h) all,
    λ t. subst (λ k. k ≤ activation_of S t)
        (sym (count_map (λ (j : Job). j.id.task == t) (λ j. cond (same_id j.id n) (f j) j) jobs (λ j. ap (λ (m : JobId). m.task == t) (id j (same_id j.id n))))) (limited t),
  )
    where
      one : (j : Job) (b : Bool) → same_id j.id n ≡ b → IsPlacedJob S j → IsPlacedJob S (cond b (f j) j)
      one j true e h = keeps j e h
      one j false e h = h

      id : (j : Job) (b : Bool) → (cond b (f j) j).id ≡ j.id
      id j true = ids j
      id j false = refl

  plain_change : (n : JobId) (f : Job → Job) (s : State) → ((j : Job) → (f j).id ≡ j.id) → ((j : Job) → IsPlacedJob S j → IsPlacedJob S (f j))
      → IsFormed S s → IsFormed S (record s { jobs = with_job n f s.jobs })
  plain_change n f s ids keeps formed =
      let both = change_formed n f s.jobs ids (λ j e h. keeps j h) formed.jobs formed.limited in
      with_jobs s (with_job n f s.jobs) formed both.0 both.1

  fewer : (q : Job → Bool) (t : ℕ) (jobs : List Job) → length (jobs_of t (filter (λ j. not (q j)) jobs)) ≤ length (jobs_of t jobs)
  fewer q t jobs = let split = count_split (λ (j : Job). j.id.task == t) q jobs in omega arith

  pub but_formed : (n : JobId) (s : State) → IsFormed S s → IsFormed S (record s { jobs = jobs_but n s.jobs })
  but_formed n s formed =
      with_jobs s (jobs_but n s.jobs) formed (all_kept (IsPlacedJob S) (λ j. not (same_id j.id n)) s.jobs formed.jobs)
      (λ t. (let less = fewer (λ j. same_id j.id n) t s.jobs in let most = formed.limited t in omega arith))

  released_formed : (n : JobId) (s : State) → IsFormed S s → IsFormed S (released n s)
  unfolding released
  released_formed n s formed =
      with_jobs s (jobs_but n s.jobs ++ map woken (filter (λ j. same_id j.id n) s.jobs)) formed
      (all_append (IsPlacedJob S) (jobs_but n s.jobs) (map woken (filter (λ j. same_id j.id n) s.jobs))
      (all_kept (IsPlacedJob S) (λ j. not (same_id j.id n)) s.jobs formed.jobs)
      (all_map (IsPlacedJob S) (IsPlacedJob S) woken (filter (λ j. same_id j.id n) s.jobs) (λ j h. record { task = h.task; context = h.context })
      (all_kept (IsPlacedJob S) (λ j. same_id j.id n) s.jobs formed.jobs)))
      (λ t. (let split = count_split (λ (j : Job). j.id.task == t) (λ j. same_id j.id n) s.jobs in
      let join = count_append (λ (j : Job). j.id.task == t) (jobs_but n s.jobs) (map woken (filter (λ j. same_id j.id n) s.jobs)) in
      let same = count_map (λ (j : Job). j.id.task == t) woken (filter (λ j. same_id j.id n) s.jobs) (λ j. refl) in
      let most = formed.limited t in omega arith))

  -- ---- a job more

  pub activated_formed : (t : ℕ) (s : State) → t < length S.tasks → length (jobs_of t s.jobs) < activation_of S t → IsFormed S s → IsFormed S (activated S t s)
  unfolding activated
  activated_formed t s inside room formed = record {
    masks = cond_both (λ (ns : List ℕ). length ns ≡ length S.tasks) (is_extended S t && is_empty (jobs_of t s.jobs)) (set s.masks t 0) s.masks (length-set s.masks t 0 ∙ formed.masks) formed.masks;
    alarms = formed.alarms;
    jobs = all_append (IsPlacedJob S) s.jobs (new ∷ []) formed.jobs
        (record { task = inside; context = record { registers = refl; place = some_program S (Owner.Task t) proper inside } }, tt);
    limited = λ u. (let join = count_append (λ (j : Job). j.id.task == u) s.jobs (new ∷ []) in subst (λ k. k ≤ activation_of S u) (sym join) (one u (t == u) refl));
  }
    where
      new : Job
      new = new_job (record { task = t; serial = slice_index s.made t })

      one : (u : ℕ) (b : Bool) → (t == u) ≡ b → length (jobs_of u s.jobs) + length (cond b (new ∷ []) []) ≤ activation_of S u
      one u true e =
          let same : t ≡ u = equal t u e in
          let less : length (jobs_of u s.jobs) < activation_of S u = subst (λ v. length (jobs_of v s.jobs) < activation_of S v) same room in
          omega arith
      one u false e = let most = formed.limited u in omega arith

  -- ---- by service

  with_caller_formed : (c : Caller) (f : Job → Job) (s : State) → ((j : Job) → (f j).id ≡ j.id) → ((j : Job) → IsPlacedJob S j → IsPlacedJob S (f j))
      → IsFormed S s → IsFormed S (with_caller c f s)
  with_caller_formed (JobCalls j) f s ids keeps formed = plain_change j.id f s ids keeps formed
  with_caller_formed (RoutineCalls a) f s ids keeps formed = formed
  with_caller_formed NobodyCalls f s ids keeps formed = formed

  ended_formed : (c : Caller) (s : State) → IsFormed S s → IsFormed S (caller_ended c s)
  ended_formed (JobCalls j) s formed = but_formed j.id s formed
  ended_formed (RoutineCalls a) s formed = formed
  ended_formed NobodyCalls s formed = formed

  with_alarm_formed : (s : State) (a : ℕ) (e : Option Expiry) → IsFormed S s → IsFormed S (with_alarm s a e)
  with_alarm_formed s a e formed = record { masks = formed.masks; alarms = length-set s.alarms a e ∙ formed.alarms; jobs = formed.jobs; limited = formed.limited }

  with_events_formed : (t m : ℕ) (s : State) → IsFormed S s → IsFormed S (with_events t m s)
  with_events_formed t m s formed = record { masks = length-set s.masks t m ∙ formed.masks; alarms = formed.alarms; jobs = formed.jobs; limited = formed.limited }

  released_by_formed : (events : ℕ) (jobs : List Job) (s : State) → IsFormed S s → IsFormed S (released_by events jobs s)
  released_by_formed events [] s formed = formed
  released_by_formed events (j ∷ js) s formed = cond_both (IsFormed S) (is_met events j.waits_for) (released j.id s) s (released_formed j.id s formed) formed

  cleared_formed : (c : Caller) (m : ℕ) (s : State) → IsFormed S s → IsFormed S (events_cleared c m s)
  cleared_formed (JobCalls j) m s formed =
      with_events_formed j.id.task (bit_xor (slice_index s.masks j.id.task) (bit_and (slice_index s.masks j.id.task) m)) s formed
  cleared_formed (RoutineCalls a) m s formed = formed
  cleared_formed NobodyCalls m s formed = formed

  awaited_formed : (c : Caller) (m : ℕ) (s : State) → IsFormed S s → IsFormed S (event_awaited c m s)
  awaited_formed (JobCalls j) m s formed =
      cond_both (IsFormed S) (meets m (slice_index s.masks j.id.task)) s (with_caller (JobCalls j) (waiting_for m) s) formed
      (plain_change j.id (waiting_for m) s (λ k. refl) (λ k h. record { task = h.task; context = h.context }) formed)
  awaited_formed (RoutineCalls a) m s formed = formed
  awaited_formed NobodyCalls m s formed = formed

  unfull : (t : ℕ) (s : State) → is_full S s t ≡ false → length (jobs_of t s.jobs) < activation_of S t
  unfull t s full = grind (arith, full)

  chained_formed : (c : Caller) (t : ℕ) (s : State) → IsCaller s c → t < length S.tasks → (not (is_own_task c t) && is_full S s t) ≡ false → IsFormed S s
      → IsFormed S (activated S t (caller_ended c s))
  chained_formed (JobCalls j) t s calls inside h formed =
      activated_formed t (caller_ended (JobCalls j) s) inside (go (j.id.task == t) refl h) (but_formed j.id s formed)
    where
      of_task : Job → Bool
      of_task k = k.id.task == t

      split : length (jobs_of t (jobs_but j.id s.jobs)) + length (jobs_of t (filter (λ k. same_id k.id j.id) s.jobs)) ≡ length (jobs_of t s.jobs)
      split = count_split (λ (k : Job). k.id.task == t) (λ k. same_id k.id j.id) s.jobs

      some : (j.id.task == t) ≡ true → length (jobs_of t (filter (λ k. same_id k.id j.id) s.jobs)) < 1 → ⊥
      some own none =
          let each : AllByRecursion (λ (k : Job). same_id k.id j.id ≡ true → (k.id.task == t) ≡ false) s.jobs =
          all_passing (λ (k : Job). (k.id.task == t) ≡ false) (λ k. same_id k.id j.id) s.jobs (none_kept (λ (k : Job). k.id.task == t) (filter (λ k. same_id k.id j.id) s.jobs) none) in
          clash (sym own ∙ (found (λ (k : Job). same_id k.id j.id ≡ true → (k.id.task == t) ≡ false) (λ k. same_id k.id j.id) s.jobs j each calls.found).0 (same_self j.id))

      least : (n : ℕ) → (n < 1 → ⊥) → 1 ≤ n
      least n f = omega (arith, f)

      go : (b : Bool) → (j.id.task == t) ≡ b → (not b && is_full S s t) ≡ false → length (jobs_of t (jobs_but j.id s.jobs)) < activation_of S t
      go true own k =
          let one = least (length (jobs_of t (filter (λ x. same_id x.id j.id) s.jobs))) (some own) in
          let most = formed.limited t in
          omega (arith, split)
      go false other k = let less = unfull t s k in omega (arith, split)
  chained_formed (RoutineCalls a) t s calls inside h formed = activated_formed t s inside (unfull t s h) formed
  chained_formed NobodyCalls t s calls inside h formed = activated_formed t s inside (unfull t s h) formed

  effect_formed : (s : State) (c : Caller) (call : ServiceCall) → IsCaller s c → ActivatesKnown S call → first_refusal (refusals S c s call) ≡ None
      → IsFormed S s → IsFormed S (effect S c s call)
  effect_formed s c (Service.ActivateTask None) calls known none formed = formed
  effect_formed s c (Service.ActivateTask (Some t)) calls known none formed =
      activated_formed t s known (unfull t s (passed (is_full S s t) Status.Limit [] none).0) formed
  effect_formed s c Service.TerminateTask calls known none formed = ended_formed c s formed
  effect_formed s c (Service.ChainTask None) calls known none formed = formed
  effect_formed s c (Service.ChainTask (Some t)) calls known none formed =
      chained_formed c t s calls known (all_passed (refusals S c s (Service.ChainTask (Some t))) none).1.1.0 formed
  effect_formed s c Service.Schedule calls known none formed =
      cond_both (IsFormed S) (is_outranked S c s.jobs) (with_caller c given_up s) s
      (with_caller_formed c given_up s (λ k. refl) (λ k h. record { task = h.task; context = h.context }) formed) formed
  effect_formed s c Service.GetTaskId calls known none formed = formed
  effect_formed s c (Service.GetTaskState o) calls known none formed = formed
  effect_formed s c (Service.GetResource None) calls known none formed = formed
  effect_formed s c (Service.GetResource (Some r)) calls known none formed =
      with_caller_formed c (gets r) s (λ k. refl) (λ k h. record { task = h.task; context = h.context }) formed
  effect_formed s c (Service.ReleaseResource None) calls known none formed = formed
  effect_formed s c (Service.ReleaseResource (Some r)) calls known none formed =
      with_caller_formed c releases s (λ k. refl) (λ k h. record { task = h.task; context = h.context }) formed
  effect_formed s c (Service.LoadShared o i) calls known none formed = formed
  effect_formed s c (Service.StoreShared None i v) calls known none formed = formed
  effect_formed s c (Service.StoreShared (Some r) i v) calls known none formed = record { masks = formed.masks; alarms = formed.alarms; jobs = formed.jobs; limited = formed.limited }
  effect_formed s c (Service.SetEvent None m) calls known none formed = formed
  effect_formed s c (Service.SetEvent (Some t) m) calls known none formed =
      released_by_formed (bit_or (slice_index s.masks t) m) (jobs_of t s.jobs) (with_events t (bit_or (slice_index s.masks t) m) s)
      (with_events_formed t (bit_or (slice_index s.masks t) m) s formed)
  effect_formed s c (Service.ClearEvent m) calls known none formed = cleared_formed c m s formed
  effect_formed s c (Service.GetEvent o) calls known none formed = formed
  effect_formed s c (Service.WaitEvent m) calls known none formed = awaited_formed c m s formed
  effect_formed s c (Service.SetRelAlarm None x y) calls known none formed = formed
  effect_formed s c (Service.SetRelAlarm (Some a) x y) calls known none formed = with_alarm_formed s a _ formed
  effect_formed s c (Service.SetAbsAlarm None x y) calls known none formed = formed
  effect_formed s c (Service.SetAbsAlarm (Some a) x y) calls known none formed = with_alarm_formed s a _ formed
  effect_formed s c (Service.CancelAlarm None) calls known none formed = formed
  effect_formed s c (Service.CancelAlarm (Some a)) calls known none formed = with_alarm_formed s a None formed
  effect_formed s c (Service.GetAlarm o) calls known none formed = formed
  effect_formed s c (Service.GetAlarmBase o) calls known none formed = formed

  reply_formed : (s : State) (c : Caller) (call : ServiceCall) (o : Option Status) → IsCaller s c → ActivatesKnown S call
      → (o ≡ None → first_refusal (refusals S c s call) ≡ None) → IsFormed S s → IsFormed S (reply_to S c s call o).state
  reply_formed s c call None calls known none formed =
      let h : IsFormed S (effect S c s call) = effect_formed s c call calls known (none refl) formed in
      record { masks = h.masks; alarms = h.alarms; jobs = h.jobs; limited = h.limited }
  reply_formed s c call (Some refusal) calls known none formed = record { masks = formed.masks; alarms = formed.alarms; jobs = formed.jobs; limited = formed.limited }

  pub service_formed : (s : State) (c : Caller) (call : ServiceCall) → IsCaller s c → ActivatesKnown S call → IsFormed S s → IsFormed S (service S c s call).state
  unfolding service
  service_formed s c call calls known formed =
      reply_formed s c call (first_refusal ((interrupts_off s, Status.SysDisabled) ∷ refusals S c s call)) calls known
      (λ e. (passed (interrupts_off s) Status.SysDisabled (refusals S c s call) e).1) formed

  pub unasked_formed : (s : State) (c : Caller) (call : ServiceCall) → IsCaller s c → ActivatesKnown S call → IsFormed S s → IsFormed S (unasked_service S c s call).state
  unfolding unasked_service
  unasked_formed s c call calls known formed = reply_formed s c call (first_refusal (refusals S c s call)) calls known (λ e. e) formed
