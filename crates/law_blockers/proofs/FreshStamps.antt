-- An id that was not given out has no stamp.
use Rattle.std.proofs.Common.{◌≡◌, ℕ, zero, suc, ◌+◌, ◌<◌, ◌≤◌, Bool, true, false, cond, ◌&&◌, List, [], ◌∷◌, set, refl, sym, subst, arith}
use Rattle.std.specs.Prelude.{Option, Some, None, is_some, ◌==◌, slice_index, bit_or}
use Rattle.std.specs.List.{AllByRecursion}
use Rattle.osek_base.specs.declared.arrivals.Arrival.{Arrival}
use Rattle.osek_base.specs.declared.ids.Owner.{Owner}
use Rattle.osek_base.specs.declared.instr.Instr.{Instr}
use Rattle.osek_base.specs.declared.instr.Service.{Service}
use Rattle.osek_base.specs.Types.{ServiceCall}
use Rattle.osek_base.specs.declared.instr.Control.{Control}
use Rattle.osek_base.specs.declared.status.Status.{Status}
use Rattle.osek_base.specs.System.{System, alarm, instruction_at}
use Rattle.osek_base.specs.Instruction.{Context}
use Rattle.osek_base.specs.State.{Job, JobId, State, still, job_of, jobs_of, interrupts_off}
use Rattle.osek_base.specs.Activation.{activated, released}
use Rattle.osek_base.specs.Reschedule.{reschedule}
use Rattle.osek_base.specs.Blocker.{is_in_state, executing_job, is_number}
use Rattle.osek_base.specs.Service.{Caller, JobCalls, RoutineCalls, NobodyCalls, caller_ended, with_caller, is_outranked, given_up, gets, releases, waiting_for, meets, is_met, released_by, with_events, event_set, events_cleared, event_awaited, effect, first_refusal, refusals, reply_to, service, unasked_service, controlled}
use Rattle.osek_base.specs.Alarm.{due_alarms, alarms_advanced}
use Rattle.osek_base.specs.Tick.{Step, alarm_acts, alarms_act, alarm_phase, arrival_phase, start_phase, before_execution, executed, caller_executes, executor, execute_phase, last_phase, action_call, at_values, tick}
use Rattle.osek_base.specs.Trace.{boot, run, arriving}
use Rattle.osek_base.specs.Proper.{IsProper}
use Rattle.law_runs.proofs.Lists.{cond_both, found}
use Rattle.law_runs.proofs.Foremost.{same_ids}
use Rattle.law_runs.proofs.Single.{IsSoundJob, IsSingle}
use Rattle.law_runs.proofs.SingleMoves.{reschedule_single}
use Rattle.law_runs.proofs.SingleTick.{alarm_phase_single, start_single, tick_single, boot_single, run_single}
use Rattle.law_blockers.specs.Steps.{step_at}
use Rattle.law_blockers.specs.Stamps.{Stamps, stamped, spent, stamps_in, stamps_of}
use Rattle.law_blockers.proofs.StampLemmas.{Going, earlier, state_more}

-- no id that wasn't given out has a stamp
abbrev pub AreFresh : Stamps → State → Type 0
AreFresh p s = (t k : ℕ) → slice_index s.made t ≤ k → p (record { task = t; serial = k }) ≡ None

-- every id that was given out stays so
abbrev pub IsMadeSince : State → State → Type 0
IsMadeSince s e = (t : ℕ) → slice_index s.made t ≤ slice_index e.made t

-- ---- stamps

absent : (S : System) (made : List ℕ) (jobs : List Job) → AllByRecursion (IsSoundJob S made) jobs → (t k : ℕ)
    → slice_index made t ≤ k → (o : Option Job) → job_of (record { task = t; serial = k }) jobs ≡ o → is_some o ≡ false
absent S made jobs each t k high None is = refl
absent S made jobs each t k high (Some j) is =
    let id : JobId = record { task = t; serial = k } in
    let here = found (IsSoundJob S made) (λ x. (x.id.task == t) && (x.id.serial == k)) jobs j each is in
    let same : j.id ≡ record { task = t; serial = k } = same_ids j.id (record { task = t; serial = k }) here.1 in
    let less : k < slice_index made t = subst (λ (n : JobId). n.serial < slice_index made n.task) same here.0.given in
    absurd (omega (arith, less, high))

pub stamped_fresh : (S : System) (s e : State) (u : ℕ) (p : Stamps) → AreFresh p s → IsMadeSince s e → IsSingle S e
    → AreFresh (stamped s e u p) e
stamped_fresh S s e u p fresh since single t k high =
    let none : is_in_state e (record { task = t; serial = k }) ≡ false =
    absent S e.made e.jobs single.each t k high (job_of (record { task = t; serial = k }) e.jobs) refl in
    let low = since t in
    rw (fresh t k (omega (arith, high, low)), none) refl

spent_fresh : (o : Option Job) (p : Stamps) (s : State) → AreFresh p s → AreFresh (spent o p) s
spent_fresh o p s fresh t k high = go (is_number (record { task = t; serial = k }) o)
  where
    go : (b : Bool) → cond b None (p (record { task = t; serial = k })) ≡ None
    go true = refl
    go false = fresh t k high

-- where nothing had one, what becomes ready was given out
first_fresh : (S : System) (s e : State) (u : ℕ) → IsSingle S e → AreFresh (stamped s e u (λ n. None)) e
first_fresh S s e u single t k high =
    let none : is_in_state e (record { task = t; serial = k }) ≡ false =
    absent S e.made e.jobs single.each t k high (job_of (record { task = t; serial = k }) e.jobs) refl in
    rw none refl

-- ---- ids are given out

pub since_itself : (s e : State) → e.made ≡ s.made → IsMadeSince s e
since_itself s e same t = subst (λ m. slice_index s.made t ≤ slice_index m t) (sym same) (omega arith)

pub since_both : (s m e : State) → IsMadeSince s m → IsMadeSince m e → IsMadeSince s e
since_both s m e first then t = let a = first t in let b = then t in omega (arith, a, b)

one_more : (made : List ℕ) (t u : ℕ) → slice_index made u ≤ slice_index (set made t (slice_index made t + 1)) u
one_more [] t u = omega arith
one_more (m ∷ made) zero zero = omega arith
one_more (m ∷ made) zero (suc u) = omega arith
one_more (m ∷ made) (suc t) zero = omega arith
one_more (m ∷ made) (suc t) (suc u) = one_more made t u

pub activated_since : (S : System) (t : ℕ) (s : State) → IsMadeSince s (activated S t s)
unfolding activated
activated_since S t s u = one_more s.made t u

module _ (S : System) (s : State) where
  caller_since : (c : Caller) (f : Job → Job) → (with_caller c f s).made ≡ s.made
  caller_since (JobCalls j) f = refl
  caller_since (RoutineCalls a) f = refl
  caller_since NobodyCalls f = refl

  ended_since : (c : Caller) → (caller_ended c s).made ≡ s.made
  ended_since (JobCalls j) = refl
  ended_since (RoutineCalls a) = refl
  ended_since NobodyCalls = refl

  set_made : (t m : ℕ) → (event_set t m s).made ≡ s.made
  unfolding released
  set_made t m = go (jobs_of t s.jobs)
    where
      go : (js : List Job)
          → (released_by (bit_or (slice_index s.masks t) m) js (with_events t (bit_or (slice_index s.masks t) m) s)).made
          ≡ s.made
      go [] = refl
      go (j ∷ js) =
          cond_both (λ (e : State). e.made ≡ s.made) (is_met (bit_or (slice_index s.masks t) m) j.waits_for)
          (released j.id (with_events t (bit_or (slice_index s.masks t) m) s))
          (with_events t (bit_or (slice_index s.masks t) m) s)
          refl refl

  cleared_made : (c : Caller) (m : ℕ) → (events_cleared c m s).made ≡ s.made
  cleared_made (JobCalls j) m = refl
  cleared_made (RoutineCalls a) m = refl
  cleared_made NobodyCalls m = refl

  awaited_made : (c : Caller) (m : ℕ) → (event_awaited c m s).made ≡ s.made
  awaited_made (JobCalls j) m = cond_both (λ (e : State). e.made ≡ s.made) (meets m (slice_index s.masks j.id.task)) s
      (with_caller (JobCalls j) (waiting_for m) s) refl refl
  awaited_made (RoutineCalls a) m = refl
  awaited_made NobodyCalls m = refl

  effect_since : (c : Caller) (call : ServiceCall) → IsMadeSince s (effect S c s call)
  effect_since c (Service.ActivateTask None) = since_itself s s refl
  effect_since c (Service.ActivateTask (Some t)) = activated_since S t s
  effect_since c Service.TerminateTask = since_itself s (caller_ended c s) (ended_since c)
  effect_since c (Service.ChainTask None) = since_itself s s refl
  effect_since c (Service.ChainTask (Some t)) =
      since_both s (caller_ended c s) (activated S t (caller_ended c s))
      (since_itself s (caller_ended c s) (ended_since c))
      (activated_since S t (caller_ended c s))
  effect_since c Service.Schedule =
      since_itself s (cond (is_outranked S c s.jobs) (with_caller c given_up s) s)
      (cond_both (λ (e : State). e.made ≡ s.made) (is_outranked S c s.jobs) (with_caller c given_up s) s (caller_since c given_up) refl)
  effect_since c Service.GetTaskId = since_itself s s refl
  effect_since c (Service.GetTaskState o) = since_itself s s refl
  effect_since c (Service.GetResource None) = since_itself s s refl
  effect_since c (Service.GetResource (Some r)) = since_itself s (with_caller c (gets r) s) (caller_since c (gets r))
  effect_since c (Service.ReleaseResource None) = since_itself s s refl
  effect_since c (Service.ReleaseResource (Some r)) = since_itself s (with_caller c releases s) (caller_since c releases)
  effect_since c (Service.LoadShared o i) = since_itself s s refl
  effect_since c (Service.StoreShared None i v) = since_itself s s refl
  effect_since c (Service.StoreShared (Some r) i v) = since_itself s s refl
  effect_since c (Service.SetEvent None m) = since_itself s s refl
  effect_since c (Service.SetEvent (Some t) m) = since_itself s (event_set t m s) (set_made t m)
  effect_since c (Service.ClearEvent m) = since_itself s (events_cleared c m s) (cleared_made c m)
  effect_since c (Service.GetEvent o) = since_itself s s refl
  effect_since c (Service.WaitEvent m) = since_itself s (event_awaited c m s) (awaited_made c m)
  effect_since c (Service.SetRelAlarm None x y) = since_itself s s refl
  effect_since c (Service.SetRelAlarm (Some a) x y) = since_itself s s refl
  effect_since c (Service.SetAbsAlarm None x y) = since_itself s s refl
  effect_since c (Service.SetAbsAlarm (Some a) x y) = since_itself s s refl
  effect_since c (Service.CancelAlarm None) = since_itself s s refl
  effect_since c (Service.CancelAlarm (Some a)) = since_itself s s refl
  effect_since c (Service.GetAlarm o) = since_itself s s refl
  effect_since c (Service.GetAlarmBase o) = since_itself s s refl

  reply_since : (c : Caller) (call : ServiceCall) (o : Option Status) → IsMadeSince s (reply_to S c s call o).state
  reply_since c call None = effect_since c call
  reply_since c call (Some refusal) = since_itself s s refl

  pub service_since : (c : Caller) (call : ServiceCall) → IsMadeSince s (service S c s call).state
  unfolding service
  service_since c call = reply_since c call (first_refusal ((interrupts_off s, Status.SysDisabled) ∷ refusals S c s call))

  pub unasked_since : (c : Caller) (call : ServiceCall) → IsMadeSince s (unasked_service S c s call).state
  unfolding unasked_service
  unasked_since c call = reply_since c call (first_refusal (refusals S c s call))

-- ---- a tick

module _ (S : System) where
  alarms_since : (due : List ℕ) (s : State) → IsMadeSince s (alarms_act S due s).state
  alarms_since [] s = since_itself s s refl
  alarms_since (a ∷ due) s =
      since_both s (alarm_acts S a s).state (alarms_act S due (alarm_acts S a s).state).state
      (unasked_since S s NobodyCalls (action_call (alarm S a).action)) (alarms_since due (alarm_acts S a s).state)

  alarm_phase_since : (s : State) → IsMadeSince s (alarm_phase S s).state
  unfolding alarm_phase
  alarm_phase_since s = alarms_since (due_alarms S s) (record s { alarms = alarms_advanced S s })

  reschedule_since : (s : State) → IsMadeSince s (reschedule S s).state
  unfolding reschedule
  reschedule_since s = since_itself s (reschedule S s).state refl

  start_since : (s : State) → IsMadeSince s (start_phase S s)
  unfolding start_phase
  start_since s = since_itself s (start_phase S s) refl

  pub before_since : (arrived : List ℕ) (s : State) → IsMadeSince s (before_execution S arrived s).state
  before_since arrived s =
      let acted : State = (alarm_phase S s).state in
      let flagged : State = arrival_phase arrived acted in
      since_both s flagged (before_execution S arrived s).state (alarm_phase_since s)
      (since_both flagged (reschedule S flagged).state (before_execution S arrived s).state (reschedule_since flagged)
      (start_since (reschedule S flagged).state))

  control_made : (control : Control ℕ) (s : State) → (controlled control s).made ≡ s.made
  control_made Control.DisableAllInterrupts s = refl
  control_made _ s = refl

  executed_since : (who : Owner) (c : Caller) (x : Context) (what : Instr) (s : State)
      → IsMadeSince s (executed S who c x what s).state
  executed_since who c x (Instr.Plain p) s = since_itself s (executed S who c x (Instr.Plain p) s).state refl
  executed_since who c x (Instr.Service call) s = service_since S s c (at_values x call)
  executed_since who c x (Instr.Control control) s =
      since_itself s (executed S who c x (Instr.Control control) s).state (control_made control s)

  caller_executes_since : (c : Caller) (s : State) → IsMadeSince s (caller_executes S c s).state
  caller_executes_since (JobCalls j) s =
      executed_since (Owner.Task j.id.task) (JobCalls j) j.context
      (instruction_at S (Owner.Task j.id.task) j.context.place) s
  caller_executes_since (RoutineCalls a) s =
      executed_since (Owner.Routine a.routine) (RoutineCalls a) a.context
      (instruction_at S (Owner.Routine a.routine) a.context.place) s
  caller_executes_since NobodyCalls s = since_itself s s refl

  pub execute_since : (s : State) → IsMadeSince s (execute_phase S s).state
  unfolding execute_phase
  execute_since s = caller_executes_since (executor s) s

  pub last_since : (s : State) → IsMadeSince s (last_phase S s).state
  last_since s = go s.over
    where
      go : (b : Bool) → IsMadeSince s (cond b (record { events = []; state = s }) (reschedule S s)).state
      go true = since_itself s s refl
      go false = reschedule_since s

  from_executing : (arrived : List ℕ) (s : State) → IsMadeSince (tick S arrived s).executing (tick S arrived s).after
  unfolding tick
  from_executing arrived s =
      let ready : State = (before_execution S arrived s).state in
      since_both ready (execute_phase S ready).state (last_phase S (execute_phase S ready).state).state
      (execute_since ready)
      (last_since (execute_phase S ready).state)

  to_executing : (arrived : List ℕ) (s : State) → IsMadeSince s (tick S arrived s).executing
  unfolding tick
  to_executing arrived s = before_since arrived s

  executing_single : IsProper S → (arrived : List ℕ) (s : State) → IsSingle S s → IsSingle S (tick S arrived s).executing
  unfolding tick
  executing_single proper arrived s single =
      start_single S proper (reschedule S (arrival_phase arrived (alarm_phase S s).state)).state
      (reschedule_single S (arrival_phase arrived (alarm_phase S s).state) (alarm_phase_single S proper s single))

-- ---- a run

module _ (S : System) (proper : IsProper S) (mode : ℕ) (arrivals : List Arrival) where
  first_state : (run S mode arrivals 0).state ≡ (boot S mode).state
  unfolding run
  first_state = refl

  in_fresh : (n : ℕ) → AreFresh (stamps_of S mode arrivals n) (run S mode arrivals n).state
      → AreFresh (stamps_in S mode arrivals n (stamps_of S mode arrivals n)) (step_at S mode arrivals n).executing
  in_fresh n fresh =
      let s : State = (run S mode arrivals n).state in
      stamped_fresh S s (step_at S mode arrivals n).executing n (stamps_of S mode arrivals n) fresh
      (to_executing S (arriving arrivals s.tick) s)
      (executing_single S proper (arriving arrivals s.tick) s (run_single S proper mode arrivals n))

  pub stamps_fresh : (n : ℕ) → Going S mode arrivals n
      → AreFresh (stamps_of S mode arrivals n) (run S mode arrivals n).state
  stamps_fresh zero going =
      subst (AreFresh (stamps_of S mode arrivals 0)) (sym first_state)
      (first_fresh S (still S) (boot S mode).state 0 (boot_single S proper mode))
  stamps_fresh (suc n) going =
      let on : Going S mode arrivals n = earlier S mode arrivals n going in
      let s : State = (run S mode arrivals n).state in
      let x : Step = step_at S mode arrivals n in
      subst (AreFresh (stamps_of S mode arrivals (suc n))) (sym (state_more S mode arrivals n on))
      (stamped_fresh S x.executing x.after (suc n)
      (spent (executing_job x) (stamps_in S mode arrivals n (stamps_of S mode arrivals n)))
      (spent_fresh (executing_job x) (stamps_in S mode arrivals n (stamps_of S mode arrivals n)) x.executing
      (in_fresh n (stamps_fresh n on)))
      (from_executing S (arriving arrivals s.tick) s)
      (tick_single S proper (arriving arrivals s.tick) s (run_single S proper mode arrivals n)))

  -- and at the instruction of the tick
  pub stamps_in_fresh : (n : ℕ) → Going S mode arrivals n
      → AreFresh (stamps_in S mode arrivals n (stamps_of S mode arrivals n)) (step_at S mode arrivals n).executing
  stamps_in_fresh n going = in_fresh n (stamps_fresh n going)
