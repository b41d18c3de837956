-- What a tick does to one alarm: it expires where it is due, and a service may set it or cancel it.
use Rattle.std.proofs.Common.{ℕ, zero, suc, ◌≡◌, ◌+◌, ◌/◌, List, [], ◌∷◌, set, get_or, refl, sym, ap, subst}
use Rattle.std.specs.Prelude.{Option, Some, None, slice_index, slice_index_or, bit_or}
use Rattle.osek_base.specs.declared.ids.Owner.{Owner}
use Rattle.osek_base.specs.declared.instr.Control.{Control}
use Rattle.osek_base.specs.declared.instr.Instr.{Instr}
use Rattle.osek_base.specs.declared.instr.Service.{Service}
use Rattle.osek_base.specs.declared.status.Status.{Status}
use Rattle.osek_base.specs.declared.task.Action.{Action}
use Rattle.osek_base.specs.declared.task.Counter.{Counter}
use Rattle.osek_base.specs.Activation.{activated, released}
use Rattle.osek_base.specs.Alarm.{alarms_advanced, due_alarms, next_count}
use Rattle.osek_base.specs.Instruction.{Context}
use Rattle.osek_base.specs.Reschedule.{reschedule}
use Rattle.osek_base.specs.Service.{Caller, JobCalls, RoutineCalls, NobodyCalls, answer, caller_ended, changed, controlled, effect, event_awaited, event_set, events_cleared, first_refusal, gets, given_up, is_met, is_outranked, meets, refusals, released_by, releases, service, unasked_service, waiting_for, with_caller, with_events}
use Rattle.osek_base.specs.State.{Expiry, Job, JobId, State, interrupts_off, jobs_of}
use Rattle.osek_base.specs.System.{System, alarm, counter_of, instruction_at}
use Rattle.osek_base.specs.Tick.{action_call, alarm_acts, alarm_phase, alarms_act, arrival_phase, before_execution, caller_executes, execute_phase, executed, executor, from_execution, last_phase, start_phase, tick}
use Rattle.osek_base.specs.Types.{ServiceCall}
use Rattle.law_runs.proofs.Lists.{cond_both}
use Rattle.law_alarms.specs.Expiries.{base_of}
use Rattle.law_alarms.specs.Setting.{IsServed, call_by, call_in}

-- at count n of its counter a call sets the alarm to an expiry
abbrev pub SetsTo : Counter → ℕ → ℕ → ServiceCall → Expiry → Type 0
SetsTo c n a (Service.SetRelAlarm (Some b) increment cycle) e =
    (b ≡ a) × (e ≡ record { count = n + increment; cycle = cycle })
SetsTo c n a (Service.SetAbsAlarm (Some b) start cycle) e =
    (b ≡ a) × (e ≡ record { count = next_count c n start; cycle = cycle })
SetsTo c n a call e = ⊥

-- an element of a list of which one is set
at_set : (R : Option Expiry → Type 0) (es : List (Option Expiry)) (a b : ℕ) (e : Option Expiry)
    → R (get_or es a None)
    → (b ≡ a → R e) → R (get_or (set es b e) a None)
at_set R [] a b e old new = old
at_set R (x ∷ es) zero zero e old new = new refl
at_set R (x ∷ es) (suc a) zero e old new = old
at_set R (x ∷ es) zero (suc b) e old new = old
at_set R (x ∷ es) (suc a) (suc b) e old new = at_set R es a b e old (λ same. new (ap suc same))

module _ (S : System) (a now : ℕ) (R : Option Expiry → Type 0) (off : R None) where
  -- within tick now the alarm's expiry is as R says
  record IsAt (t : ℕ) (es : List (Option Expiry)) : Type 0 where
    is_now : t ≡ now
    here : R (slice_index_or es a None)

  abbrev Holds : State → Type 0
  Holds s = IsAt s.tick s.alarms

  -- R holds of whatever a call sets it to
  abbrev Allows : ServiceCall → Type 0
  Allows call = (e : Expiry) → SetsTo (counter_of S a) (now / base_of S a) a call e → R (Some e)

  -- ---- jobs and events

  activated_holds : (t : ℕ) (s : State) → Holds s → Holds (activated S t s)
  unfolding activated
  activated_holds t s h = h

  released_holds : (n : JobId) (s : State) → Holds s → Holds (released n s)
  unfolding released
  released_holds n s h = h

  met_holds : (events : ℕ) (jobs : List Job) (s : State) → Holds s
      → Holds (released_by events jobs s)
  met_holds events [] s h = h
  met_holds events (j ∷ js) s h =
      cond_both Holds (is_met events j.waits_for) (released j.id s) s (released_holds j.id s h) h

  event_holds : (t m : ℕ) (s : State) → Holds s → Holds (event_set t m s)
  event_holds t m s h =
      let events = bit_or (slice_index s.masks t) m in
      met_holds events (jobs_of t s.jobs) (with_events t events s) h

  caller_holds : (c : Caller) (f : Job → Job) (s : State) → Holds s → Holds (with_caller c f s)
  caller_holds (JobCalls j) f s h = h
  caller_holds (RoutineCalls r) f s h = h
  caller_holds NobodyCalls f s h = h

  ended_holds : (c : Caller) (s : State) → Holds s → Holds (caller_ended c s)
  ended_holds (JobCalls j) s h = h
  ended_holds (RoutineCalls r) s h = h
  ended_holds NobodyCalls s h = h

  cleared_holds : (c : Caller) (m : ℕ) (s : State) → Holds s → Holds (events_cleared c m s)
  cleared_holds (JobCalls j) m s h = h
  cleared_holds (RoutineCalls r) m s h = h
  cleared_holds NobodyCalls m s h = h

  awaited_holds : (c : Caller) (m : ℕ) (s : State) → Holds s → Holds (event_awaited c m s)
  awaited_holds (JobCalls j) m s h =
      cond_both Holds (meets m (slice_index s.masks j.id.task)) s
      (with_caller (JobCalls j) (waiting_for m) s) h h
  awaited_holds (RoutineCalls r) m s h = h
  awaited_holds NobodyCalls m s h = h

  -- ---- alarms are set

  set_holds : (s : State) → Holds s → (b : ℕ) (e : Option Expiry) → (b ≡ a → R e)
      → IsAt s.tick (set s.alarms b e)
  set_holds s h b e new = record { is_now = h.is_now; here = at_set R s.alarms a b e h.here new }

  -- what is set at a count of the counter of b is so at the present count of a
  at_count : (s : State) → Holds s → (b : ℕ) (f : Counter → ℕ → Expiry) → b ≡ a
      → R (Some (f (counter_of S a) (now / base_of S a)))
      → R (Some (f (counter_of S b) (s.tick / base_of S b)))
  at_count s h b f same new =
      subst (λ k. R (Some (f (counter_of S k) (s.tick / base_of S k)))) (sym same)
      (subst (λ t. R (Some (f (counter_of S a) (t / base_of S a)))) (sym h.is_now) new)

  effect_holds : (c : Caller) (s : State) → Holds s → (call : ServiceCall) → Allows call
      → Holds (effect S c s call)
  effect_holds c s h (Service.ActivateTask (Some t)) new = activated_holds t s h
  effect_holds c s h Service.TerminateTask new = ended_holds c s h
  effect_holds c s h (Service.ChainTask (Some t)) new =
      activated_holds t (caller_ended c s) (ended_holds c s h)
  effect_holds c s h Service.Schedule new =
      cond_both Holds (is_outranked S c s.jobs) (with_caller c given_up s) s
      (caller_holds c given_up s h) h
  effect_holds c s h (Service.GetResource (Some r)) new = caller_holds c (gets r) s h
  effect_holds c s h (Service.ReleaseResource (Some r)) new = caller_holds c releases s h
  effect_holds c s h (Service.StoreShared (Some r) i v) new = h
  effect_holds c s h (Service.SetEvent (Some t) m) new = event_holds t m s h
  effect_holds c s h (Service.ClearEvent m) new = cleared_holds c m s h
  effect_holds c s h (Service.WaitEvent m) new = awaited_holds c m s h
  effect_holds c s h (Service.SetRelAlarm (Some b) x y) new =
      set_holds s h b _
      (λ same.
      at_count s h b (λ k n. record { count = n + x; cycle = y }) same (new _ (same, refl)))
  effect_holds c s h (Service.SetAbsAlarm (Some b) x y) new =
      set_holds s h b _
      (λ same.
      at_count s h b (λ k n. record { count = next_count k n x; cycle = y }) same
      (new _ (same, refl)))
  effect_holds c s h (Service.CancelAlarm (Some b)) new = set_holds s h b None (λ same. off)
  effect_holds c s h _ new = h

  -- ---- services

  changed_holds : (c : Caller) (s : State) → Holds s
      → (call : ServiceCall) (refusal : Option Status)
      → (refusal ≡ None → Allows call) → Holds (changed S c s call refusal)
  changed_holds c s h call None new = effect_holds c s h call (new refl)
  changed_holds c s h call (Some refusal) new = h

  -- a service changes objects alone
  objects_hold : (s e : State) → Holds s → Holds e → IsAt s.tick e.alarms
  objects_hold s e h k = record { is_now = h.is_now; here = k.here }

  service_holds : (c : Caller) (s : State) → Holds s → (call : ServiceCall)
      → ((service S c s call).status ≡ Status.Ok → Allows call)
      → Holds (service S c s call).state
  unfolding service
  service_holds c s h call new =
      let refusal = first_refusal ((interrupts_off s, Status.SysDisabled) ∷ refusals S c s call) in
      objects_hold s (changed S c s call refusal) h
      (changed_holds c s h call refusal (λ none. new (ap answer none)))

  unasked_holds : (s : State) → Holds s → (call : ServiceCall) → Allows call
      → Holds (unasked_service S NobodyCalls s call).state
  unfolding unasked_service
  unasked_holds s h call new =
      let refusal = first_refusal (refusals S NobodyCalls s call) in
      objects_hold s (changed S NobodyCalls s call refusal) h
      (changed_holds NobodyCalls s h call refusal (λ none. new))

  -- ---- phases

  acts_allow : (action : Action) → Allows (action_call action)
  acts_allow (Action.ActivateTask t) e h = absurd h
  acts_allow (Action.SetEvent t m) e h = absurd h

  alarms_hold : (due : List ℕ) (s : State) → Holds s → Holds (alarms_act S due s).state
  alarms_hold [] s h = h
  alarms_hold (b ∷ due) s h =
      alarms_hold due (alarm_acts S b s).state
      (unasked_holds s h (action_call (alarm S b).action) (acts_allow (alarm S b).action))

  phase_holds : (s : State) → Holds (record s { alarms = alarms_advanced S s })
      → Holds (alarm_phase S s).state
  unfolding alarm_phase
  phase_holds s h = alarms_hold (due_alarms S s) (record s { alarms = alarms_advanced S s }) h

  rescheduled_holds : (s : State) → Holds s → Holds (reschedule S s).state
  unfolding reschedule
  rescheduled_holds s h = h

  started_holds : (s : State) → Holds s → Holds (start_phase S s)
  unfolding start_phase
  started_holds s h = h

  before_holds : (arrived : List ℕ) (s : State) → Holds (record s { alarms = alarms_advanced S s })
      → Holds (before_execution S arrived s).state
  before_holds arrived s h =
      let acted : State = (alarm_phase S s).state in
      started_holds (reschedule S (arrival_phase arrived acted)).state
      (rescheduled_holds (arrival_phase arrived acted) (phase_holds s h))

  controlled_holds : (control : Control ℕ) (s : State) → Holds s → Holds (controlled control s)
  controlled_holds Control.DisableAllInterrupts s h = h
  controlled_holds Control.EnableAllInterrupts s h = h
  controlled_holds Control.SuspendAllInterrupts s h = h
  controlled_holds Control.ResumeAllInterrupts s h = h
  controlled_holds Control.SuspendOsInterrupts s h = h
  controlled_holds Control.ResumeOsInterrupts s h = h
  controlled_holds (Control.ShutdownOs n) s h = h
  controlled_holds Control.ReturnFromInterrupt s h = h

  -- where what is called isn't refused, R holds of whatever it sets the alarm to
  abbrev Serves : Caller → State → Option ServiceCall → Type 0
  Serves c s o =
      (call : ServiceCall) → o ≡ Some call → (service S c s call).status ≡ Status.Ok → Allows call

  executed_holds : (who : Owner) (c : Caller) (x : Context) (what : Instr) (s : State) → Holds s
      → Serves c s (call_in x what)
      → Holds (executed S who c x what s).state
  executed_holds who c x (Instr.Plain p) s h new = h
  executed_holds who c x (Instr.Service call) s h new = service_holds c s h _ (new _ refl)
  executed_holds who c x (Instr.Control control) s h new = controlled_holds control s h

  called_holds : (c : Caller) (s : State) → Holds s → Serves c s (call_by S c)
      → Holds (caller_executes S c s).state
  called_holds (JobCalls j) s h new =
      executed_holds (Owner.Task j.id.task) (JobCalls j) j.context
      (instruction_at S (Owner.Task j.id.task) j.context.place) s h new
  called_holds (RoutineCalls r) s h new =
      executed_holds (Owner.Routine r.routine) (RoutineCalls r) r.context
      (instruction_at S (Owner.Routine r.routine) r.context.place) s h new
  called_holds NobodyCalls s h new = h

  execute_holds : (s : State) → Holds s → Serves (executor s) s (call_by S (executor s))
      → Holds (execute_phase S s).state
  unfolding execute_phase
  execute_holds s h new = called_holds (executor s) s h new

  last_holds : (s : State) → Holds s → Holds (last_phase S s).state
  last_holds s h =
      cond_both (λ r. Holds r.state) s.over (record { events = []; state = s }) (reschedule S s) h
      (rescheduled_holds s h)

  -- ---- the tick

  behind : (arrived : List ℕ) (s : State) → Holds (record s { alarms = alarms_advanced S s })
      → Serves (executor (before_execution S arrived s).state) (before_execution S arrived s).state
      (call_by S (executor (before_execution S arrived s).state))
      → Holds (from_execution S (before_execution S arrived s).state).state
  behind arrived s h new =
      let ready : State = (before_execution S arrived s).state in
      last_holds (execute_phase S ready).state (execute_holds ready (before_holds arrived s h) new)

  pub tick_leaves : (arrived : List ℕ) (s : State) → s.tick ≡ now
      → R (slice_index_or (alarms_advanced S s) a None)
      → ((call : ServiceCall) → IsServed S (tick S arrived s).executing call → Allows call)
      → R (slice_index_or (tick S arrived s).after.alarms a None)
  unfolding tick
  tick_leaves arrived s is_now advanced new =
      (behind arrived s (record { is_now = is_now; here = advanced })
      (λ call called accepted. new call (record { called = called; accepted = accepted }))).here
