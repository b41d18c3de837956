-- What a service, an instruction and a tick leave of who holds a resource: a job gets one only
-- where nobody holds it, and in phases 1 to 4 none does.
use Rattle.std.proofs.Common.{◌≡◌, ℕ, inl, inr, Bool, true, false, cond, not, List, [], ◌∷◌, refl, sym, ◌∙◌, ap, subst}
use Rattle.std.specs.Prelude.{Option, Some, None, bit_or, slice_index}
use Rattle.std.specs.List.{list_any}
use Rattle.osek_base.specs.declared.ids.ResId.{ResId}
use Rattle.osek_base.specs.declared.instr.Control.{Control}
use Rattle.osek_base.specs.declared.instr.Instr.{Instr}
use Rattle.osek_base.specs.declared.instr.Service.{Service}
use Rattle.osek_base.specs.declared.ids.Owner.{Owner}
use Rattle.osek_base.specs.declared.status.Status.{Status}
use Rattle.osek_base.specs.declared.task.Action.{Action}
use Rattle.osek_base.specs.Activation.{activated, released}
use Rattle.osek_base.specs.Alarm.{alarms_advanced, due_alarms}
use Rattle.osek_base.specs.Choice.{choice}
use Rattle.osek_base.specs.Instruction.{Context, next, plain}
use Rattle.osek_base.specs.Lists.{same_resource}
use Rattle.osek_base.specs.Reschedule.{entered, jobs_entered, reschedule, switched, with_dispatch_of}
use Rattle.osek_base.specs.Service.{Caller, JobCalls, NobodyCalls, RoutineCalls, caller_ended, controlled, effect, event_awaited, events_cleared, first_refusal, gets, given_up, holds, is_met, is_outranked, meets, refusals, released_by, releases, reply_to, service, unasked_service, waiting_for, with_caller, with_events}
use Rattle.osek_base.specs.State.{Job, JobId, State, interrupts_off, jobs_of, may_dispatch, same_id, still, with_job, words_after}
use Rattle.osek_base.specs.System.{System, alarm, instruction_at}
use Rattle.osek_base.specs.Tick.{action_call, alarm_acts, alarm_phase, alarms_act, answered, arrival_phase, at_values, before_execution, caller_executes, execute_phase, executed, executor, job_moved, last_phase, start_phase, tick, with_context}
use Rattle.osek_base.specs.Trace.{all_activated, boot, starting_alarms, starting_tasks}
use Rattle.osek_base.specs.Types.{ServiceCall}
use Rattle.law_runs.proofs.Exclusion.{same_resources}
use Rattle.law_runs.proofs.Holding.{more_held}
use Rattle.law_runs.proofs.Known.{all_passed, passed}
use Rattle.law_runs.proofs.Lists.{clash}
use Rattle.law_jobs.proofs.Passing.{Fewer, Passes, activated_fewer, changed_fewer, fewer_both, fewer_held, has, left_fewer, none_has, only_got, passes_then, released_fewer, unchanged}

module _ (r : ResId) where
  -- ---- services

  context_fewer : (c : Caller) (y : Context) (x : State) → Fewer r x.jobs (with_context c y x).jobs
  context_fewer (JobCalls j) y x =
      changed_fewer r j.id (job_moved y) (λ k. refl) (λ k h. h) x.jobs
  context_fewer (RoutineCalls a) y x = unchanged r x.jobs
  context_fewer NobodyCalls y x = unchanged r x.jobs

  set_fewer : (set : ℕ) (js : List Job) (s : State) → Fewer r s.jobs (released_by set js s).jobs
  set_fewer set [] s = unchanged r s.jobs
  set_fewer set (j ∷ js) s = go (is_met set j.waits_for)
    where
      go : (b : Bool) → Fewer r s.jobs (cond b (released j.id s) s).jobs
      go true = released_fewer r j.id s
      go false = unchanged r s.jobs

  module _ (S : System) (e : State) where
    abbrev Leaves : State → Type 0
    Leaves x = Passes r e.jobs x.jobs

    same : (x : State) → x.jobs ≡ e.jobs → Leaves x
    same x is = inl (λ n h. ap (has r n) (sym is) ∙ h)

    caller_changed : (c : Caller) (f : Job → Job) → ((j : Job) → (f j).id ≡ j.id)
        → ((j : Job) → holds (f j) r ≡ true → holds j r ≡ true) → Leaves (with_caller c f e)
    caller_changed (JobCalls j) f ids fewer = inl (changed_fewer r j.id f ids fewer e.jobs)
    caller_changed (RoutineCalls a) f ids fewer = same e refl
    caller_changed NobodyCalls f ids fewer = same e refl

    ended_fewer : (c : Caller) → Fewer r e.jobs (caller_ended c e).jobs
    ended_fewer (JobCalls j) = left_fewer r (λ k. not (same_id k.id j.id)) e.jobs
    ended_fewer (RoutineCalls a) = unchanged r e.jobs
    ended_fewer NobodyCalls = unchanged r e.jobs

    either : (b : Bool) (x y : State) → Leaves x → Leaves y → Leaves (cond b x y)
    either true x y f g = f
    either false x y f g = g

    got : (c : Caller) (q : ResId) → list_any (λ j. holds j q) e.jobs ≡ false
        → Leaves (with_caller c (gets q) e)
    got (RoutineCalls a) q none = same e refl
    got NobodyCalls q none = same e refl
    got (JobCalls j) q none = go (same_resource r q) refl
      where
        go : (b : Bool) → same_resource r q ≡ b → Leaves (with_caller (JobCalls j) (gets q) e)
        go false other =
            caller_changed (JobCalls j) (gets q) (λ k. refl)
            (λ k h. sym (more_held r q k.held other) ∙ h)
        go true is =
            let free : list_any (λ k. holds k r) e.jobs ≡ false =
            subst (λ z. list_any (λ k. holds k z) e.jobs ≡ false) (sym (same_resources r q is)) none
            in
            inr (record {
              who = j.id;
              none = none_has r e.jobs free;
              only = only_got r q j.id e.jobs free;
            })

    cleared : (c : Caller) (m : ℕ) → Leaves (events_cleared c m e)
    cleared (JobCalls j) m = same (events_cleared (JobCalls j) m e) refl
    cleared (RoutineCalls a) m = same e refl
    cleared NobodyCalls m = same e refl

    awaited : (c : Caller) (m : ℕ) → Leaves (event_awaited c m e)
    awaited (JobCalls j) m =
        either (meets m (slice_index e.masks j.id.task)) e
        (record e { jobs = with_job j.id (waiting_for m) e.jobs }) (same e refl)
        (caller_changed (JobCalls j) (waiting_for m) (λ k. refl) (λ k h. h))
    awaited (RoutineCalls a) m = same e refl
    awaited NobodyCalls m = same e refl

    effect_passes : (c : Caller) (call : ServiceCall)
        → first_refusal (refusals S c e call) ≡ None → Leaves (effect S c e call)
    effect_passes c (Service.ActivateTask None) free = same e refl
    effect_passes c (Service.ActivateTask (Some t)) free = inl (activated_fewer r S t e)
    effect_passes c Service.TerminateTask free = inl (ended_fewer c)
    effect_passes c (Service.ChainTask None) free = same e refl
    effect_passes c (Service.ChainTask (Some t)) free =
        inl (fewer_both r e.jobs (caller_ended c e).jobs (activated S t (caller_ended c e)).jobs
        (ended_fewer c) (activated_fewer r S t (caller_ended c e)))
    effect_passes c Service.Schedule free =
        either (is_outranked S c e.jobs) (with_caller c given_up e) e
        (caller_changed c given_up (λ j. refl) (λ j h. h)) (same e refl)
    effect_passes c Service.GetTaskId free = same e refl
    effect_passes c (Service.GetTaskState o) free = same e refl
    effect_passes c (Service.GetResource None) free = same e refl
    effect_passes c (Service.GetResource (Some q)) free =
        got c q (all_passed (refusals S c e (Service.GetResource (Some q))) free).1.1.0
    effect_passes c (Service.ReleaseResource None) free = same e refl
    effect_passes c (Service.ReleaseResource (Some q)) free =
        caller_changed c releases (λ j. refl) (λ j. fewer_held r j.held)
    effect_passes c (Service.LoadShared o i) free = same e refl
    effect_passes c (Service.StoreShared None i v) free = same e refl
    effect_passes c (Service.StoreShared (Some q) i v) free =
        same (effect S c e (Service.StoreShared (Some q) i v)) refl
    effect_passes c (Service.SetEvent None m) free = same e refl
    effect_passes c (Service.SetEvent (Some t) m) free =
        inl (set_fewer (bit_or (slice_index e.masks t) m) (jobs_of t e.jobs)
        (with_events t (bit_or (slice_index e.masks t) m) e))
    effect_passes c (Service.ClearEvent m) free = cleared c m
    effect_passes c (Service.GetEvent o) free = same e refl
    effect_passes c (Service.WaitEvent m) free = awaited c m
    effect_passes c (Service.SetRelAlarm None x y) free = same e refl
    effect_passes c (Service.SetRelAlarm (Some a) x y) free =
        same (effect S c e (Service.SetRelAlarm (Some a) x y)) refl
    effect_passes c (Service.SetAbsAlarm None x y) free = same e refl
    effect_passes c (Service.SetAbsAlarm (Some a) x y) free =
        same (effect S c e (Service.SetAbsAlarm (Some a) x y)) refl
    effect_passes c (Service.CancelAlarm None) free = same e refl
    effect_passes c (Service.CancelAlarm (Some a)) free =
        same (effect S c e (Service.CancelAlarm (Some a))) refl
    effect_passes c (Service.GetAlarm o) free = same e refl
    effect_passes c (Service.GetAlarmBase o) free = same e refl

    service_passes : (c : Caller) (call : ServiceCall) → Leaves (service S c e call).state
    unfolding service
    service_passes c call =
        go (first_refusal ((interrupts_off e, Status.SysDisabled) ∷ refusals S c e call)) refl
      where
        go : (o : Option Status)
            → first_refusal ((interrupts_off e, Status.SysDisabled) ∷ refusals S c e call) ≡ o
            → Leaves (reply_to S c e call o).state
        go None free =
            effect_passes c call
            (passed (interrupts_off e) Status.SysDisabled (refusals S c e call) free).1
        go (Some _) is = same e refl

    -- ---- the instruction of a tick

    controlled_jobs : (control : Control ℕ) → (controlled control e).jobs ≡ e.jobs
    controlled_jobs Control.DisableAllInterrupts = refl
    controlled_jobs _ = refl

    executed_passes : (who : Owner) (c : Caller) (y : Context) (what : Instr)
        → Leaves (executed S who c y what e).state
    executed_passes who c y (Instr.Plain p) =
        inl (context_fewer c (plain p y (e.words who)).context
        (record e { words = words_after e.words who (plain p y (e.words who)).effect }))
    executed_passes who c y (Instr.Service call) =
        let a = service S c e (at_values y call) in
        passes_then r e.jobs a.state.jobs
        (with_context c (answered a.status a.results y) a.state).jobs
        (service_passes c (at_values y call))
        (context_fewer c (answered a.status a.results y) a.state)
    executed_passes who c y (Instr.Control control) =
        passes_then r e.jobs (controlled control e).jobs
        (with_context c (next y) (controlled control e)).jobs
        (same (controlled control e) (controlled_jobs control))
        (context_fewer c (next y) (controlled control e))

    execute_passes : Leaves (execute_phase S e).state
    unfolding execute_phase
    execute_passes = go (executor e)
      where
        go : (c : Caller) → Leaves (caller_executes S c e).state
        go (JobCalls j) =
            executed_passes (Owner.Task j.id.task) (JobCalls j) j.context
            (instruction_at S (Owner.Task j.id.task) j.context.place)
        go (RoutineCalls a) =
            executed_passes (Owner.Routine a.routine) (RoutineCalls a) a.context
            (instruction_at S (Owner.Routine a.routine) a.context.place)
        go NobodyCalls = same e refl

  -- ---- the other phases

  module _ (S : System) where
    action_fewer : (act : Action) (s : State)
        → Fewer r s.jobs (unasked_service S NobodyCalls s (action_call act)).state.jobs
    unfolding unasked_service
    action_fewer (Action.ActivateTask t) s =
        go (first_refusal (refusals S NobodyCalls s (Service.ActivateTask (Some t))))
      where
        go : (o : Option Status)
            → Fewer r s.jobs
            (reply_to S NobodyCalls s (Service.ActivateTask (Some t)) o).state.jobs
        go None = activated_fewer r S t s
        go (Some refusal) = unchanged r s.jobs
    action_fewer (Action.SetEvent t m) s =
        go (first_refusal (refusals S NobodyCalls s (Service.SetEvent (Some t) m)))
      where
        go : (o : Option Status)
            → Fewer r s.jobs (reply_to S NobodyCalls s (Service.SetEvent (Some t) m) o).state.jobs
        go None =
            set_fewer (bit_or (slice_index s.masks t) m) (jobs_of t s.jobs)
            (with_events t (bit_or (slice_index s.masks t) m) s)
        go (Some refusal) = unchanged r s.jobs

    alarms_fewer : (due : List ℕ) (s : State) → Fewer r s.jobs (alarms_act S due s).state.jobs
    alarms_fewer [] s = unchanged r s.jobs
    alarms_fewer (a ∷ due) s =
        fewer_both r s.jobs (alarm_acts S a s).state.jobs
        (alarms_act S due (alarm_acts S a s).state).state.jobs
        (action_fewer (alarm S a).action s) (alarms_fewer due (alarm_acts S a s).state)

    alarm_phase_fewer : (s : State) → Fewer r s.jobs (alarm_phase S s).state.jobs
    unfolding alarm_phase
    alarm_phase_fewer s =
        alarms_fewer (due_alarms S s) (record s { alarms = alarms_advanced S s })

    entered_fewer : (o : Option Job) (jobs : List Job) → Fewer r jobs (jobs_entered S o jobs)
    entered_fewer None jobs = unchanged r jobs
    entered_fewer (Some j) jobs = changed_fewer r j.id (entered S) (λ k. refl) (λ k h. h) jobs

    pub reschedule_fewer : (s : State) → Fewer r s.jobs (reschedule S s).state.jobs
    unfolding reschedule
    reschedule_fewer s = go (may_dispatch s)
      where
        go : (b : Bool)
            → Fewer r s.jobs
            (with_dispatch_of s
            (cond b (switched S (choice S s.jobs) s)
            (record { events = []; state = s }))).state.jobs
        go true = entered_fewer (choice S s.jobs) s.jobs
        go false = unchanged r s.jobs

    start_fewer : (s : State) → Fewer r s.jobs (start_phase S s).jobs
    unfolding start_phase
    start_fewer s = unchanged r s.jobs

    pub before_fewer : (arrived : List ℕ) (s : State)
        → Fewer r s.jobs (before_execution S arrived s).state.jobs
    before_fewer arrived s =
        let flagged : State = arrival_phase arrived (alarm_phase S s).state in
        let there : State = (reschedule S flagged).state in
        fewer_both r s.jobs (alarm_phase S s).state.jobs (start_phase S there).jobs
        (alarm_phase_fewer s)
        (fewer_both r (alarm_phase S s).state.jobs there.jobs (start_phase S there).jobs
        (reschedule_fewer flagged) (start_fewer there))

    last_fewer : (s : State) → Fewer r s.jobs (last_phase S s).state.jobs
    last_fewer s = go s.over
      where
        go : (b : Bool)
            → Fewer r s.jobs
            (cond b (record { events = []; state = s }) (reschedule S s)).state.jobs
        go true = unchanged r s.jobs
        go false = reschedule_fewer s

    -- from a tick's instruction on
    pub tick_passes : (arrived : List ℕ) (s : State)
        → Passes r (tick S arrived s).executing.jobs (tick S arrived s).after.jobs
    unfolding tick
    tick_passes arrived s =
        let e : State = (before_execution S arrived s).state in
        passes_then r e.jobs (execute_phase S e).state.jobs
        (last_phase S (execute_phase S e).state).state.jobs
        (execute_passes S e) (last_fewer (execute_phase S e).state)

    -- at boot nobody holds it
    all_activated_fewer : (ts : List ℕ) (s : State) → Fewer r s.jobs (all_activated S ts s).jobs
    all_activated_fewer [] s = unchanged r s.jobs
    all_activated_fewer (t ∷ ts) s =
        fewer_both r s.jobs (activated S t s).jobs (all_activated S ts (activated S t s)).jobs
        (activated_fewer r S t s) (all_activated_fewer ts (activated S t s))

    pub boot_none : (mode : ℕ) (n : JobId) → has r n (boot S mode).state.jobs ≡ true → ⊥
    unfolding boot
    boot_none mode n h =
        let first : State = record (still S) { alarms = starting_alarms S mode } in
        let made : State = all_activated S (starting_tasks S mode) first in
        clash (sym (all_activated_fewer (starting_tasks S mode) first n
        (reschedule_fewer made n h)))
