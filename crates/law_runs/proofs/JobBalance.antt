-- In each tick, of a task, as many jobs are made as there are more behind it, and those that end.
use Rattle.std.proofs.Common.{ℕ, ◌≡◌, ◌<◌, ◌≤◌, ◌+◌, Bool, true, false, cond, ◌||◌, List, [], ◌∷◌, ◌++◌, length, refl, sym, ◌∙◌, ap, ap₂, subst, arith}
use Rattle.std.specs.Prelude.{Option, Some, None, slice_index, bit_or}
use Rattle.std.specs.List.{AllByRecursion}
use Rattle.std.proofs.lemmas.List.Folds.{list_any-append}
use Rattle.osek_base.specs.declared.ids.Owner.{Owner}
use Rattle.osek_base.specs.declared.instr.Service.{Service}
use Rattle.osek_base.specs.declared.instr.Instr.{Instr}
use Rattle.osek_base.specs.declared.instr.Control.{Control}
use Rattle.osek_base.specs.declared.status.Status.{Status}
use Rattle.osek_base.specs.declared.trace_event.Results.{Results}
use Rattle.osek_base.specs.declared.trace_event.Source.{Source}
use Rattle.osek_base.specs.declared.trace_event.Outcome.{Outcome}
use Rattle.osek_base.specs.declared.trace_event.TraceEvent.{TraceEvent}
use Rattle.osek_base.specs.declared.task.Action.{Action}
use Rattle.osek_base.specs.Types.{ServiceCall}
use Rattle.osek_base.specs.System.{System, alarm, instruction_at}
use Rattle.osek_base.specs.Instruction.{Context, plain, next}
use Rattle.osek_base.specs.State.{Job, JobId, Active, State, may_dispatch, interrupts_off, same_id, jobs_of}
use Rattle.osek_base.specs.Choice.{choice}
use Rattle.osek_base.specs.Alarm.{due_alarms, alarms_advanced}
use Rattle.osek_base.specs.Reschedule.{Recorded, hooked, entered, left_record, entered_record, switch_records, switched, with_dispatch_of, reschedule}
use Rattle.osek_base.specs.Service.{Caller, JobCalls, RoutineCalls, NobodyCalls, Reply, first_refusal, refusals, with_events, reply_to, service, unasked_service, answer, controlled}
use Rattle.osek_base.specs.Tick.{action_call, error_record, alarm_acts, alarms_act, alarm_phase, arrival_phase, start_phase, at_values, job_moved, with_context, answered, shutdown_record, executed, caller_executes, executor, execute_phase, before_execution, last_phase, tick}
use Rattle.osek_base.specs.Trace.{arriving, run}
use Rattle.osek_base.specs.Proper.{IsProper}
use Rattle.law_runs.proofs.Lists.{Pairs, pairs_weaker}
use Rattle.law_runs.proofs.Foremost.{AreApart}
use Rattle.law_runs.proofs.Known.{IsCaller, executor_calls, passed}
use Rattle.law_runs.proofs.Single.{IsSoundPair}
use Rattle.law_runs.proofs.RankedTick.{IsRunState, IsExecuting, before_executing, run_ordered}
use Rattle.law_runs.specs.Jobs.{is_end_of, ends, one_if, made_by, left_after, AlwaysBalanced}
use Rattle.law_runs.proofs.RunSteps.{state_more}
use Rattle.law_runs.proofs.JobChanges.{Balances, BalancesTo, stays, then_more, then_none, with_one, activates, own, ending, released_by_even, effect_even}

module _ (S : System) (t : ℕ) where
  -- ---- a service with its answer

  -- what counts at E_OK alone
  abbrev counted : Status → ℕ → ℕ
  counted Status.Ok k = k
  counted _ k = 0

  counted_none : (status : Status) → counted status 0 ≡ 0
  counted_none Status.Ok = refl
  counted_none Status.Access = refl
  counted_none Status.CallLevel = refl
  counted_none Status.Id = refl
  counted_none Status.Limit = refl
  counted_none Status.NoFunc = refl
  counted_none Status.Resource = refl
  counted_none Status.State = refl
  counted_none Status.Value = refl
  counted_none Status.SysDisabled = refl

  -- a refusal isn't E_OK
  abbrev IsRefusal : Bool × Status → Type 0
  IsRefusal r = (k : ℕ) → counted r.1 k ≡ 0

  not_ok : (rs : List (Bool × Status)) → AllByRecursion IsRefusal rs → (found : Status) → first_refusal rs ≡ Some found
      → (k : ℕ) → counted found k ≡ 0
  not_ok [] all found h k = absurd (grind (arith, h))
  not_ok ((b, e) ∷ rs) all found h k = go b h (λ later. not_ok rs all.1 found later k)
    where
      go : (b : Bool) → cond b (Some e) (first_refusal rs) ≡ Some found → (first_refusal rs ≡ Some found → counted found k ≡ 0)
          → counted found k ≡ 0
      go true h rest = subst (λ (x : Status). counted x k ≡ 0) (let same : e ≡ found = grind (arith, h) in same) (all.0 k)
      go false h rest = rest h

  refused_ends_none : (s : State) (c : Caller) (call : ServiceCall) (status : Status)
      → first_refusal ((interrupts_off s, Status.SysDisabled) ∷ refusals S c s call) ≡ Some status → counted status (ending S t call c) ≡ 0
  refused_ends_none s c Service.TerminateTask status h =
      not_ok ((interrupts_off s, Status.SysDisabled) ∷ refusals S c s Service.TerminateTask)
      ((λ k. refl), ((λ k. refl), ((λ k. refl), tt))) status h (own S t c)
  refused_ends_none s c (Service.ChainTask None) status h =
      not_ok ((interrupts_off s, Status.SysDisabled) ∷ refusals S c s (Service.ChainTask None))
      ((λ k. refl), ((λ k. refl), ((λ k. refl), tt))) status h (own S t c)
  refused_ends_none s c (Service.ChainTask (Some u)) status h =
      not_ok ((interrupts_off s, Status.SysDisabled) ∷ refusals S c s (Service.ChainTask (Some u)))
      ((λ k. refl), ((λ k. refl), ((λ k. refl), ((λ k. refl), tt)))) status h (own S t c)
  refused_ends_none s c call status h = counted_none status

  service_even : (s : State) (c : Caller) (call : ServiceCall) → t < length s.made → IsCaller s c → Pairs AreApart s.jobs
      → BalancesTo S t s (service S c s call).state (counted (service S c s call).status (ending S t call c))
  unfolding service
  service_even s c call inside calls pairs =
      go (first_refusal ((interrupts_off s, Status.SysDisabled) ∷ refusals S c s call)) refl
    where
      go : (refusal : Option Status) → first_refusal ((interrupts_off s, Status.SysDisabled) ∷ refusals S c s call) ≡ refusal
          → BalancesTo S t s (reply_to S c s call refusal).state (counted (answer refusal) (ending S t call c))
      go None free = effect_even S t s c call inside calls pairs (passed (interrupts_off s) Status.SysDisabled (refusals S c s call) free).1
      go (Some status) is =
          subst (λ k. Balances S t s.made s.jobs s.made s.jobs k) (sym (refused_ends_none s c call status is)) (stays S t s.made s.jobs)

  -- ---- records

  none_ends : (b : Bool) (event : TraceEvent) → is_end_of t event ≡ false → ends t (hooked b event) ≡ false
  none_ends true event h = ap (λ x. x || false) h
  none_ends false event h = refl

  error_ends_none : (who : Source) (what : Instr) (found : Status) → ends t (error_record S who what found) ≡ false
  error_ends_none who what Status.Ok = refl
  error_ends_none who what Status.Access = none_ends S.hooks.error (TraceEvent.Error who what Status.Access) refl
  error_ends_none who what Status.CallLevel = none_ends S.hooks.error (TraceEvent.Error who what Status.CallLevel) refl
  error_ends_none who what Status.Id = none_ends S.hooks.error (TraceEvent.Error who what Status.Id) refl
  error_ends_none who what Status.Limit = none_ends S.hooks.error (TraceEvent.Error who what Status.Limit) refl
  error_ends_none who what Status.NoFunc = none_ends S.hooks.error (TraceEvent.Error who what Status.NoFunc) refl
  error_ends_none who what Status.Resource = none_ends S.hooks.error (TraceEvent.Error who what Status.Resource) refl
  error_ends_none who what Status.State = none_ends S.hooks.error (TraceEvent.Error who what Status.State) refl
  error_ends_none who what Status.Value = none_ends S.hooks.error (TraceEvent.Error who what Status.Value) refl
  error_ends_none who what Status.SysDisabled = none_ends S.hooks.error (TraceEvent.Error who what Status.SysDisabled) refl

  both_end_none : (xs ys : List TraceEvent) → ends t xs ≡ false → ends t ys ≡ false → ends t (xs ++ ys) ≡ false
  both_end_none xs ys one two = list_any-append (is_end_of t) xs ys ∙ ap₂ (λ (x y : Bool). x || y) one two

  left_ends_none : (old : Option JobId) → ends t (left_record S old) ≡ false
  left_ends_none None = refl
  left_ends_none (Some old) = none_ends S.hooks.post_task (TraceEvent.Post old.task) refl

  entered_ends_none : (new : Option JobId) → ends t (entered_record S new) ≡ false
  entered_ends_none None = refl
  entered_ends_none (Some new) = none_ends S.hooks.pre_task (TraceEvent.Pre new.task) refl

  switch_ends_none : (old new : Option JobId) → ends t (switch_records S old new) ≡ false
  switch_ends_none None None = refl
  switch_ends_none None (Some new) = entered_ends_none (Some new)
  switch_ends_none (Some old) None = left_ends_none (Some old)
  switch_ends_none (Some old) (Some new) = go (same_id old new)
    where
      go : (b : Bool) → ends t (cond b [] (left_record S (Some old) ++ entered_record S (Some new))) ≡ false
      go true = refl
      go false = both_end_none (left_record S (Some old)) (entered_record S (Some new)) (left_ends_none (Some old)) (entered_ends_none (Some new))

  reschedule_ends_none : (s : State) → ends t (reschedule S s).events ≡ false
  unfolding reschedule
  reschedule_ends_none s = go (may_dispatch s)
    where
      go : (b : Bool) → ends t (with_dispatch_of s (cond b (switched S (choice S s.jobs) s) (record { events = []; state = s }))).events ≡ false
      go true = switch_ends_none s.running _
      go false = refl

  -- what a service's record tells
  answer_ends : (call : ServiceCall) (found : Status) (place : ℕ) (results : Results) (j : Job)
      → one_if (is_end_of t (TraceEvent.Executed (Owner.Task j.id.task) place (Instr.Service call) (Outcome.Answer found results)))
      ≡ counted found (ending S t call (JobCalls j))
  answer_ends Service.TerminateTask Status.Ok place results j = refl
  answer_ends Service.TerminateTask found place results j = refl
  answer_ends (Service.ChainTask u) Status.Ok place results j = refl
  answer_ends (Service.ChainTask u) found place results j = refl
  answer_ends call found place results j = sym (counted_none found)

  or_false : (b : Bool) → (b || false) ≡ b
  or_false true = refl
  or_false false = refl

  shutdown_ends_none : (control : Control ℕ) → ends t (shutdown_record S control) ≡ false
  shutdown_ends_none (Control.ShutdownOs n) = none_ends S.hooks.shutdown (TraceEvent.Shutdown n) refl
  shutdown_ends_none control = refl

  -- ---- the instruction

  context_even : (c : Caller) (x : Context) (s : State) → BalancesTo S t s (with_context c x s) 0
  context_even (JobCalls j) x s = with_one S t s.made s.jobs j.id (job_moved x) (λ k. refl)
  context_even (RoutineCalls a) x s = stays S t s.made s.jobs
  context_even NobodyCalls x s = stays S t s.made s.jobs

  controlled_even : (control : Control ℕ) (s : State) → BalancesTo S t s (controlled control s) 0
  controlled_even Control.DisableAllInterrupts s = stays S t s.made s.jobs
  controlled_even control s = stays S t s.made s.jobs

  same_ending : (x : Context) (call : ServiceCall) (c : Caller) → ending S t (at_values x call) c ≡ ending S t call c
  same_ending x (Service.SetRelAlarm a y z) c = refl
  same_ending x call c = refl

  served_even : (s : State) (c : Caller) (x : Context) (call : ServiceCall) → t < length s.made → IsCaller s c → Pairs AreApart s.jobs
      → BalancesTo S t s (with_context c (answered (service S c s (at_values x call)).status (service S c s (at_values x call)).results x) (service S c s (at_values x call)).state)
      (counted (service S c s (at_values x call)).status (ending S t call c))
  served_even s c x call inside calls pairs =
      let r : Reply = service S c s (at_values x call) in
      then_none S t s.made s.jobs (service S c s (at_values x call)).state.made (service S c s (at_values x call)).state.jobs _ _
      (counted (service S c s (at_values x call)).status (ending S t call c))
      (subst (λ k. BalancesTo S t s (service S c s (at_values x call)).state (counted (service S c s (at_values x call)).status k)) (same_ending x call c)
      (service_even s c (at_values x call) inside calls pairs))
      (context_even c (answered (service S c s (at_values x call)).status (service S c s (at_values x call)).results x) (service S c s (at_values x call)).state)

  abbrev IsEven : State → Recorded → Type 0
  IsEven s r = BalancesTo S t s r.state (one_if (ends t r.events))

  none_even : (s : State) (r : Recorded) → ends t r.events ≡ false → BalancesTo S t s r.state 0 → IsEven s r
  none_even s r none even = subst (λ (b : Bool). BalancesTo S t s r.state (one_if b)) (sym none) even

  control_even : (s : State) (who : Owner) (c : Caller) (x : Context) (control : Control ℕ)
      → is_end_of t (TraceEvent.Executed who x.place (Instr.Control control) Outcome.Control) ≡ false → IsEven s (executed S who c x (Instr.Control control) s)
  control_even s who c x control none =
      none_even s (executed S who c x (Instr.Control control) s) (ap₂ (λ (a b : Bool). a || b) none (shutdown_ends_none control))
      (then_more S t s.made s.jobs (controlled control s).made (controlled control s).jobs _ _ 0 (controlled_even control s) (context_even c (next x) (controlled control s)))

  job_even : (s : State) (j : Job) (x : Context) (what : Instr) → t < length s.made → IsCaller s (JobCalls j) → Pairs AreApart s.jobs
      → IsEven s (executed S (Owner.Task j.id.task) (JobCalls j) x what s)
  job_even s j x (Instr.Plain p) inside calls pairs = context_even (JobCalls j) (plain p x (s.words (Owner.Task j.id.task))).context s
  job_even s j x (Instr.Control control) inside calls pairs = control_even s (Owner.Task j.id.task) (JobCalls j) x control refl
  job_even s j x (Instr.Service call) inside calls pairs =
      let r : Reply = service S (JobCalls j) s (at_values x call) in
      subst (λ k. BalancesTo S t s (executed S (Owner.Task j.id.task) (JobCalls j) x (Instr.Service call) s).state k)
      (sym (ap (λ b. one_if (is_end_of t (TraceEvent.Executed (Owner.Task j.id.task) x.place (Instr.Service call) (Outcome.Answer (service S (JobCalls j) s (at_values x call)).status (service S (JobCalls j) s (at_values x call)).results)) || b)) (error_ends_none (Source.Owner (Owner.Task j.id.task)) (Instr.Service call) (service S (JobCalls j) s (at_values x call)).status)
      ∙ (ap one_if (or_false (is_end_of t (TraceEvent.Executed (Owner.Task j.id.task) x.place (Instr.Service call) (Outcome.Answer (service S (JobCalls j) s (at_values x call)).status (service S (JobCalls j) s (at_values x call)).results))))
      ∙ answer_ends call (service S (JobCalls j) s (at_values x call)).status x.place (service S (JobCalls j) s (at_values x call)).results j)))
      (served_even s (JobCalls j) x call inside calls pairs)

  no_ending : (call : ServiceCall) (a : Active) → ending S t call (RoutineCalls a) ≡ 0
  no_ending Service.TerminateTask a = refl
  no_ending (Service.ChainTask u) a = refl
  no_ending call a = refl

  routine_even : (s : State) (a : Active) (i : ℕ) (x : Context) (what : Instr) → t < length s.made → IsCaller s (RoutineCalls a) → Pairs AreApart s.jobs
      → IsEven s (executed S (Owner.Routine i) (RoutineCalls a) x what s)
  routine_even s a i x (Instr.Plain p) inside calls pairs = stays S t s.made s.jobs
  routine_even s a i x (Instr.Control control) inside calls pairs = control_even s (Owner.Routine i) (RoutineCalls a) x control refl
  routine_even s a i x (Instr.Service call) inside calls pairs =
      none_even s (executed S (Owner.Routine i) (RoutineCalls a) x (Instr.Service call) s)
      (error_ends_none (Source.Owner (Owner.Routine i)) (Instr.Service call) (service S (RoutineCalls a) s (at_values x call)).status)
      (subst (λ k. BalancesTo S t s (executed S (Owner.Routine i) (RoutineCalls a) x (Instr.Service call) s).state k)
      (ap (counted (service S (RoutineCalls a) s (at_values x call)).status) (no_ending call a) ∙ counted_none (service S (RoutineCalls a) s (at_values x call)).status)
      (served_even s (RoutineCalls a) x call inside calls pairs))

  caller_even : (s : State) (c : Caller) → t < length s.made → IsCaller s c → Pairs AreApart s.jobs → IsEven s (caller_executes S c s)
  caller_even s (JobCalls j) inside calls pairs =
      job_even s j j.context (instruction_at S (Owner.Task j.id.task) j.context.place) inside calls pairs
  caller_even s (RoutineCalls a) inside calls pairs =
      routine_even s a a.routine a.context (instruction_at S (Owner.Routine a.routine) a.context.place) inside calls pairs
  caller_even s NobodyCalls inside calls pairs = stays S t s.made s.jobs

  execute_even : (s : State) → t < length s.made → Pairs AreApart s.jobs → IsEven s (execute_phase S s)
  unfolding execute_phase
  execute_even s inside pairs = caller_even s (executor s) inside (executor_calls s) pairs

  -- ---- the other phases

  abbrev IsQuiet : State → Recorded → Type 0
  IsQuiet s r = BalancesTo S t s r.state 0 × (ends t r.events ≡ false)

  action_even : (s : State) (action : Action) (refusal : Option Status) → t < length s.made → BalancesTo S t s (reply_to S NobodyCalls s (action_call action) refusal).state 0
  action_even s (Action.ActivateTask u) None inside = activates S t u s inside
  action_even s (Action.ActivateTask u) (Some e) inside = stays S t s.made s.jobs
  action_even s (Action.SetEvent u m) None inside =
      released_by_even S t (bit_or (slice_index s.masks u) m) (jobs_of u s.jobs) (with_events u (bit_or (slice_index s.masks u) m) s)
  action_even s (Action.SetEvent u m) (Some e) inside = stays S t s.made s.jobs

  acts_even : (s : State) (action : Action) → t < length s.made → BalancesTo S t s (unasked_service S NobodyCalls s (action_call action)).state 0
  unfolding unasked_service
  acts_even s action inside = action_even s action (first_refusal (refusals S NobodyCalls s (action_call action))) inside

  alarms_even : (due : List ℕ) (s : State) → t < length s.made → IsQuiet s (alarms_act S due s)
  alarms_even [] s inside = (stays S t s.made s.jobs, refl)
  alarms_even (a ∷ due) s inside =
      let one : BalancesTo S t s (alarm_acts S a s).state 0 = acts_even s (alarm S a).action inside in
      let more : IsQuiet (alarm_acts S a s).state (alarms_act S due (alarm_acts S a s).state) =
      alarms_even due (alarm_acts S a s).state (subst (λ n. t < n) (sym one.size) inside) in (
        then_more S t s.made s.jobs (alarm_acts S a s).state.made (alarm_acts S a s).state.jobs _ _ 0 one more.0,
        both_end_none (alarm_acts S a s).events (alarms_act S due (alarm_acts S a s).state).events
            (error_ends_none (Source.Alarm a) (Instr.Service (action_call (alarm S a).action)) (unasked_service S NobodyCalls s (action_call (alarm S a).action)).status)
            more.1,
      )

  alarm_phase_even : (s : State) → t < length s.made → IsQuiet s (alarm_phase S s)
  unfolding alarm_phase
  alarm_phase_even s inside = alarms_even (due_alarms S s) (record s { alarms = alarms_advanced S s }) inside

  reschedule_even : (s : State) → BalancesTo S t s (reschedule S s).state 0
  unfolding reschedule
  reschedule_even s = go (may_dispatch s) (choice S s.jobs)
    where
      go : (b : Bool) (c : Option Job) → BalancesTo S t s (with_dispatch_of s (cond b (switched S c s) (record { events = []; state = s }))).state 0
      go true None = stays S t s.made s.jobs
      go true (Some j) = with_one S t s.made s.jobs j.id (entered S) (λ k. refl)
      go false c = stays S t s.made s.jobs

  start_even : (s : State) → BalancesTo S t s (start_phase S s) 0
  unfolding start_phase
  start_even s = stays S t s.made s.jobs

  last_even : (s : State) → IsQuiet s (last_phase S s)
  last_even s = go s.over
    where
      go : (b : Bool) → IsQuiet s (cond b (record { events = []; state = s }) (reschedule S s))
      go true = (stays S t s.made s.jobs, refl)
      go false = (reschedule_even s, reschedule_ends_none s)

  -- ---- the tick

  module _ (proper : IsProper S) (low : t < length S.tasks) where
    pub tick_even : (arrived : List ℕ) (s : State) → IsRunState S s
        → BalancesTo S t s (tick S arrived s).after (one_if (ends t (tick S arrived s).events))
    unfolding tick
    tick_even arrived s good =
        let inside : t < length s.made = (let size = good.single.known in omega (arith, low, size)) in
        let acted = alarm_phase_even s inside in
        let dispatched = reschedule_even (arrival_phase arrived (alarm_phase S s).state) in
        let executing : IsExecuting S proper (before_execution S arrived s).state = before_executing S proper arrived s good in
        let there : t < length (before_execution S arrived s).state.made =
        (let size = executing.good.single.known in omega (arith, low, size)) in
        let executed = execute_even (before_execution S arrived s).state there
        (pairs_weaker (IsSoundPair S) AreApart (before_execution S arrived s).state.jobs (λ j l h. h.apart) executing.good.single.pairs) in
        let last = last_even (execute_phase S (before_execution S arrived s).state).state in
        let before : BalancesTo S t s (before_execution S arrived s).state 0 =
        then_more S t s.made s.jobs (alarm_phase S s).state.made (alarm_phase S s).state.jobs _ _ 0 acted.0
        (then_more S t (alarm_phase S s).state.made (alarm_phase S s).state.jobs
        (reschedule S (arrival_phase arrived (alarm_phase S s).state)).state.made (reschedule S (arrival_phase arrived (alarm_phase S s).state)).state.jobs _ _ 0
        dispatched (start_even (reschedule S (arrival_phase arrived (alarm_phase S s).state)).state)) in
        let quiet : ends t (before_execution S arrived s).events ≡ false =
        both_end_none (alarm_phase S s).events (reschedule S (arrival_phase arrived (alarm_phase S s).state)).events acted.1
        (reschedule_ends_none (arrival_phase arrived (alarm_phase S s).state)) in
        let told : ends t ((before_execution S arrived s).events ++ ((execute_phase S (before_execution S arrived s).state).events ++ (last_phase S (execute_phase S (before_execution S arrived s).state).state).events)) ≡ ends t (execute_phase S (before_execution S arrived s).state).events =
        list_any-append (is_end_of t) (before_execution S arrived s).events _
        ∙ ap₂ (λ (x y : Bool). x || y) quiet (list_any-append (is_end_of t) (execute_phase S (before_execution S arrived s).state).events _ ∙ ap (λ b. ends t (execute_phase S (before_execution S arrived s).state).events || b) last.1 ∙ or_false (ends t (execute_phase S (before_execution S arrived s).state).events)) in
        subst (λ (b : Bool). Balances S t s.made s.jobs (last_phase S (execute_phase S (before_execution S arrived s).state).state).state.made (last_phase S (execute_phase S (before_execution S arrived s).state).state).state.jobs (one_if b)) (sym told)
        (then_more S t s.made s.jobs (before_execution S arrived s).state.made (before_execution S arrived s).state.jobs _ _ _ before
        (then_none S t (before_execution S arrived s).state.made (before_execution S arrived s).state.jobs
        (execute_phase S (before_execution S arrived s).state).state.made (execute_phase S (before_execution S arrived s).state).state.jobs _ _ _ executed last.0))
    -- ---- boot

pub always_balanced : AlwaysBalanced
always_balanced S mode t arrivals n proper low going =
    let b = tick_even S t proper low (arriving arrivals n) (run S mode arrivals n).state (run_ordered S proper mode arrivals n) in
    let is = state_more S mode arrivals n going in
    record {
      more = subst (λ (e : State). made_by S mode t arrivals n ≤ slice_index e.made t) (sym is) b.more;
      even = subst (λ (e : State). slice_index e.made t + left_after S mode t arrivals n ≡ made_by S mode t arrivals n + length (jobs_of t e.jobs) + one_if (ends t (tick S (arriving arrivals n) (run S mode arrivals n).state).events)) (sym is) b.even;
    }
