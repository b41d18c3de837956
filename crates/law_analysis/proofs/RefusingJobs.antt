-- How a job comes to be: what follows of a job that is in the list, where it does of each that is
-- made.
use Rattle.std.proofs.Common.{ℕ, ◌≡◌, Bool, true, false, cond, not, ◌||◌, List, [], ◌∷◌, map, length, refl, sym, ◌∙◌, ap, subst}
use Rattle.std.specs.Prelude.{Option, Some, None, slice_index, bit_or}
use Rattle.std.specs.List.{filter, AllByRecursion}
use Rattle.std.proofs.lemmas.List.Folds.{list_any-append}
use Rattle.osek_base.specs.declared.ids.Owner.{Owner}
use Rattle.osek_base.specs.declared.instr.Control.{Control}
use Rattle.osek_base.specs.declared.instr.Instr.{Instr}
use Rattle.osek_base.specs.declared.instr.Service.{Service}
use Rattle.osek_base.specs.declared.status.Status.{Status}
use Rattle.osek_base.specs.declared.task.Action.{Action}
use Rattle.osek_base.specs.Activation.{activated, new_job, released, woken}
use Rattle.osek_base.specs.Alarm.{alarms_advanced, due_alarms}
use Rattle.osek_base.specs.Instruction.{Context, plain}
use Rattle.osek_base.specs.Lists.{below}
use Rattle.osek_base.specs.Reschedule.{reschedule}
use Rattle.osek_base.specs.Service.{Caller, JobCalls, RoutineCalls, NobodyCalls, caller_ended, changed, controlled, effect, event_awaited, event_set, events_cleared, first_refusal, gets, given_up, is_met, is_outranked, meets, refusals, released_by, releases, service, unasked_service, waiting_for, with_caller, with_events}
use Rattle.osek_base.specs.State.{Job, JobId, State, interrupts_off, jobs_but, jobs_of, same_id, still, with_job}
use Rattle.osek_base.specs.System.{System, alarm, instruction_at, starts_in}
use Rattle.osek_base.specs.Tick.{action_call, alarm_acts, alarm_phase, alarms_act, arrival_phase, at_values, before_execution, caller_executes, execute_phase, executed, executor, job_moved, last_phase, start_phase, tick, with_context}
use Rattle.osek_base.specs.Trace.{all_activated, boot, starting_alarms, starting_tasks}
use Rattle.osek_base.specs.Types.{ServiceCall}
use Rattle.law_runs.proofs.Foremost.{self_equal, same_ids}
use Rattle.law_runs.proofs.Lists.{all_any, all_filter, all_weaker, clash, cond_both, none_some, some_inside}
use Rattle.law_kept.proofs.Parts.{any_moved, any_parts}
use Rattle.law_jobs.proofs.Growing.{reschedule_same}
use Rattle.law_jobs.proofs.Lists.{is_there, mapped_there}
use Rattle.seen_ticks.specs.Observed.{activates, is_activation}
use Rattle.law_analysis.specs.Refusing.{alarm_activates}
use Rattle.law_analysis.proofs.RefusingPrograms.{at_same, made_by}

either_true : (a b : Bool) → b ≡ true → (a || b) ≡ true
either_true true b h = refl
either_true false b h = h

module _ (S : System) (id : JobId) (P : Type 0) where
  -- where the job is in the list, P follows
  abbrev pub Owes : List Job → Type 0
  Owes jobs = is_there id jobs ≡ true → P

  -- ---- lists of jobs

  same_owes : (js ks : List Job) → is_there id ks ≡ is_there id js → Owes js → Owes ks
  same_owes js ks same h there = h (sym same ∙ there)

  left_there : (test : Job → Bool) (js : List Job) → is_there id (filter test js) ≡ true
      → is_there id js ≡ true
  left_there test [] there = there
  left_there test (j ∷ js) there = go (test j) (left_there test js) there
    where
      one : (c : Bool) → (is_there id (filter test js) ≡ true → is_there id js ≡ true)
          → (c || is_there id (filter test js)) ≡ true → (c || is_there id js) ≡ true
      one true rest h = refl
      one false rest h = rest h

      go : (b : Bool) → (is_there id (filter test js) ≡ true → is_there id js ≡ true)
          → is_there id (cond b (j ∷ filter test js) (filter test js)) ≡ true
          → (same_id j.id id || is_there id js) ≡ true
      go true rest h = one (same_id j.id id) rest h
      go false rest h = either_true (same_id j.id id) (is_there id js) (rest h)

  changed_owes : (n : JobId) (f : Job → Job) → ((j : Job) → (f j).id ≡ j.id) → (js : List Job)
      → Owes js → Owes (with_job n f js)
  changed_owes n f ids js h =
      same_owes js (with_job n f js)
      (mapped_there id.task (λ j. cond (same_id j.id n) (f j) j)
      (λ j. kept j (same_id j.id n)) id js) h
    where
      kept : (j : Job) (b : Bool) → (cond b (f j) j).id ≡ j.id
      kept j true = ids j
      kept j false = refl

  -- ---- jobs are made and released

  -- making a job of a task, P follows where it is that of the job
  abbrev pub Allows : Option ℕ → Type 0
  Allows made = made ≡ Some id.task → P

  activated_owes : (t : ℕ) (s : State) → Allows (Some t) → Owes s.jobs
      → Owes (activated S t s).jobs
  unfolding activated
  activated_owes t s made h there =
      go (is_there id s.jobs) (same_id new id) refl refl
      (sym (list_any-append (λ j. same_id j.id id) s.jobs (new_job new ∷ [])) ∙ there)
    where
      new : JobId
      new = record { task = t; serial = slice_index s.made t }

      go : (b c : Bool) → is_there id s.jobs ≡ b → same_id new id ≡ c → (b || (c || false)) ≡ true
          → P
      go true c old is k = h old
      go false true old is k = made (ap (λ (n : JobId). Some n.task) (same_ids new id is))
      go false false old is k = clash (sym k)

  released_owes : (n : JobId) (s : State) → Owes s.jobs → Owes (released n s).jobs
  unfolding released
  released_owes n s h there =
      h
      (sym
      (list_any-append (λ j. same_id j.id id) (jobs_but n s.jobs)
      (map woken (filter (λ j. same_id j.id n) s.jobs))
      ∙ ap (λ b. is_there id (jobs_but n s.jobs) || b)
      (any_moved (λ j. same_id j.id id) woken (λ j. refl) (filter (λ j. same_id j.id n) s.jobs))
      ∙ any_parts (λ j. same_id j.id id) (λ j. same_id j.id n) s.jobs)
      ∙ there)

  met_owes : (events : ℕ) (js : List Job) (s : State) → Owes s.jobs
      → Owes (released_by events js s).jobs
  met_owes events [] s h = h
  met_owes events (j ∷ js) s h =
      cond_both (λ (x : State). Owes x.jobs) (is_met events j.waits_for) (released j.id s) s
      (released_owes j.id s h) h

  event_owes : (t m : ℕ) (s : State) → Owes s.jobs → Owes (event_set t m s).jobs
  event_owes t m s h =
      let events = bit_or (slice_index s.masks t) m in
      met_owes events (jobs_of t s.jobs) (with_events t events s) h

  -- ---- services

  caller_owes : (c : Caller) (f : Job → Job) → ((j : Job) → (f j).id ≡ j.id) → (s : State)
      → Owes s.jobs → Owes (with_caller c f s).jobs
  caller_owes (JobCalls j) f ids s h = changed_owes j.id f ids s.jobs h
  caller_owes (RoutineCalls r) f ids s h = h
  caller_owes NobodyCalls f ids s h = h

  ended_owes : (c : Caller) (s : State) → Owes s.jobs → Owes (caller_ended c s).jobs
  ended_owes (JobCalls j) s h = λ there.
      h (left_there (λ k. not (same_id k.id j.id)) s.jobs there)
  ended_owes (RoutineCalls r) s h = h
  ended_owes NobodyCalls s h = h

  cleared_owes : (c : Caller) (m : ℕ) (s : State) → Owes s.jobs
      → Owes (events_cleared c m s).jobs
  cleared_owes (JobCalls j) m s h = h
  cleared_owes (RoutineCalls r) m s h = h
  cleared_owes NobodyCalls m s h = h

  awaited_owes : (c : Caller) (m : ℕ) (s : State) → Owes s.jobs
      → Owes (event_awaited c m s).jobs
  awaited_owes (JobCalls j) m s h =
      cond_both (λ (x : State). Owes x.jobs) (meets m (slice_index s.masks j.id.task)) s
      (with_caller (JobCalls j) (waiting_for m) s) h
      (changed_owes j.id (waiting_for m) (λ k. refl) s.jobs h)
  awaited_owes (RoutineCalls r) m s h = h
  awaited_owes NobodyCalls m s h = h

  effect_owes : (c : Caller) (s : State) → Owes s.jobs → (call : ServiceCall)
      → Allows (activates (Instr.Service call)) → Owes (effect S c s call).jobs
  effect_owes c s h (Service.ActivateTask (Some t)) made = activated_owes t s made h
  effect_owes c s h Service.TerminateTask made = ended_owes c s h
  effect_owes c s h (Service.ChainTask (Some t)) made =
      activated_owes t (caller_ended c s) made (ended_owes c s h)
  effect_owes c s h Service.Schedule made =
      cond_both (λ (x : State). Owes x.jobs) (is_outranked S c s.jobs) (with_caller c given_up s)
      s (caller_owes c given_up (λ k. refl) s h) h
  effect_owes c s h (Service.GetResource (Some r)) made = caller_owes c (gets r) (λ k. refl) s h
  effect_owes c s h (Service.ReleaseResource (Some r)) made =
      caller_owes c releases (λ k. refl) s h
  effect_owes c s h (Service.SetEvent (Some t) m) made = event_owes t m s h
  effect_owes c s h (Service.ClearEvent m) made = cleared_owes c m s h
  effect_owes c s h (Service.WaitEvent m) made = awaited_owes c m s h
  effect_owes c s h (Service.StoreShared (Some r) i v) made = h
  effect_owes c s h (Service.SetRelAlarm (Some a) x y) made = h
  effect_owes c s h (Service.SetAbsAlarm (Some a) x y) made = h
  effect_owes c s h (Service.CancelAlarm (Some a)) made = h
  effect_owes c s h _ made = h

  changed_by_owes : (c : Caller) (s : State) → Owes s.jobs
      → (call : ServiceCall) (refusal : Option Status) → Allows (activates (Instr.Service call))
      → Owes (changed S c s call refusal).jobs
  changed_by_owes c s h call None made = effect_owes c s h call made
  changed_by_owes c s h call (Some refusal) made = h

  service_owes : (c : Caller) (s : State) → Owes s.jobs → (call : ServiceCall)
      → Allows (activates (Instr.Service call)) → Owes (service S c s call).state.jobs
  unfolding service
  service_owes c s h call made =
      changed_by_owes c s h call
      (first_refusal ((interrupts_off s, Status.SysDisabled) ∷ refusals S c s call)) made

  pub unasked_owes : (s : State) → Owes s.jobs → (call : ServiceCall)
      → Allows (activates (Instr.Service call))
      → Owes (unasked_service S NobodyCalls s call).state.jobs
  unfolding unasked_service
  unasked_owes s h call made =
      changed_by_owes NobodyCalls s h call (first_refusal (refusals S NobodyCalls s call)) made

  -- ---- alarms act

  by_action : (action : Action) → (is_activation id.task action ≡ true → P)
      → Allows (activates (Instr.Service (action_call action)))
  by_action (Action.ActivateTask t) made is =
      made
      (ap (λ o. is_activation id.task (Action.ActivateTask (task_of o))) is
      ∙ self_equal id.task)
    where
      task_of : Option ℕ → ℕ
      task_of None = 0
      task_of (Some t) = t
  by_action (Action.SetEvent t m) made is = absurd (none_some id.task is)

  -- P follows of each alarm that activates the task
  abbrev pub Acts : ℕ → Type 0
  Acts a = alarm_activates S id.task a ≡ true → P

  pub acted_owes : (a : ℕ) (s : State) → Acts a → Owes s.jobs
      → Owes (unasked_service S NobodyCalls s (action_call (alarm S a).action)).state.jobs
  acted_owes a s made h =
      unasked_owes s h (action_call (alarm S a).action) (by_action (alarm S a).action made)

  alarms_owe : (due : List ℕ) → AllByRecursion Acts due → (s : State) → Owes s.jobs
      → Owes (alarms_act S due s).state.jobs
  alarms_owe [] made s h = h
  alarms_owe (a ∷ due) made s h =
      alarms_owe due made.1 (alarm_acts S a s).state (acted_owes a s made.0 h)

  phase_owes : (s : State) → AllByRecursion Acts (due_alarms S s) → Owes s.jobs
      → Owes (alarm_phase S s).state.jobs
  unfolding alarm_phase
  phase_owes s made h =
      alarms_owe (due_alarms S s) made (record s { alarms = alarms_advanced S s }) h

  -- ---- up to the instruction

  rescheduled_owes : (s : State) → Owes s.jobs → Owes (reschedule S s).state.jobs
  rescheduled_owes s h =
      same_owes s.jobs (reschedule S s).state.jobs ((reschedule_same S id.task s).there id) h

  started_owes : (s : State) → Owes s.jobs → Owes (start_phase S s).jobs
  unfolding start_phase
  started_owes s h = h

  pub before_owes : (arrived : List ℕ) (s : State) → AllByRecursion Acts (due_alarms S s)
      → Owes s.jobs → Owes (before_execution S arrived s).state.jobs
  before_owes arrived s made h =
      let acted : State = (alarm_phase S s).state in
      started_owes (reschedule S (arrival_phase arrived acted)).state
      (rescheduled_owes (arrival_phase arrived acted) (phase_owes s made h))

  -- ---- from there on

  context_owes : (c : Caller) (x : Context) (s : State) → Owes s.jobs
      → Owes (with_context c x s).jobs
  context_owes (JobCalls j) x s h = changed_owes j.id (job_moved x) (λ k. refl) s.jobs h
  context_owes (RoutineCalls r) x s h = h
  context_owes NobodyCalls x s h = h

  controlled_owes : (control : Control ℕ) (s : State) → Owes s.jobs
      → Owes (controlled control s).jobs
  controlled_owes Control.DisableAllInterrupts s h = h
  controlled_owes _ s h = h

  executed_owes : (who : Owner) (c : Caller) (x : Context) (what : Instr) (s : State)
      → Allows (activates what) → Owes s.jobs → Owes (executed S who c x what s).state.jobs
  executed_owes who c x (Instr.Plain p) s made h =
      context_owes c (plain p x (s.words who)).context s h
  executed_owes who c x (Instr.Service call) s made h =
      context_owes c _ (service S c s (at_values x call)).state
      (service_owes c s h (at_values x call) (λ is. made (sym (at_same x call) ∙ is)))
  executed_owes who c x (Instr.Control control) s made h =
      context_owes c _ (controlled control s) (controlled_owes control s h)

  called_owes : (c : Caller) (s : State) → Allows (made_by S c) → Owes s.jobs
      → Owes (caller_executes S c s).state.jobs
  called_owes (JobCalls j) s made h =
      executed_owes (Owner.Task j.id.task) (JobCalls j) j.context
      (instruction_at S (Owner.Task j.id.task) j.context.place) s made h
  called_owes (RoutineCalls r) s made h =
      executed_owes (Owner.Routine r.routine) (RoutineCalls r) r.context
      (instruction_at S (Owner.Routine r.routine) r.context.place) s made h
  called_owes NobodyCalls s made h = h

  execute_owes : (s : State) → Allows (made_by S (executor s)) → Owes s.jobs
      → Owes (execute_phase S s).state.jobs
  unfolding execute_phase
  execute_owes s made h = called_owes (executor s) s made h

  last_owes : (s : State) → Owes s.jobs → Owes (last_phase S s).state.jobs
  last_owes s h =
      cond_both (λ r. Owes r.state.jobs) s.over (record { events = []; state = s })
      (reschedule S s) h (rescheduled_owes s h)

  pub after_owes : (arrived : List ℕ) (s : State)
      → Allows (made_by S (executor (before_execution S arrived s).state))
      → Owes (before_execution S arrived s).state.jobs → Owes (tick S arrived s).after.jobs
  unfolding tick
  after_owes arrived s made h =
      let ready : State = (before_execution S arrived s).state in
      last_owes (execute_phase S ready).state (execute_owes ready made h)

  -- ---- boot

  all_owe : (ts : List ℕ) → AllByRecursion (λ t. Allows (Some t)) ts → (s : State)
      → Owes s.jobs → Owes (all_activated S ts s).jobs
  all_owe [] made s h = h
  all_owe (t ∷ ts) made s h =
      all_owe ts made.1 (activated S t s) (activated_owes t s made.0 h)

  pub boot_owes : (mode : ℕ) → (starts_in S mode id.task ≡ true → P)
      → Owes (boot S mode).state.jobs
  unfolding boot
  boot_owes mode starts =
      rescheduled_owes _
      (all_owe (starting_tasks S mode)
      (all_weaker (λ t. Unit {0} × (starts_in S mode t ≡ true)) (λ t. Allows (Some t))
      (starting_tasks S mode)
      (λ t h is. starts (subst (λ u. starts_in S mode u ≡ true) (some_inside t id.task is) h.1))
      (all_filter (λ t. Unit {0}) (starts_in S mode) (below (length S.tasks))
      (all_any (λ t. Unit {0}) (below (length S.tasks)) (λ t. tt))))
      (record (still S) { alarms = starting_alarms S mode }) (λ there. clash (sym there)))
