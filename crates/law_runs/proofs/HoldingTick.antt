-- What an instruction and a tick leave of the job that holds a resource, and of the resource's words.
use Rattle.std.proofs.Common.{◌≡◌, ℕ, Bool, true, false, cond, ◌&&◌, ◌||◌, List, [], ◌∷◌, ◌++◌, refl, sym, ◌∙◌, ap, subst}
use Rattle.std.specs.Prelude.{Option, Some, None}
use Rattle.std.specs.List.{list_any}
use Rattle.std.proofs.lemmas.List.Folds.{list_any-append}
use Rattle.osek_base.specs.declared.ids.ResId.{ResId}
use Rattle.osek_base.specs.declared.ids.Owner.{Owner}
use Rattle.osek_base.specs.declared.status.Status.{Status}
use Rattle.osek_base.specs.declared.instr.Service.{Service}
use Rattle.osek_base.specs.Types.{ServiceCall}
use Rattle.osek_base.specs.declared.instr.Control.{Control}
use Rattle.osek_base.specs.declared.instr.Instr.{Instr}
use Rattle.osek_base.specs.declared.trace_event.Results.{Results}
use Rattle.osek_base.specs.declared.trace_event.Outcome.{Outcome}
use Rattle.osek_base.specs.declared.trace_event.Source.{Source}
use Rattle.osek_base.specs.declared.trace_event.TraceEvent.{TraceEvent}
use Rattle.osek_base.specs.System.{System, alarm, instruction_at}
use Rattle.osek_base.specs.Instruction.{Context, plain, next}
use Rattle.osek_base.specs.State.{Job, JobId, State, same_id, may_dispatch, words_after, shared_window}
use Rattle.osek_base.specs.Alarm.{due_alarms, alarms_advanced}
use Rattle.osek_base.specs.Choice.{choice}
use Rattle.osek_base.specs.Reschedule.{entered, jobs_entered, switched, with_dispatch_of, reschedule}
use Rattle.osek_base.specs.Service.{Caller, JobCalls, RoutineCalls, NobodyCalls, caller_holds, service, controlled}
use Rattle.osek_base.specs.Blocker.{calling_job, is_number}
use Rattle.osek_base.specs.Tick.{at_values, action_call, alarm_acts, alarms_act, alarm_phase, arrival_phase, start_phase, answered, error_record, shutdown_record, executed, caller_executes, executor, execute_phase, Step, before_execution, from_execution, last_phase, tick}
use Rattle.osek_base.specs.Trace.{with_earlier}
use Rattle.osek_base.specs.Laws.{is_get, is_release, is_store, tells, does}
use Rattle.osek_base.specs.Proper.{IsProper}
use Rattle.law_runs.proofs.Lists.{clash}
use Rattle.law_runs.proofs.Foremost.{equal}
use Rattle.law_runs.proofs.Known.{executor_calls}
use Rattle.law_runs.proofs.Single.{IsSingle}
use Rattle.law_runs.proofs.SingleMoves.{reschedule_single}
use Rattle.law_runs.proofs.SingleTick.{alarm_phase_single, start_single}
use Rattle.law_runs.proofs.Records.{is_executed, NoneExecuted, none_error, none_shutdown, none_before, none_last}
use Rattle.law_runs.proofs.Holding.{IsHolder, plain_holder, with_context_holder, IsSoleCaller, sole_caller, holding_caller}
use Rattle.law_runs.proofs.HoldingService.{service_holder, unasked_holder, service_window, unasked_window, service_got}
use Rattle.std.proofs.lemmas.Bool.{and_parts, and_from, or_left}

-- ---- what records tell

-- whether the caller is the job of that id, and some records tell of such a service
abbrev pub says : (ServiceCall → Bool) → JobId → Caller → List TraceEvent → Bool
says test n c events = is_number n (calling_job c) && list_any (tells test) events

module _ (test : ServiceCall → Bool) where
  told_not : (e : TraceEvent) → is_executed e ≡ false → tells test e ≡ false
  told_not (TraceEvent.Executed who place what outcome) h = clash h
  told_not _ h = refl

  told_none : (events : List TraceEvent) → NoneExecuted events → list_any (tells test) events ≡ false
  told_none [] none = refl
  told_none (e ∷ events) none = ap (λ b. b || list_any (tells test) events) (told_not e none.0) ∙ told_none events none.1

  or_false : (b : Bool) → (b || false) ≡ b
  or_false true = refl
  or_false false = refl

  told_behind : (xs ys : List TraceEvent) → NoneExecuted xs → list_any (tells test) (xs ++ ys) ≡ list_any (tells test) ys
  told_behind xs ys none = list_any-append (tells test) xs ys ∙ ap (λ b. b || list_any (tells test) ys) (told_none xs none)

  told_before : (xs ys : List TraceEvent) → NoneExecuted ys → list_any (tells test) (xs ++ ys) ≡ list_any (tells test) xs
  told_before xs ys none =
      list_any-append (tells test) xs ys ∙ ap (λ b. list_any (tells test) xs || b) (told_none ys none)
      ∙ or_false (list_any (tells test) xs)

  -- a record that tells of a service tells of E_OK
  told_ok : (who : Owner) (place : ℕ) (call : ServiceCall) (status : Status) (found : Results)
      → tells test (TraceEvent.Executed who place (Instr.Service call) (Outcome.Answer status found)) ≡ true
      → (status ≡ Status.Ok) × (test call ≡ true)
  told_ok who place call Status.Ok found h = (refl, h)
  told_ok who place call _ found h = clash (sym h)

  says_ok : (n : JobId) (c : Caller) (who : Owner) (place : ℕ) (call : ServiceCall) (status : Status) (found : Results)
      (rest : List TraceEvent)
      → is_number n (calling_job c) ≡ true → status ≡ Status.Ok → test call ≡ true
      → says test n c (TraceEvent.Executed who place (Instr.Service call) (Outcome.Answer status found) ∷ rest) ≡ true
  says_ok n c who place call status found rest number ok h =
      let record_of : Status → TraceEvent = λ e. TraceEvent.Executed who place (Instr.Service call) (Outcome.Answer e found) in
      and_from (is_number n (calling_job c)) (list_any (tells test) (record_of status ∷ rest)) number
      (or_left (tells test (record_of status)) (list_any (tells test) rest)
      (subst (λ e. tells test (record_of e) ≡ true) (sym ok) h))

-- ---- the service that an instruction calls

got_call : (r : ℕ) (call : ServiceCall) → is_get r call ≡ true → call ≡ Service.GetResource (Some (ResId.Declared r))
got_call r (Service.GetResource (Some (ResId.Declared q))) h =
    ap (λ m. Service.GetResource (Some (ResId.Declared m))) (equal q r h)
got_call r _ h = clash (sym h)

release_at : (r : ℕ) (x : Context) (call : ServiceCall) → is_release r (at_values x call) ≡ is_release r call
release_at r x (Service.SetRelAlarm a y z) = refl
release_at r x (Service.SetAbsAlarm a y z) = refl
release_at r x (Service.LoadShared q i) = refl
release_at r x (Service.StoreShared q i v) = refl
release_at r x _ = refl

store_at : (r : ℕ) (x : Context) (call : ServiceCall) → is_store r (at_values x call) ≡ is_store r call
store_at r x (Service.StoreShared None i v) = refl
store_at r x (Service.StoreShared (Some (ResId.Declared q)) i v) = refl
store_at r x (Service.StoreShared (Some ResId.Scheduler) i v) = refl
store_at r x (Service.SetRelAlarm a y z) = refl
store_at r x (Service.SetAbsAlarm a y z) = refl
store_at r x (Service.LoadShared q i) = refl
store_at r x _ = refl

-- ---- one instruction

controlled_holder : (r : ResId) (n : JobId) (control : Control ℕ) (s : State) → IsHolder r n s.jobs
    → IsHolder r n (controlled control s).jobs
controlled_holder r n Control.DisableAllInterrupts s holder = holder
controlled_holder r n _ s holder = holder

controlled_window : (r : ℕ) (control : Control ℕ) (s : State)
    → shared_window (controlled control s).shared r ≡ shared_window s.shared r
controlled_window r Control.DisableAllInterrupts s = refl
controlled_window r _ s = refl

module _ (S : System) (r : ℕ) (n : JobId) where
  -- the job of that id holds the resource alone
  abbrev pub IsHeld : State → Type 0
  IsHeld s = IsHolder (ResId.Declared r) n s.jobs

  executed_holder : (who : Owner) (c : Caller) (x : Context) (what : Instr) (s : State) → IsSoleCaller s c → IsHeld s
      → says (is_release r) n c (executed S who c x what s).events ≡ false → IsHeld (executed S who c x what s).state
  executed_holder who c x (Instr.Plain p) s sole holder h =
      with_context_holder (ResId.Declared r) n c (plain p x (s.words who)).context
      (record s { words = words_after s.words who (plain p x (s.words who)).effect }) holder
  executed_holder who c x (Instr.Service call) s sole holder h =
      let reply = service S c s (at_values x call) in
      with_context_holder (ResId.Declared r) n c (answered reply.status reply.results x) reply.state
      (service_holder S s r n holder c (at_values x call) sole
      (λ ok number release. clash (sym (says_ok (is_release r) n c who x.place call reply.status reply.results
      (error_record S (Source.Owner who) (Instr.Service call) reply.status) number ok
      (sym (release_at r x call) ∙ release)) ∙ h)))
  executed_holder who c x (Instr.Control control) s sole holder h =
      with_context_holder (ResId.Declared r) n c (next x) (controlled control s)
      (controlled_holder (ResId.Declared r) n control s holder)

  executed_window : (who : Owner) (c : Caller) (x : Context) (what : Instr) (s : State)
      → (caller_holds c (ResId.Declared r) ≡ true → is_number n (calling_job c) ≡ true)
      → says (is_store r) n c (executed S who c x what s).events ≡ false
      → shared_window (executed S who c x what s).state.shared r ≡ shared_window s.shared r
  executed_window who c x (Instr.Plain p) s itself h = refl
  executed_window who c x (Instr.Service call) s itself h =
      let reply = service S c s (at_values x call) in
      service_window S s r c (at_values x call)
      (λ ok has store. clash (sym (says_ok (is_store r) n c who x.place call reply.status reply.results
      (error_record S (Source.Owner who) (Instr.Service call) reply.status) (itself has) ok
      (sym (store_at r x call) ∙ store)) ∙ h))
  executed_window who c x (Instr.Control control) s itself h = controlled_window r control s

  got_reply : (j : Job) (s : State) (call : ServiceCall) → call ≡ Service.GetResource (Some (ResId.Declared r))
      → IsSoleCaller s (JobCalls j) → same_id j.id n ≡ true
      → (service S (JobCalls j) s call).status ≡ Status.Ok → IsHeld (service S (JobCalls j) s call).state
  got_reply j s call same sole itself ok =
      subst (λ z. IsHeld (service S (JobCalls j) s z).state) (sym same)
      (service_got S s r n j sole itself (subst (λ z. (service S (JobCalls j) s z).status ≡ Status.Ok) same ok))

  executed_got : (who : Owner) (j : Job) (x : Context) (what : Instr) (s : State) → IsSoleCaller s (JobCalls j)
      → says (is_get r) n (JobCalls j) (executed S who (JobCalls j) x what s).events ≡ true
      → IsHeld (executed S who (JobCalls j) x what s).state
  executed_got who j x (Instr.Plain p) s sole h = clash (sym (and_parts (same_id j.id n) false h).1)
  executed_got who j x (Instr.Service call) s sole h =
      let reply = service S (JobCalls j) s (at_values x call) in
      let one : TraceEvent = TraceEvent.Executed who x.place (Instr.Service call) (Outcome.Answer reply.status reply.results) in
      let errors : List TraceEvent = error_record S (Source.Owner who) (Instr.Service call) reply.status in
      let both = and_parts (same_id j.id n) (list_any (tells (is_get r)) (one ∷ errors)) h in
      let told = told_ok (is_get r) who x.place call reply.status reply.results
      (sym (told_before (is_get r) (one ∷ []) errors
      (none_error S (Source.Owner who) (Instr.Service call) reply.status)
      ∙ or_false (is_get r) (tells (is_get r) one)) ∙ both.1) in
      with_context_holder (ResId.Declared r) n (JobCalls j) (answered reply.status reply.results x) reply.state
      (got_reply j s (at_values x call) (ap (at_values x) (got_call r call told.1)) sole both.0 told.0)
  executed_got who j x (Instr.Control control) s sole h =
      clash (sym (and_parts (same_id j.id n) (list_any (tells (is_get r)) (shutdown_record S control)) h).1
      ∙ told_none (is_get r) (shutdown_record S control) (none_shutdown S control))

  -- ---- who executes

  caller_holder : (c : Caller) (s : State) → IsSoleCaller s c → IsHeld s
      → says (is_release r) n c (caller_executes S c s).events ≡ false
      → IsHeld (caller_executes S c s).state
  caller_holder (JobCalls j) s sole holder h =
      executed_holder (Owner.Task j.id.task) (JobCalls j) j.context
      (instruction_at S (Owner.Task j.id.task) j.context.place) s sole holder h
  caller_holder (RoutineCalls a) s sole holder h =
      executed_holder (Owner.Routine a.routine) (RoutineCalls a) a.context
      (instruction_at S (Owner.Routine a.routine) a.context.place) s sole holder h
  caller_holder NobodyCalls s sole holder h = holder

  caller_window : (c : Caller) (s : State) → IsSoleCaller s c → IsHeld s
      → says (is_store r) n c (caller_executes S c s).events ≡ false
      → shared_window (caller_executes S c s).state.shared r ≡ shared_window s.shared r
  caller_window (JobCalls j) s sole holder h =
      executed_window (Owner.Task j.id.task) (JobCalls j) j.context (instruction_at S (Owner.Task j.id.task) j.context.place) s
      (λ has. holding_caller (ResId.Declared r) n s j holder sole has) h
  caller_window (RoutineCalls a) s sole holder h =
      executed_window (Owner.Routine a.routine) (RoutineCalls a) a.context
      (instruction_at S (Owner.Routine a.routine) a.context.place) s (λ has. clash (sym has)) h
  caller_window NobodyCalls s sole holder h = refl

  caller_got : (c : Caller) (s : State) → IsSoleCaller s c → says (is_get r) n c (caller_executes S c s).events ≡ true
      → IsHeld (caller_executes S c s).state
  caller_got (JobCalls j) s sole h =
      executed_got (Owner.Task j.id.task) j j.context (instruction_at S (Owner.Task j.id.task) j.context.place) s sole h
  caller_got (RoutineCalls a) s sole h = clash (sym h)
  caller_got NobodyCalls s sole h = clash (sym h)

  -- ---- the other phases

  alarms_held : (due : List ℕ) (s : State) → IsHeld s → IsHeld (alarms_act S due s).state
  alarms_held [] s holder = holder
  alarms_held (a ∷ due) s holder =
      alarms_held due (alarm_acts S a s).state (unasked_holder S s r n holder (action_call (alarm S a).action))

  alarm_phase_held : (s : State) → IsHeld s → IsHeld (alarm_phase S s).state
  unfolding alarm_phase
  alarm_phase_held s holder = alarms_held (due_alarms S s) (record s { alarms = alarms_advanced S s }) holder

  entered_held : (o : Option Job) (jobs : List Job) → IsHolder (ResId.Declared r) n jobs
      → IsHolder (ResId.Declared r) n (jobs_entered S o jobs)
  entered_held None jobs holder = holder
  entered_held (Some j) jobs holder = plain_holder (ResId.Declared r) n j.id (entered S) jobs (λ k. refl) (λ k. refl) holder

  reschedule_held : (s : State) → IsHeld s → IsHeld (reschedule S s).state
  unfolding reschedule
  reschedule_held s holder = go (may_dispatch s)
    where
      go : (b : Bool)
          → IsHeld (with_dispatch_of s (cond b (switched S (choice S s.jobs) s) (record { events = []; state = s }))).state
      go true = entered_held (choice S s.jobs) s.jobs holder
      go false = holder

  start_held : (s : State) → IsHeld s → IsHeld (start_phase S s)
  unfolding start_phase
  start_held s holder = holder

  before_held : (arrived : List ℕ) (s : State) → IsHeld s → IsHeld (before_execution S arrived s).state
  before_held arrived s holder =
      start_held (reschedule S (arrival_phase arrived (alarm_phase S s).state)).state
      (reschedule_held (arrival_phase arrived (alarm_phase S s).state) (alarm_phase_held s holder))

  last_phase_held : (s : State) → IsHeld s → IsHeld (last_phase S s).state
  last_phase_held s holder = go s.over
    where
      go : (b : Bool) → IsHeld (cond b (record { events = []; state = s }) (reschedule S s)).state
      go true = holder
      go false = reschedule_held s holder

  alarms_window : (due : List ℕ) (s : State) → shared_window (alarms_act S due s).state.shared r ≡ shared_window s.shared r
  alarms_window [] s = refl
  alarms_window (a ∷ due) s =
      alarms_window due (alarm_acts S a s).state ∙ unasked_window S s r (action_call (alarm S a).action)

  alarm_phase_window : (s : State) → shared_window (alarm_phase S s).state.shared r ≡ shared_window s.shared r
  unfolding alarm_phase
  alarm_phase_window s = alarms_window (due_alarms S s) (record s { alarms = alarms_advanced S s })

  reschedule_window : (s : State) → (reschedule S s).state.shared ≡ s.shared
  unfolding reschedule
  reschedule_window s = refl

  start_window : (s : State) → (start_phase S s).shared ≡ s.shared
  unfolding start_phase
  start_window s = refl

  before_window : (arrived : List ℕ) (s : State)
      → shared_window (before_execution S arrived s).state.shared r ≡ shared_window s.shared r
  before_window arrived s =
      ap (λ w. shared_window w r) (start_window (reschedule S (arrival_phase arrived (alarm_phase S s).state)).state
      ∙ reschedule_window (arrival_phase arrived (alarm_phase S s).state)) ∙ alarm_phase_window s

  last_window : (s : State) → shared_window (last_phase S s).state.shared r ≡ shared_window s.shared r
  last_window s = go s.over
    where
      go : (b : Bool)
          → shared_window (cond b (record { events = []; state = s }) (reschedule S s)).state.shared r
          ≡ shared_window s.shared r
      go true = refl
      go false = ap (λ w. shared_window w r) (reschedule_window s)

  -- ---- a tick

  execute_held : (s : State) → IsSoleCaller s (executor s) → IsHeld s
      → says (is_release r) n (executor s) (execute_phase S s).events ≡ false
      → IsHeld (execute_phase S s).state
  unfolding execute_phase
  execute_held s sole holder h = caller_holder (executor s) s sole holder h

  execute_window : (s : State) → IsSoleCaller s (executor s) → IsHeld s
      → says (is_store r) n (executor s) (execute_phase S s).events ≡ false
      → shared_window (execute_phase S s).state.shared r ≡ shared_window s.shared r
  unfolding execute_phase
  execute_window s sole holder h = caller_window (executor s) s sole holder h

  execute_got : (s : State) → IsSoleCaller s (executor s) → says (is_get r) n (executor s) (execute_phase S s).events ≡ true
      → IsHeld (execute_phase S s).state
  unfolding execute_phase
  execute_got s sole h = caller_got (executor s) s sole h

module _ (S : System) (proper : IsProper S) (arrived : List ℕ) (s : State) (earlier : List TraceEvent)
    (none : NoneExecuted earlier) (single : IsSingle S s) where
  -- the tick, with the records of before
  abbrev pub this_step : Step
  this_step = with_earlier earlier (tick S arrived s)

  abbrev pub ready : State
  ready = (before_execution S arrived s).state

  sole : IsSoleCaller ready (executor ready)
  sole =
      let waked : State = arrival_phase arrived (alarm_phase S s).state in
      sole_caller S ready (executor ready)
      (start_single S proper (reschedule S waked).state (reschedule_single S waked (alarm_phase_single S proper s single)))
      (executor_calls ready)

  does_says : (test : ServiceCall → Bool) (n : JobId)
      → does test n this_step ≡ says test n (executor ready) (execute_phase S ready).events
  unfolding tick
  does_says test n =
      let first : List TraceEvent = (before_execution S arrived s).events in
      let last : List TraceEvent = (last_phase S (execute_phase S ready).state).events in
      ap (λ b. is_number n (calling_job (executor ready)) && b)
      (told_behind test earlier (first ++ (from_execution S ready).events) none
      ∙ told_behind test first (from_execution S ready).events (none_before S arrived s)
      ∙ told_before test (execute_phase S ready).events last (none_last S (execute_phase S ready).state))

  -- a job that doesn't release what it holds still holds it
  pub tick_held : (r : ℕ) (n : JobId) → IsHeld S r n s → does (is_release r) n this_step ≡ false → IsHeld S r n this_step.after
  unfolding tick
  tick_held r n holder h =
      last_phase_held S r n (execute_phase S ready).state
      (execute_held S r n ready sole (before_held S r n arrived s holder) (sym (does_says (is_release r) n) ∙ h))

  -- a job that gets a resource holds it
  pub tick_got : (r : ℕ) (n : JobId) → does (is_get r) n this_step ≡ true → IsHeld S r n this_step.after
  unfolding tick
  tick_got r n h =
      last_phase_held S r n (execute_phase S ready).state (execute_got S r n ready sole (sym (does_says (is_get r) n) ∙ h))

  -- the words of what a job holds stay, unless it stores one itself
  pub tick_window : (r : ℕ) (n : JobId) → IsHeld S r n s → does (is_store r) n this_step ≡ false
      → shared_window this_step.after.shared r ≡ shared_window s.shared r
  unfolding tick
  tick_window r n holder h =
      last_window S r n (execute_phase S ready).state
      ∙ execute_window S r n ready sole (before_held S r n arrived s holder) (sym (does_says (is_store r) n) ∙ h)
      ∙ before_window S r n arrived s
