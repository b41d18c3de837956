-- What the upper part executes in a tick is what its core executes.
use Rattle.std.proofs.Common.{◌≡◌, ℕ, Bool, true, false, cond, List, [], ◌∷◌, ◌++◌, refl, sym, ◌∙◌, ap, ap₂, subst, arith}
use Rattle.std.specs.Prelude.{Option, Some, None}
use Rattle.std.specs.List.{filter_map}
use Rattle.std.specs.Option.{option_map}
use Rattle.std.proofs.lemmas.List.Elements.{filter_map-append}
use Rattle.osek_base.specs.declared.arrivals.Arrival.{Arrival}
use Rattle.osek_base.specs.declared.ids.Owner.{Owner}
use Rattle.osek_base.specs.declared.instr.Instr.{Instr}
use Rattle.osek_base.specs.declared.instr.Control.{Control}
use Rattle.osek_base.specs.declared.status.Status.{Status}
use Rattle.osek_base.specs.declared.trace_event.Outcome.{Outcome}
use Rattle.osek_base.specs.declared.trace_event.Source.{Source}
use Rattle.osek_base.specs.declared.trace_event.TraceEvent.{TraceEvent}
use Rattle.osek_base.specs.Types.{ServiceCall}
use Rattle.osek_base.specs.System.{System, alarm, instruction_at}
use Rattle.osek_base.specs.Instruction.{Context, plain}
use Rattle.osek_base.specs.State.{Job, JobId, Active, State, may_dispatch, same_id, job_of}
use Rattle.osek_base.specs.Choice.{choice}
use Rattle.osek_base.specs.Alarm.{due_alarms, alarms_advanced}
use Rattle.osek_base.specs.Reschedule.{Recorded, hooked, left_record, entered_record, switch_records, switched, with_dispatch_of, reschedule}
use Rattle.osek_base.specs.Service.{Caller, JobCalls, RoutineCalls, NobodyCalls, Reply, service, unasked_service}
use Rattle.osek_base.specs.Tick.{action_call, error_record, alarm_acts, alarms_act, alarm_phase, arrival_phase, at_values, shutdown_record, executed, caller_executes, caller_of, running_caller, job_caller, execute_phase, before_execution, last_phase, tick}
use Rattle.osek_base.specs.Trace.{arriving, run}
use Rattle.osek_base.specs.Upper.{is_upper_owner}
use Rattle.osek_base.specs.Separable.{Separable, asks_task_id}
use Rattle.osek_base.specs.Agree.{renumbered, renumbered_service, upper_core}
use Rattle.osek_base.specs.Proper.{IsProper}
use Rattle.osek_base.proofs.ForemostLemmas.{keep}
use Rattle.partition_check.proofs.UpperState.{up, up_job, up_jobs, is_upper_id, is_upper_job}
use Rattle.partition_check.proofs.Shared.{IsCounterpart, IsLow, IsLayered, IsLayeredJob, IsUpperCaller, IsUpperCall, up_caller}
use Rattle.partition_check.proofs.PriorityUp.{first_tasks}
use Rattle.partition_check.proofs.JobsUp.{same_id_upper, job_of_up}
use Rattle.partition_check.proofs.ServiceUp.{service_up}
use Rattle.partition_check.proofs.ResultsUp.{IsTold}
use Rattle.partition_check.proofs.TextUp.{IsUpperInstr}
use Rattle.partition_check.proofs.ProgramFacts.{upper_task_instr, routine_instr, routine_asks_not}
use Rattle.partition_check.proofs.ExecutedUp.{own_words, at_known, at_lower, at_asks, at_renumbered}
use Rattle.partition_check.proofs.ExecuteUp.{task_instruction, routine_instruction, found, same_ids}
use Rattle.law_upper.specs.ExecutedAbove.{upper_execution, upper_executions}
use Rattle.law_upper.proofs.Sides.{both, below, run_beside}
use Rattle.law_upper.proofs.States.{executing_beside}

-- ---- of the records of a tick, the execute phase's alone tell an instruction

pub record IsOfExecutions {X : Type 0} (f : TraceEvent → Option X) : Type 0 where
  pub pre : (t : ℕ) → f (TraceEvent.Pre t) ≡ None
  pub post : (t : ℕ) → f (TraceEvent.Post t) ≡ None
  pub error : (who : Source) (what : Instr) (status : Status)
      → f (TraceEvent.Error who what status) ≡ None
  pub shutdown : (n : ℕ) → f (TraceEvent.Shutdown n) ≡ None

module _ {X : Type 0} (f : TraceEvent → Option X) (only : IsOfExecutions f) (S : System) where
  abbrev pub told : List TraceEvent → List X
  told events = filter_map f events

  none_hooked : (on : Bool) (e : TraceEvent) → f e ≡ None → told (hooked on e) ≡ []
  none_hooked true e h = rw h refl
  none_hooked false e h = refl

  none_both : (xs ys : List TraceEvent) → told xs ≡ [] → told ys ≡ [] → told (xs ++ ys) ≡ []
  none_both xs ys one two = filter_map-append f xs ys ∙ ap₂ (λ (x y : List X). x ++ y) one two

  pub error_none : (who : Source) (what : Instr) (status : Status)
      → told (error_record S who what status) ≡ []
  error_none who what Status.Ok = refl
  error_none who what Status.Access =
      none_hooked S.hooks.error (TraceEvent.Error who what Status.Access)
      (only.error who what Status.Access)
  error_none who what Status.CallLevel =
      none_hooked S.hooks.error (TraceEvent.Error who what Status.CallLevel)
      (only.error who what Status.CallLevel)
  error_none who what Status.Id =
      none_hooked S.hooks.error (TraceEvent.Error who what Status.Id)
      (only.error who what Status.Id)
  error_none who what Status.Limit =
      none_hooked S.hooks.error (TraceEvent.Error who what Status.Limit)
      (only.error who what Status.Limit)
  error_none who what Status.NoFunc =
      none_hooked S.hooks.error (TraceEvent.Error who what Status.NoFunc)
      (only.error who what Status.NoFunc)
  error_none who what Status.Resource =
      none_hooked S.hooks.error (TraceEvent.Error who what Status.Resource)
      (only.error who what Status.Resource)
  error_none who what Status.State =
      none_hooked S.hooks.error (TraceEvent.Error who what Status.State)
      (only.error who what Status.State)
  error_none who what Status.Value =
      none_hooked S.hooks.error (TraceEvent.Error who what Status.Value)
      (only.error who what Status.Value)
  error_none who what Status.SysDisabled =
      none_hooked S.hooks.error (TraceEvent.Error who what Status.SysDisabled)
      (only.error who what Status.SysDisabled)

  pub shutdown_none : (control : Control ℕ) → told (shutdown_record S control) ≡ []
  shutdown_none (Control.ShutdownOs n) =
      none_hooked S.hooks.shutdown (TraceEvent.Shutdown n) (only.shutdown n)
  shutdown_none _ = refl

  left_none : (old : JobId) → told (left_record S (Some old)) ≡ []
  left_none old = none_hooked S.hooks.post_task (TraceEvent.Post old.task) (only.post old.task)

  entered_none : (new : JobId) → told (entered_record S (Some new)) ≡ []
  entered_none new = none_hooked S.hooks.pre_task (TraceEvent.Pre new.task) (only.pre new.task)

  switch_none : (old new : Option JobId) → told (switch_records S old new) ≡ []
  switch_none None None = refl
  switch_none None (Some new) = entered_none new
  switch_none (Some old) None = left_none old
  switch_none (Some old) (Some new) = go (same_id old new)
    where
      go : (b : Bool) → told (cond b [] (left_record S (Some old) ++ entered_record S (Some new)))
          ≡ []
      go true = refl
      go false =
          none_both (left_record S (Some old)) (entered_record S (Some new)) (left_none old)
          (entered_none new)

  reschedule_none : (s : State) → told (reschedule S s).events ≡ []
  unfolding reschedule
  reschedule_none s = go (may_dispatch s)
    where
      go : (b : Bool) → told
          (with_dispatch_of s (cond b (switched S (choice S s.jobs) s)
          (record { events = []; state = s }))).events ≡ []
      go true = switch_none s.running _
      go false = refl

  last_none : (s : State) → told (last_phase S s).events ≡ []
  last_none s = go s.over
    where
      go : (b : Bool) → told (cond b (record { events = []; state = s }) (reschedule S s)).events
          ≡ []
      go true = refl
      go false = reschedule_none s

  alarms_none : (due : List ℕ) (s : State) → told (alarms_act S due s).events ≡ []
  alarms_none [] s = refl
  alarms_none (a ∷ due) s =
      none_both (alarm_acts S a s).events (alarms_act S due (alarm_acts S a s).state).events
      (error_none (Source.Alarm a) (Instr.Service (action_call (alarm S a).action))
      (unasked_service S NobodyCalls s (action_call (alarm S a).action)).status)
      (alarms_none due (alarm_acts S a s).state)

  alarm_none : (s : State) → told (alarm_phase S s).events ≡ []
  unfolding alarm_phase
  alarm_none s = alarms_none (due_alarms S s) (record s { alarms = alarms_advanced S s })

  joined : (xs ys zs us : List TraceEvent) → told xs ≡ [] → told ys ≡ [] → told us ≡ []
      → told ((xs ++ ys) ++ (zs ++ us)) ≡ told zs
  joined xs ys zs us h k l =
      filter_map-append f (xs ++ ys) (zs ++ us)
      ∙ ap₂ (λ (a b : List X). a ++ b) (none_both xs ys h k)
      (filter_map-append f zs us ∙ ap (λ (b : List X). told zs ++ b) l ∙ nothing (told zs))
    where
      nothing : (zs : List X) → zs ++ [] ≡ zs
      nothing [] = refl
      nothing (z ∷ zs) = ap (λ rest. z ∷ rest) (nothing zs)

  pub tick_tells : (arrived : List ℕ) (s : State)
      → told (tick S arrived s).events ≡ told (execute_phase S (tick S arrived s).executing).events
  unfolding tick
  tick_tells arrived s =
      joined (alarm_phase S s).events
      (reschedule S (arrival_phase arrived (alarm_phase S s).state)).events
      (execute_phase S (before_execution S arrived s).state).events
      (last_phase S (execute_phase S (before_execution S arrived s).state).state).events
      (alarm_none s) (reschedule_none (arrival_phase arrived (alarm_phase S s).state))
      (last_none (execute_phase S (before_execution S arrived s).state).state)

-- ---- the core executes upper owners alone, at the new numbers

abbrev pub core_execution : TraceEvent → Option TraceEvent
core_execution (TraceEvent.Executed who place what outcome) =
    Some (TraceEvent.Executed who place what outcome)
core_execution _ = None

of_core : IsOfExecutions core_execution
of_core =
    record {
      pre = λ t. refl;
      post = λ t. refl;
      error = λ who what status. refl;
      shutdown = λ n. refl;
    }

pub of_system : (S : System) (p : ℕ) → IsOfExecutions (upper_execution S p)
of_system S p =
    record {
      pre = λ t. refl;
      post = λ t. refl;
      error = λ who what status. refl;
      shutdown = λ n. refl;
    }

abbrev pub ExecuteOne : System → ℕ → Recorded → Recorded → Type 0
ExecuteOne S p mine theirs =
    upper_executions S p mine.events ≡ filter_map core_execution theirs.events

one_upper : (S : System) (p : ℕ) (who : Owner) (place : ℕ) (what : Instr) (outcome other : Outcome)
    (rest rest' : List TraceEvent)
    → is_upper_owner S p who ≡ true → outcome ≡ other → upper_executions S p rest ≡ []
    → filter_map core_execution rest' ≡ []
    → upper_executions S p (TraceEvent.Executed who place what outcome ∷ rest)
    ≡ filter_map core_execution (TraceEvent.Executed who place (renumbered S p what) other ∷ rest')
one_upper S p who place what outcome other rest rest' high same none none' =
    rw (high, none, none')
    (ap (λ o. TraceEvent.Executed who place (renumbered S p what) o ∷ []) same)

one_lower : (S : System) (p : ℕ) (who : Owner) (place : ℕ) (what : Instr) (outcome : Outcome)
    (rest : List TraceEvent)
    → is_upper_owner S p who ≡ false → upper_executions S p rest ≡ []
    → upper_executions S p (TraceEvent.Executed who place what outcome ∷ rest) ≡ []
one_lower S p who place what outcome rest low none = rw (low, none) refl

module _ (S : System) (p : ℕ) (both : IsCounterpart S p) (below : IsLow S p) (proper : IsProper S)
    (separable : Separable S p)
    (s : State) (layered : IsLayered S p s) where
  -- ---- an upper owner

  module _ (who : Owner) (c : Caller) (x : Context) (high : is_upper_owner S p who ≡ true)
      (upper : IsUpperCaller S p s c)
      (told_id : (call : ServiceCall) → IsTold c call) where
    pub upper_one : (what : Instr) → IsUpperInstr S p what
        → ((a : Active) → c ≡ RoutineCalls a → asks_task_id what ≡ false)
        → ExecuteOne S p (executed S who c x what s)
        (executed (upper_core S p) who (up_caller S p c) x (renumbered S p what) (up S p s))
    upper_one (Instr.Plain act) named by_routine =
        one_upper S p who x.place (Instr.Plain act)
        (Outcome.Plain (plain act x (s.words who)).effect)
        (Outcome.Plain (plain act x ((up S p s).words who)).effect) [] []
        high (ap (λ w. Outcome.Plain (plain act x w).effect)
        (sym (own_words S p s.words who high))) refl refl
    upper_one (Instr.Control control) named by_routine =
        one_upper S p who x.place (Instr.Control control) Outcome.Control Outcome.Control
        (shutdown_record S control) (shutdown_record (upper_core S p) control)
        high refl (shutdown_none (upper_execution S p) (of_system S p) S control)
        (shutdown_none core_execution of_core (upper_core S p) control)
    upper_one (Instr.Service call) named by_routine =
        let may : IsUpperCall S p c (at_values x call) =
        record {
          known = at_known S x call named.known;
          names = at_lower S p x call ∙ named.names;
          by_routine = λ a e. at_asks x call ∙ by_routine a e;
        } in
        let same = service_up S p both below s c (at_values x call) layered upper may
        (told_id (at_values x call)) in
        let theirs : Reply = service (upper_core S p) (up_caller S p c) (up S p s)
        (at_values x (renumbered_service S p call)) in
        let mine : Reply = service S c s (at_values x call) in
        let status : theirs.status ≡ mine.status =
        ap (λ q. (service (upper_core S p) (up_caller S p c) (up S p s) q).status)
        (at_renumbered S p x call) ∙ same.status in
        let results : theirs.results ≡ mine.results =
        ap (λ q. (service (upper_core S p) (up_caller S p c) (up S p s) q).results)
        (at_renumbered S p x call) ∙ same.results in
        one_upper S p who x.place (Instr.Service call) (Outcome.Answer mine.status mine.results)
        (Outcome.Answer theirs.status theirs.results)
        (error_record S (Source.Owner who) (Instr.Service call) mine.status)
        (error_record (upper_core S p) (Source.Owner who)
        (Instr.Service (renumbered_service S p call)) theirs.status)
        high (ap₂ (λ a b. Outcome.Answer a b) (sym status) (sym results))
        (error_none (upper_execution S p) (of_system S p) S (Source.Owner who)
        (Instr.Service call) mine.status)
        (error_none core_execution of_core (upper_core S p) (Source.Owner who)
        (Instr.Service (renumbered_service S p call)) theirs.status)

  -- ---- a lower one

  lower_one : (j : Job) (x : Context) (what : Instr) → is_upper_job S p j ≡ false
      → upper_executions S p (executed S (Owner.Task j.id.task) (JobCalls j) x what s).events ≡ []
  lower_one j x (Instr.Plain act) low =
      one_lower S p (Owner.Task j.id.task) x.place (Instr.Plain act)
      (Outcome.Plain (plain act x (s.words (Owner.Task j.id.task))).effect) [] low refl
  lower_one j x (Instr.Control control) low =
      one_lower S p (Owner.Task j.id.task) x.place (Instr.Control control) Outcome.Control
      (shutdown_record S control) low
      (shutdown_none (upper_execution S p) (of_system S p) S control)
  lower_one j x (Instr.Service call) low =
      let mine : Reply = service S (JobCalls j) s (at_values x call) in
      one_lower S p (Owner.Task j.id.task) x.place (Instr.Service call)
      (Outcome.Answer mine.status mine.results)
      (error_record S (Source.Owner (Owner.Task j.id.task)) (Instr.Service call) mine.status) low
      (error_none (upper_execution S p) (of_system S p) S (Source.Owner (Owner.Task j.id.task))
      (Instr.Service call) mine.status)

  -- ---- by who executes

  routine_one : (a : Active)
      → ExecuteOne S p (caller_executes S (RoutineCalls a) s)
      (caller_executes (upper_core S p) (RoutineCalls a) (up S p s))
  routine_one a =
      subst (λ what. ExecuteOne S p (caller_executes S (RoutineCalls a) s)
      (executed (upper_core S p) (Owner.Routine a.routine) (RoutineCalls a) a.context what
      (up S p s)))
      (sym (routine_instruction S p both a.routine a.context.place))
      (upper_one (Owner.Routine a.routine) (RoutineCalls a) a.context refl tt (λ call. tt)
      (instruction_at S (Owner.Routine a.routine) a.context.place)
      (routine_instr S p proper separable a.routine a.context.place)
      (λ b e. routine_asks_not S p proper separable a.routine a.context.place))

  task_one : (j : Job) → IsLayeredJob S p j → is_upper_job S p j ≡ true → s.running ≡ Some j.id
      → ExecuteOne S p (caller_executes S (JobCalls j) s)
      (caller_executes (upper_core S p) (JobCalls (up_job S p j)) (up S p s))
  task_one j laid high runs =
      subst (λ what. ExecuteOne S p (caller_executes S (JobCalls j) s)
      (executed (upper_core S p) (Owner.Task j.id.task) (JobCalls (up_job S p j)) j.context what
      (up S p s)))
      (sym (task_instruction S p both j.id.task j.context.place
      (first_tasks S p both j.id.task laid.task high)))
      (upper_one (Owner.Task j.id.task) (JobCalls j) j.context high (laid, high, runs) (λ call. tt)
      (instruction_at S (Owner.Task j.id.task) j.context.place)
      (upper_task_instr S p proper separable j.id.task j.context.place laid.task high)
      (λ b e. absurd (grind arith)))

  job_upper : (r : JobId) → s.running ≡ Some r → is_upper_id S p r ≡ true → (o : Option Job)
      → job_of r s.jobs ≡ o
      → ExecuteOne S p (caller_executes S (job_caller o) s)
      (caller_executes (upper_core S p) (job_caller (option_map (up_job S p) o)) (up S p s))
  job_upper r runs high None e = refl
  job_upper r runs high (Some j) e =
      let here = found (IsLayeredJob S p) (λ k. same_id k.id r) s.jobs j layered.jobs e in
      task_one j here.0 (same_id_upper S p j.id r here.1 ∙ high)
      (runs ∙ ap Some (sym (same_ids j.id r here.1)))

  job_lower : (r : JobId) → is_upper_id S p r ≡ false → (o : Option Job) → job_of r s.jobs ≡ o
      → ExecuteOne S p (caller_executes S (job_caller o) s)
      (caller_executes (upper_core S p) NobodyCalls (up S p s))
  job_lower r low None e = refl
  job_lower r low (Some j) e =
      let here = found (IsLayeredJob S p) (λ k. same_id k.id r) s.jobs j layered.jobs e in
      lower_one j j.context (instruction_at S (Owner.Task j.id.task) j.context.place)
      (same_id_upper S p j.id r here.1 ∙ low)

  runner_one : (running : Option JobId) → s.running ≡ running
      → ExecuteOne S p (caller_executes S (running_caller running s.jobs) s)
      (caller_executes (upper_core S p)
      (running_caller (keep (is_upper_id S p) running) (up_jobs S p s.jobs)) (up S p s))
  runner_one None runs = refl
  runner_one (Some r) runs = go (is_upper_id S p r) refl
    where
      go : (b : Bool) → is_upper_id S p r ≡ b
          → ExecuteOne S p (caller_executes S (running_caller (Some r) s.jobs) s)
          (caller_executes (upper_core S p)
          (running_caller (cond b (Some r) None) (up_jobs S p s.jobs)) (up S p s))
      go true high =
          subst (λ o. ExecuteOne S p (caller_executes S (running_caller (Some r) s.jobs) s)
          (caller_executes (upper_core S p) (job_caller o) (up S p s)))
          (sym (job_of_up S p r s.jobs high)) (job_upper r runs high (job_of r s.jobs) refl)
      go false low = job_lower r low (job_of r s.jobs) refl

  active_one : (active : Option Active) → s.active ≡ active
      → ExecuteOne S p (caller_executes S (caller_of active s.running s.jobs) s)
      (caller_executes (upper_core S p)
      (caller_of active (keep (is_upper_id S p) s.running) (up_jobs S p s.jobs)) (up S p s))
  active_one None e = runner_one s.running refl
  active_one (Some a) e = routine_one a

  pub phase_one : ExecuteOne S p (execute_phase S s) (execute_phase (upper_core S p) (up S p s))
  unfolding execute_phase
  phase_one = active_one s.active refl

-- ---- a tick

pub tick_one : (S : System) (p : ℕ) (proper : IsProper S) (separable : Separable S p) (mode : ℕ)
    (arrivals : List Arrival) (n : ℕ)
    → upper_executions S p (tick S (arriving arrivals n) (run S mode arrivals n).state).events
    ≡ filter_map core_execution
    (tick (upper_core S p) (arriving arrivals n)
    (run (upper_core S p) mode arrivals n).state).events
tick_one S p proper separable mode arrivals n =
    let C : System = upper_core S p in
    let arrived : List ℕ = arriving arrivals n in
    let beside = executing_beside S p proper separable arrived (run S mode arrivals n).state
    (run C mode arrivals n).state (run_beside S p proper separable mode arrivals n) in
    tick_tells (upper_execution S p) (of_system S p) S arrived (run S mode arrivals n).state
    ∙ phase_one S p (both S p proper separable) (below S p proper separable) proper separable
    (tick S arrived (run S mode arrivals n).state).executing beside.layered
    ∙ ap (λ x. filter_map core_execution (execute_phase C x).events) (sym beside.state)
    ∙ sym (tick_tells core_execution of_core C arrived (run C mode arrivals n).state)
