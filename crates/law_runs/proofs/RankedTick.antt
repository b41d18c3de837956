-- Boot, each tick and so each run keep who comes before whom.
use Rattle.std.proofs.Common.{◌≡◌, ℕ, ◌<◌, ◌⊎◌, inl, inr, Bool, true, false, cond, not, ◌&&◌, List, [], ◌∷◌, length, refl, sym, ◌∙◌, subst}
use Rattle.std.specs.Prelude.{Option, Some, None, is_some}
use Rattle.std.specs.Option.{option_map}
use Rattle.std.specs.List.{AllByRecursion}
use Rattle.osek_base.specs.declared.ids.Owner.{Owner}
use Rattle.osek_base.specs.declared.task.Action.{Action}
use Rattle.osek_base.specs.Types.{ServiceCall}
use Rattle.osek_base.specs.declared.instr.Control.{Control}
use Rattle.osek_base.specs.declared.instr.Instr.{Instr}
use Rattle.osek_base.specs.declared.arrivals.Arrival.{Arrival}
use Rattle.osek_base.specs.Lists.{below}
use Rattle.osek_base.specs.System.{System, alarm}
use Rattle.osek_base.specs.Instruction.{Context, plain, next}
use Rattle.osek_base.specs.State.{Job, State, Active, words_after, may_dispatch, interrupts_off}
use Rattle.osek_base.specs.Alarm.{is_due, due_alarms, alarms_advanced}
use Rattle.osek_base.specs.Activation.{activated}
use Rattle.osek_base.specs.Reschedule.{reschedule}
use Rattle.osek_base.specs.Service.{Caller, JobCalls, RoutineCalls, NobodyCalls, service, unasked_service, controlled}
use Rattle.osek_base.specs.Tick.{at_values, action_call, alarm_acts, alarms_act, alarm_phase, arrival_phase, routine_choice, routine_started, with_start_of, start_phase, job_moved, moved as active_moved_by, with_context, answered, executed, caller_executes, executor, execute_phase, before_execution, last_phase, tick}
use Rattle.osek_base.specs.Trace.{boot, all_activated, starting_tasks, run}
use Rattle.osek_base.specs.Proper.{IsProper}
use Rattle.law_runs.proofs.Lists.{clash, all_kept}
use Rattle.law_runs.proofs.Known.{IsCaller, ActivatesKnown, executor_calls, all_below}
use Rattle.law_runs.proofs.Single.{IsSingle}
use Rattle.law_runs.proofs.SingleService.{unasked_single}
use Rattle.law_runs.proofs.SingleTick.{alarm_known, start_single, execute_single, activated_running, begun, started_keep, first_single, begun_single, every_run}
use Rattle.law_runs.proofs.SingleMoves.{reschedule_single}
use Rattle.law_runs.proofs.Ranked.{AreRanked, HasReady, HasDispatched}
use Rattle.law_runs.proofs.RankedMoves.{IsOrdered, IsReadyOrDue, IsAfterReschedule, moved_ranked, same_ready, activated_ordered, reschedule_ordered}
use Rattle.law_runs.proofs.RankedService.{IsLeft, service_left, action_ordered}

-- jobs single, ranked, and the running one ready
pub record IsRunState (S : System) (s : State) : Type 0 where
  pub single : IsSingle S s
  pub ordered : IsOrdered S s.running s.jobs

-- ---- what stays

over_alarms_act : (S : System) (due : List ℕ) (s : State) → (alarms_act S due s).state.over ≡ s.over
unfolding unasked_service
over_alarms_act S [] s = refl
over_alarms_act S (a ∷ due) s = over_alarms_act S due (alarm_acts S a s).state

over_alarm_phase : (S : System) (s : State) → (alarm_phase S s).state.over ≡ s.over
unfolding alarm_phase
over_alarm_phase S s = over_alarms_act S (due_alarms S s) (record s { alarms = alarms_advanced S s })

over_reschedule : (S : System) (s : State) → (reschedule S s).state.over ≡ s.over
unfolding reschedule
over_reschedule S s = refl

may_reschedule : (S : System) (s : State) → may_dispatch (reschedule S s).state ≡ may_dispatch s
unfolding reschedule
may_reschedule S s = refl

over_start : (S : System) (s : State) → (start_phase S s).over ≡ s.over
unfolding start_phase
over_start S s = refl

pub over_before : (S : System) (arrived : List ℕ) (s : State) → (before_execution S arrived s).state.over ≡ s.over
over_before S arrived s = over_start S _ ∙ over_reschedule S _ ∙ over_alarm_phase S s

-- a routine starts only where a job might be dispatched
pub may_start : (S : System) (s : State) → may_dispatch (start_phase S s) ≡ true → may_dispatch s ≡ true
unfolding start_phase
may_start S s h = go (may_dispatch s) refl h
  where
    go : (b : Bool) → may_dispatch s ≡ b → may_dispatch (with_start_of s (cond b (routine_started (routine_choice S s) s) s)) ≡ true → may_dispatch s ≡ true
    go true e k = e
    go false e k = k

module _ (S : System) (proper : IsProper S) where
  -- ---- phases 1 to 4

  running_unasked : (s : State) (call : ServiceCall) → (unasked_service S NobodyCalls s call).state.running ≡ s.running
  unfolding unasked_service
  running_unasked s call = refl

  pub action_run : (s : State) (act : Action) → ActivatesKnown S (action_call act) → IsRunState S s → IsRunState S (unasked_service S NobodyCalls s (action_call act)).state
  action_run s act known good = record {
    single = unasked_single S s good.single NobodyCalls (action_call act) proper tt known;
    ordered = subst (λ o. IsOrdered S o (unasked_service S NobodyCalls s (action_call act)).state.jobs) (sym (running_unasked s (action_call act)))
        (action_ordered S s good.single good.ordered act);
  }

  alarms_ordered : (due : List ℕ) → AllByRecursion (λ a. a < length S.alarms) due → (s : State) → IsRunState S s → IsRunState S (alarms_act S due s).state
  alarms_ordered [] all s good = good
  alarms_ordered (a ∷ due) all s good =
      alarms_ordered due all.1 (alarm_acts S a s).state (action_run s (alarm S a).action (alarm_known S a proper all.0) good)

  pub alarm_phase_ordered : (s : State) → IsRunState S s → IsRunState S (alarm_phase S s).state
  unfolding alarm_phase
  alarm_phase_ordered s good =
      alarms_ordered (due_alarms S s) (all_kept (λ a. a < length S.alarms) (is_due S s) (below (length S.alarms)) (all_below (length S.alarms)))
      (record s { alarms = alarms_advanced S s }) (record { single = good.single; ordered = good.ordered })

  start_ordered : (s : State) → IsOrdered S s.running s.jobs → IsOrdered S (start_phase S s).running (start_phase S s).jobs
  unfolding start_phase
  start_ordered s ordered = ordered

  start_dispatched : (s : State) → HasDispatched S s.running s.jobs → HasDispatched S (start_phase S s).running (start_phase S s).jobs
  unfolding start_phase
  start_dispatched s dispatched = dispatched

  -- the state in which the instruction of a tick is executed
  pub record IsExecuting (s : State) : Type 0 where
    pub good : IsRunState S s
    pub dispatched : may_dispatch s ≡ true → HasDispatched S s.running s.jobs

  pub before_executing : (arrived : List ℕ) (s : State) → IsRunState S s → IsExecuting (before_execution S arrived s).state
  before_executing arrived s good = record {
    good = record {
      single = start_single S proper there (reschedule_single S waked waked_good.single);
      ordered = start_ordered there after.ordered;
    };
    dispatched = λ may. start_dispatched there (after.dispatched (sym (may_reschedule S waked) ∙ may_start S there may));
  }
    where
      waked : State
      waked = arrival_phase arrived (alarm_phase S s).state

      there : State
      there = (reschedule S waked).state

      waked_good : IsRunState S waked
      waked_good = let h : IsRunState S (alarm_phase S s).state = alarm_phase_ordered s good in record { single = h.single; ordered = h.ordered }

      after : IsAfterReschedule S waked there
      after = reschedule_ordered S waked waked_good.single waked_good.ordered.ranked (inl waked_good.ordered.ready)

  -- ---- phase 5

  -- what an instruction leaves: the running job is ready, or a reschedule comes
  pub record IsExecuted (s : State) (e : State) : Type 0 where
    pub ranked : AreRanked S e.running e.jobs
    pub ready : HasReady e.running e.jobs ⊎ ((may_dispatch e ≡ true) × (e.over ≡ s.over))

  moved : (c : Caller) (x : Context) (s e : State) → IsExecuted s e → IsExecuted s (with_context c x e)
  moved (JobCalls j) x s e h = record {
    ranked = moved_ranked S j.id x e.running e.jobs h.ranked;
    ready = go h.ready;
  }
    where
      go : HasReady e.running e.jobs ⊎ ((may_dispatch e ≡ true) × (e.over ≡ s.over))
          → HasReady (with_context (JobCalls j) x e).running (with_context (JobCalls j) x e).jobs ⊎ ((may_dispatch e ≡ true) × (e.over ≡ s.over))
      go (inl here) = inl (same_ready S j.id (job_moved x) e.running e.jobs (λ k. refl) (λ k. refl) here)
      go (inr due) = inr due
  moved (RoutineCalls a) x s e h = record { ranked = h.ranked; ready = go h.ready }
    where
      still_due : (o : Option Active) (off : Bool) → (not (is_some o) && not off) ≡ true → (not (is_some (option_map (active_moved_by x) o)) && not off) ≡ true
      still_due None off k = k
      still_due (Some b) off k = clash (sym k)

      go : HasReady e.running e.jobs ⊎ ((may_dispatch e ≡ true) × (e.over ≡ s.over))
          → HasReady e.running e.jobs ⊎ ((may_dispatch (with_context (RoutineCalls a) x e) ≡ true) × (e.over ≡ s.over))
      go (inl here) = inl here
      go (inr due) = inr (still_due e.active (interrupts_off e) due.0, due.1)
  moved NobodyCalls x s e h = record { ranked = h.ranked; ready = h.ready }

  controlled_executed : (control : Control ℕ) (s : State) → IsOrdered S s.running s.jobs → IsExecuted s (controlled control s)
  controlled_executed Control.DisableAllInterrupts s h = record { ranked = h.ranked; ready = inl h.ready }
  controlled_executed _ s h = record { ranked = h.ranked; ready = inl h.ready }

  service_executed : (s : State) (c : Caller) (call : ServiceCall) → IsExecuting s → IsCaller s c → IsExecuted s (service S c s call).state
  unfolding service
  service_executed s c call executing calls = record { ranked = h.ranked; ready = go h.ready }
    where
      h : IsLeft S s executing.good.single executing.good.ordered (service S c s call).state
      h = service_left S s executing.good.single executing.good.ordered c call executing.dispatched calls

      go : IsReadyOrDue S s s.running (service S c s call).state.jobs
          → HasReady s.running (service S c s call).state.jobs ⊎ ((may_dispatch s ≡ true) × (s.over ≡ s.over))
      go (inl here) = inl here
      go (inr due) = inr (due, refl)

  executed_left : (who : Owner) (c : Caller) (x : Context) (what : Instr) (s : State) → IsExecuting s → IsCaller s c → IsExecuted s (executed S who c x what s).state
  executed_left who c x (Instr.Plain p) s executing calls =
      moved c (plain p x (s.words who)).context s (record s { words = words_after s.words who (plain p x (s.words who)).effect })
      (record { ranked = executing.good.ordered.ranked; ready = inl executing.good.ordered.ready })
  executed_left who c x (Instr.Service call) s executing calls =
      let r = service S c s (at_values x call) in
      moved c (answered r.status r.results x) s r.state (service_executed s c (at_values x call) executing calls)
  executed_left who c x (Instr.Control control) s executing calls = moved c (next x) s (controlled control s) (controlled_executed control s executing.good.ordered)

  caller_left : (c : Caller) (s : State) → IsExecuting s → IsCaller s c → IsExecuted s (caller_executes S c s).state
  caller_left (JobCalls j) s executing calls = executed_left (Owner.Task j.id.task) (JobCalls j) j.context _ s executing calls
  caller_left (RoutineCalls a) s executing calls = executed_left (Owner.Routine a.routine) (RoutineCalls a) a.context _ s executing calls
  caller_left NobodyCalls s executing calls = record { ranked = executing.good.ordered.ranked; ready = inl executing.good.ordered.ready }

  pub execute_left : (s : State) → IsExecuting s → IsExecuted s (execute_phase S s).state
  unfolding execute_phase
  execute_left s executing = caller_left (executor s) s executing (executor_calls s)

  -- ---- phase 6

  last_ordered : (s e : State) → s.over ≡ false → IsSingle S e → IsExecuted s e → IsRunState S (last_phase S e).state
  last_ordered s e going single h = go e.over refl
    where
      ready_at : HasReady e.running e.jobs ⊎ ((may_dispatch e ≡ true) × (e.over ≡ s.over)) → e.over ≡ true → HasReady e.running e.jobs
      ready_at (inl here) over = here
      ready_at (inr due) over = clash (sym over ∙ due.1 ∙ going)

      due_at : HasReady e.running e.jobs ⊎ ((may_dispatch e ≡ true) × (e.over ≡ s.over)) → IsReadyOrDue S e e.running e.jobs
      due_at (inl here) = inl here
      due_at (inr due) = inr due.0

      go : (b : Bool) → e.over ≡ b → IsRunState S (cond b (record { events = []; state = e }) (reschedule S e)).state
      go true over = record { single = single; ordered = record { ranked = h.ranked; ready = ready_at h.ready over } }
      go false over = record { single = reschedule_single S e single; ordered = (reschedule_ordered S e single h.ranked (due_at h.ready)).ordered }

  pub tick_ordered : (arrived : List ℕ) (s : State) → s.over ≡ false → IsRunState S s → IsRunState S (tick S arrived s).after
  unfolding tick
  tick_ordered arrived s going good =
      let ready : State = (before_execution S arrived s).state in
      let executing : IsExecuting ready = before_executing arrived s good in
      let last : IsRunState S (last_phase S (execute_phase S ready).state).state =
      last_ordered ready (execute_phase S ready).state (over_before S arrived s ∙ going) (execute_single S proper ready executing.good.single) (execute_left ready executing) in
      record { single = last.single; ordered = last.ordered }

  -- ---- boot, and a run

  pub first_ordered : (t : ℕ) (s : State) → t < length S.tasks → AllByRecursion (λ (j : Job). j.id.task < t) s.jobs → IsRunState S s → IsRunState S (activated S t s)
  first_ordered t s inside older good = record {
    single = first_single S proper t s inside older good.single;
    ordered = subst (λ o. IsOrdered S o (activated S t s).jobs) (sym (activated_running S proper t s)) (activated_ordered S t s good.single good.ordered);
  }

  pub begun_ordered : (mode : ℕ) → IsRunState S (begun S proper mode)
  begun_ordered mode = record {
    single = begun_single S proper mode;
    ordered = record { ranked = record { still = tt; pairs = tt; behind = tt }; ready = tt };
  }

  pub boot_ordered : (mode : ℕ) → IsRunState S (boot S mode).state
  unfolding boot
  boot_ordered mode =
      let started : State = all_activated S (starting_tasks S mode) (begun S proper mode) in
      let good : IsRunState S started = started_keep S proper (IsRunState S) first_ordered mode (begun_ordered mode) in
      record {
        single = reschedule_single S started good.single;
        ordered = (reschedule_ordered S started good.single good.ordered.ranked (inl good.ordered.ready)).ordered;
      }

  pub run_ordered : (mode : ℕ) (arrivals : List Arrival) (n : ℕ) → IsRunState S (run S mode arrivals n).state
  run_ordered mode arrivals n = every_run S mode (IsRunState S) (boot_ordered mode) tick_ordered arrivals n
