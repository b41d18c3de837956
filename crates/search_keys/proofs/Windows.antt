-- Windows of resources stay as many and as long in every run.
use Rattle.std.proofs.Common.{ℕ, ◌≡◌, ◌<◌, ◌%◌, inl, inr, Bool, true, false, cond, List, [], ◌∷◌, length, set, sym, ◌∙◌, ap, arith, length-set}
use Rattle.std.specs.Prelude.{Option, Some, None, slice_index, slice_set, bit_or}
use Rattle.std.proofs.lemmas.Bool.{cases_eq}
use Rattle.std.proofs.lemmas.List.{get_or-set_other, get_or-replicate, length-replicate}
use Rattle.std.proofs.lemmas.Grind.{get_or-set_at}
use Rattle.osek_base.specs.declared.limits.TheConstants.{SHARED_WORDS}
use Rattle.osek_base.specs.declared.arrivals.Arrival.{Arrival}
use Rattle.osek_base.specs.declared.ids.Owner.{Owner}
use Rattle.osek_base.specs.declared.ids.ResId.{ResId}
use Rattle.osek_base.specs.declared.instr.Control.{Control}
use Rattle.osek_base.specs.declared.instr.Instr.{Instr}
use Rattle.osek_base.specs.declared.instr.Service.{Service}
use Rattle.osek_base.specs.declared.status.Status.{Status}
use Rattle.osek_base.specs.Types.{ServiceCall}
use Rattle.osek_base.specs.Activation.{activated, released}
use Rattle.osek_base.specs.Alarm.{due_alarms, alarms_advanced}
use Rattle.osek_base.specs.Instruction.{Context}
use Rattle.osek_base.specs.Reschedule.{reschedule}
use Rattle.osek_base.specs.Service.{Caller, JobCalls, RoutineCalls, NobodyCalls, first_refusal, refusals, effect, with_caller, caller_ended, given_up, gets, releases, is_outranked, is_met, meets, released_by, with_events, events_cleared, event_awaited, waiting_for, reply_to, service, unasked_service, controlled}
use Rattle.osek_base.specs.State.{Job, State, interrupts_off, jobs_of, no_shared, still, shared_window, with_shared}
use Rattle.osek_base.specs.System.{System, alarm, instruction_at}
use Rattle.osek_base.specs.Tick.{action_call, alarm_acts, alarms_act, alarm_phase, arrival_phase, start_phase, at_values, executed, caller_executes, executor, execute_phase, last_phase, tick}
use Rattle.osek_base.specs.Trace.{all_activated, starting_tasks, starting_alarms, boot, run}
use Rattle.law_runs.proofs.Lists.{cond_both}
use Rattle.law_runs.proofs.SingleTick.{every_run}

-- as many windows as there are resources, of 16 words each
pub record AreWindows (n : ℕ) (shared : List (List ℕ)) : Type 0 where
  pub count : length shared ≡ n
  pub sizes : (r : ℕ) → r < n → length (shared_window shared r) ≡ SHARED_WORDS

stored : (n : ℕ) (shared : List (List ℕ)) (r i v : ℕ) → AreWindows n shared
    → AreWindows n (with_shared shared r i v)
stored n shared r i v windows = record {
  count = length-set shared r new ∙ windows.count;
  sizes = sizes;
}
  where
    new : List ℕ
    new = slice_set (shared_window shared r) (i % SHARED_WORDS) v

    sizes : (q : ℕ) → q < n → length (shared_window (set shared r new) q) ≡ SHARED_WORDS
    sizes q low = elim (cases_eq q r) [
      | inl same ↦
          let many = windows.count in
          ap length (get_or-set_at shared r q new [] same (omega (arith, many, same, low)))
          ∙ length-set (shared_window shared r) (i % SHARED_WORDS) v
          ∙ ap (λ k. length (shared_window shared k)) (sym same)
          ∙ windows.sizes q low
      | inr away ↦ ap length (get_or-set_other shared r q new [] away) ∙ windows.sizes q low
    ]

module _ (S : System) where
  abbrev HasWindows : State → Type 0
  HasWindows s = AreWindows (length S.resources) s.shared

  -- ---- services

  module _ (s : State) (h : HasWindows s) where
    of_caller : (c : Caller) (f : Job → Job) → HasWindows (with_caller c f s)
    of_caller (JobCalls j) f = h
    of_caller (RoutineCalls a) f = h
    of_caller NobodyCalls f = h

    of_ended : (c : Caller) → HasWindows (caller_ended c s)
    of_ended (JobCalls j) = h
    of_ended (RoutineCalls a) = h
    of_ended NobodyCalls = h

    of_cleared : (c : Caller) (m : ℕ) → HasWindows (events_cleared c m s)
    of_cleared (JobCalls j) m = h
    of_cleared (RoutineCalls a) m = h
    of_cleared NobodyCalls m = h

    of_awaited : (c : Caller) (m : ℕ) → HasWindows (event_awaited c m s)
    of_awaited (JobCalls j) m =
        cond_both HasWindows (meets m (slice_index s.masks j.id.task)) s
        (with_caller (JobCalls j) (waiting_for m) s) h h
    of_awaited (RoutineCalls a) m = h
    of_awaited NobodyCalls m = h

  of_activated : (t : ℕ) (s : State) → HasWindows s → HasWindows (activated S t s)
  unfolding activated
  of_activated t s h = h

  of_released : (events : ℕ) (jobs : List Job) (s : State) → HasWindows s
      → HasWindows (released_by events jobs s)
  unfolding released
  of_released events [] s h = h
  of_released events (j ∷ js) s h =
      cond_both HasWindows (is_met events j.waits_for) (released j.id s) s h h

  of_effect : (s : State) → HasWindows s → (c : Caller) (call : ServiceCall)
      → HasWindows (effect S c s call)
  of_effect s h c (Service.ActivateTask (Some t)) = of_activated t s h
  of_effect s h c Service.TerminateTask = of_ended s h c
  of_effect s h c (Service.ChainTask (Some t)) = of_activated t (caller_ended c s) (of_ended s h c)
  of_effect s h c Service.Schedule =
      cond_both HasWindows (is_outranked S c s.jobs) (with_caller c given_up s) s
      (of_caller s h c given_up) h
  of_effect s h c (Service.GetResource (Some q)) = of_caller s h c (gets q)
  of_effect s h c (Service.ReleaseResource (Some q)) = of_caller s h c releases
  of_effect s h c (Service.StoreShared (Some (ResId.Declared r)) i v) =
      stored (length S.resources) s.shared r i v h
  of_effect s h c (Service.StoreShared (Some ResId.Scheduler) i v) = h
  of_effect s h c (Service.SetEvent (Some t) m) =
      of_released (bit_or (slice_index s.masks t) m) (jobs_of t s.jobs)
      (with_events t (bit_or (slice_index s.masks t) m) s) h
  of_effect s h c (Service.ClearEvent m) = of_cleared s h c m
  of_effect s h c (Service.WaitEvent m) = of_awaited s h c m
  of_effect s h c (Service.SetRelAlarm (Some a) x y) = h
  of_effect s h c (Service.SetAbsAlarm (Some a) x y) = h
  of_effect s h c (Service.CancelAlarm (Some a)) = h
  of_effect s h c _ = h

  of_reply : (s : State) → HasWindows s → (c : Caller) (call : ServiceCall) (o : Option Status)
      → HasWindows (reply_to S c s call o).state
  of_reply s h c call None = of_effect s h c call
  of_reply s h c call (Some refusal) = h

  of_service : (s : State) → HasWindows s → (c : Caller) (call : ServiceCall)
      → HasWindows (service S c s call).state
  unfolding service
  of_service s h c call =
      of_reply s h c call
      (first_refusal ((interrupts_off s, Status.SysDisabled) ∷ refusals S c s call))

  of_action : (s : State) → HasWindows s → (call : ServiceCall)
      → HasWindows (unasked_service S NobodyCalls s call).state
  unfolding unasked_service
  of_action s h call = of_reply s h NobodyCalls call (first_refusal (refusals S NobodyCalls s call))

  -- ---- phases

  of_alarms : (due : List ℕ) (s : State) → HasWindows s → HasWindows (alarms_act S due s).state
  of_alarms [] s h = h
  of_alarms (a ∷ due) s h =
      of_alarms due (alarm_acts S a s).state (of_action s h (action_call (alarm S a).action))

  of_alarm_phase : (s : State) → HasWindows s → HasWindows (alarm_phase S s).state
  unfolding alarm_phase
  of_alarm_phase s h = of_alarms (due_alarms S s) (record s { alarms = alarms_advanced S s }) h

  of_reschedule : (s : State) → HasWindows s → HasWindows (reschedule S s).state
  unfolding reschedule
  of_reschedule s h = h

  of_start : (s : State) → HasWindows s → HasWindows (start_phase S s)
  unfolding start_phase
  of_start s h = h

  of_control : (control : Control ℕ) (s : State) → HasWindows s → HasWindows (controlled control s)
  of_control Control.DisableAllInterrupts s h = h
  of_control _ s h = h

  of_executed : (who : Owner) (c : Caller) (x : Context) (what : Instr) (s : State) → HasWindows s
      → HasWindows (executed S who c x what s).state
  of_executed who c x (Instr.Plain p) s h = h
  of_executed who c x (Instr.Service call) s h = of_service s h c (at_values x call)
  of_executed who c x (Instr.Control control) s h = of_control control s h

  of_caller_executes : (c : Caller) (s : State) → HasWindows s
      → HasWindows (caller_executes S c s).state
  of_caller_executes (JobCalls j) s h =
      of_executed (Owner.Task j.id.task) (JobCalls j) j.context
      (instruction_at S (Owner.Task j.id.task) j.context.place) s h
  of_caller_executes (RoutineCalls a) s h =
      of_executed (Owner.Routine a.routine) (RoutineCalls a) a.context
      (instruction_at S (Owner.Routine a.routine) a.context.place) s h
  of_caller_executes NobodyCalls s h = h

  of_execute : (s : State) → HasWindows s → HasWindows (execute_phase S s).state
  unfolding execute_phase
  of_execute s h = of_caller_executes (executor s) s h

  of_last : (s : State) → HasWindows s → HasWindows (last_phase S s).state
  of_last s h = go s.over
    where
      go : (b : Bool)
          → HasWindows (cond b (record { events = []; state = s }) (reschedule S s)).state
      go true = h
      go false = of_reschedule s h

  -- ---- runs

  of_tick : (arrived : List ℕ) (s : State) → HasWindows s → HasWindows (tick S arrived s).after
  unfolding tick
  of_tick arrived s h =
      let woken = of_alarm_phase s h in
      let flagged = arrival_phase arrived (alarm_phase S s).state in
      let ready = of_start (reschedule S flagged).state (of_reschedule flagged woken) in
      let begun = start_phase S (reschedule S flagged).state in
      of_last (execute_phase S begun).state (of_execute begun ready)

  of_started : (tasks : List ℕ) (s : State) → HasWindows s → HasWindows (all_activated S tasks s)
  of_started [] s h = h
  of_started (t ∷ ts) s h = of_started ts (activated S t s) (of_activated t s h)

  of_boot : (mode : ℕ) → HasWindows (boot S mode).state
  unfolding boot
  of_boot mode =
      let begun = record (still S) { alarms = starting_alarms S mode } in
      of_reschedule (all_activated S (starting_tasks S mode) begun)
      (of_started (starting_tasks S mode) begun (record {
        count = length-replicate (length S.resources) no_shared;
        sizes = λ r low.
            ap length (get_or-replicate (length S.resources) r no_shared [] low)
            ∙ length-replicate {A = ℕ} SHARED_WORDS 0;
      }))

  pub run_windows : (mode : ℕ) (arrivals : List Arrival) (n : ℕ)
      → HasWindows (run S mode arrivals n).state
  run_windows mode arrivals n =
      every_run S mode HasWindows (of_boot mode) (λ arrived s going h. of_tick arrived s h)
      arrivals n
