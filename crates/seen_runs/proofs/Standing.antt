-- Behind a plain instruction each task is what it was at it.
use Rattle.std.proofs.Common.{◌≡◌, ℕ, suc, ◌+◌, ◌<◌, Bool, true, false, cond, List, [], ◌∷◌, set, length, length-set, refl, sym, ◌∙◌, ap}
use Rattle.std.specs.Prelude.{Option, Some, None, ◌&&◌, ◌==◌}
use Rattle.std.specs.Option.{option_map}
use Rattle.std.specs.List.{AllByRecursion}
use Rattle.std.proofs.lemmas.Bool.{true≢false}
use Rattle.std.proofs.Math.Path.{fun_ext}
use Rattle.osek_base.specs.declared.arrivals.Arrival.{Arrival}
use Rattle.osek_base.specs.declared.executed.Executed.{Executed}
use Rattle.osek_base.specs.declared.ids.Owner.{Owner}
use Rattle.osek_base.specs.declared.instr.Instr.{Instr}
use Rattle.osek_base.specs.declared.trace_event.Effect.{Effect}
use Rattle.osek_base.specs.declared.trace_event.Outcome.{Outcome}
use Rattle.osek_base.specs.Alarm.{alarms_advanced, due_alarms, is_due}
use Rattle.osek_base.specs.Ceiling.{top_priority}
use Rattle.osek_base.specs.Instruction.{Context, plain}
use Rattle.osek_base.specs.Lists.{below}
use Rattle.osek_base.specs.Proper.{IsProper}
use Rattle.osek_base.specs.Reschedule.{reschedule}
use Rattle.osek_base.specs.State.{Active, State, words_after}
use Rattle.osek_base.specs.System.{System, alarm, instruction_at}
use Rattle.osek_base.specs.Tick.{action_call, alarm_acts, alarm_phase, alarms_act, arrival_phase, before_execution, execute_phase, flagged, moved, tick}
use Rattle.osek_base.specs.Trace.{Run, arriving, run}
use Rattle.law_runs.proofs.Foremost.{equal}
use Rattle.law_runs.proofs.Formed.{HasForm}
use Rattle.law_runs.proofs.FormedPhases.{acts_form, advanced_form, before_form}
use Rattle.law_runs.proofs.FormedTick.{run_form}
use Rattle.law_runs.proofs.Known.{all_below}
use Rattle.law_runs.proofs.Lists.{all_kept}
use Rattle.law_runs.proofs.RankedTick.{IsExecuting, IsRunState, alarm_phase_ordered, before_executing, may_start, run_ordered}
use Rattle.law_runs.proofs.SingleTick.{alarm_known}
use Rattle.ready_queues.specs.QueueMoves.{changed_at, highest}
use Rattle.law_blockers.specs.Steps.{record_at, step_at}
use Rattle.law_blockers.proofs.StampLemmas.{Going}
use Rattle.law_blockers.proofs.StepLemmas.{run_more}
use Rattle.law_kept.specs.Kept.{Kept, Slot, kept}
use Rattle.law_kept.specs.KeptService.{ByNobody, ByRoutine, ByTask, KeptCaller, caller_in, slot_moved}
use Rattle.law_kept.specs.KeptTick.{KeptStep, before_execution_in, caller_executes_in, execute_phase_in, executed_in as done_in, last_phase_in, routine_executes, silent_in, tick_in, with_context_in}
use Rattle.law_kept.specs.Moves.{KeptRecorded, chosen, contender, may_dispatch_in, rescheduled, slot_changed}
use Rattle.law_kept.specs.Standing.{IsStanding}
use Rattle.law_kept.proofs.InRuns.{before_alike}
use Rattle.law_kept.proofs.Standing.{reschedule_stands}
use Rattle.law_kept.proofs.Ticked.{execute_kept, known_of, start_kept, ticks}
use Rattle.services.specs.Dispatched.{is_dispatched_in}
use Rattle.services.proofs.DispatchedLemmas.{gone_on_dispatched, rescheduled_again, started_dispatched}
use Rattle.services.proofs.RescheduledLemmas.{state_dispatched}
use Rattle.kernel.specs.Working.{at_rest, unplaced}
use Rattle.seen_ticks.specs.Observed.{activates, answered, ending, executed_in, failure_by, failure_of, instruction, is_accepted, is_end, is_limit, refusing, status_of, task_of, tick_at}
use Rattle.seen_ticks.specs.Told.{task_at, task_at_in}
use Rattle.seen_ticks.proofs.Telling.{record_executed}
use Rattle.seen_runs.specs.Tasks.{LeavesTasks, is_plain, is_plain_outcome}
use Rattle.seen_runs.proofs.Alike.{task_between, task_executing}

-- ---- a reschedule where the task that is to run runs, if any may be dispatched

abbrev IsKnown : System → Kept → Type 0
IsKnown S o = may_dispatch_in o ≡ true → is_dispatched_in S o ≡ true

quiet_again : (S : System) (o : Kept) → IsKnown S o → rescheduled S o ≡ silent_in o
unfolding rescheduled
quiet_again S o known = go (may_dispatch_in o) refl
  where
    go : (b : Bool) → may_dispatch_in o ≡ b
        → cond (may_dispatch_in o) (chosen S (contender o) (highest (suc (top_priority S)) o.queues) o) (silent_in o) ≡ silent_in o
    go true may = rescheduled_again S o (known may)
    go false off = ap (λ b. cond b (chosen S (contender o) (highest (suc (top_priority S)) o.queues) o) (silent_in o)) off

last_quiet : (S : System) (o : Kept) → IsKnown S o → last_phase_in S o ≡ silent_in o
last_quiet S o known = go o.over
  where
    go : (b : Bool) → cond b (silent_in o) (rescheduled S o) ≡ silent_in o
    go true = refl
    go false = quiet_again S o known

-- ---- who executes goes on

module _ (S : System) (o : Kept) where
  placeless : (t : ℕ) (x : Context) (u : ℕ)
      → unplaced (changed_at o.slots t (slot_moved x (o.slots t)) u) ≡ unplaced (o.slots u)
  placeless t x u = go (t == u) refl
    where
      go : (b : Bool) → (t == u) ≡ b → unplaced (cond b (slot_moved x (o.slots t)) (o.slots u)) ≡ unplaced (o.slots u)
      go true e = ap (λ v. unplaced (o.slots v)) (equal t u e)
      go false e = refl

  -- each task is what it was
  moved_task : (d : KeptCaller) (x : Context) (u : ℕ) → task_at_in S (with_context_in d x o) u ≡ task_at_in S o u
  moved_task (ByTask t) x u = go o.gone
    where
      go : (b : Bool) → task_at_in S (cond b o (slot_changed t (slot_moved x) o)) u ≡ task_at_in S o u
      go true = refl
      go false = ap (λ (slots : ℕ → Slot). task_at_in S (record (at_rest o) { slots = slots }) u) (fun_ext (placeless t x))
  moved_task ByRoutine x u = refl
  moved_task ByNobody x u = refl

  may_same : (d : KeptCaller) (x : Context) → may_dispatch_in (with_context_in d x o) ≡ may_dispatch_in o
  may_same (ByTask t) x = go o.gone
    where
      go : (b : Bool) → may_dispatch_in (cond b o (slot_changed t (slot_moved x) o)) ≡ may_dispatch_in o
      go true = refl
      go false = refl
  may_same ByRoutine x = go o.active
    where
      go : (a : Option Active)
          → may_dispatch_in (record o { active = option_map (moved x) a }) ≡ may_dispatch_in (record o { active = a })
      go None = refl
      go (Some a) = refl
  may_same ByNobody x = refl

-- ---- a plain instruction

module _ (S : System) (o : Kept) (known : IsKnown S o) where
  abbrev Stand : Kept → Type 0
  Stand e = (u : ℕ) → task_at_in S (last_phase_in S e).state u ≡ task_at_in S o u

  worked_stand : (d : KeptCaller) (x : Context) (who : Owner) (effect : Effect)
      → Stand (with_context_in d x (record o { words = words_after o.words who effect }))
  worked_stand d x who effect u =
      let w : Kept = record o { words = words_after o.words who effect } in
      let again : IsKnown S (with_context_in d x w) =
      λ may. gone_on_dispatched S w d x ∙ known (sym (may_same S w d x) ∙ may) in
      ap (λ (r : KeptRecorded). task_at_in S r.state u) (last_quiet S (with_context_in d x w) again) ∙ moved_task S w d x u

  done_stand : (who : Owner) (d : KeptCaller) (x : Context) (what : Instr)
      → is_plain (executed_in (done_in S who d x what o).events) ≡ true → Stand (done_in S who d x what o).state
  done_stand who d x (Instr.Plain p) h =
      worked_stand d (plain p x (o.words who)).context who (plain p x (o.words who)).effect
  done_stand who d x (Instr.Service call) h = absurd (true≢false (sym h))
  done_stand who d x (Instr.Control control) h = absurd (true≢false (sym h))

  caller_stand : (d : KeptCaller) → is_plain (executed_in (caller_executes_in S d o).events) ≡ true
      → Stand (caller_executes_in S d o).state
  caller_stand (ByTask t) h =
      done_stand (Owner.Task t) (ByTask t) (o.slots t).context
      (instruction_at S (Owner.Task t) (o.slots t).context.place) h
  caller_stand ByRoutine h = go o.active h
    where
      go : (a : Option Active) → is_plain (executed_in (routine_executes S a o).events) ≡ true
          → Stand (routine_executes S a o).state
      go None k = absurd (true≢false (sym k))
      go (Some a) k =
          done_stand (Owner.Routine a.routine) ByRoutine a.context
          (instruction_at S (Owner.Routine a.routine) a.context.place) k
  caller_stand ByNobody h = absurd (true≢false (sym h))

  execute_stand : is_plain (executed_in (execute_phase_in S o).events) ≡ true → Stand (execute_phase_in S o).state
  unfolding execute_phase_in
  execute_stand h = caller_stand (caller_in o) h

tick_stand : (S : System) (arrived : List ℕ) (o : Kept) → IsKnown S (before_execution_in S arrived o).state
    → is_plain (executed_in (execute_phase_in S (before_execution_in S arrived o).state).events) ≡ true
    → (u : ℕ) → task_at_in S (tick_in S arrived o).after u ≡ task_at_in S (before_execution_in S arrived o).state u
unfolding tick_in
tick_stand S arrived o known h = execute_stand S (before_execution_in S arrived o).state known h

-- ---- what is known at a tick's instruction

module _ (S : System) (proper : IsProper S) where
  alarms_form : (due : List ℕ) → AllByRecursion (λ a. a < length S.alarms) due → (s : State) → HasForm S s
      → HasForm S (alarms_act S due s).state
  alarms_form [] all s form = form
  alarms_form (a ∷ due) all s form =
      alarms_form due all.1 (alarm_acts S a s).state
      (acts_form S proper s (action_call (alarm S a).action) (alarm_known S a proper all.0) form)

  alarm_phase_form : (s : State) → HasForm S s → HasForm S (alarm_phase S s).state
  unfolding alarm_phase
  alarm_phase_form s form =
      alarms_form (due_alarms S s)
      (all_kept (λ a. a < length S.alarms) (is_due S s) (below (length S.alarms)) (all_below (length S.alarms)))
      (record s { alarms = alarms_advanced S s }) (advanced_form S proper s form)

  flagged_length : (arrived : List ℕ) (flags : List Bool) → length (flagged arrived flags) ≡ length flags
  flagged_length [] flags = refl
  flagged_length (i ∷ arrived) flags = flagged_length arrived (set flags i true) ∙ length-set flags i true

  module _ (arrived : List ℕ) (s : State) (good : IsRunState S s) (form : HasForm S s) where
    abbrev waked : State
    waked = arrival_phase arrived (alarm_phase S s).state

    abbrev there : State
    there = (reschedule S waked).state

    waked_stands : IsStanding S waked
    waked_stands =
        let ordered : IsRunState S (alarm_phase S s).state = alarm_phase_ordered S proper s good in
        let formed : HasForm S (alarm_phase S s).state = alarm_phase_form s form in
        record {
          proper = proper;
          single = ordered.single;
          ranked = ordered.ordered.ranked;
          form = record {
            formed = record {
              masks = formed.formed.masks;
              alarms = formed.formed.alarms;
              jobs = formed.formed.jobs;
              limited = formed.formed.limited;
            };
            pending = flagged_length arrived (alarm_phase S s).state.pending ∙ formed.pending;
            active = formed.active;
          };
        }

    at_known : IsKnown S (kept S (before_execution S arrived s).state)
    unfolding alarm_phase reschedule
    at_known may =
        let dispatched : is_dispatched_in S (rescheduled S (kept S waked)).state ≡ true =
        state_dispatched S waked waked_stands (may_start S there may) in
        ap (is_dispatched_in S) (start_kept S proper there)
        ∙ started_dispatched S (kept S there)
        ∙ ap (λ (r : KeptRecorded). is_dispatched_in S r.state) (reschedule_stands S waked waked_stands).1
        ∙ dispatched

-- ---- a tick of a run

module _ (S : System) (proper : IsProper S) (mode : ℕ) (arrivals : List Arrival) (n : ℕ)
    (h : is_plain (executed_in (record_at S mode arrivals n)) ≡ true) where
  abbrev before : State
  before = (run S mode arrivals n).state

  abbrev arrived : List ℕ
  arrived = arriving arrivals before.tick

  abbrev at : State
  at = (before_execution S arrived before).state

  executing_is : (step_at S mode arrivals n).executing ≡ at
  unfolding tick
  executing_is = refl

  at_is : kept S at ≡ (before_execution_in S arrived (kept S before)).state
  at_is = ap (λ (k : KeptRecorded). k.state) (before_alike S mode arrivals n arrived proper)

  after_is : kept S (step_at S mode arrivals n).after ≡ (tick_in S arrived (kept S before)).after
  after_is = ap (λ (k : KeptStep). k.after) (ticks S mode arrivals n arrived proper)

  events_are : (execute_phase S at).events ≡ (execute_phase_in S (kept S at)).events
  events_are =
      let executing : IsExecuting S proper at =
      before_executing S proper arrived before (run_ordered S proper mode arrivals n) in
      ap (λ (k : KeptRecorded). k.events)
      (execute_kept S proper at executing (known_of S at (before_form S proper arrived before (run_form S proper mode arrivals n))))

  kept_stand : (u : ℕ) → task_at_in S (kept S (step_at S mode arrivals n).after) u ≡ task_at_in S (kept S at) u
  kept_stand u =
      let done =
      ap (λ (k : Kept). is_plain (executed_in (execute_phase_in S k).events)) (sym at_is)
      ∙ ap (λ events. is_plain (executed_in events)) (sym events_are)
      ∙ ap is_plain (sym (record_executed S mode arrivals n)) ∙ h in
      let known : IsKnown S (before_execution_in S arrived (kept S before)).state =
      λ may.
      ap (is_dispatched_in S) (sym at_is)
      ∙ at_known S proper arrived before (run_ordered S proper mode arrivals n) (run_form S proper mode arrivals n)
      (ap may_dispatch_in at_is ∙ may) in
      ap (λ (k : Kept). task_at_in S k u) after_is ∙ tick_stand S arrived (kept S before) known done u
      ∙ ap (λ (k : Kept). task_at_in S k u) (sym at_is)

  -- where a tick of a run executes a plain instruction, each task is behind it what it was at it
  plain_stand : Going S mode arrivals n → (u : ℕ)
      → task_at S (step_at S mode arrivals n).executing u ≡ task_at S (step_at S mode arrivals n).after u
  plain_stand going u =
      let behind : (run S mode arrivals (n + 1)).state ≡ (step_at S mode arrivals n).after =
      ap (λ (r : Run). r.state) (run_more S mode arrivals n going) in
      sym (task_executing S proper mode arrivals n going u)
      ∙ ap (λ (s : State). task_at_in S (kept S s) u) executing_is
      ∙ sym (kept_stand u)
      ∙ ap (λ (s : State). task_at_in S (kept S s) u) (sym behind)
      ∙ task_between S proper mode arrivals (n + 1) u
      ∙ ap (λ (s : State). task_at S s u) behind

-- ---- and it ends no job, refuses no activation, and is answered nothing

module _ (S : System) where
  plain_ends : (e : Option Executed) → is_plain e ≡ true → ending S e ≡ None
  plain_ends None h = refl
  plain_ends (Some e) h = go e.outcome h
    where
      go : (o : Outcome) → is_plain_outcome o ≡ true → cond (is_accepted o && is_end (instruction S e)) (task_of e.owner) None ≡ None
      go (Outcome.Plain effect) k = refl
      go (Outcome.Answer status found) k = absurd (true≢false (sym k))
      go Outcome.Control k = absurd (true≢false (sym k))

  plain_refuses : (e : Option Executed) → is_plain e ≡ true → refusing S e ≡ None
  plain_refuses None h = refl
  plain_refuses (Some e) h = go e.outcome h
    where
      go : (o : Outcome) → is_plain_outcome o ≡ true → cond (is_limit o) (activates (instruction S e)) None ≡ None
      go (Outcome.Plain effect) k = refl
      go (Outcome.Answer status found) k = absurd (true≢false (sym k))
      go Outcome.Control k = absurd (true≢false (sym k))

  plain_answer : (e : Option Executed) → is_plain e ≡ true → answered e ≡ None
  plain_answer None h = refl
  plain_answer (Some e) h = go e.outcome h
    where
      go : (o : Outcome) → is_plain_outcome o ≡ true → status_of o ≡ None
      go (Outcome.Plain effect) k = refl
      go (Outcome.Answer status found) k = absurd (true≢false (sym k))
      go Outcome.Control k = absurd (true≢false (sym k))

  plain_failure : (e : Option Executed) → is_plain e ≡ true → failure_of e ≡ None
  plain_failure None h = refl
  plain_failure (Some e) h = ap (failure_by e) (plain_answer (Some e) h)

pub plain_leaves : (S : System) → IsProper S → (mode : ℕ) (arrivals : List Arrival) (n : ℕ) → Going S mode arrivals n
    → is_plain (tick_at S mode arrivals n).executed ≡ true → LeavesTasks S (tick_at S mode arrivals n)
plain_leaves S proper mode arrivals n going h = record {
  ends = plain_ends S (tick_at S mode arrivals n).executed h;
  refuses = plain_refuses S (tick_at S mode arrivals n).executed h;
  answer = plain_answer S (tick_at S mode arrivals n).executed h;
  failure = plain_failure S (tick_at S mode arrivals n).executed h;
  each = plain_stand S proper mode arrivals n h going;
}
