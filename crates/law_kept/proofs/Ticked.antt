-- A tick of the definitions is one over what the code keeps, in every run.
use Rattle.std.proofs.Common.{◌≡◌, ℕ, ◌<◌, Bool, true, false, cond, List, [], ◌∷◌, ◌++◌, length, ◌+◌, refl, sym, ◌∙◌, ap, subst}
use Rattle.std.specs.Prelude.{Option, Some, None}
use Rattle.std.specs.List.{AllByRecursion}
use Rattle.osek_base.specs.declared.ids.Owner.{Owner}
use Rattle.osek_base.specs.declared.instr.Instr.{Instr}
use Rattle.osek_base.specs.declared.instr.Control.{Control}
use Rattle.osek_base.specs.Types.{ServiceCall}
use Rattle.osek_base.specs.declared.trace_event.TraceEvent.{TraceEvent}
use Rattle.osek_base.specs.Lists.{below}
use Rattle.osek_base.specs.System.{System, alarm, instruction_at}
use Rattle.osek_base.specs.Instruction.{Context, plain, next}
use Rattle.osek_base.specs.State.{State, may_dispatch, words_after}
use Rattle.osek_base.specs.Alarm.{is_due, due_alarms, alarms_advanced}
use Rattle.osek_base.specs.Reschedule.{hooked, reschedule}
use Rattle.osek_base.specs.Service.{Caller, JobCalls, RoutineCalls, NobodyCalls, Reply, service, controlled}
use Rattle.osek_base.specs.Tick.{at_values, action_call, alarm_acts, alarms_act, alarm_phase, arrival_phase, routine_choice, routine_started, with_start_of, start_phase, with_context, answered, service_done, executed, caller_executes, executor, execute_phase, before_execution, last_phase, tick}
use Rattle.osek_base.specs.Activation.{activated}
use Rattle.osek_base.specs.Trace.{all_activated, starting_tasks, boot, run}
use Rattle.osek_base.specs.Proper.{IsProper}
use Rattle.law_runs.proofs.Lists.{all_weaker, all_kept}
use Rattle.law_runs.proofs.Known.{IsCaller, ActivatesKnown, executor_calls, all_below}
use Rattle.law_runs.proofs.Single.{IsSingle}
use Rattle.law_runs.proofs.SingleService.{service_single}
use Rattle.law_runs.proofs.SingleTick.{activated_running, begun, started_keep, CallerRuns, IsKnownInstr, at_known, any_instr_known, controlled_single, service_runs, execute_single, alarm_known, controlled_runs}
use Rattle.law_runs.proofs.Ranked.{AreRanked}
use Rattle.law_runs.proofs.RankedTick.{first_ordered, begun_ordered, run_ordered, IsRunState, IsExecuting, IsExecuted, action_run, alarm_phase_ordered, before_executing, execute_left}
use Rattle.law_runs.proofs.Formed.{IsPlacedJob, HasForm}
use Rattle.law_runs.proofs.FormedPhases.{acts_form, advanced_form, before_form}
use Rattle.law_runs.proofs.FormedTick.{run_form}
use Rattle.law_kept.specs.Kept.{Slot, kept}
use Rattle.law_kept.specs.Moves.{KeptRecorded, kept_recorded, rescheduled}
use Rattle.law_kept.specs.KeptService.{ByTask, kept_caller, KeptReply}
use Rattle.law_kept.specs.KeptTick.{KeptStep, kept_step, all_activated_in, boot_in, BootsAlike, TicksAlike, and_then_in, alarm_reply_in, alarms_act_in, alarm_phase_in, arrival_phase_in, routine_started_in, start_phase_in, with_context_in, controlled_in, service_done_in, executed_in, caller_executes_in, routine_executes, execute_phase_in, before_execution_in, last_phase_in, tick_in}
use Rattle.law_kept.proofs.JobMoves.{IsGiven, activated_kept}
use Rattle.law_kept.proofs.Settled.{IsSettled, AreKnown, reschedules}
use Rattle.law_kept.proofs.Served.{service_kept, acts, executor_kept, moved_kept}
use Rattle.law_kept.proofs.Tests.{caller_slot}

pub settled_of : (S : System) (s : State) → IsSingle S s → AreRanked S s.running s.jobs → IsSettled S s
settled_of S s single ranked = record { single = single; behind = ranked.behind; still = ranked.still }

run_settled : (S : System) (s : State) → IsRunState S s → IsSettled S s
run_settled S s good = settled_of S s good.single good.ordered.ranked

pub known_of : (S : System) (s : State) → HasForm S s → AreKnown S s
known_of S s form =
    all_weaker (IsPlacedJob S) (λ j. j.id.task < length S.tasks) s.jobs (λ j h. h.task) form.formed.jobs

module _ (S : System) (proper : IsProper S) where
  -- ---- alarms

  alarms_kept : (due : List ℕ) → AllByRecursion (λ a. a < length S.alarms) due → (s : State) → IsRunState S s
      → HasForm S s
      → kept_recorded S (alarms_act S due s) ≡ alarms_act_in S due (kept S s)
  alarms_kept [] all s good form = refl
  alarms_kept (a ∷ due) all s good form =
      let call : ServiceCall = action_call (alarm S a).action in
      let known : ActivatesKnown S (action_call (alarm S a).action) = alarm_known S a proper all.0 in
      let more =
      alarms_kept due all.1 (alarm_acts S a s).state (action_run S proper s (alarm S a).action known good)
      (acts_form S proper s (action_call (alarm S a).action) known form) in
      let one =
      acts S s (run_settled S s good) (known_of S s form) good.ordered.ready (action_call (alarm S a).action) in
      ap (λ (r : KeptRecorded). record { events = (alarm_acts S a s).events ++ r.events; state = r.state }) more
      ∙ ap (λ (r : KeptReply). and_then_in (alarm_reply_in S a r) (alarms_act_in S due)) one

  alarm_phase_kept : (s : State) → IsRunState S s → HasForm S s
      → kept_recorded S (alarm_phase S s) ≡ alarm_phase_in S (kept S s)
  unfolding alarm_phase alarm_phase_in
  alarm_phase_kept s good form =
      alarms_kept (due_alarms S s)
      (all_kept (λ a. a < length S.alarms) (is_due S s) (below (length S.alarms)) (all_below (length S.alarms)))
      (record s { alarms = alarms_advanced S s }) (record { single = good.single; ordered = good.ordered })
      (advanced_form S proper s form)

  pub start_kept : (s : State) → kept S (start_phase S s) ≡ start_phase_in S (kept S s)
  unfolding start_phase start_phase_in
  start_kept s = go (may_dispatch s) (routine_choice S s)
    where
      go : (b : Bool) (o : Option ℕ)
          → kept S (with_start_of s (cond b (routine_started o s) s))
          ≡ cond b (routine_started_in o (kept S s)) (kept S s)
      go true None = refl
      go true (Some i) = refl
      go false o = refl

  pub before_kept : (arrived : List ℕ) (s : State) → IsRunState S s → HasForm S s
      → kept_recorded S (before_execution S arrived s) ≡ before_execution_in S arrived (kept S s)
  before_kept arrived s good form =
      let waked = alarm_phase_ordered S proper s good in
      let again =
      reschedules S (arrival_phase arrived (alarm_phase S s).state)
      (settled_of S (arrival_phase arrived (alarm_phase S s).state) waked.single waked.ordered.ranked) in
      (λ i. record {
        events = (alarm_phase S s).events ++ (reschedule S (arrival_phase arrived (alarm_phase S s).state)).events;
        state = start_kept (reschedule S (arrival_phase arrived (alarm_phase S s).state)).state i;
      })
      ∙ ap
      (λ (r : KeptRecorded). record { events = (alarm_phase S s).events ++ r.events; state = start_phase_in S r.state }) again
      ∙ ap (λ (r : KeptRecorded). record {
        events = r.events ++ (rescheduled S (arrival_phase_in arrived r.state)).events;
        state = start_phase_in S (rescheduled S (arrival_phase_in arrived r.state)).state;
      }) (alarm_phase_kept s good form)

  -- ---- the instruction

  context_kept : (c : Caller) (x : Context) (e : State) → IsSingle S e → CallerRuns e c
      → kept S (with_context c x e) ≡ with_context_in (kept_caller c) x (kept S e)
  context_kept (JobCalls j) x e single runs = moved_kept S e j.id x single runs
  context_kept (RoutineCalls a) x e single runs = refl
  context_kept NobodyCalls x e single runs = refl

  pub controlled_kept : (control : Control ℕ) (s : State)
      → kept S (controlled control s) ≡ controlled_in control (kept S s)
  controlled_kept Control.DisableAllInterrupts s = refl
  controlled_kept _ s = refl

  words_run : (c : Caller) (s e : State) → e.running ≡ s.running → IsCaller s c → CallerRuns e c
  words_run (JobCalls j) s e same calls = same ∙ calls.runs
  words_run (RoutineCalls a) s e same calls = tt
  words_run NobodyCalls s e same calls = tt

  executed_kept : (who : Owner) (c : Caller) (x : Context) (what : Instr) (s : State) → IsExecuting S proper s
      → AreKnown S s → IsCaller s c → IsKnownInstr S what
      → kept_recorded S (executed S who c x what s) ≡ executed_in S who (kept_caller c) x what (kept S s)
  executed_kept who c x (Instr.Plain p) s executing known calls instr = λ i. record {
    events = (executed S who c x (Instr.Plain p) s).events;
    state =
        context_kept c (plain p x (s.words who)).context
        (record s { words = words_after s.words who (plain p x (s.words who)).effect }) executing.good.single
        (words_run c s (record s { words = words_after s.words who (plain p x (s.words who)).effect }) refl calls) i;
  }
  executed_kept who c x (Instr.Service call) s executing known calls instr =
      let r : Reply = service S c s (at_values x call) in
      let one =
      service_kept S s (run_settled S s executing.good) known c calls executing.good.ordered.ready
      (at_values x call) in
      (λ i. record {
        events = (service_done S who c x call (service S c s (at_values x call))).events;
        state =
            context_kept c
            (answered (service S c s (at_values x call)).status (service S c s (at_values x call)).results x)
            (service S c s (at_values x call)).state
            (service_single S s executing.good.single c (at_values x call) proper calls (at_known S x call instr))
            (service_runs S proper c s (at_values x call) calls) i;
      })
      ∙ ap (service_done_in S who (kept_caller c) x call) one
  executed_kept who c x (Instr.Control control) s executing known calls instr =
      (λ i. record {
        events = (executed S who c x (Instr.Control control) s).events;
        state =
            context_kept c (next x) (controlled control s)
            (controlled_single S proper control s executing.good.single) (controlled_runs S proper control c s calls) i;
      })
      ∙ (λ i. record {
        events = (executed S who c x (Instr.Control control) s).events;
        state = with_context_in (kept_caller c) (next x) (controlled_kept control s i);
      })

  pub execute_kept : (s : State) → IsExecuting S proper s → AreKnown S s
      → kept_recorded S (execute_phase S s) ≡ execute_phase_in S (kept S s)
  unfolding execute_phase execute_phase_in
  execute_kept s executing known =
      go (executor s) (executor_calls s) ∙ ap (λ d. caller_executes_in S d (kept S s)) (executor_kept S s)
    where
      go : (c : Caller) → IsCaller s c
          → kept_recorded S (caller_executes S c s) ≡ caller_executes_in S (kept_caller c) (kept S s)
      go (JobCalls j) calls =
          executed_kept (Owner.Task j.id.task) (JobCalls j) j.context
          (instruction_at S (Owner.Task j.id.task) j.context.place) s executing known calls
          (any_instr_known S (Owner.Task j.id.task) j.context.place proper)
          ∙ ap
          (λ (x : Context). executed_in S (Owner.Task j.id.task) (ByTask j.id.task) x (instruction_at S (Owner.Task j.id.task) x.place) (kept S s))
          (ap (λ (a : Slot). a.context) (sym (caller_slot S s (run_settled S s executing.good) known j calls).1))
      go (RoutineCalls a) calls =
          executed_kept (Owner.Routine a.routine) (RoutineCalls a) a.context
          (instruction_at S (Owner.Routine a.routine) a.context.place) s executing known calls
          (any_instr_known S (Owner.Routine a.routine) a.context.place proper)
          ∙ ap (λ o. routine_executes S o (kept S s)) (sym calls)
      go NobodyCalls calls = refl

  -- ---- the tick

  last_kept : (e : State) → IsSettled S e → kept_recorded S (last_phase S e) ≡ last_phase_in S (kept S e)
  last_kept e settled = go e.over
    where
      go : (b : Bool)
          → kept_recorded S (cond b (record { events = []; state = e }) (reschedule S e))
          ≡ cond b (record { events = []; state = kept S e }) (rescheduled S (kept S e))
      go true = refl
      go false = reschedules S e settled

  pub tick_kept : (arrived : List ℕ) (s : State) → IsRunState S s → HasForm S s
      → kept_step S (tick S arrived s) ≡ tick_in S arrived (kept S s)
  unfolding tick tick_in
  tick_kept arrived s good form =
      let executing : IsExecuting S proper (before_execution S arrived s).state =
      before_executing S proper arrived s good in
      let left : IsExecuted S proper (before_execution S arrived s).state (execute_phase S (before_execution S arrived s).state).state = execute_left S proper (before_execution S arrived s).state executing in
      let settled : IsSettled S (execute_phase S (before_execution S arrived s).state).state =
      settled_of S (execute_phase S (before_execution S arrived s).state).state
      (execute_single S proper (before_execution S arrived s).state executing.good.single) left.ranked in
      let known : AreKnown S (before_execution S arrived s).state =
      known_of S (before_execution S arrived s).state (before_form S proper arrived s form) in
      ap
      (λ (l : KeptRecorded). finish (before_execution S arrived s).events (execute_phase S (before_execution S arrived s).state).events l) (last_kept (execute_phase S (before_execution S arrived s).state).state settled)
      ∙ ap (λ (d : KeptRecorded). finish (before_execution S arrived s).events d.events (last_phase_in S d.state))
      (execute_kept (before_execution S arrived s).state executing known)
      ∙ ap
      (λ (r : KeptRecorded). finish r.events (execute_phase_in S r.state).events (last_phase_in S (execute_phase_in S r.state).state)) (before_kept arrived s good form)
    where
      finish : List TraceEvent → List TraceEvent → KeptRecorded → KeptStep
      finish before during l = record { events = before ++ (during ++ l.events); after = record l.state { tick = l.state.tick + 1 } }

  -- ---- boot

  all_activated_kept : (ts : List ℕ) (s : State) → s.running ≡ None
      → kept S (all_activated S ts s) ≡ all_activated_in S ts (kept S s)
  all_activated_kept [] s idle = refl
  all_activated_kept (t ∷ ts) s idle =
      all_activated_kept ts (activated S t s) (activated_running S proper t s ∙ idle)
      ∙ ap (all_activated_in S ts) (activated_kept S t s (subst (IsGiven s.made) (sym idle) tt))

  pub boot_kept : (mode : ℕ) → kept_recorded S (boot S mode) ≡ boot_in S mode
  unfolding boot boot_in
  boot_kept mode =
      let started : State = all_activated S (starting_tasks S mode) (begun S proper mode) in
      let good : IsRunState S started =
      started_keep S proper (IsRunState S) (first_ordered S proper) mode (begun_ordered S proper mode) in
      ap
      (λ (r : KeptRecorded). record { events = hooked S.hooks.startup TraceEvent.Startup ++ r.events; state = r.state })
      (reschedules S started (run_settled S started good) ∙ ap (rescheduled S) (all_activated_kept (starting_tasks S mode) (begun S proper mode) refl))

pub ticks : TicksAlike
ticks S mode arrivals n arrived proper =
    tick_kept S proper arrived (run S mode arrivals n).state (run_ordered S proper mode arrivals n)
    (run_form S proper mode arrivals n)

pub boots : BootsAlike
boots S mode proper = boot_kept S proper mode
