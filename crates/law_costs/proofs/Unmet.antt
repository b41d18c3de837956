-- In each state of a run a job that waits does so for events of which none is set.
use Rattle.std.proofs.Common.{ℕ, zero, suc, ◌≡◌, ◌<◌, Bool, true, false, cond, List, [], ◌∷◌, length, refl, sym, subst}
use Rattle.std.specs.Prelude.{Option, Some, None}
use Rattle.std.specs.List.{AllByRecursion}
use Rattle.osek_base.specs.declared.arrivals.Arrival.{Arrival}
use Rattle.osek_base.specs.declared.ids.Owner.{Owner}
use Rattle.osek_base.specs.declared.instr.Control.{Control}
use Rattle.osek_base.specs.declared.instr.Instr.{Instr}
use Rattle.osek_base.specs.Activation.{activated}
use Rattle.osek_base.specs.Alarm.{alarms_advanced, due_alarms, is_due}
use Rattle.osek_base.specs.Choice.{choice}
use Rattle.osek_base.specs.Instruction.{Context, next, plain}
use Rattle.osek_base.specs.Lists.{below}
use Rattle.osek_base.specs.Proper.{IsProper}
use Rattle.osek_base.specs.Reschedule.{entered, jobs_entered, reschedule, switched, with_dispatch_of}
use Rattle.osek_base.specs.Service.{Caller, JobCalls, NobodyCalls, Reply, RoutineCalls, service}
use Rattle.osek_base.specs.State.{Job, State, may_dispatch}
use Rattle.osek_base.specs.System.{System, alarm, instruction_at}
use Rattle.osek_base.specs.Tick.{alarm_acts, alarm_phase, alarms_act, answered, arrival_phase, at_values, before_execution, caller_executes, execute_phase, executed, executor, job_moved, jobs_moved, last_phase, silent, start_phase, tick}
use Rattle.osek_base.specs.Trace.{all_activated, arriving, boot, run, starting_tasks}
use Rattle.law_runs.proofs.Known.{IsCaller, all_below, executor_calls}
use Rattle.law_runs.proofs.Lists.{all_kept}
use Rattle.law_runs.proofs.RankedTick.{IsRunState, action_run, before_executing, run_ordered}
use Rattle.law_runs.proofs.RunSteps.{going_before, state_more}
use Rattle.law_runs.proofs.SingleTick.{alarm_known, begun}
use Rattle.law_costs.specs.Known.{at_instruction}
use Rattle.law_costs.proofs.Boot.{boot_state}
use Rattle.law_costs.proofs.InTicks.{at_is, executed_is}
use Rattle.law_costs.proofs.Waiting.{AreUnmet, IsUnmet, action_unmet, activated_unmet, changed_unmet, service_unmet}

module _ (S : System) where
  module _ (s : State) (good : IsRunState S s) (all : AreUnmet s) where
    -- ---- an instruction

    moved_unmet : (c : Caller) (x : Context) (e : State) → AreUnmet e
        → AllByRecursion (IsUnmet e.masks) (jobs_moved c x e.jobs)
    moved_unmet (JobCalls j) x e each =
        changed_unmet e.masks j.id (job_moved x) e.jobs (λ k h. h) each
    moved_unmet (RoutineCalls a) x e each = each
    moved_unmet NobodyCalls x e each = each

    executed_unmet : (who : Owner) (c : Caller) (x : Context) → IsCaller s c → (what : Instr)
        → AreUnmet (executed S who c x what s).state
    executed_unmet who c x calls (Instr.Plain what) =
        moved_unmet c (plain what x (s.words who)).context s all
    executed_unmet who c x calls (Instr.Service call) =
        let r : Reply = service S c s (at_values x call) in
        moved_unmet c (answered r.status r.results x) r.state
        (service_unmet S s good all c (at_values x call) calls)
    executed_unmet who c x calls (Instr.Control Control.DisableAllInterrupts) =
        moved_unmet c (next x) s all
    executed_unmet who c x calls (Instr.Control control) = moved_unmet c (next x) s all

    by_caller : (c : Caller) → IsCaller s c → AreUnmet (caller_executes S c s).state
    by_caller (JobCalls j) calls =
        executed_unmet (Owner.Task j.id.task) (JobCalls j) j.context calls
        (instruction_at S (Owner.Task j.id.task) j.context.place)
    by_caller (RoutineCalls a) calls =
        executed_unmet (Owner.Routine a.routine) (RoutineCalls a) a.context calls
        (instruction_at S (Owner.Routine a.routine) a.context.place)
    by_caller NobodyCalls calls = all

    execute_unmet : AreUnmet (execute_phase S s).state
    execute_unmet =
        subst AreUnmet (sym (executed_is S s (executor s) refl))
        (by_caller (executor s) (executor_calls s))

  -- ---- the other phases

  entered_unmet : (masks : List ℕ) (jobs : List Job) (o : Option Job)
      → AllByRecursion (IsUnmet masks) jobs
      → AllByRecursion (IsUnmet masks) (jobs_entered S o jobs)
  entered_unmet masks jobs None all = all
  entered_unmet masks jobs (Some k) all =
      changed_unmet masks k.id (entered S) jobs (λ l h. h) all

  reschedule_unmet : (s : State) → AreUnmet s → AreUnmet (reschedule S s).state
  unfolding reschedule
  reschedule_unmet s all = go (may_dispatch s)
    where
      go : (b : Bool)
          → AreUnmet
          (with_dispatch_of s
          (cond b (switched S (choice S s.jobs) s) (record { events = []; state = s }))).state
      go false = all
      go true = entered_unmet s.masks s.jobs (choice S s.jobs) all

  start_unmet : (s : State) → AreUnmet s → AreUnmet (start_phase S s)
  unfolding start_phase
  start_unmet s all = all

  last_unmet : (e : State) → AreUnmet e → AreUnmet (last_phase S e).state
  last_unmet e all = go e.over
    where
      go : (b : Bool) → AreUnmet (cond b (silent e) (reschedule S e)).state
      go true = all
      go false = reschedule_unmet e all

  module _ (proper : IsProper S) where
    acts_unmet : (due : List ℕ) → AllByRecursion (λ a. a < length S.alarms) due → (s : State)
        → IsRunState S s → AreUnmet s → AreUnmet (alarms_act S due s).state
    acts_unmet [] known s good all = all
    acts_unmet (a ∷ due) known s good all =
        acts_unmet due known.1 (alarm_acts S a s).state
        (action_run S proper s (alarm S a).action (alarm_known S a proper known.0) good)
        (action_unmet S s good all (alarm S a).action)

    alarm_phase_unmet : (s : State) → IsRunState S s → AreUnmet s
        → AreUnmet (alarm_phase S s).state
    unfolding alarm_phase
    alarm_phase_unmet s good all =
        acts_unmet (due_alarms S s)
        (all_kept (λ a. a < length S.alarms) (is_due S s) (below (length S.alarms))
        (all_below (length S.alarms)))
        (record s { alarms = alarms_advanced S s })
        (record { single = good.single; ordered = good.ordered }) all

    before_unmet : (arrived : List ℕ) (s : State) → IsRunState S s → AreUnmet s
        → AreUnmet (before_execution S arrived s).state
    before_unmet arrived s good all =
        let raised : State = arrival_phase arrived (alarm_phase S s).state in
        start_unmet (reschedule S raised).state
        (reschedule_unmet raised (alarm_phase_unmet s good all))

    tick_unmet : (arrived : List ℕ) (s : State) → IsRunState S s → AreUnmet s
        → AreUnmet (tick S arrived s).after
    unfolding tick
    tick_unmet arrived s good all =
        let at : State = (before_execution S arrived s).state in
        last_unmet (execute_phase S at).state
        (execute_unmet at (before_executing S proper arrived s good).good
        (before_unmet arrived s good all))

    -- ---- boot, and a run

    all_unmet : (ts : List ℕ) (s : State) → AreUnmet s → AreUnmet (all_activated S ts s)
    all_unmet [] s all = all
    all_unmet (t ∷ ts) s all = all_unmet ts (activated S t s) (activated_unmet S t s all)

    boot_unmet : (mode : ℕ) → AreUnmet (boot S mode).state
    unfolding boot
    boot_unmet mode =
        reschedule_unmet (all_activated S (starting_tasks S mode) (begun S proper mode))
        (all_unmet (starting_tasks S mode) (begun S proper mode) tt)

    module _ (mode : ℕ) (arrivals : List Arrival) where
      abbrev here : ℕ → State
      here n = (run S mode arrivals n).state

      pub run_unmet : (n : ℕ) → (here n).over ≡ false → AreUnmet (here n)
      run_unmet zero going = subst AreUnmet (sym (boot_state S mode arrivals)) (boot_unmet mode)
      run_unmet (suc n) going =
          let before = going_before S mode arrivals n going in
          subst AreUnmet (sym (state_more S mode arrivals n before))
          (tick_unmet (arriving arrivals n) (here n) (run_ordered S proper mode arrivals n)
          (run_unmet n before))

      pub at_unmet : (n : ℕ) → (here n).over ≡ false
          → AreUnmet (at_instruction S mode arrivals n)
      at_unmet n going =
          subst AreUnmet (at_is S proper mode arrivals n going)
          (before_unmet (arriving arrivals n) (here n) (run_ordered S proper mode arrivals n)
          (run_unmet n going))
