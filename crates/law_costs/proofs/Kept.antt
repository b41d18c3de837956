-- What holds of jobs in each state of a run: of those below the level little is left, and one
-- runs where interrupts are off.
use Rattle.std.proofs.Common.{ℕ, zero, suc, ◌≡◌, ◌+◌, Bool, true, false, cond, refl, sym, ◌∙◌, ap, subst}
use Rattle.std.specs.Prelude.{List, Option}
use Rattle.osek_base.specs.declared.arrivals.Arrival.{Arrival}
use Rattle.osek_base.specs.Proper.{IsProper}
use Rattle.osek_base.specs.Reschedule.{reschedule}
use Rattle.osek_base.specs.Service.{Caller, JobCalls, NobodyCalls, RoutineCalls}
use Rattle.osek_base.specs.State.{Job, JobId, State, interrupts_off}
use Rattle.osek_base.specs.System.{System}
use Rattle.osek_base.specs.Tick.{alarm_phase, arrival_phase, before_execution, caller_executes, execute_phase, executor, last_phase, silent, tick}
use Rattle.osek_base.specs.Trace.{all_activated, arriving, boot, run, starting_tasks}
use Rattle.law_runs.proofs.Known.{IsCaller, executor_calls}
use Rattle.law_runs.proofs.Lists.{clash}
use Rattle.law_runs.proofs.RankedTick.{IsExecuting, IsRunState, alarm_phase_ordered, before_executing, begun_ordered, execute_left, first_ordered, run_ordered}
use Rattle.law_runs.proofs.RunSteps.{going_before, state_more}
use Rattle.law_runs.proofs.Single.{IsSingle}
use Rattle.law_runs.proofs.SingleTick.{begun, execute_single, started_keep}
use Rattle.law_costs.specs.Left.{Switch, Weights, is_off}
use Rattle.law_costs.specs.Paying.{PayForDispatch}
use Rattle.law_costs.specs.Known.{at_instruction}
use Rattle.law_costs.specs.Jobs.{PaysIn}
use Rattle.law_costs.proofs.Boot.{all_switch, boot_state}
use Rattle.law_costs.proofs.Executed.{job_held, routine_held}
use Rattle.law_costs.proofs.InstructionKeeps.{job_keeps, routine_keeps}
use Rattle.law_costs.proofs.Instructions.{PayForRunJobs}
use Rattle.law_costs.proofs.InTicks.{at_is, executed_is, goes_on}
use Rattle.law_costs.proofs.JobsKeep.{Lasts, activated_keeps, alarm_phase_keeps, reschedule_keeps, start_keeps}
use Rattle.law_costs.proofs.Low.{AreLow, IsLow, low_lasts, own_low}
use Rattle.law_costs.proofs.Running.{IsHeld, IsLed, alarm_phase_held, led_tick, reschedule_held, reschedule_led, start_held, start_led}

module _ (S : System) (p : ℕ) (c : Weights) (proper : IsProper S)
    (dispatch : PayForDispatch S p c) where
  abbrev Low : Option JobId → Switch → Job → Type 0
  Low = IsLow S p c

  lasts : Lasts S Low
  lasts = low_lasts S p c dispatch

  pub record IsKept (s : State) : Type 0 where
    pub low : AreLow S p c s
    pub held : IsHeld s

  pub record IsKeptAndLed (s : State) : Type 0 where
    pub kept : IsKept s
    pub led : IsLed s

  -- ---- phases 1 to 4

  module _ (arrived : List ℕ) (s : State) (good : IsRunState S s) (kept : IsKept s) where
    abbrev raised : State
    raised = arrival_phase arrived (alarm_phase S s).state

    abbrev there : State
    there = (reschedule S raised).state

    acted_good : IsRunState S (alarm_phase S s).state
    acted_good = alarm_phase_ordered S proper s good

    raised_held : IsHeld raised
    raised_held = alarm_phase_held S proper s good kept.held

    before_kept : IsKept (before_execution S arrived s).state
    before_kept = record {
      low =
          start_keeps S Low there
          (reschedule_keeps S Low lasts raised acted_good.single acted_good.ordered.ranked
          (alarm_phase_keeps S Low lasts proper s good kept.low));
      held = start_held S there (reschedule_held S raised raised_held);
    }

    before_led : IsLed (before_execution S arrived s).state
    before_led = start_led S there (reschedule_led S raised raised_held)

  -- ---- phase 5

  module _ (s : State) (executing : IsExecuting S proper s) (kept : IsKept s)
      (pays : (j : Job) → executor s ≡ JobCalls j → PaysIn S p c s j) where
    by_caller : (who : Caller) → executor s ≡ who → IsCaller s who
        → IsKept (caller_executes S who s).state
    by_caller (JobCalls j) is calls = record {
      low =
          job_keeps S Low lasts s executing.good kept.low j calls
          (subst (IsSingle S) (executed_is S s (JobCalls j) is)
          (execute_single S proper s executing.good.single))
          (own_low S p c dispatch s j calls (pays j is));
      held = job_held S s j calls;
    }
    by_caller (RoutineCalls a) is calls = record {
      low = routine_keeps S Low lasts s executing.good kept.low a calls;
      held = routine_held S s a calls;
    }
    by_caller NobodyCalls is calls = kept

    executed_kept : IsKept (execute_phase S s).state
    executed_kept =
        subst IsKept (sym (executed_is S s (executor s) refl))
        (by_caller (executor s) refl (executor_calls s))

    -- ---- phase 6

    abbrev e : State
    e = (execute_phase S s).state

    last_kept : e.over ≡ false → IsKeptAndLed (last_phase S e).state
    last_kept going = go e.over refl
      where
        go : (b : Bool) → e.over ≡ b → IsKeptAndLed (cond b (silent e) (reschedule S e)).state
        go true is = clash (sym is ∙ going)
        go false is = record {
          kept =
              record {
                low =
                    reschedule_keeps S Low lasts e
                    (execute_single S proper s executing.good.single)
                    (execute_left S proper s executing).ranked executed_kept.low;
                held = reschedule_held S e executed_kept.held;
              };
          led = reschedule_led S e executed_kept.held;
        }

  tick_kept : (arrived : List ℕ) (s : State) → IsRunState S s → IsKept s
      → ((j : Job) → executor (before_execution S arrived s).state ≡ JobCalls j
      → PaysIn S p c (before_execution S arrived s).state j)
      → (execute_phase S (before_execution S arrived s).state).state.over ≡ false
      → IsKeptAndLed (tick S arrived s).after
  unfolding tick
  tick_kept arrived s good kept pays going =
      let last =
      last_kept (before_execution S arrived s).state (before_executing S proper arrived s good)
      (before_kept arrived s good kept) pays going in
      record {
        kept = record { low = last.kept.low; held = last.kept.held };
        led = led_tick last_state (last_state.tick + 1) last.led;
      }
    where
      last_state : State
      last_state =
          (last_phase S (execute_phase S (before_execution S arrived s).state).state).state

  -- ---- boot

  pub record IsBooting (s : State) : Type 0 where
    pub good : IsRunState S s
    pub low : AreLow S p c s

  boot_kept : (mode : ℕ) → IsKept (boot S mode).state
  unfolding boot
  boot_kept mode =
      let ready : IsBooting started =
      started_keep S proper IsBooting
      (λ t s inside older h. record {
        good = first_ordered S proper t s inside older h.good;
        low = activated_keeps S Low lasts t s h.good h.low;
      })
      mode (record { good = begun_ordered S proper mode; low = tt }) in
      record {
        low =
            reschedule_keeps S Low lasts started ready.good.single ready.good.ordered.ranked
            ready.low;
        held = reschedule_held S started (λ idle off. clash (sym off ∙ on));
      }
    where
      started : State
      started = all_activated S (starting_tasks S mode) (begun S proper mode)

      on : interrupts_off started ≡ false
      on = ap is_off (all_switch S (starting_tasks S mode) (begun S proper mode))

  -- ---- a run

  module _ (mode : ℕ) (arrivals : List Arrival) (jobs : PayForRunJobs S mode arrivals p c) where
    abbrev here : ℕ → State
    here n = (run S mode arrivals n).state

    module _ (n : ℕ) (later : (here (suc n)).over ≡ false) where
      going : (here n).over ≡ false
      going = going_before S mode arrivals n later

      next : IsKept (here n) → IsKeptAndLed (here (suc n))
      next kept =
          subst IsKeptAndLed (sym (state_more S mode arrivals n going))
          (tick_kept (arriving arrivals n) (here n) (run_ordered S proper mode arrivals n) kept
          (λ j is.
          subst (λ s. PaysIn S p c s j) (sym (at_is S proper mode arrivals n going))
          (jobs n j later (ap executor (sym (at_is S proper mode arrivals n going)) ∙ is)))
          (ap (λ s. (execute_phase S s).state.over) (at_is S proper mode arrivals n going)
          ∙ goes_on S proper mode arrivals n later))

    pub run_kept : (n : ℕ) → (here n).over ≡ false → IsKept (here n)
    run_kept zero later = subst IsKept (sym (boot_state S mode arrivals)) (boot_kept mode)
    run_kept (suc n) later = (next n later (run_kept n (going n later))).kept

    module _ (n : ℕ) (later : (here (suc n)).over ≡ false) where
      -- behind a tick
      pub behind_led : IsLed (here (suc n))
      behind_led = (next n later (run_kept n (going n later))).led

      -- at its instruction
      pub at_kept : IsKept (at_instruction S mode arrivals n)
      at_kept =
          subst IsKept (at_is S proper mode arrivals n (going n later))
          (before_kept (arriving arrivals n) (here n) (run_ordered S proper mode arrivals n)
          (run_kept n (going n later)))

      pub at_led : IsLed (at_instruction S mode arrivals n)
      at_led =
          subst IsLed (at_is S proper mode arrivals n (going n later))
          (before_led (arriving arrivals n) (here n) (run_ordered S proper mode arrivals n)
          (run_kept n (going n later)))
