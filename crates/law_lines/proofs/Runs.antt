-- The records of every run are in range.
use Rattle.std.proofs.Common.{ℕ, zero, suc, ◌≡◌, ◌<◌, Bool, true, false, List, refl, ◌∙◌, arith}
use Rattle.std.specs.List.{AllByRecursion}
use Rattle.osek_base.specs.declared.arrivals.Arrival.{Arrival}
use Rattle.osek_base.specs.Proper.{IsProper}
use Rattle.osek_base.specs.State.{State}
use Rattle.osek_base.specs.System.{System}
use Rattle.osek_base.specs.Tick.{Step, before_execution, execute_phase, from_execution, last_phase, tick}
use Rattle.osek_base.specs.Trace.{Run, arriving, run, step_added}
use Rattle.law_runs.proofs.Formed.{HasForm}
use Rattle.law_runs.proofs.FormedPhases.{before_form}
use Rattle.law_runs.proofs.FormedTick.{run_form}
use Rattle.law_runs.proofs.Lists.{all_append, all_weaker}
use Rattle.law_runs.proofs.RankedTick.{IsRunState, before_executing, run_ordered}
use Rattle.law_runs.proofs.RunSteps.{run_tick}
use Rattle.law_lines.specs.HeldWords.{RunsHoldWords}
use Rattle.law_lines.proofs.Boot.{boot_recorded}
use Rattle.law_lines.proofs.Events.{IsInRange}
use Rattle.law_lines.proofs.Executing.{execute_recorded}
use Rattle.law_lines.proofs.Phases.{before_recorded, last_recorded, later_words}
use Rattle.law_lines.proofs.Words.{HasWords}

-- a step of a tick before tick n, whose records are in range
pub record IsStepInRange (S : System) (n : ℕ) (step : Step) : Type 0 where
  pub number : step.number < n
  pub events : AllByRecursion (IsInRange S) step.events

-- the steps of a run of n ticks are in range, and so is what goes on
pub record IsRunInRange (S : System) (n : ℕ) (r : Run) : Type 0 where
  pub steps : AllByRecursion (IsStepInRange S n) r.steps
  pub state : HasWords S r.state
  pub unwritten : AllByRecursion (IsInRange S) r.unwritten

module _ (S : System) (proper : IsProper S) where
  record IsTickInRange (step : Step) : Type 0 where
    events : AllByRecursion (IsInRange S) step.events
    state : HasWords S step.after

  tick_in_range : (arrived : List ℕ) (s : State) → IsRunState S s → HasForm S s → HasWords S s
      → IsTickInRange (tick S arrived s)
  unfolding tick
  tick_in_range arrived s good form h =
      let ready : State = (before_execution S arrived s).state in
      let first = before_recorded S proper arrived s h in
      let executed = execute_recorded S proper ready
      (before_executing S proper arrived s good).good.single
      (before_form S proper arrived s form) first.state in
      let left : State = (execute_phase S ready).state in
      let last = last_recorded S left executed.state in
      record {
        events = all_append (IsInRange S) (before_execution S arrived s).events
            (from_execution S ready).events first.events
            (all_append (IsInRange S) (execute_phase S ready).events
            (last_phase S left).events executed.events last.events);
        state = later_words S (last_phase S left).state last.state;
      }

  number_is : (arrived : List ℕ) (s : State) → (tick S arrived s).number ≡ s.tick
  unfolding tick
  number_is arrived s = refl

  later_steps : (n : ℕ) (steps : List Step) → AllByRecursion (IsStepInRange S n) steps
      → AllByRecursion (IsStepInRange S (suc n)) steps
  later_steps n steps all =
      all_weaker (IsStepInRange S n) (IsStepInRange S (suc n)) steps
      (λ step h. record { number = let low = h.number in omega (arith, low); events = h.events })
      all

  module _ (mode : ℕ) (arrivals : List Arrival) where
    -- one tick further, at an over of one's own
    abbrev further : Run → Bool → Run
    further r over =
        elim over
        [ true ↦ r | false ↦ step_added r (tick S (arriving arrivals r.state.tick) r.state) ]

    more : (n : ℕ) (r : Run) (over : Bool) → (over ≡ false → r.state.tick ≡ n)
        → IsRunState S r.state → HasForm S r.state → IsRunInRange S n r
        → IsRunInRange S (suc n) (further r over)
    more n r true is good form h =
        record { steps = later_steps n r.steps h.steps; state = h.state; unwritten = h.unwritten }
    more n r false is good form h =
        let arrived = arriving arrivals r.state.tick in
        let step : Step = tick S arrived r.state in
        let next = tick_in_range arrived r.state good form h.state in
        let number : step.number ≡ n = number_is arrived r.state ∙ is refl in
        let events = all_append (IsInRange S) r.unwritten step.events h.unwritten next.events in
        record {
          steps = all_append (IsStepInRange S (suc n)) r.steps _ (later_steps n r.steps h.steps)
              (record { number = omega (arith, number); events = events }, tt);
          state = next.state;
          unwritten = tt;
        }

    pub run_in_range : (n : ℕ) → IsRunInRange S n (run S mode arrivals n)
    unfolding run
    run_in_range zero =
        let booted = boot_recorded S proper mode in
        record { steps = tt; state = booted.state; unwritten = booted.events }
    run_in_range (suc n) =
        let r : Run = run S mode arrivals n in
        more n r r.state.over (run_tick S mode arrivals n) (run_ordered S proper mode arrivals n)
        (run_form S proper mode arrivals n) (run_in_range n)

pub runs_hold_words : RunsHoldWords
runs_hold_words S mode arrivals n proper =
    let h = (run_in_range S proper mode arrivals n).state in
    record {
      jobs = h.objects.jobs;
      active = h.active;
      words = h.words;
      shared = h.objects.shared;
      masks = h.objects.masks;
      alarms = h.objects.alarms;
    }
