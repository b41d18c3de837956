-- The tick of a run: the state at its instruction, and what is known of it.
use Rattle.std.proofs.Common.{ℕ, suc, ◌≡◌, false, sym, ◌∙◌, ap, subst}
use Rattle.std.specs.Prelude.{List}
use Rattle.osek_base.specs.declared.arrivals.Arrival.{Arrival}
use Rattle.osek_base.specs.Proper.{IsProper}
use Rattle.osek_base.specs.Service.{Caller}
use Rattle.osek_base.specs.State.{State}
use Rattle.osek_base.specs.System.{System}
use Rattle.osek_base.specs.Tick.{before_execution, caller_executes, execute_phase, executor, tick}
use Rattle.osek_base.specs.Trace.{arriving, run}
use Rattle.law_runs.proofs.Formed.{HasForm}
use Rattle.law_runs.proofs.FormedPhases.{before_form}
use Rattle.law_runs.proofs.FormedTick.{run_form}
use Rattle.law_runs.proofs.RankedTick.{IsExecuting, before_executing, run_ordered}
use Rattle.law_runs.proofs.RunSteps.{going_before, run_tick, state_more}
use Rattle.law_blockers.proofs.StepLemmas.{executing_is}
use Rattle.law_windows.proofs.Routines.{behind_over}
use Rattle.law_costs.specs.Known.{at_instruction}
use Rattle.law_costs.proofs.Instructions.{behind_instruction}

pub executed_is : (S : System) (s : State) (who : Caller) → executor s ≡ who
    → (execute_phase S s).state ≡ (caller_executes S who s).state
unfolding execute_phase
executed_is S s who is = ap (λ by. (caller_executes S by s).state) is

module _ (S : System) (proper : IsProper S) (mode : ℕ) (arrivals : List Arrival) (n : ℕ) where
  abbrev here : State
  here = (run S mode arrivals n).state

  abbrev at : State
  at = at_instruction S mode arrivals n

  module _ (going : here.over ≡ false) where
    pub at_is : (before_execution S (arriving arrivals n) here).state ≡ at
    at_is = executing_is S mode arrivals n going

    pub executing : IsExecuting S proper at
    executing =
        subst (IsExecuting S proper) at_is
        (before_executing S proper (arriving arrivals n) here
        (run_ordered S proper mode arrivals n))

    pub at_form : HasForm S at
    at_form =
        subst (HasForm S) at_is
        (before_form S proper (arriving arrivals n) here (run_form S proper mode arrivals n))

  pub goes_on : (run S mode arrivals (suc n)).state.over ≡ false
      → (behind_instruction S mode arrivals n).over ≡ false
  goes_on later =
      let going = going_before S mode arrivals n later in
      ap (λ t. (execute_phase S (tick S (arriving arrivals t) here).executing).state.over)
      (run_tick S mode arrivals n going)
      ∙ sym (behind_over S (arriving arrivals n) here)
      ∙ sym (ap (λ (s : State). s.over) (state_more S mode arrivals n going)) ∙ later
