-- Activations of upper tasks that are answered E_OS_LIMIT are told by what the upper part executes.
use Rattle.std.proofs.Common.{◌≡◌, ℕ, true, false, cond, refl, sym, ◌∙◌, ap, ne_eqb}
use Rattle.std.specs.Prelude.{Some, None}
use Rattle.osek_base.specs.declared.ids.Owner.{Owner}
use Rattle.osek_base.specs.declared.instr.Instr.{Instr}
use Rattle.osek_base.specs.declared.instr.Service.{Service}
use Rattle.osek_base.specs.declared.status.Status.{Status}
use Rattle.osek_base.specs.declared.trace_event.Outcome.{Outcome}
use Rattle.osek_base.specs.declared.trace_event.TraceEvent.{TraceEvent}
use Rattle.osek_base.specs.System.{System}
use Rattle.osek_base.specs.Upper.{is_upper_task}
use Rattle.osek_base.specs.Separable.{names_upper}
use Rattle.osek_base.specs.Agree.{renumbered}
use Rattle.partition_check.proofs.ListsUp.{true≢false}
use Rattle.partition_check.proofs.ExecuteUp.{found}
use Rattle.law_upper.specs.ExecutedAbove.{refused_to, ExecuteTheSame, ExecutionsAreTheSame}
use Rattle.law_future.specs.Incidents.{activates, tells_limit}
use Rattle.law_upper.specs.Above.{AreOneAbove}
use Rattle.law_upper.proofs.Sides.{upper_there, of_the_part}
use Rattle.law_upper.proofs.ToldAbove.{GoesByUpper, executions_same, told_same}

-- ---- refused activations

activates_up : (S : System) (p t : ℕ) (what : Instr)
    → activates t (renumbered S p what) ≡ activates t what
activates_up S p t (Instr.Plain x) = refl
activates_up S p t (Instr.Control x) = refl
activates_up S p t (Instr.Service (Service.ActivateTask None)) = refl
activates_up S p t (Instr.Service (Service.ActivateTask (Some u))) = refl
activates_up S p t (Instr.Service (Service.ChainTask None)) = refl
activates_up S p t (Instr.Service (Service.ChainTask (Some u))) = refl
activates_up S p t (Instr.Service (Service.GetResource r)) = refl
activates_up S p t (Instr.Service (Service.ReleaseResource r)) = refl
activates_up S p t (Instr.Service (Service.LoadShared r x)) = refl
activates_up S p t (Instr.Service (Service.StoreShared r x y)) = refl
activates_up S p t (Instr.Service (Service.SetRelAlarm a x y)) = refl
activates_up S p t (Instr.Service (Service.SetAbsAlarm a x y)) = refl
activates_up S p t (Instr.Service (Service.CancelAlarm a)) = refl
activates_up S p t (Instr.Service (Service.GetAlarm a)) = refl
activates_up S p t (Instr.Service (Service.GetAlarmBase a)) = refl
activates_up S p t (Instr.Service call) = refl

-- whether an outcome is E_OS_LIMIT, of which no more is told than that
tells_up : (S : System) (p t : ℕ) (who : Owner) (place : ℕ) (what : Instr) (outcome : Outcome)
    → tells_limit t (TraceEvent.Executed who place (renumbered S p what) outcome)
    ≡ tells_limit t (TraceEvent.Executed who place what outcome)
tells_up S p t who place what (Outcome.Answer Status.Limit found) = activates_up S p t what
tells_up S p t who place what outcome = refl

tells_none : (t : ℕ) (who : Owner) (place : ℕ) (what : Instr) (outcome : Outcome)
    → activates t what ≡ false → tells_limit t (TraceEvent.Executed who place what outcome) ≡ false
tells_none t who place what (Outcome.Answer Status.Limit found) none = none
tells_none t who place what outcome none = refl

lower_not : (S : System) (p t : ℕ) → is_upper_task S p t ≡ true → (what : Instr)
    → names_upper S p what ≡ false → activates t what ≡ false
lower_not S p t high (Instr.Plain x) low = refl
lower_not S p t high (Instr.Control x) low = refl
lower_not S p t high (Instr.Service (Service.ActivateTask None)) low = refl
lower_not S p t high (Instr.Service (Service.ActivateTask (Some u))) low =
    ne_eqb u t (λ e. true≢false (sym high ∙ ap (is_upper_task S p) (sym e) ∙ low))
lower_not S p t high (Instr.Service (Service.ChainTask None)) low = refl
lower_not S p t high (Instr.Service (Service.ChainTask (Some u))) low =
    ne_eqb u t (λ e. true≢false (sym high ∙ ap (is_upper_task S p) (sym e) ∙ low))
lower_not S p t high (Instr.Service call) low = refl

pub refusals_upper : (S : System) (p t : ℕ) → is_upper_task S p t ≡ true
    → GoesByUpper (refused_to t) S p
refusals_upper S p t high =
    record {
      only =
          record {
            pre = λ u. refl;
            post = λ u. refl;
            error = λ who what status. refl;
            shutdown = λ n. refl;
          };
      idle = refl;
      upper = λ who place what outcome is.
          ap (λ b. cond b (Some who) None) (sym (tells_up S p t who place what outcome));
      lower = λ who place what outcome low named.
          ap (λ b. cond b (Some who) None)
          (tells_none t who place what outcome (lower_not S p t high what named));
    }

execute_the_same : (S B : System) (p : ℕ) → AreOneAbove S B p → ExecuteTheSame S B p
execute_the_same S B p pair =
    record {
      executions = executions_same S B p pair;
      refusals = λ mode arrivals n t mine.
          told_same (refused_to t) S B p pair (refusals_upper S p t mine.upper)
          (refusals_upper B p t (upper_there S B p pair t mine).upper) mode arrivals n;
    }

pub executions_are_the_same : ExecutionsAreTheSame
executions_are_the_same = of_the_part ExecuteTheSame execute_the_same
