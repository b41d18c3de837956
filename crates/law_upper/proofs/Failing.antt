-- The service of the upper part that fails in a tick is told by what the upper part executes.
use Rattle.std.proofs.Common.{◌≡◌, ℕ, Bool, true, false, cond, List, [], ◌∷◌, refl, sym, ◌∙◌, ap}
use Rattle.std.specs.Prelude.{Option, Some, None, if◌then◌else◌, nat_lt}
use Rattle.osek_base.specs.declared.executed.Executed.{Executed}
use Rattle.osek_base.specs.declared.status.Status.{Status}
use Rattle.osek_base.specs.declared.trace_event.TraceEvent.{TraceEvent}
use Rattle.osek_base.specs.System.{System}
use Rattle.osek_base.specs.Tick.{status_number}
use Rattle.osek_base.specs.Upper.{is_upper_owner}
use Rattle.seen_ticks.specs.declared.failures.Failure.{Failure}
use Rattle.seen_ticks.specs.Observed.{executed_in, failure_by, failure_of, status_of}
use Rattle.law_upper.specs.ExecutedAbove.{upper_execution, upper_executions}
use Rattle.law_upper.specs.ShownAbove.{if_upper}
use Rattle.law_upper.proofs.Answering.{of_executions}
use Rattle.law_upper.proofs.Executing.{TellsOne, executed_of_one, record_of, told_of_one}

-- the service that fails, as records tell it
abbrev pub failure_told : List TraceEvent → Option Failure
failure_told events = failure_of (executed_in events)

module _ (S : System) (p : ℕ) where
  upper_of : (x : Failure) (upper : Bool) → is_upper_owner S p x.owner ≡ upper → (b : Bool)
      → if_upper S p (if b then Some x else None) ≡ cond upper (if b then Some x else None) None
  upper_of x true is true = rw is refl
  upper_of x false is true = rw is refl
  upper_of x true is false = refl
  upper_of x false is false = refl

  upper_by : (e : Executed) (upper : Bool) → is_upper_owner S p e.owner ≡ upper
      → (answer : Option Status)
      → if_upper S p (failure_by e answer) ≡ cond upper (failure_by e answer) None
  upper_by e true is None = refl
  upper_by e false is None = refl
  upper_by e upper is (Some status) =
      upper_of (record { owner = e.owner; place = e.place; status = status }) upper is
      (nat_lt 0 (status_number status))

  of_record : (told : Option Executed)
      → if_upper S p (failure_of told)
      ≡ failure_told (upper_executions S p (record_of S told ∷ []))
  of_record None = refl
  of_record (Some e) = go (is_upper_owner S p e.owner) refl
    where
      go : (upper : Bool) → is_upper_owner S p e.owner ≡ upper
          → if_upper S p (failure_of (Some e))
          ≡ failure_told (upper_executions S p (record_of S (Some e) ∷ []))
      go true is = upper_by e true is (status_of e.outcome) ∙ rw is refl
      go false is = upper_by e false is (status_of e.outcome) ∙ rw is refl

  pub failure_is : (events : List TraceEvent) → TellsOne S events
      → if_upper S p (failure_of (executed_in events))
      ≡ failure_told (upper_executions S p events)
  failure_is events one =
      ap (λ (e : Option Executed). if_upper S p (failure_of e)) (executed_of_one S events one)
      ∙ of_record one.told
      ∙ sym (ap failure_told
      (told_of_one (upper_execution S p) (of_executions S p) S events one))
