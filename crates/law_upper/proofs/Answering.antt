-- Whether a service of the upper part fails is told by what the upper part executes.
use Rattle.std.proofs.Common.{◌≡◌, ℕ, Bool, true, false, ◌&&◌, List, [], ◌∷◌, refl, sym, ◌∙◌, ap, true≢false}
use Rattle.std.specs.Prelude.{Option, Some, None, ◌||◌}
use Rattle.std.specs.List.{list_any}
use Rattle.std.specs.Option.{option_map}
use Rattle.osek_base.specs.declared.executed.Executed.{Executed}
use Rattle.osek_base.specs.declared.ids.Owner.{Owner}
use Rattle.osek_base.specs.declared.instr.Instr.{Instr}
use Rattle.osek_base.specs.declared.trace_event.Outcome.{Outcome}
use Rattle.osek_base.specs.declared.trace_event.TraceEvent.{TraceEvent}
use Rattle.osek_base.specs.System.{System, instruction_at}
use Rattle.osek_base.specs.Upper.{is_upper_owner}
use Rattle.law_runs.proofs.Records.{is_executed}
use Rattle.seen_ticks.specs.Observed.{answered, executed_in, owner_of, status_of}
use Rattle.view_figures.specs.FigureSums.{is_error}
use Rattle.law_upper.specs.ExecutedAbove.{upper_execution, upper_executions}
use Rattle.law_upper.proofs.Executing.{TellsOne, executed_of_one, record_of, told_of_one}

-- whether a record tells of a service that fails, by an owner that passes a test
abbrev pub fails : (Option Owner → Bool) → TraceEvent → Bool
fails test (TraceEvent.Executed who place what outcome) =
    test (Some who) && is_error (status_of outcome)
fails test _ = false

-- whether what was executed does
abbrev pub has_failed : (Option Owner → Bool) → Option Executed → Bool
has_failed test told = test (option_map owner_of told) && is_error (answered told)

pub only_one : (b : Bool) → (b || false) ≡ b
only_one true = refl
only_one false = refl

nobody_fails : (a b : Bool) → a ≡ false → (a && b) ≡ false
nobody_fails true b none = absurd (true≢false none)
nobody_fails false b none = refl

pub of_executions : (S : System) (p : ℕ) (e : TraceEvent) → is_executed e ≡ false
    → upper_execution S p e ≡ None
of_executions S p (TraceEvent.Executed who place what outcome) none =
    absurd (true≢false none)
of_executions S p _ none = refl

-- of a test that only upper owners pass
module _ (S : System) (p : ℕ) (test : Option Owner → Bool) (nobody : test None ≡ false)
    (only : (who : Owner) → is_upper_owner S p who ≡ false → test (Some who) ≡ false) where
  failed_told : (told : Option Executed) → has_failed test told ≡ fails test (record_of S told)
  failed_told None = nobody_fails (test None) false nobody
  failed_told (Some e) = refl

  abbrev Above : TraceEvent → Type 0
  Above e = list_any (fails test) (upper_executions S p (e ∷ [])) ≡ fails test e

  fails_above : (who : Owner) (place : ℕ) (what : Instr) (outcome : Outcome)
      → Above (TraceEvent.Executed who place what outcome)
  fails_above who place what outcome = go (is_upper_owner S p who) refl
    where
      go : (b : Bool) → is_upper_owner S p who ≡ b
          → Above (TraceEvent.Executed who place what outcome)
      go true is = rw is (only_one (test (Some who) && is_error (status_of outcome)))
      go false is = rw is
          (sym (nobody_fails (test (Some who)) (is_error (status_of outcome)) (only who is)))

  record_above : (told : Option Executed) → Above (record_of S told)
  record_above None = refl
  record_above (Some e) =
      fails_above e.owner e.place (instruction_at S e.owner e.place) e.outcome

  pub failed_is : (events : List TraceEvent) → TellsOne S events
      → has_failed test (executed_in events)
      ≡ list_any (fails test) (upper_executions S p events)
  failed_is events one =
      ap (has_failed test) (executed_of_one S events one)
      ∙ failed_told one.told
      ∙ sym (record_above one.told)
      ∙ sym (ap (list_any (fails test))
      (told_of_one (upper_execution S p) (of_executions S p) S events one))
