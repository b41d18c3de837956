-- What a tick's instruction does to upper tasks is told by the upper part's executions, and by the
-- activations that are refused.
use Rattle.std.proofs.Common.{◌≡◌, ℕ, Bool, true, false, cond, ◌&&◌, List, [], ◌∷◌, refl, sym, ◌∙◌, ap, true≢false, ne_eqb}
use Rattle.std.specs.Prelude.{Option, Some, None}
use Rattle.std.specs.List.{list_any}
use Rattle.osek_base.specs.declared.executed.Executed.{Executed}
use Rattle.osek_base.specs.declared.ids.Owner.{Owner}
use Rattle.osek_base.specs.declared.instr.Instr.{Instr}
use Rattle.osek_base.specs.declared.instr.Service.{Service}
use Rattle.osek_base.specs.declared.status.Status.{Status}
use Rattle.osek_base.specs.declared.trace_event.Outcome.{Outcome}
use Rattle.osek_base.specs.declared.trace_event.TraceEvent.{TraceEvent}
use Rattle.osek_base.specs.Agree.{renumbered}
use Rattle.osek_base.specs.System.{System, instruction_at}
use Rattle.osek_base.specs.Upper.{is_upper_owner, is_upper_task}
use Rattle.law_runs.proofs.Records.{is_executed}
use Rattle.law_future.specs.Incidents.{activates as activates_it, tells_limit}
use Rattle.seen_ticks.specs.Observed.{activates, ending, executed_in, is_accepted, is_end, is_limit, is_number, refusing, task_of}
use Rattle.law_upper.specs.ExecutedAbove.{refusals_of, refused_to, upper_execution, upper_executions}
use Rattle.law_upper.proofs.Answering.{of_executions, only_one}
use Rattle.law_upper.proofs.Executing.{TellsOne, executed_of_one, record_of, told_of_one}

-- ---- jobs that end

-- whether a record tells that a job of a task ends
abbrev pub ends_job : ℕ → TraceEvent → Bool
ends_job t (TraceEvent.Executed who place what outcome) =
    (is_accepted outcome && is_end what) && is_number t (task_of who)
ends_job t _ = false

number_where : (t : ℕ) (b : Bool) (o : Option ℕ)
    → is_number t (cond b o None) ≡ (b && is_number t o)
number_where t true o = refl
number_where t false o = refl

ending_told : (S : System) (t : ℕ) (told : Option Executed)
    → is_number t (ending S told) ≡ ends_job t (record_of S told)
ending_told S t None = refl
ending_told S t (Some e) =
    number_where t (is_accepted e.outcome && is_end (instruction_at S e.owner e.place))
    (task_of e.owner)

end_up : (S : System) (p : ℕ) (what : Instr) → is_end (renumbered S p what) ≡ is_end what
end_up S p (Instr.Plain x) = refl
end_up S p (Instr.Control x) = refl
end_up S p (Instr.Service (Service.GetResource r)) = refl
end_up S p (Instr.Service (Service.ReleaseResource r)) = refl
end_up S p (Instr.Service (Service.LoadShared r x)) = refl
end_up S p (Instr.Service (Service.StoreShared r x y)) = refl
end_up S p (Instr.Service (Service.SetRelAlarm a x y)) = refl
end_up S p (Instr.Service (Service.SetAbsAlarm a x y)) = refl
end_up S p (Instr.Service (Service.CancelAlarm a)) = refl
end_up S p (Instr.Service (Service.GetAlarm a)) = refl
end_up S p (Instr.Service (Service.GetAlarmBase a)) = refl
end_up S p (Instr.Service call) = refl

no_end : (a b : Bool) → b ≡ false → ((a && b) ≡ false)
no_end true b none = none
no_end false b none = refl

module _ (S : System) (p t : ℕ) (high : is_upper_task S p t ≡ true) where
  other_owner : (who : Owner) → is_upper_owner S p who ≡ false
      → is_number t (task_of who) ≡ false
  other_owner (Owner.Task u) low =
      ne_eqb u t (λ e. true≢false (sym high ∙ ap (is_upper_task S p) (sym e) ∙ low))
  other_owner (Owner.Routine i) low = refl

  abbrev Above : TraceEvent → Type 0
  Above e = list_any (ends_job t) (upper_executions S p (e ∷ [])) ≡ ends_job t e

  ends_above : (who : Owner) (place : ℕ) (what : Instr) (outcome : Outcome)
      → Above (TraceEvent.Executed who place what outcome)
  ends_above who place what outcome = go (is_upper_owner S p who) refl
    where
      go : (b : Bool) → is_upper_owner S p who ≡ b
          → Above (TraceEvent.Executed who place what outcome)
      go true is =
          rw is
          (only_one ((is_accepted outcome && is_end (renumbered S p what))
          && is_number t (task_of who))
          ∙ ap (λ b. (is_accepted outcome && b) && is_number t (task_of who)) (end_up S p what))
      go false is = rw is
          (sym (no_end (is_accepted outcome && is_end what) (is_number t (task_of who))
          (other_owner who is)))

  record_above : (told : Option Executed) → Above (record_of S told)
  record_above None = refl
  record_above (Some e) =
      ends_above e.owner e.place (instruction_at S e.owner e.place) e.outcome

-- ---- activations that are refused

limit_told : (S : System) (t : ℕ) (told : Option Executed)
    → is_number t (refusing S told) ≡ tells_limit t (record_of S told)
limit_told S t None = refl
limit_told S t (Some e) = by_outcome (instruction_at S e.owner e.place) e.outcome
  where
    by_instruction : (what : Instr) → is_number t (activates what) ≡ activates_it t what
    by_instruction (Instr.Plain x) = refl
    by_instruction (Instr.Control x) = refl
    by_instruction (Instr.Service (Service.ActivateTask None)) = refl
    by_instruction (Instr.Service (Service.ActivateTask (Some u))) = refl
    by_instruction (Instr.Service (Service.ChainTask None)) = refl
    by_instruction (Instr.Service (Service.ChainTask (Some u))) = refl
    by_instruction (Instr.Service call) = refl

    by_outcome : (what : Instr) (outcome : Outcome)
        → is_number t (cond (is_limit outcome) (activates what) None)
        ≡ tells_limit t (TraceEvent.Executed e.owner e.place what outcome)
    by_outcome what (Outcome.Answer Status.Limit found) = by_instruction what
    by_outcome what outcome = refl

abbrev pub is_any : List Owner → Bool
is_any [] = false
is_any (n ∷ ns) = true

limit_any : (S : System) (t : ℕ) (told : Option Executed)
    → tells_limit t (record_of S told) ≡ is_any (refusals_of t (record_of S told ∷ []))
limit_any S t None = refl
limit_any S t (Some e) =
    go (tells_limit t (record_of S (Some e))) refl
  where
    go : (b : Bool) → tells_limit t (record_of S (Some e)) ≡ b
        → tells_limit t (record_of S (Some e)) ≡ is_any (refusals_of t (record_of S (Some e) ∷ []))
    go true is = rw is refl
    go false is = rw is refl

of_refusals : (t : ℕ) (e : TraceEvent) → is_executed e ≡ false → refused_to t e ≡ None
of_refusals t (TraceEvent.Executed who place what outcome) none = absurd (true≢false none)
of_refusals t _ none = refl

-- ---- in records with one instruction at most

module _ (S : System) (events : List TraceEvent) (one : TellsOne S events) where
  pub ending_is : (p t : ℕ) → is_upper_task S p t ≡ true
      → is_number t (ending S (executed_in events))
      ≡ list_any (ends_job t) (upper_executions S p events)
  ending_is p t high =
      ap (λ told. is_number t (ending S told)) (executed_of_one S events one)
      ∙ ending_told S t one.told
      ∙ sym (record_above S p t high one.told)
      ∙ sym (ap (list_any (ends_job t))
      (told_of_one (upper_execution S p) (of_executions S p) S events one))

  pub refusing_is : (t : ℕ)
      → is_number t (refusing S (executed_in events)) ≡ is_any (refusals_of t events)
  refusing_is t =
      ap (λ told. is_number t (refusing S told)) (executed_of_one S events one)
      ∙ limit_told S t one.told
      ∙ limit_any S t one.told
      ∙ sym (ap is_any (told_of_one (refused_to t) (of_refusals t) S events one))
