-- Ticks of a run whose records leave no mark in a picture.
use Rattle.std.proofs.Common.{◌≡◌, ℕ, List, [], ◌∷◌, ◌++◌, refl, sym, ap, ◌∙◌}
use Rattle.std.specs.Prelude.{Option, Some, None}
use Rattle.std.proofs.lemmas.Option.{none-some}
use Rattle.law_blockers.specs.Steps.{record_at}
use Rattle.seen_runs.specs.Passing.{TellsNoAnswer}
use Rattle.osek_base.specs.declared.arrivals.Arrival.{Arrival}
use Rattle.osek_base.specs.declared.executed.Executed.{Executed}
use Rattle.osek_base.specs.declared.ids.Owner.{Owner}
use Rattle.osek_base.specs.declared.instr.Instr.{Instr}
use Rattle.osek_base.specs.declared.trace_event.Outcome.{Outcome}
use Rattle.osek_base.specs.declared.trace_event.TraceEvent.{TraceEvent}
use Rattle.osek_base.specs.Executed.{idle_or_executed}
use Rattle.osek_base.specs.System.{System, instruction_at}
use Rattle.seen_ticks.specs.Observed.{answered, status_of}
use Rattle.view_timelines.specs.Marks.{LeaveNothing, placed_on, records_signs, telling}

no_answer : (who : Owner) (place : ℕ) (what : Instr) (outcome : Outcome) → status_of outcome ≡ None
    → telling (TraceEvent.Executed who place what outcome) ≡ None
no_answer who place what (Outcome.Plain effect) h = refl
no_answer who place what (Outcome.Answer status found) h = absurd (none-some status (sym h))
no_answer who place what Outcome.Control h = refl

nothing_left : (S : System) (e : Option Executed) → answered e ≡ None → LeaveNothing (idle_or_executed S e ∷ [])
nothing_left S None h who = refl
nothing_left S (Some e) h who =
    ap (λ x. placed_on who x ++ []) (no_answer e.owner e.place (instruction_at S e.owner e.place) e.outcome h)

pub leaves_nothing : (S : System) (mode : ℕ) (arrivals : List Arrival) (t : ℕ) → TellsNoAnswer S mode arrivals t
    → LeaveNothing (record_at S mode arrivals t)
leaves_nothing S mode arrivals t tells who =
    ap (λ es. records_signs es who) tells.recorded ∙ nothing_left S tells.executed tells.answer who
