-- What a machine's tick executed is what the records of the definitions' tick tell.
use Rattle.std.proofs.Common.{◌≡◌, ℕ, ◌∷◌, ◌++◌, Bool, false, List, sym, ◌∙◌, ap, ap₂}
use Rattle.std.specs.Prelude.{Option}
use Rattle.osek_base.specs.declared.arrivals.Arrival.{Arrival}
use Rattle.osek_base.specs.declared.executed.Executed.{Executed}
use Rattle.osek_base.specs.declared.trace_event.TraceEvent.{TraceEvent}
use Rattle.osek_base.specs.Executed.{idle_or_executed}
use Rattle.osek_base.specs.System.{System}
use Rattle.osek_base.specs.Tick.{tick}
use Rattle.osek_base.specs.Trace.{Run, arriving, run}
use Rattle.law_runs.specs.Arrived.{with_arrived}
use Rattle.law_runs.proofs.Arriving.{earlier, present}
use Rattle.law_runs.proofs.Further.{run_tick}
use Rattle.law_kept.specs.Kept.{Kept}
use Rattle.law_kept.specs.KeptTick.{KeptStep, tick_in}
use Rattle.law_kept.proofs.Ticked.{ticks}
use Rattle.law_blockers.specs.Steps.{record_at}
use Rattle.kernel.specs.Machine.{IsAt, IsOfRun, Machine, next_tick, picture, system_of}
use Rattle.kernel.proofs.PastLemmas.{at_past}
use Rattle.seen_ticks.specs.Observed.{executed_in}
use Rattle.seen_ticks.proofs.Telling.{executed_told}
use Rattle.law_seen.proofs.Shown.{runs_show}

module _ (counted : Bool) (m : Machine) (arrived : List ℕ) (of_run : IsOfRun counted m)
    (on : (picture m).over ≡ false) where
  abbrev S : System
  S = system_of m

  abbrev mode : ℕ
  mode = of_run.mode

  abbrev n : ℕ
  n = next_tick m

  -- a run that has come here, and in whose next tick these interrupts arrive
  abbrev arrivals : List Arrival
  arrivals = with_arrived n arrived of_run.arrivals

  arrive : arriving arrivals n ≡ arrived
  arrive = present n arrived of_run.arrivals

  at : IsAt counted S mode arrivals n m
  at =
      at_past S mode of_run.arrivals arrivals counted n m
      (λ t less. sym (earlier n t arrived of_run.arrivals less)) of_run.come.at

  abbrev here : Run
  here = run S mode arrivals n

  going : here.state.over ≡ false
  going = sym (ap (λ (o : Kept). o.over) at.same) ∙ on

  records : m.unwritten ++ (tick_in S arrived (picture m)).events ≡ record_at S mode arrivals n
  records =
      ap (λ u. u ++ (tick_in S arrived (picture m)).events) at.unwritten
      ∙ ap₂ (λ v (o : Kept). here.unwritten ++ (tick_in S v o).events) (sym arrive) at.same
      ∙ ap (λ (v : List TraceEvent). here.unwritten ++ v)
      (sym (ap (λ (t : KeptStep). t.events)
      (ticks S mode arrivals n (arriving arrivals n) of_run.proper))
      ∙ ap (λ t. (tick S (arriving arrivals t) here.state).events)
      (sym (run_tick S mode arrivals n going)))

  pub executed_is : (before behind : List TraceEvent) (e : Option Executed)
      → before ++ idle_or_executed S e ∷ behind
      ≡ m.unwritten ++ (tick_in S arrived (picture m)).events
      → e ≡ executed_in (tick_in S arrived (picture m)).events
  executed_is before behind e h =
      executed_told S before behind e mode arrivals n (h ∙ records)
      ∙ (runs_show S mode arrivals n of_run.proper going).executed
      ∙ ap₂ (λ v (o : Kept). executed_in (tick_in S v o).events) arrive (sym at.same)
