-- A tick of a run that isn't over: its states, what it executes, and by whom.
use Rattle.std.proofs.Common.{◌≡◌, ℕ, ◌+◌, false, List, sym, ◌∙◌, ap}
use Rattle.osek_base.specs.declared.arrivals.Arrival.{Arrival}
use Rattle.osek_base.specs.declared.ids.Owner.{Owner}
use Rattle.osek_base.specs.Proper.{IsProper}
use Rattle.osek_base.specs.State.{State}
use Rattle.osek_base.specs.System.{System}
use Rattle.osek_base.specs.Tick.{Step, tick}
use Rattle.osek_base.specs.Trace.{Run, arriving, run}
use Rattle.law_runs.proofs.Further.{run_more, run_tick}
use Rattle.law_kept.specs.KeptTick.{KeptStep}
use Rattle.law_kept.proofs.Ticked.{ticks}
use Rattle.law_future.specs.Alike.{records_at}
use Rattle.law_seen.proofs.Shown.{runs_show}
use Rattle.seen_ticks.specs.Observed.{executed_in, is_by, tick_at}
use Rattle.law_upper.specs.StatesAbove.{executes, executing_at}
use Rattle.law_upper.proofs.Executing.{TickTells, executed_of_one, tick_tells_one}

module _ (S : System) (proper : IsProper S) (mode : ℕ) (arrivals : List Arrival) (n : ℕ)
    (going : (run S mode arrivals n).state.over ≡ false) where
  abbrev here : State
  here = (run S mode arrivals n).state

  abbrev step : Step
  step = tick S (arriving arrivals n) here

  pub at_is : (tick_at S mode arrivals n).at ≡ executing_at S mode arrivals n
  at_is =
      ap (λ t. (tick S (arriving arrivals t) here).executing) (run_tick S mode arrivals n going)

  pub after_is : (tick_at S mode arrivals n).after ≡ (run S mode arrivals (n + 1)).state
  after_is = sym (ap (λ (r : Run). r.state) (run_more S mode arrivals n going))

  pub executed_is : (tick_at S mode arrivals n).executed
      ≡ executed_in (records_at S mode arrivals n)
  executed_is =
      (runs_show S mode arrivals n proper going).executed
      ∙ sym (ap (λ (u : KeptStep). executed_in u.events)
      (ticks S mode arrivals n (arriving arrivals n) proper))

  tells : TickTells S (arriving arrivals n) here
  tells = tick_tells_one S (arriving arrivals n) here

  pub by_is : (who : Owner) → is_by who (tick_at S mode arrivals n).executed
      ≡ executes (executing_at S mode arrivals n) who
  by_is who =
      ap (is_by who) executed_is
      ∙ ap (is_by who) (executed_of_one S step.events tells.one)
      ∙ tells.caller who
