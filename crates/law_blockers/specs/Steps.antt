-- The steps of a run, by number.
use Rattle.std.specs.Prelude.{ℕ, List}
use Rattle.osek_base.specs.declared.arrivals.Arrival.{Arrival}
use Rattle.osek_base.specs.declared.trace_event.TraceEvent.{TraceEvent}
use Rattle.osek_base.specs.System.{System}
use Rattle.osek_base.specs.Tick.{Step, tick}
use Rattle.osek_base.specs.Trace.{Run, arriving, run, with_earlier}

-- the step that follows, with the records of boot where it is the first
abbrev pub next_step : System → List Arrival → Run → Step
next_step S arrivals r = with_earlier r.unwritten (tick S (arriving arrivals r.state.tick) r.state)

-- the step of a tick, and its records
abbrev pub step_at : System → ℕ → List Arrival → ℕ → Step
step_at S mode arrivals t = next_step S arrivals (run S mode arrivals t)

abbrev pub record_at : System → ℕ → List Arrival → ℕ → List TraceEvent
record_at S mode arrivals t = (step_at S mode arrivals t).events
