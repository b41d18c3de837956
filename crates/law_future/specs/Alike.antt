-- OSEK/VDX OS: alarms, counters and alarm management. States between which only absolute time differs, and ticks of them.
use Rattle.std.specs.Prelude.{ℕ, ◌+◌, ◌/◌, ◌%◌, ◌≡◌, ◌<◌, Bool, true, List, [], Option, Some, None, length}
use Rattle.osek_base.specs.declared.task.Counter.{Counter}
use Rattle.osek_base.specs.declared.arrivals.Arrival.{Arrival}
use Rattle.osek_base.specs.declared.trace_event.TraceEvent.{TraceEvent}
use Rattle.osek_base.specs.System.{System, counter}
use Rattle.osek_base.specs.State.{Expiry}
use Rattle.osek_base.specs.Alarm.{count, expiry}
use Rattle.osek_base.specs.Tick.{tick}
use Rattle.osek_base.specs.Trace.{arriving, run}
use Rattle.law_kept.specs.Kept.{Kept, kept}
use Rattle.law_kept.specs.KeptService.{bare}
use Rattle.law_kept.specs.KeptTick.{before_execution_in, tick_in}

-- the value of a counter at a tick, and for how many ticks it has had it
abbrev pub value_at : Counter → ℕ → ℕ
value_at c t = t / c.ticks_per_base % (c.max_allowed_value + 1)

abbrev pub phase_at : Counter → ℕ → ℕ
phase_at c t = t % c.ticks_per_base

-- what is kept but for time: the tick, and when alarms expire
abbrev pub untimed : Kept → Kept
untimed o = record o { tick = 0; alarms = [] }

-- at a count n the one expiry, and at a count m the other: both off, or both on, with one cycle and as many counts left,
-- where e.count - n is as many as f.count - m
abbrev pub HaveSameLeft : ℕ → Option Expiry → ℕ → Option Expiry → Type 0
HaveSameLeft n None m None = Unit {0}
HaveSameLeft n (Some e) m (Some f) = (e.cycle ≡ f.cycle) × (e.count + m ≡ f.count + n)
HaveSameLeft n None m (Some f) = ⊥
HaveSameLeft n (Some e) m None = ⊥

-- between two states only absolute time differs, and the values of counters that aren't among the valued ones
pub record AreAlikeBy (S : System) (valued : ℕ → Bool) (o p : Kept) : Type 0 where
  pub rest : untimed o ≡ untimed p
  pub values : (c : ℕ) → c < length S.counters → valued c ≡ true → value_at (counter S c) o.tick ≡ value_at (counter S c) p.tick
  pub phases : (c : ℕ) → c < length S.counters → phase_at (counter S c) o.tick ≡ phase_at (counter S c) p.tick
  pub alarms : (a : ℕ) → a < length S.alarms
      → HaveSameLeft (count S (bare o) a) (expiry (bare o) a) (count S (bare p) a) (expiry (bare p) a)

-- ---- one tick

-- two ticks record the same, execute in states that are the same but for time, and leave states between which only
-- absolute time differs, and values of counters that aren't among the valued ones
pub record TicksAreAlikeBy (S : System) (valued : ℕ → Bool) (arrived : List ℕ) (o p : Kept) : Type 0 where
  pub events : (tick_in S arrived o).events ≡ (tick_in S arrived p).events
  pub executing : untimed (before_execution_in S arrived o).state ≡ untimed (before_execution_in S arrived p).state
  pub after : AreAlikeBy S valued (tick_in S arrived o).after (tick_in S arrived p).after

-- ---- whole futures

-- what is kept after so many ticks of a run, and what the tick behind them records
abbrev pub kept_after : System → ℕ → List Arrival → ℕ → Kept
kept_after S mode arrivals n = kept S (run S mode arrivals n).state

abbrev pub records_at : System → ℕ → List Arrival → ℕ → List TraceEvent
records_at S mode arrivals n = (tick S (arriving arrivals n) (run S mode arrivals n).state).events
