-- OSEK/VDX OS: interrupt processing, category 2. Routines that start within some ticks of their
-- interrupts.
use Rattle.std.specs.Prelude.{ℕ, ◌≡◌, ◌<◌, ◌≤◌, ◌+◌, ◌-◌, ◌^◌, true, List, [], length, slice_index_or}
use Rattle.osek_base.specs.declared.arrivals.Arrival.{Arrival}
use Rattle.osek_base.specs.System.{System}
use Rattle.view_figures.specs.FigureSums.{RunFigures}
use Rattle.view_figures.specs.RoutineSums.{routine_figures}
use Rattle.law_figures.specs.Labels.{IsWithin}
use Rattle.law_figures.specs.RunFigures.{AreRunFigures}
use Rattle.law_figures.specs.Times.{routine_time}
use Rattle.law_jobs.specs.PendingSince.{IsPendingSince, IsTaken, starts_in}

-- an interrupt that arrives in a tick is pending until its routine starts, up to a last tick
pub record HasStarted (S : System) (mode : ℕ) (arrivals : List Arrival) (k since last : ℕ)
    : Type 0 where
  pub tick : ℕ
  pub pends : IsPendingSince S mode arrivals tick k since
  pub starts : starts_in S mode arrivals tick k ≡ true
  pub within : tick ≤ last

-- in n ticks of a run each interrupt that isn't lost has its routine started within the longest time
-- of the routine, as far as these ticks go
pub record StartWithin (S : System) (mode : ℕ) (arrivals : List Arrival) (n : ℕ) (f : RunFigures)
    : Type 0 where
  pub interrupts : (k m : ℕ) → k < length S.routines → m < 2 ^ 32 - 1
      → IsWithin m (routine_time f.last (slice_index_or f.routines k (routine_figures [])))
      → (since : ℕ) → since + m < n → IsTaken S mode arrivals k since
      → HasStarted S mode arrivals k since (since + m)

abbrev pub InterruptsStartWithin : Type 0
InterruptsStartWithin =
    (S : System) (mode : ℕ) (arrivals : List Arrival) (n : ℕ) (f : RunFigures)
    → AreRunFigures S mode arrivals n f → StartWithin S mode arrivals n f
