-- A run that is watched.
use Rattle.std.specs.Prelude.{ℕ, ◌≡◌, List}
use Rattle.osek_base.specs.declared.arrivals.Arrival.{Arrival}
use Rattle.osek_base.specs.System.{System}
use Rattle.osek_base.specs.Trace.{run}
use Rattle.kernel.specs.Progress.{Progress}
use Rattle.seen_ticks.specs.declared.observation.Observation.{Observation}
use Rattle.view_figures.specs.FigureSums.{levels_of}
use Rattle.law_figures.specs.RunFigures.{AreTicksOf}
use Rattle.law_figures.specs.Telling.{TellBlockers}
use Rattle.search_witnesses.specs.declared.watched.Watched.{Watched}
use Rattle.search_witnesses.specs.Watched.{AreWatched}

-- figures of the things of a number over the first n ticks of a run
pub record WatchesTicks (S : System) (mode : ℕ) (arrivals : List Arrival) (n k : ℕ)
    (w : Watched) : Type 0 where
  pub seen : List Observation
  pub ticks : AreTicksOf S mode arrivals n seen
  pub told : TellBlockers S mode arrivals seen
  pub are : AreWatched (levels_of S) k seen w

-- and whether the run is over behind them
pub record Watches (S : System) (mode : ℕ) (arrivals : List Arrival) (n k : ℕ)
    (w : Watched) : Type 0 where
  pub figures : WatchesTicks S mode arrivals n k w
  pub over : w.is_over ≡ (run S mode arrivals n).state.over

-- a run is n ticks behind another one, and the things of a number were watched up to there
pub record IsWatched (first now : Progress) (n k : ℕ) (w : Watched) : Type 0 where
  pub same : now ≡ record first { ticks = n }
  pub watches : WatchesTicks first.system first.mode first.arrivals n k w
