-- The figures of a run.
use Rattle.std.specs.Prelude.{ℕ, true, drop, reverse, List}
use Rattle.osek_base.specs.System.{System}
use Rattle.kernel.specs.Progress.{Progress}
use Rattle.view_figures.specs.FigureSums.{AreFigures, RunFigures}
use Rattle.tracer.specs.WholeRuns.{IsBegun}
use Rattle.view_runs.specs.Seen.{SeesRun}

-- the figures are those of so many ticks of a run but the first `from`, each of which is seen with its number of blockers
pub record AreFiguresOf (r : Progress) (ticks from : ℕ) (f : RunFigures) : Type 0 where
  pub sees : SeesRun true r ticks
  pub counted : AreFigures r.system (reverse (drop from sees.seen)) f

-- the same of a run of the system in the mode of that name, with the arrivals of that list
abbrev pub AreFiguresOfRun : System → List ℕ → List ℕ → ℕ → ℕ → RunFigures → Type 0
AreFiguresOfRun S irqs mode ticks from f = (r : Progress) × IsBegun S irqs mode r × AreFiguresOf r ticks from f
