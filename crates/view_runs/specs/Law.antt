-- Figures of whole runs.
use Rattle.std.specs.Prelude.{ℕ, ◌≡◌, ◌≤◌, length, min}
use Rattle.osek_base.specs.declared.limits.TheConstants.{MAX_TICKS}
use Rattle.osek_base.specs.Proper.{IsProper}
use Rattle.osek_base.specs.Trace.{run}
use Rattle.kernel.specs.Progress.{Progress}
use Rattle.view_figures.specs.FigureSums.{RunFigures}
use Rattle.law_figures.specs.RunFigures.{AreRunFigures}
use Rattle.law_figures.specs.Telling.{TellBlockers}
use Rattle.view_runs.specs.Counted.{AreFiguresOf}

-- figures are those of a run, as the laws of figures have them: of as many ticks as it has where so
-- many are asked for, at most 1,000,000, each seen with its number of blockers
pub record AreOfAllTicks (r : Progress) (ticks : ℕ) (f : RunFigures) : Type 0 where
  pub count : ℕ
  pub all : count ≡ length (run r.system r.mode r.arrivals (min ticks MAX_TICKS)).steps
  pub few : count ≤ ticks
  pub are : AreRunFigures r.system r.mode r.arrivals count f
  pub told : TellBlockers r.system r.mode r.arrivals are.seen

-- so are those that are counted from tick 0 on, of a run of a proper system
abbrev pub CountedAreRunFigures : Type 0
CountedAreRunFigures =
    (r : Progress) (ticks : ℕ) (f : RunFigures) → IsProper r.system → AreFiguresOf r ticks 0 f
    → AreOfAllTicks r ticks f
