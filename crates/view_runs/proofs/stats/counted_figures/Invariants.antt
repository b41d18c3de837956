use Rattle.std.proofs.Common.{◌-◌, drop, true}
use Rattle.std.specs.Prelude.{reverse}
use Rattle.view_figures.specs.FigureSums.{AreFigures}
use Rattle.view_runs.proofs.TickLemmas.{Made}
use Rattle.view_runs.proofs.stats.counted_figures.Given as goal

abbrev pub invariant-ticks : goal.invariant-ticks
invariant-ticks g l =
    Made true l.input.ticks l.initial.run l.run (λ seen. AreFigures l.system (reverse (drop l.from seen)) l.figures)

abbrev pub decreases-ticks : goal.decreases-ticks
decreases-ticks g l = l.input.ticks - l.run.ticks
