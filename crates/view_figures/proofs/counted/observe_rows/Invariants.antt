use Rattle.std.proofs.Common.{◌-◌, ◌≤◌}
use Rattle.view_figures.specs.Counting.{Counts}
use Rattle.view_figures.proofs.counted.observe_rows.Given as goal

-- so many of the ticks were seen
abbrev pub invariant-loop-passed : goal.invariant-loop-passed
invariant-loop-passed g l =
    (l.passed ≤ l.count)
    × Counts (g.F.Counted.figures l.scene.levels.now l.number) l.scene.observation.now l.first
    l.passed l.initial.figures l.figures

abbrev pub decreases-loop-passed : goal.decreases-loop-passed
decreases-loop-passed g l = l.count - l.passed
