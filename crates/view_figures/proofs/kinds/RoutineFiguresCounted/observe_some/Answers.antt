use Rattle.std.proofs.Common.{map, sym, ◌∙◌}
use Rattle.view_figures.specs.Counting.{routine_figures_of}
use Rattle.seen_ticks.specs.Seen.{numbered}
use Rattle.view_figures.specs.FigureSums.{routine_tick}
use Rattle.view_figures.proofs.QuietLemmas.{quiet_routine}
use Rattle.view_figures.proofs.RowLemmas.{row_stays}
use Rattle.view_figures.proofs.kinds.RoutineFiguresCounted.observe_some.Goals as goal

-- nothing is counted
pub returns-then-is_quiet_routine-clause-counted :
    goal.returns-then-is_quiet_routine-clause-counted
returns-then-is_quiet_routine-clause-counted c =
    let o = c.args.scene.now.observation.now in
    let k = c.args.number in
    let ticks = map (λ p. routine_tick p k) in
    row_stays (routine_figures_of k) o c.args.first c.args.self.now
    (λ t seen same. quiet_routine (numbered t o) k (ticks seen) c.args.self.now
    (sym c.is_quiet_routine.ensures ∙ c.if-is_quiet_routine.true) same) c.args.count
