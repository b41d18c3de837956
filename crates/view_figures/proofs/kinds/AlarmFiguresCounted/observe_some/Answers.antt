use Rattle.std.proofs.Common.{map, sym, ◌∙◌}
use Rattle.view_figures.specs.Counting.{alarm_figures_of}
use Rattle.seen_ticks.specs.Seen.{numbered}
use Rattle.view_figures.specs.FigureSums.{alarm_tick}
use Rattle.view_figures.proofs.QuietLemmas.{quiet_alarm}
use Rattle.view_figures.proofs.RowLemmas.{row_stays}
use Rattle.view_figures.proofs.kinds.AlarmFiguresCounted.observe_some.Goals as goal

-- nothing is counted
pub returns-then-is_quiet_alarm-clause-counted : goal.returns-then-is_quiet_alarm-clause-counted
returns-then-is_quiet_alarm-clause-counted c =
    let o = c.args.scene.now.observation.now in
    let k = c.args.number in
    let ticks = map (λ p. alarm_tick p k) in
    row_stays (alarm_figures_of k) o c.args.first c.args.self.now
    (λ t seen same. quiet_alarm (numbered t o) k (ticks seen) c.args.self.now
    (sym c.is_quiet_alarm.ensures ∙ c.if-is_quiet_alarm.true) same) c.args.count
