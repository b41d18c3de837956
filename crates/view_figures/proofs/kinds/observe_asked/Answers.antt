use Rattle.std.proofs.Common.{map, sym, ◌∙◌}
use Rattle.view_figures.specs.Counting.{routine_figures_of}
use Rattle.seen_ticks.specs.Seen.{numbered}
use Rattle.view_figures.specs.FigureSums.{routine_tick}
use Rattle.view_figures.proofs.PendLemmas.{routine_go}
use Rattle.view_figures.proofs.RowLemmas.{row_settles}
use Rattle.view_figures.proofs.kinds.observe_asked.Goals as goal

-- what the first tick leaves stays
pub returns-then-is_calm_routine-clause-counted : goal.returns-then-is_calm_routine-clause-counted
returns-then-is_calm_routine-clause-counted c = λ before e.
    let o = c.args.observation.now in
    let k = c.args.number in
    let ticks = map (λ p. routine_tick p k) in
    let tick = routine_tick (numbered c.args.first o) k in
    let is = rw c.routine_tick-tick.ensures at
    (sym c.is_calm_routine.ensures ∙ c.if-is_calm_routine.true) in
    let first = rw c.routine_tick-tick.ensures at (c.observe.ensures (ticks before) e) in
    let new = c.observe.new.self in
    row_settles (routine_figures_of k) o c.args.first c.args.count before new c.requires first
    (λ t seen same. routine_go tick t (ticks before) (ticks seen) new is first same)
