use Rattle.view_figures.proofs.RowLemmas.{AreCountedBelow}
use Rattle.view_figures.proofs.counted.observe_list.Given as goal

-- the first ones have seen the ticks, the others haven't
abbrev pub invariant-loop-number : goal.invariant-loop-number
invariant-loop-number g l =
    AreCountedBelow l.number (g.F.Counted.figures l.scene.levels.now) l.scene.observation.now
    l.first l.count l.initial.figures l.figures
