use Rattle.view_figures.proofs.StepLemmas.{routine_more}
use Rattle.view_figures.proofs.routine_figures.RoutineFigures.observe.Goals as goal

-- a tick more, with each callee's result
pub returns : goal.returns
returns c = λ before e.
    let more = routine_more c.args.tick.now before c.args.self.now e in
    cc
