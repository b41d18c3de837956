use Rattle.view_figures.specs.declared.task_figures.TaskFigures.{TaskFigures}
use Rattle.std.proofs.Common.{ap}
use Rattle.view_figures.specs.FigureSums.{task_figures}
use Rattle.view_figures.proofs.task_figures.TaskFigures.observe.Goals as goal

pub returns : goal.returns
unfolding task_figures
returns c = λ before e.
    let counts = c.observe.ensures before (ap (λ (f : TaskFigures). f.counts) e) in
    let times = c.observe-2.ensures before (ap (λ (f : TaskFigures). f.times) e) in
    let responses = c.observe-3.ensures before (ap (λ (f : TaskFigures). f.responses) e) in
    cc
