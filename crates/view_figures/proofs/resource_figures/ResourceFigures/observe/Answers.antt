use Rattle.view_figures.proofs.StepLemmas.{resource_more}
use Rattle.view_figures.proofs.resource_figures.ResourceFigures.observe.Goals as goal

-- a tick more, with each callee's result
pub returns : goal.returns
returns c = λ before e.
    let more = resource_more c.args.tick.now before c.args.self.now e in
    cc
