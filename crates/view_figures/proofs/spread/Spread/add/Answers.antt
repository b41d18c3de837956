use Rattle.view_figures.proofs.StepLemmas.{spread_more}
use Rattle.view_figures.proofs.spread.Spread.add.Goals as goal

-- a tick more, with each callee's result
pub returns : goal.returns
returns c = λ before e.
    let more = spread_more c.args.reached before c.args.self.now e in
    cc
