use Rattle.view_figures.proofs.StepLemmas.{alarm_more}
use Rattle.view_figures.proofs.alarm_figures.AlarmFigures.observe.Goals as goal

-- a tick more, with each callee's result
pub returns : goal.returns
returns c = λ before e.
    let more = alarm_more c.args.tick.now before c.args.self.now e in
    cc
