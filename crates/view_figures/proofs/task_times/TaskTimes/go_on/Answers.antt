use Rattle.std.proofs.Common.{ap, sym, ◌∙◌}
use Rattle.view_figures.specs.FigureSums.{lower_executes}
use Rattle.view_figures.specs.Calm.{went_on}
use Rattle.view_figures.proofs.QuietLemmas.{executes_running}
use Rattle.view_figures.proofs.task_times.TaskTimes.go_on.Goals as goal

-- it is RUNNING
pub returns-then-executes : goal.returns-then-executes
returns-then-executes c =
    let o = c.args.scene.now.observation.now in
    let k = c.args.number in
    let own = sym c.executes.ensures ∙ c.if-executes.true in
    c.run.ensures
    ∙ ap (λ s. went_on s (lower_executes c.args.scene.now.levels.now o.executor k) c.args.more c.args.self.now)
    (sym (executes_running o c.args.state k c.requires.untold own))
