use Rattle.std.proofs.Common.{map, sym, ◌∙◌, ap, ◌∷◌}
use Rattle.view_figures.specs.FigureSums.{task_figures, task_tick}
use Rattle.view_figures.specs.declared.task_tick.TaskTick.{TaskTick}
use Rattle.view_figures.proofs.QuietLemmas.{own_tick}
use Rattle.view_figures.proofs.kinds.observe_one.Goals as goal

-- it executes
pub returns-then-executes : goal.returns-then-executes
returns-then-executes c = λ before e.
    let levels = c.args.scene.now.levels.now in
    let o = c.args.scene.now.observation.now in
    let k = c.args.number in
    let ticks = map (λ p. task_tick levels p k) before in
    c.observe_executing.ensures ticks e
    ∙ ap (λ (t : TaskTick). task_figures (t ∷ ticks)) (sym (own_tick levels o c.args.tick k (sym c.executes.ensures ∙ c.if-executes.true)))
