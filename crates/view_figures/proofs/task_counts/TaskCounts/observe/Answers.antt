use Rattle.std.proofs.Common.{◌∙◌}
use Rattle.view_figures.proofs.StepLemmas.{counts_noted}
use Rattle.view_figures.proofs.task_counts.TaskCounts.observe.Goals as goal

-- a tick more, with each callee's result
pub returns : goal.returns
returns c = λ before e.
    counts_noted c.args.tick.now before c.args.self.now c.count_jobs.new.self c.from-self.result
    c.add_where.new.count c.raise_blockers.new.most e (c.count_jobs.ensures before e)
    (c.from-self.ensures ∙ c.left_jobs.ensures) c.add_where.ensures c.raise_blockers.ensures
