use Rattle.std.proofs.Common.{sym, ◌∙◌}
use Rattle.view_figures.proofs.QuietLemmas.{no_jobs}
use Rattle.view_figures.proofs.task_counts.TaskCounts.count_jobs.Goals as goal

-- nothing comes to the task
pub returns-then-gets_nothing : goal.returns-then-gets_nothing
returns-then-gets_nothing c = λ before e.
    no_jobs c.args.tick.now before c.args.self.now e (sym c.gets_nothing.ensures ∙ c.if-gets_nothing.true)
