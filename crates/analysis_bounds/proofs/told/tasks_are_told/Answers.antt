use Rattle.analysis_bounds.specs.Told.{JobsAreTold, TimesAreTold}
use Rattle.analysis_bounds.proofs.NumberLemmas.{below_more}
use Rattle.analysis_bounds.proofs.told.tasks_are_told.Goals as goal

pub loop-task-preserved : goal.loop-task-preserved
loop-task-preserved c =
    below_more
    (λ k. TimesAreTold c.args.system.now c.args.peaks.now c.args.mosts.now k
    × JobsAreTold c.args.system.now c.args.peaks.now k)
    c.loop-task.task c.loop-task.invariant (
      c.times_are_told.ensures c.if-not-times_are_told.false,
      c.jobs_are_told.ensures c.if-not-jobs_are_told.false,
    )
