use Rattle.std.proofs.Common.{◌≤◌, ◌≡◌, true, length, subst}
use Rattle.analysis_bounds.specs.Checks.{task_pays}
use Rattle.analysis_bounds.proofs.NumberLemmas.{below_more, up_to}
use Rattle.analysis_bounds.proofs.SumLemmas.{all_below}
use Rattle.analysis_bounds.proofs.prices.events_pay.Goals as goal

pub loop-task-preserved : goal.loop-task-preserved
loop-task-preserved c =
    below_more (λ t. task_pays c.args.level.now t ≡ true) c.loop-task.task c.loop-task.invariant
    (c.task_pays_at.ensures c.if-not-task_pays_at.false)

pub returns : goal.returns
returns c h =
    let test = task_pays c.args.level.now in
    all_below test (length c.args.system.now.tasks)
    (up_to (λ t. test t ≡ true) c.loop-task.task (length c.args.system.now.tasks)
    c.loop-task.invariant
    (subst (λ k. k ≤ c.loop-task.task) c.task_count-task-end.ensures.value c.loop-task-test.false))
