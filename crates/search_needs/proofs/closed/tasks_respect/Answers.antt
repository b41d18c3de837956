use Rattle.search_needs.specs.Entries.{TaskRespects}
use Rattle.search_needs.proofs.EntryLemmas.{below_more}
use Rattle.search_needs.proofs.closed.tasks_respect.Goals as goal

pub loop-number-preserved : goal.loop-number-preserved
loop-number-preserved c =
    below_more (TaskRespects c.args.system.now c.args.needs.now) c.loop-number.number c.loop-number.invariant
    (c.task_respects.ensures c.if-not-task_respects.false)
