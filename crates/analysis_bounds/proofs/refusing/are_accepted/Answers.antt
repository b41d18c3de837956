use Rattle.analysis_bounds.specs.Refusing.{IsKnown}
use Rattle.analysis_bounds.proofs.RefusingLemmas.{also_next}
use Rattle.analysis_bounds.proofs.refusing.are_accepted.Goals as goal

pub loop-task-preserved : goal.loop-task-preserved
loop-task-preserved c =
    also_next
    (IsKnown c.args.system.now c.args.mode c.args.rules.now c.args.mosts.now
    c.args.peaks.now)
    c.loop-task.task c.loop-task.invariant (c.is_known.ensures c.if-not-is_known.false)
