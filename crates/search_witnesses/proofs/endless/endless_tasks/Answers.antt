use Rattle.std.proofs.Common.{subst, sym}
use Rattle.std.specs.List.{All}
use Rattle.std.proofs.lemmas.List.Elements.{All-push}
use Rattle.law_bounds.specs.Unending.{NeedNotEnd}
use Rattle.search_witnesses.proofs.endless.endless_tasks.Goals as goal
use Rattle.search_witnesses.proofs.endless.endless_tasks.Goals.{then-branch+in_ok-push, else-branch}

pub loop-task-preserved : goal.loop-task-preserved
loop-task-preserved c =
    let holds = NeedNotEnd c.args.system.now c.args.mode c.args.rules.now in
    elim c.if-branch.branch [
      | then-branch+in_ok-push w ↦
          rw w.tasks-is
          (subst (All holds) (sym w.in_ok-push.ensures.items)
          (All-push holds c.loop-task.tasks.items c.loop-task.task c.loop-task.invariant
          (c.in_ok-is_endless.ensures w.if-branch.true)))
      | else-branch w ↦ rw w.tasks-is c.loop-task.invariant
    ]
