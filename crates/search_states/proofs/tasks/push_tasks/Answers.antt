use Rattle.std.proofs.Common.{ap, arith}
use Rattle.services.specs.Objects.{kept_in}
use Rattle.search_needs.specs.Table.{need_of}
use Rattle.search_keys.specs.Key.{task_key}
use Rattle.search_states.proofs.Steps.{written_as}
use Rattle.search_states.proofs.tasks.push_tasks.Goals as goal

pub loop-number-preserved : goal.loop-number-preserved
loop-number-preserved c =
    written_as _ c.loop-number.out.items _ _ _ c.loop-number.number _ c.in_ok-push_task.ensures
    (ap (task_key (need_of c.args.needs.now) (kept_in c.args.objects.now)) c.new.ensures)
    c.loop-number.invariant (omega arith)
