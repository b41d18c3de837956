use Rattle.std.proofs.Common.{length, ◌∙◌, ap}
use Rattle.osek_base.specs.System.{System}
use Rattle.kernel.specs.Machine.{picture, system_of}
use Rattle.seen_machines.specs.Told.{task_seen_by}
use Rattle.kernel.proofs.Filled.{goes_on}
use Rattle.seen_machines.proofs.told.Told.see_tasks.Goals as goal

pub loop-number-preserved : goal.loop-number-preserved
loop-number-preserved g c =
    let m = c.args.machine.now in
    goes_on (task_seen_by (system_of m) c.args.self.now (picture m) m.acted) c.loop-number.number
    c.loop-number.places (length (system_of m).tasks) c.task_count-count.result c.new-task.result
    c.loop-number.invariant
    c.loop-number-test.true
    (c.task_count-count.ensures.value ∙ ap (λ (S : System). length S.tasks) c.system.ensures)
    c.new-task.ensures c.see_task.new.place c.see_task.ensures
