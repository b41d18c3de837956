-- One word more in the set of its kind.
use Rattle.task_asm.proofs.OpenLemmas.{task_added, routine_added}
use Rattle.task_asm.proofs.text_faults.ProgramNames.add.Goals as goal

pub returns-in_ok-insert-in-Task : goal.returns-in_ok-insert-in-Task
returns-in_ok-insert-in-Task c = λ k w.
    rw c.in-Task.is (task_added c.args.self.now c.insert.new.self c.args.name.now c.in_ok-insert-in-Task.ensures.updates k w)

pub returns-in_ok-insert-in-Routine : goal.returns-in_ok-insert-in-Routine
returns-in_ok-insert-in-Routine c = λ k w.
    rw c.in-Routine.is (routine_added c.args.self.now c.insert-in-Routine.new.self c.args.name.now c.in_ok-insert-in-Routine.ensures.updates k w)
