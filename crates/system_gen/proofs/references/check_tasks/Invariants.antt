use Rattle.std.proofs.Common.{◌≡◌, drop}
use Rattle.system_gen.specs.References.{first_of, task_reference}
use Rattle.system_gen.proofs.references.check_tasks.Given as goal

abbrev pub invariant-loop-task : goal.invariant-loop-task
invariant-loop-task l = first_of (task_reference l.declared) (drop l.task-index l.tasks) ≡ first_of (task_reference l.declared) l.tasks
