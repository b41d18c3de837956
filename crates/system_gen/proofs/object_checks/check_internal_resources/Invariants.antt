use Rattle.std.proofs.Common.{◌≡◌, drop}
use Rattle.system_gen.specs.Checks.{resource_fault}
use Rattle.system_gen.proofs.object_checks.check_internal_resources.Given as goal

abbrev pub invariant-loop-task : goal.invariant-loop-task
invariant-loop-task l = resource_fault l.resources (drop l.task-index l.tasks) ≡ resource_fault l.resources l.tasks
