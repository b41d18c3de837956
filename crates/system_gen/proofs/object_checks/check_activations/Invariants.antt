use Rattle.std.proofs.Common.{◌≡◌, drop}
use Rattle.system_gen.specs.Checks.{activation_fault}
use Rattle.system_gen.proofs.object_checks.check_activations.Given as goal

abbrev pub invariant-loop-task : goal.invariant-loop-task
invariant-loop-task l = activation_fault (drop l.task-index l.tasks) ≡ activation_fault l.tasks
