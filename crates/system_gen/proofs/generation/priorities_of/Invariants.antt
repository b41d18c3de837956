use Rattle.std.proofs.Common.{◌≡◌, map, take}
use Rattle.system_gen.proofs.generation.priorities_of.Given as goal

abbrev pub invariant-loop-task : goal.invariant-loop-task
invariant-loop-task l = l.priorities.items ≡ map (λ t. t.priority) (take l.task-index l.tasks)
