use Rattle.std.proofs.Common.{◌≡◌, map, take}
use Rattle.system_gen.specs.Generated.{task_declared}
use Rattle.system_gen.proofs.generation.tasks_of.Given as goal

abbrev pub invariant-loop-place : goal.invariant-loop-place
invariant-loop-place l = l.tasks.items ≡ map (task_declared l.resolver l.programs l.objects) (take l.place-index l.order)
