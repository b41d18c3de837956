use Rattle.std.proofs.Common.{◌≡◌, map, take}
use Rattle.system_gen.specs.ObjectNames.{task_name}
use Rattle.system_gen.proofs.object_names.task_names_of.Given as goal

abbrev pub invariant-loop-place : goal.invariant-loop-place
invariant-loop-place l = l.names.items ≡ map (task_name l.tasks) (take l.place-index l.order)
