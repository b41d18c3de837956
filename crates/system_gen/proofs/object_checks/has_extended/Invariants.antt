use Rattle.std.proofs.Common.{◌≡◌, drop}
use Rattle.std.specs.List.{list_any}
use Rattle.system_gen.specs.Checks.{is_extended_named}
use Rattle.system_gen.proofs.object_checks.has_extended.Given as goal

abbrev pub invariant-loop-task : goal.invariant-loop-task
invariant-loop-task l = list_any (is_extended_named l.name) (drop l.task-index l.tasks) ≡ list_any (is_extended_named l.name) l.tasks
