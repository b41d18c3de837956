use Rattle.std.proofs.Common.{◌-◌, length}
use Rattle.partition_check.proofs.programs.+first_in_tasks.Given as goal

abbrev pub decreases-first_in_tasks : goal.decreases-first_in_tasks
decreases-first_in_tasks l = length l.system.now.tasks - l.number
