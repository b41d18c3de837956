use Rattle.std.proofs.Common.{◌-◌, length}
use Rattle.partition_check.proofs.tasks.+first_not_full.Given as goal

abbrev pub decreases-first_not_full : goal.decreases-first_not_full
decreases-first_not_full l = length l.system.now.tasks - l.number
