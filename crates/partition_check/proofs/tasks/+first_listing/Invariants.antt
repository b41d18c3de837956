use Rattle.std.proofs.Common.{◌-◌, length}
use Rattle.partition_check.proofs.tasks.+first_listing.Given as goal

abbrev pub decreases-first_listing : goal.decreases-first_listing
decreases-first_listing l = length l.system.now.tasks - l.number
