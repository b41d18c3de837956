use Rattle.std.proofs.Common.{◌-◌, length}
use Rattle.partition_check.proofs.programs.+first_in_routines.Given as goal

abbrev pub decreases-first_in_routines : goal.decreases-first_in_routines
decreases-first_in_routines l = length l.system.now.routines - l.number
