use Rattle.std.proofs.Common.{◌-◌, length}
use Rattle.osek_base.specs.System.{program}
use Rattle.partition_check.proofs.programs.+first_in_program.Given as goal

abbrev pub decreases-first_in_program : goal.decreases-first_in_program
decreases-first_in_program l = length (program l.system.now l.owner.now) - l.place
