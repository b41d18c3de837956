use Rattle.std.proofs.Common.{◌-◌, length}
use Rattle.system_gen.proofs.class.+is_basic_from.Given as goal

abbrev pub decreases-is_basic_from : goal.decreases-is_basic_from
decreases-is_basic_from l = length l.system.now.tasks - l.number
