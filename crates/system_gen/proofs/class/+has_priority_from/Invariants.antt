use Rattle.std.proofs.Common.{◌-◌, length}
use Rattle.system_gen.proofs.class.+has_priority_from.Given as goal

abbrev pub decreases-has_priority_from : goal.decreases-has_priority_from
decreases-has_priority_from l = length l.system.now.tasks - l.number
